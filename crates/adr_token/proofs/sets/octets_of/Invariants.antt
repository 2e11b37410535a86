use Rattle.std.proofs.Common.{◌≡◌, ◌++◌, length}
use Rattle.std.specs.Option.{option_map}
use Rattle.adr_token.specs.Values.{octets_of}
use Rattle.adr_token.proofs.sets.octets_of.Given as goal

-- the octets so far, and those that the other figures make, are the octets
abbrev pub invariant-loop-first : goal.invariant-loop-first
invariant-loop-first l = option_map (λ more. l.octets.items ++ more) (octets_of l.rest) ≡ octets_of l.figures

-- the figures that are left
abbrev pub decreases-loop-first : goal.decreases-loop-first
decreases-loop-first l = length l.rest
