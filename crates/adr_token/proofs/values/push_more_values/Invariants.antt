use Rattle.std.proofs.Common.{◌≡◌, ◌++◌, take, flat_map}
use Rattle.std.specs.Prelude.{codes}
use Rattle.adr_token.specs.Spelling.{value_token}
use Rattle.adr_token.proofs.values.push_more_values.Given as goal

-- the values so far are added
abbrev pub invariant-loop-value : goal.invariant-loop-value
invariant-loop-value l = l.out.items ≡ l.fn.out.items ++ flat_map (λ v. codes "," ++ value_token v) (take l.value-index l.values)
