use Rattle.std.proofs.Common.{◌≡◌, map, take}
use Rattle.adr_search.specs.Fields.{lower_case}
use Rattle.adr_search.proofs.fields.lowered.Given as goal

-- the bytes so far are in lower case
abbrev pub invariant-loop-byte : goal.invariant-loop-byte
invariant-loop-byte l = l.low.items ≡ map lower_case (take l.byte-index l.name)
