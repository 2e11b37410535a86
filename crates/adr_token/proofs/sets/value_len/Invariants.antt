use Rattle.std.proofs.Common.{◌≡◌, ◌+◌, drop}
use Rattle.std.specs.List.{position_or_len}
use Rattle.adr_token.specs.Values.{ends_value}
use Rattle.adr_token.proofs.sets.value_len.Given as goal

-- none of the bytes so far ends a value
abbrev pub invariant-loop-index : goal.invariant-loop-index
invariant-loop-index l = position_or_len ends_value l.bytes ≡ l.index + position_or_len ends_value (drop l.index l.bytes)
