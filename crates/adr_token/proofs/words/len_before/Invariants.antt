use Rattle.std.proofs.Common.{◌≡◌, ◌+◌, drop}
use Rattle.std.specs.Prelude.{◌==◌}
use Rattle.std.specs.List.{position_or_len}
use Rattle.adr_token.proofs.words.len_before.Given as goal

-- none of the bytes so far is the one that stops
abbrev pub invariant-loop-index : goal.invariant-loop-index
invariant-loop-index l = position_or_len (λ b. b == l.stop) l.bytes ≡ l.index + position_or_len (λ b. b == l.stop) (drop l.index l.bytes)
