use Rattle.std.proofs.Common.{◌≡◌, ◌+◌, drop, not}
use Rattle.std.specs.List.{position_or_len}
use Rattle.adr_token.specs.Words.{is_space}
use Rattle.adr_token.proofs.words.spaces.Given as goal

-- the bytes so far are spaces
abbrev pub invariant-loop-index : goal.invariant-loop-index
invariant-loop-index l = position_or_len (λ b. not (is_space b)) l.bytes ≡ l.index + position_or_len (λ b. not (is_space b)) (drop l.index l.bytes)
