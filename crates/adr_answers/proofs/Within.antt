-- Each of some answers that a room is enough for.
use Rattle.std.proofs.Common.{◌≡◌, ◌<◌, ℕ, List, length, get_or, sym, subst}
use Rattle.std.specs.Prelude.{All}
use Rattle.std.proofs.lemmas.List.Elements.{All-get_or}
use Rattle.adr_call.specs.declared.answer.Answer.{Answer}
use Rattle.adr_answers.specs.Room.{IsWithin}

pub within_at : (room : ℕ) (answers : List Answer) (i : ℕ) (a : Answer) → i < length answers → a ≡ get_or answers i a → All (IsWithin room) answers → IsWithin room a
within_at room answers i a inside is all = subst (IsWithin room) (sym is) (All-get_or (IsWithin room) answers i a inside all)
