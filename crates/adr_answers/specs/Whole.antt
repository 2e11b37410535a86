-- What want of memory leaves of the lines of answers.
use Rattle.std.specs.Prelude.{ℕ, ◌<◌, List, Option, flat_map, length, take}
use Rattle.adr_call.specs.declared.answer.Answer.{Answer}
use Rattle.adr_io.specs.Told.{Adds}
use Rattle.adr_answers.specs.Line.{line}

-- of the first so many answers the lines are written, and of the others nothing
abbrev pub AddsFirstLines : Option (List ℕ) → Option (List ℕ) → List Answer → Type 0
AddsFirstLines before after answers = (n : ℕ) × (n < length answers) × Adds before after (flat_map line (take n answers))
