-- The words of a line that say how a stop leaves what isn't synced.
use Rattle.std.specs.Prelude.{ℕ, List, [], ◌∷◌, Option, codes}
use Rattle.std.specs.List.{find}
use Rattle.std.specs.Str.{bytes_eq}
use Rattle.adr_disk.specs.declared.memory.Crash.{Crash}
use Rattle.adr_disk.specs.declared.memory.Crash.TheVariants.{Kept, Lost, Torn}

abbrev pub crash_word : Crash → List ℕ
crash_word Kept = codes "kept"
crash_word Lost = codes "lost"
crash_word Torn = codes "torn"

abbrev pub crashes : List Crash
crashes = Kept ∷ Lost ∷ Torn ∷ []

-- what a word says
abbrev pub crash_of : List ℕ → Option Crash
crash_of word = find (λ how. bytes_eq word (crash_word how)) crashes
