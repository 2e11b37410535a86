-- The lines of a node's commands that no answer of a schedule has.
use Rattle.std.specs.Prelude.{ℕ, List, ◌++◌, codes}
use Rattle.std.specs.Fmt.{decimal}
use Rattle.adr_call.specs.declared.outcome.Outcome.{Outcome}
use Rattle.adr_answers.specs.Line.{result_text}

-- the bytes of a disk are no log: the place of their first fault
unfoldable pub damaged_line : ℕ → List ℕ
damaged_line place = codes "damaged " ++ decimal place ++ codes "\n"

-- a refusal that has a number, as an answer tells it behind its colon
unfoldable pub refusal_line : Outcome → List ℕ
refusal_line outcome = result_text outcome ++ codes "\n"

-- a disk on which a controller is to be made has bytes
unfoldable pub not_empty_line : List ℕ
not_empty_line = codes "refused NotEmpty\n"

-- the bytes of an image are refused: the place of their first fault, or a version of which no form is known
unfoldable pub malformed_line : ℕ → List ℕ
malformed_line place = codes "refused Malformed place=" ++ decimal place ++ codes "\n"

unfoldable pub version_line : ℕ → List ℕ
version_line found = codes "refused WrongVersion found=" ++ decimal found ++ codes "\n"
