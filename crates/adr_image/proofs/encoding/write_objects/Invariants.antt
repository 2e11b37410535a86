use Rattle.std.proofs.Common.{◌≡◌, ◌≤◌, ◌-◌, List, drop, length}
use Rattle.std.specs.Prelude.{All}
use Rattle.adr_update.specs.Referents.{referents}
use Rattle.adr_image.specs.Image.{Rows, HeldLink}
use Rattle.adr_image.specs.Stored.{AreTidy, rows_of}
use Rattle.adr_image.specs.Written.{HaveFewRows, IsShortSaid}
use Rattle.adr_image.proofs.Writing.{IsUnderWay}
use Rattle.adr_image.proofs.encoding.write_objects.Given as goal

-- what is written and what is left is all that there was
abbrev pub invariant-objects : goal.invariant-objects
invariant-objects l = record {
  within : l.done ≤ length l.rows;
  few : HaveFewRows (referents (drop l.done l.rows));
  short : All (λ row. IsShortSaid row.now.update.said) (drop l.done l.rows);
  way : (os : List Rows) (ls : List HeldLink) → AreTidy os → referents l.rows ≡ rows_of (os, ls) → IsUnderWay os ls l.fn.writer l.writer (referents (drop l.done l.rows));
}

abbrev pub decreases-objects : goal.decreases-objects
decreases-objects l = length l.rows - l.done
