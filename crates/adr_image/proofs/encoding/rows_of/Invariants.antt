use Rattle.std.proofs.Common.{◌≡◌, take}
use Rattle.adr_update.specs.Referents.{referents}
use Rattle.adr_image.proofs.encoding.rows_of.Given as goal

-- the rows so far are referred to
abbrev pub invariant-loop-row : goal.invariant-loop-row
invariant-loop-row l = referents l.references.items ≡ take l.row-index l.rows
