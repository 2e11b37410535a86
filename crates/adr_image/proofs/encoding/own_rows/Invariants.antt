use Rattle.std.proofs.Common.{◌≡◌, ◌+◌, drop}
use Rattle.adr_update.specs.Referents.{referents}
use Rattle.adr_image.specs.Written.{own_rows}
use Rattle.adr_image.proofs.encoding.own_rows.Given as goal

abbrev pub invariant-loop-row : goal.invariant-loop-row
invariant-loop-row l = record { counted : l.own ≡ l.row-index; left : own_rows l.object (referents l.rows) ≡ l.row-index + own_rows l.object (referents (drop l.row-index l.rows)) }
