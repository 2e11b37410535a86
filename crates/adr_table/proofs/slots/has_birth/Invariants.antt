use Rattle.std.proofs.Common.{◌≡◌, false, is_some, take}
use Rattle.std.specs.List.{list_any}
use Rattle.adr_model.specs.Live.{born}
use Rattle.adr_table.proofs.slots.has_birth.Given as goal

-- none of the rows so far is a class row
abbrev pub invariant-loop-row : goal.invariant-loop-row
invariant-loop-row l = list_any (λ u. is_some (born u.key)) (take l.row-index l.rows) ≡ false
