use Rattle.std.proofs.Common.{◌≡◌, ◌++◌, filter, filter_map}
use Rattle.std.specs.Prelude.{is_some}
use Rattle.adr_model.specs.Change.{killed_by}
use Rattle.adr_update.specs.Referents.{referents}
use Rattle.adr_table.specs.Slots.{rows_seen}
use Rattle.adr_table.proofs.Listed.{death_row}
use Rattle.adr_table.proofs.deaths.deaths.Given as goal

-- the rows so far and those of the objects that are left are all
abbrev pub invariant-loop-object : goal.invariant-loop-object
invariant-loop-object l =
    referents l.rows.items ++ filter_map (death_row (rows_seen l.slots)) l.object-iterator ≡ filter (λ h. is_some (killed_by h.update.key)) (rows_seen l.slots)
