use Rattle.std.proofs.Common.{◌≡◌, ◌++◌, drop, flat_map}
use Rattle.adr_model.specs.Meta.{told}
use Rattle.adr_update.specs.Referents.{referents}
use Rattle.adr_view.proofs.meta.push_rows.Given as goal

-- those so far are told, and the others are still to come
abbrev pub invariant-loop-row : goal.invariant-loop-row
invariant-loop-row l =
    l.lines.items ++ flat_map (told l.rows) (referents (drop l.row-index l.held)) ≡ l.fn.lines.items ++ flat_map (told l.rows) (referents l.held)
