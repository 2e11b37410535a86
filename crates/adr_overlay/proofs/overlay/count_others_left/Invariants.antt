use Rattle.std.proofs.Common.{◌≡◌, ◌≤◌, take, filter, length, not}
use Rattle.adr_update.specs.Referents.{referents}
use Rattle.adr_update.specs.Sought.{is_link_from}
use Rattle.adr_table.specs.Table.{rows_in}
use Rattle.adr_overlay.specs.Overlay.{is_left}
use Rattle.adr_overlay.proofs.overlay.count_others_left.Given as goal

-- the others so far that are left are counted
abbrev pub invariant-loop-link : goal.invariant-loop-link
invariant-loop-link l = record {
  counted : l.count ≡ length (filter (λ h. is_left (rows_in l.over) h.update.key) (filter (λ h. not (is_link_from l.object h.update.key)) (referents (take l.link-index l.links))));
  few : l.count ≤ l.link-index;
}
