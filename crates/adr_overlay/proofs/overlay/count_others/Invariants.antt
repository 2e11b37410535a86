use Rattle.std.proofs.Common.{◌≡◌, ◌≤◌, take, filter, length, not}
use Rattle.adr_update.specs.Referents.{referents}
use Rattle.adr_update.specs.Sought.{is_link_from}
use Rattle.adr_overlay.proofs.overlay.count_others.Given as goal

-- the others so far are counted
abbrev pub invariant-loop-link : goal.invariant-loop-link
invariant-loop-link l = record { counted : l.count ≡ length (filter (λ h. not (is_link_from l.object h.update.key)) (referents (take l.link-index l.links))); few : l.count ≤ l.link-index }
