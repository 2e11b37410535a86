use Rattle.std.proofs.Common.{◌≡◌, fold, map, take}
use Rattle.adr_model.specs.Change.{put}
use Rattle.adr_shelves.specs.Shelves.{held_at}
use Rattle.adr_overlay.proofs.overlay.Overlay.put_each.Given as goal

-- the rows so far are put
abbrev pub invariant-loop-row : goal.invariant-loop-row
invariant-loop-row l = l.self ≡ fold put l.initial.self (map (held_at l.local) (take l.row-index l.rows))
