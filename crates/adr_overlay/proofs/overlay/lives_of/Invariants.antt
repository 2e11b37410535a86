use Rattle.std.proofs.Common.{◌≡◌, true, take}
use Rattle.std.specs.List.{list_all}
use Rattle.adr_shelves.specs.Shelves.{is_life_of}
use Rattle.adr_overlay.proofs.overlay.lives_of.Given as goal

-- those so far are of the object
abbrev pub invariant-loop-place : goal.invariant-loop-place
invariant-loop-place l = list_all (is_life_of l.object) (take l.place l.rows) ≡ true
