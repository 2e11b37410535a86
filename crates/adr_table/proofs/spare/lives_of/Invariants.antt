use Rattle.std.proofs.Common.{◌≡◌, ◌++◌, take, drop}
use Rattle.adr_shelves.specs.Shelves.{front, is_life}
use Rattle.adr_table.proofs.spare.lives_of.Given as goal

-- those so far are at the front
abbrev pub invariant-loop-place : goal.invariant-loop-place
invariant-loop-place l = front (is_life l.object) l.rows ≡ take l.place l.rows ++ front (is_life l.object) (drop l.place l.rows)
