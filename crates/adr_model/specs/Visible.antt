-- Which updates a vector covers (after MS-DRSR UPTODATE_VECTOR), and which issued updates a controller has in view.
use Rattle.std.specs.Prelude.{List, Bool, filter, ◌&&◌, ◌||◌}
use Rattle.std.specs.List.{list_any}
use Rattle.adr_values.specs.declared.stamp.Oid.{Oid}
use Rattle.adr_values.specs.Vector.{Cursors, covers}
use Rattle.adr_model.specs.Update.{Update, inv_of, usn_of, at_least}

-- whether the vector has seen the write that made the update
abbrev pub covers_update : Cursors → Update → Bool
covers_update cursors u = covers cursors (inv_of u) (usn_of u)

-- whether it has seen the write that created the object
abbrev pub covers_birth : Cursors → Oid → Bool
covers_birth cursors o = covers cursors o.birth.inv o.birth.usn

-- whether this very update is among those held: one of its key and its stamp
abbrev pub is_held : List Update → Update → Bool
is_held held u = list_any (λ h. at_least h u && at_least u h) held

-- the issued updates that a controller's vector covers or that it holds
abbrev pub visible : List Update → Cursors → List Update → List Update
visible issued vector held = filter (λ u. covers_update vector u || is_held held u) issued
