-- What the formats write of an item, and which item it is.
use Rattle.std.specs.Prelude.{ℕ, List, [], ◌∷◌, ◌++◌, map}
use Rattle.adr_values.specs.declared.stamp.Oid.{Oid}
use Rattle.adr_values.specs.declared.stamp.Unit.TheVariants.{Object, Link}
use Rattle.adr_wire.specs.Fields.{u8}
use Rattle.adr_wire.specs.Composites.{Row, LinkItem, object, link}
use Rattle.adr_model.specs.Update.{Update, RowOf, LinkOf, Holds, IsPresent}
use Rattle.adr_model.specs.Change.{Item}

-- a row of an object, as an update
abbrev pub update_of : Oid → Row → Update
update_of o r = record { key = RowOf o r.0; stamp = record { created = 0; stamp = r.1 }; said = Holds r.2 }

-- an object with its rows, as an item
abbrev pub object_item : Oid × List Row → Item
object_item x = record { unit = Object x.0; rows = map (update_of x.0) x.1 }

-- a link, as an item of its one row
abbrev pub link_item : LinkItem → Item
link_item l = record { unit = Link l.0; rows = record { key = LinkOf l.0; stamp = l.1; said = IsPresent l.2 } ∷ [] }

-- what a message writes of an object: its kind, and the object with its rows
abbrev pub object_bytes : Oid × List Row → List ℕ
object_bytes x = u8 1 ++ object x

-- what a message writes of a link: its kind, and the link
abbrev pub link_bytes : LinkItem → List ℕ
link_bytes l = u8 2 ++ link l
