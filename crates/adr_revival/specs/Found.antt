-- What is written of an entry of an image: the object with its rows, and its links.
use Rattle.std.specs.Prelude.{ℕ, ◌+◌, List, [], ◌∷◌, fold}
use Rattle.std.specs.List.{filter_map, flat_map}
use Rattle.std.specs.BTreeSet.{insert_key}
use Rattle.adr_values.specs.Order.{link_order}
use Rattle.adr_values.specs.declared.stamp.LinkKey.{LinkKey}
use Rattle.adr_values.specs.declared.stamp.Oid.{Oid}
use Rattle.adr_model.specs.Change.{Written}
use Rattle.adr_model.specs.Store.{State}
use Rattle.adr_model.specs.Update.{Identifier}
use Rattle.adr_model.specs.Write.{first_stamp, link_revived, new_links, new_object, new_rows, of_object}
use Rattle.adr_view.specs.declared.seen.Shown.{Shown}

-- the links that come of those under one attribute
abbrev pub link_lists : State → Oid → ℕ → ℕ × List Identifier → List LinkKey
link_lists s o class a = filter_map (link_revived s o class a.0) a.1

-- the links that come with an object, in order of their keys, each once
abbrev pub links_of : State → Oid → ℕ → List (ℕ × List Identifier) → List LinkKey
links_of s o class links = fold (insert_key link_order) [] (flat_map (link_lists s o class) links)

abbrev pub object_written : State → Identifier → Identifier → List ℕ → Shown → ℕ → Written
object_written s guid parent text shown now = record {
  local = s.store.usn + 1;
  item = of_object (new_object s guid) (new_rows (new_object s guid) (first_stamp s now) shown.class parent text shown.values);
}

-- the object, and then its links
abbrev pub items_of : State → Identifier → Identifier → List ℕ → Shown → List LinkKey → ℕ → List Written
items_of s guid parent text shown links now = object_written s guid parent text shown now ∷ new_links s now (s.store.usn + 2) links
