-- Originating writes: the first refusal, or the rows that a client's write makes.
use Rattle.std.specs.Prelude.{ℕ, ◌+◌, List, [], ◌∷◌, ◌++◌, Bool, true, false, not, ◌&&◌, ◌||◌, ◌==◌, Option, Some, None, is_none, is_some, unwrap_or, Result, map, filter, fold, length, nat_lt, if◌then◌else◌}
use Rattle.std.specs.Bool.{then_some}
use Rattle.std.specs.List.{list_any, find, filter_map, flat_map}
use Rattle.std.specs.Option.{option_map, option_map_or, option_and_then}
use Rattle.std.specs.BTreeSet.{insert_key}
use Rattle.adr_values.specs.Order.{link_order}
use Rattle.adr_values.specs.declared.stamp.Oid.{Oid}
use Rattle.adr_values.specs.declared.stamp.LinkStamp.{LinkStamp}
use Rattle.adr_values.specs.declared.stamp.LinkKey.{LinkKey}
use Rattle.adr_values.specs.declared.stamp.Unit.TheVariants.{Object, Link as OneLink}
use Rattle.adr_values.specs.declared.content.Content.{Content}
use Rattle.adr_values.specs.declared.content.Content.TheVariants.{Class, Name, Dead, Values}
use Rattle.adr_values.specs.declared.table.Kind.{Kind}
use Rattle.adr_values.specs.declared.table.Kind.TheVariants.{Forward, Back}
use Rattle.adr_values.specs.Assignments.{Given}
use Rattle.adr_values.specs.Table.{Table as Schema, is_superior, kind_at}
use Rattle.adr_values.specs.Schemas.{newest}
use Rattle.adr_values.specs.Numbered.{numbered}
use Rattle.adr_values.specs.Rules.{add_refusal as schema_add_refusal, modify_refusal as schema_modify_refusal, link_refusal as schema_link_refusal, name_refusal as schema_name_refusal}
use Rattle.adr_values.specs.Vector.{raised, cursor_limit}
use Rattle.adr_call.specs.declared.write.Write.{Write as Asked}
use Rattle.adr_call.specs.declared.write.Write.TheVariants as asked
use Rattle.adr_call.specs.declared.directory.Entry.{Entry}
use Rattle.adr_call.specs.declared.refusal.Table.{Table}
use Rattle.adr_call.specs.declared.refusal.Table.TheVariants.{Objects, Links, Cursors}
use Rattle.adr_call.specs.declared.refusal.WriteRefusal.{WriteRefusal}
use Rattle.adr_call.specs.declared.refusal.WriteRefusal.TheVariants.{Schema as BreaksSchema, Quarantined, Fixed, NoObject, Deleted, GuidThere, NoParent, BadSuperior, NameTaken, WouldLoop, HasChildren, LinkThere, LinkNotThere, VersionLimit, UsnLimit, Full, SchemaMismatch, NotInImage, StillLive, BirthThere}
use Rattle.adr_values.specs.First.{first_of}
use Rattle.adr_model.specs.Refusing.{unless}
use Rattle.adr_model.specs.Update.{Identifier, Key, RowOf, LinkOf, Said, Holds, IsPresent, Update, same_identifier, same_object, ends, class_attr, name_attr, deleted_attr}
use Rattle.adr_model.specs.Live.{objects_of, live_rows}
use Rattle.adr_model.specs.Place.{Node, root, lost_and_found, is_fixed, nodes_of, node_at, upward, place}
use Rattle.adr_model.specs.Shown.{is_lost_name, is_named, name_holder}
use Rattle.adr_model.specs.Directory.{directory}
use Rattle.adr_model.specs.Store.{Held, Store, State, updates_of, row_held}
use Rattle.adr_model.specs.Change.{Item, Written, Change, unchanged}
use Rattle.adr_model.specs.Serve.{is_quarantined}

-- how many objects and link rows a controller holds at most, and the greatest USN and version
abbrev pub object_limit : ℕ
object_limit = 200000

abbrev pub link_limit : ℕ
link_limit = 1000000

abbrev pub usn_limit : ℕ
usn_limit = 9223372036854775807

abbrev pub version_limit : ℕ
version_limit = 4294967295

-- what a client writes
pub data Write : Type 0 where
  AddObject : (guid : Identifier) (class : ℕ) (parent : Identifier) (text : List ℕ) (values : List Given) → Write
  Modify : (guid : Identifier) (values : List Given) → Write
  Rename : (guid parent : Identifier) (text : List ℕ) → Write
  Delete : (guid : Identifier) → Write
  AddLink : (from : Identifier) (attr : ℕ) (to : Identifier) → Write
  RemoveLink : (from : Identifier) (attr : ℕ) (to : Identifier) → Write
  Revive : (image : Store) (guid parent : Identifier) (text : List ℕ) → Write

-- what a client asks to be written
abbrev pub write_meant : Asked → Write
write_meant (asked.Add guid class parent text values) = AddObject guid class parent text values
write_meant (asked.Modify guid values) = Modify guid values
write_meant (asked.Rename guid parent text) = Rename guid parent text
write_meant (asked.Delete guid) = Delete guid
write_meant (asked.Link from attr to) = AddLink from attr to
write_meant (asked.Unlink from attr to) = RemoveLink from attr to

-- ---- refusals

-- whether the key is that of a row of an object of this GUID
abbrev pub is_of_guid : Identifier → Key → Bool
is_of_guid guid (RowOf o attr) = same_identifier o.guid guid
is_of_guid guid (LinkOf l) = false

-- whether an object of the GUID is held, live or dead
abbrev pub holds_guid : List Update → Identifier → Bool
holds_guid held guid = list_any (λ u. is_of_guid guid u.key) held

-- the live objects of a controller
abbrev pub nodes_held : List Update → List Node
nodes_held held = nodes_of (live_rows held)

-- an object that isn't live can't be written
abbrev pub object_refusal : List Update → List Node → Identifier → Option WriteRefusal
object_refusal held nodes guid =
    first_of (then_some (not (holds_guid held guid)) (NoObject guid) ∷ then_some (is_none (node_at nodes guid)) (Deleted guid) ∷ [])

abbrev pub fixed_refusal : Identifier → Option WriteRefusal
fixed_refusal guid = then_some (is_fixed guid) (Fixed guid)

-- the class that a parent counts as: 1 for the root and 2 for LostAndFound
abbrev pub class_of_place : List Node → Identifier → ℕ
class_of_place nodes parent =
    if same_identifier parent root then 1
    else if same_identifier parent lost_and_found then 2
    else option_map_or (λ n. n.class) (node_at nodes parent) 0

abbrev pub parent_refusal : List Node → Identifier → Option WriteRefusal
parent_refusal nodes parent = then_some (not (is_fixed parent || is_some (node_at nodes parent))) (NoParent parent)

abbrev pub superior_refusal : Schema → List Node → ℕ → Identifier → Option WriteRefusal
superior_refusal table nodes class parent = then_some (not (is_superior table class (class_of_place nodes parent))) BadSuperior

-- whether a place has another object, or LostAndFound, of a name that folds alike
abbrev pub is_taken : List Node → Identifier → Identifier → List ℕ → Bool
is_taken nodes guid parent text =
    is_lost_name parent text || list_any (λ m. not (same_identifier m.object.guid guid) && is_named nodes parent text m) nodes

abbrev pub name_refusal : List Node → Identifier → Identifier → List ℕ → Option WriteRefusal
name_refusal nodes guid parent text = if is_taken nodes guid parent text then option_map NameTaken (name_holder nodes parent text) else None

-- whether the object is met on the way up from the new parent
abbrev pub loop_refusal : List Node → Identifier → Identifier → Option WriteRefusal
loop_refusal nodes guid parent =
    then_some (list_any (λ m. same_identifier m.object.guid guid) (upward nodes (length nodes) parent)) WouldLoop

-- the least object that is placed under this one
abbrev pub child_refusal : List Node → Identifier → Option WriteRefusal
child_refusal nodes guid = option_map (λ m. HasChildren m.object.guid) (find (λ m. same_identifier (place nodes m) guid) nodes)

abbrev pub version_of : Option Held → ℕ
version_of h = option_map_or (λ r. r.update.stamp.stamp.version) h 0

abbrev pub version_refusal : List Held → Key → ℕ → Option WriteRefusal
version_refusal rows key attr = then_some (version_of (row_held rows key) == version_limit) (VersionLimit attr)

abbrev pub usn_refusal : ℕ → Option WriteRefusal
usn_refusal usn = then_some (nat_lt usn_limit usn) UsnLimit

abbrev pub full_refusal : Table → ℕ → ℕ → Option WriteRefusal
full_refusal table limit count = then_some (nat_lt limit count) (Full table limit)

-- the own cursor may be a new one
abbrev pub cursor_refusal : State → Option WriteRefusal
cursor_refusal s = full_refusal Cursors cursor_limit (length (raised s.store.vector s.inv (s.store.usn + 1)))

-- why an `add` is refused, in order; the first one is given
abbrev pub add_refusals : State → Identifier → ℕ → Identifier → List ℕ → List Given → List (Option WriteRefusal)
add_refusals s guid class parent text values =
    let held = updates_of s.store.rows in
    let nodes = nodes_held held in
    then_some (is_quarantined s.mode) Quarantined
    ∷ then_some (is_fixed guid || holds_guid held guid) (GuidThere guid)
    ∷ option_map BreaksSchema (schema_add_refusal (numbered s.store.schema) class values)
    ∷ option_map BreaksSchema (schema_name_refusal text)
    ∷ parent_refusal nodes parent
    ∷ superior_refusal (numbered s.store.schema) nodes class parent
    ∷ option_map NameTaken (name_holder nodes parent text)
    ∷ usn_refusal (s.store.usn + 1)
    ∷ full_refusal Objects object_limit (length (objects_of held) + 1)
    ∷ cursor_refusal s
    ∷ []

abbrev pub add_refusal : State → Identifier → ℕ → Identifier → List ℕ → List Given → Option WriteRefusal
add_refusal s guid class parent text values = first_of (add_refusals s guid class parent text values)

-- the class of a live object
abbrev pub class_of : List Node → Identifier → ℕ
class_of nodes guid = option_map_or (λ n. n.class) (node_at nodes guid) 0

-- the live object of a GUID; a write of a GUID that has none is refused
abbrev pub object_of : List Node → Identifier → Oid
object_of nodes guid = option_map_or (λ n. n.object) (node_at nodes guid) (record { guid = guid; birth = record { inv = root; usn = 0 } })

-- what a write is refused by first, whatever it does, where its object has to be live
abbrev pub live_refusals : State → Identifier → List (Option WriteRefusal)
live_refusals s guid =
    let held = updates_of s.store.rows in
    then_some (is_quarantined s.mode) Quarantined ∷ fixed_refusal guid ∷ object_refusal held (nodes_held held) guid ∷ []

abbrev pub modify_refusals : State → Identifier → List Given → List (Option WriteRefusal)
modify_refusals s guid values =
    let nodes = nodes_held (updates_of s.store.rows) in
    live_refusals s guid
    ++ option_map BreaksSchema (schema_modify_refusal (numbered s.store.schema) (class_of nodes guid) values)
    ∷ first_of (map (λ (g : Given). version_refusal s.store.rows (RowOf (object_of nodes guid) g.0) g.0) values)
    ∷ usn_refusal (s.store.usn + 1)
    ∷ []

abbrev pub modify_refusal : State → Identifier → List Given → Option WriteRefusal
modify_refusal s guid values = first_of (modify_refusals s guid values)

abbrev pub rename_refusals : State → Identifier → Identifier → List ℕ → List (Option WriteRefusal)
rename_refusals s guid parent text =
    let nodes = nodes_held (updates_of s.store.rows) in
    live_refusals s guid
    ++ option_map BreaksSchema (schema_name_refusal text)
    ∷ parent_refusal nodes parent
    ∷ loop_refusal nodes guid parent
    ∷ superior_refusal (numbered s.store.schema) nodes (class_of nodes guid) parent
    ∷ name_refusal nodes guid parent text
    ∷ version_refusal s.store.rows (RowOf (object_of nodes guid) name_attr) name_attr
    ∷ usn_refusal (s.store.usn + 1)
    ∷ []

abbrev pub rename_refusal : State → Identifier → Identifier → List ℕ → Option WriteRefusal
rename_refusal s guid parent text = first_of (rename_refusals s guid parent text)

abbrev pub delete_refusals : State → Identifier → List (Option WriteRefusal)
delete_refusals s guid =
    let nodes = nodes_held (updates_of s.store.rows) in
    live_refusals s guid
    ++ child_refusal nodes guid
    ∷ usn_refusal (s.store.usn + 1)
    ∷ []

abbrev pub delete_refusal : State → Identifier → Option WriteRefusal
delete_refusal s guid = first_of (delete_refusals s guid)

abbrev pub link_of : List Node → Identifier → ℕ → Identifier → LinkKey
link_of nodes from attr to = record { from = object_of nodes from; attr = attr; to = object_of nodes to }

-- whether a link row says that the link is there
abbrev pub says_present : Said → Bool
says_present (IsPresent present) = present
says_present (Holds content) = false

abbrev pub is_linked : List Held → LinkKey → Bool
is_linked rows link = option_map_or (λ h. says_present h.update.said) (row_held rows (LinkOf link)) false

abbrev pub is_link_row : Key → Bool
is_link_row (LinkOf l) = true
is_link_row (RowOf o a) = false

-- how many link rows there are
abbrev pub links_in : List Held → ℕ
links_in rows = length (filter (λ h. is_link_row h.update.key) rows)

-- what `link` and `unlink` are both refused by; `wrong` comes where the link is already so
abbrev pub any_link_refusals : State → Identifier → ℕ → Identifier → (Bool → Option WriteRefusal) → List (Option WriteRefusal)
any_link_refusals s from attr to wrong =
    let held = updates_of s.store.rows in
    let nodes = nodes_held held in
    then_some (is_quarantined s.mode) Quarantined
    ∷ fixed_refusal from
    ∷ fixed_refusal to
    ∷ object_refusal held nodes from
    ∷ option_map BreaksSchema (schema_link_refusal (numbered s.store.schema) (class_of nodes from) attr)
    ∷ object_refusal held nodes to
    ∷ wrong (is_linked s.store.rows (link_of nodes from attr to))
    ∷ version_refusal s.store.rows (LinkOf (link_of nodes from attr to)) attr
    ∷ usn_refusal (s.store.usn + 1)
    ∷ []

abbrev pub any_link_refusal : State → Identifier → ℕ → Identifier → (Bool → Option WriteRefusal) → Option WriteRefusal
any_link_refusal s from attr to wrong = first_of (any_link_refusals s from attr to wrong)

-- a link row more, where none is held
abbrev pub more_links : State → Identifier → ℕ → Identifier → ℕ
more_links s from attr to =
    let nodes = nodes_held (updates_of s.store.rows) in
    if is_some (row_held s.store.rows (LinkOf (link_of nodes from attr to))) then 0 else 1

abbrev pub link_refusal : State → Identifier → ℕ → Identifier → Option WriteRefusal
link_refusal s from attr to =
    first_of (
    any_link_refusal s from attr to (λ linked. then_some linked LinkThere)
    ∷ full_refusal Links link_limit (links_in s.store.rows + more_links s from attr to)
    ∷ []
    )

abbrev pub unlink_refusal : State → Identifier → ℕ → Identifier → Option WriteRefusal
unlink_refusal s from attr to = any_link_refusal s from attr to (λ linked. then_some (not linked) LinkNotThere)

-- ---- a revival: an object of an image comes again, under a new birth

-- a new object of a controller
abbrev pub new_object : State → Identifier → Oid
new_object s guid = record { guid = guid; birth = record { inv = s.inv; usn = s.store.usn + 1 } }

-- what an image shows of a GUID
abbrev pub shown_in : Store → Identifier → Option Entry
shown_in image guid = find (λ (e : Entry). same_identifier e.guid guid) (directory (updates_of image.rows))

abbrev pub no_entry : Identifier → Entry
no_entry guid = record { guid = guid; class = 0; parent = root; name = []; values = []; links = [] }

-- the entry that is revived; a GUID that has none is refused
abbrev pub entry_in : Store → Identifier → Entry
entry_in image guid = unwrap_or (shown_in image guid) (no_entry guid)

-- the object that a link of the entry is to have at its other end: the new one itself, or the live one of the GUID
abbrev pub other_end : List Node → Oid → Identifier → Option Oid
other_end nodes o guid = if same_identifier guid o.guid then Some o else option_map (λ n. n.object) (node_at nodes guid)

-- a forward link begins at the object, a back link ends there
abbrev pub link_at : Option Kind → ℕ → Oid → Oid → Option LinkKey
link_at (Some (Forward back)) attr o p = Some (record { from = o; attr = attr; to = p })
link_at (Some (Back forward)) attr o p = Some (record { from = p; attr = forward; to = o })
link_at _ attr o p = None

-- whether the class of the link's first end has its attribute
abbrev pub is_link_of : State → Oid → ℕ → LinkKey → Bool
is_link_of s o class l =
    is_none (schema_link_refusal (numbered s.store.schema) (if same_object l.from o then class else class_of (nodes_held (updates_of s.store.rows)) l.from.guid) l.attr)

abbrev pub link_revived : State → Oid → ℕ → ℕ → Identifier → Option LinkKey
link_revived s o class attr guid =
    option_and_then (λ l. then_some (is_link_of s o class l) l)
    (option_and_then (link_at (kind_at newest attr) attr o) (other_end (nodes_held (updates_of s.store.rows)) o guid))

-- the links of the entry that come with the object, in order of their keys, each once
abbrev pub links_revived : State → Store → Identifier → List LinkKey
links_revived s image guid =
    let e = entry_in image guid in
    fold (insert_key link_order) [] (flat_map (λ (a : ℕ × List Identifier). filter_map (link_revived s (new_object s guid) e.class a.0) a.1) e.links)

-- whether a row is about an object
abbrev pub names_object : List Held → Oid → Bool
names_object rows o = list_any (λ h. list_any (same_object o) (ends h.update.key)) rows

abbrev pub revive_refusals : State → Store → Identifier → Identifier → List ℕ → List (Option WriteRefusal)
revive_refusals s image guid parent text =
    let held = updates_of s.store.rows in
    let nodes = nodes_held held in
    let count = length (links_revived s image guid) in
    then_some (is_quarantined s.mode) Quarantined
    ∷ fixed_refusal guid
    ∷ then_some (nat_lt s.store.schema image.schema) (SchemaMismatch s.store.schema image.schema)
    ∷ then_some (is_none (shown_in image guid)) (NotInImage guid)
    ∷ then_some (is_some (node_at nodes guid)) (StillLive guid)
    ∷ then_some (names_object s.store.rows (new_object s guid)) (BirthThere guid)
    ∷ option_map BreaksSchema (schema_name_refusal text)
    ∷ parent_refusal nodes parent
    ∷ then_some (list_any (λ n. same_identifier n.parent guid) (upward nodes (length nodes) parent)) WouldLoop
    ∷ superior_refusal (numbered s.store.schema) nodes (entry_in image guid).class parent
    ∷ option_map NameTaken (name_holder nodes parent text)
    ∷ usn_refusal (s.store.usn + 1 + count)
    ∷ full_refusal Objects object_limit (length (objects_of held) + 1)
    ∷ full_refusal Links link_limit (links_in s.store.rows + count)
    ∷ cursor_refusal s
    ∷ []

abbrev pub revive_refusal : State → Store → Identifier → Identifier → List ℕ → Option WriteRefusal
revive_refusal s image guid parent text = first_of (revive_refusals s image guid parent text)

-- why a write is refused, first in order
abbrev pub write_refusal : State → Write → Option WriteRefusal
write_refusal s (AddObject guid class parent text values) = add_refusal s guid class parent text values
write_refusal s (Modify guid values) = modify_refusal s guid values
write_refusal s (Rename guid parent text) = rename_refusal s guid parent text
write_refusal s (Delete guid) = delete_refusal s guid
write_refusal s (AddLink from attr to) = link_refusal s from attr to
write_refusal s (RemoveLink from attr to) = unlink_refusal s from attr to
write_refusal s (Revive image guid parent text) = revive_refusal s image guid parent text

-- ---- rows

-- the stamp of a row that is written for the first time
abbrev pub first_stamp : State → ℕ → LinkStamp
first_stamp s now = record { created = 0; stamp = record { version = 1; time = now; inv = s.inv; usn = s.store.usn + 1 } }

-- a link is created at the time of its first row
abbrev pub first_created : Key → ℕ → ℕ
first_created (RowOf o attr) now = 0
first_created (LinkOf l) now = now

-- the stamp of a row that is written: one version more than the held one, which keeps its moment of creation
abbrev pub next_stamp : State → Key → ℕ → LinkStamp
next_stamp s key now =
    let held = row_held s.store.rows key in
    record {
      created = option_map_or (λ h. h.update.stamp.created) held (first_created key now);
      stamp = record { version = version_of held + 1; time = now; inv = s.inv; usn = s.store.usn + 1 };
    }

abbrev pub row : Oid → LinkStamp → ℕ → Content → Update
row o stamp attr content = record { key = RowOf o attr; stamp = stamp; said = Holds content }

-- the rows of a new object: its class, its name and each attribute that is given, all with one stamp
abbrev pub new_rows : Oid → LinkStamp → ℕ → Identifier → List ℕ → List Given → List Update
new_rows o stamp class parent text values =
    row o stamp class_attr (Class class)
    ∷ row o stamp name_attr (Name text parent)
    ∷ map (λ (g : Given). row o stamp g.0 (Values g.1)) values

-- a row of an object, one version on
abbrev pub next_row : State → ℕ → Oid → ℕ → Content → Update
next_row s now o attr content = row o (next_stamp s (RowOf o attr) now) attr content

abbrev pub of_object : Oid → List Update → Item
of_object o rows = record { unit = Object o; rows = rows }

-- a link row, one version on
abbrev pub of_link : State → ℕ → LinkKey → Bool → Item
of_link s now link present =
    record { unit = OneLink link; rows = record { key = LinkOf link; stamp = next_stamp s (LinkOf link) now; said = IsPresent present } ∷ [] }

-- a link row that is written for the first time, under a USN of its own
abbrev pub link_row : State → ℕ → ℕ → LinkKey → Written
link_row s now usn l =
    record {
      local = usn;
      item = record {
        unit = OneLink l;
        rows = record { key = LinkOf l; stamp = record { created = now; stamp = record { version = 1; time = now; inv = s.inv; usn = usn } }; said = IsPresent true } ∷ [];
      };
    }

-- links that come with an object, one after the other
abbrev pub new_links : State → ℕ → ℕ → List LinkKey → List Written
new_links s now usn [] = []
new_links s now usn (l ∷ ls) = link_row s now usn l ∷ new_links s now (usn + 1) ls

-- the rows that a write writes under the next USN
abbrev pub rows_written : State → Write → ℕ → Item
rows_written s (AddObject guid class parent text values) now =
    of_object (new_object s guid) (new_rows (new_object s guid) (first_stamp s now) class parent text values)
rows_written s (Modify guid values) now =
    let o = object_of (nodes_held (updates_of s.store.rows)) guid in of_object o (map (λ (g : Given). next_row s now o g.0 (Values g.1)) values)
rows_written s (Rename guid parent text) now =
    let o = object_of (nodes_held (updates_of s.store.rows)) guid in of_object o (next_row s now o name_attr (Name text parent) ∷ [])
rows_written s (Delete guid) now =
    let o = object_of (nodes_held (updates_of s.store.rows)) guid in of_object o (next_row s now o deleted_attr Dead ∷ [])
rows_written s (AddLink from attr to) now = of_link s now (link_of (nodes_held (updates_of s.store.rows)) from attr to) true
rows_written s (RemoveLink from attr to) now = of_link s now (link_of (nodes_held (updates_of s.store.rows)) from attr to) false
rows_written s (Revive image guid parent text) now =
    let e = entry_in image guid in
    of_object (new_object s guid) (new_rows (new_object s guid) (first_stamp s now) e.class parent text e.values)

-- what a write writes beside that: a revival the links of its object
abbrev pub more_written : State → Write → ℕ → List Written
more_written s (Revive image guid parent text) now = new_links s now (s.store.usn + 2) (links_revived s image guid)
more_written s _ now = []

-- what a write issues: items, each under a USN of its own, from the next one on. All but a revival issue one
abbrev pub items_written : State → Write → ℕ → List Written
items_written s w now = record { local = s.store.usn + 1; item = rows_written s w now } ∷ more_written s w now

-- the change of a write: it ends at the last of its USNs
abbrev pub own_change : State → List Written → Change
own_change s items = record (unchanged s) { usn = s.store.usn + length items; writes = items }

-- a client writes: the first refusal, or the change
abbrev pub write : State → Write → ℕ → Result Change WriteRefusal
write s w now = unless (write_refusal s w) (own_change s (items_written s w now))
