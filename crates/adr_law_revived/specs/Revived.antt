-- What a revival makes of the directory: one entry more, and links to it.
use Rattle.std.specs.Prelude.{◌≡◌, ℕ, List, [], ◌∷◌, true, false, Option, Some, None, Ok, not, filter}
use Rattle.std.specs.List.{find, filter_map, flat_map}
use Rattle.adr_values.specs.declared.stamp.Oid.{Oid}
use Rattle.adr_values.specs.declared.stamp.LinkKey.{LinkKey}
use Rattle.adr_call.specs.declared.directory.Entry.{Entry}
use Rattle.adr_model.specs.Member.{Each}
use Rattle.adr_model.specs.Update.{Identifier, LinkOf, IsPresent, same_identifier}
use Rattle.adr_model.specs.Place.{Node, node_at, place}
use Rattle.adr_model.specs.Live.{live_rows}
use Rattle.adr_values.specs.Assignments.{Given}
use Rattle.adr_model.specs.Shown.{shown_name}
use Rattle.adr_model.specs.Directory.{values_at, link_ends, gathered, directory}
use Rattle.adr_model.specs.Store.{Store, State, updates_of}
use Rattle.adr_model.specs.Change.{Change, after}
use Rattle.adr_model.specs.Formed.{IsFormedStore, IsFormed}
use Rattle.adr_law_tree.specs.Breaker.{AreMore}
use Rattle.adr_model.specs.Write.{Revive, nodes_held, new_object, first_stamp, entry_in, links_revived, write}

-- the nodes of what a state holds
abbrev pub nodes_in : State → List Node
nodes_in s = nodes_held (updates_of s.store.rows)

-- the live object of a revival
abbrev pub revived_node : State → Store → Identifier → Identifier → List ℕ → ℕ → Node
revived_node s image guid parent text now =
    record { object = new_object s guid; class = (entry_in image guid).class; text = text; parent = parent; stamp = first_stamp s now }

-- every other GUID names what it named
abbrev pub OtherObjectsStay : Type 0
OtherObjectsStay =
    (s : State) (image : Store) (guid parent : Identifier) (text : List ℕ) (now : ℕ) (c : Change)
    → IsFormed s → write s (Revive image guid parent text) now ≡ Ok c → (g : Identifier) → same_identifier g guid ≡ false
    → node_at (nodes_in (after s c)) g ≡ node_at (nodes_in s) g

-- there is one object more: the live one of the GUID
abbrev pub OneObjectMore : Type 0
OneObjectMore =
    (s : State) (image : Store) (guid parent : Identifier) (text : List ℕ) (now : ℕ) (c : Change)
    → IsFormed s → IsFormedStore image → write s (Revive image guid parent text) now ≡ Ok c
    → AreMore (nodes_in s) (revived_node s image guid parent text now) (nodes_in (after s c))

-- an object stands under the parent and shows the text of its name row, and all that name it as parent stand under it
abbrev pub StandsIn : List Node → Node → Type 0
StandsIn all x = (place all x ≡ x.parent) × (shown_name all x ≡ x.text) × Each (λ n. same_identifier n.parent x.object.guid ≡ true → place all n ≡ x.object.guid) all

abbrev pub StandsAsGiven : Type 0
StandsAsGiven =
    (s : State) (image : Store) (guid parent : Identifier) (text : List ℕ) (now : ℕ) (c : Change)
    → IsFormed s → IsFormedStore image → write s (Revive image guid parent text) now ≡ Ok c
    → StandsIn (nodes_in (after s c)) (revived_node s image guid parent text now)

-- the values that an object shows
abbrev pub values_shown : State → Oid → List Given
values_shown s o = values_at (live_rows (updates_of s.store.rows)) o

-- the new object shows the values of the image, and each that was live shows what it showed
abbrev pub ValuesAreThose : Type 0
ValuesAreThose =
    (s : State) (image : Store) (guid parent : Identifier) (text : List ℕ) (now : ℕ) (c : Change)
    → IsFormed s → IsFormedStore image → write s (Revive image guid parent text) now ≡ Ok c
    → (values_shown (after s c) (new_object s guid) ≡ (entry_in image guid).values)
    × Each (λ n. values_shown (after s c) n.object ≡ values_shown s n.object) (nodes_in s)

-- ---- the whole claim

abbrev pub entries : State → List Entry
entries s = directory (updates_of s.store.rows)

abbrev pub entry_at : List Entry → Identifier → Option Entry
entry_at es guid = find (λ e. same_identifier e.guid guid) es

abbrev pub some_ends : ℕ → List Identifier → Option (ℕ × List Identifier)
some_ends attr [] = None
some_ends attr (g ∷ gs) = Some (attr, g ∷ gs)

-- links to others than this GUID
abbrev pub links_to_others : Identifier → List (ℕ × List Identifier) → List (ℕ × List Identifier)
links_to_others guid ls = filter_map (λ l. some_ends l.0 (filter (λ g. not (same_identifier g guid)) l.1)) ls

-- the links that new link rows show at their object
abbrev pub links_shown : Oid → List LinkKey → List (ℕ × List Identifier)
links_shown o ls = gathered (flat_map (λ l. link_ends o (LinkOf l) (IsPresent true)) ls)

-- the entry of the revived object
abbrev pub revived_entry : State → Store → Identifier → Identifier → List ℕ → Entry
revived_entry s image guid parent text =
    let e = entry_in image guid in
    record { guid = guid; class = e.class; parent = parent; name = text; values = e.values; links = links_shown (new_object s guid) (links_revived s image guid) }

-- another entry keeps its class, its values and its links to others
abbrev pub IsKept : Identifier → Option Entry → Option Entry → Type 0
IsKept guid None None = Unit {0}
IsKept guid None (Some f) = ⊥
IsKept guid (Some e) None = ⊥
IsKept guid (Some e) (Some f) = (f.class ≡ e.class) × (f.values ≡ e.values) × (links_to_others guid f.links ≡ e.links)

pub record IsRevived (s t : State) (image : Store) (guid parent : Identifier) (text : List ℕ) : Type 0 where
  pub none : entry_at (entries s) guid ≡ None
  pub new : entry_at (entries t) guid ≡ Some (revived_entry s image guid parent text)
  pub old : (g : Identifier) → same_identifier g guid ≡ false → IsKept guid (entry_at (entries s) g) (entry_at (entries t) g)
  pub children : Each (λ n. same_identifier n.parent guid ≡ true → place (nodes_in t) n ≡ guid) (nodes_in t)

-- the law of a revival
abbrev pub RevivedShows : Type 0
RevivedShows =
    (s : State) (image : Store) (guid parent : Identifier) (text : List ℕ) (now : ℕ) (c : Change)
    → IsFormed s → IsFormedStore image → write s (Revive image guid parent text) now ≡ Ok c → IsRevived s (after s c) image guid parent text
