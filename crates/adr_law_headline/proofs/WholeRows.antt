-- Rows whose identifiers have sixteen bytes, the live objects of such rows, and what a client's write writes where they are held.
use Rattle.std.proofs.Common.{◌≡◌, ◌==◌, inl, inr, unwrap_or, ℕ, List, [], ◌∷◌, Bool, true, false, cond, Option, Some, None, refl, sym, ap, subst, map}
use Rattle.std.specs.List.{list_all}
use Rattle.std.specs.Option.{option_map_or, option_and_then}
use Rattle.adr_values.specs.declared.stamp.Oid.{Oid}
use Rattle.adr_values.specs.declared.stamp.LinkKey.{LinkKey}
use Rattle.adr_values.specs.declared.stamp.LinkStamp.{LinkStamp}
use Rattle.adr_values.specs.Assignments.{Given}
use Rattle.adr_values.specs.declared.content.Content.{Content}
use Rattle.adr_values.specs.declared.content.Value.{Value as Item}
use Rattle.adr_call.specs.declared.directory.Entry.{Entry}
use Rattle.adr_values.specs.declared.content.Content.TheVariants.{Class, Name, Dead, Values}
use Rattle.adr_token.specs.Laws.{IsIdentifier}
use Rattle.adr_model.specs.Member.{Member, Each}
use Rattle.adr_model.specs.Update.{Identifier, Key, RowOf, LinkOf, Said, Holds, IsPresent, Update, same_key, same_identifier, same_object, ends, class_attr, name_attr, deleted_attr}
use Rattle.adr_model.specs.Store.{Store, State, updates_of}
use Rattle.adr_model.specs.Directory.{directory, entry_of, values_at, values_in, with_values}
use Rattle.adr_model.specs.Winner.{winners}
use Rattle.adr_model.specs.Live.{live, is_among, live_rows}
use Rattle.adr_model.specs.Place.{Node, root, row_at, with_name, node_of, node_at}
use Rattle.adr_model.specs.Write.{Write, AddObject, Modify, Rename, Delete, AddLink, RemoveLink, Revive, entry_in, no_entry, shown_in, nodes_held, object_of, link_of, row, new_object, new_rows, first_stamp, next_stamp, next_row, rows_written}
use Rattle.adr_model.proofs.Members.{of_filter, found_member, of_filter_map, mapped_member}
use Rattle.adr_model.proofs.Nodes.{IsNodeOf, is_node_of}
use Rattle.adr_law_knowledge.proofs.Winners.{is_won, of_winners}
use Rattle.adr_law_headline.specs.Printable.{AreWholeValues, IsWholeRow, IsWholeSaid, IsWholeWrite}

-- ---- nodes

pub live_row : (rows : List Update) (u : Update) → Member u (live_rows rows) → Member u rows
live_row rows u m =
    let t = of_filter (λ (v : Update). list_all (is_among (live rows)) (ends v.key)) (winners rows) u m in
    (is_won rows u.key (Some u) (of_winners rows u t.0)).0

named_so : (o : Oid) (class : ℕ) (stamp : LinkStamp) (said : Said) (n : Node) → with_name o class stamp said ≡ Some n → said ≡ Holds (Name n.text n.parent)
named_so o class stamp (Holds (Name text parent)) n e =
    let same : record { object = o; class = class; text = text; parent = parent; stamp = stamp } ≡ n = cc in ap (λ (m : Node). Holds (Name m.text m.parent)) same
named_so o class stamp (Holds (Class c)) n e = absurd (cc)
named_so o class stamp (Holds Dead) n e = absurd (cc)
named_so o class stamp (Holds (Values vs)) n e = absurd (cc)
named_so o class stamp (IsPresent b) n e = absurd (cc)

-- a node has its name of a row
name_row : (rows : List Update) (k : Key) (said : Said) (n : Node) → node_of rows k said ≡ Some n → (u : Update) × Member u rows × (u.said ≡ Holds (Name n.text n.parent))
name_row rows (RowOf o attr) (Holds (Class class)) n e = by (attr == class_attr) (row_at rows (RowOf o name_attr)) refl e
  where
    by : (b : Bool) (u : Option Update) → row_at rows (RowOf o name_attr) ≡ u → cond b (option_and_then (λ (v : Update). with_name o class v.stamp v.said) u) None ≡ Some n
        → (u : Update) × Member u rows × (u.said ≡ Holds (Name n.text n.parent))
    by false u is h = absurd (cc)
    by true None is h = absurd (cc)
    by true (Some u) is h = (u, (found_member (λ (v : Update). same_key v.key (RowOf o name_attr)) rows u is).0, named_so o class u.stamp u.said n h)
name_row rows (RowOf o attr) (Holds (Name text parent)) n e = absurd (cc)
name_row rows (RowOf o attr) (Holds Dead) n e = absurd (cc)
name_row rows (RowOf o attr) (Holds (Values vs)) n e = absurd (cc)
name_row rows (RowOf o attr) (IsPresent b) n e = absurd (cc)
name_row rows (LinkOf l) said n e = absurd (cc)

module _ (rows : List Update) where
  -- a node is of a row
  pub class_row : (n : Node) → Member n (nodes_held rows) → (u : Update) × Member u rows × IsNodeOf u.key u.said n
  class_row n m =
      let t = of_filter_map (λ (v : Update). node_of (live_rows rows) v.key v.said) (live_rows rows) n m in
      (t.0, live_row rows t.0 t.1, is_node_of (live_rows rows) t.0.key t.0.said n t.2)

  module _ (whole : Each IsWholeRow rows) where
    pub guid_whole : (n : Node) → Member n (nodes_held rows) → IsIdentifier n.object.guid
    guid_whole n m = let t = class_row n m in
        (whole t.0 t.1).about n.object (subst (λ k. Member n.object (ends k)) (sym t.2.1) (inl refl))

    pub parent_whole : (n : Node) → Member n (nodes_held rows) → IsIdentifier n.parent
    parent_whole n m =
        let t = of_filter_map (λ (v : Update). node_of (live_rows rows) v.key v.said) (live_rows rows) n m in
        let u = name_row (live_rows rows) t.0.key t.0.said n t.2 in
        subst IsWholeSaid u.2 (whole u.0 (live_row rows u.0 u.1)).says

    object_whole : (guid : Identifier) → IsIdentifier guid → IsIdentifier (object_of (nodes_held rows) guid).guid
    object_whole guid given = by (node_at (nodes_held rows) guid) refl
      where
        not_there : Oid
        not_there = record { guid = guid; birth = record { inv = root; usn = 0 } }

        by : (o : Option Node) → node_at (nodes_held rows) guid ≡ o → IsIdentifier (option_map_or (λ (n : Node). n.object) o not_there).guid
        by None e = given
        by (Some n) e = guid_whole n (found_member (λ (p : Node). same_identifier p.object.guid guid) (nodes_held rows) n e).0

  -- ---- what is shown

  given_said : (o : Oid) (k : Key) (said : Said) (g : Given) → values_in o k said ≡ Some g → said ≡ Holds (Values g.1)
  given_said o (RowOf p attr) (Holds (Values vs)) g e = by (same_object p o) vs e
    where
      some : (vs : List Item) → with_values attr vs ≡ Some g → Holds (Values vs) ≡ Holds (Values g.1)
      some [] h = absurd (cc)
      some (v ∷ vs) h = let same : (attr, v ∷ vs) ≡ g = cc in ap (λ (x : Given). Holds (Values x.1)) same

      by : (b : Bool) (vs : List Item) → cond b (with_values attr vs) None ≡ Some g → Holds (Values vs) ≡ Holds (Values g.1)
      by true vs h = some vs h
      by false vs h = absurd (cc)
  given_said o (RowOf p attr) (Holds (Class class)) g e = absurd (cc)
  given_said o (RowOf p attr) (Holds (Name text parent)) g e = absurd (cc)
  given_said o (RowOf p attr) (Holds Dead) g e = absurd (cc)
  given_said o (RowOf p attr) (IsPresent b) g e = absurd (cc)
  given_said o (LinkOf l) said g e = absurd (cc)

  values_whole : Each IsWholeRow rows → (o : Oid) → AreWholeValues (values_at (live_rows rows) o)
  values_whole whole o g m =
      let u = of_filter_map (λ (v : Update). values_in o v.key v.said) (live_rows rows) g m in
      subst IsWholeSaid (given_said o u.0.key u.0.said g u.2) (whole u.0 (live_row rows u.0 u.1)).says

-- the values of an entry of an image are those of its rows
entry_whole : (image : Store) (guid : Identifier) → Each IsWholeRow (updates_of image.rows) → AreWholeValues (entry_in image guid).values
entry_whole image guid whole = by (shown_in image guid) refl
  where
    rows : List Update
    rows = updates_of image.rows

    of_entry : (e : Entry) → Member e (directory rows) → AreWholeValues e.values
    of_entry e m =
        let n = mapped_member (entry_of (live_rows rows) (nodes_held rows)) (nodes_held rows) e m in
        subst (λ (x : Entry). AreWholeValues x.values) (sym n.2) (values_whole rows whole n.0.object)

    by : (o : Option Entry) → shown_in image guid ≡ o → AreWholeValues (entry_in image guid).values
    by None is = subst (λ (x : Entry). AreWholeValues x.values) (sym (ap (λ (o : Option Entry). unwrap_or o (no_entry guid)) is)) (λ g m. absurd m)
    by (Some e) is = subst (λ (x : Entry). AreWholeValues x.values) (sym (ap (λ (o : Option Entry). unwrap_or o (no_entry guid)) is))
        (of_entry e (found_member (λ (x : Entry). same_identifier x.guid guid) (directory rows) e is).0)

-- ---- what is written

row_whole : (o : Oid) (stamp : LinkStamp) (attr : ℕ) (content : Content) → IsIdentifier o.guid → IsWholeSaid (Holds content) → IsWholeRow (row o stamp attr content)
row_whole o stamp attr content guid says = record { about = each; says = says }
  where
    each : Each (λ (p : Oid). IsIdentifier p.guid) (o ∷ [])
    each p (inl e) = subst (λ (q : Oid). IsIdentifier q.guid) (sym e) guid
    each p (inr m) = absurd m

pub link_whole : (l : LinkKey) (stamp : LinkStamp) (present : Bool) → IsIdentifier l.from.guid → IsIdentifier l.to.guid
    → IsWholeRow (record { key = LinkOf l; stamp = stamp; said = IsPresent present })
link_whole l stamp present from to = record { about = each; says = tt }
  where
    each : Each (λ (p : Oid). IsIdentifier p.guid) (l.from ∷ l.to ∷ [])
    each p (inl e) = subst (λ (q : Oid). IsIdentifier q.guid) (sym e) from
    each p (inr (inl e)) = subst (λ (q : Oid). IsIdentifier q.guid) (sym e) to
    each p (inr (inr m)) = absurd m

pub only : (u : Update) → IsWholeRow u → Each IsWholeRow (u ∷ [])
only u whole v (inl e) = subst IsWholeRow (sym e) whole
only u whole v (inr m) = absurd m

new_whole : (s : State) (guid : Identifier) (class : ℕ) (parent : Identifier) (text : List ℕ) (values : List Given) (now : ℕ) → IsIdentifier guid → IsIdentifier parent → AreWholeValues values
    → Each IsWholeRow (new_rows (new_object s guid) (first_stamp s now) class parent text values)
new_whole s guid class parent text values now of_guid of_parent of_values = each
  where
    o : Oid
    o = new_object s guid

    value_row : Given → Update
    value_row g = row o (first_stamp s now) g.0 (Values g.1)

    each : Each IsWholeRow (row o (first_stamp s now) class_attr (Class class) ∷ row o (first_stamp s now) name_attr (Name text parent) ∷ map value_row values)
    each u (inl e) = subst IsWholeRow (sym e) (row_whole o (first_stamp s now) class_attr (Class class) of_guid tt)
    each u (inr (inl e)) = subst IsWholeRow (sym e) (row_whole o (first_stamp s now) name_attr (Name text parent) of_guid of_parent)
    each u (inr (inr m)) = let g = mapped_member value_row values u m in
        subst IsWholeRow (sym g.2) (row_whole o (first_stamp s now) g.0.0 (Values g.0.1) of_guid (of_values g.0 g.1))

pub written_whole : (s : State) (w : Write) (now : ℕ) → Each IsWholeRow (updates_of s.store.rows) → IsWholeWrite w → Each IsWholeRow (rows_written s w now).rows
written_whole s (AddObject guid class parent text values) now whole given = new_whole s guid class parent text values now given.0 given.1 given.2
written_whole s (Modify guid values) now whole given = each
  where
    o : Oid
    o = object_of (nodes_held (updates_of s.store.rows)) guid

    value_row : Given → Update
    value_row g = next_row s now o g.0 (Values g.1)

    each : Each IsWholeRow (map value_row values)
    each u m = let g = mapped_member value_row values u m in
        subst IsWholeRow (sym g.2) (row_whole o (next_stamp s (RowOf o g.0.0) now) g.0.0 (Values g.0.1) (object_whole (updates_of s.store.rows) whole guid given.0) (given.1 g.0 g.1))
written_whole s (Rename guid parent text) now whole given =
    let o = object_of (nodes_held (updates_of s.store.rows)) guid in
    only (next_row s now o name_attr (Name text parent)) (row_whole o (next_stamp s (RowOf o name_attr) now) name_attr (Name text parent) (object_whole (updates_of s.store.rows) whole guid given.0) given.1)
written_whole s (Delete guid) now whole given =
    let o = object_of (nodes_held (updates_of s.store.rows)) guid in
    only (next_row s now o deleted_attr Dead) (row_whole o (next_stamp s (RowOf o deleted_attr) now) deleted_attr Dead (object_whole (updates_of s.store.rows) whole guid given) tt)
written_whole s (AddLink from attr to) now whole given =
    let l = link_of (nodes_held (updates_of s.store.rows)) from attr to in
    only (record { key = LinkOf l; stamp = next_stamp s (LinkOf l) now; said = IsPresent true })
    (link_whole l (next_stamp s (LinkOf l) now) true (object_whole (updates_of s.store.rows) whole from given.0) (object_whole (updates_of s.store.rows) whole to given.1))
written_whole s (RemoveLink from attr to) now whole given =
    let l = link_of (nodes_held (updates_of s.store.rows)) from attr to in
    only (record { key = LinkOf l; stamp = next_stamp s (LinkOf l) now; said = IsPresent false })
    (link_whole l (next_stamp s (LinkOf l) now) false (object_whole (updates_of s.store.rows) whole from given.0) (object_whole (updates_of s.store.rows) whole to given.1))
written_whole s (Revive image guid parent text) now whole given =
    let e = entry_in image guid in new_whole s guid e.class parent text e.values now given.1 given.2 (entry_whole image guid given.0)
