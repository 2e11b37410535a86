-- A controller that isn't quarantined refuses nothing since it were.
use Rattle.std.proofs.Common.{◌≡◌, ℕ, ◌+◌, List, [], ◌∷◌, Bool, true, false, not, Option, None, is_none, Err, refl, ap, fold, map, length, ◌==◌, if◌then◌else◌}
use Rattle.std.specs.Prelude.{nat_lt}
use Rattle.std.specs.Bool.{then_some}
use Rattle.std.specs.List.{find}
use Rattle.std.specs.Option.{IfSome, option_map}
use Rattle.adr_values.specs.Assignments.{Given}
use Rattle.adr_values.specs.Vector.{Cursors, cursor_limit, first_gap}
use Rattle.adr_values.specs.First.{first_of}
use Rattle.adr_values.specs.Table.{Table as Schema}
use Rattle.adr_values.specs.Numbered.{numbered}
use Rattle.adr_values.specs.Rules.{add_refusal as schema_add_refusal, modify_refusal as schema_modify_refusal, link_refusal as schema_link_refusal, name_refusal as schema_name_refusal}
use Rattle.adr_values.specs.declared.stamp.Oid.{Oid}
use Rattle.adr_values.specs.declared.stamp.Unit.{Unit as Named}
use Rattle.adr_values.specs.declared.stamp.Unit.TheVariants.{Object, Link}
use Rattle.adr_values.specs.declared.refusal.SchemaRefusal.{SchemaRefusal}
use Rattle.adr_values.specs.declared.refusal.SchemaRefusal.TheVariants.{UnknownClass}
use Rattle.adr_call.specs.declared.outcome.Outcome.{Outcome}
use Rattle.adr_call.specs.declared.refusal.Table.TheVariants as tables
use Rattle.adr_call.specs.declared.refusal.WriteRefusal.{WriteRefusal}
use Rattle.adr_call.specs.declared.refusal.WriteRefusal.TheVariants as writes
use Rattle.adr_call.specs.declared.refusal.ServeRefusal.{ServeRefusal}
use Rattle.adr_call.specs.declared.refusal.ServeRefusal.TheVariants as serves
use Rattle.adr_call.specs.declared.refusal.TakeRefusal.{TakeRefusal}
use Rattle.adr_call.specs.declared.refusal.TakeRefusal.TheVariants as takes
use Rattle.adr_call.specs.declared.refusal.CollectRefusal.{CollectRefusal}
use Rattle.adr_call.specs.declared.refusal.CollectRefusal.TheVariants as collects
use Rattle.adr_call.specs.declared.refusal.UpgradeRefusal.{UpgradeRefusal}
use Rattle.adr_call.specs.declared.refusal.UpgradeRefusal.TheVariants as upgrades
use Rattle.adr_call.specs.declared.refusal.AdoptRefusal.{AdoptRefusal}
use Rattle.adr_call.specs.declared.refusal.AdoptRefusal.TheVariants.{IdentifierUsed}
use Rattle.adr_model.specs.Update.{Identifier, RowOf, Update, same_identifier, name_attr}
use Rattle.adr_model.specs.Place.{Node, node_at, place}
use Rattle.adr_model.specs.Shown.{name_holder}
use Rattle.adr_model.specs.Store.{Held, Normal, Store, State, updates_of}
use Rattle.adr_model.specs.Change.{Item, Change, after}
use Rattle.adr_model.specs.Refusing.{unless}
use Rattle.adr_model.specs.Refused.{write_refused, serve_refused, take_refused, collect_refused, upgrade_refused, adopt_refused}
use Rattle.adr_model.specs.Serve.{Request, Reply, is_quarantined, shown_by, serve_refusals, serve_refusal, reply_to, serve}
use Rattle.adr_model.specs.Write.{Write, AddObject, Modify, Rename, Delete, AddLink, RemoveLink, Revive, object_limit, link_limit, usn_limit, holds_guid, nodes_held, object_refusal, is_taken, name_refusal, version_refusal, full_refusal, add_refusals, class_of, object_of, modify_refusals, rename_refusals, delete_refusals, link_of, is_linked, links_in, any_link_refusals, any_link_refusal, more_links, revive_refusals, write_refusal, own_change, items_written, write}
use Rattle.adr_model.specs.Take.{Taking, begin, object_lacks, presence_of, incomplete, item_fault, item_refusal, take_item, kept_mark, shown_by_last, over_limit, mark_limit, take_items, taken_change, take_refusal, take}
use Rattle.adr_law_calls.specs.OnTheWay.{stale, lags, other_schema, put_back}
use Rattle.adr_model.specs.Collect.{deaths_to_collect, collection, collect_refusal, collect}
use Rattle.adr_model.specs.Upgrade.{upgraded, upgrade_refusal, upgrade}
use Rattle.adr_law_knowledge.proofs.Refusing.{unmet, where_it_is, none_is, first_is, all_is, tested_is, refused_by, mapped_is}
use Rattle.adr_law_convergence.proofs.Refusals.{number}

-- an outcome that isn't the refusal of a controller that is quarantined
abbrev pub IsOpen : Outcome → Type 0
IsOpen o = (number o == 23) ≡ false

-- ---- writes

abbrev Allowed : WriteRefusal → Type 0
Allowed x = IsOpen (write_refused x)

abbrev MayBe : Option WriteRefusal → Type 0
MayBe o = IfSome o Allowed

of_schema : (x : SchemaRefusal) → Allowed (writes.Schema x)
of_schema UnknownClass = refl
of_schema _ = refl

-- of a list, whichever comes first
object_allowed : (held : List Update) (nodes : List Node) (guid : Identifier) → MayBe (object_refusal held nodes guid)
object_allowed held nodes guid = all_is Allowed (then_some (not (holds_guid held guid)) (writes.NoObject guid) ∷ then_some (is_none (node_at nodes guid)) (writes.Deleted guid) ∷ []) (tested_is Allowed _ (writes.NoObject guid) refl, (tested_is Allowed _ (writes.Deleted guid) refl, tt))

name_allowed : (nodes : List Node) (guid parent : Identifier) (text : List ℕ) → MayBe (name_refusal nodes guid parent text)
name_allowed nodes guid parent text = by (is_taken nodes guid parent text)
  where
    by : (b : Bool) → MayBe (if b then option_map writes.NameTaken (name_holder nodes parent text) else None)
    by true = mapped_is writes.NameTaken Allowed (λ holder. refl) (name_holder nodes parent text)
    by false = tt

versions_allowed : (rows : List Held) (o : Oid) (values : List Given) → MayBe (first_of (map (λ (g : Given). version_refusal rows (RowOf o g.0) g.0) values))
versions_allowed rows o [] = tt
versions_allowed rows o (g ∷ gs) =
    first_is Allowed (version_refusal rows (RowOf o g.0) g.0) (map (λ (x : Given). version_refusal rows (RowOf o x.0) x.0) gs) (tested_is Allowed _ (writes.VersionLimit g.0) refl) (λ none. versions_allowed rows o gs)

module _ (s : State) (normal : s.mode ≡ Normal) where
  pub not_quarantined : is_quarantined s.mode ≡ false
  not_quarantined = ap is_quarantined normal

  abbrev held : List Update
  held = updates_of s.store.rows

  abbrev nodes : List Node
  nodes = nodes_held held

  not_so : MayBe (then_some (is_quarantined s.mode) writes.Quarantined)
  not_so = none_is Allowed _ (unmet _ _ not_quarantined)

  add_allowed : (guid : Identifier) (class : ℕ) (parent : Identifier) (text : List ℕ) (values : List Given) → MayBe (first_of (add_refusals s guid class parent text values))
  add_allowed guid class parent text values = all_is Allowed (add_refusals s guid class parent text values) (
    not_so,
    (
      tested_is Allowed _ (writes.GuidThere guid) refl,
      (
        mapped_is writes.Schema Allowed of_schema (schema_add_refusal (numbered s.store.schema) class values),
        (
          mapped_is writes.Schema Allowed of_schema (schema_name_refusal text),
          (
            tested_is Allowed _ (writes.NoParent parent) refl,
            (
              tested_is Allowed _ writes.BadSuperior refl,
              (
                mapped_is writes.NameTaken Allowed (λ holder. refl) (name_holder nodes parent text),
                (
                  tested_is Allowed _ writes.UsnLimit refl,
                  (
                    tested_is Allowed _ (writes.Full tables.Objects object_limit) refl,
                    (tested_is Allowed _ (writes.Full tables.Cursors cursor_limit) refl, tt),
                  ),
                ),
              ),
            ),
          ),
        ),
      ),
    ),
  )

  modify_allowed : (guid : Identifier) (values : List Given) → MayBe (first_of (modify_refusals s guid values))
  modify_allowed guid values = all_is Allowed (modify_refusals s guid values) (
    not_so,
    (
      tested_is Allowed _ (writes.Fixed guid) refl,
      (
        object_allowed held nodes guid,
        (
          mapped_is writes.Schema Allowed of_schema (schema_modify_refusal (numbered s.store.schema) (class_of nodes guid) values),
          (
            versions_allowed s.store.rows (object_of nodes guid) values,
            (tested_is Allowed _ writes.UsnLimit refl, tt),
          ),
        ),
      ),
    ),
  )

  rename_allowed : (guid parent : Identifier) (text : List ℕ) → MayBe (first_of (rename_refusals s guid parent text))
  rename_allowed guid parent text = all_is Allowed (rename_refusals s guid parent text) (
    not_so,
    (
      tested_is Allowed _ (writes.Fixed guid) refl,
      (
        object_allowed held nodes guid,
        (
          mapped_is writes.Schema Allowed of_schema (schema_name_refusal text),
          (
            tested_is Allowed _ (writes.NoParent parent) refl,
            (
              tested_is Allowed _ writes.WouldLoop refl,
              (
                tested_is Allowed _ writes.BadSuperior refl,
                (
                  name_allowed nodes guid parent text,
                  (
                    tested_is Allowed _ (writes.VersionLimit name_attr) refl,
                    (tested_is Allowed _ writes.UsnLimit refl, tt),
                  ),
                ),
              ),
            ),
          ),
        ),
      ),
    ),
  )

  delete_allowed : (guid : Identifier) → MayBe (first_of (delete_refusals s guid))
  delete_allowed guid = all_is Allowed (delete_refusals s guid) (
    not_so,
    (
      tested_is Allowed _ (writes.Fixed guid) refl,
      (
        object_allowed held nodes guid,
        (
          mapped_is (λ (m : Node). writes.HasChildren m.object.guid) Allowed (λ m. refl) (find (λ m. same_identifier (place nodes m) guid) nodes),
          (tested_is Allowed _ writes.UsnLimit refl, tt),
        ),
      ),
    ),
  )

  any_link_allowed : (from : Identifier) (attr : ℕ) (to : Identifier) (wrong : Bool → Option WriteRefusal) → ((b : Bool) → MayBe (wrong b)) → MayBe (any_link_refusal s from attr to wrong)
  any_link_allowed from attr to wrong each = all_is Allowed (any_link_refusals s from attr to wrong) (
    not_so,
    (
      tested_is Allowed _ (writes.Fixed from) refl,
      (
        tested_is Allowed _ (writes.Fixed to) refl,
        (
          object_allowed held nodes from,
          (
            mapped_is writes.Schema Allowed of_schema (schema_link_refusal (numbered s.store.schema) (class_of nodes from) attr),
            (
              object_allowed held nodes to,
              (
                each (is_linked s.store.rows (link_of nodes from attr to)),
                (
                  tested_is Allowed _ (writes.VersionLimit attr) refl,
                  (tested_is Allowed _ writes.UsnLimit refl, tt),
                ),
              ),
            ),
          ),
        ),
      ),
    ),
  )

  revive_allowed : (image : Store) (guid parent : Identifier) (text : List ℕ) → MayBe (first_of (revive_refusals s image guid parent text))
  revive_allowed image guid parent text = all_is Allowed (revive_refusals s image guid parent text) (
    not_so,
    (
      tested_is Allowed _ (writes.Fixed guid) refl,
      (
        tested_is Allowed _ (writes.SchemaMismatch s.store.schema image.schema) refl,
        (
          tested_is Allowed _ (writes.NotInImage guid) refl,
          (
            tested_is Allowed _ (writes.StillLive guid) refl,
            (
              tested_is Allowed _ (writes.BirthThere guid) refl,
              (
                mapped_is writes.Schema Allowed of_schema (schema_name_refusal text),
                (
                  tested_is Allowed _ (writes.NoParent parent) refl,
                  (
                    tested_is Allowed _ writes.WouldLoop refl,
                    (
                      tested_is Allowed _ writes.BadSuperior refl,
                      (
                        mapped_is writes.NameTaken Allowed (λ holder. refl) (name_holder nodes parent text),
                        (
                          tested_is Allowed _ writes.UsnLimit refl,
                          (
                            tested_is Allowed _ (writes.Full tables.Objects object_limit) refl,
                            (
                              tested_is Allowed _ (writes.Full tables.Links link_limit) refl,
                              (tested_is Allowed _ (writes.Full tables.Cursors cursor_limit) refl, tt),
                            ),
                          ),
                        ),
                      ),
                    ),
                  ),
                ),
              ),
            ),
          ),
        ),
      ),
    ),
  )

  write_allowed : (what : Write) → MayBe (write_refusal s what)
  write_allowed (AddObject guid class parent text values) = add_allowed guid class parent text values
  write_allowed (Modify guid values) = modify_allowed guid values
  write_allowed (Rename guid parent text) = rename_allowed guid parent text
  write_allowed (Delete guid) = delete_allowed guid
  write_allowed (AddLink from attr to) = all_is Allowed (any_link_refusal s from attr to (λ linked. then_some linked writes.LinkThere) ∷ full_refusal tables.Links link_limit (links_in s.store.rows + more_links s from attr to) ∷ []) (
    any_link_allowed from attr to (λ linked. then_some linked writes.LinkThere) (λ b. tested_is Allowed b writes.LinkThere refl),
    (tested_is Allowed _ (writes.Full tables.Links link_limit) refl, tt),
  )
  write_allowed (RemoveLink from attr to) = any_link_allowed from attr to (λ linked. then_some (not linked) writes.LinkNotThere) (λ b. tested_is Allowed (not b) writes.LinkNotThere refl)
  write_allowed (Revive image guid parent text) = revive_allowed image guid parent text

  pub write_open : (what : Write) (now : ℕ) (x : WriteRefusal) → write s what now ≡ Err x → IsOpen (write_refused x)
  write_open what now x e = where_it_is Allowed (write_refusal s what) x (write_allowed what) (refused_by (write_refusal s what) (own_change s (items_written s what now)) x e)

  -- ---- requests

  abbrev Served : ServeRefusal → Type 0
  Served x = IsOpen (serve_refused x)

  serve_allowed : (q : Request) → IfSome (serve_refusal s q) Served
  serve_allowed q = all_is Served (serve_refusals s q) (
    none_is Served _ (unmet _ _ not_quarantined),
    (
      tested_is Served _ (serves.WrongController s.dsa q.source) refl,
      (
        tested_is Served _ (serves.BadMark q.mark.prop q.mark.obj q.mark.seen) refl,
        (
          tested_is Served _ (serves.RolledBack s.inv s.store.usn (shown_by s q)) refl,
          (
            tested_is Served _ (serves.SchemaMismatch s.store.schema q.schema) refl,
            (mapped_is (λ gap. serves.TooOld gap.0 gap.2 gap.1) Served (λ gap. refl) (first_gap s.store.purged q.vector), tt),
          ),
        ),
      ),
    ),
  )

  pub serve_open : (q : Request) (now : ℕ) (x : ServeRefusal) → serve s q now ≡ Err x → IsOpen (serve_refused x)
  serve_open q now x e = where_it_is Served (serve_refusal s q) x (serve_allowed q) (refused_by (serve_refusal s q) (reply_to s q now) x e)

  -- ---- replies

  abbrev Taken : TakeRefusal → Type 0
  Taken x = IsOpen (take_refused x)

  incomplete_allowed : (table : Schema) (vector : Cursors) (rows : List Held) (unit : Named) (us : List Update) → IfSome (incomplete table vector rows (record { unit = unit; rows = us })) Taken
  incomplete_allowed table vector rows (Object o) us = tested_is Taken (object_lacks table us (presence_of vector rows o)) (takes.Incomplete o) refl
  incomplete_allowed table vector rows (Link l) us = tt

  items_allowed : (table : Schema) (vector : Cursors) (items : List Item) (t : Taking) → IfSome t.refusal Taken → IfSome (fold (take_item table vector) t items).refusal Taken
  items_allowed table vector [] t so = so
  items_allowed table vector (i ∷ is) t so = items_allowed table vector is (take_item table vector t i) (all_is Taken (t.refusal ∷ item_refusal table vector t.rows t.place i ∷ []) (so, (item, tt)))
    where
      item : IfSome (item_refusal table vector t.rows t.place i) Taken
      item = all_is Taken (option_map (takes.BadItem t.place) (item_fault table vector t.rows i) ∷ incomplete table vector t.rows i ∷ [])
          (mapped_is (takes.BadItem t.place) Taken (λ cause. refl) (item_fault table vector t.rows i), (incomplete_allowed table vector t.rows i.unit i.rows, tt))

  take_allowed : (r : Reply) (t : Taking) (d : State) → IfSome t.refusal Taken → IfSome (take_refusal s r t d) Taken
  take_allowed r t d items = all_is Taken (
      then_some (is_quarantined s.mode) takes.Quarantined ∷ then_some (not (same_identifier r.dest s.dsa)) (takes.NotMine r.dest) ∷ stale s r ∷ lags s r ∷ other_schema s r ∷ put_back s r
      ∷ t.refusal ∷ then_some (nat_lt usn_limit t.usn) takes.UsnLimit ∷ over_limit tables.Objects object_limit t.objects ∷ over_limit tables.Links link_limit t.links
      ∷ over_limit tables.Cursors cursor_limit (length d.store.vector) ∷ over_limit tables.Marks mark_limit (length d.store.marks) ∷ []) (
        none_is Taken _ (unmet _ _ not_quarantined),
        (
          tested_is Taken _ (takes.NotMine r.dest) refl,
          (
            tested_is Taken _ (takes.Stale (kept_mark s r) r.from) refl,
            (
              mapped_is (λ gap. takes.VectorBehind gap.0 gap.1 gap.2) Taken (λ gap. refl) (first_gap r.asked s.store.vector),
              (
                tested_is Taken _ (takes.SchemaMismatch s.store.schema r.schema) refl,
                (
                  tested_is Taken _ (takes.RolledBack s.inv s.store.usn (shown_by_last s r)) refl,
                  (
                    items,
                    (
                      tested_is Taken _ takes.UsnLimit refl,
                      (
                        tested_is Taken _ (takes.Full tables.Objects object_limit) refl,
                        (
                          tested_is Taken _ (takes.Full tables.Links link_limit) refl,
                          (
                            tested_is Taken _ (takes.Full tables.Cursors cursor_limit) refl,
                            (tested_is Taken _ (takes.Full tables.Marks mark_limit) refl, tt),
                          ),
                        ),
                      ),
                    ),
                  ),
                ),
              ),
            ),
          ),
        ),
      )

  pub take_open : (r : Reply) (x : TakeRefusal) → take s r ≡ Err x → IsOpen (take_refused x)
  take_open r x e = by (take_items s r.items) (items_allowed (numbered s.store.schema) s.store.vector r.items (begin s) tt) e
    where
      by : (t : Taking) → IfSome t.refusal Taken → unless (take_refusal s r t (after s (taken_change s r t))) (taken_change s r t) ≡ Err x → Taken x
      by t items f = where_it_is Taken (take_refusal s r t (after s (taken_change s r t))) x (take_allowed r t (after s (taken_change s r t)) items)
          (refused_by (take_refusal s r t (after s (taken_change s r t))) (taken_change s r t) x f)

  -- ---- collections and upgrades

  abbrev Collected : CollectRefusal → Type 0
  Collected x = IsOpen (collect_refused x)

  collect_allowed : (c : Change) → IfSome (collect_refusal s c) Collected
  collect_allowed c = all_is Collected (then_some (is_quarantined s.mode) collects.Quarantined ∷ then_some (nat_lt usn_limit c.usn) collects.UsnLimit ∷ [])
      (none_is Collected _ (unmet _ _ not_quarantined), (tested_is Collected _ collects.UsnLimit refl, tt))

  pub collect_open : (now lifetime : ℕ) (x : CollectRefusal) → collect s now lifetime ≡ Err x → IsOpen (collect_refused x)
  collect_open now lifetime x e =
      let c : Change = collection s (deaths_to_collect s now lifetime) in
      where_it_is Collected (collect_refusal s c) x (collect_allowed c) (refused_by (collect_refusal s c) c x e)

  abbrev Upgraded : UpgradeRefusal → Type 0
  Upgraded x = IsOpen (upgrade_refused x)

  upgrade_allowed : IfSome (upgrade_refusal s) Upgraded
  upgrade_allowed = all_is Upgraded (then_some (is_quarantined s.mode) upgrades.Quarantined ∷ then_some (s.store.schema == 2) (upgrades.SchemaThere s.store.schema) ∷ [])
      (none_is Upgraded _ (unmet _ _ not_quarantined), (tested_is Upgraded _ (upgrades.SchemaThere s.store.schema) refl, tt))

  pub upgrade_open : (x : UpgradeRefusal) → upgrade s ≡ Err x → IsOpen (upgrade_refused x)
  upgrade_open x e = where_it_is Upgraded (upgrade_refusal s) x upgrade_allowed (refused_by (upgrade_refusal s) (upgraded s) x e)

pub adopt_open : (x : AdoptRefusal) → IsOpen (adopt_refused x)
adopt_open IdentifierUsed = refl
adopt_open _ = refl
