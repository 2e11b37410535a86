-- Each of the seven writes of a formed state follows it.
use Rattle.std.proofs.Common.{◌≡◌, ◌⊎◌, inl, inr, ⊎_elim, ℕ, zero, suc, ◌+◌, ◌<◌, List, [], ◌∷◌, Bool, true, false, Option, None, refl, sym, ap, ◌∙◌, subst, map, arith, not, ◌||◌, length, Ok}
use Rattle.std.specs.Option.{option_map, option_map_or}
use Rattle.std.specs.List.{AllByRecursion}
use Rattle.std.specs.List.Sorted.{IsStrictlySortedBy}
use Rattle.std.specs.Ordering.{nat_cmp, ordering_then}
use Rattle.std.specs.declared.cmp.Ordering.TheVariants.{Less, Equal}
use Rattle.adr_values.specs.Order.{object_order}
use Rattle.adr_values.specs.declared.stamp.Oid.{Oid}
use Rattle.adr_values.specs.declared.stamp.Unit.TheVariants.{Object, Link}
use Rattle.adr_values.specs.Assignments.{Given, attributes}
use Rattle.adr_values.specs.declared.content.Content.{Content}
use Rattle.adr_values.specs.declared.content.Content.TheVariants.{Class, Name, Dead, Values}
use Rattle.adr_values.specs.declared.content.Value.{Value as Datum}
use Rattle.adr_values.specs.Numbered.{numbered}
use Rattle.adr_values.specs.Rules.{add_refusal as schema_add_refusal, modify_refusal as schema_modify_refusal, name_refusal as schema_name_refusal, link_refusal as schema_link_refusal}
use Rattle.adr_call.specs.declared.refusal.WriteRefusal.{WriteRefusal}
use Rattle.adr_call.specs.declared.refusal.WriteRefusal.TheVariants.{Schema as BreaksSchema, Quarantined, GuidThere, NameTaken, LinkThere, LinkNotThere}
use Rattle.adr_call.specs.declared.refusal.Table.TheVariants.{Objects, Links}
use Rattle.std.specs.Cmp.{nat_cmp_is}
use Rattle.std.proofs.lemmas.Bool.{or_parts}
use Rattle.adr_values.specs.declared.stamp.LinkKey.{LinkKey}
use Rattle.adr_values.specs.declared.stamp.LinkStamp.{LinkStamp}
use Rattle.adr_values.proofs.Cursors.{test_itself}
use Rattle.adr_model.specs.Place.{is_fixed}
use Rattle.adr_model.specs.Shown.{name_holder}
use Rattle.adr_model.specs.Live.{objects_of}
use Rattle.adr_model.specs.Member.{Member, Each}
use Rattle.adr_values.specs.First.{first_of}
use Rattle.adr_model.specs.Update.{Identifier, Key, RowOf, LinkOf, Said, Holds, IsPresent, Update, key_order, is_older, class_attr, name_attr, deleted_attr}
use Rattle.adr_model.specs.Reflects.{HoldsObject}
use Rattle.adr_model.specs.Store.{Held, Normal, State, updates_of, row_held, Store}
use Rattle.adr_model.specs.Change.{Written, Change}
use Rattle.adr_model.specs.Serve.{is_quarantined}
use Rattle.adr_model.specs.Formed.{IsFormed, IsFormedStore}
use Rattle.adr_model.specs.Take.{is_above}
use Rattle.adr_model.specs.Write.{Write, AddObject, Modify, Rename, Delete, AddLink, RemoveLink, object_limit, link_limit, fixed_refusal, object_refusal, parent_refusal, loop_refusal, superior_refusal, name_refusal, child_refusal, version_refusal, usn_refusal, full_refusal, cursor_refusal, any_link_refusal, is_of_guid, holds_guid, link_of, is_linked, links_in, more_links, nodes_held, class_of, object_of, version_of, first_created, next_row, first_stamp, new_object, new_rows, row, write_refusal, items_written, own_change, write, Revive, entry_in, rows_written, more_written, links_revived, new_links, link_row, revive_refusals, revive_refusal}
use Rattle.adr_model.specs.Given.{IsWellGiven, AreInOrder}
use Rattle.std.specs.Bool.{then_some}
use Rattle.adr_model.proofs.Members.{mapped_member, member_mapped, each_fails}
use Rattle.adr_model.proofs.Keys.{equal_order}
use Rattle.adr_law_knowledge.proofs.Comparing.{older_by_version, objects_same}
use Rattle.adr_law_knowledge.proofs.Refusing.{none_there, answered}
use Rattle.adr_law_calls.specs.Forms.{IsWellSaid, MayCome}
use Rattle.adr_law_calls.proofs.Rows.{updated, row_of_unit}
use Rattle.adr_law_calls.proofs.Rising.{one_update}
use Rattle.adr_law_calls.proofs.Tests.{IsFound, row_found}
use Rattle.adr_law_calls.specs.MayWrites.{MayWrite, Changes, Comes, IsHeldAlive, MayWriteInTurn, after_item}
use Rattle.adr_law_calls.proofs.Stamps.{written}
use Rattle.adr_law_calls.proofs.Issues.{change_of}
use Rattle.adr_law_calls.proofs.Nodes.{object_is_live}
use Rattle.adr_law_calls.proofs.Saids.{live_is_held}
use Rattle.adr_law_calls.proofs.Refusals.{not_so}
use Rattle.adr_law_calls.proofs.WriteSound.{may_write}
use Rattle.adr_law_calls.specs.Taken.{AreBare}
use Rattle.adr_law_calls.specs.Follow.{HasKnownClasses, CanFollow, MayFollow, MayFollowInTurn, AreWithinLimits}
use Rattle.adr_law_calls.proofs.Sorted.{keys}
use Rattle.adr_law_calls.proofs.ItemMay.{new_is_above}
use Rattle.adr_law_calls.proofs.ItemPut.{some_or_none}
use Rattle.adr_law_calls.proofs.Passed.{normal_where_not_quarantined}
use Rattle.adr_law_calls.proofs.OwnWrite.{new_placed, live_placed, link_placed, written_follows, says_of_written}
use Rattle.adr_call.specs.declared.directory.Entry.{Entry}
use Rattle.adr_law_calls.proofs.Reviving.{absent, apart, may_revive, may_relink, may_relink_all}
use Rattle.adr_law_calls.proofs.InTurn.{in_turn_formed}
use Rattle.adr_law_calls.proofs.TakenFollow.{nothing_is_vector}
use Rattle.adr_law_calls.proofs.Going.{goes_on_alone}
use Rattle.adr_law_calls.proofs.Relinked.{shown_in_order, behind_one, within_limits, one_rises, links_follow, links_local, in_turn_known}

-- ---- a row that is written next is greater than the held one

next_is_greater : (s : State) (now : ℕ) (key : Key) (said : Said)
    → is_above s.store.rows (written s now key said) ≡ true
next_is_greater s now key said = by (row_found s.store.rows key)
  where
    by : IsFound s.store.rows key (row_held s.store.rows key)
        → is_above s.store.rows (written s now key said) ≡ true
    by (inr (none, f)) = ap
        (λ (o : Option Held). option_map_or (λ h. is_older h.update (written s now key said)) o true) f
    by (inl (x, m, e, f)) =
        ap (λ (o : Option Held). option_map_or (λ h. is_older h.update (written s now key said)) o true) f
        ∙ older_by_version x.update (written s now key said)
        (sym (ap (λ (o : Option Held). option_map_or (λ (h : Held). h.update.stamp.created) o (first_created key now)) f))
        (omega (arith, ap version_of f))

-- ---- rows that rise

module _ (o : Oid) where
  by_attr : (a b : ℕ) → nat_cmp a b ≡ Less → key_order (RowOf o a) (RowOf o b) ≡ Less
  by_attr a b less = ap (λ c. ordering_then c (nat_cmp a b)) (object_itself) ∙ less
    where
      object_itself : object_order o o ≡ Equal
      object_itself = equal_order (object_order o o) (objects_same o o refl)

  module _ (made : Given → Update) (is : (g : Given) → (made g).key ≡ RowOf o g.0) where
    all_after : (a : ℕ) (k : Key) → k ≡ RowOf o a → (gs : List Given)
        → AllByRecursion (λ b. nat_cmp a b ≡ Less) (attributes gs)
        → AllByRecursion (λ j. key_order k j ≡ Less) (keys (map made gs))
    all_after a k e [] all = tt
    all_after a k e (g ∷ gs) all = (subst (λ j. key_order j (made g).key ≡ Less) (sym e) (subst (λ j. key_order (RowOf o a) j ≡ Less) (sym (is g)) (by_attr a g.0 all.0)), all_after a k e gs all.1)

    pub given_rise : (gs : List Given) → IsStrictlySortedBy nat_cmp (attributes gs)
        → IsStrictlySortedBy key_order (keys (map made gs))
    unfolding IsStrictlySortedBy
    given_rise [] rising = tt
    given_rise (g ∷ gs) rising = (all_after g.0 (made g).key (is g) gs rising.0, given_rise gs rising.1)

  -- all of a list above one
  all_above : (a : ℕ) (gs : List Given) → Each (λ (g : Given). nat_cmp a g.0 ≡ Less) gs
      → AllByRecursion (λ b. nat_cmp a b ≡ Less) (attributes gs)
  all_above a [] each = tt
  all_above a (g ∷ gs) each = (each g (inl refl), all_above a gs (λ h m. each h (inr m)))

below : (a b : ℕ) → a < b → nat_cmp a b ≡ Less
below a b less = sym (nat_cmp_is a b Less less)

-- a row of values isn't reserved
values_above : (schema class : ℕ) (o : Oid) (u : Update) (attr : ℕ) (vs : List Datum) → u.key ≡ RowOf o attr
    → u.said ≡ Holds (Values vs) → IsWellSaid (numbered schema) class o u → deleted_attr < attr
values_above schema class o u attr vs is says well = by attr is
  where
    by : (a : ℕ) → u.key ≡ RowOf o a → deleted_attr < a
    by zero e = absurd (well.none e)
    by (suc zero) e = absurd
        (let f : Holds (Values vs) ≡ Holds (Class class) = sym says ∙ (well.of_class e).0 in cc)
    by (suc (suc zero)) e = absurd
        (let t = well.of_name e in let f : Holds (Values vs) ≡ Holds (Name t.0 t.1) = sym says ∙ t.2 in cc)
    by (suc (suc (suc zero))) e = absurd
        (let f : Holds (Values vs) ≡ Holds Dead = sym says ∙ well.of_death e in cc)
    by (suc (suc (suc (suc n)))) e = omega arith

module _ (s : State) (formed : IsFormed s) (known : HasKnownClasses s) where
  abbrev rows : List Update
  rows = updates_of s.store.rows

  live : (guid : Identifier) → object_refusal rows (nodes_held rows) guid ≡ None
      → IsHeldAlive rows (object_of (nodes_held rows) guid)
  live guid none = live_is_held rows _ _
      (object_is_live (numbered s.store.schema) rows formed.store.rows (one_update s.store.rows formed.store.rising) guid none)

  normal : then_some (is_quarantined s.mode) Quarantined ≡ None → s.mode ≡ Normal
  normal none = normal_where_not_quarantined s.mode (not_so (is_quarantined s.mode) Quarantined none)

  -- a row written next of a live object
  one_row : (now attr : ℕ) (content : Content) (o : Oid)
      → MayWrite s (Object o) (next_row s now o attr content ∷ []) → IsHeldAlive rows o → s.mode ≡ Normal
      → CanFollow s (change_of s (record { unit = Object o; rows = next_row s now o attr content ∷ [] }))
  one_row now attr content o may alive is_normal = written_follows s
      (record { unit = Object o; rows = next_row s now o attr content ∷ [] }) formed known may is_normal
      (next_row s now o attr content, inl refl) (one_rises (RowOf o attr)) above
      (live_placed s o (next_row s now o attr content ∷ []) alive)
    where
      above : Each (λ u. is_above s.store.rows u ≡ true) (next_row s now o attr content ∷ [])
      above u (inl e) = subst (λ v. is_above s.store.rows v ≡ true) (sym e)
          (next_is_greater s now (RowOf o attr) (Holds content))
      above u (inr m) = absurd m

  -- a link row written next
  one_link : (now : ℕ) (l : LinkKey) (present : Bool)
      → MayWrite s (Link l) (written s now (LinkOf l) (IsPresent present) ∷ []) → s.mode ≡ Normal
      → CanFollow s (change_of s (record { unit = Link l; rows = written s now (LinkOf l) (IsPresent present) ∷ [] }))
  one_link now l present may is_normal = written_follows s
      (record { unit = Link l; rows = written s now (LinkOf l) (IsPresent present) ∷ [] }) formed known may is_normal
      (written s now (LinkOf l) (IsPresent present), inl refl) (one_rises (LinkOf l)) above
      (link_placed s l (written s now (LinkOf l) (IsPresent present) ∷ []) may)
    where
      above : Each (λ u. is_above s.store.rows u ≡ true) (written s now (LinkOf l) (IsPresent present) ∷ [])
      above u (inl e) = subst (λ v. is_above s.store.rows v ≡ true) (sym e)
          (next_is_greater s now (LinkOf l) (IsPresent present))
      above u (inr m) = absurd m

  -- values of a live object
  some_values : (now : ℕ) (o : Oid) (values : List Given)
      → MayWrite s (Object o) (map (λ (g : Given). next_row s now o g.0 (Values g.1)) values)
      → IsHeldAlive rows o → s.mode ≡ Normal
      → AreInOrder values → (g : Given) × Member g values
      → CanFollow s (change_of s (record { unit = Object o; rows = map (λ (g : Given). next_row s now o g.0 (Values g.1)) values }))
  some_values now o values may alive is_normal order some = written_follows s
      (record { unit = Object o; rows = us }) formed known may is_normal
      (made some.0, member_mapped made values some.0 some.1)
      (given_rise o made (λ g. refl) values order) above (live_placed s o us alive)
    where
      made : Given → Update
      made g = next_row s now o g.0 (Values g.1)

      us : List Update
      us = map made values

      above : Each (λ u. is_above s.store.rows u ≡ true) us
      above u m = let g = mapped_member made values u m in subst (λ v. is_above s.store.rows v ≡ true)
          (sym g.2) (next_is_greater s now (RowOf o g.0.0) (Holds (Values g.0.1)))

  not_held : (guid : Identifier) → holds_guid rows guid ≡ false → HoldsObject rows (new_object s guid) → ⊥
  not_held guid not_there (r, attr, m, is) =
      let fails : is_of_guid guid r.key ≡ false = each_fails (λ (u : Update). is_of_guid guid u.key) rows not_there r m in
      let passes : is_of_guid guid r.key ≡ true = ap (is_of_guid guid) is ∙ test_itself guid in
      cc

  -- a new object
  module _ (now : ℕ) (guid : Identifier) (class : ℕ) (parent : Identifier) (text : List ℕ)
      (values : List Given) where
    abbrev o : Oid
    o = new_object s guid

    abbrev stamp : LinkStamp
    stamp = first_stamp s now

    abbrev us : List Update
    us = new_rows o stamp class parent text values

    abbrev value_row : Given → Update
    value_row g = row o stamp g.0 (Values g.1)

    module _ (may : MayWrite s (Object o) us) (absent : HoldsObject rows o → ⊥) where
      abbrev Come : Type 0
      Come = (c : ℕ) × MayCome (numbered s.store.schema) rows o c us

      comes : Come
      comes = by may.fits.0 may.fits.1
        where
          by : (c : ℕ) → Changes s o c us ⊎ Comes s o c us → Come
          by c (inl changes) = absurd
              (absent (changes.of_class.0, class_attr, changes.of_class.1, changes.of_class.2))
          by c (inr come) = (c, come.0)

      plain : Each (λ (g : Given). deleted_attr < g.0) values
      plain g m = values_above s.store.schema comes.0 o (value_row g) g.0 g.1 refl refl
          (comes.1.said (value_row g) (inr (inr (member_mapped value_row values g m))))

      rise : AreInOrder values → IsStrictlySortedBy key_order (keys us)
      unfolding IsStrictlySortedBy
      rise order = (
        (by_attr o class_attr name_attr refl, all_after o value_row (λ g. refl) class_attr (RowOf o class_attr) refl values (all_above o class_attr values (λ g m. below class_attr g.0 (omega (arith, plain g m))))),
        (all_after o value_row (λ g. refl) name_attr (RowOf o name_attr) refl values (all_above o name_attr values (λ g m. below name_attr g.0 (omega (arith, plain g m)))), given_rise o value_row (λ g. refl) values order),
      )

      above : Each (λ u. is_above s.store.rows u ≡ true) us
      above u m = let k = row_of_unit u.key o (may.put.of_unit u m) in new_is_above s.store.rows u
          (λ h n e. absent (h.update, k.0, updated s.store.rows h n, e ∙ k.1))

      new_may_follow : AreInOrder values → MayFollow (numbered s.store.schema) s.store.vector s.store.rows (record { unit = Object o; rows = us })
      new_may_follow order = record {
        some = (row o stamp class_attr (Class class), inl refl);
        form = record { of_unit = may.put.of_unit; rising = rise order; says = says_of_written s (Object o) us may };
        greater = above;
        unit = new_placed s o comes.0 us (may.put.place o refl) comes.1;
      }

      new_follows : s.mode ≡ Normal → AreInOrder values
          → CanFollow s (change_of s (record { unit = Object o; rows = us }))
      new_follows is_normal order = written_follows s
          (record { unit = Object o; rows = us }) formed known may is_normal
          (row o stamp class_attr (Class class), inl refl) (rise order) above
          (new_placed s o comes.0 us (may.put.place o refl) comes.1)

  -- ---- an object that is revived, and its links

  module _ (now : ℕ) (image : Store) (guid parent : Identifier) (text : List ℕ) (given : IsFormedStore image)
      (none : revive_refusal s image guid parent text ≡ None) where
    abbrev what : Write
    what = Revive image guid parent text

    abbrev entry : Entry
    entry = entry_in image guid

    abbrev first : Written
    first = record { local = s.store.usn + 1; item = rows_written s what now }

    revived_in_turn : MayWriteInTurn s (items_written s what now)
    revived_in_turn = (refl, may_revive s formed image guid parent text given none now, may_relink s formed image guid parent text given none now)

    revived_may_follow : MayFollowInTurn (numbered s.store.schema) s.store.vector s.store.rows (items_written s what now)
    revived_may_follow = (
      new_may_follow now guid entry.class parent text entry.values (may_revive s formed image guid parent text given none now) (absent s formed image guid parent text given none) (shown_in_order image guid),
      subst AreWithinLimits (sym (behind_one s first refl)) (within_limits (after_item s first.item) (may_relink_all s formed image guid parent text given none now).formed),
      subst (λ (held : List Held). MayFollowInTurn (numbered s.store.schema) s.store.vector held (more_written s what now)) (sym (behind_one s first refl))
          (links_follow s now (numbered s.store.schema) s.store.vector (after_item s first.item) (links_revived s image guid) (s.store.usn + 2) (omega arith)
          (apart s formed image guid parent text given none) (may_relink_all s formed image guid parent text given none now)),
    )

    revived_follows : CanFollow s (own_change s (items_written s what now))
    revived_follows = record {
      goes_on = goes_on_alone s (own_change s (items_written s what now)) (normal (none_there (revive_refusals s image guid parent text) none _ (inl refl))) (omega arith)
          (omega arith, omega arith, links_local s now (numbered s.store.schema) s.store.vector (s.store.usn + 2) (s.store.usn + 1) (s.store.usn + length (items_written s what now)) (links_revived s image guid) (omega arith) (omega arith))
          (inl refl) nothing_is_vector revived_may_follow (λ o m. absurd m);
      formed = in_turn_formed s first (more_written s what now) formed revived_in_turn;
      classes = in_turn_known s first (more_written s what now) formed revived_in_turn known;
    }

  -- ---- the refusals, call by call

  abbrev of_add : Identifier → ℕ → Identifier → List ℕ → List Given → List (Option WriteRefusal)
  of_add guid class parent text values =
      then_some (is_quarantined s.mode) Quarantined
      ∷ then_some (is_fixed guid || holds_guid rows guid) (GuidThere guid)
      ∷ option_map BreaksSchema (schema_add_refusal (numbered s.store.schema) class values)
      ∷ option_map BreaksSchema (schema_name_refusal text)
      ∷ parent_refusal (nodes_held rows) parent
      ∷ superior_refusal (numbered s.store.schema) (nodes_held rows) class parent
      ∷ option_map NameTaken (name_holder (nodes_held rows) parent text)
      ∷ usn_refusal (s.store.usn + 1)
      ∷ full_refusal Objects object_limit (length (objects_of rows) + 1)
      ∷ cursor_refusal s
      ∷ []

  abbrev of_modify : Identifier → List Given → List (Option WriteRefusal)
  of_modify guid values =
      then_some (is_quarantined s.mode) Quarantined
      ∷ fixed_refusal guid
      ∷ object_refusal rows (nodes_held rows) guid
      ∷ option_map BreaksSchema (schema_modify_refusal (numbered s.store.schema) (class_of (nodes_held rows) guid) values)
      ∷ first_of (map (λ (g : Given). version_refusal s.store.rows (RowOf (object_of (nodes_held rows) guid) g.0) g.0) values)
      ∷ usn_refusal (s.store.usn + 1)
      ∷ []

  abbrev of_rename : Identifier → Identifier → List ℕ → List (Option WriteRefusal)
  of_rename guid parent text =
      then_some (is_quarantined s.mode) Quarantined
      ∷ fixed_refusal guid
      ∷ object_refusal rows (nodes_held rows) guid
      ∷ option_map BreaksSchema (schema_name_refusal text)
      ∷ parent_refusal (nodes_held rows) parent
      ∷ loop_refusal (nodes_held rows) guid parent
      ∷ superior_refusal (numbered s.store.schema) (nodes_held rows) (class_of (nodes_held rows) guid) parent
      ∷ name_refusal (nodes_held rows) guid parent text
      ∷ version_refusal s.store.rows (RowOf (object_of (nodes_held rows) guid) name_attr) name_attr
      ∷ usn_refusal (s.store.usn + 1)
      ∷ []

  abbrev of_delete : Identifier → List (Option WriteRefusal)
  of_delete guid =
      then_some (is_quarantined s.mode) Quarantined
      ∷ fixed_refusal guid
      ∷ object_refusal rows (nodes_held rows) guid
      ∷ child_refusal (nodes_held rows) guid
      ∷ usn_refusal (s.store.usn + 1)
      ∷ []

  abbrev of_any_link : Identifier → ℕ → Identifier → (Bool → Option WriteRefusal) → List (Option WriteRefusal)
  of_any_link from attr to wrong =
      then_some (is_quarantined s.mode) Quarantined
      ∷ fixed_refusal from
      ∷ fixed_refusal to
      ∷ object_refusal rows (nodes_held rows) from
      ∷ option_map BreaksSchema (schema_link_refusal (numbered s.store.schema) (class_of (nodes_held rows) from) attr)
      ∷ object_refusal rows (nodes_held rows) to
      ∷ wrong (is_linked s.store.rows (link_of (nodes_held rows) from attr to))
      ∷ version_refusal s.store.rows (LinkOf (link_of (nodes_held rows) from attr to)) attr
      ∷ usn_refusal (s.store.usn + 1)
      ∷ []

  normal_link : (from : Identifier) (attr : ℕ) (to : Identifier) (wrong : Bool → Option WriteRefusal)
      → any_link_refusal s from attr to wrong ≡ None → s.mode ≡ Normal
  normal_link from attr to wrong none = normal (none_there (of_any_link from attr to wrong) none _ (inl refl))

  each_write : (w : Write) (now : ℕ) → IsWellGiven w → write_refusal s w ≡ None
      → CanFollow s (own_change s (items_written s w now))
  each_write (AddObject guid class parent text values) now given none = new_follows now guid class parent text values
      (may_write s (AddObject guid class parent text values) now formed given none)
      (not_held guid (or_parts (is_fixed guid) (holds_guid rows guid) (not_so (is_fixed guid || holds_guid rows guid) (GuidThere guid) (none_there (of_add guid class parent text values) none _ (inr (inl refl))))).1)
      (normal (none_there (of_add guid class parent text values) none _ (inl refl))) given
  each_write (Modify guid values) now given none = some_values now (object_of (nodes_held rows) guid) values
      (may_write s (Modify guid values) now formed given none)
      (live guid (none_there (of_modify guid values) none _ (inr (inr (inl refl)))))
      (normal (none_there (of_modify guid values) none _ (inl refl))) given.0
      (⊎_elim (λ e. absurd (given.1 e)) (λ t. t) (some_or_none values))
  each_write (Rename guid parent text) now given none = one_row now name_attr (Name text parent)
      (object_of (nodes_held rows) guid) (may_write s (Rename guid parent text) now formed given none)
      (live guid (none_there (of_rename guid parent text) none _ (inr (inr (inl refl)))))
      (normal (none_there (of_rename guid parent text) none _ (inl refl)))
  each_write (Delete guid) now given none = one_row now deleted_attr Dead (object_of (nodes_held rows) guid)
      (may_write s (Delete guid) now formed given none)
      (live guid (none_there (of_delete guid) none _ (inr (inr (inl refl)))))
      (normal (none_there (of_delete guid) none _ (inl refl)))
  each_write (AddLink from attr to) now given none = one_link now
      (link_of (nodes_held rows) from attr to) true (may_write s (AddLink from attr to) now formed given none)
      (normal_link from attr to (λ linked. then_some linked LinkThere)
      (none_there (any_link_refusal s from attr to (λ linked. then_some linked LinkThere) ∷ full_refusal Links link_limit (links_in s.store.rows + more_links s from attr to) ∷ []) none _ (inl refl)))
  each_write (RemoveLink from attr to) now given none = one_link now
      (link_of (nodes_held rows) from attr to) false
      (may_write s (RemoveLink from attr to) now formed given none)
      (normal_link from attr to (λ linked. then_some (not linked) LinkNotThere) none)
  each_write (Revive image guid parent text) now given none = revived_follows now image guid parent text given none

pub write_follows : (s : State) (w : Write) (now : ℕ) (c : Change) → IsFormed s → HasKnownClasses s
    → IsWellGiven w → write s w now ≡ Ok c → CanFollow s c
write_follows s w now c formed known given e =
    let t = answered (write_refusal s w) (own_change s (items_written s w now)) c e in
    subst (CanFollow s) t.1 (each_write s formed known w now given t.0)

-- a link is no death
links_bare : (s : State) (now usn : ℕ) (ls : List LinkKey) → Each (λ (v : Written). AreBare v.item.rows) (new_links s now usn ls)
links_bare s now usn [] v m = absurd m
links_bare s now usn (l ∷ ls) v (inl is) = subst (λ (z : Written). AreBare z.item.rows) (sym is) bare
  where
    bare : AreBare (link_row s now usn l).item.rows
    bare d (inl e) dies = absurd (let same : LinkOf l ≡ RowOf dies.0 deleted_attr = sym (ap (λ (v : Update). v.key) e) ∙ dies.1 in cc)
    bare d (inr none) dies = absurd none
links_bare s now usn (l ∷ ls) v (inr m) = links_bare s now (usn + 1) ls v m

more_bare : (s : State) (now : ℕ) (w : Write) → Each (λ (v : Written). AreBare v.item.rows) (more_written s w now)
more_bare s now (AddObject guid class parent text values) v m = absurd m
more_bare s now (Modify guid values) v m = absurd m
more_bare s now (Rename guid parent text) v m = absurd m
more_bare s now (Delete guid) v m = absurd m
more_bare s now (AddLink from attr to) v m = absurd m
more_bare s now (RemoveLink from attr to) v m = absurd m
more_bare s now (Revive image guid parent text) v m = links_bare s now (s.store.usn + 2) (links_revived s image guid) v m

pub write_is_bare : (s : State) (w : Write) (now : ℕ) (c : Change) → IsFormed s → IsWellGiven w
    → write s w now ≡ Ok c → Each (λ w. AreBare w.item.rows) c.writes
write_is_bare s w now c formed given e =
    let t = answered (write_refusal s w) (own_change s (items_written s w now)) c e in
    subst (λ (x : Change). Each (λ (v : Written). AreBare v.item.rows) x.writes) t.1 (alone t.0)
  where
    alone : write_refusal s w ≡ None → Each (λ (v : Written). AreBare v.item.rows) (items_written s w now)
    alone none v (inl is) = subst (λ (z : Written). AreBare z.item.rows) (sym is)
        (may_write s w now formed given none).put.bare
    alone none v (inr m) = more_bare s now w v m
