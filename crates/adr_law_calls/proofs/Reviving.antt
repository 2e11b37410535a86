-- An object that is revived comes with all that the schema wants of it, and then each of its links, one after the other.
use Rattle.std.proofs.Common.{◌≡◌, ◌⊎◌, inl, inr, ⊎_elim, ℕ, ◌≤◌, ◌+◌, List, [], ◌∷◌, Bool, true, false, Option, Some, None, is_none, refl, sym, ap, ◌∙◌, subst, filter_map, flat_map, length, arith, if◌then◌else◌}
use Rattle.std.specs.Prelude.{nat_lt}
use Rattle.std.specs.Bool.{then_some}
use Rattle.std.specs.List.{list_any}
use Rattle.std.specs.Option.{option_map, option_and_then}
use Rattle.std.specs.declared.cmp.Ordering.TheVariants.{Less, Equal}
use Rattle.std.proofs.lemmas.Cmp.{tied_itself}
use Rattle.std.proofs.lemmas.Bool.{ltb-false}
use Rattle.adr_values.specs.Order.{link_order}
use Rattle.adr_values.specs.contracts.stamp.LinkKeyOrd.TheImpl.Laws.{total-law as links_total}
use Rattle.adr_values.proofs.ExactOrders.{exact_links}
use Rattle.adr_values.specs.declared.stamp.Oid.{Oid}
use Rattle.adr_values.specs.declared.stamp.LinkKey.{LinkKey}
use Rattle.adr_values.specs.declared.stamp.Unit.TheVariants.{Object, Link}
use Rattle.adr_values.specs.declared.table.Kind.{Kind}
use Rattle.adr_values.specs.declared.table.Kind.TheVariants.{Reserved, Plain, Forward, Back}
use Rattle.adr_values.specs.declared.refusal.SchemaRefusal.{SchemaRefusal}
use Rattle.adr_values.specs.declared.refusal.SchemaRefusal.TheVariants.{BadName}
use Rattle.adr_values.specs.declared.content.Content.TheVariants.{Class}
use Rattle.adr_values.specs.Table.{kind_at, is_forward}
use Rattle.adr_values.specs.Schemas.{newest}
use Rattle.adr_values.specs.Numbered.{numbered}
use Rattle.adr_values.specs.Names.{name_fault}
use Rattle.adr_values.specs.Rules.{link_refusal as schema_link_refusal}
use Rattle.adr_values.proofs.Extending.{schemas_grow}
use Rattle.adr_values.specs.Vector.{at, raised, cursor_limit}
use Rattle.adr_call.specs.declared.refusal.WriteRefusal.{WriteRefusal}
use Rattle.adr_call.specs.declared.refusal.WriteRefusal.TheVariants.{Schema as BreaksSchema, SchemaMismatch, NotInImage, BirthThere}
use Rattle.adr_call.specs.declared.refusal.Table.TheVariants.{Objects, Links, Cursors}
use Rattle.adr_call.specs.declared.directory.Entry.{Entry}
use Rattle.adr_model.specs.Member.{Member, Each}
use Rattle.adr_model.specs.Update.{Identifier, RowOf, LinkOf, IsPresent, Update, ends, unit_of, same_identifier, same_object, class_attr, deleted_attr}
use Rattle.adr_model.specs.Live.{objects_of}
use Rattle.adr_model.specs.Place.{Node, node_at}
use Rattle.adr_model.specs.Reflects.{HoldsObject, IsTombstoned, IsDeath}
use Rattle.adr_model.specs.Store.{Held, Store, State, updates_of}
use Rattle.adr_model.specs.Change.{Item}
use Rattle.adr_model.specs.Formed.{IsFormedStore, IsFormed}
use Rattle.adr_model.specs.Write.{Revive, object_limit, link_limit, nodes_held, class_of, links_in, new_object, first_stamp, row, shown_in, entry_in, other_end, link_at, is_link_of, link_revived, links_revived, names_object, revive_refusals, revive_refusal, link_row, new_links, rows_written, more_written}
use Rattle.adr_model.proofs.Members.{each_fails, flat_member, of_filter_map, one_passes}
use Rattle.adr_law_knowledge.specs.Rises.{Rises}
use Rattle.adr_law_knowledge.proofs.Lists.{sorted_rises, of_sorted}
use Rattle.adr_law_knowledge.proofs.Comparing.{objects_same}
use Rattle.adr_law_knowledge.proofs.Refusing.{none_there, not_mapped}
use Rattle.adr_law_calls.specs.Puts.{held_at, ArePut}
use Rattle.adr_law_calls.proofs.Rows.{held_as, updated, same_link}
use Rattle.adr_law_calls.proofs.Rising.{one_update}
use Rattle.adr_law_calls.proofs.Putting.{objects_stay}
use Rattle.adr_law_calls.proofs.Counts.{links_within, one_link_more}
use Rattle.adr_law_calls.specs.MayWrites.{HasRoom, IsHeldAlive, MayWrite, after_item, MayWriteInTurn}
use Rattle.adr_law_calls.proofs.Nodes.{live_node}
use Rattle.adr_law_calls.proofs.Saids.{live_is_held}
use Rattle.adr_law_calls.proofs.Refusals.{not_so, not_full}
use Rattle.adr_law_calls.proofs.Linked.{is_forward_link}
use Rattle.adr_law_calls.proofs.Shown.{MayComeWith, entry_comes, comes_with_more}
use Rattle.adr_law_calls.proofs.Coming.{which, of_object, no_death, object_may_come}
use Rattle.adr_law_calls.proofs.PutForms.{whence, whence_update}
use Rattle.adr_law_calls.proofs.WriteFormed.{are_written, written_rise, write_formed}

-- ---- the ends of a link that comes

-- the other end is the object itself, or the one that is live there
pub end_told : (nodes : List Node) (o : Oid) (g : Identifier) (p : Oid) → other_end nodes o g ≡ Some p → (p ≡ o) ⊎ ((n : Node) × (node_at nodes g ≡ Some n) × (n.object ≡ p))
end_told nodes o g p e = by (same_identifier g o.guid) (node_at nodes g) refl e
  where
    by : (b : Bool) (n : Option Node) → node_at nodes g ≡ n → (if b then Some o else option_map (λ (n : Node). n.object) n) ≡ Some p → (p ≡ o) ⊎ ((n : Node) × (node_at nodes g ≡ Some n) × (n.object ≡ p))
    by true n is h = let same : o ≡ p = cc in inl (sym same)
    by false None is h = absurd (cc)
    by false (Some n) is h = let same : n.object ≡ p = cc in inr (n, is, same)

-- what holds of an object and of another one holds of both ends of the link between them
module _ (IsEnd : Oid → Type 0) (o : Oid) (own : IsEnd o) where
  both_ends : (l : LinkKey) → IsEnd l.from → IsEnd l.to → Each IsEnd (ends (LinkOf l))
  both_ends l from to p (inl e) = subst IsEnd (sym e) from
  both_ends l from to p (inr (inl e)) = subst IsEnd (sym e) to
  both_ends l from to p (inr (inr m)) = absurd m

  pub link_is : (kind : Option Kind) (attr : ℕ) (p : Oid) (l : LinkKey) → IsEnd p → link_at kind attr o p ≡ Some l → Each IsEnd (ends (LinkOf l)) × Member o (ends (LinkOf l))
  link_is (Some (Forward back)) attr p l is e =
      let same : record { from = o; attr = attr; to = p } ≡ l = cc in
      subst (λ (k : LinkKey). Each IsEnd (ends (LinkOf k)) × Member o (ends (LinkOf k))) same (both_ends (record { from = o; attr = attr; to = p }) own is, inl refl)
  link_is (Some (Back forward)) attr p l is e =
      let same : record { from = p; attr = forward; to = o } ≡ l = cc in
      subst (λ (k : LinkKey). Each IsEnd (ends (LinkOf k)) × Member o (ends (LinkOf k))) same (both_ends (record { from = p; attr = forward; to = o }) is own, inr (inl refl))
  link_is (Some Reserved) attr p l is e = absurd (cc)
  link_is (Some (Plain syntax most)) attr p l is e = absurd (cc)
  link_is None attr p l is e = absurd (cc)

-- ---- links, one after the other

-- links that may be written where these rows stand: no row of one of them does, and their ends are live
pub record MayRelink (s : State) (ls : List LinkKey) : Type 0 where
  pub formed : IsFormed s
  pub forward : Each (λ (l : LinkKey). is_forward (kind_at (numbered s.store.schema) l.attr) ≡ true) ls
  pub alive : Each (λ (l : LinkKey). Each (IsHeldAlive (updates_of s.store.rows)) (ends (LinkOf l))) ls
  pub none : Each (λ (l : LinkKey). Each (λ r. r.key ≡ LinkOf l → ⊥) (updates_of s.store.rows)) ls
  pub room : links_in s.store.rows + length ls ≤ link_limit

-- of each one
abbrev pub AreApart : List LinkKey → Type 0
AreApart [] = Unit {0}
AreApart (l ∷ ls) = (Member l ls → ⊥) × AreApart ls

module _ (s : State) (now : ℕ) where
  module _ (t : State) (l : LinkKey) (ls : List LinkKey) (usn : ℕ) (may : MayRelink t (l ∷ ls)) where
    abbrev pub item : Item
    item = (link_row s now usn l).item

    abbrev rows : List Update
    rows = updates_of t.store.rows

    pub only : (u : Update) → Member u item.rows → u.key ≡ LinkOf l
    only u (inl e) = ap (λ (v : Update). v.key) e
    only u (inr none) = absurd none

    same : (u v : Update) → Member u item.rows → Member v item.rows → u ≡ v
    same u v (inl e) (inl f) = e ∙ sym f
    same u v (inl e) (inr none) = absurd none
    same u v (inr none) n = absurd none

    said : Each (λ u. (present : Bool) × (u.said ≡ IsPresent present)) item.rows
    said u (inl e) = (true, ap (λ (v : Update). v.said) e)
    said u (inr none) = absurd none

    pub write : MayWrite t (Link l) item.rows
    write = record {
      put = record {
        of_unit = λ u m. ap unit_of (only u m);
        alone = λ u m v n e. same u v m n;
        above = λ u m r n e. absurd (may.none l (inl refl) r n (e ∙ only u m));
        bare = λ d m dies. absurd (let is : LinkOf l ≡ RowOf dies.0 deleted_attr = sym (only d m) ∙ dies.1 in cc);
        place = λ o e. absurd (let is : Link l ≡ Object o = e in cc);
      };
      fits = record {
        forward = may.forward l (inl refl);
        ends = may.alive l (inl refl);
        said = said;
        room = inr (omega (arith, may.room));
      };
    }

    abbrev pub next : State
    next = after_item t item

    pub are : ArePut (t.store.usn + 1) item.rows t.store.rows next.store.rows
    are = are_written t item may.formed write

    -- what stood alive does so
    stays_alive : (o : Oid) → IsHeldAlive rows o → IsHeldAlive (updates_of next.store.rows) o
    stays_alive o (held, alive) = (
      objects_stay (t.store.usn + 1) t.store.rows next.store.rows item.rows o are held,
      λ dead. ⊎_elim (λ new. let is : LinkOf l ≡ RowOf o deleted_attr = sym (only dead.0 new) ∙ dead.2 in absurd (cc)) (λ old. alive (dead.0, old, dead.2)) (whence_update (t.store.usn + 1) item.rows t.store.rows next.store.rows are dead.0 dead.1),
    )

    more : links_in next.store.rows ≤ links_in t.store.rows + 1
    more = one_link_more t.store.rows next.store.rows l (written_rise t item may.formed write) there
      where
        there : Each (λ x. (k : LinkKey) → x.update.key ≡ LinkOf k → (k ≡ l) ⊎ ((u : Update) × Member u rows × (u.key ≡ LinkOf k))) next.store.rows
        there x m k is = ⊎_elim (λ new. inl (same_link x.update.key l k (ap unit_of (only x.update new)) is)) (λ old. inr (x.update, old, is)) (whence (t.store.usn + 1) item.rows t.store.rows next.store.rows are x m)

    pub rest : (Member l ls → ⊥) → MayRelink next ls
    rest apart = record {
      formed = write_formed t item may.formed write;
      forward = λ k m. may.forward k (inr m);
      alive = λ k m o n. stays_alive o (may.alive k (inr m) o n);
      none = λ k m r n e. ⊎_elim
          (λ new. let is : LinkOf l ≡ LinkOf k = sym (only r new) ∙ e in let same : l ≡ k = cc in apart (subst (λ (j : LinkKey). Member j ls) (sym same) m))
          (λ old. may.none k (inr m) r old e) (whence_update (t.store.usn + 1) item.rows t.store.rows next.store.rows are r n);
      room = omega (arith, may.room, more);
    }

  relinks : (t : State) (ls : List LinkKey) (usn : ℕ) → usn ≡ t.store.usn + 1 → AreApart ls → MayRelink t ls → MayWriteInTurn t (new_links s now usn ls)
  relinks t [] usn e apart may = tt
  relinks t (l ∷ ls) usn e apart may = (e, write t l ls usn may, relinks (next t l ls usn may) ls (usn + 1) (ap (λ (n : ℕ). n + 1) e) apart.1 (rest t l ls usn may apart.0))

-- ---- the object and its links

module _ (s : State) (formed : IsFormed s) (image : Store) (guid parent : Identifier) (text : List ℕ) (given : IsFormedStore image) (none : revive_refusal s image guid parent text ≡ None) where
  abbrev held : List Update
  held = updates_of s.store.rows

  abbrev nodes : List Node
  nodes = nodes_held held

  abbrev o : Oid
  o = new_object s guid

  abbrev entry : Entry
  entry = entry_in image guid

  abbrev ls : List LinkKey
  ls = links_revived s image guid

  abbrev refusals : List (Option WriteRefusal)
  refusals = revive_refusals s image guid parent text

  pub one_row : Each (λ u. Each (λ v. u.key ≡ v.key → u ≡ v) held) held
  one_row = one_update s.store.rows formed.store.rising

  earlier : image.schema ≤ s.store.schema
  earlier = ltb-false s.store.schema image.schema (not_so (nat_lt s.store.schema image.schema) (SchemaMismatch s.store.schema image.schema) (none_there refusals none _ (inr (inr (inl refl)))))

  pub comes_with : MayComeWith (numbered s.store.schema) entry.class entry.values
  comes_with = comes_with_more (numbered image.schema) (numbered s.store.schema) (schemas_grow image.schema s.store.schema earlier) entry.class entry.values
      (entry_comes (numbered image.schema) image guid given.rows (one_update image.rows given.rising)
      (not_so (is_none (shown_in image guid)) (NotInImage guid) (none_there refusals none _ (inr (inr (inr (inl refl)))))))

  unnamed : names_object s.store.rows o ≡ false
  unnamed = not_so (names_object s.store.rows o) (BirthThere guid) (none_there refusals none _ (inr (inr (inr (inr (inr (inl refl)))))))

  -- no row is about the new object
  not_about : (r : Update) → Member r held → Member o (ends r.key) → ⊥
  not_about r m n =
      let h = held_as s.store.rows r m in
      let fails : list_any (same_object o) (ends h.0.update.key) ≡ false = each_fails (λ (x : Held). list_any (same_object o) (ends x.update.key)) s.store.rows unnamed h.0 h.1 in
      let passes : list_any (same_object o) (ends r.key) ≡ true = one_passes (same_object o) (ends r.key) o n (objects_same o o refl) in
      let same : list_any (same_object o) (ends r.key) ≡ list_any (same_object o) (ends h.0.update.key) = ap (λ (u : Update). list_any (same_object o) (ends u.key)) h.2 in
      cc

  pub absent : HoldsObject held o → ⊥
  absent (r, attr, m, is) = not_about r m (subst (λ k. Member o (ends k)) (sym is) (inl refl))

  well_named : name_fault text ≡ None
  well_named = not_mapped BadName _ (not_mapped BreaksSchema _ (none_there refusals none _ (inr (inr (inr (inr (inr (inr (inl refl)))))))))

  room : HasRoom s
  room = record {
    objects = not_full Objects object_limit (length (objects_of held) + 1) (none_there refusals none _ (inr (inr (inr (inr (inr (inr (inr (inr (inr (inr (inr (inr (inl refl))))))))))))));
    cursors = not_full Cursors cursor_limit (length (raised s.store.vector s.inv (s.store.usn + 1))) (none_there refusals none _ (inr (inr (inr (inr (inr (inr (inr (inr (inr (inr (inr (inr (inr (inr (inl refl))))))))))))))));
  }

  links_room : links_in s.store.rows + length ls ≤ link_limit
  links_room = not_full Links link_limit (links_in s.store.rows + length ls) (none_there refusals none _ (inr (inr (inr (inr (inr (inr (inr (inr (inr (inr (inr (inr (inr (inl refl)))))))))))))))

  -- ---- which links come

  -- an end that a link is to have: the object, or a live one
  abbrev IsEnd : Oid → Type 0
  IsEnd p = (p ≡ o) ⊎ IsHeldAlive held p

  record IsRelinked (l : LinkKey) : Type 0 where
    forward : is_forward (kind_at (numbered s.store.schema) l.attr) ≡ true
    of_ends : Each IsEnd (ends (LinkOf l))
    own : Member o (ends (LinkOf l))

  end_is : (other : Identifier) (p : Oid) → other_end nodes o other ≡ Some p → IsEnd p
  end_is other p e = ⊎_elim (λ is. inl is)
      (λ t. inr (subst (IsHeldAlive held) t.2 (live_is_held held t.0.object t.0.class (live_node (numbered s.store.schema) held formed.store.rows one_row other t.0 t.1))))
      (end_told nodes o other p e)

  -- a link that is tested is one that the schema doesn't refuse
  tested : (l k : LinkKey) → Each IsEnd (ends (LinkOf l)) × Member o (ends (LinkOf l)) → then_some (is_link_of s o entry.class l) l ≡ Some k → IsRelinked k
  tested l k is h = by (schema_link_refusal (numbered s.store.schema) class l.attr) refl h
    where
      class : ℕ
      class = if same_object l.from o then entry.class else class_of nodes l.from.guid

      by : (r : Option SchemaRefusal) → schema_link_refusal (numbered s.store.schema) class l.attr ≡ r → then_some (is_none r) l ≡ Some k → IsRelinked k
      by None is_so g = let same : l ≡ k = cc in
          subst IsRelinked same (record { forward = is_forward_link (numbered s.store.schema) class l.attr is_so; of_ends = is.0; own = is.1 })
      by (Some x) is_so g = absurd (cc)

  revived_is : (attr : ℕ) (other : Identifier) (l : LinkKey) → link_revived s o entry.class attr other ≡ Some l → IsRelinked l
  revived_is attr other l h = by (other_end nodes o other) refl h
    where
      on : (p : Oid) → IsEnd p → (k : Option LinkKey) → link_at (kind_at newest attr) attr o p ≡ k → option_and_then (λ (k : LinkKey). then_some (is_link_of s o entry.class k) k) k ≡ Some l → IsRelinked l
      on p is None at g = absurd (cc)
      on p is (Some k) at g = tested k l (link_is IsEnd o (inl refl) (kind_at newest attr) attr p k is at) g

      by : (p : Option Oid) → other_end nodes o other ≡ p
          → option_and_then (λ (k : LinkKey). then_some (is_link_of s o entry.class k) k) (option_and_then (link_at (kind_at newest attr) attr o) p) ≡ Some l → IsRelinked l
      by None is g = absurd (cc)
      by (Some p) is g = on p (end_is other p is) (link_at (kind_at newest attr) attr o p) refl g

  each_relinked : Each IsRelinked ls
  each_relinked l m = ⊎_elim given_so (λ none. absurd none) (of_sorted link_order links_total exact_links (flat_map revived entry.links) [] l m)
    where
      revived : ℕ × List Identifier → List LinkKey
      revived a = filter_map (link_revived s o entry.class a.0) a.1

      given_so : Member l (flat_map revived entry.links) → IsRelinked l
      given_so n =
          let a = flat_member revived entry.links l n in
          let g = of_filter_map (link_revived s o entry.class a.0.0) a.0.1 l a.2 in
          revived_is a.0.0 g.0 l g.2

  pub apart : AreApart ls
  apart = rising_apart ls (sorted_rises link_order links_total exact_links (flat_map (λ (a : ℕ × List Identifier). filter_map (link_revived s o entry.class a.0) a.1) entry.links) [] tt)
    where
      rising_apart : (ks : List LinkKey) → Rises link_order ks → AreApart ks
      rising_apart [] r = tt
      rising_apart (k ∷ ks) r = ((λ m. let less : link_order k k ≡ Less = r.0 k m in let tie : link_order k k ≡ Equal = tied_itself links_total k in cc), rising_apart ks r.1)

  -- ---- the writes

  module _ (now : ℕ) where
    abbrev pub first : Item
    first = rows_written s (Revive image guid parent text) now

    pub may_revive : MayWrite s first.unit first.rows
    may_revive = object_may_come s formed guid entry.class parent text entry.values comes_with well_named absent room now

    abbrev pub one : State
    one = after_item s first

    pub placed : ArePut (s.store.usn + 1) first.rows s.store.rows one.store.rows
    placed = are_written s first formed may_revive

    pub of_new : (u : Update) → Member u first.rows → (attr : ℕ) × (u.key ≡ RowOf o attr)
    of_new u m = of_object s formed guid entry.class parent text entry.values comes_with well_named absent room now u (which s formed guid entry.class parent text entry.values comes_with well_named absent room now u m)

    pub no_new_death : (u : Update) → Member u first.rows → IsDeath u → ⊥
    no_new_death u m = no_death s formed guid entry.class parent text entry.values comes_with well_named absent room now u (which s formed guid entry.class parent text entry.values comes_with well_named absent room now u m)

    abbrev pub class_row : Update
    class_row = row o (first_stamp s now) class_attr (Class entry.class)

    pub still_alive : (p : Oid) → (IsTombstoned held p → ⊥) → IsTombstoned (updates_of one.store.rows) p → ⊥
    still_alive p alive (d, m, dies) = ⊎_elim (λ new. no_new_death d new (p, dies)) (λ old. alive (d, old, dies)) (whence_update (s.store.usn + 1) first.rows s.store.rows one.store.rows placed d m)

    -- the object is alive then, and so is what was
    end_alive : (p : Oid) → IsEnd p → IsHeldAlive (updates_of one.store.rows) p
    end_alive p (inl is) = subst (IsHeldAlive (updates_of one.store.rows)) (sym is) (
      (class_row, class_attr, updated one.store.rows (held_at (s.store.usn + 1) class_row) (placed.written class_row (inl refl)), refl),
      still_alive o (λ dead. absent (dead.0, deleted_attr, dead.1, dead.2)),
    )
    end_alive p (inr (there, alive)) = (objects_stay (s.store.usn + 1) s.store.rows one.store.rows first.rows p placed there, still_alive p alive)

    fewer : links_in one.store.rows ≤ links_in s.store.rows
    fewer = links_within s.store.rows one.store.rows (written_rise s first formed may_revive) there
      where
        there : Each (λ x. (k : LinkKey) → x.update.key ≡ LinkOf k → (u : Update) × Member u held × (u.key ≡ LinkOf k)) one.store.rows
        there x m k is = ⊎_elim (λ new. let n = of_new x.update new in let no : RowOf o n.0 ≡ LinkOf k = sym n.1 ∙ is in absurd (cc)) (λ old. (x.update, old, is))
            (whence (s.store.usn + 1) first.rows s.store.rows one.store.rows placed x m)

    pub may_relink_all : MayRelink one ls
    may_relink_all = record {
      formed = write_formed s first formed may_revive;
      forward = λ l m. (each_relinked l m).forward;
      alive = λ l m p n. end_alive p ((each_relinked l m).of_ends p n);
      none = λ l m r n is. ⊎_elim
          (λ new. let k = of_new r new in let no : RowOf o k.0 ≡ LinkOf l = sym k.1 ∙ is in absurd (cc))
          (λ old. not_about r old (subst (λ k. Member o (ends k)) (sym is) (each_relinked l m).own))
          (whence_update (s.store.usn + 1) first.rows s.store.rows one.store.rows placed r n);
      room = omega (arith, links_room, fewer);
    }

    pub may_relink : MayWriteInTurn one (more_written s (Revive image guid parent text) now)
    may_relink = relinks s now one ls (s.store.usn + 2) (omega arith) apart may_relink_all
