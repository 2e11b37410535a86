-- What a revival writes beside its object: values rise by attribute, and each link may follow at its turn.
use Rattle.std.proofs.Common.{◌≡◌, inl, inr, ℕ, ◌+◌, ◌≤◌, ◌<◌, List, [], ◌∷◌, Bool, true, false, Option, Some, None, refl, sym, ap, ◌∙◌, subst, length, unwrap_or, arith, if◌then◌else◌}
use Rattle.std.specs.List.{AllByRecursion, list_all, cons_option}
use Rattle.std.specs.List.Sorted.{IsStrictlySortedBy}
use Rattle.std.specs.Ordering.{nat_cmp, ordering_then}
use Rattle.std.specs.declared.cmp.Ordering.TheVariants.{Less}
use Rattle.adr_values.specs.Order.{object_order}
use Rattle.adr_values.specs.declared.stamp.Oid.{Oid}
use Rattle.adr_values.specs.declared.stamp.LinkKey.{LinkKey}
use Rattle.adr_values.specs.declared.stamp.Unit.TheVariants.{Link}
use Rattle.adr_values.specs.Assignments.{Given, attributes}
use Rattle.adr_values.specs.Table.{Table}
use Rattle.adr_values.specs.declared.content.Content.TheVariants.{Class, Name, Dead, Values}
use Rattle.adr_values.specs.declared.content.Value.{Value as Datum}
use Rattle.adr_values.specs.Vector.{Cursors}
use Rattle.adr_call.specs.declared.directory.Entry.{Entry}
use Rattle.adr_model.specs.Member.{Member, Each}
use Rattle.adr_model.specs.Update.{Identifier, Key, RowOf, LinkOf, Said, Holds, IsPresent, Update, key_order, ends, same_identifier, same_object}
use Rattle.adr_model.specs.Winner.{winners}
use Rattle.adr_model.specs.Live.{live, is_among, live_rows}
use Rattle.adr_model.specs.Directory.{with_values, values_in, values_at, entry_of, directory}
use Rattle.adr_model.specs.Store.{Held, Store, State, updates_of}
use Rattle.adr_model.specs.Change.{Written, held_of, rows_after, after}
use Rattle.adr_model.specs.Formed.{IsFormed}
use Rattle.adr_model.specs.Given.{AreInOrder}
use Rattle.adr_model.specs.Write.{nodes_held, no_entry, shown_in, entry_in, link_row, new_links, own_change}
use Rattle.adr_model.proofs.Members.{found_member, mapped_member, of_filter_map}
use Rattle.adr_model.proofs.Keys.{equal_order, objects_tell}
use Rattle.adr_law_knowledge.specs.Rises.{Rises}
use Rattle.adr_law_knowledge.proofs.Lists.{filter_rises}
use Rattle.adr_law_knowledge.proofs.Winners.{by_key, winners_rise}
use Rattle.adr_law_knowledge.proofs.Comparing.{objects_same}
use Rattle.adr_law_calls.proofs.Rows.{updated}
use Rattle.adr_law_calls.specs.MayWrites.{after_item, MayWriteInTurn}
use Rattle.adr_law_calls.proofs.InTurn.{first_by_itself, only_one}
use Rattle.adr_law_calls.proofs.WriteFormed.{stands, are_written, write_formed}
use Rattle.adr_law_calls.proofs.WriteForms.{classes_stay}
use Rattle.adr_law_calls.proofs.Reviving.{MayRelink, AreApart, only, write, next, rest}
use Rattle.adr_model.specs.Spelled.{AreLocalsRising}
use Rattle.adr_law_calls.specs.Follow.{MayFollow, MayFollowInTurn, AreWithinLimits, HasKnownClasses, after_write}
use Rattle.adr_law_calls.proofs.ItemMay.{new_is_above}
use Rattle.adr_law_calls.proofs.OwnWrite.{says_of_written}

-- ---- values that are shown rise by attribute

module _ (o : Oid) where
  of_values : (vs : List Datum) (attr : ℕ) (g : Given) → with_values attr vs ≡ Some g → attr ≡ g.0
  of_values [] attr g e = absurd (cc)
  of_values (v ∷ vs) attr g e = let same : (attr, v ∷ vs) ≡ g = cc in ap (λ (h : Given). h.0) same

  -- values are given by a row of their attribute
  gives : (k : Key) (s : Said) (g : Given) → values_in o k s ≡ Some g → k ≡ RowOf o g.0
  gives (RowOf p attr) (Holds (Values vs)) g e = by (same_object p o) refl e
    where
      by : (b : Bool) → same_object p o ≡ b → (if b then with_values attr vs else None) ≡ Some g → RowOf p attr ≡ RowOf o g.0
      by true same h = ap (λ q. RowOf q attr) (objects_tell p o same) ∙ ap (RowOf o) (of_values vs attr g h)
      by false same h = absurd (cc)
  gives (RowOf p attr) (Holds (Class class)) g e = absurd (cc)
  gives (RowOf p attr) (Holds (Name text parent)) g e = absurd (cc)
  gives (RowOf p attr) (Holds Dead) g e = absurd (cc)
  gives (RowOf p attr) (IsPresent b) g e = absurd (cc)
  gives (LinkOf l) said g e = absurd (cc)

  -- and there are some
  some_given : (k : Key) (s : Said) (g : Given) → values_in o k s ≡ Some g → g.1 ≡ [] → ⊥
  some_given (RowOf p attr) (Holds (Values vs)) g e none = by (same_object p o) vs e
    where
      by : (b : Bool) (vs : List Datum) → (if b then with_values attr vs else None) ≡ Some g → ⊥
      by true [] h = absurd (cc)
      by true (v ∷ vs) h = let same : (attr, v ∷ vs) ≡ g = cc in let nil : v ∷ vs ≡ [] = ap (λ (x : Given). x.1) same ∙ none in absurd (cc)
      by false vs h = absurd (cc)
  some_given (RowOf p attr) (Holds (Class class)) g e none = absurd (cc)
  some_given (RowOf p attr) (Holds (Name text parent)) g e none = absurd (cc)
  some_given (RowOf p attr) (Holds Dead) g e none = absurd (cc)
  some_given (RowOf p attr) (IsPresent b) g e none = absurd (cc)
  some_given (LinkOf l) said g e none = absurd (cc)

  some_shown : (us : List Update) (g : Given) → Member g (values_at us o) → g.1 ≡ [] → ⊥
  some_shown us g m = let t = of_filter_map (λ (v : Update). values_in o v.key v.said) us g m in some_given t.0.key t.0.said g t.2

  less_by_attr : (a b : ℕ) → key_order (RowOf o a) (RowOf o b) ≡ Less → nat_cmp a b ≡ Less
  less_by_attr a b less = sym (ap (λ c. ordering_then c (nat_cmp a b)) (equal_order (object_order o o) (objects_same o o refl))) ∙ less

  all_less : (a : ℕ) (gs : List Given) → Each (λ (g : Given). nat_cmp a g.0 ≡ Less) gs → AllByRecursion (λ b. nat_cmp a b ≡ Less) (attributes gs)
  all_less a [] each = tt
  all_less a (g ∷ gs) each = (each g (inl refl), all_less a gs (λ h m. each h (inr m)))

  pub values_rise : (us : List Update) → Rises by_key us → AreInOrder (values_at us o)
  unfolding IsStrictlySortedBy
  values_rise [] r = tt
  values_rise (u ∷ us) r = by (values_in o u.key u.said) refl (values_rise us r.1)
    where
      by : (x : Option Given) → values_in o u.key u.said ≡ x → IsStrictlySortedBy nat_cmp (attributes (values_at us o)) → IsStrictlySortedBy nat_cmp (attributes (cons_option x (values_at us o)))
      by None is h = h
      by (Some g) is h = (all_less g.0 (values_at us o) each, h)
        where
          each : Each (λ (k : Given). nat_cmp g.0 k.0 ≡ Less) (values_at us o)
          each k m =
              let t = of_filter_map (λ (v : Update). values_in o v.key v.said) us k m in
              less_by_attr g.0 k.0 (subst (λ i. key_order i (RowOf o k.0) ≡ Less) (gives u.key u.said g is) (subst (λ i. key_order u.key i ≡ Less) (gives t.0.key t.0.said k t.2) (r.0 t.0 t.1)))

pub live_values_rise : (us : List Update) (o : Oid) → AreInOrder (values_at (live_rows us) o)
live_values_rise us o = values_rise o (live_rows us) (filter_rises by_key (λ (u : Update). list_all (is_among (live us)) (ends u.key)) (winners us) (winners_rise us))

nothing_rises : AreInOrder []
unfolding IsStrictlySortedBy
nothing_rises = tt

pub shown_in_order : (image : Store) (guid : Identifier) → AreInOrder (entry_in image guid).values
shown_in_order image guid = by (shown_in image guid) refl
  where
    of_entry : (e : Entry) → Member e (directory (updates_of image.rows)) → AreInOrder e.values
    of_entry e m =
        let n = mapped_member (entry_of (live_rows (updates_of image.rows)) (nodes_held (updates_of image.rows))) (nodes_held (updates_of image.rows)) e m in
        subst (λ (x : Entry). AreInOrder x.values) (sym n.2) (values_rise n.0.object (live_rows (updates_of image.rows))
        (filter_rises by_key (λ (u : Update). list_all (is_among (live (updates_of image.rows))) (ends u.key)) (winners (updates_of image.rows)) (winners_rise (updates_of image.rows))))

    by : (f : Option Entry) → shown_in image guid ≡ f → AreInOrder (entry_in image guid).values
    by None is = subst (λ (f : Option Entry). AreInOrder (unwrap_or f (no_entry guid)).values) (sym is) nothing_rises
    by (Some e) is = subst (λ (f : Option Entry). AreInOrder (unwrap_or f (no_entry guid)).values) (sym is) (of_entry e (found_member (λ (x : Entry). same_identifier x.guid guid) (directory (updates_of image.rows)) e is).0)

pub some_values_shown : (image : Store) (guid : Identifier) (g : Given) → Member g (entry_in image guid).values → g.1 ≡ [] → ⊥
some_values_shown image guid g m = by (shown_in image guid) refl m
  where
    of_entry : (e : Entry) → Member e (directory (updates_of image.rows)) → Member g e.values → g.1 ≡ [] → ⊥
    of_entry e l k =
        let n = mapped_member (entry_of (live_rows (updates_of image.rows)) (nodes_held (updates_of image.rows))) (nodes_held (updates_of image.rows)) e l in
        some_shown n.0.object (live_rows (updates_of image.rows)) g (subst (λ (x : Entry). Member g x.values) n.2 k)

    by : (f : Option Entry) → shown_in image guid ≡ f → Member g (unwrap_or (shown_in image guid) (no_entry guid)).values → g.1 ≡ [] → ⊥
    by None is k = absurd (subst (λ (f : Option Entry). Member g (unwrap_or f (no_entry guid)).values) is k)
    by (Some e) is k = of_entry e (found_member (λ (x : Entry). same_identifier x.guid guid) (directory (updates_of image.rows)) e is).0 (subst (λ (f : Option Entry). Member g (unwrap_or f (no_entry guid)).values) is k)

-- ---- rows behind one item

pub behind_one : (t : State) (w : Written) → w.local ≡ t.store.usn + 1 → after_write t.store.rows w ≡ (after_item t w.item).store.rows
behind_one t w local = ap (λ (n : ℕ). rows_after [] (held_of (record { local = n; item = w.item } ∷ [])) t.store.rows) local

pub within_limits : (t : State) → IsFormed t → AreWithinLimits t.store.rows
within_limits t formed = (formed.store.limits.objects, formed.store.limits.links)

pub one_rises : (k : Key) → IsStrictlySortedBy key_order (k ∷ [])
unfolding IsStrictlySortedBy
one_rises k = (tt, tt)

-- ---- links, one after the other

module _ (s : State) (now : ℕ) (table : Table) (vector : Cursors) where
  link_follows : (t : State) (l : LinkKey) (ls : List LinkKey) (usn : ℕ) → MayRelink t (l ∷ ls) → MayFollow table vector t.store.rows (link_row s now usn l).item
  link_follows t l ls usn may = record {
    some = (_, inl refl);
    form = record {
      of_unit = (write s now t l ls usn may).put.of_unit;
      rising = one_rises (LinkOf l);
      says = says_of_written t (Link l) (link_row s now usn l).item.rows (write s now t l ls usn may);
    };
    greater = λ u m. new_is_above t.store.rows u (λ h n e. may.none l (inl refl) h.update (updated t.store.rows h n) (e ∙ only s now t l ls usn may u m));
    unit = λ o m. let h = may.alive l (inl refl) o m in (h.1, inl h.0);
  }

  pub links_follow : (t : State) (ls : List LinkKey) (usn : ℕ) → usn ≡ t.store.usn + 1 → AreApart ls → MayRelink t ls → MayFollowInTurn table vector t.store.rows (new_links s now usn ls)
  links_follow t [] usn e apart may = tt
  links_follow t (l ∷ ls) usn e apart may = (
    link_follows t l ls usn may,
    subst AreWithinLimits (sym (behind_one t (link_row s now usn l) e)) (within_limits (next s now t l ls usn may) (rest s now t l ls usn may apart.0).formed),
    subst (λ (rows : List Held). MayFollowInTurn table vector rows (new_links s now (usn + 1) ls)) (sym (behind_one t (link_row s now usn l) e))
        (links_follow (next s now t l ls usn may) ls (usn + 1) (ap (λ (n : ℕ). n + 1) e) apart.1 (rest s now t l ls usn may apart.0)),
  )

  pub links_local : (usn above last : ℕ) (ls : List LinkKey) → above < usn → usn + length (new_links s now usn ls) ≤ last + 1 → AreLocalsRising above last (new_links s now usn ls)
  links_local usn above last [] less le = tt
  links_local usn above last (l ∷ ls) less le = (omega (arith, less), omega (arith, le), links_local (usn + 1) usn last ls (omega arith) (omega (arith, le)))

-- ---- classes stay known

pub in_turn_known : (s : State) (w : Written) (ws : List Written) → IsFormed s → MayWriteInTurn s (w ∷ ws) → HasKnownClasses s → HasKnownClasses (after s (own_change s (w ∷ ws)))
in_turn_known s w [] formed may known = subst HasKnownClasses (sym (only_one s w may.0)) (classes_stay s w.item.rows (stands s w.item) (are_written s w.item formed may.1) w.item.unit may.1 known)
in_turn_known s w (v ∷ vs) formed may known =
    subst HasKnownClasses (sym (first_by_itself s formed w (v ∷ vs) may.0))
    (in_turn_known (after_item s w.item) v vs (write_formed s w.item formed may.1) may.2 (classes_stay s w.item.rows (stands s w.item) (are_written s w.item formed may.1) w.item.unit may.1 known))
