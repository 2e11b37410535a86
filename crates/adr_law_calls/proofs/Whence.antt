-- Whence the rows, cursors and marks after a change are: what holds of each before and of each that the
-- change brings holds of each after.
use Rattle.std.proofs.Common.{◌≡◌, ◌⊎◌, inl, inr, ⊎_elim, ℕ, ◌≤◌, List, [], ◌∷◌, ◌++◌, Option, Some, None, refl, sym, ap, ◌∙◌, subst, fold, map, flat_map}
use Rattle.std.specs.List.{AllByRecursion}
use Rattle.std.specs.List.Sorted.{IsStrictlySortedBy}
use Rattle.std.specs.BTreeMap.{insert_entry}
use Rattle.std.specs.Ordering.{match_ordering}
use Rattle.std.specs.declared.cmp.Ordering.{Ordering}
use Rattle.std.specs.declared.cmp.Ordering.TheVariants.{Less, Equal, Greater}
use Rattle.std.specs.Option.{IfSome}
use Rattle.std.proofs.lemmas.Cmp.{nat_list_cmp_total}
use Rattle.std.proofs.lemmas.Map.Lookups.{exact_bytes}
use Rattle.adr_values.specs.Order.{identifier_order}
use Rattle.adr_values.specs.Numbered.{numbered}
use Rattle.adr_values.specs.Vector.{joined}
use Rattle.adr_values.proofs.Cursors.{turned}
use Rattle.adr_model.specs.Member.{Member, Each}
use Rattle.adr_model.specs.Update.{Identifier, Update}
use Rattle.adr_model.specs.Store.{Held, PartnerMark, State, updates_of}
use Rattle.adr_model.specs.Change.{Item, Written, Change, held_of, updates_written, with_mark, after}
use Rattle.adr_model.specs.Take.{Taking, begin, rows_taken, writes_of, take_item, take_items}
use Rattle.adr_model.proofs.Members.{flat_member, member_flat, mapped_member, member_of_either}
use Rattle.adr_law_calls.proofs.Units.{change_from}
use Rattle.adr_law_calls.proofs.Tables.{entry_from}
use Rattle.adr_law_calls.proofs.Joined.{raised_from, joined_from}
use Rattle.adr_law_calls.specs.Puts.{held_at}
use Rattle.adr_law_calls.proofs.Rows.{updated, held_as}
use Rattle.adr_law_calls.proofs.ItemPut.{taken_from}

-- ---- rows

pub rows_from : (P : Update → Type 0) (s : State) (c : Change) → Each P (updates_of s.store.rows)
    → Each P (updates_written c) → Each P (updates_of (after s c).store.rows)
rows_from P s c old new u m = let h = held_as (after s c).store.rows u m in by h
    (change_from c.removed (held_of c.writes) s.store.rows h.0 h.1)
  where
    by : (h : (h : Held) × Member h (after s c).store.rows × (u ≡ h.update))
        → Member h.0 (held_of c.writes) ⊎ Member h.0 s.store.rows → P u
    by h (inl n) =
        let t = flat_member (λ (w : Written). map (held_at w.local) w.item.rows) c.writes h.0 n in
        let v = mapped_member (held_at t.0.local) t.0.item.rows h.0 t.2 in
        let same : u ≡ v.0 = h.2 ∙ ap (λ (x : Held). x.update) v.2 in
        subst P (sym same) (new v.0 (member_flat (λ (w : Written). w.item.rows) c.writes t.0 v.0 t.1 v.1))
    by h (inr n) = subst P (sym h.2) (old h.0.update (updated s.store.rows h.0 n))

-- ---- cursors

pub cursors_from : (P : Identifier × ℕ → Type 0) (s : State) (c : Change) → Each P s.store.vector
    → Each P c.joined → (1 ≤ c.usn → P (s.inv, c.usn)) → Each P (after s c).store.vector
cursors_from P s c old new own e m = ⊎_elim (λ t. subst P (sym t.0) (own t.1))
    (λ n. ⊎_elim (new e) (old e) (joined_from c.joined s.store.vector e n))
    (raised_from (joined s.store.vector c.joined) s.inv c.usn e m)

pub purged_from : (P : Identifier × ℕ → Type 0) (s : State) (c : Change) → Each P s.store.purged
    → Each P c.purged → Each P (after s c).store.purged
purged_from P s c old new e m = ⊎_elim (new e) (old e) (joined_from c.purged s.store.purged e m)

-- ---- marks

abbrev partners : List (Identifier × PartnerMark) → List Identifier
partners marks = map (λ (k : Identifier × PartnerMark). k.0) marks

pub marks_from : (P : Identifier × PartnerMark → Type 0) (s : State) (c : Change) → Each P s.store.marks
    → IfSome c.mark P → Each P (after s c).store.marks
marks_from P s c old new = by c.mark new
  where
    by : (o : Option (Identifier × PartnerMark)) → IfSome o P → Each P (with_mark o s.store.marks)
    by None n k m = old k m
    by (Some x) n k m = ⊎_elim (λ same. subst P (sym same) n) (old k)
        (entry_from identifier_order exact_bytes s.store.marks x.0 x.1 k m)

below_inserted : (a : Identifier) (ks : List (Identifier × PartnerMark)) (id : Identifier) (k : PartnerMark)
    → identifier_order a id ≡ Less → AllByRecursion (λ b. identifier_order a b ≡ Less) (partners ks)
    → AllByRecursion (λ b. identifier_order a b ≡ Less) (partners (insert_entry identifier_order ks id k))
below_inserted a [] id k less all = (less, tt)
below_inserted a (x ∷ xs) id k less all = by (identifier_order id x.0) (below_inserted a xs id k less all.1)
  where
    by : (r : Ordering)
        → AllByRecursion (λ b. identifier_order a b ≡ Less) (partners (insert_entry identifier_order xs id k))
        → AllByRecursion (λ b. identifier_order a b ≡ Less) (partners (match_ordering r ((id, k) ∷ x ∷ xs) ((x.0, k) ∷ xs) (x ∷ insert_entry identifier_order xs id k)))
    by Less rest = (less, all)
    by Equal rest = all
    by Greater rest = (all.0, rest)

all_below : (a b : Identifier) (ids : List Identifier) → identifier_order a b ≡ Less
    → AllByRecursion (λ c. identifier_order b c ≡ Less) ids
    → AllByRecursion (λ c. identifier_order a c ≡ Less) ids
all_below a b [] less all = tt
all_below a b (c ∷ cs) less all = (nat_list_cmp_total.trans a b c less all.0, all_below a b cs less all.1)

inserted_rise : (ks : List (Identifier × PartnerMark)) (id : Identifier) (k : PartnerMark)
    → IsStrictlySortedBy identifier_order (partners ks)
    → IsStrictlySortedBy identifier_order (partners (insert_entry identifier_order ks id k))
unfolding IsStrictlySortedBy
inserted_rise [] id k rising = (tt, tt)
inserted_rise (x ∷ xs) id k rising = by (identifier_order id x.0) refl (inserted_rise xs id k rising.1)
  where
    by : (r : Ordering) → identifier_order id x.0 ≡ r
        → IsStrictlySortedBy identifier_order (partners (insert_entry identifier_order xs id k))
        → IsStrictlySortedBy identifier_order (partners (match_ordering r ((id, k) ∷ x ∷ xs) ((x.0, k) ∷ xs) (x ∷ insert_entry identifier_order xs id k)))
    by Less e rest = ((e, all_below id x.0 (partners xs) e rising.0), rising)
    by Equal e rest = rising
    by Greater e rest = (below_inserted x.0 xs id k (turned id x.0 e) rising.0, rest)

pub partners_rise : (s : State) (c : Change)
    → IsStrictlySortedBy identifier_order (map (λ (k : Identifier × PartnerMark). k.0) s.store.marks)
    → IsStrictlySortedBy identifier_order (map (λ (k : Identifier × PartnerMark). k.0) (after s c).store.marks)
partners_rise s c rising = by c.mark
  where
    by : (o : Option (Identifier × PartnerMark))
        → IsStrictlySortedBy identifier_order (partners (with_mark o s.store.marks))
    by None = rising
    by (Some x) = inserted_rise s.store.marks x.0 x.1 rising

-- ---- what a taken reply writes is of it

module _ (s : State) (P : Update → Type 0) where
  abbrev rows_of : List Written → List Update
  rows_of ws = flat_map (λ (w : Written). w.item.rows) ws

  one_write : (usn : ℕ) (i : Item) (us : List Update) → Each P us → Each P (rows_of (writes_of usn i us))
  one_write usn i [] each u m = absurd m
  one_write usn i (v ∷ vs) each u m = let t = flat_member (λ (w : Written). w.item.rows) (writes_of usn i (v ∷ vs)) u m in by t.0 t.1 t.2
    where
      by : (w : Written) → Member w (writes_of usn i (v ∷ vs)) → Member u w.item.rows → P u
      by w (inl e) n = each u (subst (λ (z : Written). Member u z.item.rows) e n)
      by w (inr k) n = absurd k

  more_writes : (ws vs : List Written) → Each P (rows_of ws) → Each P (rows_of vs)
      → Each P (rows_of (ws ++ vs))
  more_writes ws vs old new u m =
      let t = flat_member (λ (w : Written). w.item.rows) (ws ++ vs) u m in
      ⊎_elim (λ l. old u (member_flat (λ (w : Written). w.item.rows) ws t.0 u l t.2)) (λ r. new u (member_flat (λ (w : Written). w.item.rows) vs t.0 u r t.2)) (member_of_either ws vs t.0 t.1)

  all_items : (is : List Item) (t : Taking) → Each P (rows_of t.writes)
      → Each (λ (i : Item). Each P i.rows) is
      → Each P (rows_of (fold (take_item (numbered s.store.schema) s.store.vector) t is).writes)
  all_items [] t old each = old
  all_items (i ∷ is) t old each = all_items is (take_item (numbered s.store.schema) s.store.vector t i)
      (more_writes t.writes (writes_of t.usn i (rows_taken s.store.vector t.rows i)) old (one_write t.usn i (rows_taken s.store.vector t.rows i) (λ u m. each i (inl refl) u (taken_from s.store.vector t.rows i.unit i.rows u m))))
      (λ j m. each j (inr m))

  pub taken_rows_from : (is : List Item) → Each (λ (i : Item). Each P i.rows) is
      → Each P (rows_of (take_items s is).writes)
  taken_rows_from is each = all_items is (begin s) (λ u m. absurd m) each

-- ---- whence all is

pub whence_rows : (s : State) (c : Change)
    → Each (λ u. Member u (updates_of s.store.rows) ⊎ Member u (updates_written c))
    (updates_of (after s c).store.rows)
whence_rows s c = rows_from (λ u. Member u (updates_of s.store.rows) ⊎ Member u (updates_written c)) s c
    (λ u m. inl m) (λ u m. inr m)

pub whence_cursors : (s : State) (c : Change)
    → Each (λ e. Member e s.store.vector ⊎ (Member e c.joined ⊎ ((e ≡ (s.inv, c.usn)) × (1 ≤ c.usn))))
    (after s c).store.vector
whence_cursors s c = cursors_from
    (λ e. Member e s.store.vector ⊎ (Member e c.joined ⊎ ((e ≡ (s.inv, c.usn)) × (1 ≤ c.usn)))) s c
    (λ e m. inl m) (λ e m. inr (inl m)) (λ one. inr (inr (refl, one)))

pub whence_purged : (s : State) (c : Change)
    → Each (λ e. Member e s.store.purged ⊎ Member e c.purged) (after s c).store.purged
whence_purged s c = purged_from (λ e. Member e s.store.purged ⊎ Member e c.purged) s c (λ e m. inl m)
    (λ e m. inr m)

pub whence_marks : (s : State) (c : Change)
    → Each (λ k. Member k s.store.marks ⊎ (c.mark ≡ Some k)) (after s c).store.marks
whence_marks s c = marks_from (λ k. Member k s.store.marks ⊎ (c.mark ≡ Some k)) s c (λ k m. inl m)
    (brought c.mark refl)
  where
    brought : (o : Option (Identifier × PartnerMark)) → c.mark ≡ o
        → IfSome o (λ k. Member k s.store.marks ⊎ (c.mark ≡ Some k))
    brought None e = tt
    brought (Some k) e = inr e

pub whence_times : (s : State) (c : Change) → Each (λ t. Member t s.store.times ⊎ Member t c.times) (after s c).store.times
whence_times s c t m = ⊎_elim (λ n. inr n) (λ o. inl o) (joined_from c.times s.store.times t m)
