-- Rows of one unit that were put stand behind it, and nothing that was taken is lost.
use Rattle.std.proofs.Common.{◌≡◌, ◌⊎◌, inl, inr, ⊎_elim, ℕ, List, [], ◌∷◌, true, false, refl, sym, ap, ◌∙◌, subst, arith, fold, map}
use Rattle.std.specs.List.Sorted.{IsStrictlySortedBy}
use Rattle.std.specs.declared.cmp.Ordering.TheVariants.{Less}
use Rattle.adr_values.specs.declared.stamp.Oid.{Oid}
use Rattle.adr_values.specs.declared.stamp.Unit.{Unit as Named}
use Rattle.adr_model.specs.Member.{Member, Each}
use Rattle.adr_model.specs.Update.{RowOf, Update, key_order, ends, unit_of, deleted_attr}
use Rattle.adr_model.specs.Reflects.{Numbers, AtMost, Knowledge, IsDeath, IsDeathOf, HoldsAtLeast, HoldsObject, IsTombstoned, IsPurged}
use Rattle.adr_model.specs.Store.{Held, updates_of}
use Rattle.adr_model.specs.Change.{goes_with, put}
use Rattle.adr_model.specs.Take.{is_reserved_row}
use Rattle.adr_model.proofs.Members.{member_mapped, mapped_member}
use Rattle.adr_model.proofs.Keys.{keys_total}
use Rattle.adr_law_knowledge.specs.Grows.{IsOutlived, Grows}
use Rattle.adr_law_knowledge.specs.Rises.{Rises}
use Rattle.adr_law_knowledge.proofs.Counting.{rises_from, one_of_each}
use Rattle.adr_law_knowledge.proofs.Comparing.{supersedes_self}
use Rattle.adr_law_knowledge.proofs.Knows.{only_end}
use Rattle.adr_law_calls.specs.Puts.{held_at, under, MayPut, IsReplaced, IsStripped, ArePut}
use Rattle.adr_law_calls.proofs.Rows.{updated, held_as, row_of_unit, about, reserved_stays, below_death, death_stays, put_itself, put_keeps, put_bare, puts_from}

-- ---- rows are put one after the other

abbrev Alone : List Update → Type 0
Alone us = Each (λ u. Each (λ v. u.key ≡ v.key → u ≡ v) us) us

abbrev Bare : List Update → Type 0
Bare us = Each (λ d. IsDeath d → Each (λ u. is_reserved_row u.key ≡ true) us) us

-- no row is taken by a death that is put after it
abbrev AreInTurn : List Update → Type 0
AreInTurn [] = Unit {0}
AreInTurn (v ∷ us) = Each (λ d. (o : Oid) → IsDeathOf o d → goes_with o v.key ≡ false) us × AreInTurn us

in_turn_where_bare : (us : List Update) → Bare us → AreInTurn us
in_turn_where_bare [] bare = tt
in_turn_where_bare (v ∷ us) bare = ((λ d m o is. reserved_stays o v.key (bare d (inr m) (o, is) v (inl refl))), in_turn_where_bare us (λ d i is x j. bare d (inr i) is x (inr j)))

-- rows of one unit that rise by their keys: a death comes before all that it takes
in_turn_where_rising : (unit : Named) (us : List Update) → Each (λ u. unit_of u.key ≡ unit) us → IsStrictlySortedBy key_order (map (λ (u : Update). u.key) us) → AreInTurn us
in_turn_where_rising unit us of_unit rising = by us of_unit (rises_from key_order (map (λ (u : Update). u.key) us) rising)
  where
    before_death : (v d : Update) (o : Oid) → unit_of v.key ≡ unit_of d.key → key_order v.key d.key ≡ Less → IsDeathOf o d → goes_with o v.key ≡ false
    before_death v d o same less is = let t = row_of_unit v.key o (same ∙ ap unit_of is) in subst (λ k. goes_with o k ≡ false) (sym t.1)
        (below_death o t.0 (subst (λ k. key_order k (RowOf o deleted_attr) ≡ Less) t.1 (subst (λ k. key_order v.key k ≡ Less) is less)))

    by : (us : List Update) → Each (λ u. unit_of u.key ≡ unit) us → Rises key_order (map (λ (u : Update). u.key) us) → AreInTurn us
    by [] each rises = tt
    by (v ∷ us) each rises = (
      (λ d m o is. before_death v d o (each v (inl refl) ∙ sym (each d (inr m))) (rises.0 d.key (member_mapped (λ (u : Update). u.key) us d m)) is),
      by us (λ u m. each u (inr m)) rises.1,
    )

module _ (usn : ℕ) where
  puts_keep : (us : List Update) (rows : List Held) (x : Held) → Member x rows → IsReplaced us x ⊎ (IsStripped us x ⊎ Member x (fold put rows (under usn us)))
  puts_keep [] rows x m = inr (inr m)
  puts_keep (u ∷ us) rows x m = ⊎_elim (λ e. inl (u, inl refl, e))
      (λ t. ⊎_elim (λ s. inr (inl (u, s.0, inl refl, s.1, s.2))) (λ n. later (puts_keep us (put rows (held_at usn u)) x n)) t)
      (put_keeps rows (held_at usn u) x m)
    where
      later : {P : Type 0} → IsReplaced us x ⊎ (IsStripped us x ⊎ P) → IsReplaced (u ∷ us) x ⊎ (IsStripped (u ∷ us) x ⊎ P)
      later (inl (v, n, e)) = inl (v, inr n, e)
      later (inr (inl (d, o, n, is, g))) = inr (inl (d, o, inr n, is, g))
      later (inr (inr p)) = inr (inr p)

  -- a row that is put isn't replaced by another one, and no death takes it
  put_stands : (v : Update) (us : List Update) (rows : List Held) → Alone (v ∷ us) → AreInTurn (v ∷ us) → Each (λ u. Member (held_at usn u) rows) us
      → IsReplaced us (held_at usn v) ⊎ (IsStripped us (held_at usn v) ⊎ Member (held_at usn v) rows) → Member (held_at usn v) rows
  put_stands v us rows alone turn rest (inl (w, n, e)) = subst (λ x. Member (held_at usn x) rows) (alone w (inr n) v (inl refl) e) (rest w n)
  put_stands v us rows alone turn rest (inr (inl (d, o, n, is, g))) = let f : goes_with o v.key ≡ false = turn.0 d n o is in absurd (cc)
  put_stands v us rows alone turn rest (inr (inr n)) = n

  puts_write : (us : List Update) (rows : List Held) → Alone us → AreInTurn us → Each (λ u. Member (held_at usn u) (fold put rows (under usn us))) us
  puts_write [] rows alone turn u m = absurd m
  puts_write (v ∷ us) rows alone turn u m = by m (puts_write us (put rows (held_at usn v)) (λ x i y j. alone x (inr i) y (inr j)) turn.1)
    where
      by : Member u (v ∷ us) → Each (λ w. Member (held_at usn w) (fold put (put rows (held_at usn v)) (under usn us))) us → Member (held_at usn u) (fold put (put rows (held_at usn v)) (under usn us))
      by (inl e) rest = subst (λ x. Member (held_at usn x) (fold put (put rows (held_at usn v)) (under usn us))) (sym e)
          (put_stands v us (fold put (put rows (held_at usn v)) (under usn us)) alone turn rest (puts_keep us (put rows (held_at usn v)) (held_at usn v) (put_itself rows (held_at usn v))))
      by (inr n) rest = rest u n

  -- with a death there is nothing that it takes, but for what is put after it
  puts_bare : (us : List Update) (rows : List Held) → Each (λ d. (o : Oid) → IsDeathOf o d → Each (λ x. Member x (under usn us) ⊎ (goes_with o x.update.key ≡ false)) (fold put rows (under usn us))) us
  puts_bare [] rows d m o is x n = absurd m
  puts_bare (v ∷ us) rows d (inr m) o is x n = ⊎_elim (λ i. inl (inr i)) (λ f. inr f) (puts_bare us (put rows (held_at usn v)) d m o is x n)
  puts_bare (v ∷ us) rows d (inl same) o is x n = ⊎_elim
      (λ i. inl (inr i))
      (λ i. inr (put_bare rows (held_at usn v) o (ap (λ (u : Update). u.key) (sym same) ∙ is) x i))
      (puts_from (under usn us) (put rows (held_at usn v)) x n)

put_in_turn : (usn : ℕ) (before : List Held) (us : List Update) → Alone us → AreInTurn us → ArePut usn us before (fold put before (under usn us))
put_in_turn usn before us alone turn = record {
  written = puts_write usn us before alone turn;
  from = puts_from (under usn us) before;
  kept = puts_keep usn us before;
  bare = puts_bare usn us before;
}

pub are_put : (usn : ℕ) (before : List Held) (V : Numbers) (unit : Named) (us : List Update) → MayPut (updates_of before) V unit us → ArePut usn us before (fold put before (under usn us))
are_put usn before V unit us may = put_in_turn usn before us may.alone (in_turn_where_bare us may.bare)

pub rising_are_put : (usn : ℕ) (before : List Held) (unit : Named) (us : List Update) → Each (λ u. unit_of u.key ≡ unit) us → IsStrictlySortedBy key_order (map (λ (u : Update). u.key) us)
    → ArePut usn us before (fold put before (under usn us))
rising_are_put usn before unit us of_unit rising = put_in_turn usn before us (one_of_each key_order keys_total (λ (u : Update). u.key) us (rises_from key_order (map (λ (u : Update). u.key) us) rising))
    (in_turn_where_rising unit us of_unit rising)

-- ---- what was taken is kept

never_dies : (o : Oid) (u : Update) → goes_with o u.key ≡ true → IsDeath u → ⊥
never_dies o u g d = let f : goes_with o u.key ≡ false = death_stays o d.0 u.key d.1 in cc

module _ (usn : ℕ) (before after : List Held) (us : List Update) (are : ArePut usn us before after) where
  stands : (u : Update) → Member u us → Member u (updates_of after)
  stands u m = updated after (held_at usn u) (are.written u m)

  -- a row that no death takes stands, or another one of its key does
  stays : (r : Update) → Member r (updates_of before) → ((o : Oid) → goes_with o r.key ≡ true → ⊥) → (s : Update) × Member s (updates_of after) × (s.key ≡ r.key)
  stays r m never = let x = held_as before r m in by x.0 x.2 (are.kept x.0 x.1)
    where
      by : (x : Held) → r ≡ x.update → IsReplaced us x ⊎ (IsStripped us x ⊎ Member x after) → (s : Update) × Member s (updates_of after) × (s.key ≡ r.key)
      by x is (inl (u, n, e)) = (u, stands u n, e ∙ ap (λ (v : Update). v.key) (sym is))
      by x is (inr (inl (d, o, n, e, g))) = absurd (never o (ap (λ (v : Update). goes_with o v.key) is ∙ g))
      by x is (inr (inr n)) = (x.update, updated after x n, ap (λ (v : Update). v.key) (sym is))

  tombstones_stay : (o : Oid) → IsTombstoned (updates_of before) o → IsTombstoned (updates_of after) o
  tombstones_stay o (r, m, is) = let s = stays r m (λ p g. never_dies p r g (o, is)) in (s.0, s.1, s.2 ∙ is)

  object_stays : (o : Oid) → HoldsObject (updates_of before) o → HoldsObject (updates_of after) o
  object_stays o (r, attr, m, is) = let x = held_as before r m in by x.0 (ap (λ (v : Update). v.key) (sym x.2) ∙ is) (are.kept x.0 x.1)
    where
      by : (x : Held) → x.update.key ≡ RowOf o attr → IsReplaced us x ⊎ (IsStripped us x ⊎ Member x after) → HoldsObject (updates_of after) o
      by x e (inl (u, n, same)) = (u, attr, stands u n, same ∙ e)
      by x e (inr (inl (d, p, n, death, g))) = (d, deleted_attr, stands d n, death ∙ ap (λ q. RowOf q deleted_attr) (only_end o attr p (subst (λ k. Member p (ends k)) e (about p x.update.key g))))
      by x e (inr (inr n)) = (x.update, attr, updated after x n, e)

  module _ (issued : List Update) (V P : Numbers) (unit : Named) (may : MayPut (updates_of before) V unit us) (within : AtMost P V) where
    abbrev was : Knowledge
    was = record { rows = updates_of before; vector = V; purged = P }

    abbrev becomes : Knowledge
    becomes = record { rows = updates_of after; vector = V; purged = P }

    row_grows : Each (λ r. HoldsAtLeast (updates_of after) r ⊎ IsOutlived issued becomes r) (updates_of before)
    row_grows r m = let x = held_as before r m in
        subst (λ (v : Update). HoldsAtLeast (updates_of after) v ⊎ IsOutlived issued becomes v) (sym x.2) (by x.0 (subst (λ (v : Update). Member v (updates_of before)) x.2 m) (are.kept x.0 x.1))
      where
        by : (x : Held) → Member x.update (updates_of before) → IsReplaced us x ⊎ (IsStripped us x ⊎ Member x after) → HoldsAtLeast (updates_of after) x.update ⊎ IsOutlived issued becomes x.update
        by x i (inl (u, n, e)) = inl (u, stands u n, may.above u n x.update i (sym e))
        by x i (inr (inl (d, o, n, is, g))) = inr (o, about o x.update.key g, inl ((d, stands d n, is), never_dies o x.update g))
        by x i (inr (inr n)) = inl (x.update, updated after x n, supersedes_self x.update)

    -- an object that was collected doesn't come again
    stays_absent : (o : Oid) → IsPurged issued was o → HoldsObject (updates_of after) o → ⊥
    stays_absent o p (r, attr, m, is) = let x = held_as after r m in by x.0 (ap (λ (v : Update). v.key) (sym x.2) ∙ is) (are.from x.0 x.1)
      where
        by : (x : Held) → x.update.key ≡ RowOf o attr → Member x (under usn us) ⊎ Member x before → ⊥
        by x e (inr n) = p.absent (x.update, attr, updated before x n, e)
        by x e (inl n) = let u = mapped_member (held_at usn) us x n in
            ⊎_elim (λ h. p.absent h) (λ new. new (omega (arith, p.birth, within o.birth.inv)))
            (may.place o (sym (may.of_unit u.0 u.1) ∙ ap (λ (h : Held). unit_of h.update.key) (sym u.2) ∙ ap unit_of e))

    grows : Grows issued was becomes
    grows = record {
      row = row_grows;
      tombstone = λ o t. inl (tombstones_stay o t);
      purge = λ o p. record { absent = stays_absent o p; birth = p.birth; death = p.death; is_issued = p.is_issued; is_death = p.is_death; is_covered = p.is_covered };
      vector = λ i. omega arith;
    }

pub puts_grow : (issued : List Update) (usn : ℕ) (before after : List Held) (V P : Numbers) (unit : Named) (us : List Update) → MayPut (updates_of before) V unit us → ArePut usn us before after → AtMost P V
    → Grows issued (record { rows = updates_of before; vector = V; purged = P }) (record { rows = updates_of after; vector = V; purged = P })
puts_grow issued usn before after V P unit us may are within = grows usn before after us are issued V P unit may within

pub objects_stay : (usn : ℕ) (before after : List Held) (us : List Update) (o : Oid) → ArePut usn us before after → HoldsObject (updates_of before) o → HoldsObject (updates_of after) o
objects_stay usn before after us o are = object_stays usn before after us are o
