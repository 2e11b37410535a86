-- What a store reflects goes up along stamps, and stays along steps.
use Rattle.std.proofs.Common.{◌≡◌, ◌⊎◌, inl, inr, ⊎_elim, ℕ, ◌≤◌, List, ap, ◌∙◌, subst, arith, true, ◌&&◌, ◌==◌}
use Rattle.std.proofs.lemmas.Bool.{eqb-true, and_parts}
use Rattle.adr_values.specs.declared.stamp.Oid.{Oid}
use Rattle.adr_values.proofs.Cursors.{same_from_test}
use Rattle.adr_model.specs.Take.{is_birth}
use Rattle.adr_model.specs.Member.{Member, Each}
use Rattle.adr_model.specs.Update.{Update, RowOf, ends, inv_of, usn_of, same_identifier, class_attr, deleted_attr}
use Rattle.adr_model.specs.Reflects.{Numbers, Covers, CoversBirth, AtMost, Supersedes, IsDeathOf, IsDeath, Knowledge, HoldsAtLeast, HoldsObject, IsTombstoned, IsPurged, Reflects}
use Rattle.adr_law_knowledge.specs.Grows.{IsOutlived, Grows, Keeps}
use Rattle.adr_law_knowledge.proofs.Comparing.{supersedes_trans, supersedes_self}

pub covers_up : (V W : Numbers) (u : Update) → AtMost V W → Covers V u → Covers W u
covers_up V W u up c = let step : V (inv_of u) ≤ W (inv_of u) = up (inv_of u) in omega (arith, c, step)

-- a row is about one object
pub only_end : (o : Oid) (attr : ℕ) (p : Oid) → Member p (ends (RowOf o attr)) → p ≡ o
only_end o attr p (inl e) = e
only_end o attr p (inr n) = absurd n

pub end_of_row : (u : Update) (o : Oid) (attr : ℕ) (p : Oid) → u.key ≡ RowOf o attr → Member p (ends u.key) → p ≡ o
end_of_row u o attr p is m = only_end o attr p (subst (λ k. Member p (ends k)) is m)

pub holds_up : (rows : List Update) (r u : Update) → HoldsAtLeast rows r → Supersedes r u → HoldsAtLeast rows u
holds_up rows r u h s = (h.0, h.1, supersedes_trans h.0 r u h.2 s)

pub reflects_up : (issued : List Update) (k : Knowledge) (r u : Update) → Reflects issued k r → Supersedes r u → (IsDeath u → Covers k.vector u) → Reflects issued k u
reflects_up issued k r u (inl h) s c = inl (holds_up k.rows r u h s)
reflects_up issued k r u (inr (o, m, inl t)) s c = inr (o, subst (λ x. Member o (ends x)) s.key m, inl (t.0, c))
reflects_up issued k r u (inr (o, m, inr g)) s c = inr (o, subst (λ x. Member o (ends x)) s.key m, inr g)

pub death_reflected : (issued : List Update) (k : Knowledge) (d : Update) (o : Oid) → IsDeathOf o d → Reflects issued k d → IsTombstoned k.rows o ⊎ IsPurged issued k o
death_reflected issued k d o is (inl (r, m, s)) = inl (r, m, s.key ∙ is)
death_reflected issued k d o is (inr (p, m, b)) =
    subst (λ x. IsTombstoned k.rows x ⊎ IsPurged issued k x) (end_of_row d o deleted_attr p is m) (⊎_elim (λ t. inl t.0) (λ g. inr g) b)

pub reflects_by_death : (issued : List Update) (k : Knowledge) (u : Update) (o : Oid) → Member o (ends u.key) → IsTombstoned k.rows o ⊎ IsPurged issued k o → (IsDeath u → Covers k.vector u) → Reflects issued k u
reflects_by_death issued k u o m (inl t) c = inr (o, m, inl (t, c))
reflects_by_death issued k u o m (inr g) c = inr (o, m, inr g)

tombstone_held : (rows : List Update) (o : Oid) → IsTombstoned rows o → HoldsObject rows o
tombstone_held rows o (r, m, is) = (r, deleted_attr, m, is)

pub absent_is_purged : (issued : List Update) (k : Knowledge) (b : Update) (o : Oid) (attr : ℕ) → b.key ≡ RowOf o attr → Reflects issued k b → (HoldsObject k.rows o → ⊥) → IsPurged issued k o
absent_is_purged issued k b o attr is (inl (r, m, s)) lacks = absurd (lacks (r, attr, m, s.key ∙ is))
absent_is_purged issued k b o attr is (inr (p, m, inl t)) lacks =
    absurd (lacks (tombstone_held k.rows o (subst (λ x. IsTombstoned k.rows x) (end_of_row b o attr p is m) t.0)))
absent_is_purged issued k b o attr is (inr (p, m, inr g)) lacks = subst (λ x. IsPurged issued k x) (end_of_row b o attr p is m) g

-- where each end is held and not dead, only the update itself, or one that supersedes it, can be what was taken
pub standing_is_held : (issued : List Update) (k : Knowledge) (u : Update) → Each (λ o. HoldsObject k.rows o × (IsTombstoned k.rows o → ⊥)) (ends u.key) → Reflects issued k u → HoldsAtLeast k.rows u
standing_is_held issued k u stand (inl h) = h
standing_is_held issued k u stand (inr (o, m, inl t)) = absurd ((stand o m).1 t.0)
standing_is_held issued k u stand (inr (o, m, inr g)) = absurd (g.absent (stand o m).0)

pub carry_over : (issued : List Update) (from to : Knowledge) → AtMost from.vector to.vector
    → Each (λ r. Reflects issued to r) from.rows
    → Each (λ d. Covers from.purged d → Reflects issued to d) issued
    → (u : Update) → Covers from.vector u → Reflects issued from u → Reflects issued to u
carry_over issued from to up rows old u c (inl (r, m, s)) = reflects_up issued to r u (rows r m) s (λ _. covers_up from.vector to.vector u up c)
carry_over issued from to up rows old u c (inr (o, m, inl ((d, n, is), f))) =
    reflects_by_death issued to u o m (death_reflected issued to d o is (rows d n)) (λ _. covers_up from.vector to.vector u up c)
carry_over issued from to up rows old u c (inr (o, m, inr g)) =
    reflects_by_death issued to u o m (death_reflected issued to g.death o g.is_death (old g.death g.is_issued g.is_covered)) (λ _. covers_up from.vector to.vector u up c)

same_death : (r u : Update) → r.key ≡ u.key → IsDeath u → IsDeath r
same_death r u e d = (d.0, e ∙ d.1)

outlived_up : (issued : List Update) (k : Knowledge) (r u : Update) → Supersedes r u → HoldsAtLeast k.rows r ⊎ IsOutlived issued k r → HoldsAtLeast k.rows u ⊎ IsOutlived issued k u
outlived_up issued k r u s (inl h) = inl (holds_up k.rows r u h s)
outlived_up issued k r u s (inr (o, n, inl t)) = inr (o, subst (λ x. Member o (ends x)) s.key n, inl (t.0, λ d. t.1 (same_death r u s.key d)))
outlived_up issued k r u s (inr (o, n, inr p)) = inr (o, subst (λ x. Member o (ends x)) s.key n, inr p)

outlived_reflected : (issued : List Update) (k : Knowledge) (u : Update) → HoldsAtLeast k.rows u ⊎ IsOutlived issued k u → Reflects issued k u
outlived_reflected issued k u (inl h) = inl h
outlived_reflected issued k u (inr (o, m, inl t)) = inr (o, m, inl (t.0, λ d. absurd (t.1 d)))
outlived_reflected issued k u (inr (o, m, inr p)) = inr (o, m, inr p)

pub grows_keeps : (issued : List Update) (before after : Knowledge) → Grows issued before after → Keeps issued before after
grows_keeps issued before after g u (inl (r, m, s)) = outlived_reflected issued after u (outlived_up issued after r u s (g.row r m))
grows_keeps issued before after g u (inr (o, m, inl t)) =
    reflects_by_death issued after u o m (g.tombstone o t.0) (λ d. covers_up before.vector after.vector u g.vector (t.1 d))
grows_keeps issued before after g u (inr (o, m, inr p)) = inr (o, m, inr (g.purge o p))

pub grows_self : (issued : List Update) (k : Knowledge) → Grows issued k k
grows_self issued k = record { row = λ r m. inl (r, m, supersedes_self r); tombstone = λ o t. inl t; purge = λ o p. p; vector = λ i. omega arith }

-- the same rows under vectors that are further on
pub more_covered : (issued rows : List Update) (V W P Q : Numbers) → AtMost V W → AtMost P Q
    → Grows issued (record { rows = rows; vector = V; purged = P }) (record { rows = rows; vector = W; purged = Q })
more_covered issued rows V W P Q vector purged = record {
  row = λ r m. inl (r, m, supersedes_self r);
  tombstone = λ o t. inl t;
  purge = λ o g. record {
    absent = g.absent;
    birth = omega (arith, g.birth, purged o.birth.inv);
    death = g.death;
    is_issued = g.is_issued;
    is_death = g.is_death;
    is_covered = omega (arith, g.is_covered, purged (inv_of g.death));
  };
  vector = vector;
}

pub grows_trans : (issued : List Update) (a b c : Knowledge) → Grows issued a b → Grows issued b c → Grows issued a c
grows_trans issued a b c g h = record { row = row; tombstone = tombstone; purge = λ o p. h.purge o (g.purge o p); vector = λ i. omega (arith, g.vector i, h.vector i) }
  where
    tombstone : (o : Oid) → IsTombstoned a.rows o → IsTombstoned c.rows o ⊎ IsPurged issued c o
    tombstone o t = ⊎_elim (λ s. h.tombstone o s) (λ p. inr (h.purge o p)) (g.tombstone o t)

    outlived : (r : Update) (o : Oid) → Member o (ends r.key) → (IsDeath r → ⊥) → IsTombstoned c.rows o ⊎ IsPurged issued c o → IsOutlived issued c r
    outlived r o m never (inl t) = (o, m, inl (t, never))
    outlived r o m never (inr p) = (o, m, inr p)

    row : Each (λ r. HoldsAtLeast c.rows r ⊎ IsOutlived issued c r) a.rows
    row r m = by (g.row r m)
      where
        by : HoldsAtLeast b.rows r ⊎ IsOutlived issued b r → HoldsAtLeast c.rows r ⊎ IsOutlived issued c r
        by (inl (s, n, up)) = outlived_up issued c s r up (h.row s n)
        by (inr (o, n, inl t)) = inr (outlived r o n t.1 (h.tombstone o t.0))
        by (inr (o, n, inr p)) = inr (o, n, inr (h.purge o p))

more_issued_purged : (issued more : List Update) (k : Knowledge) (o : Oid) → Each (λ u. Member u more) issued → IsPurged issued k o → IsPurged more k o
more_issued_purged issued more k o up g = record { absent = g.absent; birth = g.birth; death = g.death; is_issued = up g.death g.is_issued; is_death = g.is_death; is_covered = g.is_covered }

pub more_issued : (issued more : List Update) (k : Knowledge) (u : Update) → Each (λ v. Member v more) issued → Reflects issued k u → Reflects more k u
more_issued issued more k u up (inl h) = inl h
more_issued issued more k u up (inr (o, m, inl t)) = inr (o, m, inl t)
more_issued issued more k u up (inr (o, m, inr g)) = inr (o, m, inr (more_issued_purged issued more k o up g))

-- a birth carries its object's own write
pub birth_is : (o : Oid) (b : Update) → is_birth o b ≡ true → (inv_of b ≡ o.birth.inv) × (usn_of b ≡ o.birth.usn)
birth_is o b is = let p = and_parts ((b.stamp.stamp.version == 1) && same_identifier (inv_of b) o.birth.inv) (usn_of b == o.birth.usn) is in
    (same_from_test (inv_of b) o.birth.inv (and_parts (b.stamp.stamp.version == 1) (same_identifier (inv_of b) o.birth.inv) p.0).1, eqb-true (usn_of b) o.birth.usn p.1)

-- so it is covered where the object's birth is
birth_covered : (k : Knowledge) (b : Update) (o : Oid) → is_birth o b ≡ true → CoversBirth k.vector o → Covers k.vector b
birth_covered k b o is c = let p = birth_is o b is in omega (arith, c, ap k.vector p.0, p.1)

-- an object whose birth is covered and which isn't held was collected
pub covered_absent : (issued : List Update) (k : Knowledge) (b : Update) (o : Oid) → Each (λ u. Covers k.vector u → Reflects issued k u) issued
    → Member b issued → b.key ≡ RowOf o class_attr → is_birth o b ≡ true → CoversBirth k.vector o → (HoldsObject k.rows o → ⊥) → IsPurged issued k o
covered_absent issued k b o taken m is own c lacks = absent_is_purged issued k b o class_attr is (taken b m (birth_covered k b o own c)) lacks
