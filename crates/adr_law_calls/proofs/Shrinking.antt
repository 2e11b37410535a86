-- Removing dead objects whole, and covering their births and deaths by the purged vector, loses nothing that was taken.
use Rattle.std.proofs.Common.{◌≡◌, ◌⊎◌, inl, inr, ⊎_elim, ℕ, List, true, map, refl, sym, ap, ◌∙◌, subst, arith}
use Rattle.adr_values.specs.declared.stamp.Oid.{Oid}
use Rattle.adr_model.specs.Member.{Member, Each}
use Rattle.adr_model.specs.Update.{Update, RowOf, ends, inv_of, deleted_attr}
use Rattle.adr_model.specs.Reflects.{Numbers, Covers, CoversBirth, AtMost, Knowledge, HoldsAtLeast, HoldsObject, IsTombstoned, IsDeathOf, IsPurged}
use Rattle.adr_model.specs.Store.{Held, updates_of, is_row_of}
use Rattle.adr_model.proofs.Members.{mapped_member}
use Rattle.adr_law_knowledge.specs.Grows.{IsOutlived, Grows}
use Rattle.adr_law_knowledge.proofs.Comparing.{supersedes_self}
use Rattle.adr_law_calls.proofs.Rows.{updated, held_as, row_is_of}
use Rattle.adr_law_calls.specs.Collectable.{IsCollectable}
use Rattle.adr_law_calls.proofs.Removing.{without, row_of_tells, stands_or_goes, update_stood, removed_is_absent}

module _ (issued : List Update) (rows : List Held) (V W P Q : Numbers) (dead : List (Oid × Update))
    (known : Each (λ u. Member u issued) (updates_of rows)) (collectable : Each (IsCollectable rows V) dead)
    (up : AtMost V W) (purged_up : AtMost P Q) (covered : Each (λ d. CoversBirth Q d.0 × Covers Q d.1) dead) where
  abbrev os : List Oid
  os = map (λ (d : Oid × Update). d.0) dead

  abbrev k : Knowledge
  k = record { rows = updates_of rows; vector = V; purged = P }

  abbrev l : Knowledge
  l = record { rows = updates_of (without os rows); vector = W; purged = Q }

  -- what is removed was collected
  purged : (o : Oid) → Member o os → IsPurged issued l o
  purged o m = subst (IsPurged issued l) (sym t.2) (record {
    absent = λ h. removed_is_absent os rows o m (subst (HoldsObject l.rows) (sym t.2) h);
    birth = (covered t.0 t.1).0;
    death = t.0.1;
    is_issued = known t.0.1 (subst (λ u. Member u k.rows) c.is_held (updated rows c.held c.stands));
    is_death = c.dies;
    is_covered = (covered t.0 t.1).1;
  })
    where
      t : (d : Oid × Update) × Member d dead × (o ≡ d.0)
      t = mapped_member (λ (d : Oid × Update). d.0) dead o m

      c : IsCollectable rows V t.0
      c = collectable t.0 t.1

  -- a row stands, or is of an object that is removed
  stands_or_purged : (r : Update) → Member r k.rows → Member r l.rows ⊎ ((o : Oid) × Member o os × (is_row_of o r.key ≡ true))
  stands_or_purged r m = let t = held_as rows r m in
      ⊎_elim (λ n. inl (subst (λ u. Member u l.rows) (sym t.2) (updated (without os rows) t.0 n)))
      (λ g. inr (g.0, g.1, ap (λ (u : Update). is_row_of g.0 u.key) t.2 ∙ g.2))
      (stands_or_goes os rows t.0 t.1)

  row : Each (λ r. HoldsAtLeast l.rows r ⊎ IsOutlived issued l r) k.rows
  row r m = ⊎_elim (λ n. inl (r, n, supersedes_self r))
      (λ g. inr (g.0, is_end g.0 (row_is_of g.0 r.key g.2), inr (purged g.0 g.1)))
      (stands_or_purged r m)
    where
      is_end : (o : Oid) → (attr : ℕ) × (r.key ≡ RowOf o attr) → Member o (ends r.key)
      is_end o (attr, is) = subst (λ key. Member o (ends key)) (sym is) (inl refl)

  tombstone : (o : Oid) → IsTombstoned k.rows o → IsTombstoned l.rows o ⊎ IsPurged issued l o
  tombstone o (r, m, is) = ⊎_elim (λ n. inl (r, n, is))
      (λ g. inr (subst (IsPurged issued l) (sym (row_of_tells o g.0 deleted_attr r.key is g.2)) (purged g.0 g.1)))
      (stands_or_purged r m)

  purge : (o : Oid) → IsPurged issued k o → IsPurged issued l o
  purge o g = record {
    absent = λ h. g.absent (h.0, h.1, update_stood os rows h.0 h.2, h.3);
    birth = omega (arith, g.birth, purged_up o.birth.inv);
    death = g.death;
    is_issued = g.is_issued;
    is_death = g.is_death;
    is_covered = omega (arith, g.is_covered, purged_up (inv_of g.death));
  }

  pub removal_grows : Grows issued k l
  removal_grows = record { row = row; tombstone = tombstone; purge = purge; vector = up }

  -- an object that is removed is held dead
  pub removed_is_dead : (o : Oid) → Member o os → IsTombstoned k.rows o
  removed_is_dead o m = let t = mapped_member (λ (d : Oid × Update). d.0) dead o m in let c = collectable t.0 t.1 in
      (t.0.1, subst (λ u. Member u k.rows) c.is_held (updated rows c.held c.stands), subst (λ p. IsDeathOf p t.0.1) (sym t.2) c.dies)
