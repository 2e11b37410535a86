-- Which deaths a state collects: they are held, and the vector covers them and the births of their objects.
use Rattle.std.proofs.Common.{◌≡◌, ◌+◌, ℕ, Bool, true, false, ◌&&◌, Option, Some, None, refl, subst}
use Rattle.std.specs.Prelude.{nat_le}
use Rattle.std.specs.Bool.{then_some}
use Rattle.std.proofs.lemmas.Bool.{and_parts, leb-true}
use Rattle.adr_values.specs.declared.stamp.Oid.{Oid}
use Rattle.adr_values.specs.Vector.{Cursors, at}
use Rattle.adr_model.specs.Member.{Member, Each}
use Rattle.adr_model.specs.Update.{RowOf, Update, inv_of, usn_of, deleted_attr}
use Rattle.adr_model.specs.Visible.{covers_update, covers_birth}
use Rattle.adr_model.specs.Store.{Held, State}
use Rattle.adr_model.specs.Change.{killed_by}
use Rattle.adr_model.specs.Collect.{collected_by, deaths_to_collect}
use Rattle.adr_model.proofs.Members.{of_filter_map}
use Rattle.adr_law_calls.proofs.Rows.{is_killed}
use Rattle.adr_law_calls.specs.Collectable.{IsCollectable}

-- what a test of an object comes to, where it gives one
passed : (b : Bool) (o p : Oid) → then_some b o ≡ Some p → (b ≡ true) × (o ≡ p)
passed true o p e = (refl, cc)
passed false o p e = absurd (cc)

module _ (s : State) (now lifetime : ℕ) where
  abbrev vector : Cursors
  vector = s.store.vector

  abbrev may_go : Update → Oid → Bool
  may_go u o = covers_birth vector o && covers_update vector u && nat_le (u.stamp.stamp.time + lifetime) now

  abbrev dead_of : Update → Option Oid → Option Oid
  dead_of u None = None
  dead_of u (Some o) = then_some (may_go u o) o

  abbrev pub with_death : Update → Option Oid → Option (Oid × Update)
  with_death u None = None
  with_death u (Some o) = Some (o, u)

  pub collected_dies : (u : Update) (o : Oid) → collected_by vector now lifetime u ≡ Some o → (u.key ≡ RowOf o deleted_attr) × (may_go u o ≡ true)
  collected_dies u o e = by (killed_by u.key) refl e
    where
      by : (k : Option Oid) → killed_by u.key ≡ k → dead_of u k ≡ Some o → (u.key ≡ RowOf o deleted_attr) × (may_go u o ≡ true)
      by None is e = absurd (cc)
      by (Some p) is e = let t = passed (may_go u p) p o e in subst (λ q. (u.key ≡ RowOf q deleted_attr) × (may_go u q ≡ true)) t.1 (is_killed u.key p is, t.0)

  collectable : (h : Held) → Member h s.store.rows → (dead : Oid × Update) → with_death h.update (collected_by vector now lifetime h.update) ≡ Some dead → IsCollectable s.store.rows (at vector) dead
  collectable h m dead e = by (collected_by vector now lifetime h.update) refl e
    where
      made : (o : Oid) → (o, h.update) ≡ dead → (h.update.key ≡ RowOf o deleted_attr) × (may_go h.update o ≡ true) → IsCollectable s.store.rows (at vector) dead
      made o same t = subst (IsCollectable s.store.rows (at vector)) same (record {
        held = h;
        stands = m;
        is_held = refl;
        dies = t.0;
        birth = leb-true o.birth.usn (at vector o.birth.inv) covered.0;
        death = leb-true (usn_of h.update) (at vector (inv_of h.update)) covered.1;
      })
        where
          covered : (covers_birth vector o ≡ true) × (covers_update vector h.update ≡ true)
          covered = and_parts (covers_birth vector o) (covers_update vector h.update) (and_parts (covers_birth vector o && covers_update vector h.update) (nat_le (h.update.stamp.stamp.time + lifetime) now) t.1).0

      by : (k : Option Oid) → collected_by vector now lifetime h.update ≡ k → with_death h.update k ≡ Some dead → IsCollectable s.store.rows (at vector) dead
      by None is e = absurd (cc)
      by (Some o) is e = made o (cc) (collected_dies h.update o is)

  pub all_collectable : Each (IsCollectable s.store.rows (at vector)) (deaths_to_collect s now lifetime)
  all_collectable dead m = let t = of_filter_map (λ (h : Held). with_death h.update (collected_by vector now lifetime h.update)) s.store.rows dead m in collectable t.0 t.1 dead t.2
