-- Rows that a formed state may write: the change can follow it, and leaves a formed one.
use Rattle.std.proofs.Common.{◌≡◌, ◌⊎◌, inl, inr, ⊎_elim, ℕ, zero, suc, ◌+◌, List, true, refl, sym, subst, arith, map}
use Rattle.std.specs.List.Sorted.{IsStrictlySortedBy}
use Rattle.adr_values.specs.declared.stamp.Oid.{Oid}
use Rattle.adr_values.specs.declared.stamp.LinkKey.{LinkKey}
use Rattle.adr_values.specs.declared.stamp.Unit.{Unit as Named}
use Rattle.adr_values.specs.declared.stamp.Unit.TheVariants.{Object, Link}
use Rattle.adr_values.specs.Numbered.{numbered}
use Rattle.adr_values.specs.Vector.{at}
use Rattle.adr_model.specs.Member.{Member, Each}
use Rattle.adr_model.specs.Update.{RowOf, LinkOf, Update, key_order}
use Rattle.adr_model.specs.Reflects.{CoversBirth, HoldsObject}
use Rattle.adr_model.specs.Store.{Normal, State, updates_of}
use Rattle.adr_model.specs.Change.{Item}
use Rattle.adr_model.specs.Formed.{IsFormed}
use Rattle.adr_model.specs.Take.{is_above}
use Rattle.adr_law_calls.specs.Puts.{ArePut}
use Rattle.adr_law_calls.specs.Forms.{IsWellSaid, MayCome}
use Rattle.adr_law_calls.proofs.Rows.{row_of_unit, link_of_unit}
use Rattle.adr_law_calls.specs.MayWrites.{MayWrite, Changes, Comes, IsHeldAlive}
use Rattle.adr_law_calls.proofs.Rooms.{objects_within_limit, links_within_limit}
use Rattle.adr_law_calls.proofs.WriteFormed.{stands, are_written, written_rise, write_formed}
use Rattle.adr_law_calls.proofs.Issues.{change_of}
use Rattle.adr_law_calls.proofs.WriteForms.{classes_stay}
use Rattle.adr_model.specs.Spelled.{IsSaidOfKey}
use Rattle.adr_law_calls.specs.Follow.{MayWriteUnit, HasKnownClasses, CanFollow}
use Rattle.adr_law_calls.proofs.TakenFollow.{nothing_is_vector}
use Rattle.adr_law_calls.proofs.Going.{goes_on_alone}

-- ---- what rows say

pub says_of_well_said : (schema class : ℕ) (o : Oid) (u : Update) (attr : ℕ) → u.key ≡ RowOf o attr
    → IsWellSaid (numbered schema) class o u → IsSaidOfKey u.key u.said
says_of_well_said schema class o u attr is well = subst (λ k. IsSaidOfKey k u.said) (sym is) (by attr is)
  where
    by : (a : ℕ) → u.key ≡ RowOf o a → IsSaidOfKey (RowOf o a) u.said
    by zero e = absurd (well.none e)
    by (suc zero) e = subst (IsSaidOfKey (RowOf o 1)) (sym (well.of_class e).0) refl
    by (suc (suc zero)) e = let t = well.of_name e in subst (IsSaidOfKey (RowOf o 2)) (sym t.2) refl
    by (suc (suc (suc zero))) e = subst (IsSaidOfKey (RowOf o 3)) (sym (well.of_death e)) refl
    by (suc (suc (suc (suc n)))) e = let t = well.of_values (suc (suc (suc (suc n)))) (omega arith) e in
        subst (IsSaidOfKey (RowOf o (suc (suc (suc (suc n)))))) (sym t.1) ((λ f. omega (arith, f)), (λ f. omega (arith, f)), (λ f. omega (arith, f)))

module _ (s : State) where
  pub says_of_written : (unit : Named) (us : List Update) → MayWrite s unit us
      → Each (λ u. IsSaidOfKey u.key u.said) us
  says_of_written (Object o) us may u m = let k = row_of_unit u.key o (may.put.of_unit u m) in by may.fits.0 may.fits.1 k.0 k.1
    where
      by : (class : ℕ) → Changes s o class us ⊎ Comes s o class us → (attr : ℕ) → u.key ≡ RowOf o attr
          → IsSaidOfKey u.key u.said
      by class (inl c) attr is = says_of_well_said s.store.schema class o u attr is (c.said u m)
      by class (inr c) attr is = says_of_well_said s.store.schema class o u attr is (c.0.said u m)
  says_of_written (Link l) us may u m = let t = may.fits.said u m in
      subst (λ k. IsSaidOfKey k u.said) (sym (link_of_unit u.key l (may.put.of_unit u m))) (subst (IsSaidOfKey (LinkOf l)) (sym t.1) tt)

  -- ---- where the rows are written

  pub new_placed : (o : Oid) (class : ℕ) (us : List Update)
      → (HoldsObject (updates_of s.store.rows) o ⊎ (CoversBirth (at s.store.vector) o → ⊥))
      → MayCome (numbered s.store.schema) (updates_of s.store.rows) o class us
      → MayWriteUnit (numbered s.store.schema) s.store.vector s.store.rows (Object o) us
  new_placed o class us place comes = inr (inr (
    comes.absent,
    ⊎_elim (λ h. absurd (comes.absent h)) (λ m. m) place,
    record {
      class = class;
      of_class = let b = comes.of_class in (b.0, b.1, b.2, ((comes.said b.0 b.1).of_class b.2).0);
      of_name = comes.of_name;
      whole = comes.whole;
    },
  ))

  pub live_placed : (o : Oid) (us : List Update) → IsHeldAlive (updates_of s.store.rows) o
      → MayWriteUnit (numbered s.store.schema) s.store.vector s.store.rows (Object o) us
  live_placed o us live = inr (inl (live.1, live.0))

  pub link_placed : (l : LinkKey) (us : List Update) → MayWrite s (Link l) us
      → MayWriteUnit (numbered s.store.schema) s.store.vector s.store.rows (Link l) us
  link_placed l us may o m = let h = may.fits.ends o m in (h.1, inl h.0)

  -- ---- the whole

  module _ (item : Item) (formed : IsFormed s) (known : HasKnownClasses s)
      (may : MayWrite s item.unit item.rows) where
    abbrev us : List Update
    us = item.rows

    are : ArePut (s.store.usn + 1) us s.store.rows (stands s item)
    are = are_written s item formed may

    pub written_follows : s.mode ≡ Normal → (u : Update) × Member u item.rows
        → IsStrictlySortedBy key_order (map (λ (u : Update). u.key) item.rows)
        → Each (λ u. is_above s.store.rows u ≡ true) item.rows
        → MayWriteUnit (numbered s.store.schema) s.store.vector s.store.rows item.unit item.rows
        → CanFollow s (change_of s item)
    written_follows normal some rise above placed = record {
      goes_on = goes_on_alone s (change_of s item) normal (omega arith) (omega arith, omega arith, tt) (inl refl) nothing_is_vector (
        record { some = some; form = record { of_unit = may.put.of_unit; rising = rise; says = says_of_written item.unit item.rows may }; greater = above; unit = placed },
        (objects_within_limit s us (stands s item) are item.unit may formed.store.limits.objects, links_within_limit s us (stands s item) are item.unit may (written_rise s item formed may) formed.store.limits.links),
        tt,
      )
          (λ o m. absurd m);
      formed = write_formed s item formed may;
      classes = classes_stay s us (stands s item) are item.unit may known;
    }
