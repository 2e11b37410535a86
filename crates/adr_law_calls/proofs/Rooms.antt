-- No table is over its limit behind a write.
use Rattle.std.proofs.Common.{◌≡◌, ◌⊎◌, inl, inr, ⊎_elim, ℕ, ◌≤◌, ◌+◌, List, ◌∷◌, refl, sym, subst, length, arith}
use Rattle.adr_values.specs.declared.stamp.Oid.{Oid}
use Rattle.adr_values.specs.declared.stamp.LinkKey.{LinkKey}
use Rattle.adr_values.specs.declared.stamp.Unit.{Unit as Named}
use Rattle.adr_values.specs.declared.stamp.Unit.TheVariants.{Object, Link}
use Rattle.adr_values.specs.Vector.{raised, cursor_limit}
use Rattle.adr_model.specs.Member.{Member, Each}
use Rattle.adr_model.specs.Update.{RowOf, LinkOf, Update, class_attr}
use Rattle.adr_model.specs.Live.{objects_of}
use Rattle.adr_model.specs.Store.{Held, State, updates_of}
use Rattle.adr_model.specs.Write.{object_limit, link_limit, links_in}
use Rattle.adr_model.specs.Formed.{AreRising, IsFormed}
use Rattle.adr_law_calls.specs.Puts.{ArePut}
use Rattle.adr_law_calls.specs.MayWrites.{Changes, Comes, HoldsLink, MayWrite}
use Rattle.adr_law_knowledge.proofs.Standing.{among_objects, objects_within}
use Rattle.adr_law_calls.proofs.Counts.{links_within, one_link_more}
use Rattle.adr_law_knowledge.proofs.Raised.{raised_replaces}
use Rattle.adr_law_calls.proofs.PutForms.{whence, whence_update}
use Rattle.adr_law_calls.proofs.Rows.{held_as, object_of_row, no_link_row, no_object_row, same_link}

-- where a row stands, a USN was used, and so the own cursor is there
pub few_cursors : (s : State) (r : Update) → IsFormed s → Member r (updates_of s.store.rows) → length (raised s.store.vector s.inv (s.store.usn + 1)) ≤ cursor_limit
few_cursors s r formed m =
    let x = held_as s.store.rows r m in
    let local = formed.store.locals x.0 x.1 in
    omega (arith, raised_replaces s.store.vector s.inv (s.store.usn + 1) (λ _. omega (arith, formed.own, local.0, local.1)) formed.store.vector, formed.store.vector.few)

pub cursors_within : (s : State) (unit : Named) (us : List Update) → IsFormed s → MayWrite s unit us → length (raised s.store.vector s.inv (s.store.usn + 1)) ≤ cursor_limit
cursors_within s (Link l) us formed may = let h = (may.fits.ends l.from (inl refl)).0 in few_cursors s h.0 formed h.2
cursors_within s (Object o) us formed may = by may.fits.0 may.fits.1
  where
    by : (class : ℕ) → Changes s o class us ⊎ Comes s o class us → length (raised s.store.vector s.inv (s.store.usn + 1)) ≤ cursor_limit
    by class (inl c) = few_cursors s c.of_class.0 formed c.of_class.1
    by class (inr c) = c.1.cursors

module _ (s : State) (us : List Update) (after : List Held) (are : ArePut (s.store.usn + 1) us s.store.rows after) where
  abbrev count : ℕ
  count = length (objects_of (updates_of s.store.rows))

  pub objects_within_limit : (unit : Named) → MayWrite s unit us → count ≤ object_limit → length (objects_of (updates_of after)) ≤ object_limit
  objects_within_limit (Link l) may le = omega (arith, le, objects_within (updates_of after) (objects_of (updates_of s.store.rows)) there)
    where
      there : Each (λ b. (p : Oid) → b.key ≡ RowOf p class_attr → Member p (objects_of (updates_of s.store.rows))) (updates_of after)
      there b m p is = ⊎_elim (λ n. absurd (no_object_row b.key l p class_attr (may.put.of_unit b n) is)) (λ n. among_objects (updates_of s.store.rows) b p n is) (whence_update (s.store.usn + 1) us s.store.rows after are b m)
  objects_within_limit (Object o) may le = by may.fits.0 may.fits.1
    where
      by : (class : ℕ) → Changes s o class us ⊎ Comes s o class us → length (objects_of (updates_of after)) ≤ object_limit
      by class (inl c) = omega (arith, le, objects_within (updates_of after) (objects_of (updates_of s.store.rows)) there)
        where
          there : Each (λ b. (p : Oid) → b.key ≡ RowOf p class_attr → Member p (objects_of (updates_of s.store.rows))) (updates_of after)
          there b m p is = ⊎_elim
              (λ n. subst (λ q. Member q (objects_of (updates_of s.store.rows))) (sym (object_of_row b.key o p class_attr (may.put.of_unit b n) is)) (among_objects (updates_of s.store.rows) c.of_class.0 o c.of_class.1 c.of_class.2))
              (λ n. among_objects (updates_of s.store.rows) b p n is)
              (whence_update (s.store.usn + 1) us s.store.rows after are b m)
      by class (inr c) = omega (arith, c.1.objects, objects_within (updates_of after) (o ∷ objects_of (updates_of s.store.rows)) there)
        where
          there : Each (λ b. (p : Oid) → b.key ≡ RowOf p class_attr → Member p (o ∷ objects_of (updates_of s.store.rows))) (updates_of after)
          there b m p is = ⊎_elim
              (λ n. inl (object_of_row b.key o p class_attr (may.put.of_unit b n) is))
              (λ n. inr (among_objects (updates_of s.store.rows) b p n is))
              (whence_update (s.store.usn + 1) us s.store.rows after are b m)

  pub links_within_limit : (unit : Named) → MayWrite s unit us → AreRising after → links_in s.store.rows ≤ link_limit → links_in after ≤ link_limit
  links_within_limit (Object o) may rising le = omega (arith, le, links_within s.store.rows after rising there)
    where
      there : Each (λ x. (k : LinkKey) → x.update.key ≡ LinkOf k → HoldsLink (updates_of s.store.rows) k) after
      there x m k is = ⊎_elim (λ n. absurd (no_link_row x.update.key o k (may.put.of_unit x.update n) is)) (λ n. (x.update, n, is)) (whence (s.store.usn + 1) us s.store.rows after are x m)
  links_within_limit (Link l) may rising le = by may.fits.room
    where
      by : HoldsLink (updates_of s.store.rows) l ⊎ (links_in s.store.rows + 1 ≤ link_limit) → links_in after ≤ link_limit
      by (inl h) = omega (arith, le, links_within s.store.rows after rising there)
        where
          there : Each (λ x. (k : LinkKey) → x.update.key ≡ LinkOf k → HoldsLink (updates_of s.store.rows) k) after
          there x m k is = ⊎_elim (λ n. subst (HoldsLink (updates_of s.store.rows)) (sym (same_link x.update.key l k (may.put.of_unit x.update n) is)) h) (λ n. (x.update, n, is)) (whence (s.store.usn + 1) us s.store.rows after are x m)
      by (inr more) = omega (arith, more, one_link_more s.store.rows after l rising there)
        where
          there : Each (λ x. (k : LinkKey) → x.update.key ≡ LinkOf k → (k ≡ l) ⊎ HoldsLink (updates_of s.store.rows) k) after
          there x m k is = ⊎_elim (λ n. inl (same_link x.update.key l k (may.put.of_unit x.update n) is)) (λ n. inr (x.update, n, is)) (whence (s.store.usn + 1) us s.store.rows after are x m)
