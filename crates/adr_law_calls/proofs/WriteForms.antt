-- Rows stay as the schema wants them behind a write, and links stay closed.
use Rattle.std.proofs.Common.{◌≡◌, inl, inr, ⊎_elim, ℕ, ◌+◌, List, sym, ◌∙◌, subst}
use Rattle.adr_values.specs.declared.stamp.LinkKey.{LinkKey}
use Rattle.adr_values.specs.declared.stamp.Unit.{Unit as Named}
use Rattle.adr_values.specs.declared.stamp.Unit.TheVariants.{Object, Link}
use Rattle.adr_values.specs.Numbered.{numbered}
use Rattle.adr_values.specs.declared.content.Content.TheVariants.{Class}
use Rattle.adr_values.specs.Vector.{at, raised}
use Rattle.adr_model.specs.Member.{Member, Each}
use Rattle.adr_model.specs.Update.{LinkOf, Update, Holds, IsPresent, ends}
use Rattle.adr_model.specs.Reflects.{Numbers, HoldsObject}
use Rattle.adr_model.specs.Store.{Held, State, updates_of}
use Rattle.adr_model.specs.Replica.{Book}
use Rattle.adr_model.specs.Sound.{AreClassesKnown, IsSoundBook, IsSoundState}
use Rattle.adr_law_calls.proofs.Frames.{born_before}
use Rattle.adr_law_calls.specs.Puts.{ArePut, AreClosed}
use Rattle.adr_law_calls.specs.KeepForms.{KeepForms}
use Rattle.adr_law_calls.proofs.Putting.{objects_stay}
use Rattle.adr_law_calls.specs.MayWrites.{MayWrite}
use Rattle.adr_law_calls.proofs.Formed.{classes_stay_known}
use Rattle.adr_law_calls.proofs.PutForms.{whence_update, rows_stay_closed}
use Rattle.adr_law_calls.proofs.Rows.{no_link_row, same_link}

-- rows that a write may write keep the forms
pub write_keeps_forms : (s : State) (unit : Named) (us : List Update) → MayWrite s unit us → KeepForms (numbered s.store.schema) (at s.store.vector) (updates_of s.store.rows) unit us
write_keeps_forms s (Object o) us may = (may.fits.0, ⊎_elim (λ c. inl c) (λ c. inr c.0) may.fits.1)
write_keeps_forms s (Link l) us may = (may.fits.forward, λ o m. let held = may.fits.ends o m in (held.1, inl held.0))

module _ (s : State) (us : List Update) (after : List Held) (are : ArePut (s.store.usn + 1) us s.store.rows after) where
  abbrev V : Numbers
  V = at s.store.vector

  pub classes_stay : (unit : Named) → MayWrite s unit us → AreClassesKnown (numbered s.store.schema) (updates_of s.store.rows) → AreClassesKnown (numbered s.store.schema) (updates_of after)
  classes_stay (Link l) may known = λ u m class is. ⊎_elim (λ n. absurd (none u n class is)) (λ n. known u n class is) (whence_update (s.store.usn + 1) us s.store.rows after are u m)
    where
      none : (u : Update) → Member u us → (class : ℕ) → u.said ≡ Holds (Class class) → ⊥
      none u n class is = let said = may.fits.said u n in let never : Holds (Class class) ≡ IsPresent said.0 = sym is ∙ said.1 in cc
  classes_stay (Object o) may known = let keeps = write_keeps_forms s (Object o) us may in
      classes_stay_known s.store.schema (s.store.usn + 1) s.store.rows after V o keeps.0 us known may.put are keeps.1

  -- the ends of a link that is written are held
  ends_held : (unit : Named) → MayWrite s unit us → (r : Update) → Member r us → (l : LinkKey) → r.key ≡ LinkOf l → Each (HoldsObject (updates_of s.store.rows)) (ends (LinkOf l))
  ends_held (Object o) may r m l is p n = absurd (no_link_row r.key o l (may.put.of_unit r m) is)
  ends_held (Link k) may r m l is p n = (may.fits.ends p (subst (λ j. Member p (ends (LinkOf j))) (same_link r.key k l (may.put.of_unit r m) is) n)).0

  module _ (book : Book) (sound_book : IsSoundBook book) (state : IsSoundState book s) where
    abbrev W : Numbers
    W = at (raised s.store.vector s.inv (s.store.usn + 1))

    closed_before : (unit : Named) → MayWrite s unit us → AreClosed V (updates_of after)
    closed_before unit may = rows_stay_closed (s.store.usn + 1) us s.store.rows after are s.store.schema V unit
        (λ x j k e p q. state.store.closed k x j e p q) may.put (write_keeps_forms s unit us may)

    pub stays_closed : (unit : Named) → MayWrite s unit us → AreClosed W (updates_of after)
    stays_closed unit may r m l is o n = ⊎_elim
        (λ i. inl (objects_stay (s.store.usn + 1) s.store.rows after us o are (ends_held unit may r i l is o n)))
        (λ i. ⊎_elim (λ h. inl h) (λ new. inr (λ c. new (born_before book s (s.store.usn + 1) sound_book state r (state.store.known r i) o (subst (λ k. Member o (ends k)) (sym is) n) c))) (closed_before unit may r m l is o n))
        (whence_update (s.store.usn + 1) us s.store.rows after are r m)
