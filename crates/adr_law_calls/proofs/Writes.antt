-- What the rows of a write are about: objects that are held alive, or that come with them.
use Rattle.std.proofs.Common.{◌≡◌, ◌⊎◌, inl, inr, ℕ, List, [], ◌∷◌, ◌++◌, true, sym, ap, ◌∙◌, subst}
use Rattle.adr_values.specs.declared.stamp.Oid.{Oid}
use Rattle.adr_values.specs.declared.stamp.Unit.{Unit as Named}
use Rattle.adr_values.specs.declared.stamp.Unit.TheVariants.{Object, Link}
use Rattle.adr_values.specs.Numbered.{numbered}
use Rattle.adr_model.specs.Member.{Member, Each}
use Rattle.adr_model.specs.Update.{Key, RowOf, LinkOf, Update, ends, unit_of, class_attr}
use Rattle.adr_model.specs.Reflects.{HoldsObject}
use Rattle.adr_model.specs.Store.{State, updates_of}
use Rattle.adr_model.specs.Take.{is_birth}
use Rattle.adr_model.specs.Formed.{AreFormedRows}
use Rattle.adr_model.specs.Replica.{Book}
use Rattle.adr_model.specs.Sound.{IsBirthOf, IsSoundBook, IsSoundState}
use Rattle.adr_model.proofs.Members.{member_left, member_right}
use Rattle.adr_law_calls.specs.Forms.{IsWellSaid}
use Rattle.adr_law_calls.proofs.Rows.{object_of_row, no_object_row}
use Rattle.adr_law_calls.specs.MayWrites.{Changes, Comes, Fits, MayWrite}

abbrev pub ends_of : Named → List Oid
ends_of (Object o) = o ∷ []
ends_of (Link l) = ends (LinkOf l)

pub end_of_unit : (k : Key) (unit : Named) (o : Oid) → unit_of k ≡ unit → Member o (ends k) → Member o (ends_of unit)
end_of_unit (RowOf p a) unit o e m = subst (λ u. Member o (ends_of u)) e m
end_of_unit (LinkOf l) unit o e m = subst (λ u. Member o (ends_of u)) e m

-- each row of an object says what it has to
pub well_said : (s : State) (o : Oid) (us : List Update) (f : Fits s (Object o) us) → Each (IsWellSaid (numbered s.store.schema) f.0 o) us
well_said s o us (class, inl c) = c.said
well_said s o us (class, inr c) = c.0.said

module _ (book : Book) (s : State) (sound_book : IsSoundBook book) (state : IsSoundState book s) where
  abbrev before : List Update
  before = updates_of s.store.rows

  formed : AreFormedRows (numbered s.store.schema) before
  formed = state.store.formed.rows

  abbrev Birth : List Update → Oid → Type 0
  Birth us o = (b : Update) × Member b (book.issued ++ us) × IsBirthOf o b

  held_birth : (us : List Update) (o : Oid) (r : Update) → Member r before → r.key ≡ RowOf o class_attr → Birth us o
  held_birth us o r m is = (r, member_left book.issued us r (state.store.known r m), (is, formed.births o r m is))

  -- a held object was born by what was issued
  object_born : (us : List Update) (o : Oid) → HoldsObject before o → Birth us o
  object_born us o h = let n = formed.named o h in held_birth us o n.of_class.0 n.of_class.1 n.of_class.2

  -- each object that a write is about was born by what was issued or by the write
  pub ends_born : (unit : Named) (us : List Update) → MayWrite s unit us → Each (Birth (us ++ [])) (ends_of unit)
  ends_born (Link l) us may o m = object_born (us ++ []) o (may.fits.ends o m).0
  ends_born (Object p) us may o (inr m) = absurd m
  ends_born (Object p) us may o (inl e) = subst (Birth (us ++ [])) (sym e) (by may.fits.0 may.fits.1)
    where
      by : (class : ℕ) → Changes s p class us ⊎ Comes s p class us → Birth (us ++ []) p
      by class (inl c) = held_birth (us ++ []) p c.of_class.0 c.of_class.1 c.of_class.2
      by class (inr c) = let k = c.0.of_class in (k.0, member_right book.issued (us ++ []) k.0 (member_left us [] k.0 k.1), (k.2, ((c.0.said k.0 k.1).of_class k.2).1))

  pub class_rows_born : (unit : Named) (us : List Update) → MayWrite s unit us → Each (λ u. (o : Oid) → u.key ≡ RowOf o class_attr → is_birth o u ≡ true) us
  class_rows_born (Link l) us may u m o is = absurd (no_object_row u.key l o class_attr (may.put.of_unit u m) is)
  class_rows_born (Object p) us may u m o is = let same = object_of_row u.key p o class_attr (may.put.of_unit u m) is in
      subst (λ q. is_birth q u ≡ true) (sym same) ((well_said s p us may.fits u m).of_class (is ∙ ap (λ q. RowOf q class_attr) same)).1
