-- How much of a source was read for what was made.
use Rattle.std.proofs.Common.{◌≡◌, ◌⊎◌, ⊎_elim, inl, inr, refl, rules, sym, ap, subst, ℕ, List, Option, Some, None, IfErr, Result, Ok, Err, arith}
use Rattle.adr_node.specs.Makes.{IsReadAtMost, IsReadWhole, ReadsSo, ended_as, ended_by}
use Rattle.adr_node.specs.declared.ended.Refusal.TheVariants.{NotEmpty, Image, Adoption, Full}
use Rattle.adr_node.specs.declared.making.Unmade.{Unmade}
use Rattle.adr_node.specs.declared.making.Unmade.TheVariants as unmade

-- none of it is no more than the limit
pub none_read : (left : Option (List ℕ)) → IsReadAtMost left left
none_read None = tt
none_read (Some text) = (0, omega arith, ap (λ (l : List ℕ). let o : Option (List ℕ) = Some l in o) (search rules))

-- an error that isn't this one
pub is_not : {T : Type 0} (r : Result T Unmade) (P : Unmade → Type 0) → IfErr r P → (e : Unmade) → (P e → ⊥) → r ≡ Err e → ⊥
is_not {T} r P has e never is = never (subst (λ (x : Result T Unmade). IfErr x P) is has)

module _ (before after : Option (List ℕ)) where
  -- all was read, and then it ended
  pub whole_so : IsReadWhole before after → (e : Unmade) → (e ≡ unmade.Refused NotEmpty → ⊥) → ReadsSo before after (ended_by e)
  whole_so is (unmade.Refused NotEmpty) not = absurd (not refl)
  whole_so is (unmade.Refused (Image why)) not = is
  whole_so is (unmade.Refused (Adoption why)) not = is
  whole_so is (unmade.Refused Full) not = is
  whole_so is unmade.ReadFault not = tt
  whole_so is unmade.DiskFault not = inl is
  whole_so is unmade.FreshFault not = is
  whole_so is unmade.NoMemory not = tt

  pub whole_as : {T : Type 0} → IsReadWhole before after → (r : Result T Unmade) → (r ≡ Err (unmade.Refused NotEmpty) → ⊥) → ReadsSo before after (ended_as r)
  whole_as is (Ok v) not = is
  whole_as {T} is (Err e) not = whole_so is e (λ same. not (ap (λ (x : Unmade). let r : Result T Unmade = Err x in r) same))

  -- a read was cut short
  pub cut_short : (e : Unmade) → (e ≡ unmade.ReadFault) ⊎ (e ≡ unmade.NoMemory) → ReadsSo before after (ended_by e)
  cut_short e which =
      let P : Unmade → Type 0 = λ x. ReadsSo before after (ended_by x) in
      ⊎_elim (λ is. subst P (sym is) tt) (λ is. subst P (sym is) tt) which

-- nothing was read
pub unread_so : (left : Option (List ℕ)) (e : Unmade) → (e ≡ unmade.Refused NotEmpty) ⊎ ((e ≡ unmade.DiskFault) ⊎ (e ≡ unmade.NoMemory)) → ReadsSo left left (ended_by e)
unread_so left e which =
    let P : Unmade → Type 0 = λ x. ReadsSo left left (ended_by x) in
    ⊎_elim (λ is. subst P (sym is) refl) (λ rest. ⊎_elim (λ is. subst P (sym is) (inr refl)) (λ is. subst P (sym is) tt) rest) which
