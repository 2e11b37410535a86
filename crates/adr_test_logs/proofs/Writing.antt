-- What clients write is typed.
use Rattle.std.proofs.Common.{◌≡◌, ⊎_elim, List, [], ◌∷◌, ◌++◌, subst, sym}
use Rattle.std.specs.List.Sorted.{IsStrictlySortedBy}
use Rattle.std.specs.Ordering.{nat_cmp}
use Rattle.adr_model.proofs.Members.{member_of_either}
use Rattle.adr_model.specs.Given.{AreInOrder}
use Rattle.adr_model.specs.Member.{Each}
use Rattle.adr_values.specs.declared.content.Value.{Value}

pub each_more : {A : Type 0} (P : A → Type 0) (xs : List A) (x : A) → Each P xs → P x → Each P (xs ++ x ∷ [])
each_more {A} P xs x all more y m = ⊎_elim (λ of_all. all y of_all) (λ last. ⊎_elim (λ (is : y ≡ x). subst P (sym is) more) (λ none. absurd none) last) (member_of_either xs (x ∷ []) y m)

pub one_rises : (values : List Value) → AreInOrder ((12, values) ∷ [])
unfolding IsStrictlySortedBy
one_rises values = (tt, tt)
