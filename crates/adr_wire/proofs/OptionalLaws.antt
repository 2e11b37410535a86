-- What may be there or not is spelled in one way, if the value is.
use Rattle.std.proofs.Common.{◌≡◌, ℕ, Bool, true, false, List, Option, Some, None, Ok, refl, sym}
use Rattle.std.specs.Prelude.{is_some}
use Rattle.adr_wire.specs.Fields.{flag_at, flag}
use Rattle.adr_wire.specs.Optional.{behind_flag, if_there_at, told_if, if_there, IsIfThere}
use Rattle.adr_wire.specs.Ranges.{IsFlag}
use Rattle.adr_wire.specs.Reading.{Reading, as_at}
use Rattle.adr_wire.specs.Spelling.{IsSpelling}
use Rattle.adr_wire.proofs.Combining.{made, in_range_too, followed, either, nothing}
use Rattle.adr_wire.proofs.FieldLaws.{flag_spelled}

module _ {A : Type 0} (P : A → Type 0) (s : A → List ℕ) (a : Reading A) (law : IsSpelling P s a) where
  behind_spelled : (b : Bool) → IsSpelling (λ x. IsIfThere P x × (is_some x ≡ b)) (told_if s) (behind_flag a b)
  behind_spelled b = either (λ x. IsIfThere P x × (is_some x ≡ b)) (told_if s) b (as_at Some a) (λ behind. Ok (None, behind)) there gone
    where
      there : b ≡ true → IsSpelling (λ x. IsIfThere P x × (is_some x ≡ b)) (told_if s) (as_at Some a)
      there e = made P s a law Some (λ x. IsIfThere P x × (is_some x ≡ b)) (told_if s) out (λ x p fits. ((p, sym e), refl))
        where
          out : (x : Option A) → IsIfThere P x × (is_some x ≡ b) → (y : A) × (x ≡ Some y) × P y × (told_if s x ≡ s y)
          out None q = absurd (let f = q.1 in cc)
          out (Some y) q = (y, refl, q.0, refl)

      gone : b ≡ false → IsSpelling (λ x. IsIfThere P x × (is_some x ≡ b)) (told_if s) (λ behind. Ok (None, behind))
      gone e = nothing (λ x. IsIfThere P x × (is_some x ≡ b)) (told_if s) None (tt, sym e) refl out
        where
          out : (x : Option A) → IsIfThere P x × (is_some x ≡ b) → x ≡ None
          out None q = refl
          out (Some y) q = absurd (let f = q.1 in cc)

  pub if_there_spelled : IsSpelling (IsIfThere P) (if_there s) (if_there_at a)
  unfolding if_there_at
  if_there_spelled =
      in_range_too (λ x. IsFlag (is_some x) × IsIfThere P x) (if_there s) (if_there_at a)
      (followed IsFlag flag flag_at flag_spelled (λ (x : Option A). is_some x) (IsIfThere P) (told_if s) (λ _ b. behind_flag a b) (λ place b h. behind_spelled b))
      (IsIfThere P) (λ x h. (tt, h)) (λ x h. h.1)
