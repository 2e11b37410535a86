-- What is told of a call, by what the call made.
use Rattle.std.proofs.Common.{◌≡◌, ◌∙◌, refl, sym, Option, Some, Result, Ok, Err}
use Rattle.std.specs.Prelude.{IfOk}
use Rattle.adr_call.specs.declared.outcome.Outcome.{Outcome}
use Rattle.adr_model.specs.Store.{State}
use Rattle.adr_controller.specs.Ended.{as_told, call_hindrance}
use Rattle.adr_controller.specs.declared.refusal.CallRefusal.{CallRefusal}
use Rattle.adr_controller.specs.declared.refusal.CallRefusal.TheVariants.{Refused, Hindered}

-- it is hindered by the same
pub same_hindrance : {T R A B : Type 0} (ok : T → A) (refused : R → B) (made : Result T (CallRefusal R)) → call_hindrance made ≡ call_hindrance (as_told ok refused made)
same_hindrance ok refused (Ok x) = refl
same_hindrance ok refused (Err (Refused refusal)) = refl
same_hindrance ok refused (Err (Hindered hindrance)) = refl

module _ {T R : Type 0} (ok : T → Outcome) (refused : R → Outcome) (made : Result T (CallRefusal R)) (state : Option State) (said : State → Outcome)
    (tells : IfOk made (λ x. (s : State) → state ≡ Some s → ok x ≡ said s)) (refuses : (s : State) (refusal : R) → state ≡ Some s → made ≡ Err (Refused refusal) → refused refusal ≡ said s) where
  pub told_so : IfOk (as_told ok refused made) (λ outcome. (s : State) → state ≡ Some s → outcome ≡ said s)
  told_so = by made refl tells
    where
      by : (m : Result T (CallRefusal R)) → made ≡ m → IfOk m (λ x. (s : State) → state ≡ Some s → ok x ≡ said s) → IfOk (as_told ok refused m) (λ outcome. (s : State) → state ≡ Some s → outcome ≡ said s)
      by (Ok x) is tells = tells
      by (Err (Refused refusal)) is tells = tt
      by (Err (Hindered hindrance)) is tells = tt

  pub refused_so : (s : State) (outcome : Outcome) → state ≡ Some s → as_told ok refused made ≡ Err (Refused outcome) → outcome ≡ said s
  refused_so s outcome there = by made refl
    where
      by : (m : Result T (CallRefusal R)) → made ≡ m → as_told ok refused m ≡ Err (Refused outcome) → outcome ≡ said s
      by (Ok x) is e = absurd (cc e)
      by (Err (Refused refusal)) is e = let same : refused refusal ≡ outcome = cc e in sym same ∙ refuses s refusal there is
      by (Err (Hindered hindrance)) is e = absurd (cc e)
