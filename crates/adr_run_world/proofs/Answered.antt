-- A line and its answer, by what comes of its call.
use Rattle.std.proofs.Common.{◌≡◌, sym, ap, subst, ℕ, List}
use Rattle.std.proofs.lemmas.Result.{IfOk-weaker}
use Rattle.std.specs.Prelude.{Result, IfOk}
use Rattle.adr_call.specs.Verbs.{name_of, verb_of, word_of}
use Rattle.adr_call.specs.declared.outcome.Outcome.{Outcome}
use Rattle.adr_call.specs.declared.event.Event.{Event}
use Rattle.adr_model.specs.World.{Gone, Name, World}
use Rattle.adr_model.specs.Step.{step, told}

-- the line comes to this outcome
abbrev pub ComesTo : World → Event → World → Outcome → Type 0
ComesTo w e v o = step w e ≡ told (word_of (verb_of e)) (name_of e) (v, o)

-- what comes of a line, by its kind
pub one_so : (w v : World) (e d : Event) (o : Outcome) → e ≡ d → ComesTo w d v o → ComesTo w e v o
one_so w v e d o is one = subst (λ (x : Event). ComesTo w x v o) (sym is) one

pub line_so : {X : Type 0} (w v : World) (e d : Event) (r : Result Outcome X) → e ≡ d → IfOk r (ComesTo w d v) → IfOk r (ComesTo w e v)
line_so w v e d r is all = IfOk-weaker r _ _ (λ o one. one_so w v e d o is one) all

-- the line of a call, by what comes of the call
pub call_so : {X : Type 0} (verb : List ℕ) (name : Name) (g : Gone) (v : World) (r : Result Outcome X) → IfOk r (λ o. g ≡ (v, o)) → IfOk r (λ o. told verb name g ≡ told verb name (v, o))
call_so verb name g v r all = IfOk-weaker r _ _ (λ o gone. ap (told verb name) gone) all

-- what comes of a call, by which of its kind it is
pub of_kind : {K X : Type 0} (does : K → Gone) (k l : K) (v : World) (r : Result Outcome X) → k ≡ l → IfOk r (λ o. does l ≡ (v, o)) → IfOk r (λ o. does k ≡ (v, o))
of_kind does k l v r is all = subst (λ x. IfOk r (λ o. does x ≡ (v, o))) (sym is) all
