-- What events write, one after another.
use Rattle.std.proofs.Common.{◌≡◌, ℕ, zero, suc, ◌<◌, inl, inr, arith, List, [], ◌∷◌, ◌++◌, length, get_or, drop, drop-cons, Option, sym, ap, ◌∙◌, subst}
use Rattle.std.specs.Prelude.{flat_map}
use Rattle.std.proofs.lemmas.Grind.{flat_map-append}
use Rattle.adr_io.specs.Told.{AddsFront}
use Rattle.adr_call.specs.declared.event.Event.{Event}
use Rattle.adr_model.specs.Member.{Member}
use Rattle.adr_model.specs.World.{World}
use Rattle.adr_model.specs.Step.{step, answers}
use Rattle.adr_answers.specs.Line.{line}
use Rattle.adr_answers.proofs.Due.{Remains, front_remains}
use Rattle.adr_run_world.specs.Played.{output_from}

-- what events write, first the lines of the answers to the first
pub output_first : (w : World) (e : Event) (es : List Event) → output_from w (e ∷ es) ≡ flat_map line (step w e).1 ++ output_from (step w e).0 es
output_first w e es = flat_map-append line (step w e).1 (answers (step w e).0 es)

-- what is written of the next event's answers is a front of all
pub front_step : (first now next : Option (List ℕ)) (all : List ℕ) (w : World) (events : List Event) (i : ℕ) (e : Event) → i < length events → e ≡ get_or events i e
    → Remains first now all (output_from w (drop i events)) → AddsFront now next (flat_map line (step w e).1) → AddsFront first next all
front_step first now next all w events i e inside is remains added =
    let here : drop i events ≡ e ∷ drop (suc i) events = drop-cons events i e inside ∙ ap (λ (x : Event). x ∷ drop (suc i) events) (sym is) in
    front_remains first now next all (flat_map line (step w e).1) (output_from (step w e).0 (drop (suc i) events))
    (subst (λ (bytes : List ℕ). Remains first now all bytes) (ap (output_from w) here ∙ output_first w e (drop (suc i) events)) remains) added

-- who is at a place is there
pub member_got : {A : Type 0} (xs : List A) (i : ℕ) (x : A) → i < length xs → x ≡ get_or xs i x → Member x xs
member_got [] i x within is = absurd (omega (arith, within))
member_got (y ∷ ys) zero x within is = inl is
member_got (y ∷ ys) (suc i) x within is = inr (member_got ys i x (omega (arith, within)) is)
