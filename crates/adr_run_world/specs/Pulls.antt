-- What the code's turn of a line comes to.
use Rattle.std.specs.Prelude.{◌≡◌, ◌<◌, ◌≤◌, ◌⊎◌, ℕ, List, [], ◌∷◌, ◌++◌, false, codes}
use Rattle.adr_call.specs.declared.answer.Answer.{Answer}
use Rattle.adr_call.specs.declared.outcome.Outcome.TheVariants as outcomes
use Rattle.adr_call.specs.declared.event.Event.{Event}
use Rattle.adr_call.specs.declared.event.Event.TheVariants as events
use Rattle.adr_call.specs.declared.event.Exchange.TheVariants as exchanges
use Rattle.adr_model.specs.World.{Name, World, answer}
use Rattle.adr_model.specs.Cycles.{Pulled, pull, reply_limit}
use Rattle.adr_model.specs.Step.{step}

-- a pull, its answers behind those before it
abbrev pub behind : List Answer → Pulled → Pulled
behind before p = (p.0, before ++ p.1, p.2)

-- a turn of a cycle, by its number from 0: a pull, or at the limit the answer that there is more
abbrev pub IsCycleTurn : ℕ → World → Name → Name → ℕ → Pulled → Type 0
IsCycleTurn turn w dest source max p =
    ((turn < reply_limit) × (p ≡ pull w dest source max)) ⊎ ((reply_limit ≤ turn) × (p ≡ (w, answer (codes "cycle") dest outcomes.More ∷ [], false)))

-- any other line is one turn
abbrev pub IsTurn : ℕ → World → Event → Pulled → Type 0
IsTurn turn w (events.Goes name (exchanges.Cycle source max)) p = IsCycleTurn turn w name source max p
IsTurn turn w e p = p ≡ ((step w e).0, (step w e).1, false)
