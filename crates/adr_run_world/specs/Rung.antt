-- What comes of a ring, and what its answer tells.
use Rattle.std.specs.Prelude.{◌≡◌, ◌≤◌, ◌*◌, ℕ, List, [], ◌∷◌, Bool, true, Option, length, codes}
use Rattle.adr_call.specs.declared.answer.Answer.{Answer}
use Rattle.adr_call.specs.declared.outcome.Outcome.TheVariants as outcomes
use Rattle.adr_call.specs.declared.event.Event.{Event}
use Rattle.adr_call.specs.declared.event.Event.TheVariants as events
use Rattle.adr_call.specs.declared.event.Exchange.TheVariants as exchanges
use Rattle.adr_model.specs.World.{Name, World, answer}
use Rattle.adr_model.specs.Cycles.{cycle, pulls}
use Rattle.adr_model.specs.Rings.{unfinished}

-- what a cycle comes to: the world, and its answer that isn't ok
abbrev pub whole_cycle : World → Name → Name → ℕ → World × Option Answer
whole_cycle w dest source max = let t = cycle w dest source max in (t.0, unfinished t.1)

-- behind some of the pulls of a cycle
abbrev pub IsAmidPulls : World → Name → Name → ℕ → World → Type 0
IsAmidPulls w dest source max v = (n : ℕ) × (v ≡ (pulls n w dest source max).0)

-- a ring that was answered ok tells that all show the same, behind as many rounds as there are others, and behind twice as many that
-- all have one vector
abbrev pub IsRungBy : World → Event → List Answer → Type 0
IsRungBy w (events.Goes first (exchanges.Ring others rounds max)) answers =
    (directories vectors : Bool) → answers ≡ answer (codes "ring") first (outcomes.Compared rounds directories vectors) ∷ []
    → (length others ≤ rounds → directories ≡ true) × (2 * length others ≤ rounds → vectors ≡ true)
IsRungBy w e answers = Unit {0}
