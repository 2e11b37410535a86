-- Pulls and cycles: one controller asks another, which serves, and it takes the reply. These messages have no name and aren't kept.
use Rattle.std.specs.Prelude.{ℕ, zero, suc, List, [], ◌∷◌, ◌++◌, Bool, true, false, Option, Some, None, is_none, codes}
use Rattle.adr_call.specs.declared.answer.Answer.{Answer}
use Rattle.adr_call.specs.declared.outcome.Outcome.{Outcome}
use Rattle.adr_call.specs.declared.outcome.Outcome.TheVariants as outcomes
use Rattle.adr_model.specs.Serve.{Request, Reply}
use Rattle.adr_model.specs.World.{World, Name, Gone, answer, asks, serves_request, delivers}

-- what a pull leaves: the world, what was answered, and whether a reply was taken that isn't the last
abbrev pub Pulled : Type 0
Pulled = World × List Answer × Bool

abbrev pub was_taken : Outcome → Bool
was_taken (outcomes.Took items wrote usn) = true
was_taken _ = false

abbrev pub first_told : Answer → Pulled → Pulled
first_told a p = (p.0, a ∷ p.1, p.2)

abbrev pub pull_delivered : Name → Reply → Gone → Pulled
pull_delivered dest r g = (g.0, answer (codes "deliver") dest g.1 ∷ [], taken_on (was_taken g.1) r.last)
  where
    taken_on : {A : Type 0} → Bool → Option A → Bool
    taken_on true last = is_none last
    taken_on false last = false

abbrev pub pull_served : Name → World → Option Reply → Pulled
pull_served dest w None = (w, [], false)
pull_served dest w (Some r) = pull_delivered dest r (delivers w dest (Some r))

abbrev pub pull_asked : Name → Name → World → Option Request → Pulled
pull_asked dest source w None = (w, [], false)
pull_asked dest source w (Some q) =
    let t = serves_request w source (Some q) in first_told (answer (codes "serve") source t.1) (pull_served dest t.0 t.2)

-- the version of the protocol in which controllers pull
abbrev pub pull_version : ℕ
pull_version = 2

-- one controller asks another, which serves, and it takes the reply; an answer other than ok ends it
abbrev pub pull : World → Name → Name → ℕ → Pulled
pull w dest source max = let t = asks w dest source max pull_version in first_told (answer (codes "ask") dest t.1) (pull_asked dest source t.0 t.2)

abbrev pub and_then : Pulled → (World → World × List Answer) → World × List Answer
and_then p go = by p.2
  where
    by : Bool → World × List Answer
    by true = let rest = go p.0 in (rest.0, p.1 ++ rest.1)
    by false = (p.0, p.1)

-- pulls until the last reply was taken, at most so many
abbrev pub pulls : ℕ → World → Name → Name → ℕ → World × List Answer
pulls zero w dest source max = (w, answer (codes "cycle") dest outcomes.More ∷ [])
pulls (suc n) w dest source max = and_then (pull w dest source max) (λ v. pulls n v dest source max)

-- the most replies of a cycle
abbrev pub reply_limit : ℕ
reply_limit = 1000000

abbrev pub cycle : World → Name → Name → ℕ → World × List Answer
cycle w dest source max = pulls reply_limit w dest source max
