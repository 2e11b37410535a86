-- A line, turn by turn.
use Rattle.std.proofs.Common.{◌≡◌, inl, inr, refl, ℕ, suc, ◌+◌, ◌-◌, ◌<◌, ◌≤◌, List, [], ◌∷◌, ◌++◌, Bool, true, false, sym, ap, ◌∙◌, subst, append_assoc, arith}
use Rattle.std.specs.Prelude.{codes}
use Rattle.std.proofs.lemmas.List.{append-nil}
use Rattle.adr_call.specs.declared.answer.Answer.{Answer}
use Rattle.adr_call.specs.declared.outcome.Outcome.TheVariants as outcomes
use Rattle.adr_call.specs.declared.event.Event.{Event}
use Rattle.adr_call.specs.declared.event.Event.TheVariants as events
use Rattle.adr_call.specs.declared.event.Exchange.TheVariants as exchanges
use Rattle.adr_model.specs.World.{Name, World, answer}
use Rattle.adr_model.specs.Cycles.{Pulled, and_then, pull, pulls, reply_limit}
use Rattle.adr_model.specs.Step.{step}
use Rattle.adr_model.specs.Convergence.{MayHappen}
use Rattle.adr_run_world.specs.Door.{turns}
use Rattle.adr_run_world.specs.Pulls.{IsCycleTurn, IsTurn}

-- answers, and then those that come
abbrev pub said : List Answer → World × List Answer → World × List Answer
said told t = (t.0, told ++ t.1)

-- what is left of a line: of a cycle at most so many pulls, and of any other line the whole
abbrev pub rest_of : ℕ → World → Event → World × List Answer
rest_of n w (events.Goes name (exchanges.Cycle source max)) = pulls n w name source max
rest_of n w e = step w e

-- a line that is no cycle has one turn, and stands before it
abbrev pub IsFirst : World → Event → World → List Answer → Type 0
IsFirst w (events.Goes name (exchanges.Cycle source max)) v told = Unit {0}
IsFirst w e v told = (v ≡ w) × (told ≡ [])

-- so many turns of a line came to this, and the others may come
pub record IsSoFar (w : World) (e : Event) (turn : ℕ) (v : World) (told : List Answer) : Type 0 where
  pub may : MayHappen v e
  pub first : IsFirst w e v told
  pub within : turn ≤ reply_limit
  pub done : (n : ℕ) → turns (n + turn) w e ≡ said told (turns n v e)
  pub left : (n : ℕ) → rest_of (n + turn) w e ≡ said told (rest_of n v e)

-- one more turn came to this: the line goes on, or it is done
abbrev pub IsBehind : World → Event → ℕ → World → List Answer → Bool → Type 0
IsBehind w e turn u all true = IsSoFar w e (turn + 1) u all
IsBehind w e turn u all false = step w e ≡ (u, all)

begins : (w : World) (e : Event) → IsFirst w e w []
begins w (events.Goes name (exchanges.Cycle source max)) = tt
begins w e = (refl, refl)

-- before the first turn
pub at_first : (w : World) (e : Event) → MayHappen w e → IsSoFar w e 0 w []
at_first w e may = record {
  may = may;
  first = begins w e;
  within = omega arith;
  done = λ n. let same : n + 0 ≡ n = omega arith in ap (λ k. turns k w e) same;
  left = λ n. let same : n + 0 ≡ n = omega arith in ap (λ k. rest_of k w e) same;
}

-- pulls one by one, by what they come to
module _ (dest source : Name) (max : ℕ) (go : ℕ → World → World × List Answer) (law : (n : ℕ) (x : World) → go (suc n) x ≡ and_then (pull x dest source max) (go n))
    (w v u : World) (turn : ℕ) (told more : List Answer) (ahead : (n : ℕ) → go (n + turn) w ≡ said told (go n v)) where
  next_pull : (b : Bool) → pull v dest source max ≡ (u, more, b) → (n : ℕ) → go (suc n + turn) w ≡ said told (and_then (u, more, b) (go n))
  next_pull b is n = ahead (suc n) ∙ ap (said told) (law n v ∙ ap (λ (p : Pulled). and_then p (go n)) is)

  one_more : pull v dest source max ≡ (u, more, true) → (n : ℕ) → go (n + (turn + 1)) w ≡ said (told ++ more) (go n u)
  one_more is n = let same : n + (turn + 1) ≡ suc n + turn = omega arith in
      ap (λ k. go k w) same ∙ (next_pull true is n ∙ ap (λ (rest : List Answer). ((go n u).0, rest)) (sym (append_assoc told more (go n u).1)))

  last_one : pull v dest source max ≡ (u, more, false) → (limit : ℕ) → turn < limit → go limit w ≡ (u, told ++ more)
  last_one is limit below = let same : limit ≡ suc (limit - (turn + 1)) + turn = omega arith in
      ap (λ k. go k w) same ∙ next_pull false is (limit - (turn + 1))

-- a line that pulls a cycle
abbrev cycle_of : Name → Name → ℕ → Event
cycle_of dest source max = events.Goes dest (exchanges.Cycle source max)

module _ (dest source : Name) (max : ℕ) (w v : World) (turn : ℕ) (told : List Answer) (so : IsSoFar w (cycle_of dest source max) turn v told) where
  behind_pull : (b : Bool) (u : World) (more : List Answer) → turn < reply_limit → pull v dest source max ≡ (u, more, b) → IsBehind w (cycle_of dest source max) turn u (told ++ more) b
  behind_pull true u more below is = record {
    may = tt;
    first = tt;
    within = omega arith;
    done = one_more dest source max (λ n x. turns n x (cycle_of dest source max)) (λ n x. refl) w v u turn told more so.done is;
    left = one_more dest source max (λ n x. pulls n x dest source max) (λ n x. refl) w v u turn told more so.left is;
  }
  behind_pull false u more below is = last_one dest source max (λ n x. pulls n x dest source max) (λ n x. refl) w v u turn told more so.left is reply_limit below

  runs_out : (limit : ℕ) → turn ≡ limit → pulls limit w dest source max ≡ (v, told ++ answer (codes "cycle") dest outcomes.More ∷ [])
  runs_out limit is = let same : limit ≡ 0 + turn = omega arith in ap (λ k. pulls k w dest source max) same ∙ so.left 0

  behind_cycle_turn : (p : Pulled) → IsCycleTurn turn v dest source max p → IsBehind w (cycle_of dest source max) turn p.0 (told ++ p.1) p.2
  behind_cycle_turn p (inl is) = behind_pull p.2 p.0 p.1 is.0 (sym is.1)
  behind_cycle_turn p (inr is) =
      let most : turn ≤ reply_limit = so.within in
      let least : reply_limit ≤ turn = is.0 in
      let at : turn ≡ reply_limit = omega arith in
      subst (λ (q : Pulled). IsBehind w (cycle_of dest source max) turn q.0 (told ++ q.1) q.2) (sym is.1) (runs_out reply_limit at)

behind_whole : (w v : World) (e : Event) (turn : ℕ) (told : List Answer) (p : Pulled) → step w e ≡ said told (step v e) → p ≡ ((step v e).0, (step v e).1, false) → IsBehind w e turn p.0 (told ++ p.1) p.2
behind_whole w v e turn told p left is = subst (λ (q : Pulled). IsBehind w e turn q.0 (told ++ q.1) q.2) (sym is) left

-- behind a turn
pub behind : (w : World) (e : Event) (turn : ℕ) (v : World) (told : List Answer) (p : Pulled) → IsSoFar w e turn v told → IsTurn turn v e p → IsBehind w e turn p.0 (told ++ p.1) p.2
behind w (events.Goes dest (exchanges.Cycle source max)) turn v told p so is = behind_cycle_turn dest source max w v turn told so p is
behind w e turn v told p so is = behind_whole w v e turn told p (so.left 0) is

module _ (w : World) (e : Event) (turn : ℕ) (v : World) (told : List Answer) (p : Pulled) (so : IsSoFar w e turn v told) (is : IsTurn turn v e p) where
  -- the line goes on
  pub goes_on : p.2 ≡ true → IsSoFar w e (turn + 1) p.0 (told ++ p.1)
  goes_on more = subst (IsBehind w e turn p.0 (told ++ p.1)) more (behind w e turn v told p so is)

  -- or it is done
  pub ends : p.2 ≡ false → step w e ≡ (p.0, told ++ p.1)
  ends none = subst (IsBehind w e turn p.0 (told ++ p.1)) none (behind w e turn v told p so is)

-- a line is what is left of it before its first turn
whole : (w : World) (e : Event) → step w e ≡ rest_of reply_limit w e
whole w (events.Goes dest (exchanges.Cycle source max)) = refl
whole w e = refl

module _ (w : World) (e : Event) (turn : ℕ) where
  -- the answers so far are the first
  pub told_first : (v : World) (told : List Answer) → IsSoFar w e turn v told → (rest : List Answer) × ((step w e).1 ≡ told ++ rest)
  told_first v told so =
      let within : turn ≤ reply_limit = so.within in
      let same : reply_limit ≡ (reply_limit - turn) + turn = omega arith in
      ((rest_of (reply_limit - turn) v e).1, ap (λ (t : World × List Answer). t.1) (whole w e ∙ ap (λ k. rest_of k w e) same ∙ so.left (reply_limit - turn)))

  pub turns_so_far : (v : World) (told : List Answer) → IsSoFar w e turn v told → turns turn w e ≡ (v, told)
  turns_so_far v told so = let same : turn ≡ 0 + turn = omega arith in
      ap (λ k. turns k w e) same ∙ so.done 0 ∙ ap (λ (list : List Answer). (v, list)) (append-nil told)
