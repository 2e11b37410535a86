-- What a fault leaves of a line, by the turns that were done.
use Rattle.std.proofs.Common.{◌≡◌, inl, inr, refl, ℕ, ◌+◌, List, [], ◌++◌, Bool, true, false, Option, take, sym, ap, subst}
use Rattle.std.specs.Prelude.{flat_map}
use Rattle.adr_call.specs.declared.answer.Answer.{Answer}
use Rattle.adr_call.specs.declared.event.Event.{Event}
use Rattle.adr_call.specs.declared.event.Event.TheVariants as events
use Rattle.adr_call.specs.declared.event.Exchange.TheVariants as exchanges
use Rattle.adr_call.specs.declared.event.Meeting.TheVariants as meetings
use Rattle.adr_io.specs.Told.{Adds, AddsFront}
use Rattle.adr_model.specs.World.{World}
use Rattle.adr_model.specs.Cycles.{Pulled}
use Rattle.adr_model.specs.Step.{step}
use Rattle.adr_answers.specs.Line.{line}
use Rattle.adr_answers.specs.Whole.{AddsFirstLines}
use Rattle.adr_run_world.specs.Door.{IsDone, IsLeftBy, IsShortBy, IsStillMidway, IsTold, IsUndoneBy, LacksLines}
use Rattle.adr_run_world.specs.Pulls.{IsTurn}
use Rattle.adr_run_world.specs.Short.{IsMidway, IsCutShort}
use Rattle.adr_answers.proofs.Due.{all_added}
use Rattle.adr_run_world.proofs.Turns.{IsFirst, IsSoFar, IsBehind, behind, goes_on, ends, told_first, turns_so_far}
use Rattle.adr_answers.proofs.ToldLines.{lines_begin, lines_front, lines_more}

is_done : (t : World × List Answer) (v : World) (all : List Answer) (first now : Option (List ℕ)) → t ≡ (v, all) → AddsFront first now (flat_map line all) → IsDone t v first now
is_done t v all first now is front = subst (λ (x : World × List Answer). IsDone x v first now) (sym is) (refl, front)

module _ (w : World) (e : Event) (turn : ℕ) (v : World) (all : List Answer) (first now : Option (List ℕ)) (front : AddsFront first now (flat_map line all)) where
  -- whole turns were done
  left_so_far : IsSoFar w e turn v all → IsLeftBy w e v first now
  left_so_far so = inl (turn, so.within, is_done _ v all first now (turns_so_far w e turn v all so) front)

  front_of_turns : IsSoFar w e turn v all → AddsFront first now (flat_map line (step w e).1)
  front_of_turns so = let t = told_first w e turn v all so in lines_begin first now (step w e).1 all t.0 t.1 front

module _ (w : World) (e : Event) (turn : ℕ) (v : World) (all : List Answer) (first now : Option (List ℕ)) (front : AddsFront first now (flat_map line all)) where
  -- one more was done, and it may be the last
  left_behind : (b : Bool) → IsBehind w e turn v all b → IsLeftBy w e v first now
  left_behind true so = left_so_far w e (turn + 1) v all first now front so
  left_behind false is = inr (inl (is_done (step w e) v all first now is front))

  front_behind : (b : Bool) → IsBehind w e turn v all b → AddsFront first now (flat_map line (step w e).1)
  front_behind true so = front_of_turns w e (turn + 1) v all first now front so
  front_behind false is = subst (λ (t : World × List Answer). AddsFront first now (flat_map line t.1)) (sym is) front

-- a start has one turn, and so has a ring
midway_first : (w : World) (e : Event) (v u : World) (told : List Answer) → IsFirst w e v told → IsMidway v e u → IsMidway w e u × (told ≡ [])
midway_first w (events.Meets name meetings.Start) v u told first midway = (subst (λ (x : World). IsMidway x (events.Meets name meetings.Start) u) first.0 midway, first.1)
midway_first w (events.Goes name (exchanges.Ring others rounds max)) v u told first midway = (subst (λ (x : World). IsMidway x (events.Goes name (exchanges.Ring others rounds max)) u) first.0 midway, first.1)
midway_first w e v u told first midway = absurd midway

-- where whole turns were done, and one more wanted memory
undone_by : (w : World) (e : Event) (turn : ℕ) (v : World) (told : List Answer) (first now : Option (List ℕ)) → IsSoFar w e turn v told → Adds first now (flat_map line told) → (u : World) → IsCutShort v e u
    → IsUndoneBy w e u first now
undone_by w (events.Goes name (exchanges.Cycle source max)) turn v told first now so added u (inl same) =
    let e : Event = events.Goes name (exchanges.Cycle source max) in
    (turn, so.within, subst (λ (x : World × List Answer). IsTold x u first now) (sym (turns_so_far w e turn v told so)) (same, added))
undone_by w (events.Goes name (exchanges.Cycle source max)) turn v told first now so added u (inr midway) = absurd midway
undone_by w e turn v told first now so added u cut =
    (subst (λ (x : World). IsCutShort x e u) so.first.0 cut, subst (λ (list : List Answer). Adds first now (flat_map line list)) so.first.1 added)

-- ---- so many turns of a line came to this, and the lines of their answers are written

pub record AreTold (w : World) (e : Event) (turn : ℕ) (v : World) (first now : Option (List ℕ)) : Type 0 where
  pub told : List Answer
  pub so : IsSoFar w e turn v told
  pub added : Adds first now (flat_map line told)

module _ {w : World} {e : Event} {turn : ℕ} {v : World} {first now : Option (List ℕ)} (t : AreTold w e turn v first now) where
  front : AddsFront first now (flat_map line t.told)
  front = all_added first now (flat_map line t.told) t.added

  pub front_so_far : AddsFront first now (flat_map line (step w e).1)
  front_so_far = front_of_turns w e turn v t.told first now front t.so

  -- one more turn wanted memory
  module _ (u : World) where
    still_midway : IsMidway v e u → IsStillMidway w e u first now
    still_midway midway =
        let m = midway_first w e v u t.told t.so.first midway in
        (m.0, subst (λ (list : List Answer). Adds first now (flat_map line list)) m.1 t.added)

    pub left_short : IsCutShort v e u → IsLeftBy w e u first now
    left_short (inl same) = subst (λ (x : World). IsLeftBy w e x first now) (sym same) (left_so_far w e turn v t.told first now front t.so)
    left_short (inr midway) = inr (inr (still_midway midway))

    pub short_turn : IsCutShort v e u → IsShortBy w e u first now
    short_turn (inl same) = inl (turn, t.so.within, inl (subst (λ (x : World × List Answer). IsTold x u first now) (sym (turns_so_far w e turn v t.told t.so)) (same, t.added)))
    short_turn (inr midway) = inr (still_midway midway)

    pub undone_turn : IsCutShort v e u → IsUndoneBy w e u first now
    undone_turn cut = undone_by w e turn v t.told first now t.so t.added u cut

  -- one more turn was done, whose answers are these
  module _ (next : Option (List ℕ)) (p : Pulled) (list : List Answer) (same : list ≡ p.1) (is : IsTurn turn v e p) where
    lines : Adds now next (flat_map line list) → Adds first next (flat_map line (t.told ++ p.1))
    lines added = lines_more first now next t.told p.1 t.added (subst (λ (answers : List Answer). Adds now next (flat_map line answers)) same added)

    -- their lines are written, and the line goes on
    pub goes_on_told : p.2 ≡ true → Adds now next (flat_map line list) → AreTold w e (turn + 1) p.0 first next
    goes_on_told more added = record { told = t.told ++ p.1; so = goes_on w e turn v t.told p t.so is more; added = lines added }

    -- or it is done
    pub ended_at : p.2 ≡ false → p.0 ≡ (step w e).0
    ended_at none = sym (ap (λ (x : World × List Answer). x.0) (ends w e turn v t.told p t.so is none))

    pub all_told : p.2 ≡ false → Adds now next (flat_map line list) → Adds first next (flat_map line (step w e).1)
    all_told none added = subst (λ (x : World × List Answer). Adds first next (flat_map line x.1)) (sym (ends w e turn v t.told p t.so is none)) (lines added)

    -- a front of their lines is written
    module _ (written : AddsFront now next (flat_map line list)) where
      fronts : AddsFront first next (flat_map line (t.told ++ p.1))
      fronts = lines_front first now next t.told p.1 t.added (subst (λ (answers : List Answer). AddsFront now next (flat_map line answers)) same written)

      pub left_told : IsLeftBy w e p.0 first next
      left_told = left_behind w e turn p.0 (t.told ++ p.1) first next fronts p.2 (behind w e turn v t.told p t.so is)

      pub front_told : AddsFront first next (flat_map line (step w e).1)
      front_told = front_behind w e turn p.0 (t.told ++ p.1) first next fronts p.2 (behind w e turn v t.told p t.so is)

    -- or the first so many of their lines
    pub short_lines : AddsFirstLines now next list → IsShortBy w e p.0 first next
    short_lines written = by (subst (λ (answers : List Answer). AddsFirstLines now next answers) same written)
      where
        by : AddsFirstLines now next p.1 → IsShortBy w e p.0 first next
        by (n, within, more) =
            inl (
              turn,
              t.so.within,
              inr (subst (λ (x : World × List Answer). LacksLines turn x e p.0 first next) (sym (turns_so_far w e turn v t.told t.so))
                  (p, is, (n, within, (refl, lines_more first now next t.told (take n p.1) t.added more)))),
            )
