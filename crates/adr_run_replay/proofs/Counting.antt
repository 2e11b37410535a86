-- Events one after another: where they lead, and what their answers come to.
use Rattle.std.proofs.Common.{◌≡◌, ◌<◌, ◌+◌, ℕ, suc, List, [], ◌∷◌, get_or, drop, drop-cons, length, refl, sym, ap, ◌∙◌, arith}
use Rattle.std.specs.Prelude.{sum_by, codes}
use Rattle.std.proofs.lemmas.List.Sums.{fold-append, sum_by-cons}
use Rattle.adr_call.specs.declared.outcome.Outcome.{Outcome}
use Rattle.adr_call.specs.declared.outcome.Outcome.TheVariants.{Refused, Removed}
use Rattle.adr_call.specs.declared.answer.Answer.{Answer}
use Rattle.adr_call.specs.declared.event.Event.{Event}
use Rattle.adr_model.specs.Rings.{show_alike}
use Rattle.adr_model.specs.World.{World, empty_world}
use Rattle.adr_model.specs.Step.{step, after_lines, answers}
use Rattle.adr_run_exercise.specs.Generated.{schedule}
use Rattle.adr_run_exercise.specs.Summary.{Summary, directory_of, forward_links, four_names, refusals_in, removals_in, summary}
use Rattle.adr_run_world.specs.declared.counting.Tally.{Tally}
use Rattle.adr_run_world.specs.Counted.{counted, with_answer, with_outcome}

-- the event at a place is the first of those that are left
pub first_left : (events : List Event) (i j : ℕ) (e : Event) → i < length events → e ≡ get_or events i e → j ≡ suc i → drop i events ≡ e ∷ drop j events
first_left events i j e within is next = drop-cons events i e within ∙ (ap (λ x. x ∷ drop (suc i) events) (sym is) ∙ ap (λ n. e ∷ drop n events) (sym next))

pub one_further : (w v u : World) (events all : List Event) (i j : ℕ) (e : Event) → drop i events ≡ e ∷ drop j events → u ≡ (step v e).0
    → after_lines v (drop i events) ≡ after_lines w all → after_lines u (drop j events) ≡ after_lines w all
one_further w v u events all i j e here is so_far = ap (λ x. after_lines x (drop j events)) is ∙ (ap (after_lines v) (sym here) ∙ so_far)

pub one_counted : (v u : World) (now next first : Tally) (events : List Event) (all : List Answer) (i j : ℕ) (e : Event) → drop i events ≡ e ∷ drop j events → u ≡ (step v e).0
    → next ≡ counted now (step v e).1 → counted now (answers v (drop i events)) ≡ counted first all → counted next (answers u (drop j events)) ≡ counted first all
one_counted v u now next first events all i j e here is counts so_far =
    ap (λ t. counted t (answers u (drop j events))) counts
    ∙ (ap (λ x. counted (counted now (step v e).1) (answers x (drop j events))) is
    ∙ (sym (fold-append with_answer now (step v e).1 (answers (step v e).0 (drop j events))) ∙ (ap (λ es. counted now (answers v es)) (sym here) ∙ so_far)))

-- ---- what is counted is what the sums say

refused_more : (t : Tally) (o : Outcome) → (with_outcome t o).refused ≡ t.refused + refusals_in o
refused_more t (Refused number label fields) = refl
refused_more t o = omega arith

removed_more : (t : Tally) (o : Outcome) → (with_outcome t o).removed ≡ t.removed + removals_in o
removed_more t (Removed removed) = refl
removed_more t o = omega arith

-- a part of a tally that grows by what each answer adds
part_counted : (part : Tally → ℕ) (added : Outcome → ℕ) → ((t : Tally) (o : Outcome) → part (with_outcome t o) ≡ part t + added o) → (t : Tally) (told : List Answer)
    → part (counted t told) ≡ part t + sum_by (λ (a : Answer). added a.outcome) told
part_counted part added more t [] = omega arith
part_counted part added more t (a ∷ told) =
    let rest = part_counted part added more (with_answer t a) told in
    let here = more t a.outcome in
    let all = sum_by-cons (λ (x : Answer). added x.outcome) a told in
    omega (arith, rest, here, all)

pub refusals_counted : (t : Tally) (told : List Answer) → (counted t told).refused ≡ t.refused + sum_by (λ (a : Answer). refusals_in a.outcome) told
refusals_counted = part_counted (λ t. t.refused) refusals_in refused_more

pub removals_counted : (t : Tally) (told : List Answer) → (counted t told).removed ≡ t.removed + sum_by (λ (a : Answer). removals_in a.outcome) told
removals_counted = part_counted (λ t. t.removed) removals_in removed_more

-- ---- the summary of a run

abbrev pub none_counted : Tally
none_counted = record { refused = 0; removed = 0 }

pub summary_is : (n : ℕ) (w : World) (t : Tally) (s : Summary) → w ≡ after_lines empty_world (schedule n) → t ≡ counted none_counted (answers empty_world (schedule n))
    → s ≡ record {
      objects = length (directory_of w (codes "A"));
      links = sum_by forward_links (directory_of w (codes "A"));
      refused = t.refused;
      collected = t.removed;
      equal = show_alike w four_names;
    }
    → s ≡ summary n
unfolding summary
summary_is n w t s is counts made =
    made
    ∙ (ap (λ (x : World). counted_of x t.refused t.removed) is
    ∙ (ap (λ (refused : ℕ). counted_of end refused t.removed) refusals ∙ ap (λ (removed : ℕ). counted_of end (sum_by (λ (a : Answer). refusals_in a.outcome) told) removed) removals))
  where
    end : World
    end = after_lines empty_world (schedule n)

    told : List Answer
    told = answers empty_world (schedule n)

    counted_of : World → ℕ → ℕ → Summary
    counted_of x refused removed = record {
      objects = length (directory_of x (codes "A"));
      links = sum_by forward_links (directory_of x (codes "A"));
      refused = refused;
      collected = removed;
      equal = show_alike x four_names;
    }

    nothing_more : (n : ℕ) → 0 + n ≡ n
    nothing_more n = omega arith

    refusals : t.refused ≡ sum_by (λ (a : Answer). refusals_in a.outcome) told
    refusals = ap (λ (x : Tally). x.refused) counts ∙ (refusals_counted none_counted told ∙ nothing_more (sum_by (λ (a : Answer). refusals_in a.outcome) told))

    removals : t.removed ≡ sum_by (λ (a : Answer). removals_in a.outcome) told
    removals = ap (λ (x : Tally). x.removed) counts ∙ (removals_counted none_counted told ∙ nothing_more (sum_by (λ (a : Answer). removals_in a.outcome) told))
