-- Step behind step.
use Rattle.std.proofs.Common.{◌≡◌, ◌⊎◌, inl, ⊎_elim, ◌∙◌, sym, ap, subst, refl, ℕ, zero, suc, List, [], ◌∷◌, take, IfSome, IsSome, ◌≤◌, arith}
use Rattle.std.specs.Prelude.{◌↔◌}
use Rattle.adr_disk.specs.Disk.{Among, LeavesOnly}
use Rattle.adr_disk.proofs.Moments.{joined, started, weakened}
use Rattle.adr_law_journal.specs.Areas.{found}
use Rattle.adr_law_journal.proofs.Told.{at_told, if_told, is_some_of, some_is, some_of}
use Rattle.adr_journal.specs.declared.keeper.Keeper.{Ghosts}
use Rattle.adr_controller.specs.Running.{Running, IsInOrder}
use Rattle.adr_law_controller.proofs.Crashes.{LeavesLaw, OnlyNowLaw}
use Rattle.adr_law_controller.specs.Behind.{Step, Reached, surely, behind, behind_step, MayFind, AreTrueOf}
use Rattle.adr_law_controller.specs.Laws.{Leads, StandsAt, StandsBehindSteps, UpStandsAtItsState}
use Rattle.adr_law_controller.proofs.Steps.{IsAt, step_counts, step_leads, step_moves, step_tells, step_true}

module _ {K : Type 0} (k : Ghosts K) where
  pub all_lead : (steps : List Step) (first last : Running K) (r : Reached) → IsInOrder k first → IsAt first r → Leads k first steps last → IsAt last (behind r steps)
  unfolding Leads
  all_lead [] first last r order at same = subst (λ (c : Running K). IsAt c r) (sym same) at
  all_lead (step ∷ steps) first last r order at (next, comes, ordered, leads) =
      all_lead steps next last (behind_step r step) ordered (step_leads k step first next r order at comes) leads

  pub all_count : (steps : List Step) (first last : Running K) → Leads k first steps last → k.faults first.keeper ≤ k.faults last.keeper
  unfolding Leads
  all_count [] first last same = let is : last.keeper ≡ first.keeper = ap (λ (c : Running K). c.keeper) same in subst (λ x. k.faults first.keeper ≤ k.faults x) (sym is) (omega arith)
  all_count (step ∷ steps) first last (next, comes, ordered, leads) = omega (arith, step_counts k step first next comes, all_count steps next last leads)

  pub all_tell : (steps : List Step) (first last : Running K) → Leads k first steps last → IsSome (k.told last.keeper) ↔ IsSome (k.told first.keeper)
  unfolding Leads
  all_tell [] first last same = let is : last.keeper ≡ first.keeper = ap (λ (c : Running K). c.keeper) same in
      (λ told. subst (λ x. IsSome (k.told x)) is told, λ told. subst (λ x. IsSome (k.told x)) (sym is) told)
  all_tell (step ∷ steps) first last (next, comes, ordered, leads) =
      let one = step_tells k step first next comes in
      let then = all_tell steps next last leads in
      (λ told. one.0 (then.0 told), λ told. then.1 (one.1 told))

  pub all_ordered : (steps : List Step) (first last : Running K) → IsInOrder k first → Leads k first steps last → IsInOrder k last
  unfolding Leads
  all_ordered [] first last order same = subst (λ (c : Running K). IsInOrder k c) (sym same) order
  all_ordered (step ∷ steps) first last order (next, comes, ordered, leads) = all_ordered steps next last ordered leads

module _ {K : Type 0} (k : Ghosts K)
    (leaves : LeavesLaw k)
    (honest : (keeper : K) → IfSome (k.told keeper) (k.may_leave keeper))
    (only_now : OnlyNowLaw k) where
  told_stands : (c : Running K) (r : Reached) → IsInOrder k c → IsAt c r → (IsSome (k.told c.keeper) → Among (MayFind r) (k.may_leave c.keeper)) → StandsAt k r c
  told_stands c r order at left = record {
    in_order = order;
    up = at;
    reads = if_told (k.told c.keeper) (MayFind r) (λ t tells. left (is_some_of (k.told c.keeper) t tells) t (at_told (k.told c.keeper) (k.may_leave c.keeper) t tells (honest c.keeper)));
    left = if_told (k.told c.keeper) (λ _. Among (MayFind r) (k.may_leave c.keeper)) (λ t tells. left (is_some_of (k.told c.keeper) t tells));
  }

  pub up_stands : UpStandsAtItsState k
  up_stands s c is order =
      told_stands c (surely s) order (λ t ist. ap surely (some_is s t (sym is ∙ ist)))
      (λ told x h. let up = (order.up s is).0 in (s, inl refl, (up.log, leaves c.keeper (found s up.log) x up.at up.running told h)))

  -- what is left at the end, and at each moment, and what the starts found
  record Survived (r : Reached) (first : Running K) (steps : List Step) (last : Running K) : Type 0 where
    left : Among (MayFind (behind r steps)) (k.may_leave last.keeper)
    any_moment : LeavesOnly k.moment k.left_since first.keeper last.keeper (λ found. (n : ℕ) × MayFind (behind r (take n steps)) found)
    starts : AreTrueOf r steps

  ends : (c : Running K) (r : Reached) → Among (MayFind r) (k.may_leave c.keeper) → Survived r c [] c
  unfolding AreTrueOf
  ends c r left = record {
    left = left;
    any_moment = started k.moment k.left_since c.keeper (λ found. (n : ℕ) × MayFind (behind r (take n [])) found) (λ x h. (zero, left x (only_now c.keeper x h)));
    starts = tt;
  }

  all_survive : (steps : List Step) (first last : Running K) (r : Reached) → IsInOrder k first → IsAt first r → IsSome (k.told first.keeper) → Among (MayFind r) (k.may_leave first.keeper) → Leads k first steps last
      → Survived r first steps last
  unfolding Leads AreTrueOf
  all_survive [] first last r order at told left same = subst (λ (c : Running K). Survived r first [] c) (sym same) (ends first r left)
  all_survive (step ∷ steps) first last r order at told left (next, comes, ordered, leads) =
      let moved = step_moves k leaves honest only_now r first next told left step order ordered at comes in
      let then = all_survive steps next last (behind_step r step) ordered (step_leads k step first next r order at comes) moved.told moved.left leads in
      record {
        left = then.left;
        any_moment = joined k.moment k.left_since first.keeper next.keeper last.keeper (λ found. (n : ℕ) × MayFind (behind r (take n (step ∷ steps))) found)
            (weakened k.moment k.left_since first.keeper next.keeper (λ found. MayFind r found ⊎ MayFind (behind_step r step) found) _
            (λ x either. ⊎_elim (λ before. (zero, before)) (λ behind. (suc zero, behind)) either) moved.moments)
            (weakened k.moment k.left_since next.keeper last.keeper (λ found. (n : ℕ) × MayFind (behind (behind_step r step) (take n steps)) found) _
            (λ x some. (suc some.0, some.1)) then.any_moment);
        starts = (step_true k leaves honest only_now r first next told left step comes, then.starts);
      }

  pub stands_behind : StandsBehindSteps k
  stands_behind r first last steps stands leads =
      let survived : IsSome (k.told first.keeper) → Survived r first steps last = λ told.
      let there = some_of (k.told first.keeper) told in
      all_survive steps first last r stands.in_order stands.up told (at_told (k.told first.keeper) (λ _. Among (MayFind r) (k.may_leave first.keeper)) there.0 there.1 stands.left) leads in
      let tells = all_tell k steps first last leads in
      record {
        stands = told_stands last (behind r steps) (all_ordered k steps first last stands.in_order leads) (all_lead k steps first last r stands.in_order stands.up leads) (λ told. (survived (tells.0 told)).left);
        later = all_count k steps first last leads;
        still_told = tells;
        any_moment = if_told (k.told first.keeper) _ (λ t is. (survived (is_some_of (k.told first.keeper) t is)).any_moment);
        starts = λ told. (survived told).starts;
      }
