use Rattle.std.proofs.Common.{sym, subst}
use Rattle.std.specs.Prelude.{All}
use Rattle.adr_model.specs.Convergence.{MayAllHappen}
use Rattle.adr_law_headline.proofs.Following.{following_may}
use Rattle.adr_law_headline.proofs.Typing.{following_typed}
use Rattle.adr_law_recorded.specs.Typed.{AreTyped}
use Rattle.adr_run_replay.proofs.exercising.run_schedule.Goals as goal

pub count_all-done-requires-clause-may : goal.count_all-done-requires-clause-may
count_all-done-requires-clause-may c =
    subst (λ w. MayAllHappen w c.as_slice.result.now) (sym c.requires) (subst (MayAllHappen _) (sym c.as_slice.ensures.value) (following_may c.in_ok-events.events.items c.in_ok-events.ensures.follows))

pub count_all-done-requires-clause-typed : goal.count_all-done-requires-clause-typed
count_all-done-requires-clause-typed c = subst AreTyped (sym c.as_slice.ensures.value) (following_typed c.in_ok-events.events.items c.in_ok-events.ensures.follows)
