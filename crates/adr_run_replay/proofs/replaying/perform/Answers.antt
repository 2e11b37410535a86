use Rattle.std.proofs.Common.{sym, subst}
use Rattle.std.specs.Prelude.{All}
use Rattle.adr_model.specs.World.{empty_world}
use Rattle.adr_model.specs.Convergence.{MayAllHappen}
use Rattle.adr_law_headline.proofs.Following.{following_may}
use Rattle.adr_law_headline.proofs.Typing.{following_typed}
use Rattle.adr_law_recorded.specs.Typed.{AreTyped}
use Rattle.adr_run_replay.proofs.replaying.perform.Goals as goal

pub play-played-requires-clause-may : goal.play-played-requires-clause-may
play-played-requires-clause-may g c = subst (MayAllHappen empty_world) (sym c.as_slice.ensures.value) (following_may c.in-Ok.events.items c.in-Ok.ensures.follows)

pub play-played-requires-clause-typed : goal.play-played-requires-clause-typed
play-played-requires-clause-typed g c = subst AreTyped (sym c.as_slice.ensures.value) (following_typed c.in-Ok.events.items c.in-Ok.ensures.follows)
