use Rattle.std.proofs.Common.{◌∙◌, sym}
use Rattle.adr_run_world.proofs.Places.{at_place, found_here}
use Rattle.adr_run_world.proofs.controller.place_of.Goals as goal

pub returns-then-eq-clause-found : goal.returns-then-eq-clause-found
returns-then-eq-clause-found c =
    sym c.loop-place.invariant
    ∙ found_here c.args.controllers.now c.loop-place.place c.index-controllers-place.result c.args.name.now
    (at_place c.args.controllers.now c.loop-place.place c.index-controllers-place.result c.loop-place-test.true c.index-controllers-place.is) (cc)
