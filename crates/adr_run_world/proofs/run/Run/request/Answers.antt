use Rattle.std.proofs.Common.{◌∙◌}
use Rattle.std.proofs.lemmas.Result.{IfOk-weaker}
use Rattle.adr_run_world.specs.Run.{world_of}
use Rattle.adr_run_world.proofs.Places.{at_place}
use Rattle.adr_run_world.proofs.Calls.{asked_so, no_asker_so, no_partner_so}
use Rattle.adr_run_world.proofs.run.Run.request.Goals as goal

pub returns-in_default-clause-asked : goal.returns-in_default-clause-asked
returns-in_default-clause-asked c = no_asker_so (world_of c.args.self.now) c.args.name.now c.args.partner.now c.args.max c.args.version c.in_default.ensures.none

pub returns-in_default-place_of-clause-asked : goal.returns-in_default-place_of-clause-asked
returns-in_default-place_of-clause-asked c = no_partner_so (world_of c.args.self.now) c.args.name.now c.args.partner.now c.args.max c.args.version c.in_default-place_of.ensures.none

pub returns-clause-asked : goal.returns-clause-asked
returns-clause-asked c =
    let cs = c.args.self.now.controllers.items in
    IfOk-weaker c.ask.result _ _
    (λ sent is.
    asked_so (world_of c.args.self.now) c.args.name.now c.args.partner.now c.args.max c.args.version c.index-2.result.now c.index.result.now c.dsa-dsa.result sent.0 sent.1
    (c.in-Some.ensures.found ∙ at_place cs c.in-Some.asker c.index-2.result.now c.in-Some.ensures.place c.index-2.ensures)
    (c.in-Some-place_of.ensures.found ∙ at_place cs c.in-Some-place_of.asked c.index.result.now c.in-Some-place_of.ensures.place c.index.ensures)
    c.dsa-dsa.ensures (is (world_of c.args.self.now)))
    c.ask.ensures.asked
