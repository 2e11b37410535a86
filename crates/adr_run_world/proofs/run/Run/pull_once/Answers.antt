-- The answers of what a request comes to stand behind the first.
use Rattle.std.proofs.Common.{Option, Some, None, false, ap, ◌∙◌}
use Rattle.std.proofs.lemmas.Result.{IfOk-weaker}
use Rattle.adr_model.specs.Cycles.{pull_version}
use Rattle.adr_model.specs.Serve.{Request}
use Rattle.adr_model.specs.World.{Sent, asks}
use Rattle.adr_run_world.specs.Run.{world_of}
use Rattle.adr_run_world.proofs.Pulls.{behind_none, pulled_on}
use Rattle.adr_run_world.proofs.run.Run.pull_once.Goals as goal

pub returns-in-None-clause-pulled : goal.returns-in-None-clause-pulled
returns-in-None-clause-pulled c =
    let w = world_of c.args.self.now in
    let now = c.asked.new.answers.items in
    let put : Option Request → Sent Request = λ o. (w, (asks w c.args.dest.now c.args.source.now c.args.max pull_version).1, o) in
    pulled_on w c.args.dest.now c.args.source.now c.args.answers.now.items now (w, now, false) c.args.max None
    (c.in_ok-asked.ensures.sent ∙ ap put c.in-None.is) c.in_ok-asked.ensures.told (behind_none w now)

pub returns-in-Some-clause-pulled : goal.returns-in-Some-clause-pulled
returns-in-Some-clause-pulled c =
    let w = world_of c.args.self.now in
    let put : Option Request → Sent Request = λ o. (w, (asks w c.args.dest.now c.args.source.now c.args.max pull_version).1, o) in
    IfOk-weaker c.pull_asked.result _ _
    (λ goes_on rest. pulled_on w c.args.dest.now c.args.source.now c.args.answers.now.items c.asked.new.answers.items (world_of c.pull_asked.new.self, c.pull_asked.new.answers.items, goes_on) c.args.max (Some c.in-Some.request)
    (c.in_ok-asked.ensures.sent ∙ ap put c.in-Some.is) c.in_ok-asked.ensures.told rest)
    c.pull_asked.ensures.pulled
