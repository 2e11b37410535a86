-- The answer of a reply's taking stands behind the source's.
use Rattle.std.proofs.Common.{Option, Some, None, false, ap, ◌∙◌}
use Rattle.std.proofs.lemmas.Result.{IfOk-weaker}
use Rattle.adr_model.specs.Serve.{Reply}
use Rattle.adr_model.specs.World.{Sent, serves_request}
use Rattle.adr_run_replica.specs.Past.{Past}
use Rattle.adr_run_world.specs.Run.{with_past, world_of}
use Rattle.adr_run_world.proofs.Pulls.{behind_none, asked_on, served_short}
use Rattle.adr_run_world.proofs.Results.{on_err_so}
use Rattle.adr_run_world.proofs.run.Run.pull_asked.Goals as goal

pub returns-in-None-clause-pulled : goal.returns-in-None-clause-pulled
returns-in-None-clause-pulled c =
    let w = world_of c.args.self.now in
    let v = world_of c.served.new.self in
    let now = c.served.new.answers.items in
    let put : Option Reply → Sent Reply = λ o. (v, (serves_request w c.args.source.now (Some c.args.request.now)).1, o) in
    asked_on w c.args.dest.now c.args.source.now c.args.answers.now.items now (v, now, false) c.args.request.now v None
    (c.in_ok-served.ensures.sent ∙ ap put c.in-None.is) c.in_ok-served.ensures.told (behind_none v now)

pub returns-in-Some-clause-pulled : goal.returns-in-Some-clause-pulled
returns-in-Some-clause-pulled c =
    let w = world_of c.args.self.now in
    let v = world_of c.served.new.self in
    let put : Option Reply → Sent Reply = λ o. (v, (serves_request w c.args.source.now (Some c.args.request.now)).1, o) in
    IfOk-weaker c.pull_ended.result _ _
    (λ goes_on rest. asked_on w c.args.dest.now c.args.source.now c.args.answers.now.items c.served.new.answers.items (world_of c.pull_ended.new.self, c.pull_ended.new.answers.items, goes_on) c.args.request.now v (Some c.in-Some.reply)
    (c.in_ok-served.ensures.sent ∙ ap put c.in-Some.is) c.in_ok-served.ensures.told rest)
    c.pull_ended.ensures.pulled

pub returns-in-Some-clause-err : goal.returns-in-Some-clause-err
returns-in-Some-clause-err c =
    let w = world_of c.args.self.now in
    let v = world_of c.served.new.self in
    let put : Option Reply → Sent Reply = λ o. (v, (serves_request w c.args.source.now (Some c.args.request.now)).1, o) in
    on_err_so c.pull_ended.result c.pull_ended.ensures.err
    (λ is. served_short w c.again-before.result c.args.source.now (world_of c.pull_ended.new.self) c.args.request.now v (serves_request w c.args.source.now (Some c.args.request.now)).1 c.in-Some.reply
    (c.in_ok-served.ensures.sent ∙ ap put c.in-Some.is) is
    ∙ ap (λ (p : Past). with_past p w) c.again-before.ensures)
