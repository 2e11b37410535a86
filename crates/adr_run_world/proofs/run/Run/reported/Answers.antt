-- What is told of a controller's store is the report that is asked for.
use Rattle.std.proofs.Common.{◌∙◌, ap}
use Rattle.std.proofs.lemmas.Result.{IfOk-weaker}
use Rattle.adr_model.specs.Store.{State, updates_of}
use Rattle.adr_view.specs.Report.{report_of}
use Rattle.adr_run_world.specs.Run.{world_of}
use Rattle.adr_run_world.proofs.Becoming.{found_there}
use Rattle.adr_run_world.proofs.Shows.{nobody_reports, up_reports, other_reports}
use Rattle.adr_run_world.proofs.run.Run.reported.Goals as goal

pub returns-in_default : goal.returns-in_default
returns-in_default c = nobody_reports (world_of c.args.self.now) c.args.name.now c.args.what c.in_default.ensures.none

pub report-requires-clause-links : goal.report-requires-clause-links
report-requires-clause-links c =
    let s = c.in-Ok.state.now in
    c.formed_rows_have_back_links.ensures s.store.schema (updates_of s.store.rows) c.in-Ok.ensures.up.2.formed.store.rows

pub report-requires-clause-named : goal.report-requires-clause-named
report-requires-clause-named c = c.in-Ok.ensures.up.2.formed.store.rows.named

pub returns-in-Ok : goal.returns-in-Ok
returns-in-Ok c =
    let d = c.index.result.now in
    IfOk-weaker c.report.result _ _
    (λ o made.
    up_reports (world_of c.args.self.now) c.args.name.now c.args.what d
    (found_there c.args.self.now c.args.name.now c.in-Some.place d c.in-Some.ensures.place c.index.ensures c.in-Some.ensures.found)
    c.requires.of_run o c.in-Ok.ensures.up.0 (made ∙ ap (λ (s : State). report_of c.args.what s.store) c.in-Ok.ensures.up.1))
    c.report.ensures

pub returns-in-Err : goal.returns-in-Err
returns-in-Err c =
    let d = c.index.result.now in
    other_reports (world_of c.args.self.now) c.args.name.now c.args.what d
    (found_there c.args.self.now c.args.name.now c.in-Some.place d c.in-Some.ensures.place c.index.ensures c.in-Some.ensures.found)
    c.in-Err.other c.in-Err.ensures.other
