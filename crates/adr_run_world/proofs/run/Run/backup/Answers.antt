use Rattle.std.proofs.Common.{◌≡◌, ◌∙◌, sym, ap, None}
use Rattle.adr_call.specs.declared.event.Made.TheVariants.{Backup}
use Rattle.adr_call.specs.declared.outcome.Outcome.{Outcome}
use Rattle.adr_call.specs.declared.outcome.Outcome.TheVariants as outcomes
use Rattle.adr_model.specs.Collect.{backup}
use Rattle.adr_model.specs.Step.{makes}
use Rattle.adr_model.specs.World.{backed_up, bound, nothing, of_controller}
use Rattle.adr_run_world.specs.Run.{world_of}
use Rattle.adr_run_world.proofs.Adoptions.{bound_so}
use Rattle.adr_run_world.proofs.Becoming.{found_there}
use Rattle.adr_run_world.proofs.Calls.{reaches, reaches_none}
use Rattle.adr_run_world.proofs.Results.{on_err_so, on_ok_as}
use Rattle.adr_run_world.proofs.run.Run.backup.Goals as goal

pub returns-in_default-clause-done : goal.returns-in_default-clause-done
returns-in_default-clause-done c =
    let w = world_of c.args.self.now in
    bound_so (of_controller w c.args.name.now (nothing w) (λ r. backed_up w (backup r.safe))) (λ v i. record v { images = bound v.images c.args.bound.now i }) w outcomes.Absent None
    (reaches_none w c.args.name.now (nothing w) (λ r. backed_up w (backup r.safe)) c.in_default.ensures.none)

pub returns-clause-done : goal.returns-clause-done
returns-clause-done c =
    let w = world_of c.args.self.now in
    let d = c.index.result.now in
    let sent = c.in_ok-sent.sent in
    on_ok_as c.bind.result sent.0 (λ (o : Outcome). makes w c.args.name.now Backup c.args.bound.now ≡ (record w { images = c.bind.new.self }, o)) c.bind.ensures.outcome c.bind.ensures.ok
    (λ made. bound_so (of_controller w c.args.name.now (nothing w) (λ r. backed_up w (backup r.safe))) (λ v i. record v { images = bound v.images c.args.bound.now i }) w sent.0 sent.1
    (reaches w c.args.name.now (nothing w) (λ r. backed_up w (backup r.safe)) d
    (found_there c.args.self.now c.args.name.now c.in-Some.place d c.in-Some.ensures.place c.index.ensures c.in-Some.ensures.found)
    ∙ c.in_ok-sent.ensures w)
    ∙ ap (λ xs. (record w { images = xs }, sent.0)) (sym made))

pub returns-clause-err : goal.returns-clause-err
returns-clause-err c = on_err_so c.bind.result c.bind.ensures.err (λ same. ap (λ xs. record (world_of c.args.self.now) { images = xs }) same)
