use Rattle.std.proofs.Common.{◌≡◌, ◌∙◌, sym, ap, Some, None}
use Rattle.adr_call.specs.declared.outcome.Outcome.{Outcome}
use Rattle.adr_call.specs.declared.outcome.Outcome.TheVariants as outcomes
use Rattle.adr_call.specs.declared.event.Made.TheVariants as mades
use Rattle.adr_model.specs.Step.{makes}
use Rattle.adr_model.specs.World.{Snapshot, bound, nothing, of_made, replica_at}
use Rattle.adr_run_world.specs.Run.{world_of}
use Rattle.adr_run_world.proofs.Adoptions.{bound_so}
use Rattle.adr_run_world.proofs.Becoming.{found_there}
use Rattle.adr_run_world.proofs.Results.{on_err_so, on_ok_as}
use Rattle.adr_run_world.proofs.run.Run.snapshot.Goals as goal

pub returns-in_default-clause-done : goal.returns-in_default-clause-done
returns-in_default-clause-done c =
    let w = world_of c.args.self.now in
    bound_so (of_made (nothing w) (replica_at w c.args.name.now) (λ r. (w, outcomes.Ok, Some (record { state = r.read; log = r.device.read_log }))))
    (λ v s. record v { snapshots = bound v.snapshots c.args.bound.now s }) w outcomes.Absent None
    (ap (λ x. of_made (nothing w) x (λ r. (w, outcomes.Ok, Some (record { state = r.read; log = r.device.read_log })))) c.in_default.ensures.none)

pub returns-clause-done : goal.returns-clause-done
returns-clause-done c =
    let w = world_of c.args.self.now in
    let snapshot = c.in_ok-snapshot.snapshot in
    on_ok_as c.bind.result outcomes.Ok (λ (o : Outcome). makes w c.args.name.now mades.Snapshot c.args.bound.now ≡ (record w { snapshots = c.bind.new.self }, o)) c.bind.ensures.outcome c.bind.ensures.ok
    (λ made. bound_so (of_made (nothing w) (replica_at w c.args.name.now) (λ r. (w, outcomes.Ok, Some (record { state = r.read; log = r.device.read_log }))))
    (λ v s. record v { snapshots = bound v.snapshots c.args.bound.now s }) w outcomes.Ok (Some snapshot)
    (ap (λ x. of_made (nothing w) x (λ r. (w, outcomes.Ok, Some (record { state = r.read; log = r.device.read_log }))))
    (found_there c.args.self.now c.args.name.now c.in-Some.place c.index.result.now c.in-Some.ensures.place c.index.ensures c.in-Some.ensures.found)
    ∙ ap (λ (s : Snapshot). (w, outcomes.Ok, Some s)) (sym c.in_ok-snapshot.ensures))
    ∙ ap (λ xs. (record w { snapshots = xs }, outcomes.Ok)) (sym made))

pub returns-clause-err : goal.returns-clause-err
returns-clause-err c = on_err_so c.bind.result c.bind.ensures.err (λ same. ap (λ xs. record (world_of c.args.self.now) { snapshots = xs }) same)
