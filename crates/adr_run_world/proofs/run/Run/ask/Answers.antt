use Rattle.std.proofs.Common.{◌≡◌, ◌∙◌, sym, ap, subst}
use Rattle.adr_call.specs.declared.outcome.Outcome.{Outcome}
use Rattle.adr_call.specs.declared.event.Made.TheVariants.{Ask}
use Rattle.adr_law_recorded.specs.Ranged.{IsRangedRequest}
use Rattle.adr_model.specs.Step.{makes}
use Rattle.adr_model.specs.World.{asks, bound}
use Rattle.adr_run_world.specs.Run.{AreRanged, world_of}
use Rattle.adr_run_world.proofs.Adoptions.{bound_so}
use Rattle.adr_run_world.proofs.Bindings.{each_bound}
use Rattle.adr_run_world.proofs.Results.{either_so, on_err_so, on_ok_as}
use Rattle.adr_run_world.proofs.run.Run.ask.Goals as goal

pub returns-clause-done : goal.returns-clause-done
returns-clause-done c =
    let w = world_of c.args.self.now in
    let sent = c.in_ok-sent.sent in
    on_ok_as c.bind.result sent.0 (λ (o : Outcome). makes w c.args.name.now (Ask c.args.partner.now c.args.max c.args.version) c.args.bound.now ≡ (record w { requests = c.bind.new.self }, o)) c.bind.ensures.outcome c.bind.ensures.ok
    (λ made. bound_so (asks w c.args.name.now c.args.partner.now c.args.max c.args.version) (λ v q. record v { requests = bound v.requests c.args.bound.now q }) w sent.0 sent.1
    c.in_ok-sent.ensures.asked
    ∙ ap (λ xs. (record w { requests = xs }, sent.0)) (sym made))

pub returns-clause-err : goal.returns-clause-err
returns-clause-err c = on_err_so c.bind.result c.bind.ensures.err (λ same. ap (λ xs. record (world_of c.args.self.now) { requests = xs }) same)

pub returns-clause-tidy : goal.returns-clause-tidy
returns-clause-tidy c = record {
  apart = c.requires.tidy.apart;
  requests = either_so c.bind.result (AreRanged c.bind.new.self) c.bind.ensures.ok c.bind.ensures.err
      (λ made. subst AreRanged (sym made) (each_bound IsRangedRequest c.args.self.now.requests c.args.bound.now c.in_ok-sent.sent.1 c.requires.tidy.requests c.in_ok-sent.ensures.ranged))
      (λ same. subst AreRanged (sym same) c.requires.tidy.requests);
  replies = c.requires.tidy.replies;
}
