use Rattle.std.proofs.Common.{◌∙◌, sym, ap, subst, false}
use Rattle.adr_call.specs.declared.outcome.Outcome.TheVariants as outcomes
use Rattle.adr_model.specs.Replica.{Replica, on_disk}
use Rattle.adr_model.specs.World.{bound_at, of_made, put_back, stays}
use Rattle.adr_run_world.specs.Run.{AreApart, world_of}
use Rattle.adr_run_world.proofs.Adoptions.{apart_there, no_snapshot_so, put_back_so}
use Rattle.adr_run_world.proofs.Places.{somebody_at}
use Rattle.adr_run_world.proofs.run.Run.put_back.Goals as goal

pub returns-in_default-clause-done : goal.returns-in_default-clause-done
returns-in_default-clause-done c =
    let w = world_of c.args.self.now in
    ap (λ x. of_made (stays w) x (λ r. put_back w c.args.name.now (bound_at w.snapshots c.args.snapshot.now))) c.in_default.ensures.none

pub returns-in_default-get-clause-done : goal.returns-in_default-get-clause-done
returns-in_default-get-clause-done c =
    let w = world_of c.args.self.now in
    let d = somebody_at c.args.self.now.controllers.items c.in-Some.place c.in-Some.ensures.place in
    no_snapshot_so w c.args.name.now d.0 (c.in-Some.ensures.found ∙ d.1) (bound_at w.snapshots c.args.snapshot.now) c.in_default-get.ensures

pub returns-clause-done : goal.returns-clause-done
returns-clause-done c =
    let w = world_of c.args.self.now in
    let d = somebody_at c.args.self.now.controllers.items c.in-Some.place c.in-Some.ensures.place in
    let s = c.in-Some-get.snapshot.now in
    let is = c.in_ok-controller.ensures ∙ ap (λ n. on_disk n s.state s.log) c.in_ok-name.ensures in
    put_back_so c.args.self.now c.args.name.now c.in-Some.place d.0 (c.in-Some.ensures.found ∙ d.1) d.1 c.requires c.in_ok-controller.controller (ap (λ (r : Replica). r.name) is)
    s (bound_at w.snapshots c.args.snapshot.now) c.in-Some-get.ensures is
    ∙ ap (λ rs. (record w { clean = false; replicas = rs }, outcomes.Ok)) (sym c.replace.ensures)

pub returns-clause-tidy : goal.returns-clause-tidy
returns-clause-tidy c =
    let d = somebody_at c.args.self.now.controllers.items c.in-Some.place c.in-Some.ensures.place in
    let s = c.in-Some-get.snapshot.now in
    let is = c.in_ok-controller.ensures ∙ ap (λ n. on_disk n s.state s.log) c.in_ok-name.ensures in
    record {
      apart = subst AreApart (sym c.replace.ensures) (apart_there c.args.self.now c.args.name.now c.in-Some.place d.0 (c.in-Some.ensures.found ∙ d.1) d.1 c.requires c.in_ok-controller.controller (ap (λ (r : Replica). r.name) is));
      requests = c.requires.requests;
      replies = c.requires.replies;
    }
