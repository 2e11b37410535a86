use Rattle.std.proofs.Common.{◌≡◌, ◌∙◌, sym, ap, subst, [], ◌∷◌, Err}
use Rattle.adr_call.specs.declared.outcome.Outcome.TheVariants as outcomes
use Rattle.adr_model.specs.Step.{gives}
use Rattle.adr_model.specs.World.{with_replica}
use Rattle.adr_run_replica.specs.Past.{Past}
use Rattle.adr_run_world.specs.Adopted.{adoption}
use Rattle.adr_run_world.specs.Run.{AreApart, AreRanged, AreSpelled, world_of}
use Rattle.adr_run_world.proofs.Adoptions.{apart_there, begun_there, restore_absent, restored_so}
use Rattle.adr_run_world.proofs.Becoming.{found_there}
use Rattle.adr_run_world.proofs.Places.{at_place}
use Rattle.adr_run_world.proofs.run.Run.restore.Goals as goal

pub returns-in_default-clause-done : goal.returns-in_default-clause-done
returns-in_default-clause-done c =
    let w = world_of c.args.self.now in
    restore_absent w c.args.name.now c.args.image.now c.args.inv c.in_default.ensures.none
    ∙ ap (λ (p : Past). (record w { book = p.book; last_replies = p.last_replies; given = p.given }, outcomes.Absent)) (sym c.give_inv.ensures)

pub begin_at-requires-clause-up : goal.begin_at-requires-clause-up
begin_at-requires-clause-up c =
    c.in-Ok.ensures.up.1

pub returns-in-Ok-clause-done : goal.returns-in-Ok-clause-done
returns-in-Ok-clause-done c =
    let w = world_of c.args.self.now in
    let v = world_of c.begin_at.new.self in
    let made = c.in-Ok.controller in
    let adopts = c.in-Ok.ensures.made in
    let up = c.in-Ok.ensures.up in
    restored_so w c.args.name.now c.args.image.now c.args.inv c.index.result.now outcomes.Ok v
    (found_there c.args.self.now c.args.name.now c.in-Some.place c.index.result.now c.in-Some.ensures.place c.index.ensures c.in-Some.ensures.found)
    (subst (λ k. adoption w.images c.args.image.now c.args.name.now k c.args.inv (gives w [] (c.args.inv ∷ [])) (with_replica w.replicas) ≡ (v, outcomes.Ok)) c.dsa-dsa.ensures
    (adopts (gives w [] (c.args.inv ∷ [])) (with_replica w.replicas)
    ∙ ap (λ x. (x, outcomes.Ok)) (begun_there c.args.self.now c.args.name.now c.in-Some.place c.index.result.now (found_there c.args.self.now c.args.name.now c.in-Some.place c.index.result.now c.in-Some.ensures.place c.index.ensures c.in-Some.ensures.found) (at_place c.args.self.now.controllers.items c.in-Some.place c.index.result.now c.in-Some.ensures.place c.index.ensures) c.requires.tidy made up.0 c.args.inv v up.3 c.begin_at.ensures.world)))

pub returns-in-Ok-clause-tidy : goal.returns-in-Ok-clause-tidy
returns-in-Ok-clause-tidy c =
    let made = c.in-Ok.controller in
    let up = c.in-Ok.ensures.up in
    record {
      apart = subst AreApart (sym c.begin_at.ensures.items)
          (apart_there c.args.self.now c.args.name.now c.in-Some.place c.index.result.now (found_there c.args.self.now c.args.name.now c.in-Some.place c.index.result.now c.in-Some.ensures.place c.index.ensures c.in-Some.ensures.found) (at_place c.args.self.now.controllers.items c.in-Some.place c.index.result.now c.in-Some.ensures.place c.index.ensures) c.requires.tidy made up.0);
      requests = subst AreRanged (sym c.begin_at.ensures.requests) c.requires.tidy.requests;
      replies = subst AreSpelled (sym c.begin_at.ensures.replies) c.requires.tidy.replies;
    }

pub returns-in-Err-Refused-clause-done : goal.returns-in-Err-Refused-clause-done
returns-in-Err-Refused-clause-done c =
    let w = world_of c.args.self.now in
    let o = c.in-Err-Refused.outcome in
    let un = c.in-Err-Refused.ensures.other o (ap Err c.in-Err-Refused.field-0-is) in
    restored_so w c.args.name.now c.args.image.now c.args.inv c.index.result.now o (gives w [] (c.args.inv ∷ []))
    (found_there c.args.self.now c.args.name.now c.in-Some.place c.index.result.now c.in-Some.ensures.place c.index.ensures c.in-Some.ensures.found)
    (subst (λ k. adoption w.images c.args.image.now c.args.name.now k c.args.inv (gives w [] (c.args.inv ∷ [])) (with_replica w.replicas) ≡ (gives w [] (c.args.inv ∷ []), o)) c.dsa-dsa.ensures
    (un (gives w [] (c.args.inv ∷ [])) (with_replica w.replicas)))
    ∙ ap (λ (p : Past). (record w { book = p.book; last_replies = p.last_replies; given = p.given }, o)) (sym c.give_inv-in-Err-Refused.ensures)
