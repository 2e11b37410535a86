use Rattle.std.proofs.Common.{◌≢◌, ◌∙◌, ◌++◌, sym, ap, subst, [], ◌∷◌, Err}
use Rattle.adr_call.specs.declared.outcome.Outcome.TheVariants as outcomes
use Rattle.adr_model.specs.Member.{Each}
use Rattle.adr_model.specs.Replica.{Replica, begun}
use Rattle.adr_model.specs.Step.{gives}
use Rattle.adr_run_replica.specs.Past.{Past}
use Rattle.adr_run_world.specs.Run.{AreApart, AreRanged, AreSpelled, world_of}
use Rattle.adr_run_world.proofs.Adoptions.{begun_last, installed_so}
use Rattle.adr_run_world.proofs.Places.{apart_more}
use Rattle.adr_run_world.proofs.run.Run.install.Goals as goal

pub begin-requires-clause-up : goal.begin-requires-clause-up
begin-requires-clause-up c =
    c.in-Ok.ensures.up.1

pub returns-in-Ok-clause-done : goal.returns-in-Ok-clause-done
returns-in-Ok-clause-done c =
    let w = world_of c.args.self.now in
    let v = world_of c.begin.new.self in
    let made = c.in-Ok.controller in
    let adopts = c.in-Ok.ensures.made in
    let up = c.in-Ok.ensures.up in
    installed_so w c.args.name.now c.args.dsa c.args.image.now c.args.inv outcomes.Ok v
    (adopts (gives w (c.args.dsa ∷ []) (c.args.inv ∷ [])) (λ r. w.replicas ++ r ∷ [])
    ∙ ap (λ x. (x, outcomes.Ok)) (begun_last w c.args.dsa c.args.inv made v up.2 up.3
    (c.begin.ensures.world ∙ ap (λ rs. record (gives w (made.safe.dsa ∷ []) (made.safe.inv ∷ [])) { book = begun w.book made.safe; replicas = rs ++ made ∷ [] }) c.reserve.ensures.items)))

pub returns-in-Ok-clause-tidy : goal.returns-in-Ok-clause-tidy
returns-in-Ok-clause-tidy c =
    let rs = c.args.self.now.controllers.items in
    let made = c.in-Ok.controller in
    let up = c.in-Ok.ensures.up in
    record {
      apart = subst AreApart (sym (c.begin.ensures.items ∙ ap (λ xs. xs ++ made ∷ []) c.reserve.ensures.items))
          (apart_more rs made c.requires.tidy.apart (subst (λ n. Each (λ (r : Replica). r.name ≢ n) rs) (sym up.0) c.requires.new));
      requests = subst AreRanged (sym c.begin.ensures.requests) c.requires.tidy.requests;
      replies = subst AreSpelled (sym c.begin.ensures.replies) c.requires.tidy.replies;
    }

pub returns-in-Err-Refused-clause-done : goal.returns-in-Err-Refused-clause-done
returns-in-Err-Refused-clause-done c =
    let w = world_of c.args.self.now in
    let o = c.in-Err-Refused.outcome in
    let un = c.in-Err-Refused.ensures.other o (ap Err c.in-Err-Refused.field-0-is) in
    installed_so w c.args.name.now c.args.dsa c.args.image.now c.args.inv o (gives w (c.args.dsa ∷ []) (c.args.inv ∷ []))
    (un (gives w (c.args.dsa ∷ []) (c.args.inv ∷ [])) (λ r. w.replicas ++ r ∷ []))
    ∙ ap (λ (p : Past). (record w { book = p.book; last_replies = p.last_replies; given = p.given }, o)) (sym c.give.ensures)
    ∙ ap (λ rs. (record w { book = c.give.new.self.book; last_replies = c.give.new.self.last_replies; replicas = rs; given = c.give.new.self.given }, o)) (sym c.reserve.ensures.items)

pub returns-in-Err-Refused-clause-tidy : goal.returns-in-Err-Refused-clause-tidy
returns-in-Err-Refused-clause-tidy c = record {
  apart = subst AreApart (sym c.reserve.ensures.items) c.requires.tidy.apart;
  requests = c.requires.tidy.requests;
  replies = c.requires.tidy.replies;
}
