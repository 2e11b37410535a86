use Rattle.std.proofs.Common.{Option, sym, subst}
use Rattle.std.specs.Option.{option_map}
use Rattle.adr_packet.specs.Refusals.{decoded_refusal}
use Rattle.adr_pull.specs.Fetch.{Said, made, refused, said_in}
use Rattle.adr_pull.specs.Told.{ReactsSo}
use Rattle.adr_pull.proofs.Saying.{refusal_reacts, says_refusal, still_due}
use Rattle.adr_pull.proofs.reacting.react.Goals as goal

pub returns-in_default-clause-any_moment : goal.returns-in_default-clause-any_moment
returns-in_default-clause-any_moment g c = λ f stands.
    let law = g.met.K.Keeper in
    still_due g.K.Keeper law.leaves law.only_now f c.args.controller.now stands c.state.ensures.in_order (option_map (made f) (said_in c.args.bytes.now))

pub returns-in-3-clause-any_moment : goal.returns-in-3-clause-any_moment
returns-in-3-clause-any_moment g c = λ f stands.
    let law = g.met.K.Keeper in
    still_due g.K.Keeper law.leaves law.only_now f c.args.controller.now stands c.state.ensures.in_order (option_map (made f) (said_in c.args.bytes.now))

pub returns-in_default-kind-clause-any_moment : goal.returns-in_default-kind-clause-any_moment
returns-in_default-kind-clause-any_moment g c = λ f stands.
    let law = g.met.K.Keeper in
    still_due g.K.Keeper law.leaves law.only_now f c.args.controller.now stands c.state.ensures.in_order (option_map (made f) (said_in c.args.bytes.now))

pub returns-in-3-clause-reacts : goal.returns-in-3-clause-reacts
returns-in-3-clause-reacts g c = λ f stands.
    let said = refused (decoded_refusal c.in-Some.body.now) in
    subst (λ (s : Option Said). ReactsSo g.K.Keeper f (option_map (made f) s) c.heed_refusal.result c.args.controller.now)
    (sym (says_refusal c.args.bytes.now c.in-Some.body.now c.in-Some.kind.now c.in-Some.ensures.cases.0 c.in-3.is))
    (refusal_reacts g.K.Keeper f c.args.controller.now stands said c.heed_refusal.result
    c.heed_refusal.ensures.declined c.heed_refusal.ensures.strange c.heed_refusal.ensures.only)
