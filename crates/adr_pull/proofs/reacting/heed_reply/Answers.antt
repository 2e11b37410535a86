use Rattle.std.proofs.Common.{Result, sym, ap, subst}
use Rattle.std.specs.Option.{option_map}
use Rattle.adr_wire.specs.declared.refusal.DecodeRefusal.{DecodeRefusal}
use Rattle.adr_values.specs.declared.failure.Failure.{Failure}
use Rattle.adr_wire.specs.Headed.{IsRefusedSo}
use Rattle.adr_disk.specs.Disk.{LeavesOnly}
use Rattle.std.specs.Prelude.{IfSome}
use Rattle.adr_model.specs.Serve.{Reply}
use Rattle.adr_packet.specs.Replies.{decoded_reply}
use Rattle.adr_pull.specs.Fetch.{made, replied}
use Rattle.adr_pull.specs.Told.{FindsDue, ReactsSo}
use Rattle.adr_pull.proofs.Saying.{still_due}
use Rattle.adr_pull.proofs.reacting.heed_reply.Goals as goal

pub take_reply-came-requires-clause-form : goal.take_reply-came-requires-clause-form
take_reply-came-requires-clause-form g c = (c.replies_have_one_spelling.ensures.only c.args.body.now c.in-Ok.reply
    (λ i. (c.type_inv.body i).fits) c.in-Ok.ensures.read).0

pub returns-in-Ok-clause-reacts : goal.returns-in-Ok-clause-reacts
returns-in-Ok-clause-reacts g c = λ f stands.
    subst (λ (d : Result Reply DecodeRefusal). ReactsSo g.K.Keeper f (option_map (made f)
    (replied d)) c.take_reply-came.result c.take_reply-came.new.controller) (sym c.in-Ok.ensures.read)
    (c.take_reply-came.ensures.reacts f stands)

pub returns-in-Ok-clause-any_moment : goal.returns-in-Ok-clause-any_moment
returns-in-Ok-clause-any_moment g c = λ f stands.
    let k = g.K.Keeper in
    subst (λ (d : Result Reply DecodeRefusal). IfSome (k.told c.args.controller.now.keeper)
    (λ _. LeavesOnly k.moment k.left_since c.args.controller.now.keeper c.take_reply-came.new.controller.keeper
    (FindsDue f (option_map (made f) (replied d))))) (sym c.in-Ok.ensures.read)
    (c.take_reply-came.ensures.any_moment f stands)

pub returns-in-Err-Refused-clause-any_moment : goal.returns-in-Err-Refused-clause-any_moment
returns-in-Err-Refused-clause-any_moment g c = λ f stands.
    let law = g.met.K.Keeper in
    still_due g.K.Keeper law.leaves law.only_now f c.args.controller.now stands c.state.ensures.in_order (option_map (made f) (replied (decoded_reply c.args.body.now)))

pub returns-in-Err-NoMemory-clause-any_moment : goal.returns-in-Err-NoMemory-clause-any_moment
returns-in-Err-NoMemory-clause-any_moment g c = λ f stands.
    let law = g.met.K.Keeper in
    still_due g.K.Keeper law.leaves law.only_now f c.args.controller.now stands c.state.ensures.in_order (option_map (made f) (replied (decoded_reply c.args.body.now)))

pub returns-in-Err-Refused-clause-reacts : goal.returns-in-Err-Refused-clause-reacts
returns-in-Err-Refused-clause-reacts g c = λ f stands. (
  ap (λ (d : Result Reply DecodeRefusal). option_map (made f)
      (replied d)) (subst (λ (x : Failure DecodeRefusal). IsRefusedSo
      (decoded_reply c.args.body.now) x) c.in-Err-Refused.field-0-is c.in-Err-Refused.ensures.refused),
  stands,
)
