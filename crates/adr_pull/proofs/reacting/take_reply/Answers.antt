use Rattle.std.proofs.lemmas.Result.{IfOk-at_ok}
use Rattle.std.proofs.Common.{◌≡◌, ◌∙◌, inl, Bool, Bor, Option, None, Some, Err, is_some, refl, ap}
use Rattle.std.specs.Option.{option_copied}
use Rattle.adr_controller.specs.declared.messages.Taken.{Taken}
use Rattle.adr_controller.specs.Ended.{call_hindrance}
use Rattle.adr_law_controller.specs.Called.{Takes}
use Rattle.adr_law_controller.proofs.Follows.{usn_within}
use Rattle.adr_pull.specs.declared.came.Came.TheVariants.{Took, Declined}
use Rattle.adr_pull.proofs.Taking.{declined_so, hindered_disk, hindered_so, hindered_up, never_down, never_failed, never_link, never_write, take_leaves, took_so, up_after}
use Rattle.adr_pull.proofs.reacting.take_reply.Goals as goal

is_there : {X : Type 0} (o : Option (Bor X)) → is_some o ≡ is_some (option_copied o)
is_there None = refl
is_there (Some x) = refl

pub take-made-requires-clause-usn : goal.take-made-requires-clause-usn
take-made-requires-clause-usn g c = λ s is. usn_within s (c.requires.log.logged s (c.state.ensures.in_order.up s is).0.formed)

pub take-made-requires-clause-follows : goal.take-made-requires-clause-follows
take-made-requires-clause-follows g c = c.requires.log.given (Takes c.args.reply.now)
    (c.replies_of_a_form_are_in_range.ensures c.args.reply.now c.requires.form)

pub hindered-requires-clause-not_down : goal.hindered-requires-clause-not_down
hindered-requires-clause-not_down g c =
    never_down g.K.Keeper c.args.reply.now c.args.controller.now c.take-made.new.self
    (call_hindrance c.take-made.result) c.take-made.ensures.calls c.state.ensures.in_order c.requires.up
    c.in-Err-Hindered.hindrance (ap call_hindrance (c.in-Err-Hindered.is ∙ ap Err c.in-Err-Hindered.field-0-is))

pub hindered-requires-clause-not_failed : goal.hindered-requires-clause-not_failed
hindered-requires-clause-not_failed g c =
    never_failed g.K.Keeper c.args.reply.now c.args.controller.now c.take-made.new.self
    (call_hindrance c.take-made.result) c.take-made.ensures.calls c.state.ensures.in_order c.requires.up
    c.in-Err-Hindered.hindrance (ap call_hindrance (c.in-Err-Hindered.is ∙ ap Err c.in-Err-Hindered.field-0-is))

pub returns-in-Ok-clause-up : goal.returns-in-Ok-clause-up
returns-in-Ok-clause-up g c = up_after g.K.Keeper c.args.reply.now c.args.controller.now c.take-made.new.self
    (call_hindrance c.take-made.result) c.take-made.ensures.calls c.requires.up (inl (ap call_hindrance c.in-Ok.is))

pub returns-in-Err-Refused-clause-up : goal.returns-in-Err-Refused-clause-up
returns-in-Err-Refused-clause-up g c = up_after g.K.Keeper c.args.reply.now c.args.controller.now c.take-made.new.self
    (call_hindrance c.take-made.result) c.take-made.ensures.calls c.requires.up (inl (ap call_hindrance
    (c.in-Err-Refused.is ∙ ap Err c.in-Err-Refused.field-0-is)))

pub returns-in-Err-Hindered-clause-up : goal.returns-in-Err-Hindered-clause-up
returns-in-Err-Hindered-clause-up g c =
    hindered_up g.K.Keeper c.args.reply.now c.args.controller.now c.take-made.new.self
    (call_hindrance c.take-made.result) c.take-made.ensures.calls c.requires.up c.in-Err-Hindered.hindrance
    (ap call_hindrance (c.in-Err-Hindered.is
    ∙ ap Err c.in-Err-Hindered.field-0-is)) c.hindered.result c.hindered.ensures

pub returns-in-Err-Hindered-clause-counts : goal.returns-in-Err-Hindered-clause-counts
returns-in-Err-Hindered-clause-counts g c =
    let h = c.hindered in
    let hindrance = c.in-Err-Hindered.hindrance in
    record {
      told = c.take-made.ensures.calls.still_told;
      disk = λ failed.
          hindered_disk g.K.Keeper c.args.reply.now c.args.controller.now c.take-made.new.self
          (call_hindrance c.take-made.result) c.take-made.ensures.calls c.requires.up hindrance
          (ap call_hindrance (c.in-Err-Hindered.is ∙ ap Err c.in-Err-Hindered.field-0-is)) h.result h.ensures failed;
      disk_never_falls = c.take-made.ensures.calls.later;
      not_link = never_link hindrance h.result h.ensures;
      not_write = never_write hindrance h.result h.ensures;
    }

pub returns-in-Ok-clause-reacts : goal.returns-in-Ok-clause-reacts
returns-in-Ok-clause-reacts g c = λ f stands.
    let t = IfOk-at_ok _ c.in-Ok.is c.take-made.ensures.taken f.state stands.0 in
    took_so g.K.Keeper f c.args.reply.now c.args.controller.now c.take-made.new.self
    (call_hindrance c.take-made.result) c.take-made.ensures.calls stands (ap call_hindrance c.in-Ok.is) t.0
    (Took c.in-Ok.taken c.is_some.result) t.1
    (ap (λ (b : Bool). Took c.in-Ok.taken b) (c.is_some.ensures ∙ is_there c.last.result ∙ ap is_some c.last.ensures)
    ∙ ap (λ (x : Taken). Took x (is_some c.args.reply.now.last)) t.2)

pub returns-in-Err-Refused-clause-reacts : goal.returns-in-Err-Refused-clause-reacts
returns-in-Err-Refused-clause-reacts g c = λ f stands.
    declined_so g.K.Keeper f c.args.reply.now c.args.controller.now c.take-made.new.self
    (call_hindrance c.take-made.result) c.take-made.ensures.calls stands (ap call_hindrance (c.in-Err-Refused.is
    ∙ ap Err c.in-Err-Refused.field-0-is)) c.in-Err-Refused.refusal (Declined c.take_refused.result)
    (c.take-made.ensures.refused f.state c.in-Err-Refused.refusal stands.0 (c.in-Err-Refused.is
    ∙ ap Err c.in-Err-Refused.field-0-is)) (ap Declined c.take_refused.ensures)

pub returns-in-Err-Hindered-clause-reacts : goal.returns-in-Err-Hindered-clause-reacts
returns-in-Err-Hindered-clause-reacts g c = λ f stands.
    hindered_so g.K.Keeper f c.args.reply.now c.args.controller.now c.take-made.new.self
    (call_hindrance c.take-made.result) c.take-made.ensures.calls stands c.in-Err-Hindered.hindrance
    (ap call_hindrance (c.in-Err-Hindered.is
    ∙ ap Err c.in-Err-Hindered.field-0-is)) c.hindered.result c.hindered.ensures

pub returns-in-Ok-clause-any_moment : goal.returns-in-Ok-clause-any_moment
returns-in-Ok-clause-any_moment g c = λ f stands.
    let law = g.met.K.Keeper in
    take_leaves g.K.Keeper f c.args.reply.now c.args.controller.now c.take-made.new.self
    (call_hindrance c.take-made.result) c.take-made.ensures.calls stands law.leaves law.only_now c.state.ensures.in_order

pub returns-in-Err-Refused-clause-any_moment : goal.returns-in-Err-Refused-clause-any_moment
returns-in-Err-Refused-clause-any_moment g c = λ f stands.
    let law = g.met.K.Keeper in
    take_leaves g.K.Keeper f c.args.reply.now c.args.controller.now c.take-made.new.self
    (call_hindrance c.take-made.result) c.take-made.ensures.calls stands law.leaves law.only_now c.state.ensures.in_order

pub returns-in-Err-Hindered-clause-any_moment : goal.returns-in-Err-Hindered-clause-any_moment
returns-in-Err-Hindered-clause-any_moment g c = λ f stands.
    let law = g.met.K.Keeper in
    take_leaves g.K.Keeper f c.args.reply.now c.args.controller.now c.take-made.new.self
    (call_hindrance c.take-made.result) c.take-made.ensures.calls stands law.leaves law.only_now c.state.ensures.in_order
