use Rattle.std.proofs.Common.{ap, ◌∙◌}
use Rattle.adr_model.specs.Serve.{reply_of}
use Rattle.adr_cycle.proofs.Replies.{made_of}
use Rattle.adr_cycle.proofs.replying.reply_of.Goals as goal

pub returns : goal.returns
returns c =
    let s = c.args.state.now in
    let q = c.args.request.now in
    let now = c.args.now in
    made_of s q now c.args.from c.args.sent.items c.args.is_last
    c.new.result c.version.result c.dest.result c.dsa.result c.inv.result c.mark_after-to.result c.number.result c.in_ok-copy.field-0 c.in_ok-vector_if.field-0 c.in_ok-times_if.field-0 c.in_ok-items_of.field-0.items
    c.new.ensures c.version.ensures c.dest.ensures c.dsa.ensures c.inv.ensures
    (c.mark_after-to.ensures ∙ ap (λ sent. (reply_of s q now c.args.from sent c.args.is_last).to) c.as_slice.ensures.value)
    (c.number.ensures.number ∙ c.schema.ensures.number) (c.in_ok-copy.ensures ∙ c.vector.ensures) c.in_ok-vector_if.ensures c.in_ok-times_if.ensures c.in_ok-items_of.ensures
