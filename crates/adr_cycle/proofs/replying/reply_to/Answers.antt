use Rattle.std.proofs.Common.{◌≡◌, ◌∙◌, Bool, true, false, not, Option, Some, None, refl, sym, ap, subst, is_none, is_some, le_refl}
use Rattle.std.proofs.lemmas.Result.{IfOk-weaker}
use Rattle.adr_cycle.specs.Candidates.{AreBehind}
use Rattle.adr_cycle.proofs.Cutting.{last_number}
use Rattle.adr_cycle.proofs.Replies.{reply_is}
use Rattle.adr_cycle.proofs.replying.reply_to.Goals as goal

pub first_items-requires : goal.first_items-requires
first_items-requires c = record { passed = c.begins_at-from.result.obj; above = le_refl c.begins_at-from.result.obj; lasts = c.walk-walk.ensures; same = refl }

pub next_candidate-requires : goal.next_candidate-requires
next_candidate-requires c =
    subst (λ n. AreBehind c.rows-rows.result.now c.begins_at-from.result c.vector-asked.result.now n c.first_items.new.walk)
    (sym (c.last_sent-last.ensures ∙ ap (last_number c.begins_at-from.result.obj) c.as_slice.ensures.value)) c.in_ok-sent.ensures.left

none_where : {X : Type 0} (o : Option X) (b : Bool) → is_some o ≡ not b → b ≡ is_none o
none_where None true is = refl
none_where None false is = cc
none_where (Some x) true is = cc
none_where (Some x) false is = refl

pub returns : goal.returns
returns c =
    let none = none_where _ _ c.is_none-is_last.ensures ∙ ap is_none c.in_ok-next_candidate.ensures.next in
    IfOk-weaker c.reply_of.result _ _
    (λ reply e. e
    ∙ reply_is c.rows-rows.result.now c.begins_at-from.result c.vector-asked.result.now c.max.result c.last_sent-last.result c.in_ok-sent.sent.items c.as_slice.result.now
    c.in_ok-sent.ensures.sent c.as_slice.ensures.value c.last_sent-last.ensures
    c.args.state.now c.args.request.now c.args.now c.is_none-is_last.result none c.begins_at-from.ensures c.rows-rows.ensures c.vector-asked.ensures c.max.ensures)
    c.reply_of.ensures
