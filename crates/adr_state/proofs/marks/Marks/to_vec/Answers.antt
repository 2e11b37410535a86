use Rattle.std.proofs.Common.{◌≡◌, ◌++◌, ◌∷◌, [], List, sym, ap, ◌∙◌, append_assoc}
use Rattle.adr_model.specs.Store.{PartnerMark}
use Rattle.adr_model.specs.Update.{Identifier}
use Rattle.adr_state.proofs.marks.Marks.to_vec.Goals as goal

pub loop-partner-preserved : goal.loop-partner-preserved
loop-partner-preserved c =
    let rest = c.next.new.self in
    let list = c.loop-partner.list.items in
    let left : c.loop-partner.partner-iterator ≡ (c.in-Some.partner.now, c.in-Some.kept.now) ∷ rest = rw c.in-Some.is at c.next.ensures.steps in
    ap (λ (es : List (Identifier × PartnerMark)). es ++ rest) c.in_ok-push.ensures.items
    ∙ (append_assoc list ((c.in-Some.partner.now, c.in-Some.kept.now) ∷ []) rest
    ∙ (ap (λ (es : List (Identifier × PartnerMark)). list ++ es) (sym left) ∙ c.loop-partner.invariant))
