use Rattle.std.proofs.Common.{◌≡◌, ◌++◌, ◌∷◌, [], List, inr, sym, ap, ◌∙◌, subst, map, append_assoc}
use Rattle.adr_model.specs.Store.{Held}
use Rattle.adr_model.specs.Update.{Identifier}
use Rattle.adr_tree.specs.declared.edit.Edit.{Edit}
use Rattle.adr_state.specs.Drafts.{DoRise, edit_of}
use Rattle.adr_state.proofs.edits.edits_to.Goals as goal

pub loop-guid-preserved : goal.loop-guid-preserved
loop-guid-preserved c =
    let rest = c.next.new.self in
    let edits = c.loop-guid.edits.items in
    let left : c.loop-guid.guid-iterator ≡ (c.in-Some.guid.now, c.in-Some.draft.now) ∷ rest = rw c.in-Some.is at c.next.ensures.steps in
    record {
      rising = λ e m. subst DoRise left c.loop-guid.invariant.rising e (inr m);
      same = ap (λ (es : List Edit). es ++ map edit_of rest) c.in_ok-push_edit.ensures
          ∙ (append_assoc edits (edit_of (c.in-Some.guid.now, c.in-Some.draft.now) ∷ []) (map edit_of rest)
          ∙ (ap (λ (ds : List (Identifier × List Held)). edits ++ map edit_of ds) (sym left) ∙ c.loop-guid.invariant.same));
    }
