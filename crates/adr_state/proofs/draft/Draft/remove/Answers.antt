use Rattle.std.proofs.Common.{rules, ap, not, ◌∙◌}
use Rattle.std.proofs.lemmas.Fn.{filter_same}
use Rattle.adr_model.specs.Store.{Held, is_row_of}
use Rattle.adr_update.specs.Referents.{referents}
use Rattle.adr_update.proofs.Referred.{referents_kept}
use Rattle.adr_state.proofs.draft.Draft.remove.Goals as goal

pub returns : goal.returns
returns c = rw (← c.self.view_is)
    (ap referents (filter_same _ _ _ (λ x b f' k. search rules) _ _ c.retain.ensures.filtered)
    ∙ referents_kept (λ (h : Held). not (is_row_of c.args.object.now h.update.key)) c.self.inside.rows.items)
