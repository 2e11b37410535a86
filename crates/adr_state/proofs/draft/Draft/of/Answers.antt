use Rattle.std.proofs.Common.{rules, ap, ◌∙◌, filter}
use Rattle.std.proofs.lemmas.Fn.{filter_same}
use Rattle.adr_model.specs.Store.{Held}
use Rattle.adr_update.specs.Referents.{referents}
use Rattle.adr_state.specs.Core.{is_core}
use Rattle.adr_update.proofs.Referred.{referents_kept}
use Rattle.adr_state.proofs.draft.Draft.of.Goals as goal

pub returns : goal.returns
returns c =
    ap referents (filter_same _ _ _ (λ x b f' k. search rules) _ _ c.retain.ensures.filtered)
    ∙ referents_kept (λ (h : Held). is_core h.update.key) c.in_ok-rows.rows.items
    ∙ ap (filter (λ (h : Held). is_core h.update.key)) c.in_ok-rows.ensures
