use Rattle.std.proofs.Common.{rules, ◌∙◌, ℕ, Option, ap}
use Rattle.std.specs.Prelude.{filter, is_some}
use Rattle.std.proofs.lemmas.Fn.{filter_same}
use Rattle.adr_model.specs.Store.{Held}
use Rattle.adr_shelves.proofs.shelf.Shelf.free_all.Goals as goal

pub returns : goal.returns
returns c =
    filter_same _ (λ (s : ℕ × Option Held). is_some s.1) _ (λ x b f' k. search rules) _ _ c.retain.ensures.filtered
    ∙ ap (filter (λ (s : ℕ × Option Held). is_some s.1)) c.self.view_is
