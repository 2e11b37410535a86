use Rattle.std.proofs.Common.{◌≡◌, List, ap, subst, ◌∙◌}
use Rattle.std.specs.Prelude.{IfOk}
use Rattle.adr_model.specs.Place.{node_at}
use Rattle.adr_model.specs.Store.{Held, updates_of}
use Rattle.adr_model.specs.Write.{nodes_held}
use Rattle.adr_update.specs.Referents.{referents}
use Rattle.adr_state.proofs.draft.Draft.node.Goals as goal

pub returns : goal.returns
returns c =
    subst (λ (rows : List Held). IfOk c.live_node.result (λ node. node ≡ node_at (nodes_held (updates_of rows)) c.args.guid))
    (ap referents c.as_slice.ensures.value ∙ c.self.view_is) c.live_node.ensures
