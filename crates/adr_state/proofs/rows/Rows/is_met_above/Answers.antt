use Rattle.std.proofs.Common.{◌≡◌, List, length, subst}
use Rattle.std.specs.List.{list_any}
use Rattle.adr_model.specs.Place.{Node, upward}
use Rattle.adr_model.specs.Update.{same_identifier}
use Rattle.adr_state.proofs.Tied.{nodes_tied}
use Rattle.adr_state.proofs.rows.Rows.is_met_above.Goals as goal

pub returns : goal.returns
returns c =
    subst (λ (ns : List Node). c.is_met_above.result ≡ list_any (λ m. same_identifier m.object.guid c.args.guid) (upward ns (length ns) c.args.place))
    (nodes_tied c.self.inside.table c.self.inside.tree c.args.self.now c.self.invariant c.self.view_is) c.is_met_above.ensures
