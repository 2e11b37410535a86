use Rattle.std.proofs.Common.{◌≡◌, List, subst}
use Rattle.std.specs.Option.{option_copied}
use Rattle.adr_model.specs.Place.{Node, node_at}
use Rattle.adr_state.proofs.Tied.{nodes_tied}
use Rattle.adr_state.proofs.rows.Rows.node.Goals as goal

pub returns : goal.returns
returns c = subst (λ (ns : List Node). option_copied c.get.result ≡ node_at ns c.args.guid) (nodes_tied c.self.inside.table c.self.inside.tree c.args.self.now c.self.invariant c.self.view_is) c.get.ensures
