use Rattle.std.proofs.Common.{◌≡◌, List, subst}
use Rattle.std.specs.Prelude.{IfOk}
use Rattle.adr_model.specs.Place.{Node}
use Rattle.adr_update.specs.Referents.{referents}
use Rattle.adr_state.proofs.Tied.{nodes_tied}
use Rattle.adr_state.proofs.rows.Rows.nodes.Goals as goal

pub returns : goal.returns
returns c = subst (λ (ns : List Node). IfOk c.nodes.result (λ live. referents live.items ≡ ns)) (nodes_tied c.self.inside.table c.self.inside.tree c.args.self.now c.self.invariant c.self.view_is) c.nodes.ensures
