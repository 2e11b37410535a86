use Rattle.std.proofs.Common.{◌≡◌, List, Some, sym, subst}
use Rattle.adr_model.specs.Place.{Node, node_at, place}
use Rattle.adr_state.proofs.Tied.{nodes_tied}
use Rattle.adr_state.proofs.rows.Rows.place.Goals as goal

pub place-requires-clause-live : goal.place-requires-clause-live
place-requires-clause-live c = subst (λ (ns : List Node). node_at ns c.args.node.now.object.guid ≡ Some c.args.node.now) (sym (nodes_tied c.self.inside.table c.self.inside.tree c.args.self.now c.self.invariant c.self.view_is)) c.requires

pub returns : goal.returns
returns c = subst (λ (ns : List Node). c.place.result ≡ place ns c.args.node.now) (nodes_tied c.self.inside.table c.self.inside.tree c.args.self.now c.self.invariant c.self.view_is) c.place.ensures
