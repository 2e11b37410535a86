use Rattle.std.proofs.Common.{◌≡◌, List, find, sym, subst}
use Rattle.std.specs.Option.{IsSome, option_map}
use Rattle.adr_model.specs.Place.{Node, node_at, place}
use Rattle.adr_model.specs.Update.{same_identifier}
use Rattle.adr_state.proofs.Tied.{nodes_tied}
use Rattle.adr_state.proofs.rows.Rows.first_child.Goals as goal

pub first_child-requires-clause-live : goal.first_child-requires-clause-live
first_child-requires-clause-live c = subst (λ (ns : List Node). IsSome (node_at ns c.args.guid)) (sym (nodes_tied c.self.inside.table c.self.inside.tree c.args.self.now c.self.invariant c.self.view_is)) c.requires.live

pub returns : goal.returns
returns c =
    subst (λ (ns : List Node). c.first_child.result ≡ option_map (λ m. m.object.guid) (find (λ m. same_identifier (place ns m) c.args.guid) ns))
    (nodes_tied c.self.inside.table c.self.inside.tree c.args.self.now c.self.invariant c.self.view_is) c.first_child.ensures
