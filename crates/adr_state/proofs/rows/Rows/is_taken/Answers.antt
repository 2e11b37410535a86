use Rattle.std.proofs.Common.{◌≡◌, List, sym, subst}
use Rattle.std.specs.Prelude.{IfOk}
use Rattle.adr_model.specs.Place.{Node}
use Rattle.adr_model.specs.Write.{is_taken}
use Rattle.adr_tree.specs.Parent.{IsParent}
use Rattle.adr_state.proofs.Tied.{nodes_tied}
use Rattle.adr_state.proofs.rows.Rows.is_taken.Goals as goal

pub is_taken-requires-clause-parent : goal.is_taken-requires-clause-parent
is_taken-requires-clause-parent c = subst (λ (ns : List Node). IsParent ns c.args.parent) (sym (nodes_tied c.self.inside.table c.self.inside.tree c.args.self.now c.self.invariant c.self.view_is)) c.requires

pub returns : goal.returns
returns c = subst (λ (ns : List Node). IfOk c.is_taken.result (λ taken. taken ≡ is_taken ns c.args.guid c.args.parent c.args.text.now)) (nodes_tied c.self.inside.table c.self.inside.tree c.args.self.now c.self.invariant c.self.view_is) c.is_taken.ensures
