use Rattle.std.proofs.Common.{◌≡◌, List, sym, subst}
use Rattle.std.specs.Prelude.{IfOk}
use Rattle.adr_model.specs.Place.{Node}
use Rattle.adr_model.specs.Shown.{name_holder}
use Rattle.adr_tree.specs.Parent.{IsParent}
use Rattle.adr_state.proofs.Tied.{nodes_tied}
use Rattle.adr_state.proofs.rows.Rows.holder.Goals as goal

pub holder-requires-clause-parent : goal.holder-requires-clause-parent
holder-requires-clause-parent c = subst (λ (ns : List Node). IsParent ns c.args.parent) (sym (nodes_tied c.self.inside.table c.self.inside.tree c.args.self.now c.self.invariant c.self.view_is)) c.requires

pub returns : goal.returns
returns c = subst (λ (ns : List Node). IfOk c.holder.result (λ holder. holder ≡ name_holder ns c.args.parent c.args.text.now)) (nodes_tied c.self.inside.table c.self.inside.tree c.args.self.now c.self.invariant c.self.view_is) c.holder.ensures
