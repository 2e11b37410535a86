use Rattle.std.proofs.Common.{◌≡◌, ◌&&◌, true, not, Some, ap, sym, ◌∙◌, subst}
use Rattle.std.specs.Prelude.{codes}
use Rattle.std.specs.List.{list_any}
use Rattle.std.specs.Str.{bytes_eq}
use Rattle.adr_values.specs.Folding.{folded}
use Rattle.adr_model.specs.Member.{Each, Member}
use Rattle.adr_model.specs.Place.{Node, node_at, root}
use Rattle.adr_model.specs.Update.{same_identifier}
use Rattle.adr_update.specs.Referents.{referents}
use Rattle.adr_tree.specs.Names.{is_called}
use Rattle.adr_tree.specs.Tree.{nodes_in}
use Rattle.adr_tree.proofs.Found.{lost_taken, taken_is}
use Rattle.adr_tree.proofs.Seen.{in_order}
use Rattle.adr_tree.proofs.tree.Tree.is_taken_folded.Goals as goal

pub returns-then-is_lost_name : goal.returns-then-is_lost_name
returns-then-is_lost_name c text e =
    sym (lost_taken (nodes_in c.args.self.now) c.args.guid c.args.parent text
    (ap (λ n. same_identifier c.args.parent root && bytes_eq n (folded (codes "LostAndFound"))) (sym e) ∙ sym c.is_lost_name.ensures ∙ c.if-is_lost_name.true))

pub returns : goal.returns
returns c text e =
    c.has_other.ensures
    ∙ ap (list_any (λ (m : Node). not (same_identifier m.object.guid c.args.guid))) (ap referents c.as_slice.ensures.value)
    ∙ taken_is (nodes_in c.args.self.now) (in_order c.args.self.now.slots.entries c.requires.tree.tidy.ordered c.requires.tree.tidy.home) c.args.parent text c.args.guid (referents c.in_ok-bearers.bearers.items)
    (ap (λ n. same_identifier c.args.parent root && bytes_eq n (folded (codes "LostAndFound"))) (sym e) ∙ sym c.is_lost_name.ensures ∙ c.if-is_lost_name.false)
    c.in_ok-bearers.ensures.live
    (subst (λ n. Each (λ x. is_called (nodes_in c.args.self.now) c.args.parent n x ≡ true) (referents c.in_ok-bearers.bearers.items)) e c.in_ok-bearers.ensures.called)
    (subst (λ n. (m : Node) → node_at (nodes_in c.args.self.now) m.object.guid ≡ Some m → is_called (nodes_in c.args.self.now) c.args.parent n m ≡ true → Member m (referents c.in_ok-bearers.bearers.items)) e c.in_ok-bearers.ensures.all)
