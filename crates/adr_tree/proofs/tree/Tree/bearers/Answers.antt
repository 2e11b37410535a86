use Rattle.std.proofs.Common.{◌≡◌, true, false, None, Some, refl, sym, ap, ◌∙◌, subst}
use Rattle.std.specs.Map.Iter.{deref}
use Rattle.std.proofs.lemmas.Map.Iter.{rest_more}
use Rattle.adr_model.specs.Member.{Each, Member}
use Rattle.adr_model.specs.Place.{node_at}
use Rattle.adr_update.specs.Referents.{referents}
use Rattle.adr_tree.specs.Hints.{name_hint}
use Rattle.adr_tree.specs.Names.{is_called}
use Rattle.adr_tree.specs.Tree.{nodes_in}
use Rattle.adr_tree.proofs.Runs.{begins, onward}
use Rattle.adr_tree.proofs.Found.{all_left, at_stop, name_run, passed, pushed, pushed_each, pushed_new, pushed_old, same_node}
use Rattle.adr_tree.proofs.tree.Tree.bearers.Goals as goal

pub loop-hint-init : goal.loop-hint-init
loop-hint-init c =
    let left = c.into_iter-hint-iterator.ensures.into_iter_gives ∙ c.range-hint-items.ensures.between tt in
    let empty = ap referents c.new-bearers.ensures.items in (
      tt,
      tt,
      begins (record { parent = c.args.parent; number = Some c.number_of.result; guid = None }) c.args.self.now.hints.keys c.into_iter-hint-iterator.result left c.range-hint-items.ensures.ordered,
      all_left (nodes_in c.args.self.now) (record { parent = c.args.parent; number = Some c.number_of.result; guid = None }) refl name_hint (λ m. refl) (is_called (nodes_in c.args.self.now) c.args.parent c.args.name.now)
          (name_run (nodes_in c.args.self.now) c.args.parent c.requires.parent c.args.name.now c.number_of.result c.number_of.ensures) (λ m. Member m (referents c.new-bearers.result.items))
          c.args.self.now.hints.keys c.into_iter-hint-iterator.result left (λ m here. (c.requires.tree.hinted m here).name),
      subst (Each (λ n. node_at (nodes_in c.args.self.now) n.object.guid ≡ Some n)) (sym empty) (λ n m. absurd m),
      subst (Each (λ n. is_called (nodes_in c.args.self.now) c.args.parent c.args.name.now n ≡ true)) (sym empty) (λ n m. absurd m),
    )

pub loop-hint-preserved-in-Continue-1 : goal.loop-hint-preserved-in-Continue-1
loop-hint-preserved-in-Continue-1 c =
    let left = rest_more deref c.loop-hint.hint-iterator c.next.new.self c.next.result c.in-Some.hint c.in-Some.is c.next.ensures.steps in
    let grown = pushed c.loop-hint.bearers.items c.push.new.self.items c.in-Some-called.node c.in_ok-push.ensures.items in (
      tt,
      tt,
      onward (record { parent = c.args.parent; number = Some c.number_of.result; guid = None }) c.in-Some.hint.now c.next.new.self c.loop-hint.hint-iterator left c.loop-hint.invariant.2,
      passed (nodes_in c.args.self.now) (record { parent = c.args.parent; number = Some c.number_of.result; guid = None }) refl name_hint (λ m. refl) (is_called (nodes_in c.args.self.now) c.args.parent c.args.name.now)
          (name_run (nodes_in c.args.self.now) c.args.parent c.requires.parent c.args.name.now c.number_of.result c.number_of.ensures)
          (λ m. Member m (referents c.loop-hint.bearers.items)) (λ m. Member m (referents c.push.new.self.items))
          c.in-Some.hint.now c.next.new.self c.loop-hint.hint-iterator left
          (λ m d. subst (Member m) (sym grown) (pushed_old (referents c.loop-hint.bearers.items) c.in-Some-called.node.now m d))
          (λ m here pass own. subst (Member m) (sym grown) (pushed_new (referents c.loop-hint.bearers.items) c.in-Some-called.node.now m
          (same_node (nodes_in c.args.self.now) c.in-Some.hint.now.guid m c.in-Some-called.node.now here c.in-Some-called.ensures.live own c.in-Some-called.ensures.own))) c.loop-hint.invariant.3,
      subst (Each (λ n. node_at (nodes_in c.args.self.now) n.object.guid ≡ Some n)) (sym grown)
          (pushed_each (λ n. node_at (nodes_in c.args.self.now) n.object.guid ≡ Some n) (referents c.loop-hint.bearers.items) c.in-Some-called.node.now c.loop-hint.invariant.4 c.in-Some-called.ensures.live),
      subst (Each (λ n. is_called (nodes_in c.args.self.now) c.args.parent c.args.name.now n ≡ true)) (sym grown)
          (pushed_each (λ n. is_called (nodes_in c.args.self.now) c.args.parent c.args.name.now n ≡ true) (referents c.loop-hint.bearers.items) c.in-Some-called.node.now c.loop-hint.invariant.5 c.in-Some-called.ensures.called),
    )

pub loop-hint-preserved : goal.loop-hint-preserved
loop-hint-preserved c =
    let left = rest_more deref c.loop-hint.hint-iterator c.next.new.self c.next.result c.in-Some.hint c.in-Some.is c.next.ensures.steps in (
      tt,
      tt,
      onward (record { parent = c.args.parent; number = Some c.number_of.result; guid = None }) c.in-Some.hint.now c.next.new.self c.loop-hint.hint-iterator left c.loop-hint.invariant.2,
      passed (nodes_in c.args.self.now) (record { parent = c.args.parent; number = Some c.number_of.result; guid = None }) refl name_hint (λ m. refl) (is_called (nodes_in c.args.self.now) c.args.parent c.args.name.now)
          (name_run (nodes_in c.args.self.now) c.args.parent c.requires.parent c.args.name.now c.number_of.result c.number_of.ensures)
          (λ m. Member m (referents c.loop-hint.bearers.items)) (λ m. Member m (referents c.loop-hint.bearers.items))
          c.in-Some.hint.now c.next.new.self c.loop-hint.hint-iterator left (λ m d. d)
          (λ m here pass own. let no : true ≡ false = sym pass ∙ c.in_default.ensures.none m here own in cc) c.loop-hint.invariant.3,
      c.loop-hint.invariant.4,
      c.loop-hint.invariant.5,
    )

pub returns-then-not-begins_run_of-clause-all : goal.returns-then-not-begins_run_of-clause-all
returns-then-not-begins_run_of-clause-all c =
    let left = rest_more deref c.loop-hint.hint-iterator c.next.new.self c.next.result c.in-Some.hint c.in-Some.is c.next.ensures.steps in
    at_stop (nodes_in c.args.self.now) (record { parent = c.args.parent; number = Some c.number_of.result; guid = None }) refl name_hint (λ m. refl) (is_called (nodes_in c.args.self.now) c.args.parent c.args.name.now)
    (name_run (nodes_in c.args.self.now) c.args.parent c.requires.parent c.args.name.now c.number_of.result c.number_of.ensures) (λ m. Member m (referents c.loop-hint.bearers.items))
    c.in-Some.hint.now c.next.new.self c.loop-hint.hint-iterator left c.loop-hint.invariant.2 (sym c.begins_run_of.ensures ∙ c.if-not-begins_run_of.true) c.loop-hint.invariant.3
