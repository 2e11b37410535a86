use Rattle.std.proofs.Common.{◌≡◌, true, false, Some, option_map, refl, sym, ap, ◌∙◌}
use Rattle.std.specs.Map.Iter.{deref}
use Rattle.std.proofs.lemmas.Map.Iter.{rest_more, rest_all}
use Rattle.adr_model.specs.Place.{Node, place}
use Rattle.adr_model.specs.Update.{same_identifier}
use Rattle.adr_tree.specs.Hints.{child_hint}
use Rattle.adr_tree.specs.Tree.{nodes_in}
use Rattle.adr_tree.proofs.Childless.{start_at}
use Rattle.adr_tree.proofs.Runs.{begins, onward}
use Rattle.adr_tree.proofs.Seen.{in_order}
use Rattle.adr_tree.proofs.Found.{all_left, at_end, at_stop, child_run, find_first, find_none, is_parent, passed}
use Rattle.adr_tree.proofs.tree.Tree.first_child.Goals as goal

pub loop-hint-init : goal.loop-hint-init
loop-hint-init c =
    let left = c.into_iter-hint-iterator.ensures.into_iter_gives ∙ c.range-hint-items.ensures.between tt in (
      tt,
      tt,
      begins (start_at c.args.guid) c.args.self.now.hints.keys c.into_iter-hint-iterator.result left c.range-hint-items.ensures.ordered,
      all_left (nodes_in c.args.self.now) (start_at c.args.guid) refl child_hint (λ m. refl) (λ m. same_identifier (place (nodes_in c.args.self.now) m) c.args.guid)
          (child_run (nodes_in c.args.self.now) c.args.guid (is_parent (nodes_in c.args.self.now) c.args.guid c.requires.live c.requires.free)) (λ m. ⊥)
          c.args.self.now.hints.keys c.into_iter-hint-iterator.result left (λ m here. (c.requires.tree.hinted m here).child),
    )

pub loop-hint-preserved : goal.loop-hint-preserved
loop-hint-preserved c =
    let left = rest_more deref c.loop-hint.hint-iterator c.next.new.self c.next.result c.in-Some.hint c.in-Some.is c.next.ensures.steps in (
      tt,
      tt,
      onward (start_at c.args.guid) c.in-Some.hint.now c.next.new.self c.loop-hint.hint-iterator left c.loop-hint.invariant.2,
      passed (nodes_in c.args.self.now) (start_at c.args.guid) refl child_hint (λ m. refl) (λ m. same_identifier (place (nodes_in c.args.self.now) m) c.args.guid)
          (child_run (nodes_in c.args.self.now) c.args.guid (is_parent (nodes_in c.args.self.now) c.args.guid c.requires.live c.requires.free)) (λ m. ⊥) (λ m. ⊥)
          c.in-Some.hint.now c.next.new.self c.loop-hint.hint-iterator left (λ m d. d)
          (λ m here pass own. let no : true ≡ false = sym pass ∙ c.in_default.ensures.none m here own in cc) c.loop-hint.invariant.3,
    )

pub returns-then-not-begins_run_of : goal.returns-then-not-begins_run_of
returns-then-not-begins_run_of c =
    let left = rest_more deref c.loop-hint.hint-iterator c.next.new.self c.next.result c.in-Some.hint c.in-Some.is c.next.ensures.steps in
    let run = child_run (nodes_in c.args.self.now) c.args.guid (is_parent (nodes_in c.args.self.now) c.args.guid c.requires.live c.requires.free) in
    ap (option_map (λ (m : Node). m.object.guid)) (sym (find_none (nodes_in c.args.self.now) (start_at c.args.guid) refl child_hint (λ m. refl) (λ m. same_identifier (place (nodes_in c.args.self.now) m) c.args.guid) run
    (in_order c.args.self.now.slots.entries c.requires.tree.tidy.ordered c.requires.tree.tidy.home)
    (at_stop (nodes_in c.args.self.now) (start_at c.args.guid) refl child_hint (λ m. refl) (λ m. same_identifier (place (nodes_in c.args.self.now) m) c.args.guid) run (λ m. ⊥)
    c.in-Some.hint.now c.next.new.self c.loop-hint.hint-iterator left c.loop-hint.invariant.2 (sym c.begins_run_of.ensures ∙ c.if-not-begins_run_of.true) c.loop-hint.invariant.3)))

pub returns-in-Some-placed : goal.returns-in-Some-placed
returns-in-Some-placed c =
    let left = rest_more deref c.loop-hint.hint-iterator c.next.new.self c.next.result c.in-Some.hint c.in-Some.is c.next.ensures.steps in
    let run = child_run (nodes_in c.args.self.now) c.args.guid (is_parent (nodes_in c.args.self.now) c.args.guid c.requires.live c.requires.free) in
    ap (λ o. Some o.guid) c.object.ensures
    ∙ ap (option_map (λ (m : Node). m.object.guid)) (sym (find_first (nodes_in c.args.self.now) (start_at c.args.guid) refl child_hint (λ m. refl) (λ m. same_identifier (place (nodes_in c.args.self.now) m) c.args.guid) run
    (in_order c.args.self.now.slots.entries c.requires.tree.tidy.ordered c.requires.tree.tidy.home)
    c.in-Some-placed.node.now c.in-Some-placed.ensures.live c.in-Some-placed.ensures.placed
    c.in-Some.hint.now c.next.new.self c.loop-hint.hint-iterator left c.loop-hint.invariant.2 (sym c.begins_run_of.ensures ∙ c.if-not-begins_run_of.false) c.in-Some-placed.ensures.own c.loop-hint.invariant.3))

pub returns : goal.returns
returns c =
    let left = rest_all deref c.loop-hint.hint-iterator c.next.new.self c.next.result c.in-None.is c.next.ensures.steps in
    let run = child_run (nodes_in c.args.self.now) c.args.guid (is_parent (nodes_in c.args.self.now) c.args.guid c.requires.live c.requires.free) in
    ap (option_map (λ (m : Node). m.object.guid)) (sym (find_none (nodes_in c.args.self.now) (start_at c.args.guid) refl child_hint (λ m. refl) (λ m. same_identifier (place (nodes_in c.args.self.now) m) c.args.guid) run
    (in_order c.args.self.now.slots.entries c.requires.tree.tidy.ordered c.requires.tree.tidy.home)
    (at_end (nodes_in c.args.self.now) (start_at c.args.guid) refl child_hint (λ m. refl) (λ m. same_identifier (place (nodes_in c.args.self.now) m) c.args.guid) run (λ m. ⊥)
    c.loop-hint.hint-iterator left c.loop-hint.invariant.3)))
