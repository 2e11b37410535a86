use Rattle.std.proofs.Common.{◌≡◌, true, false, Some, refl, sym, ◌∙◌, subst}
use Rattle.std.specs.Bool.{OnFalse}
use Rattle.std.specs.Map.Iter.{deref}
use Rattle.std.proofs.lemmas.Map.Iter.{rest_more, rest_all}
use Rattle.adr_model.specs.Place.{Node}
use Rattle.adr_model.specs.Update.{same_identifier}
use Rattle.adr_tree.specs.Hints.{child_hint}
use Rattle.adr_tree.specs.Slots.{seen, slot_at}
use Rattle.adr_tree.proofs.Childless.{children_run, start_at}
use Rattle.adr_tree.proofs.Found.{all_left, at_end, at_stop, false_where, passed}
use Rattle.adr_tree.proofs.Moves.{found_in}
use Rattle.adr_tree.proofs.Runs.{begins, onward}
use Rattle.adr_tree.proofs.breakers.is_parent.Goals as goal

pub loop-hint-init : goal.loop-hint-init
loop-hint-init c =
    let left = c.into_iter-hint-iterator.ensures.into_iter_gives ∙ c.range-hint-items.ensures.between tt in (
      tt,
      tt,
      begins (start_at c.args.guid) c.args.hints.now.keys c.into_iter-hint-iterator.result left c.range-hint-items.ensures.ordered,
      all_left (seen c.args.slots.now.entries) (start_at c.args.guid) refl child_hint (λ m. refl) (λ m. same_identifier m.parent c.args.guid) (children_run c.args.guid) (λ m. ⊥)
          c.args.hints.now.keys c.into_iter-hint-iterator.result left (λ m here. (c.requires.hinted m here).child),
    )

pub loop-hint-preserved : goal.loop-hint-preserved
loop-hint-preserved c =
    let left = rest_more deref c.loop-hint.hint-iterator c.next.new.self c.next.result c.in-Some.hint c.in-Some.is c.next.ensures.steps in
    let none : (m : Node) → slot_at c.args.slots.now m.object.guid ≡ Some m → c.in-Some.hint.now.guid ≡ Some m.object.guid → same_identifier m.parent c.args.guid ≡ false =
    subst (λ b. OnFalse b ((m : Node) → slot_at c.args.slots.now m.object.guid ≡ Some m → c.in-Some.hint.now.guid ≡ Some m.object.guid → same_identifier m.parent c.args.guid ≡ false)) c.if-is_child.false c.is_child.ensures in (
      tt,
      tt,
      onward (start_at c.args.guid) c.in-Some.hint.now c.next.new.self c.loop-hint.hint-iterator left c.loop-hint.invariant.2,
      passed (seen c.args.slots.now.entries) (start_at c.args.guid) refl child_hint (λ m. refl) (λ m. same_identifier m.parent c.args.guid) (children_run c.args.guid) (λ m. ⊥) (λ m. ⊥)
          c.in-Some.hint.now c.next.new.self c.loop-hint.hint-iterator left (λ m d. d)
          (λ m here pass own. let no : true ≡ false = sym pass ∙ none m (found_in c.args.slots.now c.requires.tidy m.object.guid ∙ here) own in cc) c.loop-hint.invariant.3,
    )

pub returns-then-not-begins_run_of : goal.returns-then-not-begins_run_of
returns-then-not-begins_run_of c =
    let left = rest_more deref c.loop-hint.hint-iterator c.next.new.self c.next.result c.in-Some.hint c.in-Some.is c.next.ensures.steps in
    λ m here. false_where (same_identifier m.parent c.args.guid)
    (at_stop (seen c.args.slots.now.entries) (start_at c.args.guid) refl child_hint (λ m. refl) (λ m. same_identifier m.parent c.args.guid) (children_run c.args.guid) (λ m. ⊥)
    c.in-Some.hint.now c.next.new.self c.loop-hint.hint-iterator left c.loop-hint.invariant.2 (sym c.begins_run_of.ensures ∙ c.if-not-begins_run_of.true) c.loop-hint.invariant.3 m here)

pub returns : goal.returns
returns c =
    let left = rest_all deref c.loop-hint.hint-iterator c.next.new.self c.next.result c.in-None.is c.next.ensures.steps in
    λ m here. false_where (same_identifier m.parent c.args.guid)
    (at_end (seen c.args.slots.now.entries) (start_at c.args.guid) refl child_hint (λ m. refl) (λ m. same_identifier m.parent c.args.guid) (children_run c.args.guid) (λ m. ⊥)
    c.loop-hint.hint-iterator left c.loop-hint.invariant.3 m here)
