use Rattle.std.proofs.Common.{◌∙◌, subst, sym}
use Rattle.std.specs.Map.Iter.{deref}
use Rattle.std.proofs.lemmas.Map.Iter.{rest_more, rest_all}
use Rattle.adr_table.specs.Slots.{rows_seen}
use Rattle.adr_table.proofs.LocalsFound.{IsWalked, walk_begun, walk_ended, walk_passed, walk_pushed, walk_stopped}
use Rattle.adr_table.proofs.locals.units_at.Goals as goal

pub loop-hint-init : goal.loop-hint-init
loop-hint-init c =
    let left = c.into_iter-hint-iterator.ensures.into_iter_gives ∙ c.range-hint-items.ensures.between tt in (
      tt,
      tt,
      walk_begun c.args.slots.now c.args.locals.now c.args.usn c.new-units.result.items c.into_iter-hint-iterator.result c.requires.located c.new-units.ensures.items left c.range-hint-items.ensures.ordered,
    )

pub returns-then-hint-usn : goal.returns-then-hint-usn
returns-then-hint-usn c =
    let left = rest_more deref c.loop-hint.hint-iterator c.next.new.self c.next.result c.in-Some.hint c.in-Some.is c.next.ensures.steps in
    walk_stopped (rows_seen c.args.slots.now) c.args.usn c.loop-hint.units.items c.in-Some.hint.now c.next.new.self
    (subst (IsWalked (rows_seen c.args.slots.now) c.args.usn c.loop-hint.units.items) left c.loop-hint.invariant.2) c.if-hint-usn.true

pub loop-hint-preserved-in-Continue-1 : goal.loop-hint-preserved-in-Continue-1
loop-hint-preserved-in-Continue-1 c =
    let left = rest_more deref c.loop-hint.hint-iterator c.next.new.self c.next.result c.in-Some.hint c.in-Some.is c.next.ensures.steps in (
      tt,
      tt,
      walk_pushed (rows_seen c.args.slots.now) c.args.usn c.loop-hint.units.items c.push.new.self.items c.in-Some-unit_hinted.unit c.in-Some.hint.now c.next.new.self
          (subst (IsWalked (rows_seen c.args.slots.now) c.args.usn c.loop-hint.units.items) left c.loop-hint.invariant.2) c.if-hint-usn.false
          (sym c.in-Some-unit_hinted.is ∙ c.unit_hinted.ensures) c.in_ok-push.ensures.items,
    )

pub loop-hint-preserved : goal.loop-hint-preserved
loop-hint-preserved c =
    let left = rest_more deref c.loop-hint.hint-iterator c.next.new.self c.next.result c.in-Some.hint c.in-Some.is c.next.ensures.steps in (
      tt,
      tt,
      walk_passed (rows_seen c.args.slots.now) c.args.usn c.loop-hint.units.items c.in-Some.hint.now c.next.new.self
          (subst (IsWalked (rows_seen c.args.slots.now) c.args.usn c.loop-hint.units.items) left c.loop-hint.invariant.2) c.if-hint-usn.false (sym c.in_default.is ∙ c.unit_hinted.ensures),
    )

pub returns : goal.returns
returns c =
    let none = rest_all deref c.loop-hint.hint-iterator c.next.new.self c.next.result c.in-None.is c.next.ensures.steps in
    walk_ended (rows_seen c.args.slots.now) c.args.usn c.loop-hint.units.items (subst (IsWalked (rows_seen c.args.slots.now) c.args.usn c.loop-hint.units.items) none c.loop-hint.invariant.2)
