use Rattle.std.proofs.Common.{◌∙◌, subst}
use Rattle.std.specs.Map.Iter.{deref}
use Rattle.std.proofs.lemmas.Map.Iter.{rest_more}
use Rattle.adr_table.specs.Slots.{rows_seen}
use Rattle.adr_table.proofs.LocalsFound.{IsLeft, all_left, next_found, passed}
use Rattle.adr_table.proofs.locals.next_local.Goals as goal

pub loop-hint-init : goal.loop-hint-init
loop-hint-init c =
    let left = c.into_iter-hint-iterator.ensures.into_iter_gives ∙ c.range-hint-items.ensures.between tt in (
      tt,
      tt,
      all_left c.args.slots.now c.args.locals.now c.args.usn c.into_iter-hint-iterator.result c.requires.located left c.range-hint-items.ensures.ordered,
    )

pub returns-then-usn-hint : goal.returns-then-usn-hint
returns-then-usn-hint c =
    let left = rest_more deref c.loop-hint.hint-iterator c.next.new.self c.next.result c.in-Some.hint c.in-Some.is c.next.ensures.steps in
    next_found (rows_seen c.args.slots.now) c.args.usn c.in-Some.hint.now c.next.new.self
    (subst (IsLeft (rows_seen c.args.slots.now) c.args.usn) left c.loop-hint.invariant.2) c.if-usn-hint.true

pub loop-hint-preserved : goal.loop-hint-preserved
loop-hint-preserved c =
    let left = rest_more deref c.loop-hint.hint-iterator c.next.new.self c.next.result c.in-Some.hint c.in-Some.is c.next.ensures.steps in (
      tt,
      tt,
      passed (rows_seen c.args.slots.now) c.args.usn c.in-Some.hint.now c.next.new.self (subst (IsLeft (rows_seen c.args.slots.now) c.args.usn) left c.loop-hint.invariant.2) c.if-usn-hint.false,
    )
