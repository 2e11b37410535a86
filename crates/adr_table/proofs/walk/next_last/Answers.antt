use Rattle.std.proofs.Common.{refl, sym, ◌∙◌}
use Rattle.std.specs.Map.Iter.{deref}
use Rattle.std.proofs.lemmas.Map.Iter.{rest_more}
use Rattle.adr_table.specs.Slots.{rows_seen}
use Rattle.adr_table.proofs.Lasts.{hint_has, hint_has_none}
use Rattle.adr_table.proofs.walk.next_last.Goals as goal

pub loop-hint-init : goal.loop-hint-init
loop-hint-init c = (tt, tt, refl)

pub returns-in-Some-unit_hinted-clause-same : goal.returns-in-Some-unit_hinted-clause-same
returns-in-Some-unit_hinted-clause-same c =
    let left = rest_more deref c.loop-hint.hints c.next.new.self c.next.result c.in-Some.hint c.in-Some.is c.next.ensures.steps in
    c.loop-hint.invariant.2 ∙ hint_has (rows_seen c.args.slots.now) c.loop-hint.hints c.in-Some.hint.now c.next.new.self c.in-Some-unit_hinted.unit left (sym c.in-Some-unit_hinted.is ∙ c.unit_hinted.ensures)

pub loop-hint-preserved : goal.loop-hint-preserved
loop-hint-preserved c =
    let left = rest_more deref c.loop-hint.hints c.next.new.self c.next.result c.in-Some.hint c.in-Some.is c.next.ensures.steps in
    (tt, tt, c.loop-hint.invariant.2 ∙ hint_has_none (rows_seen c.args.slots.now) c.loop-hint.hints c.in-Some.hint.now c.next.new.self left (sym c.in_default-unit_hinted.is ∙ c.unit_hinted.ensures))
