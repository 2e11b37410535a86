use Rattle.std.proofs.Common.{drop, refl, sym, ap, ◌∙◌, ◌+◌}
use Rattle.std.proofs.lemmas.List.{take_rest}
use Rattle.adr_shelves.specs.Shelves.{is_behind}
use Rattle.adr_shelves.proofs.ShelvedRuns.{next_slot, passed, stopped}
use Rattle.adr_shelves.proofs.run.slots_behind.Goals as goal

pub loop-place-init : goal.loop-place-init
loop-place-init c = record { same = refl; rising = c.requires }

pub loop-place-preserved : goal.loop-place-preserved
loop-place-preserved c =
    passed c.args.with_own c.args.attr c.args.slots.now (drop c.loop-place.place c.args.slots.now) c.index-slots-place.result (drop (c.loop-place.place + 1) c.args.slots.now)
    (next_slot c.args.slots.now c.loop-place.place c.index-slots-place.result c.loop-place-test.true c.index-slots-place.is)
    c.loop-place.invariant (ap (is_behind c.args.with_own c.args.attr) (sym c.attr.ensures) ∙ sym c.is_behind.ensures ∙ c.if-is_behind.false)

pub returns-then-is_behind : goal.returns-then-is_behind
returns-then-is_behind c =
    take_rest c.args.slots.now c.loop-place.place
    ∙ stopped c.args.with_own c.args.attr c.args.slots.now (drop c.loop-place.place c.args.slots.now) c.index-slots-place.result (drop (c.loop-place.place + 1) c.args.slots.now)
    (next_slot c.args.slots.now c.loop-place.place c.index-slots-place.result c.loop-place-test.true c.index-slots-place.is)
    c.loop-place.invariant (ap (is_behind c.args.with_own c.args.attr) (sym c.attr.ensures) ∙ sym c.is_behind.ensures ∙ c.if-is_behind.true)
