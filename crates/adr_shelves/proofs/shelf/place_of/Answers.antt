use Rattle.std.proofs.Common.{◌<◌, ◌≡◌, ◌∙◌, ℕ, Option, ap, arith, subst, sym}
use Rattle.adr_model.specs.Store.{Held}
use Rattle.adr_shelves.proofs.ShelfPlaces.{above_here, gap_at_end, gap_here, place_here}
use Rattle.adr_shelves.proofs.shelf.place_of.Goals as goal

pub returns-then-slot-attr-clause-place : goal.returns-then-slot-attr-clause-place
returns-then-slot-attr-clause-place c =
    place_here c.args.attr c.args.slots.now c.loop-place.place c.index-slots-place.result c.loop-place-test.true c.index-slots-place.is c.loop-place.invariant
    (ap (λ (s : ℕ × Option Held). s.0) (sym c.slot.view_is) ∙ c.if-slot-attr.true)

pub returns-then-attr-slot-clause-gap : goal.returns-then-attr-slot-clause-gap
returns-then-attr-slot-clause-gap c =
    gap_here c.args.attr c.args.slots.now c.loop-place.place c.index-slots-place.result c.loop-place-test.true c.index-slots-place.is c.loop-place.invariant c.requires
    (subst (λ (n : ℕ). c.args.attr < n) (ap (λ (s : ℕ × Option Held). s.0) c.slot.view_is) c.if-attr-slot.true)

pub loop-place-preserved : goal.loop-place-preserved
loop-place-preserved c =
    let at : c.slot.inside.attr ≡ c.index-slots-place.result.0 = ap (λ (s : ℕ × Option Held). s.0) c.slot.view_is in
    above_here c.args.attr c.args.slots.now c.loop-place.place c.index-slots-place.result c.loop-place-test.true c.index-slots-place.is c.loop-place.invariant
    (omega arith)

pub returns-clause-gap : goal.returns-clause-gap
returns-clause-gap c = gap_at_end c.args.attr c.args.slots.now c.loop-place.place c.loop-place-test.false c.loop-place.invariant
