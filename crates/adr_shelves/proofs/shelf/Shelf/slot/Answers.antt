use Rattle.std.proofs.Common.{ℕ, ◌∙◌, Option, Some, ap, sym}
use Rattle.std.proofs.lemmas.List.{drop_all}
use Rattle.std.specs.BTreeMap.{is_at}
use Rattle.std.specs.Map.{lookup}
use Rattle.std.specs.Ordering.{nat_cmp}
use Rattle.adr_model.specs.Store.{Held}
use Rattle.adr_shelves.proofs.ShelfPlaces.{slot_here, slot_later}
use Rattle.adr_shelves.proofs.shelf.Shelf.slot.Goals as goal

pub loop-slot-init : goal.loop-slot-init
loop-slot-init c = ap (lookup (is_at (nat_cmp c.args.attr))) (sym (c.as_slice-slot-items.ensures.value ∙ c.self.view_is))

pub returns-then-slot-attr : goal.returns-then-slot-attr
returns-then-slot-attr c =
    ap (λ (s : ℕ × Option Held). Some s.1) c.slot.view_is
    ∙ sym (c.loop-slot.invariant ∙ slot_here c.args.attr c.as_slice-slot-items.result.now c.loop-slot.slot-index c.slot-item.result c.loop-slot-test.true c.slot-item.is
    (ap (λ (s : ℕ × Option Held). s.0) (sym c.slot.view_is) ∙ c.if-slot-attr.true))

pub loop-slot-preserved : goal.loop-slot-preserved
loop-slot-preserved c =
    c.loop-slot.invariant
    ∙ slot_later c.args.attr c.as_slice-slot-items.result.now c.loop-slot.slot-index c.slot-item.result c.loop-slot-test.true c.slot-item.is
    (λ same. c.if-slot-attr.false (ap (λ (s : ℕ × Option Held). s.0) c.slot.view_is ∙ same))

pub returns : goal.returns
returns c = sym (c.loop-slot.invariant ∙ ap (lookup (is_at (nat_cmp c.args.attr))) (drop_all c.loop-slot.slot-index c.as_slice-slot-items.result.now c.loop-slot-test.false))
