use Rattle.std.proofs.Common.{◌≡◌, ◌∙◌, ◌+◌, ◌<◌, ◌≤◌, ap, arith, false, set, sym, true, ℕ, None, Option}
use Rattle.std.specs.Prelude.{nat_le}
use Rattle.std.proofs.lemmas.Bool.Decides.{nat_tests}
use Rattle.adr_model.specs.Store.{Held}
use Rattle.adr_shelves.specs.Shelves.{emptied}
use Rattle.adr_shelves.proofs.ShelvedEmptied.{IsSoFar, all_turned, turned_full, turned_on, written_back}
use Rattle.adr_shelves.proofs.shelf.Shelf.clear_from.Goals as goal
use Rattle.adr_shelves.proofs.shelf.Shelf.clear_from.Goals.{then-attr-slot+in-Some-1, then-attr-slot+in-None-1, else-attr-slot}

passes : (a b : ℕ) → a ≤ b → nat_le a b ≡ true
passes a b h = grind (arith, nat_tests)

fails : (a b : ℕ) → b < a → nat_le a b ≡ false
fails a b h = grind (arith, nat_tests)

here : (c : goal.Joined-attr-slot) → c.slot.inside.attr ≡ c.slot-item.result.0
here c = ap (λ (s : ℕ × Option Held). s.0) (c.slot.view_is ∙ sym c.slot-item.is)

put : (c : goal.Joined-attr-slot) → c.args.attr ≤ c.slot.inside.attr → c.if-attr-slot.slot-items ≡ set c.loop-slot.slot-items c.loop-slot.slot-index (c.slot.inside.attr, None)
    → IsSoFar (nat_le c.args.attr) c.deref_mut-slot-items.result.now (c.loop-slot.slot-index + 1) c.if-attr-slot.slot-items
put c from is =
    turned_full (nat_le c.args.attr) c.deref_mut-slot-items.result.now c.loop-slot.slot-items c.if-attr-slot.slot-items c.loop-slot.slot-index c.slot-item.result c.loop-slot-test.true c.slot-item.is
    c.loop-slot.invariant c.slot.inside.attr (here c) (passes c.args.attr c.slot.inside.attr from) is

pub loop-slot-preserved : goal.loop-slot-preserved
loop-slot-preserved c = elim c.if-attr-slot.branch [
  | then-attr-slot+in-Some-1 w ↦ put c w.if-attr-slot.true w.slot-items-is
  | then-attr-slot+in-None-1 w ↦ put c w.if-attr-slot.true w.slot-items-is
  | else-attr-slot w ↦
      turned_on (nat_le c.args.attr) c.deref_mut-slot-items.result.now c.loop-slot.slot-items c.if-attr-slot.slot-items c.loop-slot.slot-index c.slot-item.result c.loop-slot-test.true c.slot-item.is
      c.loop-slot.invariant c.slot.inside.attr (here c) (fails c.args.attr c.slot.inside.attr w.if-attr-slot.false) w.slot-items-is
]

pub returns : goal.returns
returns c =
    written_back c.self.inside.slots.len c.loop-slot.slot-items _ (c.loop-slot.auto.slot-items ∙ c.deref_mut-slot-items.ensures.len)
    ∙ all_turned (nat_le c.args.attr) c.deref_mut-slot-items.result.now c.loop-slot.slot-items c.loop-slot.slot-index c.loop-slot-test.false c.loop-slot.invariant
    ∙ ap (emptied (nat_le c.args.attr)) (c.deref_mut-slot-items.ensures.value ∙ c.self.view_is)
