use Rattle.std.proofs.Common.{◌∷◌, ◌++◌, sym, ap, ◌∙◌, arith, length, drop}
use Rattle.std.specs.Option.{option_copied}
use Rattle.std.proofs.lemmas.List.{take_rest}
use Rattle.adr_shelves.specs.Place.{place_in}
use Rattle.adr_shelves.specs.Shelves.{entries_of, shelf_entries}
use Rattle.adr_shelves.proofs.ShelvedRuns.{next_slot, none_left, run_ended, run_gave, run_turned, some_left}
use Rattle.adr_shelves.proofs.run.Run.next.Goals as goal

pub loop-self-init : goal.loop-self-init
loop-self-init c = c.self.view_is

pub returns-in_default-clause-none : goal.returns-in_default-clause-none
returns-in_default-clause-none c =
    run_ended c.loop-self.self-inside.seat c.loop-self.self-inside.slots.now c.loop-self.self-inside.shelves c.args.self.now c.loop-self.invariant
    (none_left c.loop-self.self-inside.slots.now c.is_empty.result c.is_empty.ensures c.loop-self-test.true) c.in_default.ensures.none

pub loop-self-smaller : goal.loop-self-smaller
loop-self-smaller c = omega (arith, ap length c.in-Some.ensures.some)

pub loop-self-preserved : goal.loop-self-preserved
loop-self-preserved c =
    run_turned c.loop-self.self-inside.seat c.loop-self.self-inside.slots.now c.loop-self.self-inside.shelves c.args.self.now c.loop-self.invariant
    c.in-Some.seat c.in-Some.shelf.now c.slots-self-inside.result.now c.next.new.self
    (none_left c.loop-self.self-inside.slots.now c.is_empty.result c.is_empty.ensures c.loop-self-test.true) c.in-Some.ensures.some c.slots-self-inside.ensures

pub returns-clause-some : goal.returns-clause-some
returns-clause-some c =
    run_gave c.loop-self.self-inside.seat c.loop-self.self-inside.slots.now c.loop-self.self-inside.shelves c.args.self.now c.loop-self.invariant
    c.index-self-0.result (drop 1 c.loop-self.self-inside.slots.now) c.with_attr.result (option_copied c.as_ref.result)
    (next_slot c.loop-self.self-inside.slots.now 0 c.index-self-0.result (some_left c.loop-self.self-inside.slots.now c.is_empty.result c.is_empty.ensures c.loop-self-test.false) c.index-self-0.is)
    (c.with_attr.ensures ∙ ap (place_in c.loop-self.self-inside.seat) (c.attr.ensures ∙ ap (λ s. s.0) (sym c.index-self-0.is)))
    (c.as_ref.ensures.value ∙ c.row.ensures ∙ ap (λ s. s.1) (sym c.index-self-0.is))
    ∙ ap (λ xs. (c.with_attr.result, option_copied c.as_ref.result) ∷ (shelf_entries c.loop-self.self-inside.seat xs ++ entries_of c.loop-self.self-inside.shelves)) (sym (take_rest c.loop-self.self-inside.slots.now 1))
