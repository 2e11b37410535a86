use Rattle.std.proofs.Common.{◌++◌, sym, ap, ◌∙◌, subst}
use Rattle.std.specs.List.Sorted.{IsStrictlySortedBy}
use Rattle.std.specs.Map.{keys_of}
use Rattle.std.specs.Ordering.{is_eq, nat_cmp}
use Rattle.adr_shelves.specs.Place.{link_place}
use Rattle.adr_shelves.specs.Shelves.{all_shelves, entries_of, placed, shelf_entries}
use Rattle.adr_shelves.proofs.ShelvedRuns.{behind, begun_none, begun_other, begun_own, slots_rise}
use Rattle.adr_shelves.proofs.ShelvedTrees.{link_own, link_ranged, link_seated}
use Rattle.adr_shelves.proofs.run.Run.at_link.Goals as goal

pub slots_behind-requires : goal.slots_behind-requires
slots_behind-requires c =
    subst (λ ss. IsStrictlySortedBy nat_cmp (keys_of ss)) (sym c.slots.ensures)
    (slots_rise (all_shelves c.args._objects.now.entries c.args.links.now.entries) (placed link_place c.range-shelves.result) c.requires.shelves c.args.place.now (link_place c.of-seat.result)
    (ap link_place c.of-seat.ensures ∙ link_seated c.args.place.now c.requires.link) (ap (placed link_place) (c.range-shelves.ensures.between tt) ∙ link_ranged c.args._objects.now.entries c.args.links.now.entries c.of-seat.result)
    (link_place c.in-Some.first.now) c.in-Some.shelf.now (placed link_place c.next.new.self) (ap (placed link_place) c.in-Some.ensures.steps))

pub returns-in-Some : goal.returns-in-Some
returns-in-Some c =
    ap (λ s. shelf_entries s c.slots_behind.result.now ++ entries_of c.behind_objects.result) c.place.ensures
    ∙ ap (λ us. shelf_entries (link_place c.of-seat.result) c.slots_behind.result.now ++ entries_of us) c.behind_objects.ensures
    ∙ begun_own (all_shelves c.args._objects.now.entries c.args.links.now.entries) (placed link_place c.range-shelves.result) c.requires.shelves c.args.place.now (link_place c.of-seat.result)
    (ap link_place c.of-seat.ensures ∙ link_seated c.args.place.now c.requires.link) (ap (placed link_place) (c.range-shelves.ensures.between tt) ∙ link_ranged c.args._objects.now.entries c.args.links.now.entries c.of-seat.result)
    (link_place c.in-Some.first.now) c.in-Some.shelf.now (placed link_place c.next.new.self) (ap (placed link_place) c.in-Some.ensures.steps)
    c.args.with_own c.args.with_own (link_own c.args.with_own c.args.place.now c.requires.link) (ap is_eq (sym c.cmp.ensures) ∙ sym c.is_eq.ensures ∙ c.if-is_eq.true)
    c.slots_behind.result.now (c.slots_behind.ensures ∙ ap (behind c.args.with_own c.args.place.now.attr) c.slots.ensures)

pub returns-in-Some-2 : goal.returns-in-Some-2
returns-in-Some-2 c =
    ap (λ s. shelf_entries s c.slots-in-Some-2.result.now ++ entries_of c.behind_objects-in-Some-2.result) c.place-in-Some-2.ensures
    ∙ ap (λ us. shelf_entries (link_place c.in-Some.first.now) c.slots-in-Some-2.result.now ++ entries_of us) c.behind_objects-in-Some-2.ensures
    ∙ begun_other (all_shelves c.args._objects.now.entries c.args.links.now.entries) (placed link_place c.range-shelves.result) c.requires.shelves c.args.place.now (link_place c.of-seat.result)
    (ap link_place c.of-seat.ensures ∙ link_seated c.args.place.now c.requires.link) (ap (placed link_place) (c.range-shelves.ensures.between tt) ∙ link_ranged c.args._objects.now.entries c.args.links.now.entries c.of-seat.result)
    (link_place c.in-Some.first.now) c.in-Some.shelf.now (placed link_place c.next.new.self) (ap (placed link_place) c.in-Some.ensures.steps)
    c.args.with_own (ap is_eq (sym c.cmp.ensures) ∙ sym c.is_eq.ensures ∙ c.if-is_eq.false) c.slots-in-Some-2.result.now c.slots-in-Some-2.ensures

pub returns-in-None : goal.returns-in-None
returns-in-None c =
    ap entries_of (c.behind_objects-in-None.ensures ∙ ap (placed link_place) c.in-None.ensures.steps.1)
    ∙ begun_none (all_shelves c.args._objects.now.entries c.args.links.now.entries) (placed link_place c.range-shelves.result) c.requires.shelves c.args.place.now (link_place c.of-seat.result)
    (ap link_place c.of-seat.ensures ∙ link_seated c.args.place.now c.requires.link) (ap (placed link_place) (c.range-shelves.ensures.between tt) ∙ link_ranged c.args._objects.now.entries c.args.links.now.entries c.of-seat.result)
    c.args.with_own (ap (placed link_place) c.in-None.ensures.steps.0)
