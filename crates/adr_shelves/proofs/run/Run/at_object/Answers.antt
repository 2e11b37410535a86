use Rattle.std.proofs.Common.{◌++◌, [], sym, ap, ◌∙◌, subst}
use Rattle.std.specs.List.Sorted.{IsStrictlySortedBy}
use Rattle.std.specs.Map.{keys_of}
use Rattle.std.specs.Ordering.{is_eq, nat_cmp}
use Rattle.adr_shelves.specs.Place.{object_place}
use Rattle.adr_shelves.specs.Shelves.{all_shelves, entries_of, shelf_entries}
use Rattle.adr_shelves.proofs.ShelvedRuns.{behind, begun_behind, begun_other, begun_own, slots_rise}
use Rattle.adr_shelves.proofs.ShelvedTrees.{links_elsewhere, object_ranged, object_seated, same_objects}
use Rattle.adr_shelves.proofs.run.Run.at_object.Goals as goal

pub slots_behind-requires : goal.slots_behind-requires
slots_behind-requires c =
    subst (λ ss. IsStrictlySortedBy nat_cmp (keys_of ss)) (sym c.slots.ensures)
    (slots_rise (all_shelves c.args.objects.now.entries c.args.links.now.entries) (all_shelves c.range-shelves.result c.args.links.now.entries) c.requires.shelves c.args.place.now (object_place c.of-seat.result)
    (ap object_place c.of-seat.ensures ∙ object_seated c.args.place.now c.requires.object) (ap (λ os. all_shelves os c.args.links.now.entries) (c.range-shelves.ensures.between tt) ∙ object_ranged c.args.objects.now.entries c.args.links.now.entries c.of-seat.result)
    (object_place c.in-Some.first.now) c.in-Some.shelf.now (all_shelves c.next.new.self c.args.links.now.entries) (ap (λ os. all_shelves os c.args.links.now.entries) c.in-Some.ensures.steps))

pub returns-in-Some : goal.returns-in-Some
returns-in-Some c b own =
    ap (λ s. shelf_entries s c.slots_behind.result.now ++ entries_of c.with_links.result) c.place.ensures
    ∙ ap (λ us. shelf_entries (object_place c.of-seat.result) c.slots_behind.result.now ++ entries_of us) c.with_links.ensures
    ∙ begun_own (all_shelves c.args.objects.now.entries c.args.links.now.entries) (all_shelves c.range-shelves.result c.args.links.now.entries) c.requires.shelves c.args.place.now (object_place c.of-seat.result)
    (ap object_place c.of-seat.ensures ∙ object_seated c.args.place.now c.requires.object) (ap (λ os. all_shelves os c.args.links.now.entries) (c.range-shelves.ensures.between tt) ∙ object_ranged c.args.objects.now.entries c.args.links.now.entries c.of-seat.result)
    (object_place c.in-Some.first.now) c.in-Some.shelf.now (all_shelves c.next.new.self c.args.links.now.entries) (ap (λ os. all_shelves os c.args.links.now.entries) c.in-Some.ensures.steps)
    b c.args.with_own own (ap is_eq (same_objects c.in-Some.first.now c.of-seat.result ∙ sym c.cmp.ensures) ∙ sym c.is_eq.ensures ∙ c.if-is_eq.true)
    c.slots_behind.result.now (c.slots_behind.ensures ∙ ap (behind c.args.with_own c.args.place.now.attr) c.slots.ensures)

pub returns-in-Some-2 : goal.returns-in-Some-2
returns-in-Some-2 c b own =
    ap (λ s. shelf_entries s c.slots-in-Some-2.result.now ++ entries_of c.with_links-in-Some-2.result) c.place-in-Some-2.ensures
    ∙ ap (λ us. shelf_entries (object_place c.in-Some.first.now) c.slots-in-Some-2.result.now ++ entries_of us) c.with_links-in-Some-2.ensures
    ∙ begun_other (all_shelves c.args.objects.now.entries c.args.links.now.entries) (all_shelves c.range-shelves.result c.args.links.now.entries) c.requires.shelves c.args.place.now (object_place c.of-seat.result)
    (ap object_place c.of-seat.ensures ∙ object_seated c.args.place.now c.requires.object) (ap (λ os. all_shelves os c.args.links.now.entries) (c.range-shelves.ensures.between tt) ∙ object_ranged c.args.objects.now.entries c.args.links.now.entries c.of-seat.result)
    (object_place c.in-Some.first.now) c.in-Some.shelf.now (all_shelves c.next.new.self c.args.links.now.entries) (ap (λ os. all_shelves os c.args.links.now.entries) c.in-Some.ensures.steps)
    b (ap is_eq (same_objects c.in-Some.first.now c.of-seat.result ∙ sym c.cmp.ensures) ∙ sym c.is_eq.ensures ∙ c.if-is_eq.false) c.slots-in-Some-2.result.now c.slots-in-Some-2.ensures

pub returns-in-None : goal.returns-in-None
returns-in-None c b own =
    ap entries_of (c.with_links-in-None.ensures ∙ ap (λ os. all_shelves os c.args.links.now.entries) c.in-None.ensures.steps.1)
    ∙ begun_behind (all_shelves c.args.objects.now.entries c.args.links.now.entries) (all_shelves [] c.args.links.now.entries) c.requires.shelves c.args.place.now (object_place c.of-seat.result)
    (ap object_place c.of-seat.ensures ∙ object_seated c.args.place.now c.requires.object)
    (ap (λ os. all_shelves os c.args.links.now.entries) (sym c.in-None.ensures.steps.0 ∙ c.range-shelves.ensures.between tt) ∙ object_ranged c.args.objects.now.entries c.args.links.now.entries c.of-seat.result)
    b (links_elsewhere c.of-seat.result c.args.links.now.entries)
