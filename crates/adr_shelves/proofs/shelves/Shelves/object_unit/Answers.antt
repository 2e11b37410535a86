use Rattle.std.proofs.Common.{sym, ap, ◌∙◌}
use Rattle.std.specs.Map.{lookup}
use Rattle.std.specs.BTreeMap.{is_at}
use Rattle.adr_shelves.specs.Place.{is_of_unit, object_place, place_order}
use Rattle.adr_shelves.specs.Shelves.{shelf_entries}
use Rattle.adr_shelves.proofs.ShelvedParts.{none_passing, passing, unit_passing}
use Rattle.adr_shelves.proofs.ShelvedTrees.{no_seat, object_at, object_found}
use Rattle.adr_shelves.specs.Shelves.{all_shelves}
use Rattle.adr_shelves.proofs.shelves.Shelves.object_unit.Goals as goal

pub returns-in-Some : goal.returns-in-Some
returns-in-Some c =
    ap (shelf_entries c.args.seat.now) c.slots.ensures
    ∙ sym (ap (passing (is_of_unit c.args.seat.now)) (sym c.self.view_is) ∙ unit_passing (all_shelves c.self.inside.objects.entries c.self.inside.links.entries) c.self.invariant c.args.seat.now c.in-Some.shelf.now (ap (λ s. lookup (is_at (place_order s)) (all_shelves c.self.inside.objects.entries c.self.inside.links.entries)) (sym (ap object_place c.of.ensures ∙ object_at c.args.seat.now c.requires (sym c.is_seat.ensures ∙ c.if-not-is_seat.false)))
    ∙ object_found c.self.inside.objects.entries c.self.inside.links.entries c.of.result ∙ sym c.in-Some.ensures.value))

pub returns-in-None : goal.returns-in-None
returns-in-None c =
    sym (ap (passing (is_of_unit c.args.seat.now)) (sym c.self.view_is) ∙ none_passing (all_shelves c.self.inside.objects.entries c.self.inside.links.entries) c.self.invariant.each c.args.seat.now (ap (λ s. lookup (is_at (place_order s)) (all_shelves c.self.inside.objects.entries c.self.inside.links.entries)) (sym (ap object_place c.of.ensures ∙ object_at c.args.seat.now c.requires (sym c.is_seat.ensures ∙ c.if-not-is_seat.false)))
    ∙ object_found c.self.inside.objects.entries c.self.inside.links.entries c.of.result ∙ sym c.in-None.ensures.value))

pub returns-then-not-is_seat : goal.returns-then-not-is_seat
returns-then-not-is_seat c =
    sym (ap (passing (is_of_unit c.args.seat.now)) (sym c.self.view_is)
    ∙ none_passing (all_shelves c.self.inside.objects.entries c.self.inside.links.entries) c.self.invariant.each c.args.seat.now (no_seat (all_shelves c.self.inside.objects.entries c.self.inside.links.entries) c.self.invariant.each c.args.seat.now c.requires (sym c.is_seat.ensures ∙ c.if-not-is_seat.true)))
