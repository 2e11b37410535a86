use Rattle.std.proofs.Common.{◌≡◌, sym, ap, ◌∙◌, None, Some}
use Rattle.std.specs.Option.{option_and_then}
use Rattle.std.specs.Map.{lookup}
use Rattle.std.specs.Ordering.{nat_cmp}
use Rattle.std.specs.BTreeMap.{is_at}
use Rattle.adr_shelves.specs.Place.{place_order, seat_at}
use Rattle.adr_shelves.proofs.Shelved.{Kept, looked, none_improper}
use Rattle.adr_shelves.proofs.ShelvedTrees.{object_found, object_seated}
use Rattle.adr_shelves.specs.Place.{object_place}
use Rattle.adr_shelves.specs.Shelves.{all_shelves}
use Rattle.adr_shelves.proofs.shelves.Shelves.object_slot.Goals as goal

pub returns-then-not-is_proper : goal.returns-then-not-is_proper
returns-then-not-is_proper c =
    sym (ap (lookup (is_at (place_order c.args.place.now))) (sym c.self.view_is)
    ∙ none_improper (all_shelves c.self.inside.objects.entries c.self.inside.links.entries) c.self.invariant c.args.place.now (sym c.is_proper.ensures ∙ c.if-not-is_proper.true))

pub returns-in-Some : goal.returns-in-Some
returns-in-Some c =
    let found : lookup (is_at (place_order (seat_at c.args.place.now))) (all_shelves c.self.inside.objects.entries c.self.inside.links.entries) ≡ Some c.in-Some.shelf.now =
    ap (λ s. lookup (is_at (place_order s)) (all_shelves c.self.inside.objects.entries c.self.inside.links.entries)) (sym (ap object_place c.of.ensures ∙ object_seated c.args.place.now c.requires)) ∙ sym (c.in-Some.ensures.value ∙ sym (object_found c.self.inside.objects.entries c.self.inside.links.entries c.of.result)) in
    c.slot.ensures
    ∙ sym (ap (lookup (is_at (place_order c.args.place.now))) (sym c.self.view_is)
    ∙ looked (all_shelves c.self.inside.objects.entries c.self.inside.links.entries) c.self.invariant c.args.place.now (sym c.is_proper.ensures ∙ c.if-not-is_proper.false)
    ∙ ap (option_and_then (λ (slots : Kept). lookup (is_at (nat_cmp c.args.place.now.attr)) slots)) found)

pub returns-in-None : goal.returns-in-None
returns-in-None c =
    let none : lookup (is_at (place_order (seat_at c.args.place.now))) (all_shelves c.self.inside.objects.entries c.self.inside.links.entries) ≡ None =
    ap (λ s. lookup (is_at (place_order s)) (all_shelves c.self.inside.objects.entries c.self.inside.links.entries)) (sym (ap object_place c.of.ensures ∙ object_seated c.args.place.now c.requires)) ∙ sym (c.in-None.ensures.value ∙ sym (object_found c.self.inside.objects.entries c.self.inside.links.entries c.of.result)) in
    sym (ap (lookup (is_at (place_order c.args.place.now))) (sym c.self.view_is)
    ∙ looked (all_shelves c.self.inside.objects.entries c.self.inside.links.entries) c.self.invariant c.args.place.now (sym c.is_proper.ensures ∙ c.if-not-is_proper.false)
    ∙ ap (option_and_then (λ (slots : Kept). lookup (is_at (nat_cmp c.args.place.now.attr)) slots)) none)
