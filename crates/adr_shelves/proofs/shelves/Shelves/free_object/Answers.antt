use Rattle.std.proofs.Common.{◌≡◌, ◌∙◌, sym, ap, subst, rules}
use Rattle.std.specs.BTreeMap.{BTreeMap}
use Rattle.adr_shelves.specs.declared.shelves.Shelves.TheInside.{Inside}
use Rattle.adr_shelves.specs.Place.{is_of_unit, object_place}
use Rattle.adr_shelves.specs.Shelves.{AreShelves, entries_of, freed}
use Rattle.adr_shelves.proofs.Shelved.{Kept}
use Rattle.adr_shelves.proofs.ShelvedFrees.{bare_gone, shelves_without}
use Rattle.adr_shelves.proofs.ShelvedUnits.{IsUnitFreed, new_unit_freed, none_unit_freed}
use Rattle.adr_shelves.proofs.shelves.Shelves.free_object.Goals as goal
use Rattle.adr_shelves.proofs.ShelvedTrees.{object_found, object_gone, object_set}
use Rattle.adr_shelves.specs.Shelves.{all_shelves}
use Rattle.adr_shelves.specs.declared.place.ObjectSeat.{ObjectSeat}
use Rattle.adr_shelves.proofs.shelves.Shelves.free_object.Goals.{Joined-get_mut, in-Some, in-None}

unit_freed : (c : Joined-get_mut) → IsUnitFreed (all_shelves c.self.inside.objects.entries c.self.inside.links.entries) (all_shelves c.match-get_mut.self-inside.objects.entries c.match-get_mut.self-inside.links.entries) (object_place c.of_object-seat.result) c.match-get_mut.is_empty
unit_freed c = elim c.match-get_mut.branch [
  | in-Some w ↦
      new_unit_freed (all_shelves c.self.inside.objects.entries c.self.inside.links.entries) (all_shelves c.match-get_mut.self-inside.objects.entries c.match-get_mut.self-inside.links.entries) c.self.invariant (object_place c.of_object-seat.result) w.in-Some.shelf.now w.free_all.new.self (sym (w.in-Some.ensures.value ∙ sym (object_found c.self.inside.objects.entries c.self.inside.links.entries c.of_object-seat.result)))
      w.free_all.ensures (ap (λ (i : Inside). all_shelves i.objects.entries i.links.entries) w.self-inside-is ∙ ap (λ os. all_shelves os c.self.inside.links.entries) (c.get_mut.follows.holds w.free_all.new.self).0 ∙ object_set c.self.inside.objects.entries c.self.inside.links.entries c.of_object-seat.result w.free_all.new.self)
      c.match-get_mut.is_empty (λ b. w.is_empty-is_empty.ensures.0 (sym w.is_empty-is ∙ b))
  | in-None w ↦
      none_unit_freed (all_shelves c.self.inside.objects.entries c.self.inside.links.entries) (all_shelves c.match-get_mut.self-inside.objects.entries c.match-get_mut.self-inside.links.entries) c.self.invariant (object_place c.of_object-seat.result) (sym (w.in-None.ensures.value ∙ sym (object_found c.self.inside.objects.entries c.self.inside.links.entries c.of_object-seat.result)))
      (ap (λ (i : Inside). all_shelves i.objects.entries i.links.entries) w.self-inside-is ∙ ap (λ (m : BTreeMap ObjectSeat Kept). all_shelves m.entries c.self.inside.links.entries) c.get_mut.follows.holds-at-none)
      c.match-get_mut.is_empty w.is_empty-is
]

pub invariant_of-self : goal.invariant_of-self
invariant_of-self c =
    subst AreShelves (sym (ap (λ os. all_shelves os c.match-get_mut.self-inside.links.entries) c.remove.ensures.entries ∙ object_gone c.match-get_mut.self-inside.objects.entries c.match-get_mut.self-inside.links.entries c.of_object-seat.result))
    (shelves_without (all_shelves c.match-get_mut.self-inside.objects.entries c.match-get_mut.self-inside.links.entries) (unit_freed (goal.at.invariant_of-self c).Joined-get_mut).are (object_place c.of_object-seat.result))

pub invariant_of-self-else-is_empty : goal.invariant_of-self-else-is_empty
invariant_of-self-else-is_empty c = (unit_freed (goal.at.invariant_of-self-else-is_empty c).Joined-get_mut).are

pub returns-then-is_empty : goal.returns-then-is_empty
returns-then-is_empty c =
    let done = unit_freed (goal.at.returns-then-is_empty c).Joined-get_mut in
    let is : c.match-remove.self ≡ entries_of (all_shelves c.remove.new.self.entries c.match-get_mut.self-inside.links.entries) = search rules in
    is ∙ ap entries_of (ap (λ os. all_shelves os c.match-get_mut.self-inside.links.entries) c.remove.ensures.entries ∙ object_gone c.match-get_mut.self-inside.objects.entries c.match-get_mut.self-inside.links.entries c.of_object-seat.result)
    ∙ bare_gone (all_shelves c.match-get_mut.self-inside.objects.entries c.match-get_mut.self-inside.links.entries) (object_place c.of_object-seat.result) (done.bare c.if-is_empty.true)
    ∙ done.left ∙ ap (freed (is_of_unit (object_place c.of_object-seat.result))) c.self.view_is
    ∙ ap (λ s. freed (is_of_unit s) c.args.self.now) (ap object_place c.of_object-seat.ensures)

pub returns-else-is_empty : goal.returns-else-is_empty
returns-else-is_empty c =
    (unit_freed (goal.at.returns-else-is_empty c).Joined-get_mut).left ∙ ap (freed (is_of_unit (object_place c.of_object-seat.result))) c.self.view_is
    ∙ ap (λ s. freed (is_of_unit s) c.args.self.now) (ap object_place c.of_object-seat.ensures)
