use Rattle.std.proofs.Common.{sym, ◌∙◌, ap}
use Rattle.std.specs.BTreeMap.{BTreeMap}
use Rattle.adr_shelves.specs.declared.shelves.Shelves.TheInside.{Inside}
use Rattle.adr_shelves.specs.Place.{is_in_run, values_start}
use Rattle.adr_shelves.specs.Shelves.{emptied}
use Rattle.adr_shelves.proofs.Shelved.{Kept}
use Rattle.adr_shelves.proofs.ShelvedEmptied.{AreEmptied, new_emptied, none_emptied}
use Rattle.adr_shelves.proofs.shelves.Shelves.clear_values.Goals as goal
use Rattle.adr_shelves.proofs.ShelvedTrees.{object_found, object_set}
use Rattle.adr_shelves.specs.Place.{object_place}
use Rattle.adr_shelves.specs.Shelves.{all_shelves}
use Rattle.adr_shelves.specs.declared.place.ObjectSeat.{ObjectSeat}
use Rattle.adr_shelves.proofs.shelves.Shelves.clear_values.Goals.{in-Some, in_default}

are_emptied : (c : goal.Joined-get_mut) → AreEmptied (all_shelves c.self.inside.objects.entries c.self.inside.links.entries) (all_shelves c.match-get_mut.self-inside.objects.entries c.match-get_mut.self-inside.links.entries) c.args.object.now
are_emptied c = elim c.match-get_mut.branch [
  | in-Some w ↦
      new_emptied (all_shelves c.self.inside.objects.entries c.self.inside.links.entries) (all_shelves c.match-get_mut.self-inside.objects.entries c.match-get_mut.self-inside.links.entries) c.self.invariant c.args.object.now (object_place c.of_object.result) (ap object_place c.of_object.ensures) w.in-Some.shelf.now w.clear_from.new.self
      (w.in-Some.ensures.value ∙ sym (object_found c.self.inside.objects.entries c.self.inside.links.entries c.of_object.result)) w.clear_from.ensures (ap (λ (i : Inside). all_shelves i.objects.entries i.links.entries) w.self-inside-is ∙ ap (λ os. all_shelves os c.self.inside.links.entries) (c.get_mut.follows.holds w.clear_from.new.self).0 ∙ object_set c.self.inside.objects.entries c.self.inside.links.entries c.of_object.result w.clear_from.new.self)
  | in_default w ↦
      none_emptied (all_shelves c.self.inside.objects.entries c.self.inside.links.entries) (all_shelves c.match-get_mut.self-inside.objects.entries c.match-get_mut.self-inside.links.entries) c.self.invariant c.args.object.now (object_place c.of_object.result) (ap object_place c.of_object.ensures)
      (w.in_default.ensures.value ∙ sym (object_found c.self.inside.objects.entries c.self.inside.links.entries c.of_object.result)) (ap (λ (i : Inside). all_shelves i.objects.entries i.links.entries) w.self-inside-is ∙ ap (λ (m : BTreeMap ObjectSeat Kept). all_shelves m.entries c.self.inside.links.entries) c.get_mut.follows.holds-at-none)
]

pub invariant_of-self : goal.invariant_of-self
invariant_of-self c = (are_emptied c).are

pub returns : goal.returns
returns c = (are_emptied c).entries ∙ ap (emptied (is_in_run (values_start c.args.object.now))) c.self.view_is
