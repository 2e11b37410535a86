use Rattle.std.proofs.Common.{sym, ◌∙◌, ap}
use Rattle.adr_shelves.specs.declared.shelves.Shelves.TheInside.{Inside}
use Rattle.adr_shelves.specs.Place.{place_of}
use Rattle.adr_shelves.proofs.ShelvedBuried.{AreBuried, has_own, new_buried, none_buried, slots_rise}
use Rattle.adr_shelves.proofs.shelves.Shelves.bury.Goals as goal
use Rattle.adr_shelves.proofs.ShelvedTrees.{object_found, object_set}
use Rattle.adr_shelves.specs.Place.{object_place}
use Rattle.adr_shelves.specs.Shelves.{all_shelves}
use Rattle.adr_shelves.proofs.shelves.Shelves.bury.Goals.{in-Some, in_default}

pub write-requires-clause-rising : goal.write-requires-clause-rising
write-requires-clause-rising c =
    slots_rise (all_shelves c.self.inside.objects.entries c.self.inside.links.entries) c.self.invariant c.args.self.now c.self.view_is c.args.object.now c.args.row c.requires.own c.requires.there (object_place c.of_object.result) (ap object_place c.of_object.ensures) c.in-Some.shelf.now (c.in-Some.ensures.value ∙ sym (object_found c.self.inside.objects.entries c.self.inside.links.entries c.of_object.result))

pub write-requires-clause-there : goal.write-requires-clause-there
write-requires-clause-there c =
    has_own (all_shelves c.self.inside.objects.entries c.self.inside.links.entries) c.self.invariant c.args.self.now c.self.view_is c.args.object.now c.args.row c.requires.own c.requires.there (object_place c.of_object.result) (ap object_place c.of_object.ensures) c.in-Some.shelf.now (c.in-Some.ensures.value ∙ sym (object_found c.self.inside.objects.entries c.self.inside.links.entries c.of_object.result))
    c.attr_of.result (c.attr_of.ensures ∙ ap (λ k. (place_of k).attr) c.key.ensures)

are_buried : (c : goal.Joined-get_mut) → AreBuried c.args.self.now (all_shelves c.match-get_mut.self-inside.objects.entries c.match-get_mut.self-inside.links.entries) c.args.object.now c.args.row
are_buried c = elim c.match-get_mut.branch [
  | in-Some w ↦
      new_buried (all_shelves c.self.inside.objects.entries c.self.inside.links.entries) c.self.invariant c.args.self.now c.self.view_is c.args.object.now c.args.row c.requires.own c.requires.there (object_place c.of_object.result) (ap object_place c.of_object.ensures) w.in-Some.shelf.now (w.in-Some.ensures.value ∙ sym (object_found c.self.inside.objects.entries c.self.inside.links.entries c.of_object.result))
      (all_shelves c.match-get_mut.self-inside.objects.entries c.match-get_mut.self-inside.links.entries) w.attr_of.result (w.attr_of.ensures ∙ ap (λ k. (place_of k).attr) w.key.ensures) w.write.new.self w.write.ensures.entries w.clear_from.new.self w.clear_from.ensures
      (ap (λ (i : Inside). all_shelves i.objects.entries i.links.entries) w.self-inside-is ∙ ap (λ os. all_shelves os c.self.inside.links.entries) (c.get_mut.follows.holds w.clear_from.new.self).0 ∙ object_set c.self.inside.objects.entries c.self.inside.links.entries c.of_object.result w.clear_from.new.self)
  | in_default w ↦
      none_buried (all_shelves c.self.inside.objects.entries c.self.inside.links.entries) c.self.invariant c.args.self.now c.self.view_is c.args.object.now c.args.row c.requires.own c.requires.there (object_place c.of_object.result) (ap object_place c.of_object.ensures) (all_shelves c.match-get_mut.self-inside.objects.entries c.match-get_mut.self-inside.links.entries)
      (w.in_default.ensures.value ∙ sym (object_found c.self.inside.objects.entries c.self.inside.links.entries c.of_object.result))
]

pub invariant_of-self : goal.invariant_of-self
invariant_of-self c = (are_buried c).are

pub returns : goal.returns
returns c = (are_buried c).entries
