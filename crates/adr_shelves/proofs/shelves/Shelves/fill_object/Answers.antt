use Rattle.std.proofs.Common.{◌∙◌, sym, ap, subst, fold, not, ◌&&◌}
use Rattle.std.specs.Prelude.{is_some}
use Rattle.std.specs.List.{list_any}
use Rattle.std.specs.Map.{lookup}
use Rattle.std.specs.BTreeMap.{BTreeMap, is_at}
use Rattle.adr_model.specs.Live.{born}
use Rattle.adr_model.specs.Update.{RowOf, class_attr}
use Rattle.adr_shelves.specs.declared.shelves.Shelves.TheInside.{Inside}
use Rattle.adr_shelves.specs.Place.{place_of, place_order}
use Rattle.adr_shelves.specs.Shelves.{entries_of, flat, front, is_life, with_held}
use Rattle.adr_shelves.proofs.Entries.{Entries}
use Rattle.adr_shelves.proofs.Shelved.{Kept}
use Rattle.adr_shelves.proofs.ShelvedFilled.{HaveSlots, IsFilled, have_own, new_filled, none_filled, slots_rise}
use Rattle.adr_shelves.proofs.shelves.Shelves.fill_object.Goals as goal
use Rattle.adr_shelves.proofs.ShelvedTrees.{object_found, object_set}
use Rattle.adr_shelves.specs.Place.{object_place}
use Rattle.adr_shelves.specs.Shelves.{all_shelves}
use Rattle.adr_shelves.specs.declared.place.ObjectSeat.{ObjectSeat}
use Rattle.adr_shelves.proofs.shelves.Shelves.fill_object.Goals.{in-Some, in-None}

pub fill-requires-clause-rising : goal.fill-requires-clause-rising
fill-requires-clause-rising c =
    slots_rise (all_shelves c.self.inside.objects.entries c.self.inside.links.entries) c.self.invariant c.args.object.now c.args.rows.now.items (object_place c.of_object.result) (ap object_place c.of_object.ensures) c.in-Some.shelf.now (c.in-Some.ensures.value ∙ sym (object_found c.self.inside.objects.entries c.self.inside.links.entries c.of_object.result))

pub fill-requires-clause-there : goal.fill-requires-clause-there
fill-requires-clause-there c =
    have_own (all_shelves c.self.inside.objects.entries c.self.inside.links.entries) c.self.invariant c.args.object.now c.args.rows.now.items (object_place c.of_object.result) (ap object_place c.of_object.ensures) c.in-Some.shelf.now (c.in-Some.ensures.value ∙ sym (object_found c.self.inside.objects.entries c.self.inside.links.entries c.of_object.result))
    (subst (λ (es : Entries). HaveSlots es (front (is_life c.args.object.now) c.args.rows.now.items)) (sym c.self.view_is) c.requires)

filled : (c : goal.Joined-get_mut) → IsFilled (all_shelves c.self.inside.objects.entries c.self.inside.links.entries) (all_shelves c.match-get_mut.self-inside.objects.entries c.match-get_mut.self-inside.links.entries) c.args.object.now c.args.rows.now.items c.match-get_mut.rows.items c.match-get_mut.result
filled c =
    let have : HaveSlots (entries_of (all_shelves c.self.inside.objects.entries c.self.inside.links.entries)) (front (is_life c.args.object.now) c.args.rows.now.items) =
    subst (λ (es : Entries). HaveSlots es (front (is_life c.args.object.now) c.args.rows.now.items)) (sym c.self.view_is) c.requires
    in
    elim c.match-get_mut.branch [
      | in-Some w ↦
          new_filled (all_shelves c.self.inside.objects.entries c.self.inside.links.entries) c.self.invariant c.args.object.now c.args.rows.now.items (object_place c.of_object.result) (ap object_place c.of_object.ensures) w.in-Some.shelf.now (w.in-Some.ensures.value ∙ sym (object_found c.self.inside.objects.entries c.self.inside.links.entries c.of_object.result))
          (all_shelves c.match-get_mut.self-inside.objects.entries c.match-get_mut.self-inside.links.entries) w.fill.new.self w.fill.ensures.entries (ap (λ (i : Inside). all_shelves i.objects.entries i.links.entries) w.self-inside-is ∙ ap (λ os. all_shelves os c.self.inside.links.entries) (c.get_mut.follows.holds w.fill.new.self).0 ∙ object_set c.self.inside.objects.entries c.self.inside.links.entries c.of_object.result w.fill.new.self)
          c.match-get_mut.rows.items (ap (λ r. r.items) w.rows-is ∙ w.fill.ensures.rest) c.match-get_mut.result (w.result-is ∙ w.fill.ensures.came)
      | in-None w ↦
          none_filled (all_shelves c.self.inside.objects.entries c.self.inside.links.entries) c.self.invariant c.args.object.now c.args.rows.now.items (object_place c.of_object.result) (ap object_place c.of_object.ensures) (w.in-None.ensures.value ∙ sym (object_found c.self.inside.objects.entries c.self.inside.links.entries c.of_object.result)) have
          (all_shelves c.match-get_mut.self-inside.objects.entries c.match-get_mut.self-inside.links.entries) (ap (λ (i : Inside). all_shelves i.objects.entries i.links.entries) w.self-inside-is ∙ ap (λ (m : BTreeMap ObjectSeat Kept). all_shelves m.entries c.self.inside.links.entries) c.get_mut.follows.holds-at-none)
          c.match-get_mut.rows.items (ap (λ r. r.items) w.rows-is) c.match-get_mut.result w.result-is
    ]

pub invariant_of-self : goal.invariant_of-self
invariant_of-self c = (filled c).are

pub returns-clause-rest : goal.returns-clause-rest
returns-clause-rest c = (filled c).rest

pub returns-clause-entries : goal.returns-clause-entries
returns-clause-entries c = (filled c).entries ∙ ap (λ (es : Entries). fold with_held es (front (is_life c.args.object.now) c.args.rows.now.items)) c.self.view_is

pub returns-clause-came : goal.returns-clause-came
returns-clause-came c =
    (filled c).comes
    ∙ ap (λ (es : Entries). not (is_some (flat (lookup (is_at (place_order (place_of (RowOf c.args.object.now class_attr)))) es)))
    && list_any (λ h. is_some (born h.update.key)) (front (is_life c.args.object.now) c.args.rows.now.items)) c.self.view_is
