use Rattle.std.proofs.Common.{◌≡◌, ◌∙◌, sym, ap, Some, None, true}
use Rattle.std.specs.Prelude.{is_some}
use Rattle.std.specs.Map.{lookup, set_value}
use Rattle.std.specs.BTreeMap.{BTreeMap, is_at}
use Rattle.adr_shelves.specs.declared.shelves.Shelves.TheInside.{Inside}
use Rattle.adr_shelves.specs.Place.{is_proper, place_order}
use Rattle.adr_shelves.specs.Shelves.{flat}
use Rattle.adr_shelves.proofs.Entries.{Entries}
use Rattle.adr_shelves.proofs.Shelved.{Kept}
use Rattle.adr_shelves.proofs.ShelvedFrees.{IsCleared, at_seat, new_cleared, none_cleared, shelf_at}
use Rattle.adr_shelves.proofs.shelves.Shelves.clear_link.Goals as goal
use Rattle.adr_shelves.proofs.ShelvedTrees.{link_found, link_proper, link_set, link_seated}
use Rattle.adr_shelves.specs.Place.{link_place}
use Rattle.adr_shelves.specs.Shelves.{all_shelves}
use Rattle.adr_shelves.specs.declared.place.LinkSeat.{LinkSeat}
use Rattle.adr_shelves.proofs.shelves.Shelves.clear_link.Goals.{in-Some, in-None}

pub clear-requires : goal.clear-requires
clear-requires c = (shelf_at (all_shelves c.self.inside.objects.entries c.self.inside.links.entries) c.self.invariant.each (link_place c.of.result) c.in-Some.shelf.now (sym (c.in-Some.ensures.value ∙ sym (link_found c.self.inside.objects.entries c.self.inside.links.entries c.of.result)))).rising

cleared : (c : goal.Joined-get_mut) → IsCleared (all_shelves c.self.inside.objects.entries c.self.inside.links.entries) (all_shelves c.match-get_mut.self-inside.objects.entries c.match-get_mut.self-inside.links.entries) c.args.place.now c.match-get_mut.result
cleared c =
    let proper : is_proper c.args.place.now ≡ true = link_proper c.args.place.now c.requires in
    elim c.match-get_mut.branch [
      | in-Some w ↦
          new_cleared (all_shelves c.self.inside.objects.entries c.self.inside.links.entries) (all_shelves c.match-get_mut.self-inside.objects.entries c.match-get_mut.self-inside.links.entries) c.self.invariant c.args.place.now (link_place c.of.result) proper (ap link_place c.of.ensures ∙ link_seated c.args.place.now c.requires) w.in-Some.shelf.now w.clear.new.self
          (at_seat (all_shelves c.self.inside.objects.entries c.self.inside.links.entries) c.args.place.now (link_place c.of.result) (Some w.in-Some.shelf.now) (ap link_place c.of.ensures ∙ link_seated c.args.place.now c.requires) (w.in-Some.ensures.value ∙ sym (link_found c.self.inside.objects.entries c.self.inside.links.entries c.of.result)))
          w.clear.ensures.entries (ap (λ (i : Inside). all_shelves i.objects.entries i.links.entries) w.self-inside-is ∙ ap (λ ls. all_shelves c.self.inside.objects.entries ls) (c.get_mut.follows.holds w.clear.new.self).0 ∙ link_set c.self.inside.objects.entries c.self.inside.links.entries c.of.result w.clear.new.self)
          c.match-get_mut.result (w.result-is ∙ w.clear.ensures.was)
      | in-None w ↦
          none_cleared (all_shelves c.self.inside.objects.entries c.self.inside.links.entries) (all_shelves c.match-get_mut.self-inside.objects.entries c.match-get_mut.self-inside.links.entries) c.self.invariant c.args.place.now proper
          (at_seat (all_shelves c.self.inside.objects.entries c.self.inside.links.entries) c.args.place.now (link_place c.of.result) None (ap link_place c.of.ensures ∙ link_seated c.args.place.now c.requires) (w.in-None.ensures.value ∙ sym (link_found c.self.inside.objects.entries c.self.inside.links.entries c.of.result)))
          (ap (λ (i : Inside). all_shelves i.objects.entries i.links.entries) w.self-inside-is ∙ ap (λ (m : BTreeMap LinkSeat Kept). all_shelves c.self.inside.objects.entries m.entries) c.get_mut.follows.holds-at-none)
          c.match-get_mut.result w.result-is
    ]

pub invariant_of-self : goal.invariant_of-self
invariant_of-self c = (cleared c).are

pub returns-clause-was : goal.returns-clause-was
returns-clause-was c = (cleared c).was ∙ ap (λ (es : Entries). is_some (flat (lookup (is_at (place_order c.args.place.now)) es))) c.self.view_is

pub returns-clause-entries : goal.returns-clause-entries
returns-clause-entries c = (cleared c).entries ∙ ap (λ (es : Entries). set_value (is_at (place_order c.args.place.now)) es None) c.self.view_is
