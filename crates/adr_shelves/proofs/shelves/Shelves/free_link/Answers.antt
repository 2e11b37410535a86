use Rattle.std.proofs.Common.{refl, ◌≡◌, ◌∙◌, sym, ap, subst, rules, Some, None, [], true, false}
use Rattle.std.specs.Map.{lookup, remove_entry}
use Rattle.std.specs.BTreeMap.{BTreeMap, is_at}
use Rattle.adr_shelves.specs.declared.shelves.Shelves.TheInside.{Inside}
use Rattle.adr_model.specs.Update.{LinkOf}
use Rattle.adr_shelves.specs.Place.{link_seat, place_of, place_order, seat_at}
use Rattle.adr_shelves.specs.Shelves.{AreShelves, entries_of}
use Rattle.adr_shelves.proofs.Entries.{Entries}
use Rattle.adr_shelves.proofs.Shelved.{Kept}
use Rattle.adr_shelves.proofs.ShelvedFrees.{IsFreed, at_seat, bare_gone, new_freed, none_freed_in, shelf_at, shelves_without}
use Rattle.adr_shelves.proofs.ShelvedUnits.{found_again}
use Rattle.adr_shelves.proofs.shelves.Shelves.free_link.Goals as goal
use Rattle.adr_shelves.proofs.ShelvedTrees.{link_found, link_gone, link_set}
use Rattle.adr_shelves.specs.Place.{link_place}
use Rattle.adr_shelves.specs.Shelves.{all_shelves}
use Rattle.adr_shelves.specs.declared.place.LinkSeat.{LinkSeat}
use Rattle.adr_shelves.proofs.shelves.Shelves.free_link.Goals.{Joined-get_mut, in-Some, in-None}

pub free-requires : goal.free-requires
free-requires c = (shelf_at (all_shelves c.self.inside.objects.entries c.self.inside.links.entries) c.self.invariant.each (link_place c.of-seat.result) c.in-Some.shelf.now (sym (c.in-Some.ensures.value ∙ sym (link_found c.self.inside.objects.entries c.self.inside.links.entries c.of-seat.result)))).rising

seat_is : (c : Joined-get_mut) → (link_place c.of-seat.result) ≡ seat_at (place_of (LinkOf c.args.link.now))
seat_is c = ap link_place (c.of-seat.ensures ∙ ap link_seat c.of_link.ensures)

freed : (c : Joined-get_mut) → IsFreed (all_shelves c.self.inside.objects.entries c.self.inside.links.entries) (all_shelves c.match-get_mut.self-inside.objects.entries c.match-get_mut.self-inside.links.entries) (place_of (LinkOf c.args.link.now))
freed c =
    elim c.match-get_mut.branch [
      | in-Some w ↦
          new_freed (all_shelves c.self.inside.objects.entries c.self.inside.links.entries) (all_shelves c.match-get_mut.self-inside.objects.entries c.match-get_mut.self-inside.links.entries) c.self.invariant (place_of (LinkOf c.args.link.now)) (link_place c.of-seat.result) refl
          (seat_is c) w.in-Some.shelf.now w.free.new.self
          (at_seat (all_shelves c.self.inside.objects.entries c.self.inside.links.entries) (place_of (LinkOf c.args.link.now)) (link_place c.of-seat.result) (Some w.in-Some.shelf.now) (seat_is c) (w.in-Some.ensures.value ∙ sym (link_found c.self.inside.objects.entries c.self.inside.links.entries c.of-seat.result)))
          w.free.ensures.freed w.free.ensures.same
          (ap (λ (i : Inside). all_shelves i.objects.entries i.links.entries) w.self-inside-is ∙ ap (λ ls. all_shelves c.self.inside.objects.entries ls) (c.get_mut.follows.holds w.free.new.self).0
          ∙ link_set c.self.inside.objects.entries c.self.inside.links.entries c.of-seat.result w.free.new.self)
      | in-None w ↦
          none_freed_in (all_shelves c.self.inside.objects.entries c.self.inside.links.entries) (all_shelves c.match-get_mut.self-inside.objects.entries c.match-get_mut.self-inside.links.entries) c.self.invariant (place_of (LinkOf c.args.link.now)) refl
          (at_seat (all_shelves c.self.inside.objects.entries c.self.inside.links.entries) (place_of (LinkOf c.args.link.now)) (link_place c.of-seat.result) None (seat_is c) (w.in-None.ensures.value ∙ sym (link_found c.self.inside.objects.entries c.self.inside.links.entries c.of-seat.result)))
          (ap (λ (i : Inside). all_shelves i.objects.entries i.links.entries) w.self-inside-is ∙ ap (λ (m : BTreeMap LinkSeat Kept). all_shelves c.self.inside.objects.entries m.entries) c.get_mut.follows.holds-at-none)
    ]

-- where the shelf is said to be empty, it is there without slots
bare : (c : Joined-get_mut) → c.match-get_mut.is_empty ≡ true → lookup (is_at (place_order (link_place c.of-seat.result))) (all_shelves c.match-get_mut.self-inside.objects.entries c.match-get_mut.self-inside.links.entries) ≡ Some []
bare c told = elim c.match-get_mut.branch [
  | in-Some w ↦
      ap (λ (i : Inside). lookup (is_at (place_order (link_place c.of-seat.result))) (all_shelves i.objects.entries i.links.entries)) w.self-inside-is
      ∙ ap (lookup (is_at (place_order (link_place c.of-seat.result)))) (ap (λ ls. all_shelves c.self.inside.objects.entries ls) (c.get_mut.follows.holds w.free.new.self).0 ∙ link_set c.self.inside.objects.entries c.self.inside.links.entries c.of-seat.result w.free.new.self)
      ∙ found_again (all_shelves c.self.inside.objects.entries c.self.inside.links.entries) (link_place c.of-seat.result) w.in-Some.shelf.now w.free.new.self (sym (w.in-Some.ensures.value ∙ sym (link_found c.self.inside.objects.entries c.self.inside.links.entries c.of-seat.result)))
      ∙ ap Some (w.is_empty-is_empty.ensures.0 (sym w.is_empty-is ∙ told))
  | in-None w ↦ let wrong : false ≡ true = sym w.is_empty-is ∙ told in cc
]

pub invariant_of-self : goal.invariant_of-self
invariant_of-self c =
    subst AreShelves (sym (ap (λ ls. all_shelves c.match-get_mut.self-inside.objects.entries ls) c.remove.ensures.entries ∙ link_gone c.match-get_mut.self-inside.objects.entries c.match-get_mut.self-inside.links.entries c.of-seat.result))
    (shelves_without (all_shelves c.match-get_mut.self-inside.objects.entries c.match-get_mut.self-inside.links.entries) (freed (goal.at.invariant_of-self c).Joined-get_mut).are (link_place c.of-seat.result))

pub invariant_of-self-else-is_empty : goal.invariant_of-self-else-is_empty
invariant_of-self-else-is_empty c = (freed (goal.at.invariant_of-self-else-is_empty c).Joined-get_mut).are

pub returns-then-is_empty-clause-freed : goal.returns-then-is_empty-clause-freed
returns-then-is_empty-clause-freed c there =
    let at = (goal.at.returns-then-is_empty-clause-freed c).Joined-get_mut in
    let is : c.match-remove.self ≡ entries_of (all_shelves c.match-get_mut.self-inside.objects.entries c.remove.new.self.entries) = search rules in
    is ∙ ap entries_of (ap (λ ls. all_shelves c.match-get_mut.self-inside.objects.entries ls) c.remove.ensures.entries ∙ link_gone c.match-get_mut.self-inside.objects.entries c.match-get_mut.self-inside.links.entries c.of-seat.result)
    ∙ bare_gone (all_shelves c.match-get_mut.self-inside.objects.entries c.match-get_mut.self-inside.links.entries) (link_place c.of-seat.result) (bare at c.if-is_empty.true)
    ∙ (freed at).freed (ap (lookup (is_at (place_order (place_of (LinkOf c.args.link.now))))) c.self.view_is ∙ there)
    ∙ ap (remove_entry (is_at (place_order (place_of (LinkOf c.args.link.now))))) c.self.view_is

pub returns-then-is_empty-clause-same : goal.returns-then-is_empty-clause-same
returns-then-is_empty-clause-same c full =
    let at = (goal.at.returns-then-is_empty-clause-same c).Joined-get_mut in
    let is : c.match-remove.self ≡ entries_of (all_shelves c.match-get_mut.self-inside.objects.entries c.remove.new.self.entries) = search rules in
    is ∙ ap entries_of (ap (λ ls. all_shelves c.match-get_mut.self-inside.objects.entries ls) c.remove.ensures.entries ∙ link_gone c.match-get_mut.self-inside.objects.entries c.match-get_mut.self-inside.links.entries c.of-seat.result)
    ∙ bare_gone (all_shelves c.match-get_mut.self-inside.objects.entries c.match-get_mut.self-inside.links.entries) (link_place c.of-seat.result) (bare at c.if-is_empty.true)
    ∙ (freed at).same (λ there. full (ap (lookup (is_at (place_order (place_of (LinkOf c.args.link.now))))) (sym c.self.view_is) ∙ there))
    ∙ c.self.view_is

pub returns-else-is_empty-clause-freed : goal.returns-else-is_empty-clause-freed
returns-else-is_empty-clause-freed c =
    subst (λ (es : Entries). lookup (is_at (place_order (place_of (LinkOf c.args.link.now)))) es ≡ Some None → entries_of (all_shelves c.match-get_mut.self-inside.objects.entries c.match-get_mut.self-inside.links.entries) ≡ remove_entry (is_at (place_order (place_of (LinkOf c.args.link.now)))) es)
    c.self.view_is (freed (goal.at.returns-else-is_empty-clause-freed c).Joined-get_mut).freed

pub returns-else-is_empty-clause-same : goal.returns-else-is_empty-clause-same
returns-else-is_empty-clause-same c =
    subst (λ (es : Entries). (lookup (is_at (place_order (place_of (LinkOf c.args.link.now)))) es ≡ Some None → ⊥) → entries_of (all_shelves c.match-get_mut.self-inside.objects.entries c.match-get_mut.self-inside.links.entries) ≡ es)
    c.self.view_is (freed (goal.at.returns-else-is_empty-clause-same c).Joined-get_mut).same
