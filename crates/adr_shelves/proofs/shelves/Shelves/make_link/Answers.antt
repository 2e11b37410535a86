use Rattle.std.proofs.Common.{ap, ◌∙◌, ◌≡◌, None, Option, rules, sym, subst}
use Rattle.std.specs.Prelude.{IfOk, OnErr, OnOk}
use Rattle.std.specs.Option.{option_map, unwrap_or}
use Rattle.std.specs.Map.{lookup}
use Rattle.std.specs.BTreeMap.{insert_entry, is_at}
use Rattle.std.specs.BTreeMap.Entry.{map_with_value}
use Rattle.std.specs.Ordering.{nat_cmp}
use Rattle.adr_model.specs.Store.{Held}
use Rattle.adr_shelves.specs.Place.{place_order}
use Rattle.adr_shelves.specs.Shelves.{AreShelves, entries_of, flat}
use Rattle.adr_shelves.proofs.ShelvedWrites.{entries_then, found, kept_is, rises, same_then, shelves_then}
use Rattle.adr_shelves.proofs.ShelvedTrees.{links_along, link_entries_along, link_same_along, link_found, link_put, link_seated, link_proper}
use Rattle.adr_shelves.specs.Place.{link_place}
use Rattle.adr_shelves.specs.Shelves.{all_shelves}
use Rattle.adr_shelves.proofs.shelves.Shelves.make_link.Goals as goal

pub make-requires : goal.make-requires
make-requires c =
    let is = kept_is (all_shelves c.self.inside.objects.entries c.self.inside.links.entries) (link_place c.of-seat.result) _ _ _ c.or_insert-shelf.ensures.value (c.in_ok-self-inside.ensures.value ∙ sym (link_found c.self.inside.objects.entries c.self.inside.links.entries c.of-seat.result)) c.new.ensures in
    rises _ c.self.invariant _ c.self.view_is c.args.place (link_proper c.args.place c.requires) _ (ap link_place c.of-seat.ensures ∙ link_seated c.args.place c.requires) _ is

pub invariant_of-self-2 : goal.invariant_of-self-2
invariant_of-self-2 c =
    let after = map_with_value c.in_ok-self-inside.field-0 c.make.new.self in
    let row : Option Held = unwrap_or (lookup (is_at (nat_cmp c.args.place.attr)) c.or_insert-shelf.result.now) None in
    let is = kept_is (all_shelves c.self.inside.objects.entries c.self.inside.links.entries) (link_place c.of-seat.result) _ _ _ c.or_insert-shelf.ensures.value (c.in_ok-self-inside.ensures.value ∙ sym (link_found c.self.inside.objects.entries c.self.inside.links.entries c.of-seat.result)) c.new.ensures in
    let are : AreShelves (all_shelves c.self.inside.objects.entries after.entries) =
    shelves_then _ c.self.invariant _ c.self.view_is c.args.place (link_proper c.args.place c.requires) _ (ap link_place c.of-seat.ensures ∙ link_seated c.args.place c.requires) _ is
    row c.make.new.self (all_shelves c.self.inside.objects.entries after.entries) (ap (λ ls. all_shelves c.self.inside.objects.entries ls) (c.in_ok-self-inside.ensures.update.1 c.make.new.self) ∙ link_put c.self.inside.objects.entries c.self.inside.links.entries c.of-seat.result c.make.new.self) c.make.result c.make.ensures.entries c.make.ensures.err
    in
    search (rules, links_along, are)

pub returns-clause-local : goal.returns-clause-local
returns-clause-local c =
    let is = kept_is (all_shelves c.self.inside.objects.entries c.self.inside.links.entries) (link_place c.of-seat.result) _ _ _ c.or_insert-shelf.ensures.value (c.in_ok-self-inside.ensures.value ∙ sym (link_found c.self.inside.objects.entries c.self.inside.links.entries c.of-seat.result)) c.new.ensures in
    subst (λ (o : Option (Option Held)). IfOk c.make.result (λ local. local ≡ option_map (λ h. h.local) (flat o)))
    (sym (found _ c.self.invariant _ c.self.view_is c.args.place (link_proper c.args.place c.requires) _ (ap link_place c.of-seat.ensures ∙ link_seated c.args.place c.requires) _ is))
    c.make.ensures.local

pub returns-clause-entries : goal.returns-clause-entries
returns-clause-entries c =
    let after = map_with_value c.in_ok-self-inside.field-0 c.make.new.self in
    let row : Option Held = unwrap_or (lookup (is_at (nat_cmp c.args.place.attr)) c.or_insert-shelf.result.now) None in
    let is = kept_is (all_shelves c.self.inside.objects.entries c.self.inside.links.entries) (link_place c.of-seat.result) _ _ _ c.or_insert-shelf.ensures.value (c.in_ok-self-inside.ensures.value ∙ sym (link_found c.self.inside.objects.entries c.self.inside.links.entries c.of-seat.result)) c.new.ensures in
    let entries : OnOk c.make.result (entries_of (all_shelves c.self.inside.objects.entries after.entries) ≡ insert_entry place_order c.args.self.now c.args.place (unwrap_or (lookup (is_at (place_order c.args.place)) c.args.self.now) None)) =
    subst (λ (o : Option (Option Held)). OnOk c.make.result (entries_of (all_shelves c.self.inside.objects.entries after.entries) ≡ insert_entry place_order c.args.self.now c.args.place (unwrap_or o None)))
    (sym (found _ c.self.invariant _ c.self.view_is c.args.place (link_proper c.args.place c.requires) _ (ap link_place c.of-seat.ensures ∙ link_seated c.args.place c.requires) _ is))
    (entries_then _ c.self.invariant _ c.self.view_is c.args.place (link_proper c.args.place c.requires) _ (ap link_place c.of-seat.ensures ∙ link_seated c.args.place c.requires) _ is row c.make.new.self (all_shelves c.self.inside.objects.entries after.entries) (ap (λ ls. all_shelves c.self.inside.objects.entries ls) (c.in_ok-self-inside.ensures.update.1 c.make.new.self) ∙ link_put c.self.inside.objects.entries c.self.inside.links.entries c.of-seat.result c.make.new.self) c.make.result c.make.ensures.entries)
    in
    search (rules, link_entries_along, entries)

pub returns-clause-err : goal.returns-clause-err
returns-clause-err c =
    let after = map_with_value c.in_ok-self-inside.field-0 c.make.new.self in
    let row : Option Held = unwrap_or (lookup (is_at (nat_cmp c.args.place.attr)) c.or_insert-shelf.result.now) None in
    let is = kept_is (all_shelves c.self.inside.objects.entries c.self.inside.links.entries) (link_place c.of-seat.result) _ _ _ c.or_insert-shelf.ensures.value (c.in_ok-self-inside.ensures.value ∙ sym (link_found c.self.inside.objects.entries c.self.inside.links.entries c.of-seat.result)) c.new.ensures in
    let same : OnErr c.make.result (entries_of (all_shelves c.self.inside.objects.entries after.entries) ≡ c.args.self.now) =
    same_then _ c.self.invariant _ c.self.view_is c.args.place (link_proper c.args.place c.requires) _ (ap link_place c.of-seat.ensures ∙ link_seated c.args.place c.requires) _ is row c.make.new.self (all_shelves c.self.inside.objects.entries after.entries) (ap (λ ls. all_shelves c.self.inside.objects.entries ls) (c.in_ok-self-inside.ensures.update.1 c.make.new.self) ∙ link_put c.self.inside.objects.entries c.self.inside.links.entries c.of-seat.result c.make.new.self) c.make.result c.make.ensures.err
    in
    search (rules, link_same_along, same)
