use Rattle.std.proofs.Common.{ap, ◌∙◌, ◌≡◌, None, Option, rules, sym, subst}
use Rattle.std.specs.Prelude.{IfOk, OnErr, OnOk}
use Rattle.std.specs.Option.{option_map, unwrap_or}
use Rattle.std.specs.Map.{lookup}
use Rattle.std.specs.BTreeMap.{insert_entry, is_at}
use Rattle.std.specs.BTreeMap.Entry.{map_with_value}
use Rattle.std.specs.Ordering.{nat_cmp}
use Rattle.adr_model.specs.Store.{Held}
use Rattle.adr_shelves.specs.Place.{place_order}
use Rattle.adr_shelves.specs.Shelves.{AreShelves, entries_of, flat}
use Rattle.adr_shelves.proofs.ShelvedWrites.{entries_then, found, kept_is, rises, same_then, shelves_then}
use Rattle.adr_shelves.proofs.ShelvedTrees.{objects_along, object_entries_along, object_same_along, object_found, object_put, object_seated}
use Rattle.adr_shelves.specs.Place.{object_place}
use Rattle.adr_shelves.specs.Shelves.{all_shelves}
use Rattle.adr_shelves.proofs.shelves.Shelves.make_row.Goals as goal

pub make-requires : goal.make-requires
make-requires c =
    let is = kept_is (all_shelves c.self.inside.objects.entries c.self.inside.links.entries) (object_place c.of-seat.result) _ _ _ c.or_insert-shelf.ensures.value (c.in_ok-self-inside.ensures.value ∙ sym (object_found c.self.inside.objects.entries c.self.inside.links.entries c.of-seat.result)) c.new.ensures in
    rises _ c.self.invariant _ c.self.view_is c.args.place c.requires.proper _ (ap object_place c.of-seat.ensures ∙ object_seated c.args.place c.requires.link) _ is

pub invariant_of-self-2 : goal.invariant_of-self-2
invariant_of-self-2 c =
    let after = map_with_value c.in_ok-self-inside.field-0 c.make.new.self in
    let row : Option Held = unwrap_or (lookup (is_at (nat_cmp c.args.place.attr)) c.or_insert-shelf.result.now) None in
    let is = kept_is (all_shelves c.self.inside.objects.entries c.self.inside.links.entries) (object_place c.of-seat.result) _ _ _ c.or_insert-shelf.ensures.value (c.in_ok-self-inside.ensures.value ∙ sym (object_found c.self.inside.objects.entries c.self.inside.links.entries c.of-seat.result)) c.new.ensures in
    let are : AreShelves (all_shelves after.entries c.self.inside.links.entries) =
    shelves_then _ c.self.invariant _ c.self.view_is c.args.place c.requires.proper _ (ap object_place c.of-seat.ensures ∙ object_seated c.args.place c.requires.link) _ is
    row c.make.new.self (all_shelves after.entries c.self.inside.links.entries) (ap (λ os. all_shelves os c.self.inside.links.entries) (c.in_ok-self-inside.ensures.update.1 c.make.new.self) ∙ object_put c.self.inside.objects.entries c.self.inside.links.entries c.of-seat.result c.make.new.self) c.make.result c.make.ensures.entries c.make.ensures.err
    in
    search (rules, objects_along, are)

pub returns-clause-local : goal.returns-clause-local
returns-clause-local c =
    let is = kept_is (all_shelves c.self.inside.objects.entries c.self.inside.links.entries) (object_place c.of-seat.result) _ _ _ c.or_insert-shelf.ensures.value (c.in_ok-self-inside.ensures.value ∙ sym (object_found c.self.inside.objects.entries c.self.inside.links.entries c.of-seat.result)) c.new.ensures in
    subst (λ (o : Option (Option Held)). IfOk c.make.result (λ local. local ≡ option_map (λ h. h.local) (flat o)))
    (sym (found _ c.self.invariant _ c.self.view_is c.args.place c.requires.proper _ (ap object_place c.of-seat.ensures ∙ object_seated c.args.place c.requires.link) _ is))
    c.make.ensures.local

pub returns-clause-entries : goal.returns-clause-entries
returns-clause-entries c =
    let after = map_with_value c.in_ok-self-inside.field-0 c.make.new.self in
    let row : Option Held = unwrap_or (lookup (is_at (nat_cmp c.args.place.attr)) c.or_insert-shelf.result.now) None in
    let is = kept_is (all_shelves c.self.inside.objects.entries c.self.inside.links.entries) (object_place c.of-seat.result) _ _ _ c.or_insert-shelf.ensures.value (c.in_ok-self-inside.ensures.value ∙ sym (object_found c.self.inside.objects.entries c.self.inside.links.entries c.of-seat.result)) c.new.ensures in
    let entries : OnOk c.make.result (entries_of (all_shelves after.entries c.self.inside.links.entries) ≡ insert_entry place_order c.args.self.now c.args.place (unwrap_or (lookup (is_at (place_order c.args.place)) c.args.self.now) None)) =
    subst (λ (o : Option (Option Held)). OnOk c.make.result (entries_of (all_shelves after.entries c.self.inside.links.entries) ≡ insert_entry place_order c.args.self.now c.args.place (unwrap_or o None)))
    (sym (found _ c.self.invariant _ c.self.view_is c.args.place c.requires.proper _ (ap object_place c.of-seat.ensures ∙ object_seated c.args.place c.requires.link) _ is))
    (entries_then _ c.self.invariant _ c.self.view_is c.args.place c.requires.proper _ (ap object_place c.of-seat.ensures ∙ object_seated c.args.place c.requires.link) _ is row c.make.new.self (all_shelves after.entries c.self.inside.links.entries) (ap (λ os. all_shelves os c.self.inside.links.entries) (c.in_ok-self-inside.ensures.update.1 c.make.new.self) ∙ object_put c.self.inside.objects.entries c.self.inside.links.entries c.of-seat.result c.make.new.self) c.make.result c.make.ensures.entries)
    in
    search (rules, object_entries_along, entries)

pub returns-clause-err : goal.returns-clause-err
returns-clause-err c =
    let after = map_with_value c.in_ok-self-inside.field-0 c.make.new.self in
    let row : Option Held = unwrap_or (lookup (is_at (nat_cmp c.args.place.attr)) c.or_insert-shelf.result.now) None in
    let is = kept_is (all_shelves c.self.inside.objects.entries c.self.inside.links.entries) (object_place c.of-seat.result) _ _ _ c.or_insert-shelf.ensures.value (c.in_ok-self-inside.ensures.value ∙ sym (object_found c.self.inside.objects.entries c.self.inside.links.entries c.of-seat.result)) c.new.ensures in
    let same : OnErr c.make.result (entries_of (all_shelves after.entries c.self.inside.links.entries) ≡ c.args.self.now) =
    same_then _ c.self.invariant _ c.self.view_is c.args.place c.requires.proper _ (ap object_place c.of-seat.ensures ∙ object_seated c.args.place c.requires.link) _ is row c.make.new.self (all_shelves after.entries c.self.inside.links.entries) (ap (λ os. all_shelves os c.self.inside.links.entries) (c.in_ok-self-inside.ensures.update.1 c.make.new.self) ∙ object_put c.self.inside.objects.entries c.self.inside.links.entries c.of-seat.result c.make.new.self) c.make.result c.make.ensures.err
    in
    search (rules, object_same_along, same)
