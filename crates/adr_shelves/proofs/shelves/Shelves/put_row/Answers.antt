use Rattle.std.proofs.Common.{◌∙◌, ◌≡◌, None, Some, Option, [], rules, ap, sym, subst}
use Rattle.std.specs.Prelude.{IfOk, OnErr, OnOk, is_some}
use Rattle.std.specs.Option.{unwrap_or}
use Rattle.std.specs.Map.{lookup}
use Rattle.std.specs.BTreeMap.{insert_entry, is_at}
use Rattle.std.specs.BTreeMap.Entry.{map_with_value}
use Rattle.adr_model.specs.Store.{Held}
use Rattle.adr_shelves.specs.Place.{place_order}
use Rattle.adr_shelves.specs.Shelves.{AreShelves, entries_of, flat}
use Rattle.adr_shelves.proofs.Shelved.{Kept}
use Rattle.adr_shelves.proofs.ShelvedWrites.{entries_then, found, kept_is, on_err, rises, same_then, shelves_then}
use Rattle.adr_shelves.proofs.ShelvedTrees.{objects_along, object_entries_along, object_same_along, object_found, object_put, object_seated}
use Rattle.adr_shelves.specs.Place.{object_place}
use Rattle.adr_shelves.specs.Shelves.{all_shelves}
use Rattle.adr_shelves.proofs.shelves.Shelves.put_row.Goals as goal

pub returns-in_err-self-inside-clause-room : goal.returns-in_err-self-inside-clause-room
returns-in_err-self-inside-clause-room c =
    on_err c.from_residual.result (lookup (is_at (place_order c.args.place)) c.args.self.now ≡ None)
    (found _ c.self.invariant _ c.self.view_is c.args.place c.requires.proper _ (ap object_place c.of-seat.ensures ∙ object_seated c.args.place c.requires.link) [] (sym (ap (λ (o : Option Kept). unwrap_or o []) (object_found c.self.inside.objects.entries c.self.inside.links.entries c.of-seat.result ∙ c.in_err-self-inside.ensures.absent))))

pub put-requires : goal.put-requires
put-requires c =
    let is = kept_is (all_shelves c.self.inside.objects.entries c.self.inside.links.entries) (object_place c.of-seat.result) _ _ _ c.or_insert-shelf.ensures.value (c.in_ok-self-inside.ensures.value ∙ sym (object_found c.self.inside.objects.entries c.self.inside.links.entries c.of-seat.result)) c.new.ensures in
    rises _ c.self.invariant _ c.self.view_is c.args.place c.requires.proper _ (ap object_place c.of-seat.ensures ∙ object_seated c.args.place c.requires.link) _ is

pub invariant_of-self-2 : goal.invariant_of-self-2
invariant_of-self-2 c =
    let after = map_with_value c.in_ok-self-inside.field-0 c.put.new.self in
    let is = kept_is (all_shelves c.self.inside.objects.entries c.self.inside.links.entries) (object_place c.of-seat.result) _ _ _ c.or_insert-shelf.ensures.value (c.in_ok-self-inside.ensures.value ∙ sym (object_found c.self.inside.objects.entries c.self.inside.links.entries c.of-seat.result)) c.new.ensures in
    let are : AreShelves (all_shelves after.entries c.self.inside.links.entries) =
    shelves_then _ c.self.invariant _ c.self.view_is c.args.place c.requires.proper _ (ap object_place c.of-seat.ensures ∙ object_seated c.args.place c.requires.link) _ is
    (Some c.args.row) c.put.new.self (all_shelves after.entries c.self.inside.links.entries) (ap (λ os. all_shelves os c.self.inside.links.entries) (c.in_ok-self-inside.ensures.update.1 c.put.new.self) ∙ object_put c.self.inside.objects.entries c.self.inside.links.entries c.of-seat.result c.put.new.self) c.put.result c.put.ensures.entries c.put.ensures.err
    in
    search (rules, objects_along, are)

pub returns-clause-was : goal.returns-clause-was
returns-clause-was c =
    let is = kept_is (all_shelves c.self.inside.objects.entries c.self.inside.links.entries) (object_place c.of-seat.result) _ _ _ c.or_insert-shelf.ensures.value (c.in_ok-self-inside.ensures.value ∙ sym (object_found c.self.inside.objects.entries c.self.inside.links.entries c.of-seat.result)) c.new.ensures in
    subst (λ (o : Option (Option Held)). IfOk c.put.result (λ was. was ≡ is_some (flat o)))
    (sym (found _ c.self.invariant _ c.self.view_is c.args.place c.requires.proper _ (ap object_place c.of-seat.ensures ∙ object_seated c.args.place c.requires.link) _ is))
    c.put.ensures.was

pub returns-clause-entries : goal.returns-clause-entries
returns-clause-entries c =
    let after = map_with_value c.in_ok-self-inside.field-0 c.put.new.self in
    let is = kept_is (all_shelves c.self.inside.objects.entries c.self.inside.links.entries) (object_place c.of-seat.result) _ _ _ c.or_insert-shelf.ensures.value (c.in_ok-self-inside.ensures.value ∙ sym (object_found c.self.inside.objects.entries c.self.inside.links.entries c.of-seat.result)) c.new.ensures in
    let entries : OnOk c.put.result (entries_of (all_shelves after.entries c.self.inside.links.entries) ≡ insert_entry place_order c.args.self.now c.args.place (Some c.args.row)) =
    entries_then _ c.self.invariant _ c.self.view_is c.args.place c.requires.proper _ (ap object_place c.of-seat.ensures ∙ object_seated c.args.place c.requires.link) _ is (Some c.args.row) c.put.new.self (all_shelves after.entries c.self.inside.links.entries) (ap (λ os. all_shelves os c.self.inside.links.entries) (c.in_ok-self-inside.ensures.update.1 c.put.new.self) ∙ object_put c.self.inside.objects.entries c.self.inside.links.entries c.of-seat.result c.put.new.self) c.put.result c.put.ensures.entries
    in
    search (rules, object_entries_along, entries)

pub returns-clause-err : goal.returns-clause-err
returns-clause-err c =
    let after = map_with_value c.in_ok-self-inside.field-0 c.put.new.self in
    let is = kept_is (all_shelves c.self.inside.objects.entries c.self.inside.links.entries) (object_place c.of-seat.result) _ _ _ c.or_insert-shelf.ensures.value (c.in_ok-self-inside.ensures.value ∙ sym (object_found c.self.inside.objects.entries c.self.inside.links.entries c.of-seat.result)) c.new.ensures in
    let same : OnErr c.put.result (entries_of (all_shelves after.entries c.self.inside.links.entries) ≡ c.args.self.now) =
    same_then _ c.self.invariant _ c.self.view_is c.args.place c.requires.proper _ (ap object_place c.of-seat.ensures ∙ object_seated c.args.place c.requires.link) _ is (Some c.args.row) c.put.new.self (all_shelves after.entries c.self.inside.links.entries) (ap (λ os. all_shelves os c.self.inside.links.entries) (c.in_ok-self-inside.ensures.update.1 c.put.new.self) ∙ object_put c.self.inside.objects.entries c.self.inside.links.entries c.of-seat.result c.put.new.self) c.put.result c.put.ensures.err
    in
    search (rules, object_same_along, same)

pub returns-clause-room : goal.returns-clause-room
returns-clause-room c =
    let is = kept_is (all_shelves c.self.inside.objects.entries c.self.inside.links.entries) (object_place c.of-seat.result) _ _ _ c.or_insert-shelf.ensures.value (c.in_ok-self-inside.ensures.value ∙ sym (object_found c.self.inside.objects.entries c.self.inside.links.entries c.of-seat.result)) c.new.ensures in
    subst (λ (o : Option (Option Held)). OnErr c.put.result (o ≡ None))
    (sym (found _ c.self.invariant _ c.self.view_is c.args.place c.requires.proper _ (ap object_place c.of-seat.ensures ∙ object_seated c.args.place c.requires.link) _ is))
    c.put.ensures.room
