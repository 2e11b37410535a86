use Rattle.std.proofs.Common.{ap, sym, ◌∙◌, ◌≡◌, ◌↔◌, Bool, [], false, fold, refl, rules, true}
use Rattle.std.specs.Prelude.{IsTrue}
use Rattle.std.specs.BTreeMap.Entry.{map_with_value}
use Rattle.adr_shelves.specs.Place.{is_of_unit, rows_start}
use Rattle.adr_shelves.specs.Shelves.{with_slot}
use Rattle.adr_shelves.proofs.ShelvedMade.{have_made, have_same, none_told}
use Rattle.adr_shelves.proofs.ShelvedParts.{passing}
use Rattle.adr_shelves.proofs.ShelvedWrites.{HaveNow, kept_at, kept_is}
use Rattle.adr_shelves.proofs.shelves.Shelves.make_object.Goals as goal
use Rattle.adr_shelves.proofs.ShelvedTrees.{objects_along, object_view_along, object_found, object_put}
use Rattle.adr_shelves.specs.Place.{object_place}
use Rattle.adr_shelves.specs.Shelves.{all_shelves}
use Rattle.adr_shelves.proofs.shelves.Shelves.make_object.Goals.{After-is_empty}

kept : (c : After-is_empty) → c.or_insert-shelf.result.now ≡ kept_at (all_shelves c.self.inside.objects.entries c.self.inside.links.entries) (object_place c.of_object-seat.result)
kept c = kept_is (all_shelves c.self.inside.objects.entries c.self.inside.links.entries) (object_place c.of_object-seat.result) _ _ _ c.or_insert-shelf.ensures.value (c.in_ok-self-inside.ensures.value ∙ sym (object_found c.self.inside.objects.entries c.self.inside.links.entries c.of_object-seat.result)) c.new.ensures

told : (c : After-is_empty) (b : Bool) → (IsTrue b ↔ (c.or_insert-shelf.result.now ≡ [])) → IsTrue b ↔ (passing (is_of_unit (rows_start c.args.object.now)) c.args.self.now ≡ [])
told c = none_told _ c.self.invariant _ c.self.view_is c.args.object.now _ (ap object_place c.of_object-seat.ensures) _ (kept c)

same : (c : After-is_empty) → HaveNow (all_shelves (map_with_value c.in_ok-self-inside.field-0 c.or_insert-shelf.result.now).entries c.self.inside.links.entries) c.args.self.now
same c =
    have_same _ c.self.invariant _ c.self.view_is c.args.object.now _ (ap object_place c.of_object-seat.ensures) _ (kept c) _ (ap (λ os. all_shelves os c.self.inside.links.entries) (c.in_ok-self-inside.ensures.update.1 c.or_insert-shelf.result.now) ∙ object_put c.self.inside.objects.entries c.self.inside.links.entries c.of_object-seat.result c.or_insert-shelf.result.now)

made : (c : goal.After-drop-shelf) → c.or_insert-shelf.result.now ≡ kept_at (all_shelves c.self.inside.objects.entries c.self.inside.links.entries) (object_place c.of_object-seat.result)
    → HaveNow (all_shelves (map_with_value c.in_ok-self-inside.field-0 c.in_ok-shelf.field-0).entries c.self.inside.links.entries) (fold with_slot c.args.self.now c.args.rows.now)
made c is =
    have_made _ c.self.invariant _ c.self.view_is c.args.object.now _ (ap object_place c.of_object-seat.ensures) _ is _ _ (ap (λ os. all_shelves os c.self.inside.links.entries) (c.in_ok-self-inside.ensures.update.1 c.in_ok-shelf.field-0) ∙ object_put c.self.inside.objects.entries c.self.inside.links.entries c.of_object-seat.result c.in_ok-shelf.field-0)
    c.args.rows.now c.requires (c.if-not-is_empty.ensures.0 refl) c.in_ok-shelf.ensures

pub invariant_of-self-then-not-is_empty : goal.invariant_of-self-then-not-is_empty
invariant_of-self-then-not-is_empty c =
    let have = same (goal.at.invariant_of-self-then-not-is_empty c).After-is_empty in
    search (rules, objects_along, have.are)

pub returns-then-not-is_empty-clause-told : goal.returns-then-not-is_empty-clause-told
returns-then-not-is_empty-clause-told c = told (goal.at.returns-then-not-is_empty-clause-told c).After-is_empty false c.if-not-is_empty.ensures

pub returns-then-not-is_empty-clause-same : goal.returns-then-not-is_empty-clause-same
returns-then-not-is_empty-clause-same c =
    let have = same (goal.at.returns-then-not-is_empty-clause-same c).After-is_empty in
    λ no. search (rules, object_view_along, have.entries)

pub invariant_of-self-in_err-shelf : goal.invariant_of-self-in_err-shelf
invariant_of-self-in_err-shelf c =
    let have = same (goal.at.invariant_of-self-in_err-shelf c).After-is_empty in
    search (rules, objects_along, have.are)

pub returns-in_err-shelf-clause-err : goal.returns-in_err-shelf-clause-err
returns-in_err-shelf-clause-err c =
    let have = same (goal.at.returns-in_err-shelf-clause-err c).After-is_empty in
    search (rules, object_view_along, have.entries)

pub invariant_of-self-2 : goal.invariant_of-self-2
invariant_of-self-2 c =
    let have = made c (kept (goal.at.invariant_of-self-2 c).After-is_empty) in
    search (rules, objects_along, have.are)

pub returns-clause-told : goal.returns-clause-told
returns-clause-told c = told (goal.at.returns-clause-told c).After-is_empty true c.if-not-is_empty.ensures

pub returns-clause-made : goal.returns-clause-made
returns-clause-made c =
    let have = made c (kept (goal.at.returns-clause-made c).After-is_empty) in
    λ yes. search (rules, object_view_along, have.entries)
