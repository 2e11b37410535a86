use Rattle.std.proofs.Common.{◌≡◌, ◌≤◌, ◌-◌, ℕ, List, [], ◌∷◌, Bool, length, sym, ◌∙◌, ap, subst, arith}
use Rattle.adr_disk.specs.Disk.{put}
use Rattle.adr_wire.specs.Fields.{u64}
use Rattle.adr_law_journal.specs.Log.{open_gate}
use Rattle.adr_law_journal.specs.Areas.{selector_place, slot_place}
use Rattle.adr_law_journal.specs.Commits.{selector_of}
use Rattle.adr_law_journal.specs.Kept.{IsSettled}
use Rattle.adr_law_journal.specs.Recording.{log_behind}
use Rattle.adr_journal.proofs.Commits.{none_there, some_there}
use Rattle.adr_test_plain.specs.Kept.{told_as, StaysAs}
use Rattle.adr_test_plain.proofs.InMemory.{record_near, recorded_alone, area_near, then_near, recorded_behind}
use Rattle.adr_test_plain.proofs.put_commit.Goals as goal

abbrev laid : List ℕ → ℕ → Bool → List ℕ → List ℕ
laid old place second area = put (put (put old place area) (slot_place second) (u64 place)) selector_place (selector_of second ∷ [])

abbrev opened : List ℕ → ℕ → List ℕ → List ℕ
opened old end written = put (put old end written) (end - 1) (open_gate ∷ [])

pub put_record-requires-clause-within : goal.put_record-requires-clause-within
put_record-requires-clause-within c =
    let r = c.requires.takes in
    let written = c.args.written.now in
    let none = none_there c.args.area.now (sym c.is_empty.ensures ∙ c.if-is_empty.true) in
    subst (λ (n : ℕ). n - length written ≤ length c.args.bytes.now.items) (sym c.end.ensures)
    (record_near r.0 r.1 r.2 c.args.bytes.now.items c.args.area.now c.args.next (c.args.next.log_end - length written) written r.3 r.4 r.5 r.6 none)

pub returns-then-is_empty : goal.returns-then-is_empty
returns-then-is_empty c = λ l s t log mid body both.
    let old = c.args.bytes.now.items in
    let written = c.args.written.now in
    let none = none_there c.args.area.now (sym c.is_empty.ensures ∙ c.if-is_empty.true) in
    let some = c.requires.begun in
    let is : c.put_record.new.bytes.items ≡ opened old (c.args.next.log_end - length written) written = c.put_record.ensures ∙ ap (λ (n : ℕ). opened old (n - length written) written) c.end.ensures in
    subst (λ (y : List ℕ). IsSettled l told_as StaysAs y t (log_behind mid body)) (sym is)
    (recorded_alone l s t old c.args.area.now c.args.next (c.args.next.log_end - length written) written log mid body both (omega (arith, some)) none)

pub put_area-requires-clause-within : goal.put_area-requires-clause-within
put_area-requires-clause-within c =
    let r = c.requires.takes in
    let written = c.args.written.now in
    let some = some_there c.args.area.now (sym c.is_empty.ensures ∙ c.if-is_empty.false) in
    omega (arith, (area_near r.0 r.1 r.2 c.args.bytes.now.items c.args.area.now c.args.next (c.args.next.log_end - length written) written r.3 r.4 r.5 r.6 some).0, c.place.ensures)

pub put_area-requires-clause-slots : goal.put_area-requires-clause-slots
put_area-requires-clause-slots c =
    let r = c.requires.takes in
    let written = c.args.written.now in
    let some = some_there c.args.area.now (sym c.is_empty.ensures ∙ c.if-is_empty.false) in
    (area_near r.0 r.1 r.2 c.args.bytes.now.items c.args.area.now c.args.next (c.args.next.log_end - length written) written r.3 r.4 r.5 r.6 some).1

-- the area stands there
area_is : (old area new : List ℕ) (place at : ℕ) (second is : Bool) → new ≡ laid old place second area → place ≡ at → second ≡ is → new ≡ laid old at is area
area_is old area new place at second is new_is place_is second_is = new_is ∙ (λ i. laid old (place_is i) (second_is i) area)

pub put_record-requires-2-clause-within : goal.put_record-requires-2-clause-within
put_record-requires-2-clause-within c =
    let r = c.requires.takes in
    let written = c.args.written.now in
    let some = some_there c.args.area.now (sym c.is_empty.ensures ∙ c.if-is_empty.false) in
    let near = then_near r.0 r.1 r.2 c.args.bytes.now.items c.args.area.now c.args.next (c.args.next.log_end - length written) written r.3 r.4 r.5 r.6 some in
    subst (λ (n : ℕ). n - length written ≤ length c.put_area.new.bytes.items) (sym c.end.ensures)
    (subst (λ (y : List ℕ). c.args.next.log_end - length written ≤ length y) (sym (area_is c.args.bytes.now.items c.args.area.now c.put_area.new.bytes.items c.place.result c.args.next.place c.second.result c.args.next.second c.put_area.ensures.items c.place.ensures c.second.ensures)) near)

pub returns : goal.returns
returns c = λ l s t log mid body both.
    let old = c.args.bytes.now.items in
    let written = c.args.written.now in
    let area = c.args.area.now in
    let e = c.args.next.log_end - length written in
    let some = some_there area (sym c.is_empty.ensures ∙ c.if-is_empty.false) in
    let begun = c.requires.begun in
    let is : c.put_record-2.new.bytes.items ≡ opened (laid old c.args.next.place c.args.next.second area) e written =
    c.put_record-2.ensures ∙ ap (λ (n : ℕ). opened c.put_area.new.bytes.items (n - length written) written) c.end.ensures ∙ ap (λ (y : List ℕ). opened y e written) (area_is c.args.bytes.now.items c.args.area.now c.put_area.new.bytes.items c.place.result c.args.next.place c.second.result c.args.next.second c.put_area.ensures.items c.place.ensures c.second.ensures) in
    subst (λ (y : List ℕ). IsSettled l told_as StaysAs y t (log_behind mid body)) (sym is)
    (recorded_behind l s t old area c.args.next e written log mid body both some (omega (arith, begun)))
