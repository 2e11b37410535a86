use Rattle.std.proofs.Common.{◌≡◌, ℕ, ◌<◌, ◌∷◌, List, false, nat_eq, ◌&&◌, not, length, refl, ap, ◌∙◌, arith}
use Rattle.std.specs.Prelude.{is_some}
use Rattle.std.proofs.lemmas.Bool.Decides.{nat_tests}
use Rattle.std.specs.Map.{lookup}
use Rattle.std.specs.BTreeMap.{is_at}
use Rattle.std.specs.Ordering.{nat_cmp}
use Rattle.adr_model.specs.Store.{Held}
use Rattle.adr_shelves.specs.Place.{place_of}
use Rattle.adr_shelves.proofs.ShelvedFilled.{all_behind, all_came, all_entries, came_before, comes_not, comes_now, filled_more, next_there}
use Rattle.adr_shelves.proofs.shelf.Shelf.fill.Goals as goal

pub loop-row-init : goal.loop-row-init
loop-row-init c = record { rising = c.requires.rising; there = c.requires.there; rest = refl; entries = refl; comes = refl }

pub write-was-requires-clause-rising : goal.write-was-requires-clause-rising
write-was-requires-clause-rising c = c.loop-row.invariant.rising

attr_is : (c : goal.After-write-arg-1) → c.attr_of-attr.result ≡ (place_of c.in-Some.row.update.key).attr
attr_is c = c.attr_of-attr.ensures ∙ ap (λ k. (place_of k).attr) c.key.ensures

pub write-was-requires-clause-there : goal.write-was-requires-clause-there
write-was-requires-clause-there c =
    ap (λ a. is_some (lookup (is_at (nat_cmp a)) c.loop-row.self)) (attr_is c)
    ∙ next_there c.args.object.now c.args.self.now c.args.rows.now.items c.loop-row.self c.loop-row.rows.items c.loop-row.came c.loop-row.invariant
    c.in-Some.row c.next_life.new.rows.items c.in-Some.ensures.some.0 c.in-Some.ensures.some.1

fewer : (rows later : List Held) (h : Held) → rows ≡ h ∷ later → length later < length rows
fewer rows later h is = let longer : length rows ≡ length (h ∷ later) = ap length is in omega (arith, longer)

pub loop-row-smaller-then-came : goal.loop-row-smaller-then-came
loop-row-smaller-then-came c = fewer c.loop-row.rows.items c.next_life.new.rows.items c.in-Some.row c.in-Some.ensures.some.0

pub loop-row-smaller-then-attr-eq-CLASS : goal.loop-row-smaller-then-attr-eq-CLASS
loop-row-smaller-then-attr-eq-CLASS c = fewer c.loop-row.rows.items c.next_life.new.rows.items c.in-Some.row c.in-Some.ensures.some.0

pub loop-row-smaller : goal.loop-row-smaller
loop-row-smaller c = fewer c.loop-row.rows.items c.next_life.new.rows.items c.in-Some.row c.in-Some.ensures.some.0

pub loop-row-preserved-then-came : goal.loop-row-preserved-then-came
loop-row-preserved-then-came c =
    filled_more c.args.object.now c.args.self.now c.args.rows.now.items c.loop-row.self c.loop-row.rows.items c.loop-row.came c.loop-row.invariant
    c.in-Some.row c.next_life.new.rows.items c.in-Some.ensures.some.0 c.in-Some.ensures.some.1
    c.attr_of-attr.result (c.attr_of-attr.ensures ∙ ap (λ k. (place_of k).attr) c.key.ensures) c.write-was.new.self c.write-was.ensures.entries c.write-was.result c.write-was.ensures.was
    c.loop-row.came (came_before c.loop-row.came (nat_eq c.attr_of-attr.result 1 && not c.write-was.result) c.if-came.true)

pub loop-row-preserved-then-attr-eq-CLASS : goal.loop-row-preserved-then-attr-eq-CLASS
loop-row-preserved-then-attr-eq-CLASS c =
    filled_more c.args.object.now c.args.self.now c.args.rows.now.items c.loop-row.self c.loop-row.rows.items c.loop-row.came c.loop-row.invariant
    c.in-Some.row c.next_life.new.rows.items c.in-Some.ensures.some.0 c.in-Some.ensures.some.1
    c.attr_of-attr.result (c.attr_of-attr.ensures ∙ ap (λ k. (place_of k).attr) c.key.ensures) c.write-was.new.self c.write-was.ensures.entries c.write-was.result c.write-was.ensures.was
    (not c.write-was.result) (comes_now c.loop-row.came (nat_eq c.attr_of-attr.result 1) (not c.write-was.result) c.if-came.false (ap (λ n. nat_eq n 1) c.if-attr-eq-CLASS.true))

not_class : (a : ℕ) → (a ≡ 1 → ⊥) → nat_eq a 1 ≡ false
not_class a other = grind (arith, nat_tests)

pub loop-row-preserved : goal.loop-row-preserved
loop-row-preserved c =
    filled_more c.args.object.now c.args.self.now c.args.rows.now.items c.loop-row.self c.loop-row.rows.items c.loop-row.came c.loop-row.invariant
    c.in-Some.row c.next_life.new.rows.items c.in-Some.ensures.some.0 c.in-Some.ensures.some.1
    c.attr_of-attr.result (c.attr_of-attr.ensures ∙ ap (λ k. (place_of k).attr) c.key.ensures) c.write-was.new.self c.write-was.ensures.entries c.write-was.result c.write-was.ensures.was
    (nat_eq c.attr_of-attr.result 1) (comes_not c.loop-row.came (nat_eq c.attr_of-attr.result 1) (not c.write-was.result) c.if-came.false (not_class c.attr_of-attr.result c.if-attr-eq-CLASS.false))

pub returns-clause-rest : goal.returns-clause-rest
returns-clause-rest c =
    all_behind c.args.object.now c.args.self.now c.args.rows.now.items c.loop-row.self c.loop-row.rows.items c.loop-row.came c.loop-row.invariant c.in_default.ensures.none.1
    c.next_life.new.rows.items c.in_default.ensures.none.0

pub returns-clause-entries : goal.returns-clause-entries
returns-clause-entries c =
    all_entries c.args.object.now c.args.self.now c.args.rows.now.items c.loop-row.self c.loop-row.rows.items c.loop-row.came c.loop-row.invariant c.in_default.ensures.none.1

pub returns-clause-came : goal.returns-clause-came
returns-clause-came c =
    all_came c.args.object.now c.args.self.now c.args.rows.now.items c.loop-row.self c.loop-row.rows.items c.loop-row.came c.loop-row.invariant c.in_default.ensures.none.1
