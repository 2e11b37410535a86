use Rattle.std.proofs.Common.{◌≡◌, ◌∙◌, refl, sym, ap, arith, true}
use Rattle.std.specs.BTreeMap.Range.{is_from_start}
use Rattle.std.specs.declared.ops.Bound.TheVariants.{Excluded}
use Rattle.adr_shelves.specs.Place.{place_order, is_in_run}
use Rattle.adr_shelves.specs.Shelves.{flat}
use Rattle.adr_table.specs.Slots.{row_at}
use Rattle.adr_table.proofs.Runs.{run_behind, begun, stopped, passed, stepped, onward, count_same, fewer_by_one, from_told, from_tested, not_behind_itself}
use Rattle.adr_table.proofs.slots.Slots.empty_run.Goals as goal

pub loop-place-init : goal.loop-place-init
loop-place-init c = (
  c.requires.tidy,
  refl,
  (λ q. begun (is_in_run c.args.start q) c.args.start q (run_behind c.args.start c.requires.start q) (row_at c.args.self.now q)),
  (λ q h. h),
)

pub returns-then-not-begins_run_of-clause-rows : goal.returns-then-not-begins_run_of-clause-rows
returns-then-not-begins_run_of-clause-rows c =
    stopped c.args.start c.loop-place.from c.loop-place.self (row_at c.args.self.now) c.loop-place.invariant.2
    (passed c.args.start c.loop-place.from c.loop-place.self (row_at c.args.self.now) c.loop-place.invariant.2 c.in-Some.place
    (sym c.begins_run_of.ensures ∙ c.if-not-begins_run_of.true) (c.loop-place.invariant.3 c.in-Some.place c.in-Some.ensures.from) c.in-Some.ensures.first)

pub returns-clause-rows : goal.returns-clause-rows
returns-clause-rows c =
    stopped c.args.start c.loop-place.from c.loop-place.self (row_at c.args.self.now) c.loop-place.invariant.2
    (λ q r f. ap flat (c.in_default.ensures.none q (from_told c.loop-place.from q f)))

pub loop-place-preserved : goal.loop-place-preserved
loop-place-preserved c =
    let within : is_in_run c.args.start c.in-Some.place ≡ true = sym c.begins_run_of.ensures ∙ c.if-not-begins_run_of.false in (
      c.empty.ensures.tidy,
      c.empty.ensures.places ∙ c.loop-place.invariant.1,
      (λ q. stepped c.args.start c.loop-place.from c.loop-place.self (row_at c.args.self.now) c.loop-place.invariant.2 c.in-Some.place within c.in-Some.ensures.from c.in-Some.ensures.first
          (row_at c.empty.new.self q) q (c.empty.ensures.rows q)),
      (λ q behind. c.loop-place.invariant.3 q (onward c.loop-place.from c.in-Some.place q c.in-Some.ensures.from behind)),
    )

pub loop-place-smaller : goal.loop-place-smaller
loop-place-smaller c =
    let less = fewer_by_one (is_from_start place_order (Excluded c.in-Some.place)) (is_from_start place_order c.loop-place.from) c.in-Some.place
    (not_behind_itself c.in-Some.place) (from_tested c.loop-place.from c.in-Some.place c.in-Some.ensures.from)
    (λ q t. from_tested c.loop-place.from q (onward c.loop-place.from c.in-Some.place q c.in-Some.ensures.from (from_told (Excluded c.in-Some.place) q t)))
    c.loop-place.self.map c.in-Some.ensures.there in
    let same = count_same (is_from_start place_order (Excluded c.in-Some.place)) c.empty.new.self.map c.loop-place.self.map c.empty.ensures.places in
    omega (arith, less, same)
