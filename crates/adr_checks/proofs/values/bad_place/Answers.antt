use Rattle.std.proofs.Common.{◌≡◌, ℕ, ◌<◌, length, take, Bool, false, ◌||◌, nat_le, ◌∙◌, arith}
use Rattle.std.specs.List.{slice_get}
use Rattle.std.proofs.lemmas.Bool.Decides.{nat_tests}
use Rattle.adr_values.specs.Values.{is_bad_at, is_misplaced}
use Rattle.adr_checks.proofs.Finds.{find-range_with_len_more}
use Rattle.adr_checks.proofs.values.bad_place.Goals as goal

-- a place below the limit whose value stands well is not bad
well_placed : (most place : ℕ) (misplaced : Bool) → place < most → misplaced ≡ false → (nat_le most place || misplaced) ≡ false
well_placed most place misplaced below well = grind (arith, nat_tests)

pub loop-place-preserved : goal.loop-place-preserved
loop-place-preserved c =
    let values = c.args.values.now in
    let place = c.loop-place.place in
    let below : place < c.args.most = omega arith in
    let well : is_misplaced c.args.syntax (take place values) (slice_get values place) ≡ false = cc in
    let good : is_bad_at c.args.syntax c.args.most values place ≡ false = well_placed c.args.most place (is_misplaced c.args.syntax (take place values) (slice_get values place)) below well in (
      find-range_with_len_more (is_bad_at c.args.syntax c.args.most values) place (length values) c.loop-place-test.true good ∙ c.loop-place.invariant.0,
      omega arith,
    )
