use Rattle.std.proofs.Common.{◌≡◌, false, length, ◌∙◌}
use Rattle.adr_values.specs.Names.{is_wrong_byte}
use Rattle.adr_checks.proofs.Finds.{find-range_with_len_more}
use Rattle.adr_checks.proofs.names.first_wrong_byte.Goals as goal

pub loop-place-preserved : goal.loop-place-preserved
loop-place-preserved c =
    let bytes = c.args.bytes.now in
    let right : is_wrong_byte bytes c.loop-place.place ≡ false = cc in
    find-range_with_len_more (is_wrong_byte bytes) c.loop-place.place (length bytes) c.loop-place-test.true right ∙ c.loop-place.invariant
