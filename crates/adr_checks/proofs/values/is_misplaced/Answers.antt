use Rattle.std.proofs.Common.{◌≡◌, Some, true, false, length, refl, sym, ◌∙◌}
use Rattle.std.specs.List.{slice_get}
use Rattle.std.proofs.lemmas.Option.{slice_get_read}
use Rattle.adr_values.specs.Values.{fits}
use Rattle.adr_checks.proofs.values.is_misplaced.Goals as goal

pub returns-then-not-fits : goal.returns-then-not-fits
returns-then-not-fits c =
    let value = c.index-values-place.result in
    let there = slice_get_read c.args.values.now (length c.args.values.now) c.args.place value refl c.requires c.index-values-place.is in
    let unfit : fits c.args.syntax value ≡ false = sym c.fits.ensures ∙ c.if-not-fits.true in
    rw (there, c.if-not-fits.true, unfit) refl

pub returns-else-not-fits : goal.returns-else-not-fits
returns-else-not-fits c =
    let there = slice_get_read c.args.values.now (length c.args.values.now) c.args.place c.index-values-place.result refl c.requires c.index-values-place.is in
    rw (there, sym c.fits.ensures ∙ c.if-not-fits.false) c.is_among.ensures
