use Rattle.std.proofs.Common.{List, ℕ, ap, arith, length}
use Rattle.std.proofs.lemmas.List.{length-append}
use Rattle.adr_model.specs.Lengths.{area_version}
use Rattle.adr_records.specs.Head.{sized}
use Rattle.adr_records.specs.HeadLaws.{sized_long}
use Rattle.adr_records.proofs.head.write_area.Goals as goal

pub returns-clause-long : goal.returns-clause-long
returns-clause-long c =
    let image = c.deref.result.now in
    let is = ap (λ (l : List ℕ). length l) c.in_ok-area_of.ensures in
    let here = ap (λ (l : List ℕ). length l) c.deref.ensures.value in
    omega (arith, is, here, length-append (sized (area_version, length image)) image, sized_long (area_version, length image), c.in_ok-image.ensures.long)
