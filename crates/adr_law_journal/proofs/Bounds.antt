-- How long a file of a log becomes.
use Rattle.std.proofs.Common.{inr, ⊎_elim, arith}
use Rattle.adr_law_journal.specs.Bound.{RecordsStay, AreasStay, FilesStay}

pub records_stay : RecordsStay
records_stay file image longest n l is undue = record {
  starts = is.starts;
  ends = omega (arith, is.ends);
  images = is.images;
  area = ⊎_elim
      (λ first. inr (omega (arith, first, is.ends, is.starts, is.images)))
      (λ more. inr (omega (arith, more, is.ends, is.starts, is.images))) undue;
  low = omega (arith, is.low);
}

pub areas_stay : AreasStay
areas_stay file image longest n place l m is placed at first ends = record {
  starts = omega (arith, at, first);
  ends = omega (arith, first, ends);
  images = omega (arith, at, first);
  area = inr (omega (arith, at, ends));
  low = ⊎_elim (λ before. omega (arith, at, before.0)) (λ behind. ⊎_elim (λ within. omega (arith, at, behind.0, within)) (λ long. omega (arith, at, behind.0, behind.1, long)) is.area) placed;
}

pub files_stay : FilesStay
files_stay file image longest l is = ⊎_elim (λ within. omega (arith, within)) (λ long. omega (arith, long, is.low)) is.area
