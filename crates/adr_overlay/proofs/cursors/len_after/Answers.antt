use Rattle.std.proofs.Common.{length, ap, arith}
use Rattle.adr_values.specs.Vector.{Cursors}
use Rattle.adr_overlay.specs.Cursors.{new_at}
use Rattle.adr_overlay.proofs.Lengths.{raised_length}
use Rattle.adr_overlay.proofs.cursors.len_after.Goals as goal

pub returns-in-Some : goal.returns-in-Some
returns-in-Some c = rw c.in-Some.is c.len_of_both.ensures

pub returns-in-None : goal.returns-in-None
returns-in-None c =
    let v = c.cursors.ensures.vector in
    rw c.in-None.is
    (omega (
      arith,
      ap (λ (xs : Cursors). length xs) c.cursors.ensures.all,
      c.new_at.ensures,
      ap (λ n. new_at n c.args.usn) c.at.ensures,
      raised_length c.args.vector.now c.args.inv c.args.usn v.rising v.from_one,
    ))
