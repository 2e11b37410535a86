use Rattle.std.proofs.Common.{ap, arith}
use Rattle.adr_values.specs.Vector.{joined}
use Rattle.adr_values.proofs.Joining.{rising-joined, from_one-joined}
use Rattle.adr_overlay.specs.Cursors.{new_at}
use Rattle.adr_overlay.proofs.Lengths.{raised_length}
use Rattle.adr_overlay.proofs.cursors.len_of_both.Goals as goal

pub returns : goal.returns
returns c =
    let v = c.is_vector.ensures in
    let both = joined c.args.vector.now c.args.other.now in
    omega (
      arith,
      c.len_joined.ensures.both,
      c.new_at.ensures,
      ap (λ n. new_at n c.args.usn) c.seen_by_both.ensures,
      raised_length both c.args.inv c.args.usn (rising-joined c.args.other.now c.args.vector.now v.rising) (from_one-joined c.args.other.now c.args.vector.now v.from_one),
    )
