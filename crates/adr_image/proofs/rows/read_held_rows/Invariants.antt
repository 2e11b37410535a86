use Rattle.std.proofs.Common.{◌≡◌, ◌-◌}
use Rattle.adr_wire.proofs.Loops.{with_front}
use Rattle.adr_wire.specs.Reading.{gathered_at}
use Rattle.adr_image.specs.Image.{local_at, held_row_at, with_held, no_rows}
use Rattle.adr_image.proofs.rows.read_held_rows.Given as goal

-- the rows so far, and those that are left to read
abbrev pub invariant-loop : goal.invariant-loop
invariant-loop l =
    with_front l.rows.items (gathered_at with_held (held_row_at (local_at l.usn) l.owner l.schema l.oid) (l.count - l.counter) l.before l.reader)
    ≡ gathered_at with_held (held_row_at (local_at l.usn) l.owner l.schema l.oid) l.count no_rows l.fn.reader
