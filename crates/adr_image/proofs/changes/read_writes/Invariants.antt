use Rattle.std.proofs.Common.{Some}
use Rattle.adr_image.specs.Body.{write_above, writes_at}
use Rattle.adr_image.proofs.Keeping.{IsAmid}
use Rattle.adr_image.proofs.Changing.{KeepsWrites, next_local}
use Rattle.adr_image.proofs.changes.read_writes.Given as goal

-- the writes so far, and those that are left to read
abbrev pub invariant-loop : goal.invariant-loop
invariant-loop l =
    IsAmid next_local write_above (Some l.before) (KeepsWrites l.before) l.count (writes_at l.before l.fn.reader) l.counter (l.writes.items, l.last) l.reader
