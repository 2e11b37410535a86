use Rattle.std.proofs.Common.{◌≡◌, ◌-◌, None}
use Rattle.adr_wire.specs.Composites.{oid_at}
use Rattle.adr_wire.specs.Reading.{elements_at}
use Rattle.adr_wire.proofs.Loops.{with_front}
use Rattle.adr_image.specs.Body.{one_name, removed_at}
use Rattle.adr_image.proofs.changes.read_removed.Given as goal

-- the objects so far, and those that are left to read
abbrev pub invariant-loop : goal.invariant-loop
invariant-loop l = with_front l.removed.items (elements_at one_name (λ _. oid_at) (l.count - l.counter) None l.reader) ≡ removed_at l.fn.reader
