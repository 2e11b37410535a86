use Rattle.std.proofs.Common.{◌≡◌, ◌-◌, None}
use Rattle.adr_wire.specs.Composites.{cursor_above}
use Rattle.adr_wire.specs.Reading.{elements_at}
use Rattle.adr_wire.proofs.Loops.{with_front}
use Rattle.adr_wire.proofs.reader.Reader.read_cursors.Given as goal

-- the cursors so far, and those that are left to read
abbrev pub invariant-loop : goal.invariant-loop
invariant-loop l = with_front l.cursors.items (elements_at (λ c. c.0) cursor_above (l.count - l.counter) l.last l.self) ≡ elements_at (λ c. c.0) cursor_above l.count None l.fn.self
