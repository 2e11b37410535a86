use Rattle.std.proofs.Common.{◌≡◌, ◌-◌, None}
use Rattle.adr_wire.specs.Reading.{elements_at}
use Rattle.adr_wire.proofs.Loops.{with_front}
use Rattle.adr_wire.specs.Timed.{dated_above}
use Rattle.adr_wire.proofs.reader.Reader.read_dated.Given as goal

-- those so far, and those that are left to read
abbrev pub invariant-loop : goal.invariant-loop
invariant-loop l = with_front l.all.items (elements_at (λ d. d.0.0) dated_above (l.count - l.counter) l.last l.self) ≡ elements_at (λ d. d.0.0) dated_above l.count None l.fn.self
