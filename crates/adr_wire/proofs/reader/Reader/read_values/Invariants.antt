use Rattle.std.proofs.Common.{◌≡◌, ◌-◌, None}
use Rattle.adr_wire.specs.Composites.{value_at, one_key}
use Rattle.adr_wire.specs.Reading.{elements_at}
use Rattle.adr_wire.proofs.Loops.{with_front}
use Rattle.adr_wire.proofs.reader.Reader.read_values.Given as goal

-- the values so far, and those that are left to read
abbrev pub invariant-loop : goal.invariant-loop
invariant-loop l = with_front l.values.items (elements_at one_key (λ _. value_at) (l.count - l.counter) None l.self) ≡ elements_at one_key (λ _. value_at) l.count None l.fn.self
