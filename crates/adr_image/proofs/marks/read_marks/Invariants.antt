use Rattle.std.proofs.Common.{◌≡◌, ◌-◌}
use Rattle.adr_wire.specs.Reading.{elements_at}
use Rattle.adr_wire.proofs.Loops.{with_front}
use Rattle.adr_image.specs.Image.{kept_above}
use Rattle.adr_image.specs.Whole.{marks_at}
use Rattle.adr_image.proofs.marks.read_marks.Given as goal

-- the marks so far, and those that are left to read
abbrev pub invariant-loop : goal.invariant-loop
invariant-loop l = with_front l.marks.items (elements_at (λ k. k.0) kept_above (l.count - l.counter) l.last l.reader) ≡ marks_at l.fn.reader
