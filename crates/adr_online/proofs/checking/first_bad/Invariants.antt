use Rattle.std.proofs.Common.{◌≡◌, ◌≤◌, ◌+◌, length}
use Rattle.adr_schedule.specs.Lines.{lines_of}
use Rattle.adr_online.specs.Texts.{first_bad}
use Rattle.adr_online.proofs.checking.first_bad.Given as goal

-- the first bad line of what is left is that of the text
abbrev pub invariant-lines : goal.invariant-lines
invariant-lines l = record {
  same : first_bad l.number (lines_of l.rest) ≡ first_bad 1 (lines_of l.text);
  room : l.number + length l.rest ≤ length l.text + 1;
}

abbrev pub decreases-lines : goal.decreases-lines
decreases-lines l = length l.rest
