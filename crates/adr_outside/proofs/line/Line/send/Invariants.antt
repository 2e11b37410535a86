use Rattle.std.proofs.Common.{length, ◌-◌, ◌≤◌}
use Rattle.adr_outside.proofs.line.Line.send.Given as goal

abbrev pub invariant-parts : goal.invariant-parts
invariant-parts g l = l.sent ≤ length l.bytes

abbrev pub decreases-parts : goal.decreases-parts
decreases-parts g l = length l.initial.bytes - l.sent
