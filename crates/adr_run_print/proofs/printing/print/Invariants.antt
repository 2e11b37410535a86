use Rattle.std.proofs.Common.{◌≡◌, take}
use Rattle.adr_run_print.specs.Printed.{printed}
use Rattle.adr_run_print.proofs.printing.print.Given as goal

-- the lines so far are those of the events so far
abbrev pub invariant-loop-event : goal.invariant-loop-event
invariant-loop-event l = l.out.items ≡ printed (take l.event-index l.events)
