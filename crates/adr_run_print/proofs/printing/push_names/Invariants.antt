use Rattle.std.proofs.Common.{◌≡◌, ◌++◌, take}
use Rattle.adr_run_print.specs.Printed.{spaced}
use Rattle.adr_run_print.proofs.printing.push_names.Given as goal

-- the names so far are written
abbrev pub invariant-loop-name : goal.invariant-loop-name
invariant-loop-name l = l.out.items ≡ l.fn.out.items ++ spaced (take l.name-index l.names)
