use Rattle.std.proofs.Common.{◌≡◌, ◌++◌}
use Rattle.adr_run_print.specs.Printed.{set_tokens, spaced}
use Rattle.adr_run_print.proofs.printing.push_sets.Given as goal

-- what is written, and what is left, is all
abbrev pub invariant-attributes : goal.invariant-attributes
invariant-attributes l = l.out.items ++ spaced (set_tokens l.attr-iterator) ≡ l.fn.out.items ++ spaced (set_tokens l.values)
