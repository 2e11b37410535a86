use Rattle.std.proofs.Common.{◌≡◌, ◌++◌}
use Rattle.adr_state.proofs.marks.Marks.copy.Given as goal

-- what is copied and what is left are the whole
abbrev pub invariant-loop-partner : goal.invariant-loop-partner
invariant-loop-partner l = l.map.entries ++ l.partner-iterator ≡ l.self
