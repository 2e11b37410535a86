use Rattle.std.proofs.Common.{◌≡◌, ◌++◌}
use Rattle.adr_state.proofs.marks.Marks.to_vec.Given as goal

-- what is listed and what is left are the whole
abbrev pub invariant-loop-partner : goal.invariant-loop-partner
invariant-loop-partner l = l.list.items ++ l.partner-iterator ≡ l.self
