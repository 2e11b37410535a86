use Rattle.std.proofs.Common.{◌≡◌, ◌++◌, take, drop, flat_map}
use Rattle.adr_values.specs.Dated.{with_moments}
use Rattle.adr_values.proofs.Walks.{Agrees}
use Rattle.adr_answers.specs.Line.{dated_line}
use Rattle.adr_answers.proofs.knowledge.push_dated.Given as goal

-- those so far are written, and the moments of the others are still to come
abbrev pub invariant-loop-cursor : goal.invariant-loop-cursor
invariant-loop-cursor l = record {
  written : l.out.items ≡ l.fn.out.items ++ flat_map dated_line (with_moments l.times (take l.cursor-index l.cursors));
  walked : Agrees l.moments l.times (drop l.cursor-index l.cursors);
}
