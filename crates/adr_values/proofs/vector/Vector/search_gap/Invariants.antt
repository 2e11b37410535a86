use Rattle.std.proofs.Common.{◌≡◌, drop}
use Rattle.adr_values.specs.Vector.{first_gap}
use Rattle.adr_values.proofs.Walks.{Agrees}
use Rattle.adr_values.proofs.vector.Vector.search_gap.Given as goal

-- the first gap is among the cursors that are left, at which the walk has the numbers of the other
abbrev pub invariant-loop-inv : goal.invariant-loop-inv
invariant-loop-inv l = record {
  left : first_gap (drop l.inv-index l.inv-items) l.other ≡ first_gap l.self l.other;
  walked : Agrees l.walk l.other (drop l.inv-index l.inv-items);
}
