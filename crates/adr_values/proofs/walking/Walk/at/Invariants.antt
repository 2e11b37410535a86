use Rattle.std.proofs.Common.{◌≡◌, List, ℕ, false, length}
use Rattle.std.specs.Ordering.{is_lt}
use Rattle.adr_values.specs.Order.{identifier_order}
use Rattle.adr_values.specs.Vector.{at}
use Rattle.adr_values.proofs.Cursors.{IsRising}
use Rattle.adr_values.proofs.walking.Walk.at.Given as goal

-- what is passed stands at lesser identifiers
abbrev pub invariant-loop-number : goal.invariant-loop-number
invariant-loop-number l = record {
  rising : IsRising l.self-inside.rest.now;
  kept : (other : List ℕ) → is_lt (identifier_order other l.inv) ≡ false → at l.self-inside.rest.now other ≡ at l.fn.self other;
}

abbrev pub decreases-loop-number : goal.decreases-loop-number
decreases-loop-number l = length l.self-inside.rest.now
