-- When each incarnation was last read whole (after MS-DRSR UPTODATE_VECTOR_V2): moments beside the cursors of a vector.
use Rattle.std.specs.Prelude.{ℕ, List, ◌≤◌, filter, not}
use Rattle.std.specs.List.{AllByRecursion}
use Rattle.std.specs.List.Sorted.{IsStrictlySortedBy}
use Rattle.std.specs.Map.{keys_of}
use Rattle.std.specs.Ordering.{is_eq}
use Rattle.adr_values.specs.Order.{identifier_order}
use Rattle.adr_values.specs.Vector.{Cursors, at, raised}

-- identifiers rise, and no moment is 0, which stands for none
pub record AreMoments (times : Cursors) : Type 0 where
  pub rising : IsStrictlySortedBy identifier_order (keys_of times)
  pub from_one : AllByRecursion (λ t. 1 ≤ t.1) times

-- moments, each of a cursor of the vector
pub record AreTimesOf (vector times : Cursors) : Type 0 where
  pub moments : AreMoments times
  pub seen : AllByRecursion (λ t. 1 ≤ at vector t.0) times

-- times but that of one incarnation
abbrev pub others : Cursors → List ℕ → Cursors
others times inv = filter (λ (t : List ℕ × ℕ). not (is_eq (identifier_order t.0 inv))) times

-- times with this moment in place of what is known of one incarnation
abbrev pub told_at_now : Cursors → List ℕ → ℕ → Cursors
told_at_now times inv now = raised (others times inv) inv now
