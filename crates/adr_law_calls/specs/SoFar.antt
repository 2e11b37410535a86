-- What holds of the rows on the way through the items of a reply, whatever its source is.
use Rattle.std.specs.Prelude.{◌≤◌}
use Rattle.adr_values.specs.Numbered.{numbered}
use Rattle.adr_model.specs.Member.{Each}
use Rattle.adr_model.specs.Store.{State, updates_of}
use Rattle.adr_model.specs.Sound.{AreClassesKnown}
use Rattle.adr_model.specs.Take.{Taking}
use Rattle.adr_model.specs.Write.{object_limit, link_limit}
use Rattle.adr_law_calls.specs.OnTheWay.{StaysFormed}
use Rattle.adr_model.specs.Spelled.{AreLocalsRising}
use Rattle.adr_law_calls.specs.Follow.{MayFollowInTurn}
use Rattle.adr_law_calls.specs.Taken.{AreBare}

-- so far rows stay formed with known classes, and the writes follow one after the other where no table went over its
-- limit
pub record FollowsSoFar (s : State) (t : Taking) : Type 0 where
  pub steady : StaysFormed s t
  pub classes : AreClassesKnown (numbered s.store.schema) (updates_of t.rows)
  pub spaced : AreLocalsRising s.store.usn t.usn t.writes
  pub bare : Each (λ w. AreBare w.item.rows) t.writes
  pub follow :
      t.objects ≤ object_limit → t.links ≤ link_limit
      → MayFollowInTurn (numbered s.store.schema) s.store.vector s.store.rows t.writes
