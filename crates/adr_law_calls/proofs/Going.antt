-- A change that has no mark, joins no vector and tells no times goes on from a state by what else it says.
use Rattle.std.proofs.Common.{◌≡◌, ◌⊎◌, ◌≤◌, [], None}
use Rattle.adr_values.specs.Numbered.{numbered}
use Rattle.adr_values.specs.Vector.{IsVector}
use Rattle.adr_values.proofs.Moments.{no_times}
use Rattle.adr_model.specs.Member.{Each}
use Rattle.adr_model.specs.Store.{Normal, State}
use Rattle.adr_model.specs.Change.{Change, held_of, rows_after, after}
use Rattle.adr_model.specs.Upgrade.{upgraded}
use Rattle.adr_model.specs.Spelled.{AreLocalsRising}
use Rattle.adr_law_calls.specs.Follow.{GoesOn, IsRemovable, MayFollowInTurn}
use Rattle.adr_law_calls.proofs.TakenFollow.{nothing_is_vector}

abbrev pub alone : Change → Change
alone c = record c { mark = None; joined = []; times = [] }

pub goes_on_alone : (s : State) (c : Change) → s.mode ≡ Normal → s.store.usn ≤ c.usn → AreLocalsRising s.store.usn c.usn c.writes
    → (c.schema ≡ s.store.schema) ⊎ (alone c ≡ upgraded s) → IsVector c.purged → MayFollowInTurn (numbered s.store.schema) s.store.vector s.store.rows c.writes
    → Each (IsRemovable (rows_after [] (held_of c.writes) s.store.rows) (after s (alone c)).store.purged) c.removed → GoesOn s (alone c)
goes_on_alone s c normal rises locals schema purged writes removed = assumption (nothing_is_vector, no_times [])
