-- What stands behind a closed gate, and what it means to a log when the gate is opened.
use Rattle.std.specs.Prelude.{◌≡◌, ℕ, ◌+◌, ◌≤◌, ◌<◌, ◌^◌, List, Option, Some}
use Rattle.adr_model.specs.Store.{State}
use Rattle.adr_model.specs.Lengths.{Log}
use Rattle.adr_law_journal.specs.Kept.{Layout, IsSettled, Rests}
use Rattle.adr_journal.specs.Written.{IsBefore}
use Rattle.adr_gather.specs.Held.{opened}
use Rattle.adr_gather.specs.Gathered.{Gathered, Holds, content_of, images_of}

-- a settled log ends behind this gate; with these bytes behind it, and the gate open, it is another one
pub record Takes {D H : Type 0} (l : Layout H State) (content : D → Option (List ℕ)) (may_leave : D → List ℕ → Type 0) (disk : D) (gate : ℕ) (written : List ℕ) (s t : State) (log next : Log) : Type 0 where
  pub settled : IsSettled l content may_leave disk s log
  pub ends : gate + 1 ≡ log.log_end
  pub becomes : (there : List ℕ) → content disk ≡ Some there → Rests l t next (opened there gate written)

-- what is held of a log is written, and these bytes are a new area of its state, if there are any; then the log takes a record of so many bytes, and ends where the next one does
pub record Moves {D H : Type 0} (l : Layout H State) (content : D → Option (List ℕ)) (may_leave : D → List ℕ → Type 0) (g : Gathered D) (area : List ℕ) (next : Log) (size : ℕ) (s : State) (log mid : Log) : Type 0 where
  pub holds : Holds l content may_leave g s log
  pub low : log.log_end < 2 ^ 63
  pub before : IsBefore l (content_of content) (images_of content may_leave) g area next s log mid
  pub ends : mid.log_end + size ≡ next.log_end
  pub begun : 1 ≤ mid.log_end
