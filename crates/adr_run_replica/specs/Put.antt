-- What the bytes of a disk that were put aside stand for.
use Rattle.std.specs.Prelude.{◌≡◌, ℕ, List, Ok}
use Rattle.adr_wire.specs.Ranges.{IsId}
use Rattle.adr_model.specs.Store.{State}
use Rattle.adr_model.specs.World.{Snapshot}
use Rattle.adr_law_journal.specs.Areas.{found, Started, start_of}
use Rattle.adr_records.specs.Body.{following_in}
use Rattle.adr_records.specs.Head.{area_at, front_at}
use Rattle.adr_run_replica.specs.Held.{found_or_none}

-- what a start finds in these bytes
abbrev pub found_on : List ℕ → Started State
found_on bytes = start_of front_at area_at following_in bytes

abbrev pub aside : List ℕ → Snapshot
aside bytes = let f = found_or_none (found_on bytes) in record { state = f.state; log = f.log }

-- nothing is damaged
pub record IsWhole (bytes : List ℕ) : Type 0 where
  pub finds : found_on bytes ≡ Ok (found (aside bytes).state (aside bytes).log)
  pub is_id : IsId (aside bytes).state.dsa
