-- What a call of a controller comes to in its world.
use Rattle.std.specs.Prelude.{◌≡◌, ℕ, List, Option, Result}
use Rattle.adr_call.specs.declared.outcome.Outcome.{Outcome}
use Rattle.adr_call.specs.declared.outcome.Outcome.TheVariants as outcomes
use Rattle.adr_call.specs.declared.refusal.AdoptRefusal.{AdoptRefusal}
use Rattle.adr_model.specs.Store.{State}
use Rattle.adr_model.specs.Replica.{Replica, begun, moves_of_start, start_goes, device_after_start}
use Rattle.adr_model.specs.World.{World, Name, Gone, Sent, adopts, after_moves, with_replica}
use Rattle.adr_run_replica.specs.Past.{Past}

-- the controller stands in this world, and the world's book and last replies are those of the past
pub record StandsIn (w : World) (r : Replica) (past : Past) : Type 0 where
  pub book : w.book ≡ past.book
  pub told : w.last_replies ≡ past.last_replies
  pub there : with_replica w.replicas r ≡ w.replicas

-- the same world, in which the controller has become this one, and the book and the last replies those of the past
abbrev pub world_with : World → Replica → Past → World
world_with w r past = record w { book = past.book; last_replies = past.last_replies; replicas = with_replica w.replicas r }

-- in each world in which it stood, a call made of the controller and the past what the definitions say, and answered so
abbrev pub Leads : Replica → Past → (World → Gone) → Replica → Past → Outcome → Type 0
Leads r past call new later outcome = (w : World) → StandsIn w r past → call w ≡ (world_with w new later, outcome)

-- the same of a call that makes a message, at a time
abbrev pub LeadsAt : {A : Type 0} → ℕ → Replica → Past → (World → Sent A) → Replica → Past → Outcome → Option A → Type 0
LeadsAt now r past call new later outcome message =
    (w : World) → w.time ≡ now → StandsIn w r past → call w ≡ (world_with w new later, outcome, message)

-- the call has changed all that it changes, though it wasn't answered
abbrev pub IsDone : Replica → Past → (World → World) → Replica → Past → Type 0
IsDone r past call new later = (w : World) → StandsIn w r past → call w ≡ world_with w new later

-- nothing has changed
abbrev pub IsUndone : Replica → Past → Replica → Past → Type 0
IsUndone r past new later = (new ≡ r) × (later ≡ past)

-- the world behind a start that wanted memory when its sync was made: the sync stands, and the controller is as down or failed as before
abbrev pub synced : World → Replica → World
synced w r = (after_moves w r (moves_of_start (start_goes r)) r.standing (device_after_start r) outcomes.Ok).0

-- an image was adopted: this controller was made, and its incarnation begins, wherever it is placed
abbrev pub Adopts : Name → Result State AdoptRefusal → Replica → Type 0
Adopts name t made =
    (w : World) (placed : Replica → List Replica)
    → adopts w placed name t ≡ (record w { book = begun w.book made.safe; replicas = placed made }, outcomes.Ok)

-- it was not, and is answered so
abbrev pub Unadopted : Name → Result State AdoptRefusal → Outcome → Type 0
Unadopted name t outcome = (w : World) (placed : Replica → List Replica) → adopts w placed name t ≡ (w, outcome)
