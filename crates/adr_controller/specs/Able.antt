-- Which changes a controller can commit.
use Rattle.std.specs.Prelude.{◌≡◌, ℕ, List, Bool, true, false, Option, Some, None, Result, Ok, Err}
use Rattle.std.specs.Bool.{then_some}
use Rattle.adr_call.specs.declared.refusal.ServeRefusal.{ServeRefusal}
use Rattle.adr_call.specs.declared.refusal.ServeRefusal.TheVariants as serves
use Rattle.adr_call.specs.declared.refusal.TakeRefusal.{TakeRefusal}
use Rattle.adr_call.specs.declared.refusal.TakeRefusal.TheVariants as takes
use Rattle.adr_call.specs.declared.call.Call.{Call}
use Rattle.adr_call.specs.declared.write.Write.{Write as Asked}
use Rattle.adr_model.specs.Store.{State, Store}
use Rattle.adr_model.specs.Update.{Identifier}
use Rattle.adr_model.specs.Change.{Change, after}
use Rattle.adr_model.specs.Serve.{Request, Reply, serve}
use Rattle.adr_model.specs.Take.{take}
use Rattle.adr_model.specs.Write.{Revive, write, write_meant}
use Rattle.adr_model.specs.Collect.{collect, quarantine}
use Rattle.adr_model.specs.Upgrade.{upgrade}
use Rattle.adr_model.specs.Replica.{change_in, change_of}
use Rattle.adr_model.specs.Client.{call_meant}
use Rattle.adr_state.specs.Refusal.{IsOverfull}
use Rattle.adr_journal.specs.declared.keeper.Keeper.{Ghosts}

-- its keeper takes the change behind this state, and the state after it fits into memory and is as all that are kept
pub record CanCommit {K : Type 0} (k : Ghosts K) (s : State) (c : Change) : Type 0 where
  pub follows : k.can_follow s c
  pub fits : ¬ IsOverfull (after s c)
  pub formed : k.is_formed (after s c)

-- each change that is made so of a state that is kept can be committed behind it
abbrev pub AllFollow : {K : Type 0} → Ghosts K → (State → Option Change) → Type 0
AllFollow k changes = (s : State) (c : Change) → k.is_formed s → changes s ≡ Some c → CanCommit k s c

-- ---- what calls make of a state

-- a client's write at a time
abbrev pub written_in : Asked → ℕ → State → Option Change
written_in what now s = change_in (write s (write_meant what) now)

-- a client's call at a time
abbrev pub called_in : Call → ℕ → State → Option Change
called_in what now s = change_of s (call_meant what now)

-- a refused request, and a refused reply, that shows a controller that it was put back
abbrev pub request_shows : ServeRefusal → Bool
request_shows (serves.RolledBack inv mine shown) = true
request_shows _ = false

abbrev pub reply_shows : TakeRefusal → Bool
reply_shows (takes.RolledBack inv mine shown) = true
reply_shows _ = false

-- it is then quarantined
abbrev pub quarantine_in : Bool → State → Option Change
quarantine_in shown s = then_some shown (quarantine s)

abbrev pub change_of_served : State → Result Reply ServeRefusal → Option Change
change_of_served s (Ok reply) = None
change_of_served s (Err refusal) = quarantine_in (request_shows refusal) s

abbrev pub served_in : Request → ℕ → State → Option Change
served_in request now s = change_of_served s (serve s request now)

abbrev pub change_of_taken : State → Result Change TakeRefusal → Option Change
change_of_taken s (Ok c) = Some c
change_of_taken s (Err refusal) = quarantine_in (reply_shows refusal) s

abbrev pub taken_in : Reply → State → Option Change
taken_in reply s = change_of_taken s (take s reply)

abbrev pub collected_in : ℕ → ℕ → State → Option Change
collected_in now lifetime s = change_in (collect s now lifetime)

abbrev pub upgraded_in : State → Option Change
upgraded_in s = change_in (upgrade s)

-- an object of an image that comes again under this parent and text, at a time
abbrev pub revived_in : Store → Identifier → Identifier → List ℕ → ℕ → State → Option Change
revived_in image guid parent text now s = change_in (write s (Revive image guid parent text) now)
