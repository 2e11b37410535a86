-- What a frame comes to where nothing has changed, and where no clock failed.
use Rattle.std.proofs.Common.{◌≡◌, ◌⊎◌, inl, inr, ap, Result, Ok, Err}
use Rattle.std.specs.Prelude.{IfOk, IsErrOf}
use Rattle.adr_law_journal.specs.Areas.{Found, Started}
use Rattle.adr_law_journal.specs.Kept.{FindsState}
use Rattle.adr_model.specs.Store.{State}
use Rattle.adr_journal.specs.declared.keeper.Keeper.{Ghosts}
use Rattle.adr_controller.specs.Running.{Running}
use Rattle.adr_session.specs.declared.ending.ServeFault.{ServeFault}
use Rattle.adr_session.specs.declared.ending.ServeFault.TheVariants as faults
use Rattle.adr_session.specs.Talk.{Reaction, Sends, Leaves}
use Rattle.adr_law_controller.specs.Keeping.{Stands}
use Rattle.adr_session.specs.Told.{FindsOneOf, StandsNear}

pub finds_one : (f : Found State) (r : Reaction) (s : Started State) → FindsState f.state s → FindsOneOf f r s
finds_one f (Sends a rest) s here = inl here
finds_one f (Leaves ends) s here = here

pub stands_near :
    {K : Type 0} (k : Ghosts K) (f : Found State) (r : Reaction) (c : Running K) → Stands k f c → StandsNear k f r c
stands_near k f (Sends a rest) c here = inl here
stands_near k f (Leaves ends) c here = here

-- and where something holds whatever a call comes to
pub if_ok_any : {T E : Type 0} (A : Type 0) (r : Result T E) → A → IfOk r (λ _. A)
if_ok_any A (Ok x) a = a
if_ok_any A (Err e) a = tt

-- a call that passed met no fault of the clock
pub no_time_fault : {T : Type 0} (x : T) (A : Type 0) → (let r : Result T ServeFault = Ok x in IsErrOf r faults.Clock) ⊎ A → A
no_time_fault x A (inl is) = absurd (cc is)
no_time_fault x A (inr a) = a

-- one that failed is handed on with its fault
pub time_fault_on : {T U : Type 0} (e : ServeFault) (A : Type 0) → (let r : Result T ServeFault = Err e in IsErrOf r faults.Clock) ⊎ A
    → (let r : Result U ServeFault = Err e in IsErrOf r faults.Clock) ⊎ A
time_fault_on e A (inl is) = let same : e ≡ faults.Clock = (cc is) in inl (ap Err same)
time_fault_on e A (inr a) = inr a
