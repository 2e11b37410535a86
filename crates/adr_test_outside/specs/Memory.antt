-- What a clock, identifiers and a network in memory hold, and which of their calls will fail.
use Rattle.std.specs.Prelude.{◌≡◌, ◌⊎◌, ℕ, ◌+◌, ◌-◌, ◌^◌, false, if◌then◌else◌, List, [], ◌∷◌, ◌++◌, Option, Some}
use Rattle.std.specs.Prelude.{Result, IsErr, IfOk, OnOk, IsErrOf}
use Rattle.adr_io.specs.declared.Fault.{Fault}
use Rattle.adr_io.specs.declared.Fault.TheVariants.{Failed, NoMemory}
use Rattle.adr_outside.specs.Traffic.{Traffic, Opens, hung_up}
use Rattle.adr_test_io.specs.Memory.{met, one_less}

-- The values left. Where a plan is told, so many calls pass and the next fails.
pub record Supply (A : Type 0) : Type 0 where
  pub left : List A
  pub plan : Option ℕ
  pub faults : ℕ

-- What comes in and was sent, at most so many bytes in a receive, and the plan as of a supply.
pub record Network : Type 0 where
  pub traffic : Traffic
  pub piece : ℕ
  pub plan : Option ℕ
  pub doors : ℕ
  pub lines : ℕ

-- a call is planned to fail, or nothing is left
abbrev pub CannotGive : {A : Type 0} → Supply A → Type 0
CannotGive {A} s = (s.plan ≡ Some 0) ⊎ (s.left ≡ [])

-- what a call of a supply gives, and when it fails
pub record Gives {A : Type 0} (old : Supply A) (result : Result A Fault) (new : Supply A) : Type 0 where
  pub due : CannotGive old → IsErr result
  pub taken : IfOk result (λ x. old.left ≡ x ∷ new.left)
  pub passes : OnOk result (new ≡ record old { left = new.left; plan = one_less old.plan })
  pub fault : IsErrOf result Failed → CannotGive old × (new ≡ record old { plan = met old.plan; faults = old.faults + 1 })
  pub no_memory : IsErrOf result NoMemory → new ≡ old
  pub no_memory_only : IsErrOf result NoMemory → old.faults ≡ 2 ^ 64 - 1

-- no connection was opened yet
abbrev pub not_opened : List (List ℕ) → Traffic
not_opened waiting = record { waiting = waiting; is_open = false; left = []; sent = []; done = [] }

-- what was sent in each connection that was opened
abbrev pub all_sent : Traffic → List (List ℕ)
all_sent t = if t.is_open then t.done ++ t.sent ∷ [] else t.done

-- after a call that passed
abbrev pub passed : Network → Network
passed n = record n { plan = one_less n.plan }

-- after a call of a door that failed
abbrev pub door_failed : Network → Network
door_failed n = record n { plan = met n.plan; doors = n.doors + 1 }

-- after a call of a line that failed
abbrev pub line_failed : Network → Network
line_failed n = record n { plan = met n.plan; lines = n.lines + 1 }

-- a call is planned to fail, or no connection is waiting
abbrev pub CannotOpen : Network → Type 0
CannotOpen n = (n.plan ≡ Some 0) ⊎ (n.traffic.waiting ≡ [])

-- a call is planned to fail, or no connection is open
abbrev pub CannotTalk : Network → Type 0
CannotTalk n = (n.plan ≡ Some 0) ⊎ (n.traffic.is_open ≡ false)

-- what a call does that opens the next connection, and when it fails
pub record OpensNext {A : Type 0} (old : Network) (result : Result A Fault) (new : Network) : Type 0 where
  pub due : CannotOpen old → IsErr result
  pub opens : OnOk result (Opens old.traffic (Some new.traffic))
  pub passes : OnOk result (new ≡ record (passed old) { traffic = new.traffic })
  pub fault : IsErrOf result Failed → CannotOpen old × (new ≡ record (door_failed old) { traffic = hung_up old.traffic })
  pub no_memory : IsErrOf result NoMemory → new ≡ old
  pub no_memory_due : CannotOpen old → IsErrOf result NoMemory → old.doors ≡ 2 ^ 64 - 1
