-- What a client has a controller do: what that means, what it makes of the controller's state, and what is answered.
use Rattle.std.specs.Prelude.{ℕ, Option, Some, None, Result, Ok, Err, length}
use Rattle.adr_call.specs.declared.call.Call.{Call as Asked}
use Rattle.adr_call.specs.declared.call.Call.TheVariants as calls
use Rattle.adr_call.specs.declared.outcome.Outcome.{Outcome}
use Rattle.adr_call.specs.declared.outcome.Outcome.TheVariants as outcomes
use Rattle.adr_call.specs.declared.refusal.WriteRefusal.{WriteRefusal}
use Rattle.adr_call.specs.declared.refusal.CollectRefusal.{CollectRefusal}
use Rattle.adr_call.specs.declared.refusal.UpgradeRefusal.{UpgradeRefusal}
use Rattle.adr_model.specs.Store.{State}
use Rattle.adr_model.specs.Change.{Change}
use Rattle.adr_model.specs.Write.{write, write_meant}
use Rattle.adr_model.specs.Given.{IsWellGiven}
use Rattle.adr_model.specs.Collect.{collect}
use Rattle.adr_model.specs.Upgrade.{upgrade}
use Rattle.adr_model.specs.Refused.{write_refused, collect_refused, upgrade_refused}
use Rattle.adr_model.specs.Replica.{Call, ToWrite, ToTake, ToCollect, ToUpgrade, ToQuarantine}

-- what a client asks for at a time
abbrev pub call_meant : Asked → ℕ → Call
call_meant (calls.Write what) now = ToWrite (write_meant what) now
call_meant (calls.Collect lifetime) now = ToCollect now lifetime
call_meant calls.Upgrade now = ToUpgrade

-- the values of a write are given in order
abbrev pub IsWellAsked : Asked → Type 0
IsWellAsked (calls.Write what) = IsWellGiven (write_meant what)
IsWellAsked _ = Unit {0}

-- the outcome of a call, and the change that is committed before it is told
abbrev pub Done : Type 0
Done = Outcome × Option Change

abbrev pub written : Result Change WriteRefusal → Done
written (Ok c) = (outcomes.Usn c.usn, Some c)
written (Err refusal) = (write_refused refusal, None)

abbrev pub collected : Result Change CollectRefusal → Done
collected (Ok c) = (outcomes.Removed (length c.removed), Some c)
collected (Err refusal) = (collect_refused refusal, None)

abbrev pub changed_over : Result Change UpgradeRefusal → Done
changed_over (Ok c) = (outcomes.Ok, Some c)
changed_over (Err refusal) = (upgrade_refused refusal, None)

-- what a client's call makes of a state; the other calls are none
abbrev pub done : State → Call → Done
done s (ToWrite what now) = written (write s what now)
done s (ToCollect now lifetime) = collected (collect s now lifetime)
done s ToUpgrade = changed_over (upgrade s)
done s (ToTake reply) = (outcomes.Ok, None)
done s ToQuarantine = (outcomes.Ok, None)
