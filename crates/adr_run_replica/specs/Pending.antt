-- What calls of a controller commit, each with its change.
use Rattle.std.specs.Prelude.{Bool, Option, None, Some, Result, Ok, Err}
use Rattle.std.specs.Bool.{then_some}
use Rattle.std.specs.Option.{option_map}
use Rattle.adr_call.specs.declared.refusal.ServeRefusal.{ServeRefusal}
use Rattle.adr_call.specs.declared.refusal.TakeRefusal.{TakeRefusal}
use Rattle.adr_model.specs.Store.{State}
use Rattle.adr_model.specs.Change.{Change}
use Rattle.adr_model.specs.Serve.{Request, Reply, serve}
use Rattle.adr_model.specs.Take.{take}
use Rattle.adr_model.specs.Collect.{quarantine}
use Rattle.adr_model.specs.Replica.{Call, ToTake, ToQuarantine, Pending, change_of}
use Rattle.adr_controller.specs.Able.{request_shows, reply_shows}

abbrev pub with_call : Call → Option Change → Option Pending
with_call call change = option_map (λ c. record { call = call; change = c }) change

-- a controller that was shown to be put back is quarantined
abbrev pub quarantining : Bool → State → Option Pending
quarantining shown s = with_call ToQuarantine (then_some shown (quarantine s))

-- a client's call
abbrev pub calling : Call → State → Option Pending
calling call s = with_call call (change_of s call)

abbrev pub served_by : State → Result Reply ServeRefusal → Option Pending
served_by s (Ok reply) = None
served_by s (Err refusal) = quarantining (request_shows refusal) s

-- a request, which commits the same at every time
abbrev pub serving : Request → State → Option Pending
serving request s = served_by s (serve s request 0)

abbrev pub taken_by : Reply → State → Result Change TakeRefusal → Option Pending
taken_by reply s (Ok c) = with_call (ToTake reply) (Some c)
taken_by reply s (Err refusal) = quarantining (reply_shows refusal) s

-- a reply
abbrev pub taking : Reply → State → Option Pending
taking reply s = taken_by reply s (take s reply)
