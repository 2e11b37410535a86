-- The calls of a controller that may change its state.
use Rattle.std.specs.Prelude.{ℕ, ◌<◌, ◌^◌, List, Option}
use Rattle.adr_call.specs.declared.call.Call.{Call as Asked}
use Rattle.adr_model.specs.Formed.{IsFormedStore}
use Rattle.adr_model.specs.Store.{State, Store}
use Rattle.adr_model.specs.Update.{Identifier}
use Rattle.adr_model.specs.Write.{Revive}
use Rattle.adr_model.specs.Change.{Change}
use Rattle.adr_model.specs.Serve.{Request, Reply}
use Rattle.adr_model.specs.Client.{IsWellAsked}
use Rattle.adr_model.specs.Spelled.{IsSpelledReply}
use Rattle.adr_law_recorded.specs.Typed.{IsTypedCall, IsTypedWrite}
use Rattle.adr_law_recorded.specs.Ranged.{IsRangedReply}
use Rattle.adr_controller.specs.Able.{called_in, revived_in, served_in, taken_in}

-- what a client has it do, an object of an image that comes again, a request, or a reply; times in seconds
pub data Call : Type 0 where
  Does : (what : Asked) (now : ℕ) → Call
  Revives : (image : Store) (guid parent : Identifier) (text : List ℕ) (now : ℕ) → Call
  Serves : (request : Request) (now : ℕ) → Call
  Takes : (reply : Reply) → Call

-- the change that it makes of a state, if it makes one
abbrev pub change_of_call : Call → State → Option Change
change_of_call (Does what now) = called_in what now
change_of_call (Revives image guid parent text now) = revived_in image guid parent text now
change_of_call (Serves request now) = served_in request now
change_of_call (Takes reply) = taken_in reply

-- it has the form of one: what a client asks for has the ranges of its types, an image is formed, and a reply has the ranges of its form
abbrev pub IsGivenCall : Call → Type 0
IsGivenCall (Does what now) = IsWellAsked what × IsTypedCall what × (now < 2 ^ 64)
IsGivenCall (Revives image guid parent text now) = IsFormedStore image × IsTypedWrite (Revive image guid parent text) × (now < 2 ^ 64)
IsGivenCall (Serves request now) = Unit {0}
IsGivenCall (Takes reply) = IsSpelledReply reply × IsRangedReply reply
