-- Messages of the states of a log have the forms in which they are sent, and a reply that was read is what is taken.
use Rattle.std.specs.Prelude.{◌≡◌, ℕ, ◌≤◌, ◌<◌, ◌^◌, true, Ok}
use Rattle.adr_wire.specs.Headed.{is_version}
use Rattle.adr_wire.specs.Ranges.{IsId, IsU32}
use Rattle.adr_model.specs.Update.{Identifier}
use Rattle.adr_model.specs.Store.{State}
use Rattle.adr_model.specs.Serve.{Request, Reply, ask, serve}
use Rattle.adr_model.specs.Spelled.{IsSpelledReply}
use Rattle.adr_packet.specs.Requests.{IsRequest}
use Rattle.adr_packet.specs.Replies.{IsReply}
use Rattle.adr_records.specs.Logged.{IsLogged}
use Rattle.adr_law_recorded.specs.Ranged.{IsRangedReply}

-- what is asked in either version, for at least one item, has the form of a request
abbrev pub AskedHasForm : Type 0
AskedHasForm =
    (s : State) (partner : Identifier) (max version : ℕ) → IsLogged s → IsId partner → 1 ≤ max → IsU32 max → is_version version ≡ true
    → IsRequest (ask s partner max version)

-- what is answered to a request of the form has the form of a reply
abbrev pub ServedHasForm : Type 0
ServedHasForm = (s : State) (q : Request) (r : Reply) (now : ℕ) → IsLogged s → IsRequest q → now < 2 ^ 64 → serve s q now ≡ Ok r → IsReply r

-- a reply of the form is one that is taken
abbrev pub ReplyIsTaken : Type 0
ReplyIsTaken = (r : Reply) → IsReply r → IsSpelledReply r × IsRangedReply r
