-- Each item that a controller can send is short, and so what it answers fits a frame.
use Rattle.std.specs.Prelude.{◌≡◌, ℕ, ◌<◌, ◌∷◌, length, Ok}
use Rattle.adr_values.specs.Vector.{Cursors}
use Rattle.adr_values.specs.declared.mark.Mark.{Mark}
use Rattle.adr_model.specs.Change.{Item}
use Rattle.adr_model.specs.Member.{Each}
use Rattle.adr_model.specs.Serve.{Request, Reply, candidates, serve}
use Rattle.adr_model.specs.Store.{State}
use Rattle.adr_records.specs.Logged.{IsLogged}
use Rattle.adr_frames.specs.Frames.{IsFrameLength}
use Rattle.adr_packet.specs.Parts.{item}
use Rattle.adr_packet.specs.Replies.{reply_bytes}
use Rattle.adr_packet.specs.Requests.{IsRequest}

-- an item has fewer bytes in a message: 5 KiB
abbrev pub item_limit : ℕ
item_limit = 5120

-- so has each that a state of a log can send, wherever a reply begins and whatever was seen
abbrev pub OfferedAreShort : Type 0
OfferedAreShort =
    (s : State) (from : Mark) (asked : Cursors) → IsLogged s
    → Each (λ (c : ℕ × Item). length (item c.1) < item_limit) (candidates s.store.rows from asked)

-- what is answered to a request of the form fits a frame, behind the byte that says that it is a reply
abbrev pub ServedFits : Type 0
ServedFits =
    (s : State) (q : Request) (r : Reply) (now : ℕ) → IsLogged s → IsRequest q → serve s q now ≡ Ok r
    → IsFrameLength (length (2 ∷ reply_bytes r))
