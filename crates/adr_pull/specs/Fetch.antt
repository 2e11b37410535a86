-- A cycle from a partner: what is sent, what each reply makes of a node, what is written, and how it ends.
use Rattle.std.specs.Prelude.{if◌then◌else◌, ◌==◌, ◌&&◌, ◌+◌, ℕ, zero, suc, List, [], ◌∷◌, ◌++◌}
use Rattle.std.specs.Prelude.{length, codes, is_some, Option, Some, None, Result, Ok, Err}
use Rattle.std.specs.Bool.{then_some}
use Rattle.std.specs.Option.{option_map, option_and_then}
use Rattle.adr_wire.specs.declared.refusal.DecodeRefusal.{DecodeRefusal}
use Rattle.adr_call.specs.declared.outcome.Outcome.{Outcome}
use Rattle.adr_call.specs.declared.outcome.Outcome.TheVariants as outcomes
use Rattle.adr_call.specs.declared.refusal.TakeRefusal.{TakeRefusal}
use Rattle.adr_call.specs.declared.refusal.Table.TheVariants.{Log}
use Rattle.adr_model.specs.Update.{Identifier}
use Rattle.adr_model.specs.Change.{Change}
use Rattle.adr_model.specs.Collect.{quarantine}
use Rattle.adr_model.specs.Cycles.{pull_version}
use Rattle.adr_model.specs.Lengths.{change_fits, log_limit}
use Rattle.adr_model.specs.Refused.{full, serve_refused, take_refused}
use Rattle.adr_model.specs.Serve.{Reply, ask}
use Rattle.adr_model.specs.Store.{State}
use Rattle.adr_model.specs.Take.{take}
use Rattle.adr_law_journal.specs.Areas.{Found}
use Rattle.adr_journal.specs.Ended.{found_after}
use Rattle.adr_controller.specs.Able.{reply_shows}
use Rattle.adr_packet.specs.Requests.{request_bytes}
use Rattle.adr_packet.specs.Replies.{decoded_reply}
use Rattle.adr_packet.specs.Refusals.{decoded_refusal}
use Rattle.adr_packet.specs.declared.refusal.Refusal.{Refusal}
use Rattle.adr_packet.specs.declared.refusal.Refusal.TheVariants.{Serve, LogFull}
use Rattle.adr_answers.specs.Line.{line, result_text}
use Rattle.adr_frames.specs.Frames.{frame}
use Rattle.adr_pull.specs.declared.came.Came.{Came}
use Rattle.adr_pull.specs.declared.came.Came.TheVariants.{Took, Declined}
use Rattle.adr_pull.specs.Exchange.{heard_in}

-- ---- what is said

-- who is asked to say who it is: a frame of kind 6
abbrev pub greeting : List ℕ
greeting = 6 ∷ []

-- the partner that a frame of kind 7 names
abbrev pub partner_in : List ℕ → Option Identifier
partner_in [] = None
partner_in (kind ∷ dsa) = then_some ((kind == 7) && (length dsa == 16)) dsa

-- a partner replies to a request, or refuses it
pub data Said : Type 0 where
  Replies : (reply : Reply) → Said
  Refuses : (refusal : Refusal) → Said

abbrev pub replied : Result Reply DecodeRefusal → Option Said
replied (Ok reply) = Some (Replies reply)
replied (Err _) = None

abbrev pub refused : Result Refusal DecodeRefusal → Option Said
refused (Ok refusal) = Some (Refuses refusal)
refused (Err _) = None

-- what a frame says, if it is due behind a request: kind 2 has a reply, and kind 3 a refusal
abbrev pub said_in : List ℕ → Option Said
said_in [] = None
said_in (kind ∷ body) =
    if kind == 2 then replied (decoded_reply body) else if kind == 3 then refused (decoded_refusal body) else None

-- the most items of a reply
abbrev pub item_limit : ℕ
item_limit = 1000

-- a request to a partner: a frame of kind 1
abbrev pub request : State → Identifier → List ℕ
request s partner = 1 ∷ request_bytes (ask s partner item_limit pull_version)

-- ---- what it makes of a node

-- where a node then stands, and what came of it
abbrev pub Made : Type 0
Made = Found State × Came

abbrev pub declines : Found State → Outcome → Made
declines f outcome = (f, Declined outcome)

-- a change is committed before it is told, where the log has room for it
abbrev pub committed : Found State → Change → Came → Made
committed f c came = if change_fits f.log f.state.store c then (found_after f c, came) else declines f (full Log log_limit)

-- a reply that was taken, and whether it was the last
abbrev pub took : Reply → Change → Came
took r c = Took (record { items = length r.items; wrote = length c.writes; usn = c.usn }) (is_some r.last)

-- a node that is shown to be put back is quarantined before it refuses
abbrev pub refuses : Found State → TakeRefusal → Made
refuses f refusal =
    if reply_shows refusal then committed f (quarantine f.state) (Declined (take_refused refusal))
    else declines f (take_refused refusal)

abbrev pub taken : Found State → Reply → Result Change TakeRefusal → Made
taken f r (Ok c) = committed f c (took r c)
taken f r (Err refusal) = refuses f refusal

abbrev pub outcome_of : Refusal → Outcome
outcome_of (Serve refusal) = serve_refused refusal
outcome_of (LogFull limit) = full Log limit

abbrev pub made : Found State → Said → Made
made f (Replies reply) = taken f reply (take f.state reply)
made f (Refuses refusal) = declines f (outcome_of refusal)

-- the line that is written: of a reply that was taken that of a delivery, of a refusal its result alone
abbrev pub line_of : List ℕ → Came → List ℕ
line_of name (Took taken last) =
    line (record { verb = codes "deliver"; name = name; outcome = outcomes.Took taken.items taken.wrote taken.usn })
line_of name (Declined outcome) = result_text outcome ++ codes "\n"

-- ---- a cycle

-- where a node stands while it pulls: what it is, what comes in and wasn't received yet, what was sent, and what was written
pub record Point : Type 0 where
  pub stands : Found State
  pub left : List ℕ
  pub sent : List ℕ
  pub written : List ℕ

-- how a cycle ends: the last reply was taken; the partner or the node refused; or what came wasn't what was due
pub data Ends : Type 0 where
  Over : Ends
  Refused : Ends
  BadPeer : Ends

abbrev pub ends_of : Came → Option Ends
ends_of (Took taken last) = then_some last Over
ends_of (Declined outcome) = Some Refused

-- where it comes to, and how it has ended, if it has
abbrev pub Course : Type 0
Course = Point × Option Ends

abbrev pub sends : Point → List ℕ → Point
sends p message = record p { sent = p.sent ++ frame message }

abbrev pub tells : List ℕ → Point → List ℕ → Option Made → Course
tells name p rest None = (record p { left = rest }, Some BadPeer)
tells name p rest (Some m) =
    (record p { stands = m.0; left = rest; written = p.written ++ line_of name m.1 }, ends_of m.1)

abbrev pub hears : List ℕ → Point → Option (List ℕ × List ℕ) → Course
hears name p None = (p, Some BadPeer)
hears name p (Some heard) = tells name p heard.1 (option_map (made p.stands) (said_in heard.0))

-- one request, and what comes of it
abbrev pub turn : List ℕ → Identifier → Point → Course
turn name partner p = hears name (sends p (request p.stands.state partner)) (heard_in p.left)

abbrev pub goes_on : Course → (Point → Course) → Course
goes_on (p, Some ends) go = (p, Some ends)
goes_on (p, None) go = go p

-- at most so many requests
unfoldable pub fetch : List ℕ → Identifier → ℕ → Point → Course
fetch name partner zero p = (p, None)
fetch name partner (suc n) p = goes_on (turn name partner p) (λ q. fetch name partner n q)

-- the partner that answers the greeting, and what is left behind its answer
abbrev pub met : Option (List ℕ × List ℕ) → Option (Identifier × List ℕ)
met heard = option_and_then (λ h. option_map (λ partner. (partner, h.1)) (partner_in h.0)) heard

abbrev pub meets : List ℕ → ℕ → Point → Option (Identifier × List ℕ) → Course
meets name n p None = (p, Some BadPeer)
meets name n p (Some m) = fetch name m.0 n (record p { left = m.1 })

-- a cycle of at most so many exchanges, the first of which is the greeting
abbrev pub pulled : List ℕ → ℕ → Point → Course
pulled name zero p = (p, None)
pulled name (suc n) p = meets name n (sends p greeting) (met (heard_in p.left))

-- the most replies of a cycle
abbrev pub reply_limit : ℕ
reply_limit = 1000000

-- the most exchanges of one: its greeting, and so many replies
abbrev pub exchange_limit : ℕ
exchange_limit = reply_limit + 1
