-- A connection: what a client says, how each message is answered, and where the node then stands.
use Rattle.std.specs.Prelude.{◌≡◌, if◌then◌else◌, ◌==◌, ◌&&◌, ℕ, zero, suc, List, [], ◌∷◌, ◌++◌, Bool, true, false, not, nat_le, length, codes, Option, Some, None, Result, Ok, Err}
use Rattle.adr_call.specs.declared.outcome.Outcome.{Outcome}
use Rattle.adr_call.specs.declared.refusal.ServeRefusal.{ServeRefusal}
use Rattle.adr_call.specs.declared.refusal.ServeRefusal.TheVariants as serves
use Rattle.adr_call.specs.declared.refusal.Table.TheVariants.{Log}
use Rattle.adr_wire.specs.declared.refusal.DecodeRefusal.{DecodeRefusal}
use Rattle.adr_call.specs.Verbs.{verb_of_call, word_of}
use Rattle.adr_answers.specs.Line.{nameless_line}
use Rattle.adr_model.specs.Change.{Change, after}
use Rattle.adr_model.specs.Client.{Done, call_meant, done}
use Rattle.adr_model.specs.Collect.{quarantine}
use Rattle.adr_model.specs.Lengths.{change_fits, log_limit, next_log}
use Rattle.adr_model.specs.Refused.{full}
use Rattle.adr_model.specs.Serve.{Request, Reply, serve}
use Rattle.adr_model.specs.Store.{State}
use Rattle.adr_law_journal.specs.Areas.{Found, found}
use Rattle.adr_packet.specs.Requests.{decoded_request}
use Rattle.adr_packet.specs.Replies.{reply_bytes}
use Rattle.adr_packet.specs.Refusals.{refusal_bytes}
use Rattle.adr_packet.specs.declared.refusal.Refusal.{Refusal}
use Rattle.adr_packet.specs.declared.refusal.Refusal.TheVariants.{Serve, LogFull}
use Rattle.adr_frames.specs.Frames.{Next, IsOver, IsBroken, IsFrame, next_in, frame}
use Rattle.adr_frames.specs.Messages.{has_line_feed}
use Rattle.adr_call.specs.declared.call.Call.{Call}
use Rattle.adr_session.specs.Lines.{call_said}

-- ---- what a client says

-- it asks for changes, it gives a line, or it asks who is there
pub data Said : Type 0 where
  Asks : (request : Request) → Said
  Gives : (line : List ℕ) → Said
  Greets : Said

-- the most bytes of a line
abbrev pub line_limit : ℕ
line_limit = 65536

-- a request, where the bytes are one
abbrev pub asked : Result Request DecodeRefusal → Option Said
asked (Ok request) = Some (Asks request)
asked (Err refusal) = None

-- a line isn't too long, and has no line feed
abbrev pub is_line : List ℕ → Bool
is_line bytes = nat_le (length bytes) line_limit && not (has_line_feed bytes)

-- what a frame of a client says, by its kind and what stands behind that
abbrev pub said_in : List ℕ → Option Said
said_in [] = None
said_in (kind ∷ body) =
    if kind == 1 then asked (decoded_request body)
    else if kind == 4 then (if is_line body then Some (Gives body) else None)
    else if kind == 6 then (if length body == 0 then Some Greets else None)
    else None

-- ---- how it is answered

-- where a node stands behind a message, its state and its log, and the bytes of the frame that it sends
abbrev pub Answered : Type 0
Answered = Found State × List ℕ

-- a change is committed before it is told, where there is room for it
abbrev pub committed : Found State → Change → List ℕ → List ℕ → Answered
committed f c told full =
    if change_fits f.log f.state.store c then (found (after f.state c) (next_log f.log f.state.store c), told) else (f, full)

-- the bytes of a refusal's frame
abbrev pub refused : Refusal → List ℕ
refused r = 3 ∷ refusal_bytes r

-- a controller that a request shows to be put back is quarantined before it refuses
abbrev pub refuses : Found State → ServeRefusal → Answered
refuses f (serves.RolledBack inv mine shown) =
    committed f (quarantine f.state) (refused (Serve (serves.RolledBack inv mine shown))) (refused (LogFull log_limit))
refuses f refusal = (f, refused (Serve refusal))

-- a request is answered by a reply or a refusal
abbrev pub replies : Found State → Result Reply ServeRefusal → Answered
replies f (Ok reply) = (f, 2 ∷ reply_bytes reply)
replies f (Err refusal) = refuses f refusal

-- the bytes of the frame that answers a line
abbrev pub told : Call → Outcome → List ℕ
told call outcome = 5 ∷ nameless_line (word_of (verb_of_call call)) outcome

-- a call is told by its outcome, or by a full log
abbrev pub did : Found State → Call → Done → Answered
did f call (outcome, None) = (f, told call outcome)
did f call (outcome, Some c) = committed f c (told call outcome) (told call (full Log log_limit))

-- a line that says no call is a bad one
abbrev pub acts : Found State → ℕ → Option Call → Answered
acts f now None = (f, 5 ∷ codes "bad line")
acts f now (Some call) = did f call (done f.state (call_meant call now))

-- what is said is answered
abbrev pub answered : Found State → ℕ → Said → Answered
answered f now (Asks request) = replies f (serve f.state request now)
answered f now (Gives line) = acts f now (call_said line)
answered f now Greets = (f, 7 ∷ f.state.dsa)

-- ---- one message

-- where a node stands in a connection
pub record Point : Type 0 where
  pub stands : Found State  -- its state, and its log
  pub moments : List ℕ  -- the moments that its clock is going to give
  pub left : List ℕ  -- what comes in and was not received yet
  pub sent : List ℕ  -- what was sent

-- how a connection ends: between two frames, with bytes that are no message of a client, behind as many messages as there may
-- be, or at a line or a request for which the clock has no moment
pub data Ends : Type 0 where
  Hung : Ends
  Malformed : Ends
  Limit : Ends
  Timeless : Ends

-- what a frame comes to: an answer, with the moments behind it, or the end of the connection
pub data Reaction : Type 0 where
  Sends : (answer : Answered) (moments : List ℕ) → Reaction
  Leaves : (ends : Ends) → Reaction

-- each line and each request takes a moment; a greeting takes none
abbrev pub takes_moment : Said → Bool
takes_moment (Asks request) = true
takes_moment (Gives line) = true
takes_moment Greets = false

abbrev pub next_moment : List ℕ → Option (ℕ × List ℕ)
next_moment [] = None
next_moment (now ∷ moments) = Some (now, moments)

-- the moment of a message, and the moments behind it
abbrev pub moment_of : Said → List ℕ → Option (ℕ × List ℕ)
moment_of said moments = if takes_moment said then next_moment moments else Some (0, moments)

-- what is said at a moment, if there is one
abbrev pub at_moment : Found State → Said → Option (ℕ × List ℕ) → Reaction
at_moment f said None = Leaves Timeless
at_moment f said (Some m) = Sends (answered f m.0 said) m.1

-- a frame that says nothing ends the connection
abbrev pub reacts : Found State → List ℕ → Option Said → Reaction
reacts f moments None = Leaves Malformed
reacts f moments (Some said) = at_moment f said (moment_of said moments)

-- what the bytes of a frame come to
abbrev pub reaction : Found State → List ℕ → List ℕ → Reaction
reaction f moments bytes = reacts f moments (said_in bytes)

-- one message is answered, or the connection ends
pub data Turn : Type 0 where
  Goes : (point : Point) → Turn
  Stops : (ends : Ends) → Turn

-- the answer is sent as a frame
abbrev pub does : Point → List ℕ → Reaction → Turn
does p rest (Leaves ends) = Stops ends
does p rest (Sends a moments) = Goes (record { stands = a.0; moments = moments; left = rest; sent = p.sent ++ frame a.1 })

-- what comes next is answered
abbrev pub takes : Point → Next → Turn
takes p IsOver = Stops Hung
takes p IsBroken = Stops Malformed
takes p (IsFrame bytes rest) = does p rest (reaction p.stands p.moments bytes)

-- the next message, or the end
abbrev pub turn : Point → Turn
turn p = takes p (next_in p.left)

-- ---- a connection

-- where it comes to, how many messages were answered, and how it ends
abbrev pub Talk : Type 0
Talk = Point × ℕ × Ends

-- with one message more before it
abbrev pub one_more : Talk → Talk
one_more t = (t.0, suc t.1, t.2)

-- a message that was answered, and then the others
abbrev pub goes_on : Point → Turn → (Point → Talk) → Talk
goes_on p (Stops ends) go = (p, 0, ends)
goes_on p (Goes q) go = one_more (go q)

-- a connection of at most so many messages
abbrev pub talk : ℕ → Point → Talk
talk zero p = (p, 0, Limit)
talk (suc n) p = goes_on p (turn p) (λ q. talk n q)

-- behind so many messages, all of which were answered, it stands there
abbrev pub Reaches : ℕ → Point → Point → Type 0
Reaches n p q = talk n p ≡ (q, n, Limit)

-- the most messages of a connection
abbrev pub message_limit : ℕ
message_limit = 1000000
