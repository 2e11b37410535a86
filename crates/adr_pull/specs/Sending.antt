-- A client's lines over a connection: what is sent, and what of the answers is written.
use Rattle.std.specs.Prelude.{if◌then◌else◌, ◌≡◌, ◌⊎◌, ◌==◌, ◌&&◌, ◌++◌, ℕ, nat_eq, not, List, [], ◌∷◌, filter}
use Rattle.std.specs.Prelude.{length, drop, codes, Bool, true, false, Option, Some, None, Result, Ok, Err}
use Rattle.std.specs.Bool.{then_some}
use Rattle.std.specs.List.{starts_with}
use Rattle.std.specs.Option.{option_map, option_map_or}
use Rattle.adr_token.specs.Words.{word_at}
use Rattle.adr_schedule.specs.Commands.{is_passed}
use Rattle.adr_schedule.specs.Lines.{lines_of}
use Rattle.adr_outside.specs.Traffic.{Traffic}
use Rattle.adr_frames.specs.Frames.{frame}
use Rattle.adr_frames.specs.Messages.{has_line_feed}
use Rattle.adr_pull.specs.declared.fault.SendFault.{SendFault}
use Rattle.adr_pull.specs.declared.fault.SendFault.TheVariants as faults
use Rattle.adr_pull.specs.Exchange.{HasSent, HasSentFront, heard_in, moved}
use Rattle.adr_pull.specs.Told.{HasDone, IsBetween}

-- the lines of a text that say something
abbrev pub spoken : List ℕ → List (List ℕ)
spoken text = filter (λ line. not (is_passed line)) (lines_of text)

-- ---- a line and its answer

-- the first word of a line, which its answer repeats
abbrev pub verb_in : List ℕ → List ℕ
verb_in line = option_map_or (λ w. w.0) (word_at line) []

-- whether a line was accepted, by what stands behind the verb of its answer
abbrev pub accepted_by : List ℕ → Option Bool
accepted_by rest =
    if starts_with nat_eq rest (codes ": ok") then Some true
    else then_some (starts_with nat_eq rest (codes ": refused ")) false

-- the same, of an answer that has no line feed and begins with the verb
abbrev pub accepts : List ℕ → List ℕ → Option Bool
accepts verb answer =
    if has_line_feed answer then None
    else if starts_with nat_eq answer verb then accepted_by (drop (length verb) answer) else None

-- the answer in a frame, if it is due behind a line: kind 5; and whether it accepts
abbrev pub answer_in : List ℕ → List ℕ → Option (List ℕ × Bool)
answer_in line [] = None
answer_in line (kind ∷ answer) =
    if kind == 5 then option_map (λ accepted. (answer, accepted)) (accepts (verb_in line) answer) else None

-- ---- a connection

-- where a client stands: what comes in and wasn't received yet, what was sent and written, and whether all was accepted
pub record Place : Type 0 where
  pub left : List ℕ
  pub sent : List ℕ
  pub written : List ℕ
  pub accepted : Bool

-- where it comes to, and whether something came that wasn't due
abbrev pub Course : Type 0
Course = Place × Bool

-- a line: a frame of kind 4
abbrev pub says : Place → List ℕ → Place
says p line = record p { sent = p.sent ++ frame (4 ∷ line) }

abbrev pub tells : Place → List ℕ → Option (List ℕ × Bool) → Course
tells p rest None = (record p { left = rest }, true)
tells p rest (Some a) =
    (record p { left = rest; written = p.written ++ a.0 ++ codes "\n"; accepted = p.accepted && a.1 }, false)

abbrev pub hears : List ℕ → Place → Option (List ℕ × List ℕ) → Course
hears line p None = (p, true)
hears line p (Some heard) = tells p heard.1 (answer_in line heard.0)

-- one line
abbrev pub exchange : List ℕ → Place → Course
exchange line p = hears line (says p line) (heard_in p.left)

abbrev pub goes_on : Course → (Place → Course) → Course
goes_on (p, true) go = (p, true)
goes_on (p, false) go = go p

-- lines, one after the other
abbrev pub converse : List (List ℕ) → Place → Course
converse [] p = (p, false)
converse (line ∷ lines) p = goes_on (exchange line p) (λ q. converse lines q)

-- ---- what is told, where `done` says what was sent and written

-- what is left, was sent and was written is what the place says
pub record IsAt (t : Traffic) (p : Place) (traffic : Option Traffic) (written : Option (List ℕ)) : Type 0 where
  pub net : traffic ≡ Some (record t { left = p.left; sent = p.sent })
  pub lines : written ≡ Some p.written

-- between one place and the next: a front of what is sent was sent, and nothing was written
abbrev pub IsSaying : (List ℕ → List ℕ → Type 0) → Place → Place → Type 0
IsSaying done p q = (sent : List ℕ) × IsBetween p.sent sent q.sent × done sent p.written

-- all was sent, and a front of what is written was written
abbrev pub IsTelling : (List ℕ → List ℕ → Type 0) → Place → Place → Type 0
IsTelling done p q = (told : List ℕ) × IsBetween p.written told q.written × done q.sent told

-- no frame was heard behind a message: none that is whole came, or a call failed
abbrev pub Fails : Traffic → List ℕ → SendFault → Option Traffic → Type 0
Fails t message faults.BadPeer after = (heard_in t.left ≡ None) × HasSent t (frame message) after
Fails t message faults.Link after = HasSentFront t (frame message) after
Fails t message faults.NoMemory after = HasSentFront t (frame message) after
Fails t message faults.Write after = ⊥

-- a message was sent, and this frame heard
abbrev pub Said : {V : Type 0} → (V → List ℕ) → Traffic → List ℕ → Result V SendFault → Option Traffic → Type 0
Said items t message (Ok v) after =
    (rest : List ℕ) × (heard_in t.left ≡ Some (items v, rest)) × (after ≡ Some (moved t rest (frame message)))
Said items t message (Err fault) after = Fails t message fault after

-- what a line comes to, from a place: whether it was accepted
abbrev pub TakesLine : Traffic → Place → Course → Result Bool SendFault → Option Traffic → Option (List ℕ) → Type 0
TakesLine t p next (Ok accepted) net lines = (next.1 ≡ false) × (next.0.accepted ≡
    (p.accepted && accepted)) × IsAt t next.0 net lines
TakesLine t p next (Err faults.BadPeer) net lines = (next.1 ≡ true) × HasDone t net lines next.0.sent next.0.written
TakesLine t p next (Err faults.Link) net lines = IsSaying (HasDone t net lines) p next.0
TakesLine t p next (Err faults.Write) net lines = IsTelling (HasDone t net lines) p next.0
TakesLine t p next (Err faults.NoMemory) net lines = IsSaying (HasDone t net lines) p next.0 ⊎ IsTelling (HasDone t net lines) p next.0

-- some of the lines were sent and answered, and this holds of where it then stands and of where the next line comes to
abbrev pub Within : List (List ℕ) → Place → (Place → Place → Type 0) → Type 0
Within lines p P =
    (done : List (List ℕ)) × (line : List ℕ) × (more : List (List ℕ)) × (lines ≡ done ++ line ∷ more)
    × ((converse done p).1 ≡ false) × P (converse done p).0 (exchange line (converse done p).0).0

-- what lines come to, from a place, where `at` says that all is as a place says
abbrev pub Sends : (Place → Type 0) → (List ℕ → List ℕ → Type 0) → Place → List (List ℕ) → Result Bool SendFault → Type 0
Sends at done p lines (Ok all) = ((converse lines p).1 ≡ false) × (all ≡ (converse lines p).0.accepted) × at (converse lines p).0
Sends at done p lines (Err faults.BadPeer) =
    ((converse lines p).1 ≡ true) × done (converse lines p).0.sent (converse lines p).0.written
Sends at done p lines (Err faults.Link) = Within lines p (λ a b. IsSaying done a b)
Sends at done p lines (Err faults.Write) = Within lines p (λ a b. IsTelling done a b)
Sends at done p lines (Err faults.NoMemory) = Within lines p (λ a b. IsSaying done a b ⊎ IsTelling done a b)
