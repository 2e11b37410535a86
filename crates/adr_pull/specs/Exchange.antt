-- One exchange of a connection: a frame is sent, and the next one heard.
use Rattle.std.specs.Prelude.{◌≡◌, ℕ, List, ◌++◌, take, Option, Some, None, Result, Ok, Err}
use Rattle.adr_io.specs.declared.Fault.{Fault}
use Rattle.adr_outside.specs.Traffic.{Traffic}
use Rattle.adr_frames.specs.Frames.{Next, IsOver, IsBroken, IsFrame, frame, next_in}

-- the bytes of the frame that comes next, if there is a whole one, and what is left behind it
abbrev pub heard_of : Next → Option (List ℕ × List ℕ)
heard_of IsOver = None
heard_of IsBroken = None
heard_of (IsFrame bytes rest) = Some (bytes, rest)

abbrev pub heard_in : List ℕ → Option (List ℕ × List ℕ)
heard_in left = heard_of (next_in left)

-- this is left, and so much more was sent
abbrev pub moved : Traffic → List ℕ → List ℕ → Traffic
moved t left more = record t { left = left; sent = t.sent ++ more }

-- all of the bytes were sent, and some part of what comes was received
abbrev pub HasSent : Traffic → List ℕ → Option Traffic → Type 0
HasSent t bytes after = (left : List ℕ) × (after ≡ Some (moved t left bytes))

-- a front of them was
abbrev pub HasSentFront : Traffic → List ℕ → Option Traffic → Type 0
HasSentFront t bytes after = (left : List ℕ) × (n : ℕ) × (after ≡ Some (moved t left (take n bytes)))

-- a message was sent as a frame, and this is what was heard
abbrev pub Hears : {V : Type 0} → (V → List ℕ) → Traffic → List ℕ → Option V → Option Traffic → Type 0
Hears items t message (Some v) after =
    (rest : List ℕ) × (heard_in t.left ≡ Some (items v, rest)) × (after ≡ Some (moved t rest (frame message)))
Hears items t message None after = (heard_in t.left ≡ None) × HasSent t (frame message) after

abbrev pub Exchanges : {V : Type 0} → (V → List ℕ) → Traffic → List ℕ → Result (Option V) Fault → Option Traffic → Type 0
Exchanges items t message (Ok heard) after = Hears items t message heard after
Exchanges items t message (Err fault) after = HasSentFront t (frame message) after
