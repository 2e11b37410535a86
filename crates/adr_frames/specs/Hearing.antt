-- What was heard of a connection, by what its network tells.
use Rattle.std.specs.Prelude.{◌≡◌, ⊤, ℕ, ◌<◌, ◌≤◌, List, take, drop, length, Option, Some, IfSome}
use Rattle.adr_outside.specs.Traffic.{Traffic}
use Rattle.adr_frames.specs.declared.hearing.Heard.{Heard}
use Rattle.adr_frames.specs.declared.hearing.Heard.TheVariants.{Over, Broken, Frame}
use Rattle.adr_frames.specs.Frames.{IsOver, IsBroken, IsFrame, next_in}

-- what comes next was heard, and of a frame all that stands behind it is left
abbrev pub Hears : Heard → Option Traffic → Option Traffic → Type 0
Hears Over before after = IfSome before (λ t. next_in t.left ≡ IsOver)
Hears Broken before after = IfSome before (λ t. next_in t.left ≡ IsBroken)
Hears (Frame bytes) before after =
    IfSome before (λ t. (rest : List ℕ) × (next_in t.left ≡ IsFrame bytes.items rest) × (after ≡ Some (record t { left = rest })))

-- behind a length: fewer bytes were left, or so many were heard
abbrev pub HearsBody : ℕ → Heard → Option Traffic → Option Traffic → Type 0
HearsBody n Over before after = ⊥
HearsBody n Broken before after = IfSome before (λ t. length t.left < n)
HearsBody n (Frame bytes) before after =
    IfSome before (λ t. (n ≤ length t.left) × (bytes.items ≡ take n t.left) × (after ≡ Some (record t { left = drop n t.left })))

-- the length of the frame, if one was heard
abbrev pub IfFrame : Heard → (ℕ → Type 0) → Type 0
IfFrame Over P = ⊤
IfFrame Broken P = ⊤
IfFrame (Frame bytes) P = P (length bytes.items)

-- a part of what comes was received, and nothing else of the network has changed
abbrev pub IsPartReceived : Option Traffic → Option Traffic → Type 0
IsPartReceived before after = IfSome before (λ t. (n : ℕ) × (after ≡ Some (record t { left = drop n t.left })))
