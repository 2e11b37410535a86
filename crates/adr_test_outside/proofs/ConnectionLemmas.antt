-- What opening a connection and sending in it leaves of two lists of buffers.
use Rattle.std.proofs.Common.{◌≡◌, ℕ, ◌+◌, ◌<◌, Bool, true, nat_lt, List, [], ◌∷◌, ◌++◌, length, take, drop, get_or, set, Some, Vec, Global}
use Rattle.std.proofs.Common.{sym, ap, ◌∙◌, inl, inr, arith}
use Rattle.std.specs.Prelude.{if◌then◌else◌, ◌≢◌}
use Rattle.std.proofs.lemmas.Grind.{common_steps}
use Rattle.std.proofs.lemmas.List.{drop_more, drop_all, length_push, length-map, length-set, map_push, map-set, take-append-le, take-set}
use Rattle.std.proofs.lemmas.List.{get_or_push, get_or-map, get_or-set_same}
use Rattle.std.proofs.lemmas.Bool.{cases_lt, ltb-true}
use Rattle.adr_outside.specs.Traffic.{Traffic, Opens, Sends, hung_up}
use Rattle.adr_test_outside.specs.Connections.{Buffers, bytes_of, bytes_at, told_of, IsWhole}

-- the bytes of a buffer
abbrev pub bytes : Vec ℕ Global → List ℕ
bytes v = v.items

hung : (incoming sent : Buffers) (n received : ℕ) → IsWhole incoming sent n received
    → told_of incoming sent (length sent) 0 ≡ hung_up (told_of incoming sent n received)
hung incoming sent n received whole = grind (arith, common_steps, drop_more, length-map)

-- where one is waiting there is one more
pub one_more : (incoming sent : Buffers) → drop (length sent) (bytes_of incoming) ≢ [] → length sent < length incoming
one_more incoming sent some =
    elim (cases_lt (length sent) (length incoming)) [
      | inl more ↦ more
      | inr all ↦ absurd (some (drop_all (length sent) (bytes_of incoming) (omega (arith, length-map incoming bytes))))
    ]

-- the next one is opened
pub opens : (incoming sent : Buffers) (v : Vec ℕ Global) (n received : ℕ) → IsWhole incoming sent n received → length sent < length incoming
    → v.items ≡ [] → Opens (told_of incoming sent n received) (Some (told_of incoming (sent ++ v ∷ []) (length sent) 0))
opens incoming sent v n received whole more empty =
    let all = length sent in
    let first = drop_more (bytes_of incoming) all [] (omega (arith, length-map incoming bytes)) in
    let long = length_push sent v in
    let pushed : bytes_of (sent ++ v ∷ []) ≡ bytes_of sent ++ [] ∷ [] = map_push bytes sent v ∙ ap (λ (b : List ℕ). bytes_of sent ++ b ∷ []) empty in
    let last = get_or_push (bytes_of sent) [] [] all (length-map sent bytes) in
    let none : bytes_at (sent ++ v ∷ []) all ≡ [] = ap (λ (bs : List (List ℕ)). get_or bs all []) pushed ∙ last in
    let kept = take-append-le all (bytes_of sent) ([] ∷ []) (omega (arith, length-map sent bytes)) in
    let front : take all (bytes_of (sent ++ v ∷ [])) ≡ take all (bytes_of sent) = ap (λ (bs : List (List ℕ)). take all bs) pushed ∙ kept in
    let done = front ∙ ap (λ (t : Traffic). t.done) (hung incoming sent n received whole) in
    let is_open : nat_lt all (length (sent ++ v ∷ [])) ≡ true = grind (arith, common_steps) in
    let left = ap (λ (b : Bool). (if b then bytes_at incoming all else [])) is_open in
    (bytes_at incoming all, drop (all + 1) (bytes_of incoming), first, ap Some cc)

-- an open connection is one that was opened
pub opened : (incoming sent : Buffers) (n received : ℕ) → (told_of incoming sent n received).is_open ≡ true → n < length sent
opened incoming sent n received is_open = ltb-true n (length sent) is_open

-- the bytes of a buffer that was read
here : (sent : Buffers) (n : ℕ) (v : Vec ℕ Global) → n < length sent → v ≡ get_or sent n v → v.items ≡ bytes_at sent n
here sent n v low is = ap bytes is ∙ sym (get_or-map bytes sent n v [] low)

-- only what was sent in the open one is another
only_sent : (incoming sent : Buffers) (w : Vec ℕ Global) (n received : ℕ) (b : List ℕ) → n < length sent → w.items ≡ b
    → told_of incoming (set sent n w) n received ≡ record (told_of incoming sent n received) { sent = b }
only_sent incoming sent w n received b low is =
    let placed : bytes_of (set sent n w) ≡ set (bytes_of sent) n b = map-set bytes sent n w ∙ ap (λ (b : List ℕ). set (bytes_of sent) n b) is in
    let same = get_or-set_same (bytes_of sent) n b [] (omega (arith, length-map sent bytes)) in
    let now : bytes_at (set sent n w) n ≡ b = ap (λ (bs : List (List ℕ)). get_or bs n []) placed ∙ same in
    let front = take-set (bytes_of sent) n b in
    let done : take n (bytes_of (set sent n w)) ≡ take n (bytes_of sent) = ap (λ (bs : List (List ℕ)). take n bs) placed ∙ front in
    let long = length-set sent n w in
    let waiting = ap (λ (k : ℕ). drop k (bytes_of incoming)) long in
    let is_open = ap (λ (k : ℕ). nat_lt n k) long in
    let left = ap (λ (k : ℕ). (if nat_lt n k then drop received (bytes_at incoming n) else [])) long in
    cc

-- more is sent in the open one
pub sends : (incoming sent : Buffers) (v w : Vec ℕ Global) (n received : ℕ) (more : List ℕ) → n < length sent → v ≡ get_or sent n v
    → w.items ≡ v.items ++ more → Sends (told_of incoming sent n received) (Some (told_of incoming (set sent n w) n received)) more
sends incoming sent v w n received more low is longer =
    let is_open : nat_lt n (length sent) ≡ true = grind (arith, common_steps) in
    let now = longer ∙ ap (λ (b : List ℕ). b ++ more) (here sent n v low is) in
    (is_open, ap Some (only_sent incoming sent w n received (bytes_at sent n ++ more) low now))

-- nothing more is sent
pub unsent : (incoming sent : Buffers) (v w : Vec ℕ Global) (n received : ℕ) → n < length sent → v ≡ get_or sent n v → w.items ≡ v.items
    → told_of incoming (set sent n w) n received ≡ told_of incoming sent n received
unsent incoming sent v w n received low is same = only_sent incoming sent w n received (bytes_at sent n) low (same ∙ here sent n v low is)
