-- Bytes over bytes, and what is held of them.
use Rattle.std.proofs.Common.{◌≡◌, ℕ, ◌+◌, ◌-◌, ◌≤◌, ◌<◌, List, [], ◌∷◌, ◌++◌, length, take, drop, get_or, Bool, if◌then◌else◌, sym, ◌∙◌, ap, arith, append_assoc, length-append, take-append-drop}
use Rattle.std.proofs.lemmas.Bool.{lt-ltb}
use Rattle.std.proofs.lemmas.List.{drop-drop, drop_at, drop_more, take_at, length-take-le}
use Rattle.adr_disk.specs.Disk.{put, Torn}
use Rattle.adr_law_journal.specs.Log.{open_gate}
use Rattle.adr_law_journal.proofs.Windows.{torn_before}
use Rattle.adr_gather.specs.Held.{opened, with_held}

pub put_at : (xs ys : List ℕ) (n : ℕ) (bytes : List ℕ) → length xs ≡ n → put (xs ++ ys) n bytes ≡ (xs ++ bytes) ++ drop (length bytes) ys
put_at xs ys n bytes is =
    ap (λ (l : List ℕ). (l ++ bytes) ++ drop (n + length bytes) (xs ++ ys)) (take_at xs ys n is)
    ∙ ap (λ (l : List ℕ). (xs ++ bytes) ++ l) (sym (drop-drop (length bytes) n (xs ++ ys)) ∙ ap (drop (length bytes)) (drop_at xs ys n is))

-- behind a byte, and then the byte
put_front : (there rest : List ℕ) (gate b : ℕ) → gate < length there → put (put there (gate + 1) rest) gate (b ∷ []) ≡ put there gate (b ∷ rest)
put_front there rest gate b within =
    let a : List ℕ = take gate there in
    let g = get_or there gate 0 in
    let behind : List ℕ = drop (gate + 1) there in
    let x : List ℕ = drop (length rest) behind in
    let long : length a ≡ gate = length-take-le gate there (omega (arith, within)) in
    let parts : there ≡ (a ++ g ∷ []) ++ behind = sym (take-append-drop gate there) ∙ ap (λ (l : List ℕ). a ++ l) (drop_more there gate 0 within) ∙ sym (append_assoc a (g ∷ []) behind) in
    let n : length (a ++ g ∷ []) ≡ gate + 1 = omega (arith, length-append a (g ∷ []), long) in
    let first : put there (gate + 1) rest ≡ a ++ g ∷ (rest ++ x) = ap (λ (l : List ℕ). put l (gate + 1) rest) parts ∙ put_at (a ++ g ∷ []) behind (gate + 1) rest n ∙ append_assoc (a ++ g ∷ []) rest x ∙ append_assoc a (g ∷ []) (rest ++ x) in
    let left : put (put there (gate + 1) rest) gate (b ∷ []) ≡ (a ++ b ∷ []) ++ (rest ++ x) = ap (λ (l : List ℕ). put l gate (b ∷ [])) first ∙ put_at a (g ∷ (rest ++ x)) gate (b ∷ []) long in
    let last : drop (gate + length (b ∷ rest)) there ≡ x = ap (λ (m : ℕ). drop m there) (omega arith) ∙ sym (drop-drop (length rest) (gate + 1) there) in
    left ∙ append_assoc a (b ∷ []) (rest ++ x) ∙ sym (append_assoc a (b ∷ rest) x) ∙ ap (λ (l : List ℕ). (a ++ b ∷ rest) ++ l) (sym last)

-- ---- what is held

-- where something is, and there is such a gate, it is opened
pub some_held : (gate : ℕ) (held there : List ℕ) → 1 ≤ length held → gate < length there → with_held gate held there ≡ opened there gate held
some_held gate [] there some within = absurd (omega (arith, some))
some_held gate (b ∷ held) there some within = ap (λ (c : Bool). if c then opened there gate (b ∷ held) else there) (lt-ltb gate (length there) within)

-- and all is one piece
pub in_one_piece : (gate : ℕ) (held there : List ℕ) → 1 ≤ length held → gate < length there → with_held gate held there ≡ put there gate (open_gate ∷ held)
in_one_piece gate held there some within = some_held gate held there some within ∙ put_front there held gate open_gate within

-- a write that is torn within what is held is made good by writing it again
pub torn_same : (gate : ℕ) (held : List ℕ) (at n : ℕ) (there left : List ℕ) → 1 ≤ length held → gate < length there → Torn at n there left → gate ≤ at → at ≤ length there → at + n ≤ gate + 1 + length held
    → with_held gate held left ≡ with_held gate held there
torn_same gate held at n there left some within torn low near high =
    let tail : List ℕ = open_gate ∷ held in
    let k = gate + length tail in
    let m = k - (at + n) in
    let front : take gate left ≡ take gate there = torn_before at n there left torn 0 gate near (omega (arith, low)) in
    let is_k : at + n + m ≡ k = omega (arith, high) in
    let behind : drop k left ≡ drop k there =
    ap (λ (i : ℕ). drop i left) (sym is_k) ∙ sym (drop-drop m (at + n) left) ∙ ap (drop m) torn.after ∙ drop-drop m (at + n) there ∙ ap (λ (i : ℕ). drop i there) is_k in
    in_one_piece gate held left some (omega (arith, within, torn.no_shorter))
    ∙ (λ i. front i ++ tail ++ behind i)
    ∙ sym (in_one_piece gate held there some within)
