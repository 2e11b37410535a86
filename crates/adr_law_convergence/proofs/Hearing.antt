-- Who hears from whom, by lists alone.
use Rattle.std.proofs.Common.{◌≡◌, ◌⊎◌, inl, inr, ⊎_elim, ℕ, zero, suc, ◌+◌, ◌≤◌, List, [], ◌∷◌, ◌++◌, Bool, true, false, ◌&&◌, refl, sym, ap, ◌∙◌, subst, length, arith}
use Rattle.std.specs.Str.{bytes_eq}
use Rattle.std.proofs.lemmas.Bool.{and_from, and_parts, or_left, or_right, or_cases}
use Rattle.adr_model.specs.Member.{Member, Each}
use Rattle.adr_model.specs.World.{Name}
use Rattle.adr_law_convergence.proofs.Found.{same_name, same_name_tests}
use Rattle.adr_model.specs.Rings.{Connection, last_of, in_line, ring}
use Rattle.adr_law_convergence.specs.Rounds.{Exchange, passed_on, spread, AllHear, IsRound, in_turn, Reaches, AreWithin, AreConnected, RoundsReach, RingsAreConnected}
use Rattle.adr_law_convergence.proofs.Spreading.{Passes, Passed, settles}

-- who has it
abbrev Has : (Name → Bool) → Name → Type 0
Has t x = t x ≡ true

pub has_still : (t : Name → Bool) (x : Exchange) (n : Name) → Has t n → Has (passed_on t x) n
has_still t x n h = or_left (t n) (bytes_eq n x.dest && t x.source) h

pub has_now : (t : Name → Bool) (x : Exchange) → Has t x.source → Has (passed_on t x) x.dest
has_now t x h = or_right (t x.dest) (bytes_eq x.dest x.dest && t x.source) (and_from _ _ (same_name_tests x.dest x.dest refl) h)

passes : (t : Name → Bool) (x : Exchange) → Passes Has Has t (passed_on t x) x.dest x.source
passes t x = record { holds = λ n h. h; keeps = has_still t x; took = has_now t x; gained = gained }
  where
    gained : (n : Name) → Has (passed_on t x) n → Has t n ⊎ ((n ≡ x.dest) × Has t x.source × (Has t x.dest → ⊥))
    gained n h = by (t n) refl
      where
        new : t n ≡ false → (bytes_eq n x.dest ≡ true) × (t x.source ≡ true) → (n ≡ x.dest) × Has t x.source × (Has t x.dest → ⊥)
        new is p = let same : n ≡ x.dest = same_name n x.dest p.0 in (same, p.1, λ k. let l : t n ≡ true = ap t same ∙ k in absurd (cc))

        by : (b : Bool) → t n ≡ b → Has t n ⊎ ((n ≡ x.dest) × Has t x.source × (Has t x.dest → ⊥))
        by true is = inl is
        by false is = ⊎_elim (λ k. inl k) (λ k. inr (new is (and_parts (bytes_eq n x.dest) (t x.source) k))) (or_cases (t n) (bytes_eq n x.dest && t x.source) h)

spreads : (xs : List Exchange) (t : Name → Bool) → Passed Has Has t xs (spread t xs)
spreads [] t = refl
spreads (x ∷ xs) t = (passed_on t x, passes t x, spreads xs (passed_on t x))

pub still : (xs : List Exchange) (t : Name → Bool) (n : Name) → Has t n → Has (spread t xs) n
still [] t n h = h
still (x ∷ xs) t n h = still xs (passed_on t x) n (has_still t x n h)

spread_on : (xs ys : List Exchange) (t : Name → Bool) → spread t (xs ++ ys) ≡ spread (spread t xs) ys
spread_on [] ys t = refl
spread_on (x ∷ xs) ys t = spread_on xs ys (passed_on t x)

-- along a connection within a round
along : (xs : List Exchange) (t : Name → Bool) (x : Exchange) → Member x xs → Has t x.source → Has (spread t xs) x.dest
along [] t x m h = absurd m
along (y ∷ ys) t x (inl e) h = still ys (passed_on t y) x.dest (subst (λ (z : Exchange). Has (passed_on t z) x.dest) e (has_now t x h))
along (y ∷ ys) t x (inr m) h = along ys (passed_on t y) x m (has_still t y x.source h)

in_round : (over : List Connection) (xs : List Exchange) (t : Name → Bool) (from next : Name) → IsRound over xs → Member (next, from) over → Has t from → Has (spread t xs) next
in_round over xs t from next is m h = let x = is.each (next, from) m in
    subst (λ (c : Connection). Has (spread t xs) c.0) x.2 (along xs t x.0 x.1 (subst (λ (c : Connection). Has t c.1) (sym x.2) h))

-- as many rounds as there are steps
within : (over : List Connection) (rs : List (List Exchange)) (n : ℕ) (t : Name → Bool) (from name : Name) → Each (IsRound over) rs → n ≤ length rs → Reaches over n from name → Has t from
    → Has (spread t (in_turn rs)) name
within over rs zero t from name are le way h = still (in_turn rs) t name (subst (Has t) (sym way) h)
within over [] (suc n) t from name are le way h = absurd (omega (arith, le))
within over (r ∷ rs) (suc n) t from name are le (inl short) h =
    subst (λ (s : Name → Bool). Has s name) (sym (spread_on r (in_turn rs) t)) (within over rs n (spread t r) from name (λ x m. are x (inr m)) (omega (arith, le)) short (still r t from h))
within over (r ∷ rs) (suc n) t from name are le (inr (next, m, rest)) h =
    subst (λ (s : Name → Bool). Has s name) (sym (spread_on r (in_turn rs) t)) (within over rs n (spread t r) next name (λ x k. are x (inr k)) (omega (arith, le)) rest (in_round over r t from next (are r (inl refl)) m h))

-- where nobody that pulls from one who has it lacks it
everywhere : (over : List Connection) (t : Name → Bool) (n : ℕ) (from name : Name) → Each (λ c. Has t c.1 → Has t c.0) over → Reaches over n from name → Has t from → Has t name
everywhere over t zero from name closed way h = subst (Has t) (sym way) h
everywhere over t (suc n) from name closed (inl short) h = everywhere over t n from name closed short h
everywhere over t (suc n) from name closed (inr (next, m, rest)) h = everywhere over t n next name closed rest (closed (next, from) m h)

start : (from : Name) → Has (λ n. bytes_eq n from) from
start from = same_name_tests from from refl

pub rounds_reach : RoundsReach
rounds_reach over names rs are = (near, connected)
  where
    near : (n : ℕ) → AreWithin over names n → n ≤ length rs → AllHear names (in_turn rs)
    near n ways le name m from k = within over rs n (λ z. bytes_eq z from) from name are le (ways name m from k) (start from)

    connected : AreConnected over names → length names ≤ length rs + 1 → AllHear names (in_turn rs)
    connected is many name m from k = let way = is.ways name m from k in everywhere over (spread (λ z. bytes_eq z from) (in_turn rs)) way.0 from name closed way.1 (still (in_turn rs) (λ z. bytes_eq z from) from (start from))
      where
        closed : Each (λ c. Has (spread (λ z. bytes_eq z from) (in_turn rs)) c.1 → Has (spread (λ z. bytes_eq z from) (in_turn rs)) c.0) over
        closed = settles Has Has names over is.among rs (λ z. bytes_eq z from) (spread (λ z. bytes_eq z from) (in_turn rs)) (λ x h. h) are (spreads (in_turn rs) (λ z. bytes_eq z from)) many

-- ---- the ring

-- some way
abbrev Way : List Connection → Name → Name → Type 0
Way over from name = (n : ℕ) × Reaches over n from name

joined : (over : List Connection) (n : ℕ) (a b c : Name) → Reaches over n a b → Way over b c → Way over a c
joined over zero a b c way rest = subst (λ x. Way over x c) way rest
joined over (suc n) a b c (inl short) rest = joined over n a b c short rest
joined over (suc n) a b c (inr (next, m, way)) rest = let t = joined over n next b c way rest in (suc t.0, inr (next, m, t.1))

step : (over : List Connection) (a b c : Name) → Member (b, a) over → Way over b c → Way over a c
step over a b c m rest = (suc rest.0, inr (b, m, rest.1))

-- forward along a line
from_first : (over : List Connection) (first : Name) (xs : List Name) → Each (λ c. Member c over) (in_line first xs) → (x : Name) → Member x (first ∷ xs) → Way over first x
from_first over first xs within x (inl e) = (0, e)
from_first over first [] within x (inr m) = absurd m
from_first over first (y ∷ ys) within x (inr m) = step over first y x (within (y, first) (inl refl)) (from_first over y ys (λ c k. within c (inr k)) x m)

to_last : (over : List Connection) (first : Name) (xs : List Name) → Each (λ c. Member c over) (in_line first xs) → (x : Name) → Member x (first ∷ xs) → Way over x (last_of first xs)
to_last over first [] within x (inl e) = (0, sym e)
to_last over first [] within x (inr m) = absurd m
to_last over first (y ∷ ys) within x (inl e) = subst (λ z. Way over z (last_of y ys)) (sym e) (step over first y (last_of y ys) (within (y, first) (inl refl)) (to_last over y ys (λ c k. within c (inr k)) y (inl refl)))
to_last over first (y ∷ ys) within x (inr m) = to_last over y ys (λ c k. within c (inr k)) x m

last_there : (first : Name) (xs : List Name) → Member (last_of first xs) (first ∷ xs)
last_there first [] = inl refl
last_there first (x ∷ xs) = inr (last_there x xs)

line_among : (first : Name) (xs : List Name) → Each (λ c. Member c.0 xs × Member c.1 (first ∷ xs)) (in_line first xs)
line_among first [] c m = absurd m
line_among first (x ∷ xs) c (inl e) = (inl (ap (λ (d : Connection). d.0) e), inl (ap (λ (d : Connection). d.1) e))
line_among first (x ∷ xs) c (inr m) = let t = line_among x xs c m in (inr t.0, inr t.1)

pub rings_are_connected : RingsAreConnected
rings_are_connected x xs = record { among = among; ways = ways }
  where
    among : Each (λ c. Member c.0 (x ∷ xs) × Member c.1 (x ∷ xs)) (ring x xs)
    among c (inl e) = (inl (ap (λ (d : Connection). d.0) e), subst (λ y. Member y (x ∷ xs)) (sym (ap (λ (d : Connection). d.1) e)) (last_there x xs))
    among c (inr m) = let t = line_among x xs c m in (inr t.0, t.1)

    ways : Each (λ name. Each (λ from. Way (ring x xs) from name) (x ∷ xs)) (x ∷ xs)
    ways name m from k = let over = ring x xs in
        let to = to_last over x xs (λ c i. inr i) from k in
        joined over to.0 from (last_of x xs) name to.1 (step over (last_of x xs) x name (inl refl) (from_first over x xs (λ c i. inr i) name m))
