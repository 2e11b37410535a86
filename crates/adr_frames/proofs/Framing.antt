-- What comes next in a connection, by the bytes that were received.
use Rattle.std.proofs.Common.{◌≡◌, ℕ, ◌+◌, ◌<◌, ◌≤◌, Bool, true, false, cond, ltb, leb, ◌&&◌, List, [], ◌∷◌, length, take, drop, Option, Some, None, Ok, Err, refl, sym, ap, ◌∙◌, subst, arith, take_all, inl, inr}
use Rattle.std.specs.Prelude.{IfSome, IsErr}
use Rattle.std.specs.Int.{w32, from_be_bytes}
use Rattle.std.proofs.lemmas.Bool.{cases_lt, lt-ltb, le-ltb, leb-true}
use Rattle.std.proofs.lemmas.List.{length-take, nil_from_length}
use Rattle.adr_outside.specs.Traffic.{Traffic}
use Rattle.adr_wire.specs.Fields.{u32_at}
use Rattle.adr_wire.specs.Reading.{Rest, Read, ◌>>=◌, Names, bytes_at}
use Rattle.adr_wire.specs.declared.refusal.Malformed.{Malformed}
use Rattle.adr_values.specs.declared.failure.Failure.{Failure}
use Rattle.adr_values.specs.declared.failure.Failure.TheVariants.{Refused, NoMemory}
use Rattle.adr_wire.proofs.Combining.{bind_ok, passed_ok}
use Rattle.adr_frames.specs.Frames.{frame_limit, is_frame_length, IsFrameLength, length_at, frame_at, from, Next, IsOver, IsBroken, IsFrame, next_of, next_in}
use Rattle.adr_frames.specs.declared.hearing.Heard.{Heard}
use Rattle.adr_frames.specs.declared.hearing.Heard.TheVariants.{Over, Broken, Frame}
use Rattle.adr_frames.specs.Hearing.{Hears, HearsBody, IfFrame}
use Rattle.adr_frames.proofs.ReceivedLemmas.{Received, Left, with_left}

-- ---- the length, in the first four bytes

abbrev four : List ℕ → Rest
four left = record { place = 4; bytes = drop 4 left }

abbrev number : List ℕ → ℕ
number left = from_be_bytes w32 (take 4 left)

abbrev kept : ℕ → Rest → Bool → Read ℕ
kept n after b = cond b (Ok (n, after)) (Err 0)

abbrev within : Read ℕ → Read ℕ
within r = r >>= λ x. cond (is_frame_length x.0) (Ok x) (Err 0)

abbrev as_number : Read (List ℕ) → Read ℕ
as_number r = r >>= λ x. Ok (from_be_bytes w32 x.0, x.1)

abbrev front_by : List ℕ → Bool → Read (List ℕ)
front_by left b = cond b (Err 0) (Ok (take 4 left, four left))

abbrev length_by : List ℕ → Bool → Read ℕ
length_by left b = within (as_number (front_by left b))

length_is : (left : List ℕ) → length_at (from left) ≡ length_by left (ltb (length left) 4)
unfolding u32_at
length_is left = refl

length_short : (left : List ℕ) → length left < 4 → length_at (from left) ≡ Err 0
length_short left short = length_is left ∙ ap (length_by left) (lt-ltb (length left) 4 short)

length_long : (left : List ℕ) → 4 ≤ length left → length_at (from left) ≡ kept (number left) (four left) (is_frame_length (number left))
length_long left long = length_is left ∙ ap (length_by left) (le-ltb (length left) 4 long)

long_of_ok : (left : List ℕ) (x : ℕ × Rest) → length_at (from left) ≡ Ok x → 4 ≤ length left
long_of_ok left x given = elim (cases_lt (length left) 4) [
  | inl short ↦ absurd (let fails = length_short left short in cc)
  | inr long ↦ long
]

-- ---- the test of a length

tests : (a b : Bool) → (a && b) ≡ true → (a ≡ true) × (b ≡ true)
tests true b h = (refl, h)
tests false b h = absurd (cc)

pub length_of_test : (n : ℕ) → is_frame_length n ≡ true → IsFrameLength n
length_of_test n h = let p = tests (leb 1 n) (leb n frame_limit) h in (leb-true 1 n p.0, leb-true n frame_limit p.1)

-- what was read as a length is one
pub length_of_ok : (start : Rest) (n : ℕ) (rest : Rest) → length_at start ≡ Ok (n, rest) → IsFrameLength n
length_of_ok start n rest given =
    let b = bind_ok (u32_at start) (λ x. cond (is_frame_length x.0) (Ok x) (Err start.place)) (n, rest) given in
    let p = passed_ok (is_frame_length b.0.0) start.place b.0 (n, rest) b.2 in
    subst IsFrameLength (ap (λ (x : ℕ × Rest). x.0) p.1) (length_of_test b.0.0 p.0)

-- ---- the first four bytes alone

take_again : (xs : List ℕ) → take 4 (take 4 xs) ≡ take 4 xs
take_again xs = take_all 4 (take 4 xs) (let len = length-take 4 xs in omega (arith, len))

number_again : (left : List ℕ) → number (take 4 left) ≡ number left
number_again left = ap (from_be_bytes w32) (take_again left)

-- the length is read of four bytes as of all that follows
length_of_head : (left : List ℕ) (n : ℕ) (rest : Rest) → length_at (from (take 4 left)) ≡ Ok (n, rest) → length_at (from left) ≡ Ok (n, four left)
length_of_head left n rest given =
    let long : 4 ≤ length (take 4 left) = long_of_ok (take 4 left) (n, rest) given in
    let all : 4 ≤ length left = (let len = length-take 4 left in omega (arith, len)) in
    let p = passed_ok (is_frame_length (number (take 4 left))) 0 (number (take 4 left), four (take 4 left))
    (n, rest) (sym (length_long (take 4 left) long) ∙ given) in
    let first : number (take 4 left) ≡ n = ap (λ (x : ℕ × Rest). x.0) p.1 in
    let same : number left ≡ n = sym (number_again left) ∙ first in
    let fits : is_frame_length n ≡ true = ap is_frame_length (sym first) ∙ p.0 in
    length_long left all ∙ ap (λ (m : ℕ). kept m (four left) (is_frame_length m)) same ∙ ap (kept n (four left)) fits

abbrev pub Fails : Read ℕ → Type 0
Fails r = IsErr r

kept_fails : (n : ℕ) (a b : Rest) (test : Bool) → Fails (kept n a test) → Fails (kept n b test)
kept_fails n a b true h = h
kept_fails n a b false h = h

length_of_bad_head : (left : List ℕ) → Fails (length_at (from (take 4 left))) → Fails (length_at (from left))
length_of_bad_head left h = elim (cases_lt (length left) 4) [
  | inl short ↦ subst (λ (xs : List ℕ). Fails (length_at (from xs))) (take_all 4 left (omega arith)) h
  | inr long ↦
      let some : 4 ≤ length (take 4 left) = (let len = length-take 4 left in omega (arith, len)) in
      let so = length_long (take 4 left) some ∙ ap (λ (m : ℕ). kept m (four (take 4 left)) (is_frame_length m)) (number_again left) in
      let fails : Fails (kept (number left) (four (take 4 left)) (is_frame_length (number left))) = subst Fails so h in
      subst Fails (sym (length_long left long)) (kept_fails (number left) (four (take 4 left)) (four left) (is_frame_length (number left)) fails)
]

-- ---- what comes next, by the length

abbrev with_bytes : Read ℕ → Read (ℕ × List ℕ)
with_bytes r = r >>= λ x. bytes_at x.0 x.1 >>= λ y. Ok ((x.0, y.0), y.1)

abbrev behind_it : Read (ℕ × List ℕ) → Read (List ℕ)
behind_it r = r >>= λ p. Ok (p.0.1, p.1)

abbrev of_length : Read ℕ → Next
of_length r = next_of (behind_it (with_bytes r))

pub next_is : (left : List ℕ) → 1 ≤ length left → next_in left ≡ next_of (frame_at (from left))
next_is [] some = absurd (omega (arith, some))
next_is (b ∷ bs) some = refl

next_by : (left : List ℕ) → 1 ≤ length left → next_in left ≡ of_length (length_at (from left))
unfolding frame_at
next_by left some = next_is left some

of_none : (r : Read ℕ) → Fails r → of_length r ≡ IsBroken
of_none (Ok x) h = absurd (cc)
of_none (Err place) h = refl

abbrev body_by : ℕ → Rest → Bool → Read (List ℕ)
body_by n rest b = cond b (Err rest.place) (Ok (take n rest.bytes, record { place = rest.place + n; bytes = drop n rest.bytes }))

abbrev with_number : ℕ → Read (List ℕ) → Read (ℕ × List ℕ)
with_number n r = r >>= λ y. Ok ((n, y.0), y.1)

abbrev by_bytes : ℕ → Rest → Bool → Next
by_bytes n rest b = next_of (behind_it (with_number n (body_by n rest b)))

module _ (left : List ℕ) (n : ℕ) (rest : Rest) (given : length_at (from (take 4 left)) ≡ Ok (n, rest)) where
  some_left : 1 ≤ length left
  some_left =
      let long : 4 ≤ length (take 4 left) = long_of_ok (take 4 left) (n, rest) given in
      let len = length-take 4 left in omega (arith, len)

  next_so : next_in left ≡ by_bytes n (four left) (ltb (length (drop 4 left)) n)
  next_so = next_by left some_left ∙ ap of_length (length_of_head left n rest given)

  cut_frame : length (drop 4 left) < n → next_in left ≡ IsBroken
  cut_frame short = next_so ∙ ap (by_bytes n (four left)) (lt-ltb (length (drop 4 left)) n short)

  whole_frame : n ≤ length (drop 4 left) → next_in left ≡ IsFrame (take n (drop 4 left)) (drop n (drop 4 left))
  whole_frame enough = next_so ∙ ap (by_bytes n (four left)) (le-ltb (length (drop 4 left)) n enough)

-- ---- the same, of what is told of a network

abbrev pub Comes : Next → Option Traffic → Type 0
Comes next first = IfSome first (λ t. next_in t.left ≡ next)

-- what a reader of the program says where it gives no length
pub told_fails : (e : Failure Malformed) (r : Read ℕ) → Names e r → Fails r
told_fails (Refused malformed) r named = subst Fails (sym named) refl
told_fails NoMemory r named = absurd named

-- nothing came
pub is_over : (first : Option Traffic) (head : List ℕ) → Received 4 first head → length head ≡ 0 → Comes IsOver first
is_over None head came none = tt
is_over (Some t) head came none =
    ap next_in (nil_from_length t.left (let same = ap length came in let len = length-take 4 t.left in omega (arith, same, len)))

-- no length came
pub is_cut : (first : Option Traffic) (head : List ℕ) → Received 4 first head → 1 ≤ length head → Fails (length_at (from head)) → Comes IsBroken first
is_cut None head came some fails = tt
is_cut (Some t) head came some fails =
    let long : 1 ≤ length t.left = (let same = ap length came in let len = length-take 4 t.left in omega (arith, same, len)) in
    next_by t.left long
    ∙ of_none (length_at (from t.left)) (length_of_bad_head t.left (subst (λ (xs : List ℕ). Fails (length_at (from xs))) came fails))

abbrev pub HasLength : List ℕ → ℕ → Type 0
HasLength head n = (rest : Rest) × (length_at (from head) ≡ Ok (n, rest))

has_length : (left head : List ℕ) (n : ℕ) → head ≡ take 4 left → HasLength head n → HasLength (take 4 left) n
has_length left head n came given = subst (λ (xs : List ℕ). HasLength xs n) came given

-- what comes behind the length, and so what comes
pub heard_so : (first now next : Option Traffic) (head : List ℕ) (n : ℕ) → Received 4 first head → Left 4 first now → HasLength head n
    → (h : Heard) → HearsBody n h now next → Hears h first next
heard_so first now next head n came left given Over heard = absurd heard
heard_so None now next head n came left given Broken heard = tt
heard_so (Some t) now next head n came left given Broken heard =
    let h = has_length t.left head n came given in
    let short : length (drop 4 t.left) < n = subst (λ (o : Option Traffic). IfSome o (λ u. length u.left < n)) left heard in
    cut_frame t.left n h.0 h.1 short
heard_so None now next head n came left given (Frame bytes) heard = tt
heard_so (Some t) now next head n came left given (Frame bytes) heard =
    let h = has_length t.left head n came given in
    let all = subst (λ (o : Option Traffic). HearsBody n (Frame bytes) o next) left heard in (
      drop n (drop 4 t.left),
      whole_frame t.left n h.0 h.1 all.0 ∙ ap (λ (xs : List ℕ). IsFrame xs (drop n (drop 4 t.left))) (sym all.1),
      all.2,
    )

-- so many bytes were wanted, and fewer came, or all
pub body_cut : (first : Option Traffic) (bytes : List ℕ) (n : ℕ) → Received n first bytes → length bytes < n → IfSome first (λ t. length t.left < n)
body_cut None bytes n came short = tt
body_cut (Some t) bytes n came short = let same = ap length came in let len = length-take n t.left in omega (arith, same, len)

pub body_whole : (first now : Option Traffic) (bytes : List ℕ) (n : ℕ) → Received n first bytes → Left n first now → n ≤ length bytes
    → IfSome first (λ t. (n ≤ length t.left) × (bytes ≡ take n t.left) × (now ≡ Some (with_left t (drop n t.left))))
body_whole None now bytes n came left all = tt
body_whole (Some t) now bytes n came left all =
    ((let same = ap length came in let len = length-take n t.left in omega (arith, same, len)), came, left)

pub limit_so : (n : ℕ) → IsFrameLength n → (h : Heard) → IfFrame h (λ m. m ≡ n) → IfFrame h IsFrameLength
limit_so n fits Over same = tt
limit_so n fits Broken same = tt
limit_so n fits (Frame bytes) same = subst IsFrameLength (sym same) fits
