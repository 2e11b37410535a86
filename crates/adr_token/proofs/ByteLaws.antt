-- A number of 128 bits and its bytes.
use Rattle.std.proofs.Common.{◌≡◌, ℕ, zero, suc, ◌+◌, ◌-◌, ◌*◌, ◌%◌, ◌^◌, ◌<◌, ◌≤◌, List, [], ◌∷◌, length, All, refl, ap, subst, ◌∙◌, arith}
use Rattle.std.specs.Prelude.{slice_index}
use Rattle.std.specs.Int.{w128, byte_at, byte_worth, bytes_high_first, sum_through, to_be_bytes, from_be_bytes}
use Rattle.std.proofs.Math.Nat.{pow-suc, pow-zero, mul-le-mul_right}
use Rattle.std.proofs.lemmas.Nat.{div-mul-add}
use Rattle.uuid.proofs.TextLemmas.{all_fit}
use Rattle.adr_token.specs.Laws.{IsIdentifier}

-- the number that bytes make, the highest first
value : List ℕ → ℕ
value [] = 0
value (b ∷ bs) = b * 256 ^ length bs + value bs

abbrev AllBytes : List ℕ → Type 0
AllBytes bs = (k : ℕ) → slice_index bs k < 256

value_small : (bs : List ℕ) → AllBytes bs → value bs < 256 ^ length bs
unfolding value
value_small [] h = rw (pow-zero 256) (omega arith)
value_small (b ∷ bs) h =
    let more = value_small bs (λ k. h (suc k)) in
    let first : b < 256 = h 0 in
    rw (pow-suc 256 (length bs)) (omega (arith, mul-le b (256 ^ length bs) first))
  where
    mul-le : (c p : ℕ) → c < 256 → c * p + p ≤ p * 256
    mul-le c p small = let q : (c + 1) * p ≤ 256 * p = mul-le-mul_right p (omega arith) in omega arith

first_byte : (b k high low : ℕ) → low < 256 ^ k → b < 256 → byte_at k ((high * 256 + b) * 256 ^ k + low) ≡ b
first_byte b zero high low l h = let e = pow-zero 256 in rw e (omega arith)
first_byte b (suc k) high low l h = ap (λ q. q % 256) (div-mul-add (high * 256 + b) (256 ^ suc k) low l) ∙ omega arith

regroup : (high b p v : ℕ) → high * (p * 256) + (b * p + v) ≡ (high * 256 + b) * p + v
regroup high b p v = omega arith

-- the bytes of a number whose lowest bytes are these
low_bytes : (bs : List ℕ) (high : ℕ) → AllBytes bs → bytes_high_first (length bs) (high * 256 ^ length bs + value bs) ≡ bs
unfolding value
low_bytes [] high h = refl
low_bytes (b ∷ bs) high h =
    let same = regroup high b (256 ^ length bs) (value bs) in
    rw (pow-suc 256 (length bs), same, first_byte b (length bs) high (value bs) (value_small bs (λ k. h (suc k))) (h 0), low_bytes bs (high * 256 + b) (λ k. h (suc k))) refl

-- the sum of the bytes by their worth
sum_same : (f g : ℕ → ℕ) (k : ℕ) → ((i : ℕ) → i ≤ k → f i ≡ g i) → sum_through f k ≡ sum_through g k
sum_same f g zero h = h 0 (omega arith)
sum_same f g (suc k) h = rw (sum_same f g k (λ i l. h i (omega arith)), h (suc k) (omega arith)) refl

sum_first : (f : ℕ → ℕ) (k : ℕ) → sum_through f (suc k) ≡ f 0 + sum_through (λ i. f (suc i)) k
sum_first f zero = refl
sum_first f (suc k) = rw (sum_first f k) (omega arith)

sum_value : (k : ℕ) (bs : List ℕ) → length bs ≡ suc k → sum_through (λ i. byte_worth (k - i) (slice_index bs i)) k ≡ value bs
unfolding value
sum_value k [] l = absurd (omega arith)
sum_value zero (b ∷ []) l = rw (pow-zero 256) (omega arith)
sum_value zero (b ∷ c ∷ bs) l = absurd (omega arith)
sum_value (suc k) (b ∷ bs) l =
    let len : length bs ≡ suc k = omega arith in
    sum_first (λ i. byte_worth (suc k - i) (slice_index (b ∷ bs) i)) k
    ∙ (let e : sum_through (λ i. byte_worth (suc k - suc i) (slice_index bs i)) k ≡ value bs =
    sum_same _ (λ i. byte_worth (k - i) (slice_index bs i)) k (λ i j. let one : suc k - suc i ≡ k - i = omega arith in ap (λ n. byte_worth n (slice_index bs i)) one) ∙ sum_value k bs len in
    let z : suc k - 0 ≡ suc k = omega arith in rw (e, len, z) refl)

pub bytes_again : (id : List ℕ) → IsIdentifier id → to_be_bytes w128 (from_be_bytes w128 id) ≡ id
bytes_again id h =
    let small : AllBytes id = every id h.1 in
    let whole : from_be_bytes w128 id ≡ value id = sum_value 15 id h.0 in
    let low : bytes_high_first (length id) (0 * 256 ^ length id + value id) ≡ id = low_bytes id 0 small in
    let none : 0 * 256 ^ length id + value id ≡ value id = omega arith in
    rw whole (subst (λ n. bytes_high_first n (value id) ≡ id) h.0 (subst (λ m. bytes_high_first (length id) m ≡ id) none low))
  where
    every : (bs : List ℕ) → All (λ b. b < 256) bs → AllBytes bs
    every [] a k = omega arith
    every (b ∷ bs) a zero = a 0 0 (omega arith)
    every (b ∷ bs) a (suc k) = every bs (λ i d l. a (suc i) d (omega arith)) k

byte_small : (i n : ℕ) → byte_at i n < 256
byte_small zero n = omega arith
byte_small (suc i) n = omega arith

pub bytes_identifier : (n : ℕ) → IsIdentifier (to_be_bytes w128 n)
bytes_identifier n = (refl, all_fit (to_be_bytes w128 n) (λ k l. small 16 k))
  where
    small : (j k : ℕ) → slice_index (bytes_high_first j n) k < 256
    small zero k = omega arith
    small (suc j) zero = byte_small j n
    small (suc j) (suc k) = small j k
