-- Bytes are in the order of the numbers that they spell, the high byte first.
use Rattle.std.proofs.Common.{arith, ◌≡◌, refl, sym, ap, ◌∙◌, subst, ⊎_elim, inl, inr, ◌⊎◌, ℕ, zero, suc, ◌+◌, ◌-◌, ◌*◌, ◌^◌, ◌<◌, ◌≤◌, length, get_or, List, [], ◌∷◌}
use Rattle.std.specs.List.{AllByRecursion, slice_index}
use Rattle.std.specs.Int.{byte_worth, from_be_bytes, sum_through, w128}
use Rattle.std.specs.Cmp.{nat_cmp_is}
use Rattle.std.specs.Cmp.Lexicographic.{slice_cmp}
use Rattle.std.specs.Ordering.{nat_cmp, ordering_then}
use Rattle.std.specs.declared.cmp.Ordering.TheVariants.{Less, Equal, Greater}
use Rattle.std.proofs.Math.Nat.{mul-le-mul_right}
use Rattle.std.proofs.lemmas.Bool.{cases_order}

-- the number that bytes spell, the high byte first
abbrev pub value : List ℕ → ℕ
value [] = 0
value (x ∷ xs) = x * 256 ^ length xs + value xs

worth : (k x : ℕ) → byte_worth k x ≡ x * 256 ^ k
worth zero x = omega arith
worth (suc k) x = refl

abbrev pub AreBytes : List ℕ → Type 0
AreBytes xs = AllByRecursion (λ b. b < 256) xs

small : (xs : List ℕ) → AreBytes xs → value xs < 256 ^ length xs
small [] bytes = omega arith
small (x ∷ xs) bytes =
    let least = small xs bytes.1 in
    let most : (x + 1) * 256 ^ length xs ≤ 256 * 256 ^ length xs = mul-le-mul_right (256 ^ length xs) (omega arith) in
    grind arith

-- a greater first byte is a greater number
greater : (p x y v w : ℕ) → x < y → v < p → x * p + v < y * p + w
greater p x y v w less low =
    let most : (x + 1) * p ≤ y * p = mul-le-mul_right p (omega arith) in
    grind arith

-- what stands before both decides nothing
alike : (n v w : ℕ) → (v ≡ w) ⊎ ((v < w) ⊎ (w < v)) → nat_cmp v w ≡ nat_cmp (n + v) (n + w)
alike n v w (inl is) = sym (nat_cmp_is v w Equal is) ∙ nat_cmp_is (n + v) (n + w) Equal (ap (λ m. n + m) is)
alike n v w (inr (inl is)) = sym (nat_cmp_is v w Less is) ∙ nat_cmp_is (n + v) (n + w) Less (omega arith)
alike n v w (inr (inr is)) = sym (nat_cmp_is v w Greater is) ∙ nat_cmp_is (n + v) (n + w) Greater (omega arith)

abbrev pub IsOrdered : List ℕ → List ℕ → Type 0
IsOrdered xs ys = slice_cmp nat_cmp xs ys ≡ nat_cmp (value xs) (value ys)

by_first : (x y : ℕ) (xs ys : List ℕ) → AreBytes (x ∷ xs) → AreBytes (y ∷ ys) → length xs ≡ length ys → IsOrdered xs ys → IsOrdered (x ∷ xs) (y ∷ ys)
by_first x y xs ys bx by equal rest = ⊎_elim same (⊎_elim less more) (cases_order x y)
  where
    power : 256 ^ length ys ≡ 256 ^ length xs
    power = ap (λ n. 256 ^ n) (sym equal)

    less : x < y → IsOrdered (x ∷ xs) (y ∷ ys)
    less is =
        ap (λ o. ordering_then o (slice_cmp nat_cmp xs ys)) (sym (nat_cmp_is x y Less is))
        ∙ nat_cmp_is (x * 256 ^ length xs + value xs) (y * 256 ^ length ys + value ys) Less
        (subst (λ p. x * 256 ^ length xs + value xs < y * p + value ys) (sym power) (greater (256 ^ length xs) x y (value xs) (value ys) is (small xs bx.1)))

    more : y < x → IsOrdered (x ∷ xs) (y ∷ ys)
    more is =
        ap (λ o. ordering_then o (slice_cmp nat_cmp xs ys)) (sym (nat_cmp_is x y Greater is))
        ∙ nat_cmp_is (x * 256 ^ length xs + value xs) (y * 256 ^ length ys + value ys) Greater
        (subst (λ p. y * 256 ^ length ys + value ys < x * p + value xs) power (greater (256 ^ length ys) y x (value ys) (value xs) is (small ys by.1)))

    same : x ≡ y → IsOrdered (x ∷ xs) (y ∷ ys)
    same is =
        ap (λ n. ordering_then (nat_cmp x n) (slice_cmp nat_cmp xs ys)) (sym is)
        ∙ (ap (λ o. ordering_then o (slice_cmp nat_cmp xs ys)) (sym (nat_cmp_is x x Equal refl))
        ∙ (rest ∙ (alike (x * 256 ^ length xs) (value xs) (value ys) (cases_order (value xs) (value ys)) ∙ (ap (λ n. nat_cmp (x * 256 ^ length xs + value xs) (n * 256 ^ length xs + value ys)) is
        ∙ ap (λ p. nat_cmp (x * 256 ^ length xs + value xs) (y * p + value ys)) (sym power)))))

pub order : (xs ys : List ℕ) → AreBytes xs → AreBytes ys → length xs ≡ length ys → IsOrdered xs ys
order [] [] bx by e = refl
order [] (y ∷ ys) bx by e = absurd (cc)
order (x ∷ xs) [] bx by e = absurd (cc)
order (x ∷ xs) (y ∷ ys) bx by e = by_first x y xs ys bx by (omega arith) (order xs ys bx.1 by.1 (omega arith))

-- a sum, its first part apart
sum_front : (f : ℕ → ℕ) (k : ℕ) → sum_through f (suc k) ≡ f 0 + sum_through (λ i. f (suc i)) k
sum_front f zero = refl
sum_front f (suc k) =
    ap (λ n. n + f (suc (suc k))) (sum_front f k) ∙ (let rest = sum_through (λ i. f (suc i)) k in let last = f (suc (suc k)) in omega arith)

sum_same : (f g : ℕ → ℕ) (k : ℕ) → ((i : ℕ) → f i ≡ g i) → sum_through f k ≡ sum_through g k
sum_same f g zero same = same 0
sum_same f g (suc k) same = ap (λ n. n + f (suc k)) (sum_same f g k same) ∙ ap (λ n. sum_through g k + n) (same (suc k))

-- bytes spell the number that is read of them
abbrev byte_in : ℕ → List ℕ → ℕ → ℕ
byte_in m xs i = byte_worth (m - i) (slice_index xs i)

read : (m : ℕ) (xs : List ℕ) → length xs ≡ suc m → value xs ≡ sum_through (byte_in m xs) m
read m [] len = absurd (cc)
read zero (x ∷ []) len = omega arith
read zero (x ∷ y ∷ ys) len = absurd (omega arith)
read (suc m) (x ∷ xs) len =
    let least : length xs ≡ suc m = omega arith in
    let whole : suc m ≡ suc m - 0 = omega arith in
    ap (λ n. n + value xs) (ap (λ k. x * 256 ^ k) least ∙ sym (worth (suc m) x))
    ∙ (ap (λ n. byte_worth (suc m) x + n) (read m xs least ∙ sum_same (byte_in m xs) (λ i. byte_in (suc m) (x ∷ xs) (suc i)) m (λ i. ap (λ k. byte_worth k (slice_index xs i)) (omega arith)))
    ∙ (ap (λ k. byte_worth k x + sum_through (λ i. byte_in (suc m) (x ∷ xs) (suc i)) m) whole ∙ sym (sum_front (byte_in (suc m) (x ∷ xs)) m)))

pub spells : (xs : List ℕ) → length xs ≡ 16 → value xs ≡ from_be_bytes w128 xs
spells xs len = read 15 xs len

-- bytes of which each fits
pub all_fit : (xs : List ℕ) (n : ℕ) → length xs ≡ n → ((k : ℕ) → k < n → get_or xs k 0 < 256) → AreBytes xs
all_fit [] n len fit = tt
all_fit (x ∷ xs) zero len fit = absurd (omega arith)
all_fit (x ∷ xs) (suc n) len fit = (fit 0 (omega arith), all_fit xs n (omega arith) (λ k within. fit (suc k) (omega arith)))
