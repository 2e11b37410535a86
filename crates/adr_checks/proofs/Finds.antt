-- The first place that passes a test, and the first number of a list.
use Rattle.std.proofs.Common.{◌≡◌, ℕ, zero, suc, ◌+◌, ◌-◌, ◌<◌, List, [], ◌∷◌, length, slice_index, drop, Bool, false, refl, arith}
use Rattle.std.specs.List.{find, range_with_len}

-- a place that does not pass is passed over
pub find-range_with_len_more : (p : ℕ → Bool) (k n : ℕ) → k < n → p k ≡ false → find p (range_with_len (k + 1) (n - (k + 1))) ≡ find p (range_with_len k (n - k))
find-range_with_len_more p k n below wrong =
    let more : n - k ≡ suc (n - (k + 1)) = omega arith in
    rw (more, wrong) refl

-- a number that does not pass is passed over
pub find-drop_more : (p : ℕ → Bool) (ns : List ℕ) (k : ℕ) → k < length ns → p (slice_index ns k) ≡ false → find p (drop (k + 1) ns) ≡ find p (drop k ns)
find-drop_more p [] k below wrong = absurd (omega arith)
find-drop_more p (n ∷ ns) zero below wrong = rw wrong refl
find-drop_more p (n ∷ ns) (suc k) below wrong =
    let more : suc k + 1 ≡ suc (k + 1) = omega arith in
    rw more (find-drop_more p ns k (omega arith) wrong)
