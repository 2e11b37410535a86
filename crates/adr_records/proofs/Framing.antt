-- An image in a file is read as what stands in so many bytes.
use Rattle.std.proofs.Common.{◌≡◌, ℕ, ◌+◌, ◌-◌, ◌<◌, ◌≤◌, Bool, cond, ltb, min, List, [], length, take, drop, Ok, Err, sym, ap, ◌∙◌, arith, inl, inr}
use Rattle.std.specs.Prelude.{◌⊎◌}
use Rattle.std.proofs.lemmas.Bool.{cases_lt, le-ltb, lt-ltb}
use Rattle.std.proofs.lemmas.List.{drop-take, length-drop, take_all}
use Rattle.adr_values.specs.declared.failure.Failure.{Failure}
use Rattle.adr_wire.specs.declared.refusal.Malformed.{Malformed}
use Rattle.adr_wire.specs.Reading.{Rest, Read, Reading, ◌>>=◌, Refuses}
use Rattle.adr_wire.proofs.Combining.{from}
use Rattle.adr_wire.proofs.Loops.{refuses_then}
use Rattle.adr_records.specs.Head.{framed_at, within_at}

-- ---- as far as the bytes are there

-- bytes up to where an image ends, behind the place where it begins
window_is : (bytes : List ℕ) (at len end : ℕ) → end ≡ min (at + len) (length bytes) → at ≤ length bytes → drop at (take end bytes) ≡ take len (drop at bytes)
window_is bytes at len end is long =
    ap (λ (n : ℕ). drop at (take n bytes)) (let whole : end ≡ at + (end - at) = omega (arith, is, long) in whole) ∙ drop-take at (end - at) bytes ∙ by (cases_lt (at + len) (length bytes))
  where
    by : (at + len < length bytes) ⊎ (length bytes ≤ at + len) → take (end - at) (drop at bytes) ≡ take len (drop at bytes)
    by (inl lt) = ap (λ (n : ℕ). take n (drop at bytes)) (omega (arith, is, lt))
    by (inr le) =
        let left = length-drop at bytes in
        take_all (end - at) (drop at bytes) (omega (arith, is, le, left)) ∙ sym (take_all len (drop at bytes) (omega (arith, le, left)))

-- a reader from the place on of the bytes up to there
pub stands_there : (bytes : List ℕ) (at len end : ℕ) (rest : Rest) → end ≡ min (at + len) (length bytes) → at ≤ length bytes
    → rest ≡ from at (drop at (take end bytes)) → rest ≡ from at (take len (drop at bytes))
stands_there bytes at len end rest ends long is = is ∙ ap (λ (l : List ℕ). from at l) (window_is bytes at len end ends long)

module _ {A : Type 0} (a : Reading A) (n : ℕ) (rest : Rest) where
  abbrev Inner : Rest
  Inner = from rest.place (take n rest.bytes)

  pub within_refused : (e : Failure Malformed) → Refuses e (a Inner) → Refuses e (within_at a n rest)
  unfolding within_at
  within_refused e h = refuses_then e (a Inner) (λ x. cond (ltb 0 (length x.1.bytes)) (Err x.1.place) (Ok x)) h

  pub within_left : (x : A) (r : Rest) → a Inner ≡ Ok (x, r) → 0 < length r.bytes → within_at a n rest ≡ Err r.place
  unfolding within_at
  within_left x r h some =
      ap (λ (z : Read A). z >>= λ y. cond (ltb 0 (length y.1.bytes)) (Err y.1.place) (Ok y)) h
      ∙ ap (λ (b : Bool). cond b (Err r.place) (let v : Read A = Ok (x, r) in v)) (lt-ltb 0 (length r.bytes) some)

  pub within_read : (x : A) (r : Rest) → a Inner ≡ Ok (x, r) → r.bytes ≡ [] → within_at a n rest ≡ Ok (x, r)
  unfolding within_at
  within_read x r h none =
      ap (λ (z : Read A). z >>= λ y. cond (ltb 0 (length y.1.bytes)) (Err y.1.place) (Ok y)) h
      ∙ ap (λ (l : List ℕ). cond (ltb 0 (length l)) (Err r.place) (let v : Read A = Ok (x, r) in v)) none

  -- ---- all of them

  abbrev framing : A × Rest → Read A
  framing x = cond (ltb (length rest.bytes) n) (Err (rest.place + length rest.bytes)) (Ok (x.0, from (rest.place + n) (drop n rest.bytes)))

  pub framed_refused : (e : Failure Malformed) → Refuses e (within_at a n rest) → Refuses e (framed_at a n rest)
  unfolding framed_at
  framed_refused e h = refuses_then e (within_at a n rest) framing h

  pub framed_cut : (x : A) (r : Rest) → within_at a n rest ≡ Ok (x, r) → length rest.bytes < n → framed_at a n rest ≡ Err (rest.place + length rest.bytes)
  unfolding framed_at
  framed_cut x r h short =
      ap (λ (z : Read A). z >>= framing) h
      ∙ ap (λ (b : Bool). cond b (Err (rest.place + length rest.bytes)) (let v : Read A = Ok (x, from (rest.place + n) (drop n rest.bytes)) in v)) (lt-ltb (length rest.bytes) n short)

  pub framed_read : (x : A) (r : Rest) → within_at a n rest ≡ Ok (x, r) → n ≤ length rest.bytes → framed_at a n rest ≡ Ok (x, from (rest.place + n) (drop n rest.bytes))
  unfolding framed_at
  framed_read x r h long =
      ap (λ (z : Read A). z >>= framing) h
      ∙ ap (λ (b : Bool). cond b (Err (rest.place + length rest.bytes)) (let v : Read A = Ok (x, from (rest.place + n) (drop n rest.bytes)) in v)) (le-ltb (length rest.bytes) n long)
