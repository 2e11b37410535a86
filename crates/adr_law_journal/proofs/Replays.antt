-- A length and a body, in bytes.
use Rattle.std.proofs.Common.{◌≡◌, ⊎_elim, ℕ, ◌+◌, ◌≤◌, ◌<◌, ◌^◌, List, ◌++◌, length, take, drop, Ok, Err, sym, ◌∙◌, ap, arith, append_assoc, length-append, length-take, take-append-drop, if◌then◌else◌}
use Rattle.std.specs.Prelude.{nat_lt}
use Rattle.std.specs.Int.{w32, from_be_bytes}
use Rattle.std.proofs.lemmas.List.{drop_at, drop-drop}
use Rattle.std.proofs.lemmas.Bool.{cases_lt}
use Rattle.std.proofs.lemmas.Bool.Decides.{nat_tests}
use Rattle.adr_wire.specs.Spelling.{AreBytes}
use Rattle.adr_wire.specs.Reading.{Rest, Read, ◌>>=◌, bytes_at}
use Rattle.adr_wire.specs.Fields.{u32_at, u32}
use Rattle.adr_wire.proofs.FieldLaws.{u32_spelled}
use Rattle.adr_law_journal.specs.Log.{body_at, with_length}
use Rattle.adr_law_journal.proofs.Logs.{length_u32}

lt_yes : {X : Type 0} (a b : ℕ) (x y : X) → a < b → (if nat_lt a b then x else y) ≡ x
lt_yes a b x y lt = grind (arith, nat_tests)

lt_no : {X : Type 0} (a b : ℕ) (x y : X) → b ≤ a → (if nat_lt a b then x else y) ≡ y
lt_no a b x y le = grind (arith, nat_tests)

u32_short : (place : ℕ) (bytes : List ℕ) → length bytes < 4 → u32_at (record { place = place; bytes = bytes }) ≡ Err place
unfolding u32_at
u32_short place bytes short =
    ap (λ (r : Read (List ℕ)). r >>= λ y. Ok (from_be_bytes w32 y.0, y.1))
    (lt_yes (length bytes) 4 (Err place) (Ok (take 4 bytes, record { place = place + 4; bytes = drop 4 bytes })) short)

u32_long : (place : ℕ) (bytes : List ℕ) → 4 ≤ length bytes → (n : ℕ) × (rest : Rest) × (u32_at (record { place = place; bytes = bytes }) ≡ Ok (n, rest))
unfolding u32_at
u32_long place bytes enough = (
  from_be_bytes w32 (take 4 bytes),
  record { place = place + 4; bytes = drop 4 bytes },
  ap (λ (r : Read (List ℕ)). r >>= λ y. Ok (from_be_bytes w32 y.0, y.1))
      (lt_no (length bytes) 4 (Err place) (Ok (take 4 bytes, record { place = place + 4; bytes = drop 4 bytes })) enough),
)

pub no_length : (p : ℕ) (bytes : List ℕ) → u32_at (record { place = 0; bytes = bytes }) ≡ Err p → (place : ℕ) → (q : ℕ) × (body_at (record { place = place; bytes = bytes }) ≡ Err q)
no_length p bytes err place = ⊎_elim
    (λ (short : length bytes < 4). (place, ap (λ (x : Read ℕ). x >>= λ x. bytes_at x.0 x.1 >>= λ y. Ok ((x.0, y.0), y.1)) (u32_short place bytes short)))
    (λ (enough : 4 ≤ length bytes). let l = u32_long 0 bytes enough in absurd (cc (l.2, err)))
    (cases_lt (length bytes) 4)

-- what was read as a length
pub length_read : (bytes : List ℕ) (n : ℕ) (rest : Rest) → AreBytes bytes → u32_at (record { place = 0; bytes = bytes }) ≡ Ok (n, rest) → (4 ≤ length bytes) × (n < 2 ^ 32) × (bytes ≡ u32 n ++ drop 4 bytes)
length_read bytes n rest are read =
    let was = u32_spelled.only 0 bytes n rest are read in
    let four = length_u32 n in (
      omega (arith, ap length was.spelled_so, length-append (u32 n) rest.bytes, four),
      was.in_range,
      was.spelled_so ∙ ap (λ (l : List ℕ). u32 n ++ l) (sym (ap (drop 4) was.spelled_so ∙ drop_at (u32 n) rest.bytes 4 four)),
    )

pub no_room : (bytes : List ℕ) (n : ℕ) → n < 2 ^ 32 → bytes ≡ u32 n ++ drop 4 bytes → length (drop 4 bytes) < n → (place : ℕ) → (q : ℕ) × (body_at (record { place = place; bytes = bytes }) ≡ Err q)
no_room bytes n fits is short place = (
  place + length (u32 n),
  ap (λ (l : List ℕ). body_at (record { place = place; bytes = l })) is
      ∙ ap (λ (x : Read ℕ). x >>= λ x. bytes_at x.0 x.1 >>= λ y. Ok ((x.0, y.0), y.1)) (u32_spelled.again place n (drop 4 bytes) fits)
      ∙ ap (λ (y : Read (List ℕ)). y >>= λ y. Ok ((n, y.0), y.1)) (lt_yes (length (drop 4 bytes)) n _ _ short),
)

-- and the body behind it
pub body_read : (bytes : List ℕ) (n : ℕ) → bytes ≡ u32 n ++ drop 4 bytes → n ≤ length (drop 4 bytes) → bytes ≡ with_length (take n (drop 4 bytes)) ++ drop (4 + length (take n (drop 4 bytes))) bytes
body_read bytes n is enough =
    let body = take n (drop 4 bytes) in
    let size : length body ≡ n = length-take n (drop 4 bytes) ∙ omega (arith, enough) in
    let rest : drop (4 + length body) bytes ≡ drop n (drop 4 bytes) = ap (λ (k : ℕ). drop (4 + k) bytes) size ∙ sym (drop-drop n 4 bytes) in
    is
    ∙ ap (λ (l : List ℕ). u32 n ++ l) (sym (take-append-drop n (drop 4 bytes)))
    ∙ sym (append_assoc (u32 n) body (drop n (drop 4 bytes)))
    ∙ (λ i. (u32 (sym size i) ++ body) ++ sym rest i)
