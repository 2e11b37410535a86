-- What records lead to, one by one.
use Rattle.std.proofs.Common.{◌≡◌, ◌≢◌, ℕ, zero, suc, ◌+◌, ◌≤◌, ◌<◌, ◌^◌, List, [], ◌∷◌, ◌++◌, length, take, drop, Bool, true, false, nat_lt, Option, Some, None, Ok, Err, refl, ◌∙◌, ap, arith, append_assoc, length-append, length-drop, if◌then◌else◌, ◌==◌}
use Rattle.std.proofs.lemmas.List.{take_at, drop_at}
use Rattle.std.proofs.lemmas.Bool.{le-ltb}
use Rattle.std.proofs.lemmas.Bool.Decides.{nat_tests}
use Rattle.std.specs.Int.{w32, byte_len, from_be_bytes}
use Rattle.adr_wire.specs.Reading.{Rest, Read, ◌>>=◌, bytes_at}
use Rattle.adr_wire.specs.Fields.{u32_at, u32}
use Rattle.adr_wire.specs.Spelling.{behind}
use Rattle.adr_wire.proofs.FieldLaws.{u32_spelled}
use Rattle.adr_law_journal.specs.Log.{Followed, open_gate, Following, body_at, with_length, or_damaged, behind_gate, found_from}

-- ---- readings leave no more than there was

abbrev Leaves : {X : Type 0} → ℕ → Read X → Type 0
Leaves n (Ok x) = length x.1.bytes ≤ n
Leaves n (Err place) = Unit {0}

choose : {X : Type 0} (b : Bool) (n : ℕ) (x y : Read X) → Leaves n x → Leaves n y → Leaves n (if b then x else y)
choose true n x y hx hy = hx
choose false n x y hx hy = hy

bytes_leave : (n : ℕ) (r : Rest) → Leaves (length r.bytes) (bytes_at n r)
bytes_leave n r = choose (nat_lt (length r.bytes) n) (length r.bytes) (Err r.place) (Ok (take n r.bytes, record { place = r.place + n; bytes = drop n r.bytes })) tt (omega (arith, length-drop n r.bytes))

as_leaves : {A B : Type 0} (f : A → B) (n : ℕ) (x : Read A) → Leaves n x → Leaves n (x >>= λ y. Ok (f y.0, y.1))
as_leaves f n (Ok x) h = h
as_leaves f n (Err place) h = tt

u32_leaves : (r : Rest) → Leaves (length r.bytes) (u32_at r)
unfolding u32_at
u32_leaves r = as_leaves (from_be_bytes w32) (length r.bytes) (bytes_at (byte_len w32) r) (bytes_leave (byte_len w32) r)

two_leave : (n : ℕ) (a : Read ℕ) → Leaves n a → Leaves {X = ℕ × List ℕ} n (a >>= λ x. bytes_at x.0 x.1 >>= λ y. Ok ((x.0, y.0), y.1))
two_leave n (Err place) h = tt
two_leave n (Ok x) h = inner (bytes_at x.0 x.1) (bytes_leave x.0 x.1)
  where
    inner : (b : Read (List ℕ)) → Leaves (length x.1.bytes) b → Leaves {X = ℕ × List ℕ} n (b >>= λ y. Ok ((x.0, y.0), y.1))
    inner (Err place) k = tt
    inner (Ok y) k = omega (arith, h, k)

body_leaves : (r : Rest) → Leaves (length r.bytes) (body_at r)
body_leaves r = two_leave (length r.bytes) (u32_at r) (u32_leaves r)

pub length_u32 : (n : ℕ) → length (u32 n) ≡ 4
unfolding u32
length_u32 n = refl

module _ {S : Type 0} (following : Following S) where
  -- ---- how many gates may be passed doesn't matter, if they are enough

  same_behind : (k : ℕ) (s : S) (place : ℕ) (b : Read (ℕ × List ℕ)) (f g : S → ℕ → List ℕ → Followed S) → Leaves k b → ((t : S) (p : ℕ) (bytes : List ℕ) → length bytes ≤ k → f t p bytes ≡ g t p bytes) → behind_gate following s place b f ≡ behind_gate following s place b g
  same_behind k s place (Err fault) f g leaves same = refl
  same_behind k s place (Ok b) f g leaves same = inner (following s b.0.1)
    where
      inner : (o : Option S) → or_damaged place o (λ t. f t b.1.place b.1.bytes) ≡ or_damaged place o (λ t. g t b.1.place b.1.bytes)
      inner None = refl
      inner (Some t) = same t b.1.place b.1.bytes leaves

  pub same_found : (n m : ℕ) (s : S) (place : ℕ) (bytes : List ℕ) → length bytes ≤ n → length bytes ≤ m → found_from following n s place bytes ≡ found_from following m s place bytes
  same_found zero zero s place bytes h k = refl
  same_found zero (suc m) s place [] h k = refl
  same_found zero (suc m) s place (gate ∷ rest) h k = absurd (omega arith)
  same_found (suc n) zero s place [] h k = refl
  same_found (suc n) zero s place (gate ∷ rest) h k = absurd (omega arith)
  same_found (suc n) (suc m) s place [] h k = refl
  same_found (suc n) (suc m) s place (gate ∷ rest) h k =
      let after : Rest = record { place = place + 1; bytes = rest } in
      ap (λ (x : Followed S). if gate == open_gate then x else Ok (record { state = s; log_end = place + 1 }))
      (same_behind (length rest) s place (body_at after) (λ t p bytes. found_from following n t p bytes) (λ t p bytes. found_from following m t p bytes) (body_leaves after)
      (λ t p bytes le. same_found n m t p bytes (omega (arith, le, h)) (omega (arith, le, k))))

  -- ---- an open record is passed, and a closed gate ends the log

  decided : {X : Type 0} (gate : ℕ) (x y : X) → gate ≡ open_gate → (if gate == open_gate then x else y) ≡ x
  decided gate x y is = grind (arith, nat_tests)

  refused : {X : Type 0} (gate : ℕ) (x y : X) → gate ≢ open_gate → (if gate == open_gate then x else y) ≡ y
  refused gate x y shut = grind (arith, nat_tests)

  pub closed : (n : ℕ) (s : S) (place gate : ℕ) (rest : List ℕ) → gate ≢ open_gate → found_from following (suc n) s place (gate ∷ rest) ≡ Ok (record { state = s; log_end = place + 1 })
  closed n s place gate rest shut = refused gate _ _ shut

  bytes_again : (place : ℕ) (body rest : List ℕ) → bytes_at (length body) (record { place = place; bytes = body ++ rest }) ≡ Ok (body, behind place body rest)
  bytes_again place body rest =
      enough _ _ (nat_lt (length (body ++ rest)) (length body)) (le-ltb (length (body ++ rest)) (length body) (omega (arith, length-append body rest)))
      ∙ ap (λ (p : List ℕ × List ℕ). let r : Read (List ℕ) = Ok (p.0, record { place = place + length body; bytes = p.1 }) in r) (λ i. (take_at body rest (length body) refl i, drop_at body rest (length body) refl i))
    where
      enough : {X : Type 0} (x y : X) (b : Bool) → b ≡ false → (if b then x else y) ≡ y
      enough x y true is = absurd (cc is)
      enough x y false is = refl

  pub body_again : (place : ℕ) (body rest : List ℕ) → length body < 2 ^ 32 → body_at (record { place = place; bytes = with_length body ++ rest }) ≡ Ok ((length body, body), behind place (with_length body) rest)
  body_again place body rest fits =
      ap (λ (l : List ℕ). body_at (record { place = place; bytes = l })) (append_assoc (u32 (length body)) body rest)
      ∙ ap (λ (x : Read ℕ). x >>= λ x. bytes_at x.0 x.1 >>= λ y. Ok ((x.0, y.0), y.1)) (u32_spelled.again place (length body) (body ++ rest) fits)
      ∙ ap (λ (y : Read (List ℕ)). y >>= λ y. Ok ((length body, y.0), y.1)) (bytes_again (place + length (u32 (length body))) body rest)
      ∙ ap (λ (p : ℕ). let r : Read (ℕ × List ℕ) = Ok ((length body, body), record { place = p; bytes = rest }) in r) (omega (arith, length-append (u32 (length body)) body))

  pub passed : (n : ℕ) (s t : S) (place gate : ℕ) (body rest : List ℕ) → gate ≡ open_gate → following s body ≡ Some t → length body < 2 ^ 32
      → found_from following (suc n) s place (gate ∷ (with_length body ++ rest)) ≡ found_from following n t (place + 1 + length (with_length body)) rest
  passed n s t place gate body rest is follows fits =
      decided gate _ _ is
      ∙ ap (λ (b : Read (ℕ × List ℕ)). behind_gate following s place b (λ t p bytes. found_from following n t p bytes)) (body_again (place + 1) body rest fits)
      ∙ ap (λ (o : Option S). or_damaged place o (λ t. found_from following n t (place + 1 + length (with_length body)) rest)) follows

  -- ---- what can't be passed

  pub none_left : (n : ℕ) (s : S) (place : ℕ) → found_from following n s place [] ≡ Err place
  none_left zero s place = refl
  none_left (suc n) s place = refl

  pub open_it : (n : ℕ) (s : S) (place gate : ℕ) (rest : List ℕ) → gate ≡ open_gate → found_from following (suc n) s place (gate ∷ rest) ≡ behind_gate following s place (body_at (record { place = place + 1; bytes = rest })) (λ t p bytes. found_from following n t p bytes)
  open_it n s place gate rest is = decided gate _ _ is

  pub no_body : (n : ℕ) (s : S) (place gate : ℕ) (rest : List ℕ) (p : ℕ) → gate ≡ open_gate → body_at (record { place = place + 1; bytes = rest }) ≡ Err p → found_from following (suc n) s place (gate ∷ rest) ≡ Err place
  no_body n s place gate rest p is err = open_it n s place gate rest is ∙ ap (λ (b : Read (ℕ × List ℕ)). behind_gate following s place b (λ t p bytes. found_from following n t p bytes)) err
