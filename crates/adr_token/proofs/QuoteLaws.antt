-- What is spelled in quotes is read again.
use Rattle.std.proofs.Common.{◌≡◌, ℕ, ◌+◌, ◌*◌, ◌/◌, ◌%◌, ◌<◌, Bool, true, false, ◌||◌, cond, List, [], ◌∷◌, ◌++◌, flat_map, Option, Some, None, refl, sym, ap, ◌∙◌, subst, arith, append_assoc}
use Rattle.std.specs.Prelude.{◌==◌}
use Rattle.std.proofs.lemmas.Bool.Decides.{nat_tests}
use Rattle.uuid.specs.Text.{hex_digit, lower}
use Rattle.adr_token.specs.declared.texts.Place.{Place}
use Rattle.adr_token.specs.declared.texts.Place.TheVariants.{Plain, Escaped, Half}
use Rattle.adr_token.specs.declared.texts.Move.TheVariants.{Close, Go, Byte, Stray}
use Rattle.adr_token.specs.Numbers.{figure}
use Rattle.adr_token.specs.Gives.{Reading, with_first}
use Rattle.adr_token.specs.Texts.{is_control, quoted, follow, half_move, whole_move, IsHalfSmall}
use Rattle.adr_token.specs.Spelling.{two_figures, escaped}

pub figure_again : (d : ℕ) → d < 16 → figure true (hex_digit lower d) ≡ Some d
figure_again d h = grind (arith, nat_tests)

control_small : (b : ℕ) → is_control b ≡ true → b < 128
control_small b h = grind (arith, nat_tests)

-- the test of a byte, with what it says
plain_byte : (b : ℕ) (bs : List ℕ) → (b == 34) ≡ false → (b == 92) ≡ false → is_control b ≡ false → quoted Plain (b ∷ bs) ≡ with_first b (quoted Plain bs)
plain_byte b bs q e k = simp (q, e, k)

escaped_byte : (b : ℕ) (bs : List ℕ) → ((b == 34) || (b == 92)) ≡ true → quoted Plain (92 ∷ b ∷ bs) ≡ with_first b (quoted Plain bs)
escaped_byte b bs h = simp h

-- figures aren't quotes
figure_plain : (d : ℕ) → d < 16 → ((hex_digit lower d == 34) || (hex_digit lower d == 92)) ≡ false
figure_plain d h = grind (arith, nat_tests)

control_byte : (b : ℕ) (bs : List ℕ) → is_control b ≡ true → quoted Plain (92 ∷ two_figures b ++ bs) ≡ with_first b (quoted Plain bs)
control_byte b bs h =
    let small : b < 128 = control_small b h in
    let whole : b / 16 * 16 + b % 16 ≡ b = omega arith in
    simp (figure_plain (b / 16) (omega arith), figure_again (b / 16) (omega arith), figure_again (b % 16) (omega arith), whole, h)

-- one byte
one : (b : ℕ) (bs : List ℕ) (q e k : Bool) → (b == 34) ≡ q → (b == 92) ≡ e → is_control b ≡ k → quoted Plain (cond (q || e) (92 ∷ b ∷ []) (cond k (92 ∷ two_figures b) (b ∷ [])) ++ bs) ≡ with_first b (quoted Plain bs)
one b bs true e k p r s = escaped_byte b bs (rw p refl)
one b bs false true k p r s = escaped_byte b bs (rw (p, r) refl)
one b bs false false true p r s = control_byte b bs s
one b bs false false false p r s = plain_byte b bs p r s

pub reads_back : (text rest : List ℕ) → quoted Plain (flat_map escaped text ++ 34 ∷ rest) ≡ Some (text, rest)
reads_back [] rest = refl
reads_back (b ∷ bs) rest =
    ap (quoted Plain) (append_assoc (escaped b) (flat_map escaped bs) (34 ∷ rest))
    ∙ (one b (flat_map escaped bs ++ 34 ∷ rest) (b == 34) (b == 92) (is_control b) refl refl refl ∙ ap (with_first b) (reads_back bs rest))

-- the bytes with what the place stands behind
behind : Place → List ℕ → List ℕ
behind Plain bs = bs
behind Escaped bs = 92 ∷ bs
behind (Half high) bs = 92 ∷ hex_digit lower high ∷ bs

-- an element, taken from what was read
pub taken : {X : Type 0} (x : X) (o : Reading (List X)) (xs : List X) (rest : List ℕ) → with_first x o ≡ Some (xs, rest) → (more : List X) × (o ≡ Some (more, rest)) × (xs ≡ x ∷ more)
taken {X} x None xs rest h = absurd (cc)
taken {X} x (Some t) xs rest h =
    let e : (x ∷ t.0, t.1) ≡ (xs, rest) = cc in
    (t.0, ap (λ (r : List ℕ). Some (t.0, r)) (ap (λ (p : List X × List ℕ). p.1) e), sym (ap (λ (p : List X × List ℕ). p.0) e))

pub figure_was : (b d : ℕ) → figure true b ≡ Some d → (hex_digit lower d ≡ b) × (d < 16)
figure_was b d h = (grind (arith, nat_tests), grind (arith, nat_tests))

-- a byte in front, whose spelling this is
in_front : (b : ℕ) (front : List ℕ) (bs text rest : List ℕ) (o : Option (List ℕ × List ℕ)) → with_first b o ≡ Some (text, rest)
    → ((more : List ℕ) → o ≡ Some (more, rest) → bs ≡ flat_map escaped more ++ 34 ∷ rest) → escaped b ≡ front → front ++ bs ≡ flat_map escaped text ++ 34 ∷ rest
in_front b front bs text rest o h go spelt =
    let t = taken b o text rest h in
    rw (t.2, go t.0 t.1, ← spelt) (sym (append_assoc (escaped b) (flat_map escaped t.0) (34 ∷ rest)))

-- what a reading of the rest gives, behind the place that it begins in
abbrev Goes : Place → List ℕ → List ℕ → List ℕ → Type 0
Goes place bs text rest = quoted place bs ≡ Some (text, rest) → behind place bs ≡ flat_map escaped text ++ 34 ∷ rest

plain_was : (b : ℕ) (bs text rest : List ℕ) (q e k : Bool) → (b == 34) ≡ q → (b == 92) ≡ e → is_control b ≡ k
    → follow (cond q Close (cond e (Go Escaped) (cond k Stray (Byte b)))) bs (λ next. quoted next bs) ≡ Some (text, rest)
    → Goes Escaped bs text rest → ((more : List ℕ) → Goes Plain bs more rest) → b ∷ bs ≡ flat_map escaped text ++ 34 ∷ rest
unfolding behind
plain_was b bs text rest true e k p r s h escape plain =
    let same : b ≡ 34 = grind (arith, nat_tests) in
    let both : ([], bs) ≡ (text, rest) = cc in
    let none : text ≡ [] = sym (ap (λ (x : List ℕ × List ℕ). x.0) both) in
    let left : rest ≡ bs = sym (ap (λ (x : List ℕ × List ℕ). x.1) both) in
    rw (same, none, left) refl
plain_was b bs text rest false true k p r s h escape plain = let same : b ≡ 92 = grind (arith, nat_tests) in rw same (escape h)
plain_was b bs text rest false false true p r s h escape plain = absurd (cc)
plain_was b bs text rest false false false p r s h escape plain = in_front b (b ∷ []) bs text rest (quoted Plain bs) h plain (rw (p, r, s) refl)

escaped_was : (b : ℕ) (bs text rest : List ℕ) (w : Bool) (d : Option ℕ) → ((b == 34) || (b == 92)) ≡ w → figure true b ≡ d
    → follow (cond w (Byte b) (half_move d)) bs (λ next. quoted next bs) ≡ Some (text, rest)
    → ((high : ℕ) → high < 16 → Goes (Half high) bs text rest) → ((more : List ℕ) → Goes Plain bs more rest) → 92 ∷ b ∷ bs ≡ flat_map escaped text ++ 34 ∷ rest
unfolding behind
escaped_was b bs text rest true d p f h half plain = in_front b (92 ∷ b ∷ []) bs text rest (quoted Plain bs) h plain (rw p refl)
escaped_was b bs text rest false None p f h half plain = absurd (cc)
escaped_was b bs text rest false (Some d) p f h half plain =
    let was = figure_was b d f in
    subst (λ (c : ℕ). 92 ∷ c ∷ bs ≡ flat_map escaped text ++ 34 ∷ rest) was.0 (half d was.1 h)

no_quote : (c : ℕ) → is_control c ≡ true → ((c == 34) || (c == 92)) ≡ false
no_quote c h = grind (arith, nat_tests)

whole_was : (high b d : ℕ) (bs text rest : List ℕ) (k : Bool) → high < 16 → figure true b ≡ Some d → is_control (high * 16 + d) ≡ k
    → follow (cond k (Byte (high * 16 + d)) Stray) bs (λ next. quoted next bs) ≡ Some (text, rest)
    → ((more : List ℕ) → Goes Plain bs more rest) → 92 ∷ hex_digit lower high ∷ b ∷ bs ≡ flat_map escaped text ++ 34 ∷ rest
unfolding behind
whole_was high b d bs text rest false small f s h plain = absurd (cc)
whole_was high b d bs text rest true small f s h plain =
    let was = figure_was b d f in
    let below : d < 16 = was.1 in
    let first : (high * 16 + d) / 16 ≡ high = omega arith in
    let second : (high * 16 + d) % 16 ≡ d = omega arith in
    in_front (high * 16 + d) (92 ∷ hex_digit lower high ∷ b ∷ []) bs text rest (quoted Plain bs) h plain (rw (no_quote (high * 16 + d) s, s, first, second, was.0) refl)

half_was : (high b : ℕ) (bs text rest : List ℕ) (d : Option ℕ) → high < 16 → figure true b ≡ d
    → follow (whole_move high d) bs (λ next. quoted next bs) ≡ Some (text, rest)
    → ((more : List ℕ) → Goes Plain bs more rest) → 92 ∷ hex_digit lower high ∷ b ∷ bs ≡ flat_map escaped text ++ 34 ∷ rest
half_was high b bs text rest None small f h plain = absurd (cc)
half_was high b bs text rest (Some d) small f h plain = whole_was high b d bs text rest (is_control (high * 16 + d)) small f refl h plain

was : (place : Place) (bs text rest : List ℕ) → IsHalfSmall place → Goes place bs text rest
unfolding behind
was place [] text rest small = λ h. absurd (cc)
was Plain (b ∷ bs) text rest small = λ h. plain_was b bs text rest (b == 34) (b == 92) (is_control b) refl refl refl h (was Escaped bs text rest tt) (λ more. was Plain bs more rest tt)
was Escaped (b ∷ bs) text rest small = λ h. escaped_was b bs text rest ((b == 34) || (b == 92)) (figure true b) refl refl h (λ high lt. was (Half high) bs text rest lt) (λ more. was Plain bs more rest tt)
was (Half high) (b ∷ bs) text rest small = λ h. half_was high b bs text rest (figure true b) small refl h (λ more. was Plain bs more rest tt)

pub was_spelled : (bytes text rest : List ℕ) → quoted Plain bytes ≡ Some (text, rest) → bytes ≡ flat_map escaped text ++ 34 ∷ rest
unfolding behind
was_spelled bytes text rest = was Plain bytes text rest tt
