-- A frame has one spelling.
use Rattle.std.proofs.Common.{◌≡◌, ℕ, true, List, [], ◌∷◌, ◌++◌, length, Ok, Err, refl, sym, ap, subst, ◌∙◌, arith}
use Rattle.std.proofs.lemmas.Bool.{le-leb}
use Rattle.std.proofs.lemmas.List.{length-append}
use Rattle.adr_wire.specs.Fields.{u32_at, u32}
use Rattle.adr_wire.specs.Ranges.{IsU32}
use Rattle.adr_wire.specs.Reading.{Rest, Read, bytes_at, then_at}
use Rattle.adr_wire.specs.Spelling.{AreBytes, IsSpelling}
use Rattle.adr_wire.proofs.Combining.{both, bytes_spelled, in_range_too, made, passed}
use Rattle.adr_wire.proofs.FieldLaws.{u32_spelled}
use Rattle.adr_frames.specs.Frames.{frame_limit, is_frame_length, IsFrameLength, length_at, frame_at, frame, from, IsOver, IsFrame, next_of, next_in}
use Rattle.adr_frames.proofs.Framing.{length_of_test, next_is}

-- ---- the test of a length

length_passes : (n : ℕ) → IsFrameLength n → is_frame_length n ≡ true
length_passes n h = rw (le-leb 1 n h.0) (le-leb n frame_limit h.1)

length_spelled : IsSpelling IsFrameLength u32 length_at
length_spelled =
    in_range_too (λ n. IsU32 n × (is_frame_length n ≡ true)) u32 length_at (passed IsU32 u32 u32_at u32_spelled is_frame_length) IsFrameLength
    (λ n h. (omega (arith, h.1), length_passes n h))
    (λ n h. length_of_test n h.1)

-- ---- frames

abbrev HasFrameLength : List ℕ → Type 0
HasFrameLength bytes = IsFrameLength (length bytes)

frame_spelled : IsSpelling HasFrameLength frame frame_at
unfolding frame_at
frame_spelled =
    made (λ (p : ℕ × List ℕ). IsFrameLength p.0 × (length p.1 ≡ p.0)) (λ p. u32 p.0 ++ p.1) (then_at length_at bytes_at)
    (both IsFrameLength u32 length_at length_spelled (λ (n : ℕ) (bytes : List ℕ). length bytes ≡ n)
    (λ (_ : ℕ) (bytes : List ℕ). bytes) bytes_at (λ n h. bytes_spelled n))
    (λ p. p.1) HasFrameLength frame
    (λ bytes q. ((length bytes, bytes), refl, (q, refl), refl))
    (λ p q fits. (subst IsFrameLength (sym q.1) q.0, ap (λ (n : ℕ). u32 n ++ p.1) q.1))

pub frames_come_again : (bytes rest : List ℕ) → IsFrameLength (length bytes) → next_in (frame bytes ++ rest) ≡ IsFrame bytes rest
frames_come_again bytes rest fits =
    next_is (frame bytes ++ rest) (omega (arith, fits.0, length-append (frame bytes) rest, length-append (u32 (length bytes)) bytes))
    ∙ ap next_of (frame_spelled.again 0 bytes rest fits)

-- ---- what came

abbrev given : List ℕ → Rest → Read (List ℕ)
given bytes after = Ok (bytes, after)

next_ok : (r : Read (List ℕ)) (bytes rest : List ℕ) → next_of r ≡ IsFrame bytes rest → (after : Rest) × (r ≡ given bytes after) × (after.bytes ≡ rest)
next_ok (Ok x) bytes rest same =
    let first : x.0 ≡ bytes = (cc) in
    (x.1, ap (λ (xs : List ℕ). given xs x.1) first, (cc))
next_ok (Err place) bytes rest same = absurd (cc)

pub frames_were_spelled : (left bytes rest : List ℕ) → AreBytes left → next_in left ≡ IsFrame bytes rest
    → IsFrameLength (length bytes) × (left ≡ frame bytes ++ rest)
frames_were_spelled [] bytes rest fits same = absurd (cc)
frames_were_spelled (b ∷ bs) bytes rest fits same =
    let r = next_ok (frame_at (from (b ∷ bs))) bytes rest same in
    let was = frame_spelled.only 0 (b ∷ bs) bytes r.0 fits r.1 in
    (was.in_range, was.spelled_so ∙ ap (λ (xs : List ℕ). frame bytes ++ xs) r.2)

not_over : (r : Read (List ℕ)) → next_of r ≡ IsOver → ⊥
not_over (Ok x) same = cc
not_over (Err place) same = cc

pub nothing_is_left : (left : List ℕ) → next_in left ≡ IsOver → left ≡ []
nothing_is_left [] same = refl
nothing_is_left (b ∷ bs) same = absurd (not_over (frame_at (from (b ∷ bs))) same)
