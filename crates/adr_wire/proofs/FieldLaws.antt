-- Each field and each composite is spelled in one way.
use Rattle.std.proofs.Common.{◌≡◌, ℕ, zero, suc, ◌<◌, ◌^◌, Bool, true, false, cond, ltb, leb, eqb, ◌&&◌, List, [], ◌∷◌, ◌++◌, length, Ok, Err, refl, sym, ap, subst, ◌∙◌, arith}
use Rattle.std.specs.Prelude.{⊤}
use Rattle.std.specs.Int.{Width, w16, w32, w64, byte_len, from_be_bytes, to_be_bytes, cast_signed, cast_unsigned}
use Rattle.std.specs.Str.{bytes_eq, is_utf8}
use Rattle.std.proofs.lemmas.Bool.{eq-eqb, eqb-true, ltb-true, le-ltb, lt-ltb, leb-true, le-leb}
use Rattle.std.proofs.lemmas.List.{length-append}
use Rattle.std.proofs.lemmas.Slice.Eq.{bytes_eq-Decides}
use Rattle.std.proofs.lemmas.Nat.{be_bytes_2, be_bytes_4, be_bytes_8, from_be_bytes-to_be_bytes_2, from_be_bytes-to_be_bytes_4, from_be_bytes-to_be_bytes_8}
use Rattle.std.proofs.lemmas.Int.{to_z-of_z, of_z-to_z}
use Rattle.std.proofs.Math.Facts.{Fits-of_z, sfits_to_z}
use Rattle.adr_wire.specs.Reading.{Rest, Read, bytes_at, where_at}
use Rattle.adr_wire.specs.Fields.{byte_of, u8_at, number_at, u16_at, u32_at, u64_at, i64_at, id_at, flag_at, is_usn, is_usn0, is_version, usn_at, usn0_at, version_at, octets_at, text_at, magic_at, format_version_at, u8, u16, u32, u64, i64, id, flag, octets, text}
use Rattle.adr_wire.specs.Spelling.{AreBytes, IsSpelling}
use Rattle.adr_wire.specs.Ranges.{IsU8, IsU16, IsU32, IsU64, IsI64, IsId, IsFlag, IsUsn, IsUsn0, IsVersion, IsOctets, IsText}
use Rattle.adr_wire.proofs.Combining.{from, HasLength, as_they_are, bytes_spelled, made, in_range_too, passed, followed}

-- ---- numbers

pub record IsWide (w : Width) (limit : ℕ) : Type 0 where
  pub len : (n : ℕ) → length (to_be_bytes w n) ≡ byte_len w
  pub back : (bytes : List ℕ) → length bytes ≡ byte_len w → AreBytes bytes → to_be_bytes w (from_be_bytes w bytes) ≡ bytes
  pub again : (n : ℕ) → n < limit → from_be_bytes w (to_be_bytes w n) ≡ n
  pub below : (bytes : List ℕ) → AreBytes bytes → from_be_bytes w bytes < limit

wide16 : IsWide w16 (2 ^ 16)
wide16 = record {
  len = λ n. refl;
  back = λ bytes len fits. be_bytes_2 bytes _ len fits refl;
  again = λ n lt. from_be_bytes-to_be_bytes_2 n lt;
  below = λ bytes fits. omega (arith, fits 0, fits 1);
}

wide32 : IsWide w32 (2 ^ 32)
wide32 = record {
  len = λ n. refl;
  back = λ bytes len fits. be_bytes_4 bytes _ len fits refl;
  again = λ n lt. from_be_bytes-to_be_bytes_4 n lt;
  below = λ bytes fits. omega (arith, fits 0, fits 1, fits 2, fits 3);
}

wide64 : IsWide w64 (2 ^ 64)
wide64 = record {
  len = λ n. refl;
  back = λ bytes len fits. be_bytes_8 bytes _ len fits refl;
  again = λ n lt. from_be_bytes-to_be_bytes_8 n lt;
  below = λ bytes fits. omega (arith, fits 0, fits 1, fits 2, fits 3, fits 4, fits 5, fits 6, fits 7);
}

number_spelled : (w : Width) (limit : ℕ) → IsWide w limit → IsSpelling (λ n. n < limit) (to_be_bytes w) (number_at w)
number_spelled w limit wide =
    made (HasLength (byte_len w)) as_they_are (bytes_at (byte_len w)) (bytes_spelled (byte_len w)) (from_be_bytes w) (λ n. n < limit) (to_be_bytes w)
    (λ n lt. (to_be_bytes w n, sym (wide.again n lt), wide.len n, refl))
    (λ bytes len fits. (wide.below bytes fits, wide.back bytes len fits))

one_byte : (bytes : List ℕ) → length bytes ≡ 1 → AreBytes bytes → IsU8 (byte_of bytes) × (u8 (byte_of bytes) ≡ bytes)
one_byte [] len fits = absurd (omega arith)
one_byte (b ∷ []) len fits = (fits 0, refl)
one_byte (b ∷ (d ∷ bs)) len fits = absurd (omega arith)

pub u8_spelled : IsSpelling IsU8 u8 u8_at
unfolding u8_at
u8_spelled = made (HasLength 1) as_they_are (bytes_at 1) (bytes_spelled 1) byte_of IsU8 u8 (λ n lt. (n ∷ [], refl, refl, refl)) (λ bytes len fits. one_byte bytes len fits)

pub u16_spelled : IsSpelling IsU16 u16 u16_at
unfolding u16_at u16
u16_spelled = number_spelled w16 (2 ^ 16) wide16

pub u32_spelled : IsSpelling IsU32 u32 u32_at
unfolding u32_at u32
u32_spelled = number_spelled w32 (2 ^ 32) wide32

pub u64_spelled : IsSpelling IsU64 u64 u64_at
unfolding u64_at u64
u64_spelled = number_spelled w64 (2 ^ 64) wide64

pub i64_spelled : IsSpelling IsI64 i64 i64_at
unfolding i64_at i64
i64_spelled =
    made IsU64 u64 u64_at u64_spelled (cast_signed w64) IsI64 i64
    (λ z fits. (cast_unsigned w64 z, sym (to_z-of_z w64 z fits), (Fits-of_z {w = w64} {z = z} fits).fits, refl))
    (λ n lt fits. (sfits_to_z {w = w64} {n = n} (record { fits = lt }), ap u64 (of_z-to_z w64 n lt)))

pub id_spelled : IsSpelling IsId id id_at
unfolding id_at
id_spelled = bytes_spelled 16

-- ---- numbers in range

two : (a b : Bool) → (a && b) ≡ true → (a ≡ true) × (b ≡ true)
two true b h = (refl, h)
two false b h = absurd (cc)

pub usn_spelled : IsSpelling IsUsn u64 usn_at
unfolding usn_at
usn_spelled =
    in_range_too (λ n. IsU64 n × (is_usn n ≡ true)) u64 (where_at is_usn u64_at) (passed IsU64 u64 u64_at u64_spelled is_usn) IsUsn
    (λ n h. (omega arith, rw (le-leb 1 n h.0) (lt-ltb n (2 ^ 63) h.1)))
    (λ n h. let p = two (leb 1 n) (ltb n (2 ^ 63)) h.1 in (leb-true 1 n p.0, ltb-true n (2 ^ 63) p.1))

pub usn0_spelled : IsSpelling IsUsn0 u64 usn0_at
unfolding usn0_at
usn0_spelled =
    in_range_too (λ n. IsU64 n × (is_usn0 n ≡ true)) u64 (where_at is_usn0 u64_at) (passed IsU64 u64 u64_at u64_spelled is_usn0) IsUsn0
    (λ n h. (omega arith, lt-ltb n (2 ^ 63) h))
    (λ n h. ltb-true n (2 ^ 63) h.1)

pub version_spelled : IsSpelling IsVersion u32 version_at
unfolding version_at
version_spelled =
    in_range_too (λ n. IsU32 n × (is_version n ≡ true)) u32 (where_at is_version u32_at) (passed IsU32 u32 u32_at u32_spelled is_version) IsVersion
    (λ n h. (h.1, le-leb 1 n h.0))
    (λ n h. (leb-true 1 n h.1, h.0))

-- ---- flags

flag_of : (n : ℕ) → leb n 1 ≡ true → flag (eqb n 1) ≡ u8 n
flag_of zero h = refl
flag_of (suc zero) h = refl
flag_of (suc (suc n)) h = absurd (let le = leb-true (suc (suc n)) 1 h in omega arith)

pub flag_spelled : IsSpelling IsFlag flag flag_at
unfolding flag_at
flag_spelled =
    made (λ n. IsU8 n × (leb n 1 ≡ true)) u8 (where_at (λ n. leb n 1) u8_at) (passed IsU8 u8 u8_at u8_spelled (λ n. leb n 1)) (λ n. eqb n 1) IsFlag flag
    (λ b h. byte b)
    (λ n h fits. (tt, flag_of n h.1))
  where
    byte : (b : Bool) → (n : ℕ) × (b ≡ eqb n 1) × (IsU8 n × (leb n 1 ≡ true)) × (flag b ≡ u8 n)
    byte true = (1, refl, (omega arith, refl), refl)
    byte false = (0, refl, (omega arith, refl), refl)

-- ---- octets and texts

so_many : (place n : ℕ) → IsSpelling (λ bytes. ⊤ × (length bytes ≡ n)) as_they_are (λ rest. cond (ltb (length rest.bytes) n) (Err place) (bytes_at n rest))
so_many place n = record {
  again = λ at x bytes q.
      let long : ltb (length (x ++ bytes)) n ≡ false = (let h = q.1 in le-ltb (length (x ++ bytes)) n (omega (arith, length-append x bytes))) in
      ap (λ (b : Bool). cond b (Err place) (bytes_at n (from at (x ++ bytes)))) long ∙ (bytes_spelled n).again at x bytes q.1;
  only = λ at bytes x rest fits e.
      let long = enough (ltb (length bytes) n) (bytes_at n (from at bytes)) (x, rest) e in
      let was = (bytes_spelled n).only at bytes x rest fits long in
      record { in_range = (tt, was.in_range); spelled_so = was.spelled_so; moved = was.moved };
}
  where
    enough : (b : Bool) (r : Read (List ℕ)) (y : List ℕ × Rest) → cond b (Err place) r ≡ Ok y → r ≡ Ok y
    enough true r y e = absurd (cc)
    enough false r y e = e

pub octets_spelled : IsSpelling IsOctets octets octets_at
unfolding octets_at octets
octets_spelled =
    in_range_too (λ bytes. IsU16 (length bytes) × ⊤) octets octets_at
    (followed IsU16 u16 u16_at u16_spelled length (λ bytes. ⊤) as_they_are (λ place n rest. cond (ltb (length rest.bytes) n) (Err place) (bytes_at n rest)) (λ place n h. so_many place n))
    IsOctets (λ bytes h. (h, tt)) (λ bytes h. h.0)

pub text_spelled : IsSpelling IsText text text_at
unfolding text_at text
text_spelled = passed IsOctets octets octets_at octets_spelled is_utf8

-- ---- with what a format begins

pub magic_spelled : (magic : List ℕ) → length magic ≡ 4 → IsSpelling (λ found. found ≡ magic) as_they_are (magic_at magic)
magic_spelled magic long =
    in_range_too (λ m. HasLength 4 m × (bytes_eq magic m ≡ true)) as_they_are (magic_at magic) (passed (HasLength 4) as_they_are (bytes_at 4) (bytes_spelled 4) (bytes_eq magic)) (λ m. m ≡ magic)
    (λ m is. (ap (λ (l : List ℕ). length l) is ∙ long, (bytes_eq-Decides magic m).1 (sym is)))
    (λ m h. sym ((bytes_eq-Decides magic m).0 h.1))

pub format_version_spelled : (version : ℕ) → IsU16 version → IsSpelling (λ found. found ≡ version) u16 (format_version_at version)
format_version_spelled version fits =
    in_range_too (λ v. IsU16 v × (eqb v version ≡ true)) u16 (format_version_at version) (passed IsU16 u16 u16_at u16_spelled (λ v. eqb v version)) (λ v. v ≡ version)
    (λ v is. (subst IsU16 (sym is) fits, eq-eqb v version is))
    (λ v h. eqb-true v version h.1)
