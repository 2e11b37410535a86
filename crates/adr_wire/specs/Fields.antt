-- The fields: how each value is spelled in bytes, and how it is read.
use Rattle.std.specs.Prelude.{ℕ, ◌^◌, List, [], ◌∷◌, ◌++◌, length, Bool, nat_lt, nat_le, ◌&&◌, if◌then◌else◌, ◌==◌, Err, ℤ}
use Rattle.std.specs.Int.{Width, w16, w32, w64, byte_len, from_be_bytes, to_be_bytes, cast_signed, cast_unsigned}
use Rattle.std.specs.Str.{bytes_eq, is_utf8}
use Rattle.adr_wire.specs.Reading.{Reading, ◌>>=◌, bytes_at, as_at, where_at}

-- ---- numbers, the high byte first

abbrev pub byte_of : List ℕ → ℕ
byte_of [] = 0
byte_of (b ∷ bs) = b

unfoldable pub u8_at : Reading ℕ
u8_at = as_at byte_of (bytes_at 1)

abbrev pub number_at : Width → Reading ℕ
number_at w = as_at (from_be_bytes w) (bytes_at (byte_len w))

unfoldable pub u16_at : Reading ℕ
u16_at = number_at w16

unfoldable pub u32_at : Reading ℕ
u32_at = number_at w32

unfoldable pub u64_at : Reading ℕ
u64_at = number_at w64

unfoldable pub i64_at : Reading ℤ
i64_at = as_at (cast_signed w64) u64_at

abbrev pub u8 : ℕ → List ℕ
u8 n = n ∷ []

unfoldable pub u16 : ℕ → List ℕ
u16 n = to_be_bytes w16 n

unfoldable pub u32 : ℕ → List ℕ
u32 n = to_be_bytes w32 n

unfoldable pub u64 : ℕ → List ℕ
u64 n = to_be_bytes w64 n

unfoldable pub i64 : ℤ → List ℕ
i64 z = u64 (cast_unsigned w64 z)

-- ---- identifiers and flags

unfoldable pub id_at : Reading (List ℕ)
id_at = bytes_at 16

abbrev pub id : List ℕ → List ℕ
id guid = guid

-- a byte that is 0 or 1
unfoldable pub flag_at : Reading Bool
flag_at = as_at (λ n. n == 1) (where_at (λ n. nat_le n 1) u8_at)

abbrev pub flag : Bool → List ℕ
flag b = u8 (if b then 1 else 0)

-- ---- numbers in range

abbrev pub is_usn0 : ℕ → Bool
is_usn0 n = nat_lt n (2 ^ 63)

abbrev pub is_usn : ℕ → Bool
is_usn n = nat_le 1 n && is_usn0 n

abbrev pub is_version : ℕ → Bool
is_version n = nat_le 1 n

unfoldable pub usn_at : Reading ℕ
usn_at = where_at is_usn u64_at

unfoldable pub usn0_at : Reading ℕ
usn0_at = where_at is_usn0 u64_at

unfoldable pub version_at : Reading ℕ
version_at = where_at is_version u32_at

-- ---- octets and texts: a length, and so many bytes

-- a length that is too great is a fault at the length
unfoldable pub octets_at : Reading (List ℕ)
octets_at rest = u16_at rest >>= λ n. if nat_lt (length n.1.bytes) n.0 then Err rest.place else bytes_at n.0 n.1

unfoldable pub text_at : Reading (List ℕ)
text_at = where_at is_utf8 octets_at

unfoldable pub octets : List ℕ → List ℕ
octets bytes = u16 (length bytes) ++ bytes

unfoldable pub text : List ℕ → List ℕ
text bytes = octets bytes

-- ---- with what a format begins: its magic of four bytes, and its version

abbrev pub magic_at : List ℕ → Reading (List ℕ)
magic_at magic = where_at (bytes_eq magic) (bytes_at 4)

abbrev pub format_version_at : ℕ → Reading ℕ
format_version_at version = where_at (λ found. found == version) u16_at
