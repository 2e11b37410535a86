-- An image is spelled in one way, alone and in other bytes.
use Rattle.std.proofs.Common.{◌≡◌, ℕ, true, List, Ok, refl, sym, ap, subst, arith}
use Rattle.adr_wire.specs.Fields.{format_version_at, magic_at}
use Rattle.adr_wire.specs.Headed.{is_version}
use Rattle.adr_wire.specs.Ranges.{IsU16}
use Rattle.adr_wire.specs.Reading.{Rest, Read, ◌>>=◌, then_at}
use Rattle.adr_wire.specs.Spelling.{AreBytes, IsSpelling}
use Rattle.adr_wire.proofs.Combining.{made}
use Rattle.adr_wire.proofs.HeadedLaws.{again_of_two, only_of_two, headed_spelled}
use Rattle.adr_model.specs.Formed.{IsFormedStore}
use Rattle.adr_model.specs.Store.{Held, Store}
use Rattle.adr_image.specs.Stored.{IsSpelled, WasImage, decoded, image, image_at, image_version, parts_in, store_at, store_of}
use Rattle.adr_image.specs.Whole.{IsOf, Parts, body, image_of, magic, parts_at}
use Rattle.adr_image.proofs.InRange.{in_range, same_rows}
use Rattle.adr_image.proofs.Limits.{formed}
use Rattle.adr_image.proofs.Spelled.{spelled}
use Rattle.adr_image.proofs.Steps.{then_ok}
use Rattle.adr_image.proofs.Storing.{parts_again_in}
use Rattle.adr_image.proofs.WholeLaws.{ArePartsOf, one_or_two, parts_spelled}

-- a formed and spelled store that an image of the version can tell
abbrev pub IsRight : ℕ → Store → Type 0
IsRight version s = (IsFormedStore s × IsSpelled s) × IsOf version (parts_in s)

stored_again : (s : Store) → IsFormedStore s → IsSpelled s → store_of (parts_in s) ≡ s
stored_again s f q =
    ap (λ (rows : List Held). let x : Store = record { schema = s.schema; usn = s.usn; rows = rows; vector = s.vector; times = s.times; purged = s.purged; marks = s.marks } in x) (same_rows s f q)

-- a store behind magic and version, to the end
abbrev fields : ℕ → Store → List ℕ
fields version s = body version (parts_in s)

store_spelled : (version : ℕ) → IsSpelling (IsRight version) (fields version) (store_at version)
store_spelled version =
    made (ArePartsOf version) (body version) (parts_at version) (parts_spelled version) store_of (IsRight version) (fields version)
    (λ s q. (parts_in s, sym (stored_again s q.0.0 q.0.1), (in_range s q.0.0 q.0.1, q.1), refl))
    (λ p q fits.
    let same = parts_again_in p q.0 in
    (((formed p q.0, spelled p q.0), subst (IsOf version) (sym same) q.1), ap (body version) same))

-- the image of a formed and spelled store is read again, of each version that can tell it
pub image_of_read : (version : ℕ) (s : Store) → is_version version ≡ true → IsFormedStore s → IsSpelled s → IsOf version (parts_in s) → decoded (image_of version (parts_in s)) ≡ Ok s
image_of_read version s known f q of = again_of_two magic refl IsRight fields store_at store_spelled version known s ((f, q), of)

-- the version that is written can tell all
pub of_two : (p : Parts) → IsOf image_version p
of_two p one = absurd (cc)

pub image_read : (s : Store) → IsFormedStore s → IsSpelled s → decoded (image s) ≡ Ok s
image_read s f q = image_of_read image_version s refl f q (of_two (parts_in s))

-- what is read of an image is a formed and spelled store, whose image it was
pub read_is_formed : (bytes : List ℕ) (s : Store) → AreBytes bytes → decoded bytes ≡ Ok s → IsFormedStore s × IsSpelled s × WasImage bytes s
read_is_formed bytes s fits e =
    let law = only_of_two magic refl IsRight fields store_at store_spelled bytes s fits e in
    (law.2.0.0, law.2.0.1, record { version = law.0; known = law.1; of = law.2.1; spelled_so = law.3 })

pub version_fits : (version : ℕ) → is_version version ≡ true → IsU16 version
version_fits version known = let small = one_or_two version known in omega (arith, small)

-- and one that stands in other bytes
pub image_spelled : (version : ℕ) → IsU16 version → IsSpelling (IsRight version) (λ s. image_of version (parts_in s)) (image_at version)
unfolding image_at
image_spelled version fits = headed_spelled magic refl version fits (IsRight version) (fields version) (store_at version) (store_spelled version)

pub image_placed : (version : ℕ) (r0 r1 r2 r3 : Rest) (m : List ℕ) (v : ℕ) (p : Parts) → magic_at magic r0 ≡ Ok (m, r1) → format_version_at version r1 ≡ Ok (v, r2) → parts_at version r2 ≡ Ok (p, r3)
    → image_at version r0 ≡ Ok (store_of p, r3)
unfolding image_at
image_placed version r0 r1 r2 r3 m v p a b c =
    ap (λ (r : Read (List ℕ × (ℕ × Store))). r >>= λ x. Ok (x.0.1.1, x.1))
    (then_ok (magic_at magic) (λ _. then_at (format_version_at version) (λ _. store_at version)) r0 r1 r3 m (v, store_of p) a
    (then_ok (format_version_at version) (λ _. store_at version) r1 r2 r3 v (store_of p) b (ap (λ (r : Read Parts). r >>= λ x. Ok (store_of x.0, x.1)) c)))
