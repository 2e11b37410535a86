-- Names that are kept in a set of strings, and identifiers in a set of bytes.
use Rattle.std.proofs.Common.{◌≡◌, ℕ, false, List, [], ◌∷◌, ◌++◌, map, refl, ap, ◌∙◌, if◌then◌else◌}
use Rattle.std.specs.Prelude.{String, string_bytes}
use Rattle.std.specs.List.{list_any}
use Rattle.std.specs.Str.{bytes_eq}
use Rattle.std.proofs.lemmas.Cmp.{nat_list_eq_equiv}
use Rattle.std.proofs.lemmas.List.{map-append}
use Rattle.adr_schedule.specs.Seen.{is_bound}

-- an identifier was given where it is kept
pub kept : (id : List ℕ) (ids : List (List ℕ)) → list_any (bytes_eq id) ids ≡ is_bound ids id
kept id [] = refl
kept id (given ∷ ids) = rw (nat_list_eq_equiv.symm id given, kept id ids) refl

-- a new identifier goes last
pub given_last : (ids all : List (List ℕ)) (id : List ℕ) → is_bound ids id ≡ false
    → all ≡ (if list_any (bytes_eq id) ids then ids else ids ++ id ∷ [])
    → all ≡ ids ++ id ∷ []
given_last ids all id new grown = grown ∙ ap (λ b. if b then ids else ids ++ id ∷ []) (kept id ids ∙ new)

module _ {Y : Type 0} where
  -- a name is bound where a string of its bytes is kept
  pub found : (name : List ℕ) (keys : List (String Y)) → list_any (λ k. bytes_eq name (string_bytes k)) keys ≡ is_bound (map string_bytes keys) name
  found name [] = refl
  found name (k ∷ keys) = rw (nat_list_eq_equiv.symm name (string_bytes k), found name keys) refl

  -- a new name goes last
  pub bound_last : (keys all : List (String Y)) (k : String Y) (name : List ℕ) → string_bytes k ≡ name → is_bound (map string_bytes keys) name ≡ false
      → all ≡ (if list_any (λ x. bytes_eq (string_bytes k) (string_bytes x)) keys then keys else keys ++ k ∷ [])
      → map string_bytes all ≡ map string_bytes keys ++ name ∷ []
  bound_last keys all k name is new grown =
      let none : list_any (λ x. bytes_eq (string_bytes k) (string_bytes x)) keys ≡ false = found (string_bytes k) keys ∙ ap (is_bound (map string_bytes keys)) is ∙ new in
      let last : all ≡ keys ++ k ∷ [] = grown ∙ ap (λ b. if b then keys else keys ++ k ∷ []) none in
      ap (map string_bytes) last ∙ map-append string_bytes keys (k ∷ []) ∙ ap (λ n. map string_bytes keys ++ n ∷ []) is
