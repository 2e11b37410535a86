-- The first items have fewer bytes than the limit at which they are cut and one more item.
use Rattle.std.proofs.Common.{◌≡◌, ◌⊎◌, inl, inr, ⊎_elim, ℕ, ◌+◌, ◌-◌, ◌≤◌, List, [], ◌∷◌, length, Bool, true, false, ◌==◌, ◌||◌, if◌then◌else◌, refl, map, arith}
use Rattle.std.specs.List.{flat_map}
use Rattle.std.proofs.lemmas.Bool.{eqb-true, eqb-false, or_parts}
use Rattle.std.proofs.lemmas.List.{length-append}
use Rattle.adr_model.specs.Member.{Each}
use Rattle.adr_model.specs.Change.{Item}
use Rattle.adr_model.specs.Serve.{first_items, item_length}
use Rattle.adr_packet.specs.Parts.{item}

abbrev pub bytes_of : List (ℕ × Item) → List ℕ
bytes_of cs = flat_map item (map (λ (c : ℕ × Item). c.1) cs)

module _ (longest : ℕ) where
  abbrev IsCounted : ℕ × Item → Type 0
  IsCounted c = (length (item c.1) ≤ item_length c.1) × (item_length c.1 ≤ longest)

  -- none where there is no room left
  abbrev IsCut : ℕ → List (ℕ × Item) → Type 0
  IsCut bytes cs = ((bytes ≡ 0) × (length (bytes_of cs) ≡ 0)) ⊎ ((1 ≤ bytes) × (length (bytes_of cs) ≤ bytes + longest))

  nothing : (bytes : ℕ) → IsCut bytes []
  nothing bytes = by (bytes == 0) refl
    where
      by : (b : Bool) → (bytes == 0) ≡ b → IsCut bytes []
      by true is = inl (eqb-true bytes 0 is, refl)
      by false is = let some = eqb-false bytes 0 is in inr (omega arith, omega arith)

  cut_so : (most bytes : ℕ) (cs : List (ℕ × Item)) → Each IsCounted cs → IsCut bytes (first_items most bytes cs)
  cut_so most bytes [] each = nothing bytes
  cut_so most bytes (c ∷ cs) each = by ((most == 0) || (bytes == 0)) refl (cut_so (most - 1) (bytes - item_length c.1) cs (λ d m. each d (inr m)))
    where
      next : List (ℕ × Item)
      next = first_items (most - 1) (bytes - item_length c.1) cs

      by : (b : Bool) → ((most == 0) || (bytes == 0)) ≡ b → IsCut (bytes - item_length c.1) next → IsCut bytes (if b then [] else c ∷ next)
      by true is rest = nothing bytes
      by false is rest =
          let some = eqb-false bytes 0 (or_parts (most == 0) (bytes == 0) is).1 in
          let here = each c (inl refl) in
          let joined = length-append (item c.1) (bytes_of next) in
          ⊎_elim
          (λ none. inr (omega arith, omega (arith, here.0, here.1, none.1)))
          (λ left. inr (omega arith, omega (arith, here.0, left.0, left.1)))
          rest

  pub cut_at : (most bytes : ℕ) (cs : List (ℕ × Item)) → Each IsCounted cs → length (bytes_of (first_items most bytes cs)) ≤ bytes + longest
  cut_at most bytes cs each = ⊎_elim (λ none. omega (arith, none.1)) (λ some. some.1) (cut_so most bytes cs each)
