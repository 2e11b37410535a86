-- What comes of lists of links, one list after the other.
use Rattle.std.proofs.Common.{◌≡◌, ◌<◌, ◌+◌, ℕ, List, [], ◌∷◌, ◌++◌, flat_map, fold, get_or, drop, length, refl, sym, ap, ◌∙◌}
use Rattle.std.proofs.lemmas.List.{drop_more}

module _ {A K : Type 0} (f : K → A → K) where
  fold_over : (z : K) (xs ys : List A) → fold f z (xs ++ ys) ≡ fold f (fold f z xs) ys
  fold_over z [] ys = refl
  fold_over z (x ∷ xs) ys = fold_over (f z x) xs ys

  -- one list more
  pub next_folded : {B : Type 0} (each : B → List A) (bs : List B) (i : ℕ) (b : B) → i < length bs → b ≡ get_or bs i b → (z next whole : K) → next ≡ fold f z (each b)
      → fold f z (flat_map each (drop i bs)) ≡ whole → fold f next (flat_map each (drop (i + 1) bs)) ≡ whole
  next_folded each bs i b within is z next whole grown so_far =
      ap (λ y. fold f y (flat_map each (drop (i + 1) bs))) (grown ∙ ap (λ a. fold f z (each a)) is)
      ∙ (sym (fold_over z (each (get_or bs i b)) (flat_map each (drop (i + 1) bs)))
      ∙ (sym (ap (λ cs. fold f z (flat_map each cs)) (drop_more bs i b within)) ∙ so_far))
