-- Lists of references, by what they refer to.
use Rattle.std.proofs.Common.{◌≡◌, ◌<◌, ℕ, zero, suc, Bool, true, false, cond, List, [], ◌∷◌, ◌++◌, refl, sym, ap, ◌∙◌, append_assoc, drop, drop-cons, filter, map, length, get_or, slice_set, Bor}
use Rattle.std.specs.Prelude.{insert}
use Rattle.adr_update.specs.Referents.{referents}

module _ {A : Type 0} where
  pub referents_kept : (test : A → Bool) (xs : List (Bor A)) → referents (filter (λ x. test x.now) xs) ≡ filter test (referents xs)
  referents_kept test [] = refl
  referents_kept test (x ∷ xs) = by (test x.now) (referents_kept test xs)
    where
      by : (b : Bool) → referents (filter (λ y. test y.now) xs) ≡ filter test (referents xs)
          → referents (cond b (x ∷ filter (λ y. test y.now) xs) (filter (λ y. test y.now) xs)) ≡ cond b (x.now ∷ filter test (referents xs)) (filter test (referents xs))
      by true rest = ap (λ ys. x.now ∷ ys) rest
      by false rest = rest

  pub length_referents : (xs : List (Bor A)) → length (referents xs) ≡ length xs
  length_referents [] = refl
  length_referents (x ∷ xs) = ap suc (length_referents xs)

  pub referent_at : (xs : List (Bor A)) (i : ℕ) (x : Bor A) → i < length xs → x ≡ get_or xs i x → x.now ≡ get_or (referents xs) i x.now
  referent_at xs i x within is = ap (λ (y : Bor A). y.now) is ∙ got xs i x
    where
      got : (ys : List (Bor A)) (j : ℕ) (d : Bor A) → (get_or ys j d).now ≡ get_or (referents ys) j d.now
      got [] j d = refl
      got (y ∷ ys) zero d = refl
      got (y ∷ ys) (suc j) d = got ys j d

  pub referents_set : (xs : List (Bor A)) (i : ℕ) (x : Bor A) → referents (slice_set xs i x) ≡ slice_set (referents xs) i x.now
  referents_set [] i x = refl
  referents_set (y ∷ ys) zero x = refl
  referents_set (y ∷ ys) (suc i) x = ap (λ (zs : List A). y.now ∷ zs) (referents_set ys i x)

  pub referents_insert : (xs : List (Bor A)) (i : ℕ) (x : Bor A) → referents (insert xs i x) ≡ insert (referents xs) i x.now
  referents_insert [] i x = none i
    where
      none : (j : ℕ) → referents (insert [] j x) ≡ insert (referents []) j x.now
      none zero = refl
      none (suc j) = refl
  referents_insert (y ∷ ys) zero x = refl
  referents_insert (y ∷ ys) (suc i) x = ap (λ (zs : List A). y.now ∷ zs) (referents_insert ys i x)

  pub from_here : (xs : List (Bor A)) (i j : ℕ) (x : Bor A) → i < length xs → x ≡ get_or xs i x → j ≡ suc i → drop i xs ≡ x ∷ drop j xs
  from_here xs i j x within is next = drop-cons xs i x within ∙ (ap (λ y. y ∷ drop (suc i) xs) (sym is) ∙ ap (λ n. x ∷ drop n xs) (sym next))

  -- one step of a loop that maps what they refer to
  pub next_mapped : {B : Type 0} (f : A → B) (xs : List (Bor A)) (i j : ℕ) (x : Bor A) → i < length xs → x ≡ get_or xs i x → j ≡ suc i → (ys zs whole : List B) → zs ≡ ys ++ f x.now ∷ []
      → ys ++ map f (referents (drop i xs)) ≡ whole → zs ++ map f (referents (drop j xs)) ≡ whole
  next_mapped f xs i j x within is next ys zs whole grown so_far =
      ap (λ ws. ws ++ map f (referents (drop j xs))) grown
      ∙ (append_assoc ys (f x.now ∷ []) (map f (referents (drop j xs)))
      ∙ (ap (λ (ws : List (Bor A)). ys ++ map f (referents ws)) (sym (from_here xs i j x within is next)) ∙ so_far))
