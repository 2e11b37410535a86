-- One step of a loop over rows, of which each adds what it gives.
use Rattle.std.proofs.Common.{◌≡◌, ◌<◌, ℕ, suc, List, [], ◌∷◌, ◌++◌, Bool, true, false, ◌&&◌, Option, Some, None, refl, sym, ap, ◌∙◌, subst, append_assoc, drop, length, get_or, Bor}
use Rattle.std.specs.List.{flat_map, cons_option}
use Rattle.adr_values.specs.declared.stamp.Oid.{Oid}
use Rattle.adr_values.specs.declared.content.Value.{Value as Item}
use Rattle.adr_model.specs.Directory.{values_at, values_in}
use Rattle.adr_model.specs.Store.{Held, updates_of}
use Rattle.adr_update.specs.Referents.{referents}
use Rattle.adr_update.proofs.Referred.{from_here}
use Rattle.adr_view.specs.BackLinks.{has_back_link, have_back_links}

both : (b c : Bool) → b && c ≡ true → (b ≡ true) × (c ≡ true)
both true c e = (refl, e)
both false c e = absurd (cc)

put_before : {A : Type 0} (o : Option A) (xs : List A) → cons_option o [] ++ xs ≡ cons_option o xs
put_before None xs = refl
put_before (Some x) xs = refl

module _ (xs : List (Bor Held)) (i j : ℕ) (x : Bor Held) (within : i < length xs) (is : x ≡ get_or xs i x) (next : j ≡ suc i) where
  pub next_flat : {B : Type 0} (f : Held → List B) (ys zs whole : List B) → zs ≡ ys ++ f x.now → ys ++ flat_map f (referents (drop i xs)) ≡ whole → zs ++ flat_map f (referents (drop j xs)) ≡ whole
  next_flat f ys zs whole grown so_far =
      ap (λ ws. ws ++ flat_map f (referents (drop j xs))) grown
      ∙ (append_assoc ys (f x.now) (flat_map f (referents (drop j xs)))
      ∙ (ap (λ (ws : List (Bor Held)). ys ++ flat_map f (referents ws)) (sym (from_here xs i j x within is next)) ∙ so_far))

  pub next_linked : have_back_links (updates_of (referents (drop i xs))) ≡ true → (has_back_link x.now.update.key ≡ true) × (have_back_links (updates_of (referents (drop j xs))) ≡ true)
  next_linked linked = both _ _ (subst (λ (ws : List (Bor Held)). have_back_links (updates_of (referents ws)) ≡ true) (from_here xs i j x within is next) linked)

  pub next_valued : (o : Oid) (ys zs whole : List (ℕ × List Item)) → zs ≡ ys ++ values_at (x.now.update ∷ []) o
      → ys ++ values_at (updates_of (referents (drop i xs))) o ≡ whole → zs ++ values_at (updates_of (referents (drop j xs))) o ≡ whole
  next_valued o ys zs whole grown so_far =
      ap (λ ws. ws ++ values_at (updates_of (referents (drop j xs))) o) grown
      ∙ (append_assoc ys (values_at (x.now.update ∷ []) o) (values_at (updates_of (referents (drop j xs))) o)
      ∙ (ap (λ ws. ys ++ ws) (put_before (values_in o x.now.update.key x.now.update.said) (values_at (updates_of (referents (drop j xs))) o))
      ∙ (ap (λ (ws : List (Bor Held)). ys ++ values_at (updates_of (referents ws)) o) (sym (from_here xs i j x within is next)) ∙ so_far)))
