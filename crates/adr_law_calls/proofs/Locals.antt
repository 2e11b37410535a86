-- The last local USN of a unit bounds its rows, is reached, and is told by these alone.
use Rattle.std.proofs.Common.{◌≡◌, ◌⊎◌, inl, inr, ℕ, ◌≤◌, List, [], ◌∷◌, Bool, true, false, refl, sym, ◌∙◌, subst, ap, arith, fold, max, if◌then◌else◌}
use Rattle.std.specs.Ordering.{is_eq}
use Rattle.std.proofs.lemmas.Cmp.{tied_itself}
use Rattle.adr_values.specs.declared.stamp.Unit.{Unit as Named}
use Rattle.adr_values.specs.Order.{unit_order}
use Rattle.adr_values.proofs.Units.{units_total, exact_units}
use Rattle.adr_model.specs.Member.{Member, Each}
use Rattle.adr_model.specs.Update.{unit_of, same_unit}
use Rattle.adr_model.specs.Store.{Held}
use Rattle.adr_model.specs.Serve.{last_local}
use Rattle.adr_model.proofs.Keys.{equal_order}

pub units_tell : (a b : Named) → same_unit a b ≡ true → a ≡ b
units_tell a b h = exact_units a b (equal_order (unit_order a b) h)

pub units_same : (a b : Named) → a ≡ b → same_unit a b ≡ true
units_same a b e = ap (λ c. same_unit a c) (sym e) ∙ ap is_eq (tied_itself units_total a)

pub unit_or_not : (a b : Named) → (a ≡ b) ⊎ (a ≡ b → ⊥)
unit_or_not a b = by (same_unit a b) refl
  where
    by : (t : Bool) → same_unit a b ≡ t → (a ≡ b) ⊎ (a ≡ b → ⊥)
    by true is = inl (units_tell a b is)
    by false is = inr (λ e. let t = units_same a b e in cc)

module _ (unit : Named) where
  abbrev further : ℕ → Held → ℕ
  further n h = if same_unit (unit_of h.update.key) unit then max n h.local else n

  further_up : (n : ℕ) (h : Held) → n ≤ further n h
  further_up n h = by (same_unit (unit_of h.update.key) unit)
    where
      by : (b : Bool) → n ≤ (if b then max n h.local else n)
      by true = omega arith
      by false = omega arith

  further_own : (n : ℕ) (h : Held) → unit_of h.update.key ≡ unit → h.local ≤ further n h
  further_own n h e = subst (λ b. h.local ≤ (if b then max n h.local else n)) (sym (units_same (unit_of h.update.key) unit e)) (omega arith)

  furthest_up : (n : ℕ) (rows : List Held) → n ≤ fold further n rows
  furthest_up n [] = omega arith
  furthest_up n (x ∷ xs) = omega (arith, further_up n x, furthest_up (further n x) xs)

  furthest_own : (n : ℕ) (rows : List Held) (x : Held) → Member x rows → unit_of x.update.key ≡ unit → x.local ≤ fold further n rows
  furthest_own n [] x m e = absurd m
  furthest_own n (y ∷ ys) x (inr m) e = furthest_own (further n y) ys x m e
  furthest_own n (y ∷ ys) x (inl same) e = omega (arith, subst (λ (z : Held). x.local ≤ further n z) same (further_own n x e), furthest_up (further n y) ys)

  bounded : (n most : ℕ) (rows : List Held) → n ≤ most → Each (λ (y : Held). unit_of y.update.key ≡ unit → y.local ≤ most) rows → fold further n rows ≤ most
  bounded n most [] le all = le
  bounded n most (y ∷ ys) le all = bounded (further n y) most ys (by (same_unit (unit_of y.update.key) unit) refl) (λ z m. all z (inr m))
    where
      by : (b : Bool) → same_unit (unit_of y.update.key) unit ≡ b → (if b then max n y.local else n) ≤ most
      by true is = omega (arith, le, all y (inl refl) (units_tell (unit_of y.update.key) unit is))
      by false is = le

  pub within_last : (rows : List Held) (x : Held) → Member x rows → unit_of x.update.key ≡ unit → x.local ≤ last_local rows unit
  within_last rows x m e = furthest_own 0 rows x m e

  pub last_within : (rows : List Held) (most : ℕ) → Each (λ (y : Held). unit_of y.update.key ≡ unit → y.local ≤ most) rows → last_local rows unit ≤ most
  last_within rows most all = bounded 0 most rows (omega arith) all

  last_rises : (xs ys : List Held) → Each (λ (x : Held). unit_of x.update.key ≡ unit → Member x ys) xs → last_local xs unit ≤ last_local ys unit
  last_rises xs ys to = last_within xs (last_local ys unit) (λ x m e. within_last ys x (to x m e) e)

  -- where the unit has the same rows
  pub same_last : (xs ys : List Held) → Each (λ (x : Held). unit_of x.update.key ≡ unit → Member x ys) xs → Each (λ (y : Held). unit_of y.update.key ≡ unit → Member y xs) ys → last_local xs unit ≡ last_local ys unit
  same_last xs ys to back = omega (arith, last_rises xs ys to, last_rises ys xs back)
