-- Values that are given: of each attribute one, and under attributes that aren't reserved.
use Rattle.std.proofs.Common.{◌≡◌, inl, inr, ℕ, zero, suc, ◌<◌, List, [], ◌∷◌, Bool, true, false, None, Some, refl, sym, ap, nat_le, if◌then◌else◌, arith}
use Rattle.std.specs.List.{slice_get}
use Rattle.std.specs.Ordering.{nat_cmp, is_eq}
use Rattle.std.proofs.lemmas.Cmp.{nat_cmp_total}
use Rattle.std.proofs.lemmas.Map.Lookups.{exact_unsigned}
use Rattle.adr_values.specs.declared.content.Value.{Value as Datum}
use Rattle.adr_values.specs.declared.table.Syntax.{Syntax}
use Rattle.adr_values.specs.declared.table.Kind.TheVariants.{Plain, Reserved}
use Rattle.adr_values.specs.Assignments.{Given, attributes, given}
use Rattle.adr_values.specs.Table.{Table, kind_at}
use Rattle.adr_values.specs.Schemas.{schema_1, schema_2}
use Rattle.adr_values.specs.Numbered.{numbered}
use Rattle.adr_model.specs.Member.{Member, Each}
use Rattle.adr_model.specs.Update.{deleted_attr}
use Rattle.adr_model.specs.Given.{AreInOrder}
use Rattle.adr_model.proofs.Keys.{equal_order}
use Rattle.adr_law_knowledge.proofs.Counting.{rises_from, one_of_each}

pub place_of : {A : Type 0} (xs : List A) (x : A) → Member x xs → (place : ℕ) × (slice_get xs place ≡ Some x)
place_of [] x m = absurd m
place_of (y ∷ ys) x (inl e) = (zero, ap Some (sym e))
place_of (y ∷ ys) x (inr m) = let t = place_of ys x m in (suc t.0, t.1)

-- of each attribute one
pub one_given : (gs : List Given) → AreInOrder gs → Each (λ g. Each (λ h. g.0 ≡ h.0 → g ≡ h) gs) gs
one_given gs order = one_of_each nat_cmp nat_cmp_total (λ (g : Given). g.0) gs (rises_from nat_cmp (attributes gs) order)

-- what an attribute is given is among the values
pub given_member : (attr : ℕ) (gs : List Given) (vs : List Datum) → given attr gs ≡ Some vs → Member (attr, vs) gs
given_member attr [] vs e = absurd (cc)
given_member attr (g ∷ gs) vs e = by (is_eq (nat_cmp attr g.0)) refl e (given_member attr gs vs)
  where
    by : (b : Bool) → is_eq (nat_cmp attr g.0) ≡ b → (if b then Some g.1 else given attr gs) ≡ Some vs → (given attr gs ≡ Some vs → Member (attr, vs) gs) → Member (attr, vs) (g ∷ gs)
    by true is h rest = let n : attr ≡ g.0 = exact_unsigned attr g.0 (equal_order (nat_cmp attr g.0) is) in let same : vs ≡ g.1 = cc in inl (λ i. (n i, same i))
    by false is h rest = inr (rest h)

-- the schemas allow no less the greater their numbers are, so a plain attribute is one of schema 2
abbrev ReservesFirst : Table → Type 0
ReservesFirst t = (kind_at t 0 ≡ None) × (kind_at t 1 ≡ Some Reserved) × (kind_at t 2 ≡ Some Reserved) × (kind_at t 3 ≡ Some Reserved)

first_reserves : ReservesFirst schema_1
unfolding schema_1
first_reserves = (refl, refl, refl, refl)

newest_reserves : ReservesFirst schema_2
unfolding schema_2
newest_reserves = (refl, refl, refl, refl)

above : (t : Table) → ReservesFirst t → (attr : ℕ) (syntax : Syntax) (most : ℕ) → kind_at t attr ≡ Some (Plain syntax most) → deleted_attr < attr
above t r zero syntax most e = absurd (cc (r.0, e))
above t r (suc zero) syntax most e = absurd (cc (r.1, e))
above t r (suc (suc zero)) syntax most e = absurd (cc (r.2, e))
above t r (suc (suc (suc zero))) syntax most e = absurd (cc (r.3, e))
above t r (suc (suc (suc (suc n)))) syntax most e = omega arith

pub plain_is_above : (schema attr : ℕ) (syntax : Syntax) (most : ℕ) → kind_at (numbered schema) attr ≡ Some (Plain syntax most) → deleted_attr < attr
plain_is_above schema attr syntax most = by (nat_le schema 1)
  where
    by : (b : Bool) → kind_at (if b then schema_1 else schema_2) attr ≡ Some (Plain syntax most) → deleted_attr < attr
    by true = above schema_1 first_reserves attr syntax most
    by false = above schema_2 newest_reserves attr syntax most
