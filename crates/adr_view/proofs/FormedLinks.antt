-- Rows that keep to a schema have links only under attributes whose back links have numbers.
use Rattle.std.proofs.Common.{◌≡◌, ℕ, Bool, true, false, List, [], ◌∷◌, Some, refl, subst, inl, inr, ◌==◌, cond, eqb-true}
use Rattle.std.specs.Prelude.{nat_le, nat_lt, if◌then◌else◌}
use Rattle.std.specs.List.{list_all, find}
use Rattle.std.specs.Option.{option_map}
use Rattle.std.proofs.lemmas.Bool.{false≢true, and_parts, and_from}
use Rattle.adr_values.specs.Table.{Attribute, kind_at, is_forward}
use Rattle.adr_values.specs.Schemas.{schema_1, schema_2}
use Rattle.adr_values.specs.Numbered.{numbered}
use Rattle.adr_model.specs.Member.{Member}
use Rattle.adr_model.specs.Update.{Key, RowOf, LinkOf, Update}
use Rattle.adr_model.specs.Formed.{AreFormedRows}
use Rattle.adr_view.specs.BackLinks.{has_back_link, have_back_links}

all_from_each : (p : Update → Bool) (us : List Update) → ((u : Update) → Member u us → p u ≡ true) → list_all p us ≡ true
all_from_each p [] each = refl
all_from_each p (u ∷ us) each = and_from (p u) (list_all p us) (each u (inl refl)) (all_from_each p us (λ v m. each v (inr m)))

-- an attribute of a table whose numbers are all below a bound is below it
forward_below : (table : List Attribute) (bound attr : ℕ) → list_all (λ (a : Attribute). nat_lt a.number bound) table ≡ true
    → is_forward (option_map (λ (a : Attribute). a.kind) (find (λ (a : Attribute). a.number == attr) table)) ≡ true → nat_lt attr bound ≡ true
forward_below [] bound attr all there = absurd (false≢true there)
forward_below (a ∷ table) bound attr all there =
    by (a.number == attr) refl (forward_below table bound attr (and_parts (nat_lt a.number bound) (list_all (λ (b : Attribute). nat_lt b.number bound) table) all).1) there
  where
    by : (b : Bool) → (a.number == attr) ≡ b
        → (is_forward (option_map (λ (x : Attribute). x.kind) (find (λ (x : Attribute). x.number == attr) table)) ≡ true → nat_lt attr bound ≡ true)
        → is_forward (option_map (λ (x : Attribute). x.kind) (cond b (Some a) (find (λ (x : Attribute). x.number == attr) table))) ≡ true → nat_lt attr bound ≡ true
    by true same below h =
        subst (λ n. nat_lt n bound ≡ true) (eqb-true a.number attr same) (and_parts (nat_lt a.number bound) (list_all (λ (b : Attribute). nat_lt b.number bound) table) all).0
    by false same below h = below h

-- the numbers of the schemas are small
first_small : list_all (λ (a : Attribute). nat_lt a.number 65535) schema_1.attributes ≡ true
unfolding schema_1
first_small = refl

second_small : list_all (λ (a : Attribute). nat_lt a.number 65535) schema_2.attributes ≡ true
unfolding schema_2
second_small = refl

linked_below : (number attr : ℕ) → is_forward (kind_at (numbered number) attr) ≡ true → nat_lt attr 65535 ≡ true
linked_below number attr forward = by (nat_le number 1) forward
  where
    by : (b : Bool) → is_forward (kind_at (if b then schema_1 else schema_2) attr) ≡ true → nat_lt attr 65535 ≡ true
    by true = forward_below schema_1.attributes 65535 attr first_small
    by false = forward_below schema_2.attributes 65535 attr second_small

pub formed_have : (schema : ℕ) (us : List Update) → AreFormedRows (numbered schema) us → have_back_links us ≡ true
formed_have schema us formed = all_from_each (λ (u : Update). has_back_link u.key) us (λ u m. by u m u.key refl)
  where
    by : (u : Update) → Member u us → (k : Key) → u.key ≡ k → has_back_link k ≡ true
    by u m (RowOf o attr) is = refl
    by u m (LinkOf l) is = linked_below schema l.attr (formed.links l u m is).forward
