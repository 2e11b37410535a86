-- A row that keeps to the schema has no fault.
use Rattle.std.proofs.Common.{◌≡◌, inl, inr, ℕ, zero, suc, List, [], ◌∷◌, true, Option, Some, None, IsSome, refl, sym, ap, ◌∙◌, subst, arith, map, not}
use Rattle.std.specs.Prelude.{is_none}
use Rattle.std.specs.Bool.{then_some}
use Rattle.std.specs.Option.{option_map}
use Rattle.adr_values.specs.declared.stamp.Oid.{Oid}
use Rattle.adr_values.specs.declared.stamp.LinkKey.{LinkKey}
use Rattle.adr_values.specs.declared.stamp.LinkStamp.{LinkStamp}
use Rattle.adr_values.specs.declared.content.Content.TheVariants.{Class}
use Rattle.adr_values.specs.declared.refusal.SchemaRefusal.TheVariants.{UnknownClass, BadName, NotLink}
use Rattle.adr_values.specs.Table.{Table, Class as TableClass, class_at, kind_at, is_forward}
use Rattle.adr_values.specs.Rules.{class_refusal}
use Rattle.adr_values.proofs.ExactRows.{not_refused_held}
use Rattle.adr_call.specs.declared.refusal.ItemFault.TheVariants.{WrongBirth}
use Rattle.adr_model.specs.Member.{Each}
use Rattle.adr_values.specs.First.{first_of}
use Rattle.adr_model.specs.Update.{RowOf, LinkOf, Update, Said, Holds}
use Rattle.adr_model.specs.Take.{is_birth, broken, row_fault}
use Rattle.adr_law_calls.specs.Forms.{IsWellSaid}

module _ {A B : Type 0} where
  pub none_first : (f : A → Option B) (xs : List A) → Each (λ x. f x ≡ None) xs → first_of (map f xs) ≡ None
  none_first f [] none = refl
  none_first f (x ∷ xs) none = by (f x) (none x (inl refl)) (none_first f xs (λ y m. none y (inr m)))
    where
      by : (o : Option B) → o ≡ None → first_of (map f xs) ≡ None → first_of (o ∷ map f xs) ≡ None
      by None e rest = rest
      by (Some y) e rest = absurd (cc)

known_class : (table : Table) (class : ℕ) → IsSome (class_at table class) → class_refusal table class ≡ None
known_class table class h = by (class_at table class) h
  where
    by : (o : Option TableClass) → IsSome o → then_some (is_none o) UnknownClass ≡ None
    by None h = absurd (cc)
    by (Some x) h = refl

module _ (table : Table) (class : ℕ) (known : IsSome (class_at table class)) (o : Oid) where
  abbrev row : ℕ → LinkStamp → Said → Update
  row attr stamp said = record { key = RowOf o attr; stamp = stamp; said = said }

  abbrev Passes : ℕ → LinkStamp → Said → Type 0
  Passes attr stamp said = row_fault table (Some class) (row attr stamp said) ≡ None

  class_passes : (attr : ℕ) (stamp : LinkStamp) (said : Said) → (said ≡ Holds (Class class)) × (is_birth o (row attr stamp said) ≡ true) → Passes attr stamp said
  class_passes attr stamp said (e, b) = subst (Passes attr stamp) (sym e)
      (ap (λ x. first_of (then_some (not x) WrongBirth ∷ broken (class_refusal table class) ∷ [])) b ∙ ap (λ o. first_of (broken o ∷ [])) (known_class table class known))

  passes : (attr : ℕ) (stamp : LinkStamp) (said : Said) → IsWellSaid table class o (row attr stamp said) → Passes attr stamp said
  passes zero stamp said well = absurd (well.none refl)
  passes (suc zero) stamp said well = class_passes 1 stamp said (well.of_class refl)
  passes (suc (suc zero)) stamp said well = let t = well.of_name refl in subst (Passes 2 stamp) (sym t.2) (ap (λ x. broken (option_map BadName x)) t.3)
  passes (suc (suc (suc zero))) stamp said well = subst (Passes 3 stamp) (sym (well.of_death refl)) refl
  passes (suc (suc (suc (suc n)))) stamp said well =
      let t = well.of_values (suc (suc (suc (suc n)))) (omega arith) refl in
      subst (Passes (suc (suc (suc (suc n)))) stamp) (sym t.1) (ap broken (not_refused_held table class (suc (suc (suc (suc n)))) t.0 t.2))

  pub row_passes : (u : Update) (attr : ℕ) → u.key ≡ RowOf o attr → IsWellSaid table class o u → row_fault table (Some class) u ≡ None
  row_passes u attr e well = subst (λ key. row_fault table (Some class) (record { key = key; stamp = u.stamp; said = u.said }) ≡ None) (sym e)
      (passes attr u.stamp u.said (subst (λ key. IsWellSaid table class o (record { key = key; stamp = u.stamp; said = u.said })) e well))

pub link_passes : (table : Table) (l : LinkKey) (u : Update) → u.key ≡ LinkOf l → is_forward (kind_at table l.attr) ≡ true → row_fault table None u ≡ None
link_passes table l u e forward = subst (λ key. row_fault table None (record { key = key; stamp = u.stamp; said = u.said }) ≡ None) (sym e)
    (ap (λ b. broken (then_some (not b) (NotLink l.attr))) forward)
