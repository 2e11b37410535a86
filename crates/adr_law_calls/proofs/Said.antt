-- A row that is spelled and has no fault says what a row of its object says.
use Rattle.std.proofs.Common.{◌≡◌, inl, inr, ℕ, [], ◌∷◌, true, Option, Some, None, IsSome, refl, ap, ◌∙◌, subst, not}
use Rattle.std.specs.Prelude.{is_none}
use Rattle.std.specs.Bool.{then_some}
use Rattle.adr_values.specs.declared.stamp.Oid.{Oid}
use Rattle.adr_values.specs.declared.content.Content.{Content}
use Rattle.adr_values.specs.declared.content.Content.TheVariants.{Class, Name, Dead, Values}
use Rattle.adr_values.specs.declared.refusal.SchemaRefusal.TheVariants.{UnknownClass, BadName}
use Rattle.adr_values.specs.Table.{Table, Class as TableClass, class_at}
use Rattle.adr_values.specs.Numbered.{numbered}
use Rattle.adr_values.specs.Rules.{class_refusal, name_refusal, row_refusal}
use Rattle.adr_values.specs.Names.{name_fault}
use Rattle.adr_values.specs.Allowed.{MayBeHeld}
use Rattle.adr_values.proofs.ExactRows.{may_be_held}
use Rattle.adr_call.specs.declared.refusal.ItemFault.TheVariants.{Schema as BreaksSchema, WrongBirth}
use Rattle.adr_values.specs.First.{first_of}
use Rattle.adr_model.specs.Update.{Key, RowOf, Said, Holds, IsPresent, Update, class_attr}
use Rattle.adr_model.specs.Take.{is_birth, broken, row_fault}
use Rattle.adr_law_calls.specs.Forms.{IsWellSaid}
use Rattle.adr_law_knowledge.proofs.Refusing.{is_so, none_there, not_mapped}
use Rattle.adr_law_calls.proofs.Saids.{class_well_said, name_well_said, death_well_said, values_well_said}
use Rattle.adr_law_calls.proofs.Values.{plain_is_above}
use Rattle.adr_model.specs.Spelled.{IsContentOfAttr, IsSaidOfKey}

-- neither of two comes where none comes first
pub neither : {A : Type 0} → (a b : Option A) → first_of (a ∷ b ∷ []) ≡ None → (a ≡ None) × (b ≡ None)
neither a b e = let each = none_there (a ∷ b ∷ []) e in (each a (inl refl), each b (inr (inl refl)))

-- a row of an object has content, and that of its attribute
pub says_content : (k : Key) (said : Said) (o : Oid) (attr : ℕ) → k ≡ RowOf o attr → IsSaidOfKey k said
    → (c : Content) × (said ≡ Holds c) × IsContentOfAttr attr c
says_content k said o attr is says = by said (subst (λ j. IsSaidOfKey j said) is says)
  where
    by : (said : Said) → IsSaidOfKey (RowOf o attr) said
        → (c : Content) × (said ≡ Holds c) × IsContentOfAttr attr c
    by (Holds c) of = (c, refl, of)
    by (IsPresent b) of = absurd of

known_where_not_refused : (table : Table) (class : ℕ) → class_refusal table class ≡ None
    → IsSome (class_at table class)
known_where_not_refused table class h = by (class_at table class) h
  where
    by : (o : Option TableClass) → then_some (is_none o) UnknownClass ≡ None → IsSome o
    by None h = absurd (cc)
    by (Some x) h = cc

module _ (schema class : ℕ) (o : Oid) (u : Update) where
  abbrev table : Table
  table = numbered schema

  -- no row of the object says another class
  abbrev pub SaysNoOther : Type 0
  SaysNoOther = (d : ℕ) → u.key ≡ RowOf o class_attr → u.said ≡ Holds (Class d) → d ≡ class

  fault_of : (c : Option ℕ) (attr : ℕ) (content : Content) → u.key ≡ RowOf o attr → u.said ≡ Holds content
      → row_fault table c u ≡ None
      → row_fault table c (record { key = RowOf o attr; stamp = u.stamp; said = Holds content }) ≡ None
  fault_of c attr content is says none =
      subst (λ k. row_fault table c (record { key = k; stamp = u.stamp; said = Holds content }) ≡ None) is
      (subst (λ said. row_fault table c (record { key = u.key; stamp = u.stamp; said = said }) ≡ None) says none)

  -- a class row is a birth, and its class is known
  pub class_row_says : (c : Option ℕ) (d : ℕ) → u.key ≡ RowOf o class_attr → u.said ≡ Holds (Class d)
      → row_fault table c u ≡ None → (is_birth o u ≡ true) × IsSome (class_at table d)
  class_row_says c d is says none =
      let f = neither (then_some (not (is_birth o u)) WrongBirth) (broken (class_refusal table d)) (fault_of c class_attr (Class d) is says none) in
      (is_so (is_birth o u) WrongBirth f.0, known_where_not_refused table d (not_mapped BreaksSchema (class_refusal table d) f.1))

  content_said : (attr : ℕ) (content : Content) → u.key ≡ RowOf o attr → u.said ≡ Holds content
      → IsContentOfAttr attr content → row_fault table (Some class) u ≡ None → SaysNoOther
      → IsWellSaid table class o u
  content_said attr (Class d) is says of none other =
      let key : u.key ≡ RowOf o class_attr = is ∙ ap (λ a. RowOf o a) of in
      class_well_said table class o u key (says ∙ ap (λ n. Holds (Class n)) (other d key says)) (class_row_says (Some class) d key says none).0
  content_said attr (Name text parent) is says of none other =
      name_well_said table class o u text parent (is ∙ ap (λ a. RowOf o a) of) says
      (not_mapped BadName (name_fault text) (not_mapped BreaksSchema (name_refusal text) (fault_of (Some class) attr (Name text parent) is says none)))
  content_said attr Dead is says of none other = death_well_said table class o u
      (is ∙ ap (λ a. RowOf o a) of) says
  content_said attr (Values vs) is says of none other =
      values_well_said table class o u attr vs (plain_is_above schema attr may.allowed.syntax may.allowed.most may.allowed.plain) is says may
    where
      may : MayBeHeld table class attr vs
      may = may_be_held table class attr vs
          (not_mapped BreaksSchema (row_refusal table (Some class) attr vs) (fault_of (Some class) attr (Values vs) is says none))

  pub row_said : (attr : ℕ) → u.key ≡ RowOf o attr → IsSaidOfKey u.key u.said
      → row_fault table (Some class) u ≡ None → SaysNoOther → IsWellSaid table class o u
  row_said attr is says none other = let t = says_content u.key u.said o attr is says in content_said attr t.0 is t.1 t.2 none other
