-- What the rows of a formed store say of an object.
use Rattle.std.proofs.Common.{◌≡◌, inl, inr, ℕ, ◌<◌, List, [], ◌∷◌, true, sym, ◌∙◌, subst}
use Rattle.adr_values.specs.declared.stamp.Oid.{Oid}
use Rattle.adr_values.specs.declared.content.Value.{Value as Datum}
use Rattle.adr_values.specs.declared.content.Content.TheVariants.{Class, Name, Dead, Values}
use Rattle.adr_values.specs.Table.{Table, has, must_of}
use Rattle.adr_values.specs.Allowed.{MayBeHeld}
use Rattle.adr_model.specs.Member.{Member, Each}
use Rattle.adr_model.specs.Update.{Update, RowOf, Said, Holds, class_attr, name_attr, deleted_attr}
use Rattle.adr_model.specs.Reflects.{HoldsObject}
use Rattle.adr_model.specs.Formed.{HasRow, IsNamed, KeepsSchema, IsObjectFormed, AreFormedRows}
use Rattle.adr_law_calls.specs.Forms.{IsWellSaid}

module _ (table : Table) (rows : List Update) (one : Each (λ u. Each (λ v. u.key ≡ v.key → u ≡ v) rows) rows) (formed : AreFormedRows table rows) where
  -- the row of a key says what some row of the key says
  says : (P : Said → Type 0) (o : Oid) (attr : ℕ) (u : Update) → Member u rows → u.key ≡ RowOf o attr → HasRow rows o attr P → P u.said
  says P o attr u m e (r, n, k, p) = subst (λ (v : Update). P v.said) (one r n u m (k ∙ sym e)) p

  module _ (o : Oid) (holds : HoldsObject rows o) (u : Update) (m : Member u rows) where
    abbrev named : IsNamed rows o
    named = formed.named o holds

    death : u.key ≡ RowOf o deleted_attr → IsObjectFormed table rows o → u.said ≡ Holds Dead
    death e (inl dead) = says (λ said. said ≡ Holds Dead) o deleted_attr u m e dead.dead
    death e (inr alive) = absurd (alive.0 (u, m, e))

    filled : (attr : ℕ) (vs : List Datum) → u.key ≡ RowOf o attr → u.said ≡ Holds (Values vs) → KeepsSchema table rows o named.class → has (must_of table named.class) attr ≡ true → vs ≡ [] → ⊥
    filled attr vs e is keeps must none =
        let t = says (λ said. (v : Datum) × (ws : List Datum) × (said ≡ Holds (Values (v ∷ ws)))) o attr u m e (keeps.whole attr must) in
        let same : Holds (Values vs) ≡ Holds (Values (t.0 ∷ t.1)) = sym is ∙ t.2 in
        absurd (let f : vs ≡ t.0 ∷ t.1 = cc in let g : t.0 ∷ t.1 ≡ [] = sym f ∙ none in cc)

    values : (attr : ℕ) → deleted_attr < attr → u.key ≡ RowOf o attr → IsObjectFormed table rows o → (vs : List Datum) × (u.said ≡ Holds (Values vs)) × MayBeHeld table named.class attr vs
    values attr above e (inl dead) = absurd (dead.bare attr above u m e)
    values attr above e (inr alive) =
        let keeps : KeepsSchema table rows o named.class = alive.1 named.class named.of_class in
        let t = keeps.allowed attr above u m e in
        (t.0, t.1, record { allowed = t.2; filled = filled attr t.0 e t.1 keeps })

    pub well_said : IsWellSaid table named.class o u
    well_said = record {
      none = λ e. formed.none o u m e;
      of_class = λ e. (says (λ said. said ≡ Holds (Class named.class)) o class_attr u m e named.of_class, formed.births o u m e);
      of_name = λ e. (named.text, named.parent, says (λ said. said ≡ Holds (Name named.text named.parent)) o name_attr u m e named.of_name, named.well_named);
      of_death = λ e. death e (formed.objects o holds);
      of_values = λ attr above e. values attr above e (formed.objects o holds);
    }
