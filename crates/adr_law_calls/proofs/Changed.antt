-- An object that is renamed, deleted or modified is live, and its rows are such as the schema wants.
use Rattle.std.proofs.Common.{◌≡◌, inl, inr, ℕ, ◌<◌, List, [], ◌∷◌, None, refl, sym, ap, ◌∙◌, subst, map, arith}
use Rattle.adr_values.specs.declared.stamp.Oid.{Oid}
use Rattle.adr_values.specs.declared.stamp.Unit.TheVariants.{Object}
use Rattle.adr_values.specs.Assignments.{Given}
use Rattle.adr_values.specs.Allowed.{MayBeHeld}
use Rattle.adr_values.specs.Numbered.{numbered}
use Rattle.adr_values.specs.Names.{name_fault}
use Rattle.adr_values.specs.declared.content.Content.{Content}
use Rattle.adr_values.specs.declared.content.Content.TheVariants.{Name, Dead, Values}
use Rattle.adr_values.specs.declared.refusal.SchemaRefusal.TheVariants.{BadName}
use Rattle.adr_values.specs.Rules.{modify_refusal as schema_modify_refusal}
use Rattle.adr_values.proofs.ExactRows.{may_be_held, modified_may_be_held}
use Rattle.adr_values.specs.Vector.{at}
use Rattle.adr_call.specs.declared.refusal.WriteRefusal.TheVariants.{Schema as BreaksSchema}
use Rattle.adr_model.specs.Member.{Member, Each}
use Rattle.adr_model.specs.Update.{Identifier, RowOf, Holds, Update, unit_of, name_attr, deleted_attr}
use Rattle.adr_model.specs.Reflects.{HoldsObject, Supersedes, IsDeath}
use Rattle.adr_model.specs.Store.{State, updates_of}
use Rattle.adr_model.specs.Formed.{IsFormed}
use Rattle.adr_model.specs.Write.{Modify, Rename, Delete, object_refusal, nodes_held, class_of, object_of, next_row, modify_refusals, modify_refusal, rename_refusals, rename_refusal, delete_refusals, delete_refusal, rows_written}
use Rattle.adr_model.specs.Given.{AreInOrder}
use Rattle.adr_model.proofs.Members.{mapped_member}
use Rattle.adr_law_calls.specs.Puts.{MayPut}
use Rattle.adr_law_calls.specs.Forms.{IsWellSaid}
use Rattle.adr_law_calls.specs.MayWrites.{IsLive, MayWrite}
use Rattle.adr_law_knowledge.proofs.Refusing.{none_there, not_mapped}
use Rattle.adr_law_calls.proofs.Nodes.{object_is_live}
use Rattle.adr_law_calls.proofs.Rising.{one_update}
use Rattle.adr_law_calls.proofs.Stamps.{next_is_above, one_may_be_put}
use Rattle.adr_law_calls.proofs.Values.{place_of, one_given, plain_is_above}
use Rattle.adr_law_calls.proofs.Saids.{live_is_held, may_change, name_well_said, death_well_said, values_well_said}

module _ (s : State) (formed : IsFormed s) (guid : Identifier) where
  abbrev rows : List Update
  rows = updates_of s.store.rows

  abbrev o : Oid
  o = object_of (nodes_held rows) guid

  abbrev class : ℕ
  class = class_of (nodes_held rows) guid

  live : object_refusal rows (nodes_held rows) guid ≡ None → IsLive rows o class
  live none = object_is_live (numbered s.store.schema) rows formed.store.rows (one_update s.store.rows formed.store.rising) guid none

  -- one row of a live object
  one_row : (now attr : ℕ) (content : Content) → IsLive rows o class → IsWellSaid (numbered s.store.schema) class o (next_row s now o attr content)
      → MayWrite s (Object o) (next_row s now o attr content ∷ [])
  one_row now attr content alive said = record {
    put = one_may_be_put s formed.store.rising now (RowOf o attr) (Holds content) (at s.store.vector) (λ p e. held p (cc));
    fits = (class, inl (may_change (numbered s.store.schema) rows (next_row s now o attr content ∷ []) o class alive each));
  }
    where
      held : (p : Oid) → o ≡ p → HoldsObject rows p
      held p e = subst (HoldsObject rows) e (live_is_held rows o class alive).0

      each : Each (IsWellSaid (numbered s.store.schema) class o) (next_row s now o attr content ∷ [])
      each u (inl e) = subst (IsWellSaid (numbered s.store.schema) class o) (sym e) said
      each u (inr m) = absurd m

  -- ---- a name

  module _ (parent : Identifier) (text : List ℕ) (none : rename_refusal s guid parent text ≡ None) where
    well_named : name_fault text ≡ None
    well_named = not_mapped BadName _ (not_mapped BreaksSchema _ (none_there (rename_refusals s guid parent text) none _ (inr (inr (inr (inl refl))))))

    pub may_rename : (now : ℕ) → MayWrite s (rows_written s (Rename guid parent text) now).unit (rows_written s (Rename guid parent text) now).rows
    may_rename now = one_row now name_attr (Name text parent) (live (none_there (rename_refusals s guid parent text) none _ (inr (inr (inl refl)))))
        (name_well_said (numbered s.store.schema) class o (next_row s now o name_attr (Name text parent)) text parent refl refl well_named)

  -- ---- a death

  module _ (none : delete_refusal s guid ≡ None) where
    pub may_delete : (now : ℕ) → MayWrite s (rows_written s (Delete guid) now).unit (rows_written s (Delete guid) now).rows
    may_delete now = one_row now deleted_attr Dead (live (none_there (delete_refusals s guid) none _ (inr (inr (inl refl)))))
        (death_well_said (numbered s.store.schema) class o (next_row s now o deleted_attr Dead) refl refl)

  -- ---- values

  module _ (values : List Given) (order : AreInOrder values) (none : modify_refusal s guid values ≡ None) where
    alive : IsLive rows o class
    alive = live (none_there (modify_refusals s guid values) none _ (inr (inr (inl refl))))

    allowed : schema_modify_refusal (numbered s.store.schema) class values ≡ None
    allowed = not_mapped BreaksSchema _ (none_there (modify_refusals s guid values) none _ (inr (inr (inr (inl refl)))))

    held_values : (g : Given) → Member g values → MayBeHeld (numbered s.store.schema) class g.0 g.1
    held_values g m = let p = place_of values g m in
        may_be_held (numbered s.store.schema) class g.0 g.1 (modified_may_be_held (numbered s.store.schema) class values order allowed p.0 g p.1)

    plain : (g : Given) → Member g values → deleted_attr < g.0
    plain g m = let may = (held_values g m).allowed in plain_is_above s.store.schema g.0 may.syntax may.most may.plain

    module _ (now : ℕ) where
      abbrev made : Given → Update
      made g = next_row s now o g.0 (Values g.1)

      abbrev us : List Update
      us = map made values

      from_given : (u : Update) → Member u us → (g : Given) × Member g values × (u ≡ made g)
      from_given = mapped_member made values

      modified_put : MayPut rows (at s.store.vector) (Object o) us
      modified_put = record {
        of_unit = λ u m. ap (λ (v : Update). unit_of v.key) (from_given u m).2;
        alone = alone;
        above = λ u m. let g = from_given u m in subst (λ (w : Update). Each (λ r. r.key ≡ w.key → Supersedes w r) rows) (sym g.2) (next_is_above s formed.store.rising now (RowOf o g.0.0) (Holds (Values g.0.1)));
        bare = λ d m dies. absurd (never d m dies);
        place = λ p e. inl (held p e);
      }
        where
          alone : Each (λ u. Each (λ v. u.key ≡ v.key → u ≡ v) us) us
          alone u m v n e =
              let g = from_given u m in
              let h = from_given v n in
              let key : RowOf o g.0.0 ≡ RowOf o h.0.0 = sym (ap (λ (w : Update). w.key) g.2) ∙ e ∙ ap (λ (w : Update). w.key) h.2 in
              let attr : g.0.0 ≡ h.0.0 = cc in
              g.2 ∙ ap made (one_given values order g.0 g.1 h.0 h.1 attr) ∙ sym h.2

          never : (d : Update) → Member d us → IsDeath d → ⊥
          never d m dies =
              let g = from_given d m in
              let key : RowOf o g.0.0 ≡ RowOf dies.0 deleted_attr = sym (ap (λ (w : Update). w.key) g.2) ∙ dies.1 in
              let attr : g.0.0 ≡ deleted_attr = cc in
              omega (arith, plain g.0 g.1, attr)

          held : (p : Oid) → Object o ≡ Object p → HoldsObject rows p
          held p e = let same : o ≡ p = cc in subst (HoldsObject rows) same (live_is_held rows o class alive).0

      modified_said : Each (IsWellSaid (numbered s.store.schema) class o) us
      modified_said u m = let g = from_given u m in
          values_well_said (numbered s.store.schema) class o u g.0.0 g.0.1 (plain g.0 g.1) (ap (λ (w : Update). w.key) g.2) (ap (λ (w : Update). w.said) g.2) (held_values g.0 g.1)

      pub may_modify : MayWrite s (rows_written s (Modify guid values) now).unit (rows_written s (Modify guid values) now).rows
      may_modify = record {
        put = modified_put;
        fits = (class, inl (may_change (numbered s.store.schema) rows us o class alive modified_said));
      }
