-- An object that is added wasn't held, and its rows are all that the schema wants of it.
use Rattle.std.proofs.Common.{◌≡◌, ◌⊎◌, inl, inr, ℕ, ◌≤◌, ◌<◌, ◌+◌, List, true, false, ◌||◌, Option, Some, None, is_some, refl, sym, ap, ◌∙◌, subst, length, eq-eqb, arith}
use Rattle.std.proofs.lemmas.Bool.{and_from, or_parts}
use Rattle.adr_values.specs.declared.stamp.Oid.{Oid}
use Rattle.adr_values.specs.declared.stamp.Unit.TheVariants.{Object}
use Rattle.adr_values.specs.Assignments.{Given, given}
use Rattle.adr_values.specs.Allowed.{MayBeAdded}
use Rattle.adr_values.specs.Numbered.{numbered}
use Rattle.adr_values.specs.Names.{name_fault}
use Rattle.adr_values.specs.declared.content.Value.{Value as Datum}
use Rattle.adr_values.specs.declared.content.Content.TheVariants.{Class, Name, Values}
use Rattle.adr_values.specs.declared.refusal.SchemaRefusal.TheVariants.{BadName}
use Rattle.adr_values.specs.Rules.{add_refusal as schema_add_refusal}
use Rattle.adr_values.proofs.ExactCalls.{may_be_added}
use Rattle.adr_values.proofs.ExactRows.{may_be_held, added_may_be_held}
use Rattle.adr_values.specs.Vector.{at, raised, cursor_limit}
use Rattle.adr_values.proofs.Cursors.{test_itself}
use Rattle.adr_call.specs.declared.refusal.Table.TheVariants.{Objects, Cursors}
use Rattle.adr_call.specs.declared.refusal.WriteRefusal.{WriteRefusal}
use Rattle.adr_call.specs.declared.refusal.WriteRefusal.TheVariants.{Schema as BreaksSchema, GuidThere}
use Rattle.adr_model.specs.Member.{Member}
use Rattle.adr_model.specs.Update.{Identifier, RowOf, Update, unit_of, class_attr, name_attr, deleted_attr}
use Rattle.adr_model.specs.Live.{objects_of}
use Rattle.adr_model.specs.Place.{is_fixed}
use Rattle.adr_model.specs.Reflects.{CoversBirth, HoldsObject, IsDeath}
use Rattle.adr_model.specs.Store.{State, updates_of}
use Rattle.adr_model.specs.Take.{is_birth}
use Rattle.adr_model.specs.Formed.{IsFormed}
use Rattle.adr_model.specs.Write.{AddObject, object_limit, is_of_guid, holds_guid, first_stamp, new_object, new_rows, row, add_refusals, add_refusal, rows_written}
use Rattle.adr_model.specs.Given.{AreInOrder}
use Rattle.adr_model.proofs.Members.{each_fails, mapped_member, member_mapped}
use Rattle.adr_law_calls.specs.Puts.{MayPut}
use Rattle.adr_law_calls.specs.Forms.{IsWellSaid, MayCome}
use Rattle.adr_law_calls.specs.MayWrites.{HasRoom, MayWrite}
use Rattle.adr_law_knowledge.proofs.Refusing.{none_there, not_mapped}
use Rattle.adr_law_calls.proofs.Refusals.{not_so, not_full}
use Rattle.adr_law_calls.proofs.Values.{place_of, one_given, given_member, plain_is_above}
use Rattle.adr_law_calls.proofs.Shown.{MayComeWith}
use Rattle.adr_law_calls.proofs.Saids.{class_well_said, name_well_said, values_well_said}

-- an object that comes, with all that the schema wants of it
module _ (s : State) (formed : IsFormed s) (guid : Identifier) (class : ℕ) (parent : Identifier) (text : List ℕ) (values : List Given)
    (may : MayComeWith (numbered s.store.schema) class values) (well_named : name_fault text ≡ None)
    (absent : HoldsObject (updates_of s.store.rows) (new_object s guid) → ⊥) (room : HasRoom s) where
  abbrev rows : List Update
  rows = updates_of s.store.rows

  abbrev o : Oid
  o = new_object s guid

  unseen : (p : Oid) → Object o ≡ Object p → CoversBirth (at s.store.vector) p → ⊥
  unseen p e covered = let same : p ≡ o = cc in
      let here : s.store.usn + 1 ≤ at s.store.vector s.inv = subst (CoversBirth (at s.store.vector)) same covered in
      omega (arith, here, formed.own)

  plain : (g : Given) → Member g values → deleted_attr < g.0
  plain g m = let held = (may.held g m).allowed in plain_is_above s.store.schema g.0 held.syntax held.most held.plain

  module _ (now : ℕ) where
    abbrev class_row : Update
    class_row = row o (first_stamp s now) class_attr (Class class)

    abbrev name_row : Update
    name_row = row o (first_stamp s now) name_attr (Name text parent)

    abbrev value_row : Given → Update
    value_row g = row o (first_stamp s now) g.0 (Values g.1)

    abbrev pub us : List Update
    us = new_rows o (first_stamp s now) class parent text values

    -- a class row, a name row or a row of values
    abbrev pub Which : Update → Type 0
    Which u = (u ≡ class_row) ⊎ ((u ≡ name_row) ⊎ ((g : Given) × Member g values × (u ≡ value_row g)))

    pub which : (u : Update) → Member u us → Which u
    which u (inl e) = inl e
    which u (inr (inl e)) = inr (inl e)
    which u (inr (inr m)) = inr (inr (mapped_member value_row values u m))

    pub of_object : (u : Update) → Which u → (attr : ℕ) × (u.key ≡ RowOf o attr)
    of_object u (inl e) = (class_attr, ap (λ (w : Update). w.key) e)
    of_object u (inr (inl e)) = (name_attr, ap (λ (w : Update). w.key) e)
    of_object u (inr (inr (g, m, e))) = (g.0, ap (λ (w : Update). w.key) e)

    -- two rows of one key have one attribute
    same_attr : (u v : Update) (a b : ℕ) → u.key ≡ v.key → u.key ≡ RowOf o a → v.key ≡ RowOf o b → a ≡ b
    same_attr u v a b e p q = let key : RowOf o a ≡ RowOf o b = sym p ∙ e ∙ q in cc

    alone : (u v : Update) → Which u → Which v → u.key ≡ v.key → u ≡ v
    alone u v (inl p) (inl q) e = p ∙ sym q
    alone u v (inl p) (inr (inl q)) e = absurd (omega (arith, same_attr u v class_attr name_attr e (ap (λ (w : Update). w.key) p) (ap (λ (w : Update). w.key) q)))
    alone u v (inl p) (inr (inr (h, n, q))) e = absurd (omega (arith, plain h n, same_attr u v class_attr h.0 e (ap (λ (w : Update). w.key) p) (ap (λ (w : Update). w.key) q)))
    alone u v (inr (inl p)) (inl q) e = absurd (omega (arith, same_attr u v name_attr class_attr e (ap (λ (w : Update). w.key) p) (ap (λ (w : Update). w.key) q)))
    alone u v (inr (inl p)) (inr (inl q)) e = p ∙ sym q
    alone u v (inr (inl p)) (inr (inr (h, n, q))) e = absurd (omega (arith, plain h n, same_attr u v name_attr h.0 e (ap (λ (w : Update). w.key) p) (ap (λ (w : Update). w.key) q)))
    alone u v (inr (inr (g, m, p))) (inl q) e = absurd (omega (arith, plain g m, same_attr u v g.0 class_attr e (ap (λ (w : Update). w.key) p) (ap (λ (w : Update). w.key) q)))
    alone u v (inr (inr (g, m, p))) (inr (inl q)) e = absurd (omega (arith, plain g m, same_attr u v g.0 name_attr e (ap (λ (w : Update). w.key) p) (ap (λ (w : Update). w.key) q)))
    alone u v (inr (inr (g, m, p))) (inr (inr (h, n, q))) e = p ∙ ap value_row (may.one g m h n (same_attr u v g.0 h.0 e (ap (λ (w : Update). w.key) p) (ap (λ (w : Update). w.key) q))) ∙ sym q

    pub no_death : (d : Update) → Which d → IsDeath d → ⊥
    no_death d (inl e) (p, is) = let key : RowOf o class_attr ≡ RowOf p deleted_attr = sym (ap (λ (w : Update). w.key) e) ∙ is in let attr : class_attr ≡ deleted_attr = cc in omega (arith, attr)
    no_death d (inr (inl e)) (p, is) = let key : RowOf o name_attr ≡ RowOf p deleted_attr = sym (ap (λ (w : Update). w.key) e) ∙ is in let attr : name_attr ≡ deleted_attr = cc in omega (arith, attr)
    no_death d (inr (inr (g, m, e))) (p, is) = let key : RowOf o g.0 ≡ RowOf p deleted_attr = sym (ap (λ (w : Update). w.key) e) ∙ is in let attr : g.0 ≡ deleted_attr = cc in omega (arith, plain g m, attr)

    added_put : MayPut rows (at s.store.vector) (Object o) us
    added_put = record {
      of_unit = λ u m. ap unit_of (of_object u (which u m)).1;
      alone = λ u m v n e. alone u v (which u m) (which v n) e;
      above = λ u m r n e. let t = of_object u (which u m) in absurd (absent (r, t.0, n, e ∙ t.1));
      bare = λ d m dies. absurd (no_death d (which d m) dies);
      place = λ p e. inr (unseen p e);
    }

    birth : is_birth o class_row ≡ true
    birth = and_from _ _ (test_itself s.inv) (eq-eqb (s.store.usn + 1) (s.store.usn + 1) refl)

    said : (u : Update) → Which u → IsWellSaid (numbered s.store.schema) class o u
    said u (inl e) = subst (IsWellSaid (numbered s.store.schema) class o) (sym e) (class_well_said (numbered s.store.schema) class o class_row refl refl birth)
    said u (inr (inl e)) = subst (IsWellSaid (numbered s.store.schema) class o) (sym e) (name_well_said (numbered s.store.schema) class o name_row text parent refl refl well_named)
    said u (inr (inr (g, m, e))) = subst (IsWellSaid (numbered s.store.schema) class o) (sym e) (values_well_said (numbered s.store.schema) class o (value_row g) g.0 g.1 (plain g m) refl refl (may.held g m))

    comes : MayCome (numbered s.store.schema) rows o class us
    comes = record {
      absent = absent;
      known = may.known;
      said = λ u m. said u (which u m);
      of_class = (class_row, inl refl, refl);
      of_name = (name_row, inr (inl refl), refl);
      whole = inr (λ attr must. let g = may.whole attr must in (value_row g.0, inr (inr (member_mapped value_row values g.0 g.1)), ap (RowOf o) g.2));
    }

    pub object_may_come : MayWrite s (Object o) us
    object_may_come = record {
      put = added_put;
      fits = (class, inr (comes, room));
    }

-- an object that is added
module _ (s : State) (formed : IsFormed s) (guid : Identifier) (class : ℕ) (parent : Identifier) (text : List ℕ) (values : List Given)
    (order : AreInOrder values) (none : add_refusal s guid class parent text values ≡ None) where
  abbrev refusals : List (Option WriteRefusal)
  refusals = add_refusals s guid class parent text values

  abbrev held : List Update
  held = updates_of s.store.rows

  not_there : holds_guid held guid ≡ false
  not_there = (or_parts (is_fixed guid) (holds_guid held guid) (not_so (is_fixed guid || holds_guid held guid) (GuidThere guid) (none_there refusals none _ (inr (inl refl))))).1

  allowed : schema_add_refusal (numbered s.store.schema) class values ≡ None
  allowed = not_mapped BreaksSchema _ (none_there refusals none _ (inr (inr (inl refl))))

  added_name : name_fault text ≡ None
  added_name = not_mapped BadName _ (not_mapped BreaksSchema _ (none_there refusals none _ (inr (inr (inr (inl refl))))))

  added_room : HasRoom s
  added_room = record {
    objects = not_full Objects object_limit (length (objects_of held) + 1) (none_there refusals none _ (inr (inr (inr (inr (inr (inr (inr (inr (inl refl))))))))));
    cursors = not_full Cursors cursor_limit (length (raised s.store.vector s.inv (s.store.usn + 1))) (none_there refusals none _ (inr (inr (inr (inr (inr (inr (inr (inr (inr (inl refl)))))))))));
  }

  not_held : HoldsObject held (new_object s guid) → ⊥
  not_held (r, attr, m, is) =
      let fails : is_of_guid guid r.key ≡ false = each_fails (λ (u : Update). is_of_guid guid u.key) held not_there r m in
      let passes : is_of_guid guid r.key ≡ true = ap (is_of_guid guid) is ∙ test_itself guid in
      cc

  may_add : MayBeAdded (numbered s.store.schema) class values
  may_add = may_be_added (numbered s.store.schema) class values allowed

  given_there : (attr : ℕ) (given_it : Option (List Datum)) → given attr values ≡ given_it → is_some given_it ≡ true → (g : Given) × Member g values × (g.0 ≡ attr)
  given_there attr None e there = absurd (cc)
  given_there attr (Some vs) e there = ((attr, vs), given_member attr values vs e, refl)

  comes_with : MayComeWith (numbered s.store.schema) class values
  comes_with = record {
    known = may_add.known;
    held = λ g m. let p = place_of values g m in may_be_held (numbered s.store.schema) class g.0 g.1 (added_may_be_held (numbered s.store.schema) class values allowed p.0 g p.1);
    one = one_given values order;
    whole = λ attr must. given_there attr (given attr values) refl (may_add.whole attr must);
  }

  pub may_come : (now : ℕ) → MayWrite s (rows_written s (AddObject guid class parent text values) now).unit (rows_written s (AddObject guid class parent text values) now).rows
  may_come now = object_may_come s formed guid class parent text values comes_with added_name not_held added_room now
