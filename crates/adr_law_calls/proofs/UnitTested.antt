-- The test of an object tells whether its rows are formed.
use Rattle.std.proofs.Common.{◌≡◌, ◌⊎◌, inl, inr, ⊎_elim, ℕ, zero, suc, ◌<◌, ◌≤◌, List, [], ◌∷◌, Bool, true, false, Option, Some, None, IsSome, is_some, refl, sym, ap, ◌∙◌, subst, arith, not, ◌&&◌, ◌||◌, ◌==◌}
use Rattle.std.specs.Prelude.{is_none, nat_le}
use Rattle.std.specs.List.{list_all}
use Rattle.std.proofs.lemmas.Bool.{and_parts, and_from, both_ways, eqb-true, eq-eqb, leb-true}
use Rattle.adr_values.specs.declared.stamp.Oid.{Oid}
use Rattle.adr_values.specs.declared.stamp.LinkStamp.{LinkStamp}
use Rattle.adr_values.specs.declared.content.Value.{Value as Datum}
use Rattle.adr_values.specs.declared.content.Content.TheVariants.{Class, Name, Dead, Values}
use Rattle.adr_values.specs.Allowed.{MayBeHeld}
use Rattle.adr_values.specs.Names.{name_fault}
use Rattle.adr_values.specs.Numbered.{numbered}
use Rattle.adr_values.specs.Rules.{row_refusal}
use Rattle.adr_values.specs.Table.{Table, Class as TableClass, has, class_at, must_of}
use Rattle.adr_values.proofs.ExactRows.{may_be_held, not_refused_held}
use Rattle.adr_model.specs.Member.{Member, Each}
use Rattle.adr_model.specs.Update.{Identifier, RowOf, Said, Holds, IsPresent, Update, class_attr, name_attr, deleted_attr}
use Rattle.adr_model.specs.Reflects.{HoldsObject, IsTombstoned}
use Rattle.adr_model.specs.Store.{Held, updates_of, row_held, is_row_of}
use Rattle.adr_model.specs.Formed.{AreRising, HasRow, IsNamed, KeepsSchema, IsDeadFormed}
use Rattle.adr_model.specs.Take.{is_birth, is_reserved_row, class_said}
use Rattle.adr_model.proofs.Members.{one_passes}
use Rattle.adr_model.proofs.Members.{some_passes}
use Rattle.adr_law_calls.proofs.Rows.{updated, held_as, row_is_of}
use Rattle.adr_law_calls.proofs.Rising.{one_update}
use Rattle.adr_law_calls.proofs.FormedMust.{must_above}
use Rattle.adr_law_calls.proofs.Tests.{IsFound, row_found}
use Rattle.adr_law_calls.proofs.Removing.{row_of_itself}
use Rattle.adr_law_calls.proofs.Stamps.{row_held_is}
use Rattle.adr_law_calls.proofs.Values.{plain_is_above}
use Rattle.adr_law_calls.specs.Touched.{IsInForm}
use Rattle.adr_law_calls.specs.Tested.{is_class_known, says_allowed_name, says_dead, fits_class, all_of_object, is_alive_formed, is_formed_by, is_object_formed}
use Rattle.adr_law_calls.proofs.WritesTested.{all_pass, passes_all}

-- ---- what rows say

class_is : (said : Said) (o : Option ℕ) → class_said said ≡ o → is_some o ≡ true
    → (c : ℕ) × (said ≡ Holds (Class c)) × (o ≡ Some c)
class_is (Holds (Class c)) o e h = (c, refl, sym e)
class_is (Holds (Name text parent)) None e h = absurd (both_ways false refl h)
class_is (Holds (Name text parent)) (Some c) e h = absurd (cc)
class_is (Holds Dead) None e h = absurd (both_ways false refl h)
class_is (Holds Dead) (Some c) e h = absurd (cc)
class_is (Holds (Values vs)) None e h = absurd (both_ways false refl h)
class_is (Holds (Values vs)) (Some c) e h = absurd (cc)
class_is (IsPresent b) None e h = absurd (both_ways false refl h)
class_is (IsPresent b) (Some c) e h = absurd (cc)

none_is : {A : Type 0} → (o : Option A) → is_none o ≡ true → o ≡ None
none_is None h = refl
none_is (Some x) h = absurd (both_ways false refl h)

name_is : (said : Said) → says_allowed_name said ≡ true
    → (text : List ℕ) × (parent : Identifier) × (said ≡ Holds (Name text parent)) × (name_fault text ≡ None)
name_is (Holds (Name text parent)) h = (text, parent, refl, none_is (name_fault text) h)
name_is (Holds (Class c)) h = absurd (both_ways false refl h)
name_is (Holds Dead) h = absurd (both_ways false refl h)
name_is (Holds (Values vs)) h = absurd (both_ways false refl h)
name_is (IsPresent b) h = absurd (both_ways false refl h)

dead_is : (said : Said) → says_dead said ≡ true → said ≡ Holds Dead
dead_is (Holds Dead) h = refl
dead_is (Holds (Class c)) h = absurd (both_ways false refl h)
dead_is (Holds (Name text parent)) h = absurd (both_ways false refl h)
dead_is (Holds (Values vs)) h = absurd (both_ways false refl h)
dead_is (IsPresent b) h = absurd (both_ways false refl h)

some_is : (o : Option TableClass) → is_some o ≡ true → IsSome o
some_is None h = absurd (both_ways false refl h)
some_is (Some x) h = cc

-- a class that is known
known_is : (table : Table) (said : Said) → is_class_known table (class_said said) ≡ true
    → (c : ℕ) × (said ≡ Holds (Class c)) × IsSome (class_at table c)
known_is table said h = by (class_said said) refl h
  where
    by : (o : Option ℕ) → class_said said ≡ o → is_class_known table o ≡ true
        → (c : ℕ) × (said ≡ Holds (Class c)) × IsSome (class_at table c)
    by None e t = absurd (both_ways false refl t)
    by (Some c) e t = let k = class_is said (Some c) e refl in let same : c ≡ k.0 = cc in (k.0, k.1, subst (λ d. IsSome (class_at table d)) same (some_is (class_at table c) t))

is_some_of : (o : Option TableClass) → IsSome o → is_some o ≡ true
is_some_of None h = absurd (cc)
is_some_of (Some x) h = refl

abbrev IsFilled : Said → Type 0
IsFilled said = (v : Datum) × (vs : List Datum) × (said ≡ Holds (Values (v ∷ vs)))

filled_is : (vs : List Datum) (said : Said) → said ≡ Holds (Values vs) → (vs ≡ [] → ⊥) → IsFilled said
filled_is [] said e full = absurd (full refl)
filled_is (v ∷ vs) said e full = (v, vs, e)

module _ (schema : ℕ) (rows : List Held) (rising : AreRising rows) (o : Oid) where
  abbrev table : Table
  table = numbered schema

  abbrev us : List Update
  us = updates_of rows

  one : Each (λ u. Each (λ v. u.key ≡ v.key → u ≡ v) us) us
  one = one_update rows rising

  -- ---- all rows of the object

  own_pass : (test : Update → Bool) → all_of_object rows o test ≡ true → (r : Update) (attr : ℕ)
      → r.key ≡ RowOf o attr → Member r us → test r ≡ true
  own_pass test h r attr is m =
      let x = held_as rows r m in
      subst (λ (u : Update). test u ≡ true) (sym x.2)
      (second (is_row_of o x.0.update.key) (row_of_itself o attr x.0.update.key (ap (λ (u : Update). u.key) (sym x.2) ∙ is)) (test x.0.update) (all_pass (λ (y : Held). not (is_row_of o y.update.key) || test y.update) rows h x.0 x.1))
    where
      second : (b : Bool) → b ≡ true → (c : Bool) → (not b || c) ≡ true → c ≡ true
      second true e c t = t
      second false e c t = absurd (both_ways false refl e)

  own_passes : (test : Update → Bool)
      → ((r : Update) (attr : ℕ) → r.key ≡ RowOf o attr → Member r us → test r ≡ true)
      → all_of_object rows o test ≡ true
  own_passes test each = passes_all (λ (y : Held). not (is_row_of o y.update.key) || test y.update) rows
      (λ x m. by x m (is_row_of o x.update.key) refl)
    where
      by : (x : Held) → Member x rows → (b : Bool) → is_row_of o x.update.key ≡ b
          → (not b || test x.update) ≡ true
      by x m false is = refl
      by x m true is = let k = row_is_of o x.update.key is in each x.update k.0 k.1 (updated rows x m)

  -- a row of a live object has its class, its name or values that may be held
  fits_is : (c : ℕ) (u : Update) (attr : ℕ) → u.key ≡ RowOf o attr → fits_class table c u ≡ true
      → (attr ≡ class_attr) ⊎ ((attr ≡ name_attr) ⊎ ((vs : List Datum) × (u.said ≡ Holds (Values vs)) × MayBeHeld table c attr vs))
  fits_is c u attr is h = by u.said
      (subst (λ k. fits_class table c (record { key = k; stamp = u.stamp; said = u.said }) ≡ true) is h)
    where
      by : (said : Said)
          → fits_class table c (record { key = RowOf o attr; stamp = u.stamp; said = said }) ≡ true
          → (attr ≡ class_attr) ⊎ ((attr ≡ name_attr) ⊎ ((vs : List Datum) × (said ≡ Holds (Values vs)) × MayBeHeld table c attr vs))
      by (Holds (Class d)) t = inl (eqb-true attr class_attr t)
      by (Holds (Name text parent)) t = inr (inl (eqb-true attr name_attr t))
      by (Holds Dead) t = absurd (both_ways false refl t)
      by (Holds (Values vs)) t = inr
          (inr (vs, refl, may_be_held table c attr vs (none_is (row_refusal table (Some c) attr vs) t)))
      by (IsPresent b) t = absurd (both_ways false refl t)

  abbrev Values_of : ℕ → ℕ → Said → Type 0
  Values_of c attr said = (vs : List Datum) × (said ≡ Holds (Values vs)) × MayBeHeld table c attr vs

  values_are : (c : ℕ) (u : Update) (attr : ℕ) → deleted_attr < attr → u.key ≡ RowOf o attr
      → fits_class table c u ≡ true → Values_of c attr u.said
  values_are c u attr above is h = by (fits_is c u attr is h)
    where
      by : (attr ≡ class_attr) ⊎ ((attr ≡ name_attr) ⊎ Values_of c attr u.said) → Values_of c attr u.said
      by (inl e) = absurd (omega (arith, e, above))
      by (inr (inl e)) = absurd (omega (arith, e, above))
      by (inr (inr t)) = t

  -- ---- a row that is found

  abbrev IsThere : ℕ → Held → Type 0
  IsThere attr h = Member h rows × (h.update.key ≡ RowOf o attr)

  module _ (b n : Held) (at_b : IsThere class_attr b) (at_n : IsThere name_attr n)
      (born : is_birth o b.update ≡ true) (name : says_allowed_name n.update.said ≡ true) where
    births : Each (λ r. r.key ≡ RowOf o class_attr → is_birth o r ≡ true) us
    births r m is = subst (λ (u : Update). is_birth o u ≡ true)
        (one b.update (updated rows b at_b.0) r m (at_b.1 ∙ sym is)) born

    named : (c : ℕ) → b.update.said ≡ Holds (Class c) → IsNamed us o
    named c says = let t = name_is n.update.said name in record {
      class = c;
      of_class = (b.update, updated rows b at_b.0, at_b.1, says);
      text = t.0;
      parent = t.1;
      of_name = (n.update, updated rows n at_n.0, at_n.1, t.2);
      well_named = t.3;
    }

    classes : (c : ℕ) → b.update.said ≡ Holds (Class c) → IsSome (class_at table c)
        → Each (λ r. r.key ≡ RowOf o class_attr → (class : ℕ) → r.said ≡ Holds (Class class) → IsSome (class_at table class)) us
    classes c says known r m is class tells =
        let same : b.update ≡ r = one b.update (updated rows b at_b.0) r m (at_b.1 ∙ sym is) in
        let agree : c ≡ class = cc in
        subst (λ d. IsSome (class_at table d)) agree known

    dead_tells : (d : Held) → IsThere deleted_attr d → is_class_known table (class_said b.update.said) ≡ true
        → says_dead d.update.said ≡ true → all_of_object rows o (λ u. is_reserved_row u.key) ≡ true
        → IsInForm table us o
    dead_tells d at_d class dead own = record {
      none = λ r m is. absurd (both_ways false refl (kept r 0 is m));
      births = births;
      classes = classes known.0 known.1 known.2;
      named = λ holds. named known.0 known.1;
      formed = λ holds. inl (record {
        dead = (d.update, updated rows d at_d.0, at_d.1, dead_is d.update.said dead);
        bare = λ attr above r m is. let le : attr ≤ deleted_attr = leb-true attr deleted_attr (and_parts (nat_le class_attr attr) (nat_le attr deleted_attr) (kept r attr is m)).1 in omega
            (arith, le, above);
      });
    }
      where
        known : (c : ℕ) × (b.update.said ≡ Holds (Class c)) × IsSome (class_at table c)
        known = known_is table b.update.said class

        kept : (r : Update) (attr : ℕ) → r.key ≡ RowOf o attr → Member r us
            → is_reserved_row (RowOf o attr) ≡ true
        kept r attr is m = subst (λ k. is_reserved_row k ≡ true) is
            (own_pass (λ u. is_reserved_row u.key) own r attr is m)

    alive_tells : Each (λ (h : Held). h.update.key ≡ RowOf o deleted_attr → ⊥) rows → (c : ℕ)
        → b.update.said ≡ Holds (Class c) → is_alive_formed table rows o (Some c) ≡ true → IsInForm table us o
    alive_tells lives c says h = record {
      none = λ r m is. zero_is (fits_is c r 0 is (kept r 0 is m));
      births = births;
      classes = classes c says (some_is (class_at table c) p.0);
      named = λ holds. named c says;
      formed = λ holds. inr
          ((λ t. let x = held_as rows t.0 t.1 in lives x.0 x.1 (ap (λ (u : Update). u.key) (sym x.2) ∙ t.2)), of_class);
    }
      where
        p : (is_some (class_at table c) ≡ true) × ((all_of_object rows o (fits_class table c) && list_all (λ attr. is_some (row_held rows (RowOf o attr))) (must_of table c)) ≡ true)
        p = and_parts _ _ h

        q : (all_of_object rows o (fits_class table c) ≡ true) × (list_all (λ attr. is_some (row_held rows (RowOf o attr))) (must_of table c) ≡ true)
        q = and_parts _ _ p.1

        kept : (r : Update) (attr : ℕ) → r.key ≡ RowOf o attr → Member r us → fits_class table c r ≡ true
        kept r attr is m = own_pass (fits_class table c) q.0 r attr is m

        zero_is : {said : Said} → (0 ≡ class_attr) ⊎ ((0 ≡ name_attr) ⊎ Values_of c 0 said) → ⊥
        zero_is (inl e) = omega (arith, e)
        zero_is (inr (inl e)) = omega (arith, e)
        zero_is (inr (inr t)) = let above = plain_is_above schema 0 t.2.allowed.syntax t.2.allowed.most t.2.allowed.plain in omega
            (arith, above)

        there : (attr : ℕ) → has (must_of table c) attr ≡ true → HasRow us o attr IsFilled
        there attr must = by (row_found rows (RowOf o attr))
            (subst (λ a. is_some (row_held rows (RowOf o a)) ≡ true) (eqb-true t.0 attr t.2) (all_pass (λ a. is_some (row_held rows (RowOf o a))) (must_of table c) q.1 t.0 t.1))
          where
            t : (a : ℕ) × Member a (must_of table c) × ((a == attr) ≡ true)
            t = some_passes (λ a. a == attr) (must_of table c) must

            by : IsFound rows (RowOf o attr) (row_held rows (RowOf o attr))
                → is_some (row_held rows (RowOf o attr)) ≡ true → HasRow us o attr IsFilled
            by (inl (x, m, e, f)) is =
                let v = values_are c x.update attr (must_above schema c attr must) e (kept x.update attr e (updated rows x m)) in
                (x.update, updated rows x m, e, filled_is v.0 x.update.said v.1 (v.2.filled must))
            by (inr (none, f)) is = absurd
                (both_ways (is_some (row_held rows (RowOf o attr))) (ap is_some f) is)

        keep : KeepsSchema table us o c
        keep = record {
          known = some_is (class_at table c) p.0;
          allowed = λ attr above r m is. let v = values_are c r attr above is (kept r attr is m) in (v.0, v.1, v.2.allowed);
          whole = there;
        }

        of_class : (other : ℕ) → HasRow us o class_attr (λ said. said ≡ Holds (Class other))
            → KeepsSchema table us o other
        of_class other (r, m, is, tells) =
            let same : b.update ≡ r = one b.update (updated rows b at_b.0) r m (at_b.1 ∙ sym is) in
            let agree : c ≡ other = cc in
            subst (KeepsSchema table us o) agree keep

  pub unit_where_tested : is_object_formed table rows o ≡ true → IsInForm table us o
  unit_where_tested h = by (row_held rows (RowOf o class_attr)) (row_found rows (RowOf o class_attr))
      (row_held rows (RowOf o name_attr)) (row_found rows (RowOf o name_attr))
      (row_held rows (RowOf o deleted_attr)) (row_found rows (RowOf o deleted_attr)) h
    where
      by : (x : Option Held) → IsFound rows (RowOf o class_attr) x → (y : Option Held)
          → IsFound rows (RowOf o name_attr) y → (z : Option Held) → IsFound rows (RowOf o deleted_attr) z
          → is_formed_by table rows o x y z ≡ true → IsInForm table us o
      by x (inr (none, e)) y n z d h = absurd
          (let f : is_formed_by table rows o None y z ≡ true = subst (λ (w : Option Held). is_formed_by table rows o w y z ≡ true) e h in both_ways false refl f)
      by x (inl (b, m, k, e)) y (inr (none, g)) z d h = absurd
          (let f : is_formed_by table rows o (Some b) None z ≡ true = subst (λ (w : Option Held). is_formed_by table rows o (Some b) w z ≡ true) g (subst (λ (w : Option Held). is_formed_by table rows o w y z ≡ true) e h) in both_ways false refl f)
      by x (inl (b, m, k, e)) y (inl (n, mn, kn, g)) z (inl (d, md, kd, i)) h =
          let f : is_formed_by table rows o (Some b) (Some n) (Some d) ≡ true = subst (λ (w : Option Held). is_formed_by table rows o (Some b) (Some n) w ≡ true) i (subst (λ (w : Option Held). is_formed_by table rows o (Some b) w z ≡ true) g (subst (λ (w : Option Held). is_formed_by table rows o w y z ≡ true) e h)) in
          let p = and_parts (is_birth o b.update) _ f in
          let q = and_parts (is_class_known table (class_said b.update.said)) _ p.1 in
          let r = and_parts (says_allowed_name n.update.said) _ q.1 in
          let t = and_parts (says_dead d.update.said) _ r.1 in
          dead_tells b n (m, k) (mn, kn) p.0 r.0 d (md, kd) q.0 t.0 t.1
      by x (inl (b, m, k, e)) y (inl (n, mn, kn, g)) z (inr (none, i)) h =
          let f : is_formed_by table rows o (Some b) (Some n) None ≡ true = subst (λ (w : Option Held). is_formed_by table rows o (Some b) (Some n) w ≡ true) i (subst (λ (w : Option Held). is_formed_by table rows o (Some b) w z ≡ true) g (subst (λ (w : Option Held). is_formed_by table rows o w y z ≡ true) e h)) in
          let p = and_parts (is_birth o b.update) _ f in
          let q = and_parts (says_allowed_name n.update.said) _ p.1 in
          on (class_said b.update.said) refl q.1 p.0 q.0
        where
          on : (c : Option ℕ) → class_said b.update.said ≡ c → is_alive_formed table rows o c ≡ true
              → is_birth o b.update ≡ true → says_allowed_name n.update.said ≡ true → IsInForm table us o
          on None is h born name = absurd (both_ways false refl h)
          on (Some c) is h born name =
              let t = class_is b.update.said (Some c) is refl in
              let same : t.0 ≡ c = cc in
              alive_tells b n (m, k) (mn, kn) born name none c (subst (λ w. b.update.said ≡ Holds (Class w)) same t.1) h

  -- ---- what is formed passes

  -- the row of an attribute, where there is one
  row_of : (P : Said → Type 0) (attr : ℕ) → HasRow us o attr P
      → (h : Held) × IsThere attr h × P h.update.said × (row_held rows (RowOf o attr) ≡ Some h)
  row_of P attr (u, m, e, says) =
      let x = held_as rows u m in
      let k : x.0.update.key ≡ RowOf o attr = ap (λ (v : Update). v.key) (sym x.2) ∙ e in
      (x.0, (x.1, k), subst (λ (v : Update). P v.said) x.2 says, row_held_is rows rising (RowOf o attr) x.0 x.1 k)

  module _ (f : IsInForm table us o) (holds : HoldsObject us o) where
    abbrev naming : IsNamed us o
    naming = f.named holds

    class_row : (h : Held) × IsThere class_attr h × (h.update.said ≡ Holds (Class naming.class)) × (row_held rows (RowOf o class_attr) ≡ Some h)
    class_row = row_of (λ said. said ≡ Holds (Class naming.class)) class_attr naming.of_class

    name_row : (h : Held) × IsThere name_attr h × (h.update.said ≡ Holds (Name naming.text naming.parent)) × (row_held rows (RowOf o name_attr) ≡ Some h)
    name_row = row_of (λ said. said ≡ Holds (Name naming.text naming.parent)) name_attr naming.of_name

    born : is_birth o class_row.0.update ≡ true
    born = f.births class_row.0.update (updated rows class_row.0 class_row.1.0) class_row.1.1

    name_passes : says_allowed_name name_row.0.update.said ≡ true
    name_passes = ap says_allowed_name name_row.2 ∙ ap is_none naming.well_named

    class_passes : is_class_known table (class_said class_row.0.update.said) ≡ true
    class_passes = ap (λ said. is_class_known table (class_said said)) class_row.2
        ∙ is_some_of (class_at table naming.class)
        (f.classes class_row.0.update (updated rows class_row.0 class_row.1.0) class_row.1.1 naming.class class_row.2)

    -- the test with the rows that are found
    with_rows : (z : Option Held) → row_held rows (RowOf o deleted_attr) ≡ z
        → is_formed_by table rows o (Some class_row.0) (Some name_row.0) z ≡ true
        → is_object_formed table rows o ≡ true
    with_rows z e h =
        subst (λ (w : Option Held). is_formed_by table rows o w (row_held rows (RowOf o name_attr)) (row_held rows (RowOf o deleted_attr)) ≡ true) (sym class_row.3)
        (subst (λ (w : Option Held). is_formed_by table rows o (Some class_row.0) w (row_held rows (RowOf o deleted_attr)) ≡ true) (sym name_row.3)
        (subst (λ (w : Option Held). is_formed_by table rows o (Some class_row.0) (Some name_row.0) w ≡ true) (sym e) h))

    dead_passes : IsDeadFormed us o → is_object_formed table rows o ≡ true
    dead_passes dead =
        let d = row_of (λ said. said ≡ Holds Dead) deleted_attr dead.dead in
        with_rows (Some d.0) d.3 (and_from _ _ born (and_from _ _ class_passes (and_from _ _ name_passes (and_from _ _ (ap says_dead d.2) (own_passes (λ u. is_reserved_row u.key) kept)))))
      where
        kept : (r : Update) (attr : ℕ) → r.key ≡ RowOf o attr → Member r us → is_reserved_row r.key ≡ true
        kept r attr is m = subst (λ k. is_reserved_row k ≡ true) (sym is) (by attr is)
          where
            by : (a : ℕ) → r.key ≡ RowOf o a → is_reserved_row (RowOf o a) ≡ true
            by zero e = absurd (f.none r m e)
            by (suc zero) e = refl
            by (suc (suc zero)) e = refl
            by (suc (suc (suc zero))) e = refl
            by (suc (suc (suc (suc n)))) e = absurd (dead.bare (suc (suc (suc (suc n)))) (omega arith) r m e)

    alive_passes : (IsTombstoned us o → ⊥) → KeepsSchema table us o naming.class
        → is_object_formed table rows o ≡ true
    alive_passes lives keep = with_rows None none (and_from _ _ born (and_from _ _ name_passes
        (subst (λ (c : Option ℕ). is_alive_formed table rows o c ≡ true) (sym (ap class_said class_row.2))
        (and_from _ _ (is_some_of (class_at table naming.class) keep.known) (and_from _ _ (own_passes (fits_class table naming.class) kept) (passes_all (λ a. is_some (row_held rows (RowOf o a))) (must_of table naming.class) there))))))
      where
        none : row_held rows (RowOf o deleted_attr) ≡ None
        none = by (row_found rows (RowOf o deleted_attr))
          where
            by : IsFound rows (RowOf o deleted_attr) (row_held rows (RowOf o deleted_attr))
                → row_held rows (RowOf o deleted_attr) ≡ None
            by (inl (x, m, e, g)) = absurd (lives (x.update, updated rows x m, e))
            by (inr (other, g)) = g

        there : Each (λ a. is_some (row_held rows (RowOf o a)) ≡ true) (must_of table naming.class)
        there a m = let t = row_of IsFilled a (keep.whole a (one_passes (λ n. n == a) (must_of table naming.class) a m (eq-eqb a a refl))) in ap is_some t.3

        -- what must be there isn't empty
        full : (attr : ℕ) (r : Update) (vs : List Datum) → Member r us → r.key ≡ RowOf o attr
            → r.said ≡ Holds (Values vs) → has (must_of table naming.class) attr ≡ true → vs ≡ [] → ⊥
        full attr r vs m is says must empty =
            let t = keep.whole attr must in
            let same : r ≡ t.0 = one r m t.0 t.1 (is ∙ sym t.2) in
            let both : Holds (Values vs) ≡ Holds (Values (t.3.0 ∷ t.3.1)) = sym says ∙ ap (λ (u : Update). u.said) same ∙ t.3.2 in
            absurd (let g : vs ≡ t.3.0 ∷ t.3.1 = cc in let k : t.3.0 ∷ t.3.1 ≡ [] = sym g ∙ empty in cc)

        passes : (attr : ℕ) (stamp : LinkStamp) (said content : Said) → said ≡ content
            → fits_class table naming.class (record { key = RowOf o attr; stamp = stamp; said = content }) ≡ true
            → fits_class table naming.class (record { key = RowOf o attr; stamp = stamp; said = said }) ≡ true
        passes attr stamp said content e h = subst
            (λ s. fits_class table naming.class (record { key = RowOf o attr; stamp = stamp; said = s }) ≡ true)
            (sym e) h

        kept : (r : Update) (attr : ℕ) → r.key ≡ RowOf o attr → Member r us
            → fits_class table naming.class r ≡ true
        kept r attr is m = subst
            (λ k. fits_class table naming.class (record { key = k; stamp = r.stamp; said = r.said }) ≡ true)
            (sym is) (by attr is)
          where
            by : (a : ℕ) → r.key ≡ RowOf o a
                → fits_class table naming.class (record { key = RowOf o a; stamp = r.stamp; said = r.said }) ≡ true
            by zero e = absurd (f.none r m e)
            by (suc zero) e = passes 1 r.stamp r.said (Holds (Class naming.class))
                (ap (λ (u : Update). u.said) (one r m class_row.0.update (updated rows class_row.0 class_row.1.0) (e ∙ sym class_row.1.1)) ∙ class_row.2) refl
            by (suc (suc zero)) e = passes 2 r.stamp r.said (Holds (Name naming.text naming.parent))
                (ap (λ (u : Update). u.said) (one r m name_row.0.update (updated rows name_row.0 name_row.1.0) (e ∙ sym name_row.1.1)) ∙ name_row.2) refl
            by (suc (suc (suc zero))) e = absurd (lives (r, m, e))
            by (suc (suc (suc (suc n)))) e =
                let a = suc (suc (suc (suc n))) in
                let t = keep.allowed a (omega arith) r m e in
                let may : MayBeHeld table naming.class a t.0 = record { allowed = t.2; filled = full a r t.0 m e t.1 } in
                passes a r.stamp r.said (Holds (Values t.0)) t.1 (ap is_none (not_refused_held table naming.class a t.0 may))

    pub tested_where_unit : is_object_formed table rows o ≡ true
    tested_where_unit = ⊎_elim dead_passes
        (λ alive. alive_passes alive.0 (alive.1 naming.class naming.of_class)) (f.formed holds)
