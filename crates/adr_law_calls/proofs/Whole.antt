-- The rows of a new object are whole where the test finds that they lack nothing.
use Rattle.std.proofs.Common.{◌≡◌, ◌⊎◌, inl, inr, ℕ, List, Bool, true, false, Option, Some, unwrap_or, refl, sym, ap, ◌∙◌, subst, not, ◌&&◌, ◌||◌, ◌==◌}
use Rattle.std.specs.List.{list_any}
use Rattle.std.specs.Option.{option_and_then}
use Rattle.std.proofs.lemmas.Bool.{or_parts, both_ways, eqb-true, eq-eqb, not-false}
use Rattle.adr_values.specs.declared.stamp.Oid.{Oid}
use Rattle.adr_values.specs.declared.stamp.Unit.TheVariants.{Object}
use Rattle.adr_values.specs.declared.content.Content.{Content}
use Rattle.adr_values.specs.declared.content.Content.TheVariants.{Class, Name, Dead, Values}
use Rattle.adr_values.specs.Table.{Table, has, must_of}
use Rattle.adr_model.specs.Member.{Member}
use Rattle.adr_model.specs.Update.{RowOf, Update, Holds, class_attr, name_attr, deleted_attr}
use Rattle.adr_model.specs.Reflects.{IsDeathOf}
use Rattle.adr_model.specs.Take.{is_of_attr, has_row, lacks, class_among, class_said}
use Rattle.adr_model.proofs.Members.{found, each_fails, none_passes, one_passes}
use Rattle.adr_model.proofs.Members.{some_passes}
use Rattle.adr_law_calls.specs.Forms.{HasKey}
use Rattle.adr_law_calls.proofs.Rows.{row_of_unit}
use Rattle.adr_law_calls.proofs.Standings.{of_attr, attr_itself, has_where_tested, tested_where_has}
use Rattle.adr_model.specs.Spelled.{IsContentOfAttr, IsSpelledItem}
use Rattle.adr_law_calls.specs.Follow.{IsWhole}
use Rattle.adr_law_calls.proofs.Sorted.{one_of_key}
use Rattle.adr_law_calls.proofs.Said.{says_content}

module _ (table : Table) (o : Oid) (us : List Update)
    (spelled : IsSpelledItem (record { unit = Object o; rows = us })) where
  pub row_of_attr : (attr : ℕ) (u : Update) → Member u us → is_of_attr attr u.key ≡ true → u.key ≡ RowOf o attr
  row_of_attr attr u m is = let k = row_of_unit u.key o (spelled.of_unit u m) in let d = of_attr attr u.key is in k.1
      ∙ ap (λ a. RowOf o a) (same_attr d.0 k.0 (sym k.1 ∙ d.1))
    where
      same_attr : (p : Oid) (a : ℕ) → RowOf o a ≡ RowOf p attr → a ≡ attr
      same_attr p a e = cc

  pub key_of : (attr : ℕ) → has_row attr us ≡ true → HasKey us o attr
  key_of attr h = let t = has_where_tested attr us h in (t.0, t.1, row_of_attr attr t.0 t.1 t.2)

  has_key : (attr : ℕ) → HasKey us o attr → has_row attr us ≡ true
  has_key attr (u, m, e) = tested_where_has attr us u m (attr_itself o attr u.key e)

  -- what its class row says is its class
  pub class_is : (b : HasKey us o class_attr) (class : ℕ) → b.0.said ≡ Holds (Class class)
      → class_among us ≡ Some class
  class_is b class says =
      ap (λ (p : Option Update). option_and_then (λ u. class_said u.said) p)
      (found (λ (u : Update). is_of_attr class_attr u.key) us b.0 b.1 (attr_itself o class_attr b.0.key b.2)
      (λ u m is. one_of_key us spelled.rising u m b.0 b.1 (row_of_attr class_attr u m is ∙ sym b.2)))
      ∙ ap class_said says

  pub whole_where_tested : lacks table us ≡ false → IsWhole table o us
  whole_where_tested none = made (key_of class_attr class_there) (key_of name_attr name_there)
    where
      p : ((not (has_row class_attr us) || not (has_row name_attr us)) ≡ false) × ((not (has_row deleted_attr us) && list_any (λ attr. not (has_row attr us)) (must_of table (unwrap_or (class_among us) 0))) ≡ false)
      p = or_parts (not (has_row class_attr us) || not (has_row name_attr us))
          (not (has_row deleted_attr us) && list_any (λ attr. not (has_row attr us)) (must_of table (unwrap_or (class_among us) 0))) none

      q : (not (has_row class_attr us) ≡ false) × (not (has_row name_attr us) ≡ false)
      q = or_parts (not (has_row class_attr us)) (not (has_row name_attr us)) p.0

      class_there : has_row class_attr us ≡ true
      class_there = not-false (has_row class_attr us) q.0

      name_there : has_row name_attr us ≡ true
      name_there = not-false (has_row name_attr us) q.1

      made : HasKey us o class_attr → HasKey us o name_attr → IsWhole table o us
      made b n = by b_says.0 b_says.1 b_says.2
        where
          b_says : (c : Content) × (b.0.said ≡ Holds c) × IsContentOfAttr class_attr c
          b_says = says_content b.0.key b.0.said o class_attr b.2 (spelled.says b.0 b.1)

          all : (class : ℕ) → b.0.said ≡ Holds (Class class) → (d : Bool) → has_row deleted_attr us ≡ d
              → (not d && list_any (λ attr. not (has_row attr us)) (must_of table (unwrap_or (class_among us) 0))) ≡ false
              → ((d : Update) × Member d us × IsDeathOf o d) ⊎ ((attr : ℕ) → has (must_of table class) attr ≡ true → HasKey us o attr)
          all class says true is none = inl (key_of deleted_attr is)
          all class says false is none = inr must
            where
              must : (attr : ℕ) → has (must_of table class) attr ≡ true → HasKey us o attr
              must attr h =
                  let there = subst (λ (c : Option ℕ). list_any (λ a. not (has_row a us)) (must_of table (unwrap_or c 0)) ≡ false) (class_is b class says) none in
                  let t = some_passes (λ m. m == attr) (must_of table class) h in
                  let r : has_row t.0 us ≡ true = not-false (has_row t.0 us) (each_fails (λ a. not (has_row a us)) (must_of table class) there t.0 t.1) in
                  key_of attr (subst (λ m. has_row m us ≡ true) (eqb-true t.0 attr t.2) r)

          by : (c : Content) → b.0.said ≡ Holds c → IsContentOfAttr class_attr c → IsWhole table o us
          by (Class class) says of = record { class = class; of_class = (b.0, b.1, b.2, says); of_name = n; whole = all class says (has_row deleted_attr us) refl p.1 }
          by (Name text parent) says of = absurd (let f : class_attr ≡ name_attr = of in cc)
          by Dead says of = absurd (let f : class_attr ≡ deleted_attr = of in cc)
          by (Values vs) says of = absurd (of.0 refl)

  pub tested_where_whole : IsWhole table o us → lacks table us ≡ false
  tested_where_whole whole = by (has_row class_attr us)
      (has_key class_attr (whole.of_class.0, whole.of_class.1, whole.of_class.2)) (has_row name_attr us)
      (has_key name_attr whole.of_name) (has_row deleted_attr us) refl whole.whole
    where
      must : has_row deleted_attr us ≡ false
          → ((d : Update) × Member d us × IsDeathOf o d) ⊎ ((attr : ℕ) → has (must_of table whole.class) attr ≡ true → HasKey us o attr)
          → list_any (λ attr. not (has_row attr us)) (must_of table (unwrap_or (class_among us) 0)) ≡ false
      must alive (inl death) = absurd (both_ways (has_row deleted_attr us) alive (has_key deleted_attr death))
      must alive (inr all) = subst
          (λ (c : Option ℕ). list_any (λ attr. not (has_row attr us)) (must_of table (unwrap_or c 0)) ≡ false)
          (sym (class_is (whole.of_class.0, whole.of_class.1, whole.of_class.2) whole.class whole.of_class.3))
          (none_passes (λ attr. not (has_row attr us)) (must_of table whole.class) (λ attr m. ap not (has_key attr (all attr (one_passes (λ n. n == attr) (must_of table whole.class) attr m (eq-eqb attr attr refl))))))

      by : (c : Bool) → c ≡ true → (n : Bool) → n ≡ true → (d : Bool) → has_row deleted_attr us ≡ d
          → ((d : Update) × Member d us × IsDeathOf o d) ⊎ ((attr : ℕ) → has (must_of table whole.class) attr ≡ true → HasKey us o attr)
          → (not c || not n || (not d && list_any (λ attr. not (has_row attr us)) (must_of table (unwrap_or (class_among us) 0)))) ≡ false
      by true e true f true dead all = refl
      by true e true f false alive all = must alive all
      by true e false f d dead all = absurd (both_ways false refl f)
      by false e n f d dead all = absurd (both_ways false refl e)
