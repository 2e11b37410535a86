-- Links that are gathered by attribute are known by which other ends there are under each attribute.
use Rattle.std.proofs.Common.{◌≡◌, ◌⊎◌, inl, inr, ⊎_elim, ◌==◌, ℕ, List, [], ◌∷◌, Bool, true, false, not, Option, Some, None, refl, sym, ap, ◌∙◌, subst, map, filter, filter_map, fold, if◌then◌else◌}
use Rattle.std.specs.List.{cons_option}
use Rattle.std.specs.BTreeSet.{insert_key}
use Rattle.std.specs.Ordering.{nat_cmp}
use Rattle.std.specs.declared.cmp.Ordering.{Ordering}
use Rattle.std.specs.declared.cmp.Ordering.TheVariants.{Less}
use Rattle.std.proofs.lemmas.Bool.{eqb-true, eq-eqb}
use Rattle.std.proofs.lemmas.Cmp.{nat_cmp_total, nat_list_cmp_total}
use Rattle.std.proofs.lemmas.Map.Lookups.{exact_bytes, exact_unsigned}
use Rattle.adr_values.specs.Order.{identifier_order}
use Rattle.adr_model.specs.Member.{Member, Each}
use Rattle.adr_model.specs.Update.{Identifier, same_identifier}
use Rattle.adr_model.specs.Directory.{of_attribute, gathered}
use Rattle.adr_model.proofs.Members.{in_filter, of_filter, mapped_member, member_mapped, in_filter_map, of_filter_map}
use Rattle.adr_law_knowledge.specs.Rises.{Rises}
use Rattle.adr_law_knowledge.proofs.Lists.{filter_rises, not_both_ways, same_members_one_list, sorted_rises, of_sorted, in_sorted}
use Rattle.adr_law_revived.specs.Revived.{some_ends, links_to_others}

-- an attribute with other ends
abbrev pub Line : Type 0
Line = ℕ × List Identifier

-- which other ends there are under which attributes
abbrev pub Ends : Type 1
Ends = ℕ → Identifier → Type 0

abbrev by_attr : Line → Line → Ordering
by_attr l k = nat_cmp l.0 k.0

-- the ends under one attribute, rising, and there are some
pub record IsLineOf (P : Ends) (l : Line) : Type 0 where
  pub rises : Rises identifier_order l.1
  pub some : l.1 ≡ [] → ⊥
  pub of : Each (P l.0) l.1
  pub all : (g : Identifier) → P l.0 g → Member g l.1

pub record Gathers (P : Ends) (ls : List Line) : Type 0 where
  pub rises : Rises by_attr ls
  pub each : Each (IsLineOf P) ls
  pub all : (attr : ℕ) (g : Identifier) → P attr g → (l : Line) × Member l ls × (l.0 ≡ attr)

-- ---- the same ends give one list

some_member : (gs : List Identifier) → (gs ≡ [] → ⊥) → (g : Identifier) × Member g gs
some_member [] some = absurd (some refl)
some_member (g ∷ gs) some = (g, inl refl)

there_too : (P Q : Ends) → ((attr : ℕ) (g : Identifier) → P attr g → Q attr g) → ((attr : ℕ) (g : Identifier) → Q attr g → P attr g)
    → (ls ks : List Line) → Gathers P ls → Gathers Q ks → Each (λ (l : Line). Member l ks) ls
there_too P Q to back ls ks p q l m =
    let is = p.each l m in
    let one = some_member l.1 is.some in
    let k = q.all l.0 one.0 (to l.0 one.0 (is.of one.0 one.1)) in
    by k.0 k.1 k.2 is (q.each k.0 k.1)
  where
    by : (k : Line) → Member k ks → k.0 ≡ l.0 → IsLineOf P l → IsLineOf Q k → Member l ks
    by k n e is so = subst (λ (x : Line). Member x ks) (λ i. (e i, same i)) n
      where
        same : k.1 ≡ l.1
        same = same_members_one_list identifier_order (not_both_ways identifier_order nat_list_cmp_total exact_bytes) k.1 l.1 so.rises is.rises
            (λ g o. is.all g (back l.0 g (subst (λ a. Q a g) e (so.of g o))))
            (λ g o. so.all g (subst (λ a. Q a g) (sym e) (to l.0 g (is.of g o))))

pub one_list : (P Q : Ends) → ((attr : ℕ) (g : Identifier) → P attr g → Q attr g) → ((attr : ℕ) (g : Identifier) → Q attr g → P attr g)
    → (ls ks : List Line) → Gathers P ls → Gathers Q ks → ls ≡ ks
one_list P Q to back ls ks p q =
    same_members_one_list by_attr (λ l k e f. not_both_ways nat_cmp nat_cmp_total exact_unsigned l.0 k.0 e f) ls ks p.rises q.rises
    (there_too P Q to back ls ks p q) (there_too Q P back to ks ls q p)

-- ---- ends, gathered

module _ (es : List (ℕ × Identifier)) where
  abbrev pub AreIn : Ends
  AreIn attr g = Member (attr, g) es

  abbrev line : ℕ → Line
  line attr = (attr, fold (insert_key identifier_order) [] (filter_map (of_attribute attr) es))

  abbrev attrs : List ℕ
  attrs = fold (insert_key nat_cmp) [] (map (λ (e : ℕ × Identifier). e.0) es)

  lines_rise : (ks : List ℕ) → Rises nat_cmp ks → Rises by_attr (map line ks)
  lines_rise [] r = tt
  lines_rise (k ∷ ks) r = ((λ x m. let t = mapped_member line ks x m in subst (λ (y : Line). nat_cmp k y.0 ≡ Less) (sym t.2) (r.0 t.0 t.1)), lines_rise ks r.1)

  under_own : (attr : ℕ) (e : ℕ × Identifier) → e.0 ≡ attr → of_attribute attr e ≡ Some e.1
  under_own attr e is = ap (λ b. if b then Some e.1 else None) (eq-eqb e.0 attr is)

  of_own : (attr : ℕ) (e : ℕ × Identifier) (g : Identifier) → of_attribute attr e ≡ Some g → (e.0 ≡ attr) × (e.1 ≡ g)
  of_own attr e g is = by (e.0 == attr) refl is
    where
      by : (b : Bool) → (e.0 == attr) ≡ b → (if b then Some e.1 else None) ≡ Some g → (e.0 ≡ attr) × (e.1 ≡ g)
      by true same h = let g_is : e.1 ≡ g = cc in (eqb-true e.0 attr same, g_is)
      by false same h = absurd (cc)

  in_line : (attr : ℕ) (e : ℕ × Identifier) → Member e es → e.0 ≡ attr → Member e.1 (line attr).1
  in_line attr e m is = in_sorted identifier_order nat_list_cmp_total exact_bytes (filter_map (of_attribute attr) es) [] e.1 (in_filter_map (of_attribute attr) es e e.1 m (under_own attr e is))

  is_line : (attr : ℕ) → Member attr attrs → IsLineOf AreIn (line attr)
  is_line attr m = record {
    rises = sorted_rises identifier_order nat_list_cmp_total exact_bytes (filter_map (of_attribute attr) es) [] tt;
    some = λ none. some none (of_sorted nat_cmp nat_cmp_total exact_unsigned (map (λ (e : ℕ × Identifier). e.0) es) [] attr m);
    of = λ g n. ⊎_elim (of_one g) (λ none. absurd none) (of_sorted identifier_order nat_list_cmp_total exact_bytes (filter_map (of_attribute attr) es) [] g n);
    all = λ g n. in_line attr (attr, g) n refl;
  }
    where
      some : (line attr).1 ≡ [] → Member attr (map (λ (e : ℕ × Identifier). e.0) es) ⊎ ⊥ → ⊥
      some none (inl n) = let e = mapped_member (λ (e : ℕ × Identifier). e.0) es attr n in subst (λ (gs : List Identifier). Member e.0.1 gs) none (in_line attr e.0 e.1 (sym e.2))
      some none (inr n) = n

      of_one : (g : Identifier) → Member g (filter_map (of_attribute attr) es) → AreIn attr g
      of_one g n =
          let e = of_filter_map (of_attribute attr) es g n in
          let is = of_own attr e.0 g e.2 in
          subst (λ (x : ℕ × Identifier). Member x es) (λ i. (is.0 i, is.1 i)) e.1

  pub gathered_so : Gathers AreIn (gathered es)
  gathered_so = record {
    rises = lines_rise attrs (sorted_rises nat_cmp nat_cmp_total exact_unsigned (map (λ (e : ℕ × Identifier). e.0) es) [] tt);
    each = λ l m. let t = mapped_member line attrs l m in subst (IsLineOf AreIn) (sym t.2) (is_line t.0 t.1);
    all = λ attr g m. (line attr, member_mapped line attrs attr (in_sorted nat_cmp nat_cmp_total exact_unsigned (map (λ (e : ℕ × Identifier). e.0) es) [] attr (member_mapped (λ (e : ℕ × Identifier). e.0) es (attr, g) m)), refl);
  }

-- ---- the ends that aren't of one GUID

module _ (guid : Identifier) where
  abbrev is_other : Identifier → Bool
  is_other g = not (same_identifier g guid)

  abbrev others_of : Line → Option Line
  others_of l = some_ends l.0 (filter is_other l.1)

  some_of : (attr : ℕ) (gs : List Identifier) (k : Line) → some_ends attr gs ≡ Some k → (k.0 ≡ attr) × (k.1 ≡ gs) × (k.1 ≡ [] → ⊥)
  some_of attr [] k e = absurd (cc)
  some_of attr (g ∷ gs) k e =
      let same : k ≡ (attr, g ∷ gs) = cc in
      (ap (λ (x : Line). x.0) same, ap (λ (x : Line). x.1) same, λ none. let nil : g ∷ gs ≡ [] = sym (ap (λ (x : Line). x.1) same) ∙ none in absurd (cc))

  of_some : (attr : ℕ) (gs : List Identifier) (g : Identifier) → Member g gs → some_ends attr gs ≡ Some (attr, gs)
  of_some attr [] g m = absurd m
  of_some attr (h ∷ gs) g m = refl

  rest_rises : (ls : List Line) → Rises by_attr ls → Rises by_attr (links_to_others guid ls)
  rest_rises [] r = tt
  rest_rises (l ∷ ls) r = by (others_of l) refl (rest_rises ls r.1)
    where
      less : (a b c d : ℕ) → a ≡ c → b ≡ d → nat_cmp c d ≡ Less → nat_cmp a b ≡ Less
      less a b c d e f is = ap (λ i. nat_cmp i b) e ∙ ap (λ i. nat_cmp c i) f ∙ is

      by : (o : Option Line) → others_of l ≡ o → Rises by_attr (links_to_others guid ls) → Rises by_attr (cons_option o (links_to_others guid ls))
      by None is rest = rest
      by (Some k) is rest = (
        (λ x m. let t = of_filter_map others_of ls x m in less k.0 x.0 l.0 t.0.0 (some_of l.0 (filter is_other l.1) k is).0 (some_of t.0.0 (filter is_other t.0.1) x t.2).0 (r.0 t.0 t.1)),
        rest,
      )

  other_is : (b : Bool) → not b ≡ true → b ≡ false
  other_is false e = refl
  other_is true e = absurd (cc)

  module _ (P : Ends) where
    abbrev pub AreOthers : Ends
    AreOthers attr g = P attr g × (same_identifier g guid ≡ false)

    others_line : (l k : Line) → IsLineOf P l → others_of l ≡ Some k → IsLineOf AreOthers k
    others_line l k is e = record {
      rises = subst (Rises identifier_order) (sym so.1) (filter_rises identifier_order is_other l.1 is.rises);
      some = so.2;
      of = λ g m.
          let t = of_filter is_other l.1 g (subst (Member g) so.1 m) in
          (subst (λ a. P a g) (sym so.0) (is.of g t.0), other_is (same_identifier g guid) t.1);
      all = λ g p. subst (Member g) (sym so.1) (in_filter is_other l.1 g (is.all g (subst (λ a. P a g) so.0 p.0)) (ap not p.1));
    }
      where
        so : (k.0 ≡ l.0) × (k.1 ≡ filter is_other l.1) × (k.1 ≡ [] → ⊥)
        so = some_of l.0 (filter is_other l.1) k e

    pub others_so : (ls : List Line) → Gathers P ls → Gathers AreOthers (links_to_others guid ls)
    others_so ls p = record {
      rises = rest_rises ls p.rises;
      each = λ k m. let t = of_filter_map others_of ls k m in others_line t.0 k (p.each t.0 t.1) t.2;
      all = λ attr g so. let l = p.all attr g so.0 in by attr g so.0 so.1 l.0 l.1 l.2;
    }
      where
        by : (attr : ℕ) (g : Identifier) → P attr g → same_identifier g guid ≡ false → (l : Line) → Member l ls → l.0 ≡ attr → (k : Line) × Member k (links_to_others guid ls) × (k.0 ≡ attr)
        by attr g is other l m e =
            let n : Member g (filter is_other l.1) = in_filter is_other l.1 g ((p.each l m).all g (subst (λ a. P a g) (sym e) is)) (ap not other) in
            ((l.0, filter is_other l.1), in_filter_map others_of ls l (l.0, filter is_other l.1) m (of_some l.0 (filter is_other l.1) g n), e)
