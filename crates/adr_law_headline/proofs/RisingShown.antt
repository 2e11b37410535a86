-- What rows show of an object has attributes that rise, whatever the rows are.
use Rattle.std.proofs.Common.{◌≡◌, inl, inr, ℕ, List, [], ◌∷◌, Bool, true, false, cond, Option, Some, None, refl, sym, ap, ◌∙◌, subst, map, fold, flat_map, filter_map}
use Rattle.std.specs.List.{AllByRecursion, list_all, cons_option}
use Rattle.std.specs.List.Sorted.{IsStrictlySortedBy}
use Rattle.std.specs.Ordering.{ordering_then, nat_cmp}
use Rattle.std.specs.declared.cmp.Ordering.{Ordering}
use Rattle.std.specs.declared.cmp.Ordering.TheVariants.{Less}
use Rattle.std.specs.BTreeSet.{insert_key}
use Rattle.std.proofs.lemmas.Cmp.{nat_cmp_total, tied_itself}
use Rattle.std.proofs.lemmas.Map.Lookups.{exact_unsigned}
use Rattle.adr_values.specs.Order.{identifier_order}
use Rattle.adr_values.specs.declared.stamp.Oid.{Oid}
use Rattle.adr_values.specs.contracts.stamp.OidOrd.TheImpl.Laws.{total-law as objects_total}
use Rattle.adr_values.specs.declared.content.Value.{Value as Item}
use Rattle.adr_values.specs.declared.content.Content.TheVariants.{Class, Name, Dead, Values}
use Rattle.adr_model.specs.Member.{Each}
use Rattle.adr_model.specs.Update.{Identifier, Key, RowOf, LinkOf, Said, Holds, IsPresent, Update, ends, key_order, same_object}
use Rattle.adr_model.specs.Winner.{winners}
use Rattle.adr_model.specs.Live.{live, is_among, live_rows}
use Rattle.adr_model.specs.Directory.{with_values, values_in, values_at, link_ends, of_attribute, gathered, links_at}
use Rattle.adr_model.proofs.Keys.{objects_tell}
use Rattle.adr_model.proofs.Members.{mapped_member, of_filter_map}
use Rattle.adr_law_knowledge.specs.Rises.{Rises}
use Rattle.adr_law_knowledge.proofs.Lists.{filter_rises, sorted_rises}
use Rattle.adr_law_knowledge.proofs.Winners.{by_key, winners_rise}
use Rattle.adr_json.specs.Exportable.{AttributesRise}

-- ---- lists that rise

-- by something of their members, and so in the order of that
rising_by : {A K : Type 0} (R : K → K → Ordering) (f : A → K) (xs : List A) → Rises (λ x y. R (f x) (f y)) xs
    → IsStrictlySortedBy R (map f xs)
unfolding IsStrictlySortedBy
rising_by R f [] r = tt
rising_by {A = A} R f (x ∷ xs) r = (below xs r.0, rising_by R f xs r.1)
  where
    below : (ys : List A) → Each (λ y. R (f x) (f y) ≡ Less) ys → AllByRecursion (λ l. R (f x) l ≡ Less) (map f ys)
    below [] each = tt
    below (y ∷ ys) each = (each y (inl refl), below ys (λ z m. each z (inr m)))

-- what is made of some members of a list that rises, where making keeps the order
module _ {A B : Type 0} (R : A → A → Ordering) (S : B → B → Ordering) (h : A → Option B)
    (keeps : (x y : A) (v w : B) → h x ≡ Some v → h y ≡ Some w → R x y ≡ Less → S v w ≡ Less) where
  made_rise : (xs : List A) → Rises R xs → Rises S (filter_map h xs)
  made_rise [] r = tt
  made_rise (x ∷ xs) r = by (h x) refl (made_rise xs r.1)
    where
      by : (o : Option B) → h x ≡ o → Rises S (filter_map h xs) → Rises S (cons_option o (filter_map h xs))
      by None is rest = rest
      by (Some v) is rest = ((λ w m. let t = of_filter_map h xs w m in keeps x t.0 v w is t.2 (r.0 t.0 t.1)), rest)

-- attributes that rise, each with something
paired_rise : {A : Type 0} (of : ℕ → A) (ks : List ℕ) → Rises nat_cmp ks
    → Rises (λ (x y : ℕ × A). nat_cmp x.0 y.0) (map (λ (k : ℕ). (k, of k)) ks)
paired_rise of [] r = tt
paired_rise {A = A} of (k ∷ ks) r = (
  (λ y m. let t = mapped_member (λ (l : ℕ). (l, of l)) ks y m in subst (λ (z : ℕ × A). nat_cmp k z.0 ≡ Less) (sym t.2) (r.0 t.0 t.1)),
  paired_rise of ks r.1,
)

-- ---- values

-- values are those of a row of the object, under its attribute
row_of_values : (o : Oid) (k : Key) (said : Said) (v : ℕ × List Item) → values_in o k said ≡ Some v → k ≡ RowOf o v.0
row_of_values o (RowOf p attr) (Holds (Values vs)) v e = by (same_object p o) refl vs e
  where
    by : (b : Bool) → same_object p o ≡ b → (xs : List Item) → cond b (with_values attr xs) None ≡ Some v → RowOf p attr ≡ RowOf o v.0
    by false is xs h = absurd (cc)
    by true is [] h = absurd (cc)
    by true is (x ∷ xs) h = let same : (attr, x ∷ xs) ≡ v = cc in
        ap (λ (q : Oid). RowOf q attr) (objects_tell p o is) ∙ ap (λ (z : ℕ × List Item). RowOf o z.0) same
row_of_values o (RowOf p attr) (Holds (Class class)) v e = absurd (cc)
row_of_values o (RowOf p attr) (Holds (Name text parent)) v e = absurd (cc)
row_of_values o (RowOf p attr) (Holds Dead) v e = absurd (cc)
row_of_values o (RowOf p attr) (IsPresent b) v e = absurd (cc)
row_of_values o (LinkOf l) said v e = absurd (cc)

-- rows of one object are in the order of their attributes
attributes_tell : (o : Oid) (a b : ℕ) (k l : Key) → k ≡ RowOf o a → l ≡ RowOf o b → key_order k l ≡ Less → nat_cmp a b ≡ Less
attributes_tell o a b k l is other less =
    ap (λ (w : Ordering). ordering_then w (nat_cmp a b)) (sym (tied_itself objects_total o))
    ∙ (ap (λ (i : Key). key_order i (RowOf o b)) (sym is) ∙ (ap (key_order k) (sym other) ∙ less))

live_rows_rise : (us : List Update) → Rises by_key (live_rows us)
live_rows_rise us = filter_rises by_key (λ (u : Update). list_all (is_among (live us)) (ends u.key)) (winners us) (winners_rise us)

pub values_rise : (us : List Update) (o : Oid) → AttributesRise (values_at (live_rows us) o)
values_rise us o =
    rising_by nat_cmp (λ (v : ℕ × List Item). v.0) (values_at (live_rows us) o)
    (made_rise by_key (λ v w. nat_cmp v.0 w.0) (λ (u : Update). values_in o u.key u.said) keeps (live_rows us) (live_rows_rise us))
  where
    keeps : (t u : Update) (v w : ℕ × List Item) → values_in o t.key t.said ≡ Some v → values_in o u.key u.said ≡ Some w
        → by_key t u ≡ Less → nat_cmp v.0 w.0 ≡ Less
    keeps t u v w is other less =
        attributes_tell o v.0 w.0 t.key u.key (row_of_values o t.key t.said v is) (row_of_values o u.key u.said w other) less

-- ---- links

gathered_rise : (ends : List (ℕ × Identifier)) → AttributesRise (gathered ends)
gathered_rise ends =
    rising_by nat_cmp (λ (l : ℕ × List Identifier). l.0) (gathered ends)
    (paired_rise (λ (attr : ℕ). fold (insert_key identifier_order) [] (filter_map (of_attribute attr) ends))
    (fold (insert_key nat_cmp) [] attrs) (sorted_rises nat_cmp nat_cmp_total exact_unsigned attrs [] tt))
  where
    attrs : List ℕ
    attrs = map (λ (e : ℕ × Identifier). e.0) ends

pub links_rise : (rows : List Update) (o : Oid) → AttributesRise (links_at rows o)
links_rise rows o = gathered_rise (flat_map (λ (u : Update). link_ends o u.key u.said) rows)
