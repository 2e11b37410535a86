-- What is gathered depends on which ends there are, and not on their order.
use Rattle.std.proofs.Common.{◌≡◌, ℕ, List, [], ◌∷◌, ◌++◌, Option, Some, None, refl, sym, ap, ◌∙◌, subst, map, fold, filter_map}
use Rattle.std.specs.List.{flat_map, cons_option}
use Rattle.std.specs.BTreeSet.{insert_key}
use Rattle.std.specs.Cmp.{IsTotalOrder}
use Rattle.std.specs.Ordering.{match_ordering, nat_cmp, ordering_reverse}
use Rattle.std.specs.declared.cmp.Ordering.{Ordering}
use Rattle.std.specs.declared.cmp.Ordering.TheVariants.{Less, Equal, Greater}
use Rattle.std.proofs.lemmas.Cmp.{nat_cmp_total, nat_list_cmp_total}
use Rattle.std.proofs.lemmas.Map.Lookups.{CmpEqualImpliesEq, exact_bytes, exact_unsigned}
use Rattle.adr_values.specs.Order.{identifier_order}
use Rattle.adr_model.specs.Update.{Identifier}
use Rattle.adr_model.specs.Directory.{gathered, of_attribute}

module _ {K : Type 0} (R : K → K → Ordering) (total : IsTotalOrder R) (exact : CmpEqualImpliesEq R) where
  before : (x : K) (xs : List K) (k : K) → R k x ≡ Less → insert_key R (x ∷ xs) k ≡ k ∷ x ∷ xs
  before x xs k e = ap (λ o. match_ordering o (k ∷ x ∷ xs) (x ∷ xs) (x ∷ insert_key R xs k)) e

  there : (x : K) (xs : List K) (k : K) → R k x ≡ Equal → insert_key R (x ∷ xs) k ≡ x ∷ xs
  there x xs k e = ap (λ o. match_ordering o (k ∷ x ∷ xs) (x ∷ xs) (x ∷ insert_key R xs k)) e

  behind : (x : K) (xs : List K) (k : K) → R k x ≡ Greater → insert_key R (x ∷ xs) k ≡ x ∷ insert_key R xs k
  behind x xs k e = ap (λ o. match_ordering o (k ∷ x ∷ xs) (x ∷ xs) (x ∷ insert_key R xs k)) e

  turned : (a b : K) (o : Ordering) → R a b ≡ o → R b a ≡ ordering_reverse o
  turned a b o e = total.antisymm b a ∙ ap ordering_reverse e

  -- two that both come first
  both_first : (ks : List K) (a b : K) → insert_key R ks a ≡ a ∷ ks → insert_key R ks b ≡ b ∷ ks → insert_key R (a ∷ ks) b ≡ insert_key R (b ∷ ks) a
  both_first ks a b first_a first_b = by (R a b) refl
    where
      by : (o : Ordering) → R a b ≡ o → insert_key R (a ∷ ks) b ≡ insert_key R (b ∷ ks) a
      by Less is = behind a ks b (turned a b Less is) ∙ (ap (λ xs. a ∷ xs) first_b ∙ sym (before b ks a is))
      by Equal is = there a ks b (turned a b Equal is) ∙ (ap (λ x. x ∷ ks) (exact a b is) ∙ sym (there b ks a is))
      by Greater is = before a ks b (turned a b Greater is) ∙ (ap (λ xs. b ∷ xs) (sym first_a) ∙ sym (behind b ks a is))

  -- one that comes before the first, and one that does not
  apart : (x : K) (xs : List K) (a b : K) → R a x ≡ Less → R b a ≡ Greater → (ys : List K) → insert_key R (x ∷ xs) b ≡ x ∷ ys → insert_key R (insert_key R (x ∷ xs) a) b ≡ insert_key R (insert_key R (x ∷ xs) b) a
  apart x xs a b less above ys rest =
      ap (λ ks. insert_key R ks b) (before x xs a less)
      ∙ (behind a (x ∷ xs) b above ∙ (ap (λ ks. a ∷ ks) rest ∙ (sym (before x ys a less) ∙ ap (λ ks. insert_key R ks a) (sym rest))))

  above_equal : (x a b : K) → R a x ≡ Less → R b x ≡ Equal → R b a ≡ Greater
  above_equal x a b less same = turned a b Less (subst (λ y. R a y ≡ Less) (sym (exact b x same)) less)

  above_greater : (x a b : K) → R a x ≡ Less → R b x ≡ Greater → R b a ≡ Greater
  above_greater x a b less more = turned a b Less (total.trans a x b less (turned b x Greater more))

  swapped : (ks : List K) (a b : K) → insert_key R (insert_key R ks a) b ≡ insert_key R (insert_key R ks b) a
  swapped [] a b = both_first [] a b refl refl
  swapped (x ∷ xs) a b = by (R a x) (R b x) refl refl (swapped xs a b)
    where
      by : (o p : Ordering) → R a x ≡ o → R b x ≡ p → insert_key R (insert_key R xs a) b ≡ insert_key R (insert_key R xs b) a
          → insert_key R (insert_key R (x ∷ xs) a) b ≡ insert_key R (insert_key R (x ∷ xs) b) a
      by Less Less e f rest =
          ap (λ ks. insert_key R ks b) (before x xs a e) ∙ (both_first (x ∷ xs) a b (before x xs a e) (before x xs b f) ∙ ap (λ ks. insert_key R ks a) (sym (before x xs b f)))
      by Less Equal e f rest = apart x xs a b e (above_equal x a b e f) xs (there x xs b f)
      by Less Greater e f rest = apart x xs a b e (above_greater x a b e f) (insert_key R xs b) (behind x xs b f)
      by Equal Less e f rest = sym (apart x xs b a f (above_equal x b a f e) xs (there x xs a e))
      by Equal Equal e f rest = ap (λ ks. insert_key R ks b) (there x xs a e) ∙ (there x xs b f ∙ (sym (there x xs a e) ∙ ap (λ ks. insert_key R ks a) (sym (there x xs b f))))
      by Equal Greater e f rest =
          ap (λ ks. insert_key R ks b) (there x xs a e) ∙ (behind x xs b f ∙ (sym (there x (insert_key R xs b) a e) ∙ ap (λ ks. insert_key R ks a) (sym (behind x xs b f))))
      by Greater Less e f rest = sym (apart x xs b a f (above_greater x b a f e) (insert_key R xs a) (behind x xs a e))
      by Greater Equal e f rest =
          ap (λ ks. insert_key R ks b) (behind x xs a e) ∙ (there x (insert_key R xs a) b f ∙ (sym (behind x xs a e) ∙ ap (λ ks. insert_key R ks a) (sym (there x xs b f))))
      by Greater Greater e f rest =
          ap (λ ks. insert_key R ks b) (behind x xs a e)
          ∙ (behind x (insert_key R xs a) b f ∙ (ap (λ ks. x ∷ ks) rest ∙ (sym (behind x (insert_key R xs b) a e) ∙ ap (λ ks. insert_key R ks a) (sym (behind x xs b f)))))

  put_first : (ys acc : List K) (a : K) → fold (insert_key R) (insert_key R acc a) ys ≡ insert_key R (fold (insert_key R) acc ys) a
  put_first [] acc a = refl
  put_first (y ∷ ys) acc a = ap (λ ks. fold (insert_key R) ks ys) (swapped acc a y) ∙ put_first ys (insert_key R acc y) a

  in_turn : (xs ys acc : List K) → fold (insert_key R) (fold (insert_key R) acc xs) ys ≡ fold (insert_key R) (fold (insert_key R) acc ys) xs
  in_turn [] ys acc = refl
  in_turn (x ∷ xs) ys acc = in_turn xs ys (insert_key R acc x) ∙ ap (λ ks. fold (insert_key R) ks xs) (put_first ys acc x)

  appended : (xs ys acc : List K) → fold (insert_key R) acc (xs ++ ys) ≡ fold (insert_key R) (fold (insert_key R) acc xs) ys
  appended [] ys acc = refl
  appended (x ∷ xs) ys acc = appended xs ys (insert_key R acc x)

  -- what a part of each end gives, put into a set
  module _ {E U : Type 0} (part : List E → List K) (of_none : part [] ≡ []) (of_both : (xs ys : List E) → part (xs ++ ys) ≡ part xs ++ part ys) (F B : U → List E) where
    abbrev put : List K → List E → List K
    put acc es = fold (insert_key R) acc (part es)

    put_both : (xs ys : List E) (acc : List K) → put acc (xs ++ ys) ≡ put (put acc xs) ys
    put_both xs ys acc = ap (fold (insert_key R) acc) (of_both xs ys) ∙ appended (part xs) (part ys) acc

    put_none : (acc : List K) → put acc [] ≡ acc
    put_none acc = ap (fold (insert_key R) acc) of_none

    one_by_one : (us : List U) (acc : List K) → put acc (flat_map (λ u. F u ++ B u) us) ≡ put (put acc (flat_map F us)) (flat_map B us)
    one_by_one [] acc = sym (put_none (put acc []))
    one_by_one (u ∷ us) acc =
        put_both (F u ++ B u) (flat_map (λ v. F v ++ B v) us) acc
        ∙ (ap (λ ks. put ks (flat_map (λ v. F v ++ B v) us)) (put_both (F u) (B u) acc)
        ∙ (one_by_one us (put (put acc (F u)) (B u))
        ∙ (ap (λ ks. put ks (flat_map B us)) (in_turn (part (B u)) (part (flat_map F us)) (put acc (F u)))
        ∙ (ap (λ ks. put (put ks (B u)) (flat_map B us)) (sym (put_both (F u) (flat_map F us) acc))
        ∙ sym (put_both (B u) (flat_map B us) (put acc (F u ++ flat_map F us)))))))

    pub part_by_part : (us : List U) → put [] (flat_map (λ u. F u ++ B u) us) ≡ put [] (flat_map F us ++ flat_map B us)
    part_by_part us = one_by_one us [] ∙ sym (put_both (flat_map F us) (flat_map B us) [])

map_of_both : {A B : Type 0} (f : A → B) (xs ys : List A) → map f (xs ++ ys) ≡ map f xs ++ map f ys
map_of_both f [] ys = refl
map_of_both f (x ∷ xs) ys = ap (λ zs. f x ∷ zs) (map_of_both f xs ys)

filter_map_of_both : (attr : ℕ) (xs ys : List (ℕ × Identifier)) → filter_map (of_attribute attr) (xs ++ ys) ≡ filter_map (of_attribute attr) xs ++ filter_map (of_attribute attr) ys
filter_map_of_both attr [] ys = refl
filter_map_of_both attr (x ∷ xs) ys = ap (cons_option (of_attribute attr x)) (filter_map_of_both attr xs ys) ∙ by (of_attribute attr x)
  where
    by : (o : Option Identifier) → cons_option o (filter_map (of_attribute attr) xs ++ filter_map (of_attribute attr) ys) ≡ cons_option o (filter_map (of_attribute attr) xs) ++ filter_map (of_attribute attr) ys
    by None = refl
    by (Some g) = refl

maps_alike : {A B : Type 0} (f g : A → B) → ((x : A) → f x ≡ g x) → (xs : List A) → map f xs ≡ map g xs
maps_alike f g same [] = refl
maps_alike f g same (x ∷ xs) = ap (λ y. y ∷ map f xs) (same x) ∙ ap (λ ys. g x ∷ ys) (maps_alike f g same xs)

module _ {U : Type 0} (F B : U → List (ℕ × Identifier)) where
  guids : (attr : ℕ) (us : List U)
      → fold (insert_key identifier_order) [] (filter_map (of_attribute attr) (flat_map (λ u. F u ++ B u) us)) ≡ fold (insert_key identifier_order) [] (filter_map (of_attribute attr) (flat_map F us ++ flat_map B us))
  guids attr us = part_by_part identifier_order nat_list_cmp_total exact_bytes (filter_map (of_attribute attr)) refl (filter_map_of_both attr) F B us

  attributes : (us : List U)
      → fold (insert_key nat_cmp) [] (map (λ (e : ℕ × Identifier). e.0) (flat_map (λ u. F u ++ B u) us)) ≡ fold (insert_key nat_cmp) [] (map (λ (e : ℕ × Identifier). e.0) (flat_map F us ++ flat_map B us))
  attributes us = part_by_part nat_cmp nat_cmp_total exact_unsigned (map (λ (e : ℕ × Identifier). e.0)) refl (map_of_both (λ (e : ℕ × Identifier). e.0)) F B us

  -- two ends of each may come one by one, or the first of all before the second of all
  pub gathered_alike : (us : List U) → gathered (flat_map (λ u. F u ++ B u) us) ≡ gathered (flat_map F us ++ flat_map B us)
  gathered_alike us =
      maps_alike _ _ (λ (attr : ℕ). ap (λ (gs : List Identifier). (attr, gs)) (guids attr us)) (fold (insert_key nat_cmp) [] (map (λ (e : ℕ × Identifier). e.0) (flat_map (λ u. F u ++ B u) us)))
      ∙ ap (map (λ (attr : ℕ). (attr, fold (insert_key identifier_order) [] (filter_map (of_attribute attr) (flat_map F us ++ flat_map B us))))) (attributes us)
