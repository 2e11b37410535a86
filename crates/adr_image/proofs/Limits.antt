-- Parts that are in range make a store that is within its limits, and so a formed one.
use Rattle.std.proofs.Common.{◌≡◌, ℕ, suc, append_assoc, ◌+◌, ◌≤◌, Bool, true, false, cond, eqb, leb, List, [], ◌∷◌, ◌++◌, length, map, fold, Option, Some, None, refl, sym, ap, subst, ◌∙◌, inl, inr, arith}
use Rattle.std.specs.Prelude.{filter}
use Rattle.std.specs.List.{flat_map, AllByRecursion, filter_map, cons_option}
use Rattle.std.specs.List.Sorted.{IsStrictlySortedBy}
use Rattle.std.specs.Ordering.{match_ordering, nat_cmp}
use Rattle.std.specs.declared.cmp.Ordering.{Ordering}
use Rattle.std.specs.declared.cmp.Ordering.TheVariants.{Less, Equal, Greater}
use Rattle.std.specs.BTreeSet.{insert_key}
use Rattle.std.proofs.lemmas.Bool.{leb-true, eqb-true}
use Rattle.std.proofs.lemmas.Cmp.{nat_cmp_total, tied_itself}
use Rattle.adr_values.specs.declared.stamp.Oid.{Oid}
use Rattle.adr_values.specs.Order.{object_order}
use Rattle.adr_wire.specs.Ranges.{InTurn}
use Rattle.adr_model.specs.Member.{Each}
use Rattle.adr_model.specs.Update.{Update}
use Rattle.adr_model.specs.Live.{born}
use Rattle.adr_model.specs.Store.{Held, updates_of}
use Rattle.adr_model.specs.LocalLog.{IsOrdered}
use Rattle.adr_model.specs.Write.{links_in, is_link_row, object_limit, link_limit}
use Rattle.adr_model.specs.Take.{mark_limit}
use Rattle.adr_model.specs.Formed.{IsFormedStore}
use Rattle.adr_image.specs.Image.{HeldRow, Rows, HeldLink, Marked}
use Rattle.adr_image.specs.Whole.{Parts}
use Rattle.adr_image.specs.Ranged.{IsMarked, AreParts}
use Rattle.adr_image.specs.Stored.{held_of, link_of, rows_of_object, rows_of, store_of}
use Rattle.adr_image.proofs.Formed.{EachSorted, each_sorted_parts, rising, locals}
use Rattle.adr_image.proofs.Alone.{alone}
use Rattle.adr_image.proofs.Named.{formed_rows, and_left, and_right}

one_more : {K : Type 0} (R : K → K → Ordering) (ks : List K) (k : K) → length (insert_key R ks k) ≤ length ks + 1
one_more R [] k = omega arith
one_more R (x ∷ xs) k = by (R k x) (one_more R xs k)
  where
    by : (o : Ordering) → length (insert_key R xs k) ≤ length xs + 1 → length (match_ordering o (k ∷ x ∷ xs) (x ∷ xs) (x ∷ insert_key R xs k)) ≤ length (x ∷ xs) + 1
    by Less h = omega arith
    by Equal h = omega arith
    by Greater h = omega (arith, h)

no_more : {K : Type 0} (R : K → K → Ordering) (ks xs : List K) → length (fold (insert_key R) ks xs) ≤ length ks + length xs
no_more R ks [] = omega arith
no_more R ks (x ∷ xs) = let a = no_more R (insert_key R ks x) xs in let b = one_more R ks x in omega (arith, a, b)

abbrev pub births : List Held → List Oid
births hs = filter_map (λ (u : Update). born u.key) (updates_of hs)

-- rows behind a class row, and rows of links, give birth to nothing
pub later : (o : Oid) (hs : List HeldRow) (rest : List Held) → AllByRecursion (λ c. nat_cmp 1 c ≡ Less) (map (λ (h : HeldRow). h.1.0) hs) → births (map (held_of o) hs ++ rest) ≡ births rest
later o [] rest all = refl
later o (h ∷ hs) rest all = by (eqb h.1.0 1) refl (later o hs rest all.1)
  where
    by : (b : Bool) → eqb h.1.0 1 ≡ b → births (map (held_of o) hs ++ rest) ≡ births rest → births (map (held_of o) (h ∷ hs) ++ rest) ≡ births rest
    by true e rec = absurd (let k = ap (λ (a : ℕ). nat_cmp 1 a) (eqb-true h.1.0 1 e) in let t = tied_itself nat_cmp_total 1 in let l = all.0 in cc)
    by false e rec = ap (λ (b : Bool). cons_option (cond b (Some o) None) (births (map (held_of o) hs ++ rest))) e ∙ rec

one_birth : (o : Oid) (hs : List HeldRow) (rest : List Held) → IsStrictlySortedBy nat_cmp (map (λ (h : HeldRow). h.1.0) hs) → length (births (map (held_of o) hs ++ rest)) ≤ 1 + length (births rest)
unfolding IsStrictlySortedBy
one_birth o [] rest s = omega arith
one_birth o (h ∷ hs) rest s = by (eqb h.1.0 1) refl (one_birth o hs rest s.1)
  where
    by : (b : Bool) → eqb h.1.0 1 ≡ b → length (births (map (held_of o) hs ++ rest)) ≤ 1 + length (births rest) → length (births (map (held_of o) (h ∷ hs) ++ rest)) ≤ 1 + length (births rest)
    by true e rec =
        let none = later o hs rest (subst (λ (i : ℕ). AllByRecursion (λ c. nat_cmp i c ≡ Less) (map (λ (h : HeldRow). h.1.0) hs)) (eqb-true h.1.0 1 e) s.0) in
        let same : length (births (map (held_of o) (h ∷ hs) ++ rest)) ≡ 1 + length (births rest) =
        ap (λ (b : Bool). length (cons_option (cond b (Some o) None) (births (map (held_of o) hs ++ rest)))) e ∙ ap (λ (os : List Oid). length (o ∷ os)) none ∙ one_plus (length (births rest)) in
        omega (arith, same)
      where
        one_plus : (n : ℕ) → suc n ≡ 1 + n
        one_plus n = omega arith
    by false e rec =
        let same : length (births (map (held_of o) (h ∷ hs) ++ rest)) ≡ length (births (map (held_of o) hs ++ rest)) = ap (λ (b : Bool). length (cons_option (cond b (Some o) None) (births (map (held_of o) hs ++ rest)))) e in
        omega (arith, same, rec)

pub no_births : (ls : List HeldLink) → births (map link_of ls) ≡ []
no_births [] = refl
no_births (l ∷ ls) = no_births ls

few_births : (os : List Rows) (ls : List HeldLink) → EachSorted os → length (births (rows_of (os, ls))) ≤ length os
few_births [] ls each = let e = ap length (no_births ls) in omega (arith, e)
few_births (x ∷ xs) ls each =
    let rec = few_births xs ls each.1 in
    let one = one_birth x.0 x.1 (rows_of (xs, ls)) each.0 in
    let same : length (births (rows_of (x ∷ xs, ls))) ≡ length (births (map (held_of x.0) x.1 ++ rows_of (xs, ls))) = ap (λ (hs : List Held). length (births hs)) (append_assoc (rows_of_object x) (flat_map rows_of_object xs) (map link_of ls)) in
    omega (arith, rec, one, same)

abbrev is_link : Held → Bool
is_link h = is_link_row h.update.key

own_none : (o : Oid) (hs : List HeldRow) (rest : List Held) → filter is_link (map (held_of o) hs ++ rest) ≡ filter is_link rest
own_none o [] rest = refl
own_none o (h ∷ hs) rest = own_none o hs rest

all_links : (ls : List HeldLink) → length (filter is_link (map link_of ls)) ≡ length ls
all_links [] = refl
all_links (l ∷ ls) = ap suc (all_links ls)

pub links_are : (os : List Rows) (ls : List HeldLink) → links_in (rows_of (os, ls)) ≡ length ls
links_are [] ls = all_links ls
links_are (x ∷ xs) ls =
    ap (λ (hs : List Held). length (filter is_link hs)) (append_assoc (rows_of_object x) (flat_map rows_of_object xs) (map link_of ls) ∙ refl)
    ∙ ap length (own_none x.0 x.1 (rows_of (xs, ls))) ∙ links_are xs ls

ordered : (last : Option (List ℕ)) (ks : List Marked) → InTurn (λ (k : Marked). k.0) IsMarked last ks → Each (λ (k : Marked). IsOrdered k.1.mark) ks
ordered last [] h k m = absurd m
ordered last (x ∷ xs) h k (inl e) =
    subst (λ (y : Marked). IsOrdered y.1.mark) (sym e)
    (record { prop = leb-true x.1.mark.prop x.1.mark.obj (and_left (leb x.1.mark.prop x.1.mark.obj) (leb x.1.mark.obj x.1.mark.seen) h.0.1.1.1); obj = leb-true x.1.mark.obj x.1.mark.seen (and_right (leb x.1.mark.prop x.1.mark.obj) (leb x.1.mark.obj x.1.mark.seen) h.0.1.1.1) })
ordered last (x ∷ xs) h k (inr m) = ordered (Some x.0) xs h.1 k m

pub formed : (p : Parts) → AreParts p → IsFormedStore (store_of p)
formed p q =
    record {
      vector = q.seen.cursors.0;
      times = q.seen.times;
      purged = q.purged.0.0;
      purged_within = q.purged.1;
      marks = ordered None p.marks q.marks.1;
      rising = rising p q;
      locals = locals p q;
      alone = alone p q;
      rows = formed_rows p q;
      limits = record {
        objects = (let a = no_more object_order [] (births (store_of p).rows) in let b = few_births p.objects p.links (each_sorted_parts p q) in let c = leb-true (length p.objects) object_limit q.objects.0.1 in omega (arith, a, b, c));
        links = (let a = links_are p.objects p.links in let b = leb-true (length p.links) link_limit q.links.0.1 in omega (arith, a, b));
        marks = leb-true (length p.marks) mark_limit q.marks.0.1;
      };
    }
