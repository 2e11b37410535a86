-- Parts that are in range make a store whose units have last local USNs of their own.
use Rattle.std.proofs.Common.{◌≡◌, ℕ, Bool, true, false, cond, eqb, List, [], ◌∷◌, ◌++◌, map, max, fold, None, refl, sym, ap, subst, ◌∙◌, inl, inr, ⊎_elim, append_assoc, arith, rules}
use Rattle.std.specs.Prelude.{not, ◌&&◌, ◌||◌, ◌⊎◌, unwrap_or}
use Rattle.std.specs.List.{flat_map, AllByRecursion, list_all}
use Rattle.std.specs.List.Sorted.{IsStrictlySortedBy}
use Rattle.std.specs.Ordering.{is_eq, ordering_reverse}
use Rattle.std.specs.declared.cmp.Ordering.TheVariants.{Less}
use Rattle.std.specs.declared.cmp.Ordering.{Ordering}
use Rattle.std.proofs.lemmas.List.Sums.{fold-append}
use Rattle.std.proofs.lemmas.Cmp.{tied_itself}
use Rattle.adr_values.specs.declared.stamp.Oid.{Oid}
use Rattle.adr_values.specs.declared.stamp.LinkKey.{LinkKey}
use Rattle.adr_values.specs.declared.stamp.Unit.{Unit as Named}
use Rattle.adr_values.specs.declared.stamp.Unit.TheVariants.{Object, Link}
use Rattle.adr_values.specs.Order.{object_order, link_order}
use Rattle.adr_values.specs.contracts.stamp.OidOrd.TheImpl.Laws.{total-law as objects_total}
use Rattle.adr_values.specs.contracts.stamp.LinkKeyOrd.TheImpl.Laws.{total-law as links_total}
use Rattle.adr_values.specs.Table.{Table, has, must_of}
use Rattle.adr_values.specs.Numbered.{numbered}
use Rattle.adr_model.specs.Member.{Member, Each}
use Rattle.adr_model.specs.Update.{unit_of, same_unit, same_object}
use Rattle.adr_model.specs.Store.{Held}
use Rattle.adr_model.specs.Serve.{last_local}
use Rattle.adr_model.specs.Formed.{AreAlone}
use Rattle.adr_model.proofs.Members.{member_of_either, mapped_member, flat_member}
use Rattle.adr_wire.specs.Gathering.{Along}
use Rattle.adr_image.specs.Image.{HeldRow, Rows, HeldLink, has_attr, told_by, last_of, Earlier, no_objects, with_rows, Linked, with_link}
use Rattle.adr_image.specs.Whole.{Parts, dead_of, no_links}
use Rattle.adr_image.specs.Ranged.{IsObjectIn, IsLinkIn, AreParts}
use Rattle.adr_image.specs.Stored.{held_of, link_of, rows_of_object, rows_of, store_of}
use Rattle.adr_image.proofs.Names.{object_itself}
use Rattle.adr_image.proofs.Storing.{chain, objects_in_turn, links_in_turn}

-- ---- the last local USN of a unit

abbrev step : Named → ℕ → Held → ℕ
step unit n h = cond (same_unit (unit_of h.update.key) unit) (max n h.local) n

abbrev Others : Named → List Held → Type 0
Others unit hs = AllByRecursion (λ h. same_unit (unit_of h.update.key) unit ≡ false) hs

others_fold : (unit : Named) (n : ℕ) (hs : List Held) → Others unit hs → fold (step unit) n hs ≡ n
others_fold unit n [] all = refl
others_fold unit n (h ∷ hs) all = ap (λ (b : Bool). fold (step unit) (cond b (max n h.local) n) hs) all.0 ∙ others_fold unit n hs all.1

own_fold : (o : Oid) (n : ℕ) (hs : List HeldRow) → fold (step (Object o)) n (map (held_of o) hs) ≡ fold (λ m (h : HeldRow). max m h.0) n hs
own_fold o n [] = refl
own_fold o n (h ∷ hs) = ap (λ (b : Bool). fold (step (Object o)) (cond b (max n h.0) n) (map (held_of o) hs)) (object_itself o) ∙ own_fold o (max n h.0) hs

others_joined : (unit : Named) (xs ys : List Held) → Others unit xs → Others unit ys → Others unit (xs ++ ys)
others_joined unit [] ys a b = b
others_joined unit (x ∷ xs) ys a b = (a.0, others_joined unit xs ys a.1 b)

-- ---- what differs from all behind it

abbrev pub AllApart : {E K : Type 0} → (E → K) → (K → K → Type 0) → List E → Type 0
AllApart key Apart [] = Unit {0}
AllApart {E} key Apart (x ∷ xs) = AllByRecursion (λ (y : E). Apart (key x) (key y)) xs × AllApart key Apart xs

-- keys that rise are apart
all_apart : {E K : Type 0} (key : E → K) (order : K → K → Ordering) (Apart : K → K → Type 0) → ((a b : K) → order a b ≡ Less → Apart a b) → (es : List E) → IsStrictlySortedBy order (map key es) → AllApart key Apart es
unfolding IsStrictlySortedBy
all_apart key order Apart apart [] s = tt
all_apart {E} key order Apart apart (x ∷ xs) s = (heads xs s.0, all_apart key order Apart apart xs s.1)
  where
    heads : (ys : List E) → AllByRecursion (λ k. order (key x) k ≡ Less) (map key ys) → AllByRecursion (λ (y : E). Apart (key x) (key y)) ys
    heads [] all = tt
    heads (y ∷ ys) all = (apart (key x) (key y) all.0, heads ys all.1)

-- objects that differ both ways
abbrev pub Differ : Oid → Oid → Type 0
Differ a b = (same_object a b ≡ false) × (same_object b a ≡ false)

abbrev pub AllDiffer : List Rows → Type 0
AllDiffer = AllApart (λ (o : Rows). o.0) Differ

differ_less : (a b : Oid) → object_order a b ≡ Less → Differ a b
differ_less a b less = (ap is_eq less, ap is_eq (objects_total.antisymm b a ∙ ap ordering_reverse less))

pub all_differ : (os : List Rows) → IsStrictlySortedBy object_order (map (λ (o : Rows). o.0) os) → AllDiffer os
all_differ = all_apart (λ (o : Rows). o.0) object_order Differ differ_less

row_others : (p o : Oid) (hs : List HeldRow) → same_object p o ≡ false → Others (Object o) (map (held_of p) hs)
row_others p o [] h = tt
row_others p o (x ∷ xs) h = (h, row_others p o xs h)

objects_others : (o : Oid) (xs : List Rows) → AllByRecursion (λ (y : Rows). Differ o y.0) xs → Others (Object o) (flat_map rows_of_object xs)
objects_others o [] all = tt
objects_others o (x ∷ xs) all = others_joined (Object o) (rows_of_object x) (flat_map rows_of_object xs) (row_others x.0 o x.1 all.0.1) (objects_others o xs all.1)

links_others : (o : Oid) (ls : List HeldLink) → Others (Object o) (map link_of ls)
links_others o [] = tt
links_others o (l ∷ ls) = (refl, links_others o ls)

pub in_all : {A : Type 0} (P : A → Type 0) (xs : List A) → AllByRecursion P xs → Each P xs
in_all P [] all x m = absurd m
in_all P (y ∷ ys) all x (inl e) = subst P (sym e) all.0
in_all P (y ∷ ys) all x (inr m) = in_all P ys all.1 x m

pub last_of_object : (os : List Rows) (ls : List HeldLink) → AllDiffer os → Each (λ (o : Rows). last_local (rows_of (os, ls)) (Object o.0) ≡ last_of o.1) os
last_of_object [] ls d o m = absurd m
last_of_object (x ∷ xs) ls d o (inl e) =
    subst (λ (p : Rows). last_local (rows_of (x ∷ xs, ls)) (Object p.0) ≡ last_of p.1) (sym e)
    (ap (λ (hs : List Held). fold (step (Object x.0)) 0 hs) (append_assoc (rows_of_object x) (flat_map rows_of_object xs) (map link_of ls))
    ∙ fold-append (step (Object x.0)) 0 (rows_of_object x) (rows_of (xs, ls))
    ∙ ap (λ (n : ℕ). fold (step (Object x.0)) n (rows_of (xs, ls))) (own_fold x.0 0 x.1)
    ∙ others_fold (Object x.0) (last_of x.1) (rows_of (xs, ls)) (others_joined (Object x.0) (flat_map rows_of_object xs) (map link_of ls) (objects_others x.0 xs d.0) (links_others x.0 ls)))
last_of_object (x ∷ xs) ls d o (inr m) =
    ap (λ (hs : List Held). fold (step (Object o.0)) 0 hs) (append_assoc (rows_of_object x) (flat_map rows_of_object xs) (map link_of ls))
    ∙ fold-append (step (Object o.0)) 0 (rows_of_object x) (rows_of (xs, ls))
    ∙ ap (λ (n : ℕ). fold (step (Object o.0)) n (rows_of (xs, ls))) (others_fold (Object o.0) 0 (rows_of_object x) (row_others x.0 o.0 x.1 (in_all (λ (y : Rows). Differ x.0 y.0) xs d.0 o m).0))
    ∙ last_of_object xs ls d.1 o m

-- ---- no number twice

or_left : (a b : Bool) → a ≡ true → (a || b) ≡ true
or_left true b e = refl
or_left false b e = absurd (cc)

or_right : (a b : Bool) → b ≡ true → (a || b) ≡ true
or_right true b e = refl
or_right false b e = e

fourth : (a b c d : Bool) → (a && b && c && not d) ≡ true → d ≡ false
fourth true true true true e = absurd (cc)
fourth true true true false e = refl
fourth true true false d e = absurd (cc)
fourth true false c d e = absurd (cc)
fourth false b c d e = absurd (cc)

same_number : (n : ℕ) → eqb n n ≡ true
same_number n = search rules

module _ (usn : ℕ) (table : Table) where
  free : (e : Earlier) (o : Rows) → IsObjectIn usn table e o → has e.used (last_of o.1) ≡ false
  free e o q = fourth (has_attr 1 o.1) (has_attr 2 o.1) (cond (has_attr 3 o.1) true (list_all (λ attr. has_attr attr o.1) (must_of table (unwrap_or (told_by o.1).class 0)))) (has e.used (last_of o.1)) q.1

  not_used : (e : Earlier) (os : List Rows) → Along with_rows (IsObjectIn usn table) e os → (n : ℕ) → has e.used n ≡ true → Each (λ (o : Rows). last_of o.1 ≡ n → ⊥) os
  not_used e [] along n u o m same = absurd m
  not_used e (x ∷ xs) along n u o (inl p) same =
      let f = free e x along.0 in
      let at : has e.used (last_of x.1) ≡ true = ap (λ (y : Rows). has e.used (last_of y.1)) (sym p) ∙ ap (has e.used) same ∙ u in
      let clash : true ≡ false = sym at ∙ f in absurd (cc)
  not_used e (x ∷ xs) along n u o (inr m) same = not_used (with_rows e x) xs along.1 n (or_right (eqb (last_of x.1) n) (has e.used n) u) o m same

  one_number : (e : Earlier) (os : List Rows) → Along with_rows (IsObjectIn usn table) e os → Each (λ (o : Rows). Each (λ (p : Rows). last_of o.1 ≡ last_of p.1 → o ≡ p) os) os
  one_number e [] along o m p n same = absurd m
  one_number e (x ∷ xs) along o (inl a) p (inl b) same = a ∙ sym b
  one_number e (x ∷ xs) along o (inl a) p (inr n) same =
      absurd (not_used (with_rows e x) xs along.1 (last_of x.1) (or_left (eqb (last_of x.1) (last_of x.1)) (has e.used (last_of x.1)) (same_number (last_of x.1))) p n (sym same ∙ ap (λ (y : Rows). last_of y.1) a))
  one_number e (x ∷ xs) along o (inr m) p (inl b) same =
      absurd (not_used (with_rows e x) xs along.1 (last_of x.1) (or_left (eqb (last_of x.1) (last_of x.1)) (has e.used (last_of x.1)) (same_number (last_of x.1))) o m (same ∙ ap (λ (y : Rows). last_of y.1) b))
  one_number e (x ∷ xs) along o (inr m) p (inr n) same = one_number (with_rows e x) xs along.1 o m p n same

  -- what was used stays used, and each object's number is
  still_used : (e : Earlier) (os : List Rows) (n : ℕ) → has e.used n ≡ true → has (fold with_rows e os).used n ≡ true
  still_used e [] n u = u
  still_used e (x ∷ xs) n u = still_used (with_rows e x) xs n (or_right (eqb (last_of x.1) n) (has e.used n) u)

  all_used : (e : Earlier) (os : List Rows) → Each (λ (o : Rows). has (fold with_rows e os).used (last_of o.1) ≡ true) os
  all_used e [] o m = absurd m
  all_used e (x ∷ xs) o (inl a) =
      subst (λ (y : Rows). has (fold with_rows (with_rows e x) xs).used (last_of y.1) ≡ true) (sym a)
      (still_used (with_rows e x) xs (last_of x.1) (or_left (eqb (last_of x.1) (last_of x.1)) (has e.used (last_of x.1)) (same_number (last_of x.1))))
  all_used e (x ∷ xs) o (inr m) = all_used (with_rows e x) xs o m

  not_false : (b : Bool) → not b ≡ true → b ≡ false
  not_false true e = absurd (cc)
  not_false false e = refl

  module _ (dead : List Oid) where
    link_free : (k : Linked) (ls : List HeldLink) → Along with_link (IsLinkIn usn table dead) k ls → (n : ℕ) → has k.used n ≡ true → Each (λ (l : HeldLink). l.0 ≡ n → ⊥) ls
    link_free k [] along n u l m same = absurd m
    link_free k (x ∷ xs) along n u l (inl a) same =
        let f = not_false (has k.used x.0) along.0.0.0.1 in
        let at : has k.used x.0 ≡ true = ap (λ (y : HeldLink). has k.used y.0) (sym a) ∙ ap (has k.used) same ∙ u in
        let clash : true ≡ false = sym at ∙ f in absurd (cc)
    link_free k (x ∷ xs) along n u l (inr m) same = link_free (with_link k x) xs along.1 n (or_right (eqb x.0 n) (has k.used n) u) l m same

    one_link : (k : Linked) (ls : List HeldLink) → Along with_link (IsLinkIn usn table dead) k ls → Each (λ (l : HeldLink). Each (λ (m : HeldLink). l.0 ≡ m.0 → l ≡ m) ls) ls
    one_link k [] along l m p n same = absurd m
    one_link k (x ∷ xs) along l (inl a) p (inl b) same = a ∙ sym b
    one_link k (x ∷ xs) along l (inl a) p (inr n) same =
        absurd (link_free (with_link k x) xs along.1 x.0 (or_left (eqb x.0 x.0) (has k.used x.0) (same_number x.0)) p n (sym same ∙ ap (λ (y : HeldLink). y.0) a))
    one_link k (x ∷ xs) along l (inr m) p (inl b) same =
        absurd (link_free (with_link k x) xs along.1 x.0 (or_left (eqb x.0 x.0) (has k.used x.0) (same_number x.0)) l m (same ∙ ap (λ (y : HeldLink). y.0) b))
    one_link k (x ∷ xs) along l (inr m) p (inr n) same = one_link (with_link k x) xs along.1 l m p n same

-- ---- the last local USN of a link

abbrev pub DifferLinks : LinkKey → LinkKey → Type 0
DifferLinks a b = (is_eq (link_order a b) ≡ false) × (is_eq (link_order b a) ≡ false)

abbrev pub AllDifferLinks : List HeldLink → Type 0
AllDifferLinks = AllApart (λ (l : HeldLink). l.1.0) DifferLinks

pub all_links_differ : (ls : List HeldLink) → IsStrictlySortedBy link_order (map (λ (l : HeldLink). l.1.0) ls) → AllDifferLinks ls
all_links_differ = all_apart (λ (l : HeldLink). l.1.0) link_order DifferLinks (λ a b less. (ap is_eq less, ap is_eq (links_total.antisymm b a ∙ ap ordering_reverse less)))

object_rows_others : (k : LinkKey) (o : Oid) (hs : List HeldRow) → Others (Link k) (map (held_of o) hs)
object_rows_others k o [] = tt
object_rows_others k o (h ∷ hs) = (refl, object_rows_others k o hs)

all_rows_others : (k : LinkKey) (os : List Rows) → Others (Link k) (flat_map rows_of_object os)
all_rows_others k [] = tt
all_rows_others k (o ∷ os) = others_joined (Link k) (rows_of_object o) (flat_map rows_of_object os) (object_rows_others k o.0 o.1) (all_rows_others k os)

other_links : (k : LinkKey) (ls : List HeldLink) → AllByRecursion (λ (y : HeldLink). DifferLinks k y.1.0) ls → Others (Link k) (map link_of ls)
other_links k [] all = tt
other_links k (l ∷ ls) all = (all.0.1, other_links k ls all.1)

at_zero : (n : ℕ) → max 0 n ≡ n
at_zero n = omega arith

last_among : (ls : List HeldLink) → AllDifferLinks ls → Each (λ (l : HeldLink). fold (step (Link l.1.0)) 0 (map link_of ls) ≡ l.0) ls
last_among [] d l m = absurd m
last_among (x ∷ xs) d l (inl e) =
    subst (λ (y : HeldLink). fold (step (Link y.1.0)) 0 (map link_of (x ∷ xs)) ≡ y.0) (sym e)
    (ap (λ (b : Bool). fold (step (Link x.1.0)) (cond b (max 0 x.0) 0) (map link_of xs)) (ap is_eq (tied_itself links_total x.1.0))
    ∙ others_fold (Link x.1.0) (max 0 x.0) (map link_of xs) (other_links x.1.0 xs d.0) ∙ at_zero x.0)
last_among (x ∷ xs) d l (inr m) =
    ap (λ (b : Bool). fold (step (Link l.1.0)) (cond b (max 0 x.0) 0) (map link_of xs)) (in_all (λ (y : HeldLink). DifferLinks x.1.0 y.1.0) xs d.0 l m).0
    ∙ last_among xs d.1 l m

pub last_of_link : (os : List Rows) (ls : List HeldLink) → AllDifferLinks ls → Each (λ (l : HeldLink). last_local (rows_of (os, ls)) (Link l.1.0) ≡ l.0) ls
last_of_link os ls d l m =
    fold-append (step (Link l.1.0)) 0 (flat_map rows_of_object os) (map link_of ls)
    ∙ ap (λ (n : ℕ). fold (step (Link l.1.0)) n (map link_of ls)) (others_fold (Link l.1.0) 0 (flat_map rows_of_object os) (all_rows_others l.1.0 os))
    ∙ last_among ls d l m

-- ---- all units

abbrev IsUnitOf : List Rows → List HeldLink → Named → Type 0
IsUnitOf os ls u = ((o : Rows) × Member o os × (u ≡ Object o.0)) ⊎ ((l : HeldLink) × Member l ls × (u ≡ Link l.1.0))

units : (os : List Rows) (ls : List HeldLink) → Each (λ h. IsUnitOf os ls (unit_of h.update.key)) (rows_of (os, ls))
units os ls h m = ⊎_elim (λ a. inl (of_object a)) (λ b. inr (of_link b)) (member_of_either (flat_map rows_of_object os) (map link_of ls) h m)
  where
    of_object : Member h (flat_map rows_of_object os) → (o : Rows) × Member o os × (unit_of h.update.key ≡ Object o.0)
    of_object a =
        let o = flat_member rows_of_object os h a in
        let r = mapped_member (held_of o.0.0) o.0.1 h o.2 in
        (o.0, o.1, ap (λ (x : Held). unit_of x.update.key) r.2)

    of_link : Member h (map link_of ls) → (l : HeldLink) × Member l ls × (unit_of h.update.key ≡ Link l.1.0)
    of_link b = let l = mapped_member link_of ls h b in (l.0, l.1, ap (λ (x : Held). unit_of x.update.key) l.2)

module _ (p : Parts) (q : AreParts p) where
  abbrev rows : List Held
  rows = rows_of (p.objects, p.links)

  abbrev of_unit : Named → ℕ
  of_unit u = last_local rows u

  objects_last : Each (λ (o : Rows). of_unit (Object o.0) ≡ last_of o.1) p.objects
  objects_last = last_of_object p.objects p.links (all_differ p.objects (chain object_order objects_total (λ (o : Rows). o.0) None p.objects (objects_in_turn p.usn (numbered p.schema) no_objects p.objects q.objects.1)).0)

  links_last : Each (λ (l : HeldLink). of_unit (Link l.1.0) ≡ l.0) p.links
  links_last = last_of_link p.objects p.links (all_links_differ p.links (chain link_order links_total (λ (l : HeldLink). l.1.0) None p.links (links_in_turn p.usn (numbered p.schema) (dead_of p.objects) (no_links p.objects) p.links q.links.1)).0)

  apart_units : (u v : Named) → IsUnitOf p.objects p.links u → IsUnitOf p.objects p.links v → of_unit u ≡ of_unit v → u ≡ v
  apart_units u v (inl a) (inl b) same =
      let e : last_of a.0.1 ≡ last_of b.0.1 = sym (ap of_unit a.2 ∙ objects_last a.0 a.1) ∙ same ∙ (ap of_unit b.2 ∙ objects_last b.0 b.1) in
      a.2 ∙ ap (λ (o : Rows). Object o.0) (one_number p.usn (numbered p.schema) no_objects p.objects q.objects.1 a.0 a.1 b.0 b.1 e) ∙ sym b.2
  apart_units u v (inl a) (inr b) same =
      let e : last_of a.0.1 ≡ b.0.0 = sym (ap of_unit a.2 ∙ objects_last a.0 a.1) ∙ same ∙ (ap of_unit b.2 ∙ links_last b.0 b.1) in
      absurd (link_free p.usn (numbered p.schema) (dead_of p.objects) (no_links p.objects) p.links q.links.1 (last_of a.0.1) (all_used p.usn (numbered p.schema) no_objects p.objects a.0 a.1) b.0 b.1 (sym e))
  apart_units u v (inr a) (inl b) same =
      let e : a.0.0 ≡ last_of b.0.1 = sym (ap of_unit a.2 ∙ links_last a.0 a.1) ∙ same ∙ (ap of_unit b.2 ∙ objects_last b.0 b.1) in
      absurd (link_free p.usn (numbered p.schema) (dead_of p.objects) (no_links p.objects) p.links q.links.1 (last_of b.0.1) (all_used p.usn (numbered p.schema) no_objects p.objects b.0 b.1) a.0 a.1 e)
  apart_units u v (inr a) (inr b) same =
      let e : a.0.0 ≡ b.0.0 = sym (ap of_unit a.2 ∙ links_last a.0 a.1) ∙ same ∙ (ap of_unit b.2 ∙ links_last b.0 b.1) in
      a.2 ∙ ap (λ (l : HeldLink). Link l.1.0) (one_link p.usn (numbered p.schema) (dead_of p.objects) (no_links p.objects) p.links q.links.1 a.0 a.1 b.0 b.1 e) ∙ sym b.2

  pub alone : AreAlone (store_of p).rows
  alone h m g n same = apart_units (unit_of h.update.key) (unit_of g.update.key) (units p.objects p.links h m) (units p.objects p.links g n) same
