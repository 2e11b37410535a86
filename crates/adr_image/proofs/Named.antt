-- Parts that are in range make a store whose objects are named, and whose dead objects are bare.
use Rattle.std.proofs.Common.{◌≡◌, ℕ, ◌<◌, Bool, true, false, cond, eqb, leb, ltb, IsSome, List, [], ◌∷◌, map, fold, Option, Some, None, refl, sym, ap, subst, ◌∙◌, inl, inr, ⊎_elim, arith}
use Rattle.std.specs.Prelude.{not, ◌&&◌, ◌||◌, is_none, is_some, unwrap_or}
use Rattle.std.specs.List.{flat_map, list_any, list_all, find, AllByRecursion}
use Rattle.std.specs.List.Sorted.{IsStrictlySortedBy}
use Rattle.std.specs.Ordering.{nat_cmp}
use Rattle.std.specs.declared.cmp.Ordering.TheVariants.{Less}
use Rattle.std.proofs.lemmas.Bool.{eqb-true, lt-ltb, ltb-true}
use Rattle.std.proofs.lemmas.Cmp.{nat_cmp_total, tied_itself}
use Rattle.adr_values.specs.declared.stamp.Oid.{Oid}
use Rattle.adr_values.specs.declared.stamp.Stamp.{Stamp}
use Rattle.adr_values.specs.Order.{object_order}
use Rattle.adr_values.specs.contracts.stamp.OidOrd.TheImpl.Laws.{total-law as objects_total}
use Rattle.adr_values.specs.declared.content.Content.{Content}
use Rattle.adr_values.specs.declared.content.Content.TheVariants.{Class, Name, Dead, Values}
use Rattle.adr_values.specs.Table.{Table, Class as SchemaClass, has, must_of, class_at}
use Rattle.adr_values.specs.Schemas.{schema_1, schema_2}
use Rattle.std.specs.Option.{option_map_or}
use Rattle.adr_values.specs.declared.content.Value.{Value as Datum}
use Rattle.adr_values.specs.Allowed.{IsAllowed, MayBeHeld}
use Rattle.adr_values.proofs.ExactRows.{may_be_held}
use Rattle.adr_values.specs.Names.{name_fault}
use Rattle.adr_values.specs.Numbered.{numbered}
use Rattle.adr_values.specs.Rules.{row_refusal}
use Rattle.adr_wire.specs.Ranges.{IsContent}
use Rattle.adr_model.specs.Member.{Member, Each}
use Rattle.adr_model.specs.Update.{Key, RowOf, Update, Said, Holds, IsPresent, same_object}
use Rattle.adr_model.specs.Store.{Held, updates_of}
use Rattle.adr_model.specs.Reflects.{HoldsObject, IsTombstoned}
use Rattle.adr_model.specs.Formed.{HasRow, IsNamed, IsDeadFormed, KeepsSchema, IsObjectFormed, AreFormedRows}
use Rattle.adr_model.specs.Take.{carries_birth}
use Rattle.adr_model.proofs.Members.{member_left, member_mapped, member_flat, one_passes}
use Rattle.adr_image.specs.declared.rows.Before.{Before}
use Rattle.adr_wire.specs.Gathering.{Along}
use Rattle.adr_image.specs.Image.{HeldRow, Rows, no_rows, with_held, has_attr, told_by, is_allowed, no_objects}
use Rattle.adr_image.specs.Whole.{Parts}
use Rattle.adr_image.specs.Ranged.{IsHeldRow, AreParts}
use Rattle.adr_image.specs.Stored.{held_of, link_of, rows_of_object, store_of}
use Rattle.adr_image.proofs.Names.{object_itself}
use Rattle.adr_image.proofs.Storing.{chain, rows_in_turn, objects_in_turn}
use Rattle.adr_image.proofs.Alone.{AllDiffer, Differ, all_differ, in_all}
use Rattle.adr_image.proofs.Births.{FromObject, FromLink, source, key_name, key_attr, of_object, of_row, none, births, links}

some_passes : {A : Type 0} (test : A → Bool) (xs : List A) → list_any test xs ≡ true → (x : A) × Member x xs × (test x ≡ true)
some_passes {A} test [] e = absurd (cc)
some_passes {A} test (x ∷ xs) e = by (test x) refl (λ h. some_passes test xs h)
  where
    by : (b : Bool) → test x ≡ b → (list_any test xs ≡ true → (y : A) × Member y xs × (test y ≡ true)) → (y : A) × Member y (x ∷ xs) × (test y ≡ true)
    by true t later = (x, inl refl, t)
    by false t later = let r = later (ap (λ (b : Bool). b || list_any test xs) (sym t) ∙ e) in (r.0, inr r.1, r.2)

class_is : (c : Content) → IsContent 1 c → (n : ℕ) × (c ≡ Class n)
class_is (Class n) q = (n, refl)
class_is (Name t p) q = absurd (let f = q.0 in cc)
class_is Dead q = absurd (cc)
class_is (Values vs) q = absurd (let f = q.0 in cc)

dead_is : (c : Content) → IsContent 3 c → c ≡ Dead
dead_is (Class n) q = absurd (let f = q.0 in cc)
dead_is (Name t p) q = absurd (let f = q.0 in cc)
dead_is Dead q = refl
dead_is (Values vs) q = absurd (let f = q.2 in cc)

none_is : {A : Type 0} (o : Option A) → is_none o ≡ true → o ≡ None
none_is None e = refl
none_is (Some x) e = absurd (cc)

name_is : (table : Table) (o : Oid) (b : Before) (s : Stamp) (c : Content) → IsContent 2 c → is_allowed table o b (2, s, c) ≡ true → (t : List ℕ) × (parent : List ℕ) × (c ≡ Name t parent) × (name_fault t ≡ None)
name_is table o b s (Class n) q e = absurd (let f = q.0 in cc)
name_is table o b s (Name t p) q e = (t, p, refl, none_is (name_fault t) e)
name_is table o b s Dead q e = absurd (cc)
name_is table o b s (Values vs) q e = absurd (let f = q.1 in cc)

first_of_four : (a b c d : Bool) → (a && b && c && d) ≡ true → (a ≡ true) × (b ≡ true)
first_of_four true true c d e = (refl, refl)
first_of_four true false c d e = absurd (cc)
first_of_four false b c d e = absurd (cc)

less_number : (a b : ℕ) → a < b → nat_cmp a b ≡ Less
less_number a b lt = rw (lt-ltb a b lt) refl

pub and_left : (a b : Bool) → (a && b) ≡ true → a ≡ true
and_left true b e = refl
and_left false b e = absurd (cc)

pub and_right : (a b : Bool) → (a && b) ≡ true → b ≡ true
and_right true b e = e
and_right false b e = absurd (cc)

-- ---- objects are told apart by their names

pub one_object : (os : List Rows) → AllDiffer os → Each (λ (x : Rows). Each (λ (y : Rows). x.0 ≡ y.0 → x ≡ y) os) os
one_object [] d x m y n e = absurd m
one_object (z ∷ zs) d x (inl a) y (inl b) e = a ∙ sym b
one_object (z ∷ zs) d x (inl a) y (inr n) e =
    let f = (in_all (λ (w : Rows). Differ z.0 w.0) zs d.0 y n).0 in
    let t : same_object z.0 y.0 ≡ true = ap (λ (o : Oid). same_object z.0 o) (sym e ∙ ap (λ (w : Rows). w.0) a) ∙ object_itself z.0 in
    absurd (let c : true ≡ false = sym t ∙ f in cc)
one_object (z ∷ zs) d x (inr m) y (inl b) e =
    let f = (in_all (λ (w : Rows). Differ z.0 w.0) zs d.0 x m).0 in
    let t : same_object z.0 x.0 ≡ true = ap (λ (o : Oid). same_object z.0 o) (e ∙ ap (λ (w : Rows). w.0) b) ∙ object_itself z.0 in
    absurd (let c : true ≡ false = sym t ∙ f in cc)
one_object (z ∷ zs) d x (inr m) y (inr n) e = one_object zs d.1 x m y n e

-- ---- behind a deleted row there are no values

values_clash : (table : Table) (o : Oid) (b : Before) (a : ℕ) (s : Stamp) (c : Content) → b.dead ≡ true → is_allowed table o b (a, s, c) ≡ true → (vs : _) → c ≡ Values vs → ⊥
values_clash table o b a s (Class n) d e vs k = cc
values_clash table o b a s (Name t p) d e vs k = cc
values_clash table o b a s Dead d e vs k = cc
values_clash table o b a s (Values ws) d e vs k = let n = (three_true (not b.dead) (leb 1 a) (is_none (row_refusal table b.class a ws)) e) in let m = ap not d in let c : false ≡ true = sym m ∙ n in cc
  where
    three_true : (x y z : Bool) → (x && y && z) ≡ true → x ≡ true
    three_true true y z h = refl
    three_true false y z h = absurd (cc)

dead_stays : (b : Before) (l a : ℕ) (s : Stamp) (c : Content) → b.dead ≡ true → (with_held b (l, (a, s, c))).dead ≡ true
dead_stays b l a s (Class n) d = d
dead_stays b l a s (Name t p) d = d
dead_stays b l a s Dead d = refl
dead_stays b l a s (Values vs) d = d

dies : (b : Before) (l a : ℕ) (s : Stamp) (c : Content) → c ≡ Dead → (with_held b (l, (a, s, c))).dead ≡ true
dies b l a s c e = ap (λ (d : Content). (with_held b (l, (a, s, d))).dead) e

module _ (usn : ℕ) (table : Table) (o : Oid) where
  abbrev NoValues : HeldRow → Type 0
  NoValues h = (vs : _) → h.1.2 ≡ Values vs → ⊥

  none_behind : (b : Before) (hs : List HeldRow) → Along with_held (IsHeldRow usn table o) b hs → b.dead ≡ true → Each NoValues hs
  none_behind b [] along d h m = absurd m
  none_behind b (x ∷ xs) along d h (inl e) = subst NoValues (sym e) (values_clash table o b x.1.0 x.1.1 x.1.2 d along.0.1)
  none_behind b (x ∷ xs) along d h (inr m) = none_behind (with_held b x) xs along.1 (dead_stays b x.0 x.1.0 x.1.1 x.1.2 d) h m

  below : (a : ℕ) (hs : List HeldRow) → AllByRecursion (λ c. nat_cmp a c ≡ Less) (map (λ (h : HeldRow). h.1.0) hs) → Each (λ (h : HeldRow). nat_cmp a h.1.0 ≡ Less) hs
  below a [] all h m = absurd m
  below a (x ∷ xs) all h (inl e) = ap (λ (y : HeldRow). nat_cmp a y.1.0) e ∙ all.0
  below a (x ∷ xs) all h (inr m) = below a xs all.1 h m

  bare_behind : (b : Before) (hs : List HeldRow) → Along with_held (IsHeldRow usn table o) b hs → IsStrictlySortedBy nat_cmp (map (λ (h : HeldRow). h.1.0) hs)
      → Each (λ (d : HeldRow). d.1.0 ≡ 3 → Each (λ (h : HeldRow). nat_cmp 3 h.1.0 ≡ Less → NoValues h) hs) hs
  unfolding IsStrictlySortedBy
  bare_behind b [] along s d m three h n less = absurd m
  bare_behind b (x ∷ xs) along s d (inl e) three h (inl f) less =
      absurd (let k : nat_cmp 3 3 ≡ Less = ap (λ (a : ℕ). nat_cmp 3 a) (sym three ∙ ap (λ (y : HeldRow). y.1.0) (e ∙ sym f)) ∙ less in let t = tied_itself nat_cmp_total 3 in cc)
  bare_behind b (x ∷ xs) along s d (inl e) three h (inr n) less =
      let at : x.1.0 ≡ 3 = ap (λ (y : HeldRow). y.1.0) (sym e) ∙ three in
      none_behind (with_held b x) xs along.1 (dies b x.0 x.1.0 x.1.1 x.1.2 (dead_is x.1.2 (subst (λ (a : ℕ). IsContent a x.1.2) at along.0.0.1.0.1.1))) h n
  bare_behind b (x ∷ xs) along s d (inr m) three h (inl f) less =
      absurd (let one = below x.1.0 xs s.0 d m in
      let two : nat_cmp x.1.0 3 ≡ Less = ap (λ (a : ℕ). nat_cmp x.1.0 a) (sym three) ∙ one in
      let back : nat_cmp 3 x.1.0 ≡ Less = ap (λ (y : HeldRow). nat_cmp 3 y.1.0) (sym f) ∙ less in
      let loop = nat_cmp_total.trans 3 x.1.0 3 back two in let t = tied_itself nat_cmp_total 3 in cc)
  bare_behind b (x ∷ xs) along s d (inr m) three h (inr n) less = bare_behind (with_held b x) xs along.1 s.1 d m three h n less

-- ---- what a class must have is no reserved attribute

all_pass : {A : Type 0} (test : A → Bool) (xs : List A) → list_all test xs ≡ true → Each (λ x. test x ≡ true) xs
all_pass test [] e x m = absurd m
all_pass test (y ∷ ys) e x (inl a) = ap test a ∙ and_left (test y) (list_all test ys) e
all_pass test (y ∷ ys) e x (inr m) = all_pass test ys (and_right (test y) (list_all test ys) e) x m

abbrev are_plain : SchemaClass → Bool
are_plain c = list_all (ltb 3) c.must

one_found : (cs : List SchemaClass) (class attr : ℕ) → list_all are_plain cs ≡ true → has (option_map_or (λ c. c.must) (find (λ (c : SchemaClass). eqb c.number class) cs) []) attr ≡ true → 3 < attr
one_found [] class attr all h = absurd (cc)
one_found (c ∷ cs) class attr all h = by (eqb c.number class) h (λ g. one_found cs class attr (and_right (are_plain c) (list_all are_plain cs) all) g)
  where
    plain : has c.must attr ≡ true → 3 < attr
    plain g =
        let m = some_passes (λ (n : ℕ). eqb n attr) c.must g in
        ltb-true 3 attr (ap (ltb 3) (sym (eqb-true m.0 attr m.2)) ∙ all_pass (ltb 3) c.must (and_left (are_plain c) (list_all are_plain cs) all) m.0 m.1)

    by : (b : Bool) → has (option_map_or (λ (c : SchemaClass). c.must) (cond b (Some c) (find (λ (c : SchemaClass). eqb c.number class) cs)) []) attr ≡ true
        → (has (option_map_or (λ (c : SchemaClass). c.must) (find (λ (c : SchemaClass). eqb c.number class) cs) []) attr ≡ true → 3 < attr) → 3 < attr
    by true g later = plain g
    by false g later = later g

plain_musts : (number class attr : ℕ) → has (must_of (numbered number) class) attr ≡ true → 3 < attr
unfolding schema_1 schema_2
plain_musts number class attr h = by (leb number 1) h
  where
    by : (b : Bool) → has (must_of (cond b schema_1 schema_2) class) attr ≡ true → 3 < attr
    by true g = one_found schema_1.classes class attr refl g
    by false g = one_found schema_2.classes class attr refl g

-- ---- behind a class row the class is known

pub class_stays : (n : ℕ) (b : Before) (l a : ℕ) (s : Stamp) (c : Content) → IsContent a c → nat_cmp 1 a ≡ Less → b.class ≡ Some n → (with_held b (l, (a, s, c))).class ≡ Some n
class_stays n b l a s (Class m) k less e = absurd (let one = ap (λ (i : ℕ). nat_cmp 1 i) (eqb-true a 1 k.0) in let t = tied_itself nat_cmp_total 1 in cc)
class_stays n b l a s (Name t w) k less e = e
class_stays n b l a s Dead k less e = e
class_stays n b l a s (Values vs) k less e = e

module _ (usn : ℕ) (table : Table) (o : Oid) (n : ℕ) where
  abbrev Known : HeldRow → Type 0
  Known h = (k : Before) × IsHeldRow usn table o k h × (k.class ≡ Some n)

  record Classed (b : Before) (hs : List HeldRow) : Type 0 where
    each : Each (λ (h : HeldRow). nat_cmp 1 h.1.0 ≡ Less → Known h) hs
    told : (fold with_held b hs).class ≡ Some n

  behind_class : (b : Before) (hs : List HeldRow) → Along with_held (IsHeldRow usn table o) b hs → AllByRecursion (λ c. nat_cmp 1 c ≡ Less) (map (λ (h : HeldRow). h.1.0) hs) → b.class ≡ Some n → Classed b hs
  behind_class b [] along all e = record { each = λ h m less. absurd m; told = e }
  behind_class b (x ∷ xs) along all e =
      let rest = behind_class (with_held b x) xs along.1 all.1 (class_stays n b x.0 x.1.0 x.1.1 x.1.2 along.0.0.1.0.1.1 all.0 e) in
      record { each = λ h m less. ⊎_elim (λ f. subst Known (sym f) (b, along.0, e)) (λ i. rest.each h i less) m; told = rest.told }

  with_class : (b : Before) (hs : List HeldRow) → Along with_held (IsHeldRow usn table o) b hs → IsStrictlySortedBy nat_cmp (map (λ (h : HeldRow). h.1.0) hs)
      → (c : HeldRow) → Member c hs → c.1.0 ≡ 1 → c.1.2 ≡ Class n → Classed b hs
  unfolding IsStrictlySortedBy
  with_class b [] along s c m one is = absurd m
  with_class b (x ∷ xs) along s c (inl e) one is =
      let at : x.1.0 ≡ 1 = ap (λ (y : HeldRow). y.1.0) (sym e) ∙ one in
      let says : x.1.2 ≡ Class n = ap (λ (y : HeldRow). y.1.2) (sym e) ∙ is in
      let class : (with_held b x).class ≡ Some n = ap (λ (d : Content). (with_held b (x.0, (x.1.0, x.1.1, d))).class) says in
      let rest = behind_class (with_held b x) xs along.1 (subst (λ (i : ℕ). AllByRecursion (λ c. nat_cmp i c ≡ Less) (map (λ (h : HeldRow). h.1.0) xs)) at s.0) class in
      record { each = λ h m less. ⊎_elim (λ f. absurd (let k : nat_cmp 1 1 ≡ Less = ap (λ (i : ℕ). nat_cmp 1 i) (sym at ∙ ap (λ (y : HeldRow). y.1.0) (sym f)) ∙ less in let t = tied_itself nat_cmp_total 1 in cc)) (λ i. rest.each h i less) m; told = rest.told }
  with_class b (x ∷ xs) along s c (inr m) one is =
      let rest = with_class (with_held b x) xs along.1 s.1 c m one is in
      let low : nat_cmp x.1.0 1 ≡ Less = ap (λ (i : ℕ). nat_cmp x.1.0 i) (sym one) ∙ below usn table o x.1.0 xs s.0 c m in
      record { each = λ h k less. ⊎_elim (λ f. absurd (let back : nat_cmp 1 x.1.0 ≡ Less = ap (λ (y : HeldRow). nat_cmp 1 y.1.0) (sym f) ∙ less in let loop = nat_cmp_total.trans 1 x.1.0 1 back low in let t = tied_itself nat_cmp_total 1 in cc)) (λ i. rest.each h i less) k; told = rest.told }

third : (a b c : Bool) → (a && b && c) ≡ true → c ≡ true
third true true c e = e
third true false c e = absurd (cc)
third false b c e = absurd (cc)

allowed_values : (table : Table) (o : Oid) (b : Before) (n a : ℕ) (s : Stamp) (c : Content) (vs : _) → c ≡ Values vs → b.class ≡ Some n → is_allowed table o b (a, s, c) ≡ true → MayBeHeld table n a vs
allowed_values table o b n a s c vs k e h =
    let t = third (not b.dead) (leb 1 a) (is_none (row_refusal table b.class a vs)) (ap (λ (d : Content). is_allowed table o b (a, s, d)) (sym k) ∙ h) in
    may_be_held table n a vs (none_is (row_refusal table (Some n) a vs) (ap (λ (w : Option ℕ). is_none (row_refusal table w a vs)) (sym e) ∙ t))

module _ (p : Parts) (q : AreParts p) where
  abbrev table : Table
  table = numbered p.schema

  abbrev us : List Update
  us = updates_of (store_of p).rows

  row_is_there : (x : Rows) → Member x p.objects → (h : HeldRow) → Member h x.1 → Member (held_of x.0 h).update us
  row_is_there x m h n =
      member_mapped (λ (y : Held). y.update) (store_of p).rows (held_of x.0 h)
      (member_left (flat_map rows_of_object p.objects) (map link_of p.links) (held_of x.0 h) (member_flat rows_of_object p.objects x (held_of x.0 h) m (member_mapped (held_of x.0) x.1 h n)))

  named_object : (x : Rows) → Member x p.objects → IsNamed us x.0
  named_object x m =
      let e = of_object p q x m in
      let two = first_of_four (has_attr 1 x.1) (has_attr 2 x.1) (cond (has_attr 3 x.1) true (list_all (λ attr. has_attr attr x.1) (must_of table (unwrap_or (told_by x.1).class 0)))) (not (has e.0.used _)) e.1.1 in
      let c = some_passes (λ (h : HeldRow). eqb h.1.0 1) x.1 two.0 in
      let n = some_passes (λ (h : HeldRow). eqb h.1.0 2) x.1 two.1 in
      let one : c.0.1.0 ≡ 1 = eqb-true c.0.1.0 1 c.2 in
      let other : n.0.1.0 ≡ 2 = eqb-true n.0.1.0 2 n.2 in
      let cr = of_row p q x m c.0 c.1 in
      let nr = of_row p q x m n.0 n.1 in
      let class = class_is c.0.1.2 (subst (λ (a : ℕ). IsContent a c.0.1.2) one cr.1.0.1.0.1.1) in
      let name = name_is table x.0 nr.0 n.0.1.1 n.0.1.2 (subst (λ (a : ℕ). IsContent a n.0.1.2) other nr.1.0.1.0.1.1) (subst (λ (a : ℕ). is_allowed table x.0 nr.0 (a, n.0.1.1, n.0.1.2) ≡ true) other nr.1.1) in
      record {
        class = class.0;
        of_class = ((held_of x.0 c.0).update, row_is_there x m c.0 c.1, ap (RowOf x.0) one, ap Holds class.1);
        text = name.0;
        parent = name.1;
        of_name = ((held_of x.0 n.0).update, row_is_there x m n.0 n.1, ap (RowOf x.0) other, ap Holds name.2);
        well_named = name.3;
      }

  pub named : (o : Oid) → HoldsObject us o → IsNamed us o
  unfolding FromObject FromLink
  named o holds = ⊎_elim (λ a.
      let name : a.0.0 ≡ o = ap (λ (j : Key). key_name j o) (sym (ap (λ (u : Update). u.key) a.4) ∙ holds.3) in
      subst (λ (n : Oid). IsNamed us n) name (named_object a.0 a.1))
      (λ b. absurd (let k = sym (ap (λ (u : Update). u.key) b.2) ∙ holds.3 in cc)) (source p.objects p.links holds.0 holds.2)

  values_are : (a : ℕ) (c : Content) → IsContent a c → 3 < a → (vs : _) × (c ≡ Values vs)
  values_are a (Class n) k lt = absurd (let e = eqb-true a 1 k.0 in omega arith)
  values_are a (Name t w) k lt = absurd (let e = eqb-true a 2 k.0 in omega arith)
  values_are a Dead k lt = absurd (let e = eqb-true a 3 k in omega arith)
  values_are a (Values vs) k lt = (vs, refl)

  sorted_rows : (x : Rows) → Member x p.objects → IsStrictlySortedBy nat_cmp (map (λ (h : HeldRow). h.1.0) x.1)
  sorted_rows x m = (chain nat_cmp nat_cmp_total (λ (h : HeldRow). h.1.0) None x.1 (rows_in_turn p.usn table x.0 no_rows x.1 (of_object p q x m).1.0.1.1)).0

  told_apart : Each (λ (x : Rows). Each (λ (y : Rows). x.0 ≡ y.0 → x ≡ y) p.objects) p.objects
  told_apart = one_object p.objects (all_differ p.objects (chain object_order objects_total (λ (o : Rows). o.0) None p.objects (objects_in_turn p.usn table no_objects p.objects q.objects.1)).0)

  pub dead_object : (x : Rows) → Member x p.objects → has_attr 3 x.1 ≡ true → IsDeadFormed us x.0
  unfolding FromObject FromLink
  dead_object x m dead =
      let d = some_passes (λ (h : HeldRow). eqb h.1.0 3) x.1 dead in
      let three : d.0.1.0 ≡ 3 = eqb-true d.0.1.0 3 d.2 in
      let dr = of_row p q x m d.0 d.1 in
      record {
        dead = ((held_of x.0 d.0).update, row_is_there x m d.0 d.1, ap (RowOf x.0) three, ap Holds (dead_is d.0.1.2 (subst (λ (a : ℕ). IsContent a d.0.1.2) three dr.1.0.1.0.1.1)));
        bare = λ attr lt r n key. ⊎_elim (λ a.
            let k = sym (ap (λ (u : Update). u.key) a.4) ∙ key in
            let same : a.0 ≡ x = told_apart a.0 a.1 x m (ap (λ (j : Key). key_name j x.0) k) in
            let number : a.2.1.0 ≡ attr = ap key_attr k in
            let hr = of_row p q a.0 a.1 a.2 a.3 in
            let vs = values_are a.2.1.0 a.2.1.2 hr.1.0.1.0.1.1 (subst (λ (i : ℕ). 3 < i) (sym number) lt) in
            bare_behind p.usn table x.0 no_rows x.1 (of_object p q x m).1.0.1.1 (sorted_rows x m) d.0 d.1 three a.2 (subst (λ (y : Rows). Member a.2 y.1) same a.3)
            (less_number 3 a.2.1.0 (subst (λ (i : ℕ). 3 < i) (sym number) lt)) vs.0 vs.1)
            (λ b. absurd (let k = sym (ap (λ (u : Update). u.key) b.2) ∙ key in cc)) (source p.objects p.links r n);
      }

  -- the values of an object whose class row says this class
  pub allowed : (x : Rows) → Member x p.objects → (c : HeldRow) → Member c x.1 → c.1.0 ≡ 1 → (n : ℕ) → c.1.2 ≡ Class n
      → (attr : ℕ) → 3 < attr → Each (λ r. r.key ≡ RowOf x.0 attr → (vs : List Datum) × (r.said ≡ Holds (Values vs)) × IsAllowed table n attr vs) us
  unfolding FromObject FromLink
  allowed x m c i one n is attr lt r j key = ⊎_elim (λ a.
      let k = sym (ap (λ (u : Update). u.key) a.4) ∙ key in
      let same : a.0 ≡ x = told_apart a.0 a.1 x m (ap (λ (j : Key). key_name j x.0) k) in
      let number : a.2.1.0 ≡ attr = ap key_attr k in
      let more : 3 < a.2.1.0 = subst (λ (i : ℕ). 3 < i) (sym number) lt in
      let known = (with_class p.usn table x.0 n no_rows x.1 (of_object p q x m).1.0.1.1 (sorted_rows x m) c i one is).each a.2 (subst (λ (y : Rows). Member a.2 y.1) same a.3) (less_number 1 a.2.1.0 (omega (arith, more))) in
      let vs = values_are a.2.1.0 a.2.1.2 known.1.0.1.0.1.1 more in
      let held = allowed_values table x.0 known.0 n a.2.1.0 a.2.1.1 a.2.1.2 vs.0 vs.1 known.2 known.1.1 in
      (vs.0, ap (λ (u : Update). u.said) a.4 ∙ ap Holds vs.1, subst (λ (i : ℕ). IsAllowed table n i vs.0) number held.allowed))
      (λ b. absurd (let k = sym (ap (λ (u : Update). u.key) b.2) ∙ key in cc)) (source p.objects p.links r j)

  abbrev pub content_of : Said → Content
  content_of (Holds c) = c
  content_of (IsPresent b) = Dead

  pub known_class : (o : Oid) (b : Before) (a : ℕ) (s : Stamp) (c : Content) (n : ℕ) → c ≡ Class n → is_allowed table o b (a, s, c) ≡ true → IsSome (class_at table n)
  known_class o b a s c n k h = and_left (is_some (class_at table n)) (carries_birth o s) (ap (λ (d : Content). is_allowed table o b (a, s, d)) (sym k) ∙ h)

  what_must : (a b c d : Bool) → (a && b && c && d) ≡ true → c ≡ true
  what_must true true true d e = refl
  what_must true true false d e = absurd (cc)
  what_must true false c d e = absurd (cc)
  what_must false b c d e = absurd (cc)

  has_must : (x : Rows) → Member x p.objects → has_attr 3 x.1 ≡ false → list_all (λ attr. has_attr attr x.1) (must_of table (unwrap_or (told_by x.1).class 0)) ≡ true
  has_must x m live =
      let e = of_object p q x m in
      let c = what_must (has_attr 1 x.1) (has_attr 2 x.1) (cond (has_attr 3 x.1) true (list_all (λ attr. has_attr attr x.1) (must_of table (unwrap_or (told_by x.1).class 0)))) (not (has e.0.used _)) e.1.1 in
      ap (λ (b : Bool). cond b true (list_all (λ attr. has_attr attr x.1) (must_of table (unwrap_or (told_by x.1).class 0)))) (sym live) ∙ c

  filled : (t : Table) (n a : ℕ) (vs : List Datum) → has (must_of t n) a ≡ true → MayBeHeld t n a vs → (v : Datum) × (ws : List Datum) × (vs ≡ v ∷ ws)
  filled t n a [] must held = absurd (held.filled must refl)
  filled t n a (v ∷ ws) must held = (v, ws, refl)

  keeps : (x : Rows) → Member x p.objects → has_attr 3 x.1 ≡ false → (c : HeldRow) → Member c x.1 → c.1.0 ≡ 1 → (n : ℕ) → c.1.2 ≡ Class n → KeepsSchema table us x.0 n
  keeps x m live c i one n is =
      let cr = of_row p q x m c i in
      let classed = with_class p.usn table x.0 n no_rows x.1 (of_object p q x m).1.0.1.1 (sorted_rows x m) c i one is in
      record {
        known = known_class x.0 cr.0 c.1.0 c.1.1 c.1.2 n is cr.1.1;
        allowed = allowed x m c i one n is;
        whole = λ attr must.
            let asked : has (must_of table (unwrap_or (told_by x.1).class 0)) attr ≡ true = ap (λ (w : Option ℕ). has (must_of table (unwrap_or w 0)) attr) classed.told ∙ must in
            let among = some_passes (λ (k : ℕ). eqb k attr) (must_of table (unwrap_or (told_by x.1).class 0)) asked in
            let there : has_attr attr x.1 ≡ true = ap (λ (k : ℕ). has_attr k x.1) (sym (eqb-true among.0 attr among.2)) ∙ all_pass (λ attr. has_attr attr x.1) (must_of table (unwrap_or (told_by x.1).class 0)) (has_must x m live) among.0 among.1 in
            let h = some_passes (λ (y : HeldRow). eqb y.1.0 attr) x.1 there in
            let number : h.0.1.0 ≡ attr = eqb-true h.0.1.0 attr h.2 in
            let more : 3 < h.0.1.0 = subst (λ (k : ℕ). 3 < k) (sym number) (plain_musts p.schema n attr must) in
            let known = classed.each h.0 h.1 (less_number 1 h.0.1.0 (omega (arith, more))) in
            let vs = values_are h.0.1.0 h.0.1.2 known.1.0.1.0.1.1 more in
            let held = allowed_values table x.0 known.0 n h.0.1.0 h.0.1.1 h.0.1.2 vs.0 vs.1 known.2 known.1.1 in
            let some = filled table n h.0.1.0 vs.0 (ap (has (must_of table n)) number ∙ must) held in
            ((held_of x.0 h.0).update, row_is_there x m h.0 h.1, ap (RowOf x.0) number, (some.0, some.1, ap Holds (vs.1 ∙ ap Values some.2)));
      }

  live_object : (x : Rows) → Member x p.objects → has_attr 3 x.1 ≡ false → (IsTombstoned us x.0 → ⊥) × ((class : ℕ) → HasRow us x.0 1 (λ said. said ≡ Holds (Class class)) → KeepsSchema table us x.0 class)
  unfolding FromObject FromLink
  live_object x m live = (no_death, with_row)
    where
      no_death : IsTombstoned us x.0 → ⊥
      no_death t = ⊎_elim (λ a.
          let k = sym (ap (λ (u : Update). u.key) a.4) ∙ t.2 in
          let same : a.0 ≡ x = told_apart a.0 a.1 x m (ap (λ (j : Key). key_name j x.0) k) in
          let three : a.2.1.0 ≡ 3 = ap key_attr k in
          let dead : has_attr 3 x.1 ≡ true = one_passes (λ (h : HeldRow). eqb h.1.0 3) x.1 a.2 (subst (λ (y : Rows). Member a.2 y.1) same a.3) (ap (λ (n : ℕ). eqb n 3) three) in
          let clash : true ≡ false = sym dead ∙ live in cc)
          (λ b. absurd (let k = sym (ap (λ (u : Update). u.key) b.2) ∙ t.2 in cc)) (source p.objects p.links t.0 t.1)

      with_row : (class : ℕ) → HasRow us x.0 1 (λ said. said ≡ Holds (Class class)) → KeepsSchema table us x.0 class
      with_row class r = ⊎_elim (λ a.
          let k = sym (ap (λ (u : Update). u.key) a.4) ∙ r.2 in
          let same : a.0 ≡ x = told_apart a.0 a.1 x m (ap (λ (j : Key). key_name j x.0) k) in
          let one : a.2.1.0 ≡ 1 = ap key_attr k in
          let is : a.2.1.2 ≡ Class class = ap content_of (sym (ap (λ (u : Update). u.said) a.4) ∙ r.3) in
          keeps x m live a.2 (subst (λ (y : Rows). Member a.2 y.1) same a.3) one class is)
          (λ b. absurd (let k = sym (ap (λ (u : Update). u.key) b.2) ∙ r.2 in cc)) (source p.objects p.links r.0 r.1)

  formed_object : (x : Rows) → Member x p.objects → IsObjectFormed table us x.0
  formed_object x m = by (has_attr 3 x.1) refl
    where
      by : (b : Bool) → has_attr 3 x.1 ≡ b → IsObjectFormed table us x.0
      by true e = inl (dead_object x m e)
      by false e = inr (live_object x m e)

  pub formed_rows : AreFormedRows table us
  unfolding FromObject FromLink
  formed_rows =
      record {
        none = none p q;
        named = named;
        births = births p q;
        objects = λ o holds. ⊎_elim (λ a.
            let name : a.0.0 ≡ o = ap (λ (j : Key). key_name j o) (sym (ap (λ (u : Update). u.key) a.4) ∙ holds.3) in
            subst (λ (n : Oid). IsObjectFormed table us n) name (formed_object a.0 a.1))
            (λ b. absurd (let k = sym (ap (λ (u : Update). u.key) b.2) ∙ holds.3 in cc)) (source p.objects p.links holds.0 holds.2);
        links = links p q;
      }
