-- Which rows stand after one was put, and what a row is about.
use Rattle.std.proofs.Common.{◌≡◌, ◌⊎◌, inl, inr, ⊎_elim, List, [], ◌∷◌, Bool, true, false, Option, Some, None, refl, sym, ap, ◌∙◌, subst, arith, ◌==◌, ◌||◌, if◌then◌else◌, not, ℕ, ◌<◌, fold}
use Rattle.std.specs.Prelude.{nat_lt}
use Rattle.std.specs.Ordering.{match_ordering, nat_cmp, ordering_then}
use Rattle.std.specs.declared.cmp.Ordering.{Ordering}
use Rattle.std.specs.declared.cmp.Ordering.TheVariants.{Less, Equal, Greater}
use Rattle.std.proofs.lemmas.Bool.{eqb-true, not-true}
use Rattle.std.proofs.lemmas.Bool.Decides.{nat_tests}
use Rattle.std.proofs.lemmas.Cmp.{ranked}
use Rattle.adr_values.specs.Order.{object_order}
use Rattle.adr_values.specs.declared.stamp.Oid.{Oid}
use Rattle.adr_values.specs.declared.stamp.LinkKey.{LinkKey}
use Rattle.adr_values.specs.declared.stamp.Unit.TheVariants.{Object, Link}
use Rattle.adr_model.specs.Member.{Member}
use Rattle.adr_model.specs.Update.{Key, RowOf, LinkOf, Update, key_order, same_object, deleted_attr, unit_of, ends}
use Rattle.adr_model.specs.Reflects.{IsDeathOf}
use Rattle.adr_model.specs.Store.{Held, with_row, updates_of, is_row_of}
use Rattle.adr_model.specs.Change.{goes_with, killed_by, stripped, put}
use Rattle.adr_model.specs.Take.{is_reserved_row}
use Rattle.adr_model.proofs.Keys.{exact_keys, equal_order, objects_tell}
use Rattle.adr_model.proofs.Members.{in_filter, of_filter, member_mapped, mapped_member}
use Rattle.adr_law_knowledge.proofs.Comparing.{objects_same}
use Rattle.adr_law_knowledge.proofs.RisingHeld.{of_with_row}

-- ---- rows as updates

pub updated : (rows : List Held) (h : Held) → Member h rows → Member h.update (updates_of rows)
updated = member_mapped (λ (h : Held). h.update)

pub held_as : (rows : List Held) (u : Update) → Member u (updates_of rows) → (h : Held) × Member h rows × (u ≡ h.update)
held_as = mapped_member (λ (h : Held). h.update)

-- ---- whose row it is

pub row_is_of : (o : Oid) (k : Key) → is_row_of o k ≡ true → (attr : ℕ) × (k ≡ RowOf o attr)
row_is_of o (RowOf p attr) row = (attr, ap (λ q. RowOf q attr) (objects_tell p o row))
row_is_of o (LinkOf l) row = absurd (cc)

-- that of its unit
pub row_by_unit : (o : Oid) (k l : Key) → unit_of k ≡ unit_of l → is_row_of o k ≡ is_row_of o l
row_by_unit o (RowOf p a) (RowOf q b) e = let same : p ≡ q = cc in ap (λ z. same_object z o) same
row_by_unit o (RowOf p a) (LinkOf l) e = absurd (cc)
row_by_unit o (LinkOf l) (RowOf q b) e = absurd (cc)
row_by_unit o (LinkOf l) (LinkOf k) e = refl

-- a key of an object's unit is of one of its rows
pub row_of_unit : (k : Key) (o : Oid) → unit_of k ≡ Object o → (attr : ℕ) × (k ≡ RowOf o attr)
row_of_unit (RowOf p a) o e = let same : p ≡ o = cc in (a, ap (λ q. RowOf q a) same)
row_of_unit (LinkOf l) o e = absurd (cc)

pub link_of_unit : (k : Key) (l : LinkKey) → unit_of k ≡ Link l → k ≡ LinkOf l
link_of_unit (RowOf p a) l e = absurd (cc)
link_of_unit (LinkOf k) l e = cc

-- an object's rows are of its unit
pub object_of_row : (k : Key) (o p : Oid) (attr : ℕ) → unit_of k ≡ Object o → k ≡ RowOf p attr → p ≡ o
object_of_row k o p attr e is = let same : Object p ≡ Object o = ap unit_of (sym is) ∙ e in cc

pub no_link_row : (k : Key) (o : Oid) (l : LinkKey) → unit_of k ≡ Object o → k ≡ LinkOf l → ⊥
no_link_row k o l e is = let same : Link l ≡ Object o = ap unit_of (sym is) ∙ e in cc

pub no_object_row : (k : Key) (l : LinkKey) (o : Oid) (attr : ℕ) → unit_of k ≡ Link l → k ≡ RowOf o attr → ⊥
no_object_row k l o attr e is = let same : Object o ≡ Link l = ap unit_of (sym is) ∙ e in cc

pub same_link : (k : Key) (l j : LinkKey) → unit_of k ≡ Link l → k ≡ LinkOf j → j ≡ l
same_link k l j e is = let same : Link j ≡ Link l = ap unit_of (sym is) ∙ e in cc

-- what goes with an object is about it
pub about : (o : Oid) (k : Key) → goes_with o k ≡ true → Member o (ends k)
about o (RowOf p a) g = by (same_object p o) refl g
  where
    by : (b : Bool) → same_object p o ≡ b → (if b then nat_lt deleted_attr a else false) ≡ true → Member o (p ∷ [])
    by true is h = inl (sym (objects_tell p o is))
    by false is h = cc
about o (LinkOf l) g = by (same_object l.from o) (same_object l.to o) refl refl g
  where
    by : (b c : Bool) → same_object l.from o ≡ b → same_object l.to o ≡ c → (b || c) ≡ true → Member o (l.from ∷ l.to ∷ [])
    by true c is other h = inl (sym (objects_tell l.from o is))
    by false true is other h = inr (inl (sym (objects_tell l.to o other)))
    by false false is other h = cc

-- ---- a row more

written_itself : (rows : List Held) (h : Held) → Member h (with_row rows h)
written_itself [] h = inl refl
written_itself (x ∷ xs) h = by (key_order h.update.key x.update.key) (written_itself xs h)
  where
    by : (o : Ordering) → Member h (with_row xs h) → Member h (match_ordering o (h ∷ x ∷ xs) (h ∷ xs) (x ∷ with_row xs h))
    by Less rest = inl refl
    by Equal rest = inl refl
    by Greater rest = inr rest

-- a row that stood still stands, unless the row is of its key
written_keeps : (rows : List Held) (h x : Held) → Member x rows → (h.update.key ≡ x.update.key) ⊎ Member x (with_row rows h)
written_keeps [] h x m = absurd m
written_keeps (y ∷ ys) h x m = by (key_order h.update.key y.update.key) refl m (written_keeps ys h x)
  where
    by : (o : Ordering) → key_order h.update.key y.update.key ≡ o → Member x (y ∷ ys) → (Member x ys → (h.update.key ≡ x.update.key) ⊎ Member x (with_row ys h))
        → (h.update.key ≡ x.update.key) ⊎ Member x (match_ordering o (h ∷ y ∷ ys) (h ∷ ys) (y ∷ with_row ys h))
    by Less is n rest = inr (inr n)
    by Equal is (inl e) rest = inl (exact_keys h.update.key y.update.key is ∙ sym (ap (λ (z : Held). z.update.key) e))
    by Equal is (inr n) rest = inr (inr n)
    by Greater is (inl e) rest = inr (inl e)
    by Greater is (inr n) rest = ⊎_elim (λ e. inl e) (λ i. inr (inr i)) (rest n)

-- ---- what a death takes

-- no reserved row goes with an object
pub reserved_stays : (o : Oid) (k : Key) → is_reserved_row k ≡ true → goes_with o k ≡ false
reserved_stays o (LinkOf l) r = cc
reserved_stays o (RowOf p a) r = by (same_object p o)
  where
    by : (b : Bool) → (if b then nat_lt deleted_attr a else false) ≡ false
    by true = grind (arith, nat_tests)
    by false = refl

pub death_stays : (o p : Oid) (k : Key) → k ≡ RowOf p deleted_attr → goes_with o k ≡ false
death_stays o p k is = reserved_stays o k (ap is_reserved_row is)

-- nor one that is in order before its death
pub below_death : (o : Oid) (attr : ℕ) → key_order (RowOf o attr) (RowOf o deleted_attr) ≡ Less → goes_with o (RowOf o attr) ≡ false
below_death o attr less = by (same_object o o)
  where
    before : nat_cmp attr deleted_attr ≡ Less
    before = ap (λ r. ordering_then r (nat_cmp attr deleted_attr)) (sym (equal_order (object_order o o) (objects_same o o refl))) ∙ less

    below : attr < deleted_attr
    below = ranked attr deleted_attr Less (sym before)

    by : (b : Bool) → (if b then nat_lt deleted_attr attr else false) ≡ false
    by true = grind (arith, nat_tests, below)
    by false = refl

pub is_killed : (k : Key) (o : Oid) → killed_by k ≡ Some o → k ≡ RowOf o deleted_attr
is_killed (LinkOf l) o e = cc
is_killed (RowOf p a) o e = by (a == deleted_attr) refl e
  where
    by : (b : Bool) → (a == deleted_attr) ≡ b → (if b then Some p else None) ≡ Some o → RowOf p a ≡ RowOf o deleted_attr
    by true is e = let n : a ≡ deleted_attr = eqb-true a deleted_attr is in cc
    by false is e = cc

stripped_from : (o : Option Oid) (rows : List Held) (x : Held) → Member x (stripped o rows) → Member x rows
stripped_from None rows x m = m
stripped_from (Some o) rows x m = (of_filter (λ h. not (goes_with o h.update.key)) rows x m).0

stripped_keeps : (o : Option Oid) (rows : List Held) (x : Held) → Member x rows → ((p : Oid) × (o ≡ Some p) × (goes_with p x.update.key ≡ true)) ⊎ Member x (stripped o rows)
stripped_keeps None rows x m = inr m
stripped_keeps (Some o) rows x m = by (goes_with o x.update.key) refl
  where
    by : (b : Bool) → goes_with o x.update.key ≡ b → ((p : Oid) × (Some o ≡ Some p) × (goes_with p x.update.key ≡ true)) ⊎ Member x (stripped (Some o) rows)
    by true is = inl (o, refl, is)
    by false is = inr (in_filter (λ h. not (goes_with o h.update.key)) rows x m (ap not is))

stripped_bare : (o : Oid) (rows : List Held) (x : Held) → Member x (stripped (Some o) rows) → goes_with o x.update.key ≡ false
stripped_bare o rows x m = not-true (goes_with o x.update.key) (of_filter (λ h. not (goes_with o h.update.key)) rows x m).1

-- ---- a row that is put

pub put_itself : (rows : List Held) (h : Held) → Member h (put rows h)
put_itself rows h = ⊎_elim
    (λ t. let f : goes_with t.0 h.update.key ≡ false = death_stays t.0 t.0 h.update.key (is_killed h.update.key t.0 t.1) in let g = t.2 in absurd (cc))
    (λ m. m)
    (stripped_keeps (killed_by h.update.key) (with_row rows h) h (written_itself rows h))

pub put_from : (rows : List Held) (h x : Held) → Member x (put rows h) → (x ≡ h) ⊎ Member x rows
put_from rows h x m = of_with_row rows h x (stripped_from (killed_by h.update.key) (with_row rows h) x m)

-- a row that stood was replaced, or stripped by a death, or still stands
pub put_keeps : (rows : List Held) (h x : Held) → Member x rows
    → (h.update.key ≡ x.update.key) ⊎ (((o : Oid) × IsDeathOf o h.update × (goes_with o x.update.key ≡ true)) ⊎ Member x (put rows h))
put_keeps rows h x m = ⊎_elim (λ e. inl e)
    (λ n. inr (⊎_elim (λ t. inl (t.0, is_killed h.update.key t.0 t.1, t.2)) (λ i. inr i) (stripped_keeps (killed_by h.update.key) (with_row rows h) x n)))
    (written_keeps rows h x m)

pub put_bare : (rows : List Held) (h : Held) (o : Oid) → IsDeathOf o h.update → (x : Held) → Member x (put rows h) → goes_with o x.update.key ≡ false
put_bare rows h o is x m = stripped_bare o (with_row rows h) x (subst (λ k. Member x (stripped (killed_by k) (with_row rows h))) is m)

pub puts_from : (hs rows : List Held) (x : Held) → Member x (fold put rows hs) → Member x hs ⊎ Member x rows
puts_from [] rows x m = inr m
puts_from (h ∷ hs) rows x m = ⊎_elim (λ l. inl (inr l)) (λ r. ⊎_elim (λ e. inl (inl e)) (λ i. inr i) (put_from rows h x r)) (puts_from hs (put rows h) x m)
