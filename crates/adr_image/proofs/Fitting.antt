-- A formed and spelled store, taken apart: each object has its rows in range, allowed and whole.
use Rattle.std.proofs.Common.{◌≡◌, ℕ, ◌+◌, ◌<◌, ◌≤◌, ◌^◌, Bool, true, false, cond, eqb, leb, List, [], ◌∷◌, length, map, fold, Option, Some, None, refl, sym, ap, subst, ◌∙◌, inl, inr, ⊎_elim, arith}
use Rattle.std.specs.Prelude.{not, ◌&&◌, is_none, is_some, unwrap_or}
use Rattle.std.specs.List.{flat_map, list_all, AllByRecursion}
use Rattle.std.specs.List.Sorted.{IsStrictlySortedBy}
use Rattle.std.specs.Ordering.{nat_cmp}
use Rattle.std.specs.declared.cmp.Ordering.TheVariants.{Less}
use Rattle.std.proofs.lemmas.Bool.{eqb-true, eqb-false, eq-eqb, le-leb, and_from}
use Rattle.std.proofs.lemmas.Cmp.{nat_cmp_total}
use Rattle.adr_values.specs.declared.stamp.Oid.{Oid}
use Rattle.adr_values.specs.declared.stamp.Stamp.{Stamp}
use Rattle.adr_values.specs.Order.{object_order}
use Rattle.adr_values.specs.contracts.stamp.OidOrd.TheImpl.Laws.{total-law as objects_total}
use Rattle.adr_values.specs.declared.content.Value.{Value as Datum}
use Rattle.adr_values.specs.declared.content.Content.{Content}
use Rattle.adr_values.specs.declared.content.Content.TheVariants.{Class, Name, Dead, Values}
use Rattle.adr_values.specs.Table.{Table, class_at, must_of}
use Rattle.adr_values.specs.Allowed.{IsAllowed, MayBeHeld}
use Rattle.adr_values.specs.Names.{name_fault}
use Rattle.adr_values.specs.Numbered.{numbered}
use Rattle.adr_values.specs.Rules.{row_refusal}
use Rattle.adr_values.proofs.ExactRows.{not_refused_held}
use Rattle.adr_wire.specs.Reading.{is_above}
use Rattle.adr_wire.specs.Ranges.{IsU16, IsOid, IsRow, IsContent, InTurn}
use Rattle.adr_wire.specs.Gathering.{Along}
use Rattle.adr_model.specs.Member.{Member, Each}
use Rattle.adr_model.specs.Update.{Key, RowOf, Update, Said, Holds, IsPresent}
use Rattle.adr_model.specs.Store.{Held, updates_of}
use Rattle.adr_model.specs.Reflects.{HoldsObject, IsTombstoned}
use Rattle.adr_model.specs.Formed.{AreRising, AreAlone, AreFormedRows, HasRow, KeepsSchema, IsDeadFormed}
use Rattle.adr_model.specs.Take.{carries_birth}
use Rattle.adr_model.proofs.Members.{member_left, member_mapped, member_flat, one_passes, all_pass}
use Rattle.adr_law_tree.proofs.Rising.{each_below, one_of_each}
use Rattle.adr_image.specs.declared.rows.Before.{Before}
use Rattle.adr_image.specs.Image.{HeldRow, Rows, HeldLink, no_rows, with_held, has_attr, told_by, is_allowed}
use Rattle.adr_image.specs.Ranged.{IsLocal, IsHeldRow, AreHeldRows}
use Rattle.adr_image.specs.Stored.{AreTidy, held_of, link_of, rows_of_object, rows_of, IsSpelledRow}
use Rattle.adr_image.proofs.Storing.{chain, attr_told}
use Rattle.adr_image.proofs.Formed.{attrs, names}
use Rattle.adr_image.proofs.Alone.{AllDiffer, all_differ, in_all}
use Rattle.adr_image.proofs.Births.{FromObject, FromLink, source, key_name, key_attr}
use Rattle.adr_image.proofs.Named.{one_object, class_stays}
use Rattle.adr_image.proofs.Taking.{unchain, each_rises, names_in_turn, less_is}

-- ---- lists of rows

head_row : (hs : List HeldRow) → IsStrictlySortedBy nat_cmp (attrs hs) → Each (λ (g : HeldRow). g.1.0 ≡ 0 → ⊥) hs → (h : HeldRow) → Member h hs → h.1.0 ≡ 1 → (rest : List HeldRow) × (hs ≡ h ∷ rest)
unfolding IsStrictlySortedBy
head_row [] s none h m one = absurd m
head_row (g ∷ gs) s none h (inl e) one = (gs, ap (λ (y : HeldRow). y ∷ gs) (sym e))
head_row (g ∷ gs) s none h (inr m) one =
    let less = less_is g.1.0 h.1.0 (each_below nat_cmp (λ (y : HeldRow). y.1.0) nat_cmp_total g.1.0 gs s.0 h m) in
    absurd (none g (inl refl) (omega (arith, less, one)))

-- so many numbers rise from one number to below another
few : (low high : ℕ) (hs : List HeldRow) → low ≤ high → IsStrictlySortedBy nat_cmp (attrs hs) → Each (λ (h : HeldRow). low ≤ h.1.0) hs → Each (λ (h : HeldRow). h.1.0 < high) hs → length hs + low ≤ high
unfolding IsStrictlySortedBy
few low high [] fits s from below = omega (arith, fits)
few low high (h ∷ hs) fits s from below =
    let first = below h (inl refl) in
    let least = from h (inl refl) in
    let rest = few (h.1.0 + 1) high hs (omega (arith, first)) s.1
    (λ g m. let less = less_is h.1.0 g.1.0 (each_below nat_cmp (λ (y : HeldRow). y.1.0) nat_cmp_total h.1.0 hs s.0 g m) in omega (arith, less)) (λ g m. below g (inr m)) in
    omega (arith, rest, least)

each_has_rows : (os : List Rows) → AreTidy os → Each (λ (x : Rows). x.1 ≡ [] → ⊥) os
each_has_rows [] tidy x m none = absurd m
each_has_rows (y ∷ ys) tidy x (inl e) none = tidy.0 (ap (λ (z : Rows). z.1) (sym e) ∙ none)
each_has_rows (y ∷ ys) tidy x (inr m) none = each_has_rows ys tidy.2 x m none

some_of : (hs : List HeldRow) → (hs ≡ [] → ⊥) → (h : HeldRow) × Member h hs
some_of [] some = absurd (some refl)
some_of (h ∷ hs) some = (h, inl refl)

-- ---- rows that are allowed wherever they stand

abbrev IsFine : Table → Bool → ℕ → Oid → ℕ → Stamp → Content → Type 0
IsFine table live n o a s (Class k) = (is_some (class_at table k) ≡ true) × (carries_birth o s ≡ true)
IsFine table live n o a s (Name t p) = is_none (name_fault t) ≡ true
IsFine table live n o a s Dead = live ≡ false
IsFine table live n o a s (Values vs) = (live ≡ true) × (leb 1 a ≡ true) × (is_none (row_refusal table (Some n) a vs) ≡ true)

fine_allowed : (table : Table) (live : Bool) (n : ℕ) (o : Oid) (b : Before) (a : ℕ) (s : Stamp) (c : Content) → (live ≡ true → b.dead ≡ false) → b.class ≡ Some n → IsFine table live n o a s c → is_allowed table o b (a, s, c) ≡ true
fine_allowed table live n o b a s (Class k) alive known f = and_from (is_some (class_at table k)) (carries_birth o s) f.0 f.1
fine_allowed table live n o b a s (Name t p) alive known f = f
fine_allowed table live n o b a s Dead alive known f = refl
fine_allowed table live n o b a s (Values vs) alive known f =
    and_from (not b.dead && leb 1 a) (is_none (row_refusal table b.class a vs)) (and_from (not b.dead) (leb 1 a) (ap not (alive f.0)) f.1)
    (ap (λ (w : Option ℕ). is_none (row_refusal table w a vs)) known ∙ f.2)

stays_alive : (table : Table) (live : Bool) (n : ℕ) (o : Oid) (b : Before) (l a : ℕ) (s : Stamp) (c : Content) → IsFine table live n o a s c → (live ≡ true → b.dead ≡ false) → live ≡ true → (with_held b (l, (a, s, c))).dead ≡ false
stays_alive table live n o b l a s (Class k) f alive e = alive e
stays_alive table live n o b l a s (Name t p) f alive e = alive e
stays_alive table live n o b l a s Dead f alive e = absurd (let g = f in cc)
stays_alive table live n o b l a s (Values vs) f alive e = alive e

abbrev NextAttr : Option ℕ → HeldRow → Type 0
NextAttr last h = is_above nat_cmp last h.1.0 ≡ true

module _ (usn : ℕ) (table : Table) (o : Oid) (live : Bool) (n : ℕ) where
  abbrev IsRightRow : HeldRow → Type 0
  IsRightRow h = (IsLocal usn h.0 × IsRow h.1) × IsFine table live n o h.1.0 h.1.1 h.1.2

  abbrev IsRead : Before → List HeldRow → Type 0
  IsRead b hs = Along with_held (IsHeldRow usn table o) b hs × ((fold with_held b hs).class ≡ Some n)

  rows_read : (b : Before) (hs : List HeldRow) → (live ≡ true → b.dead ≡ false) → b.class ≡ Some n → InTurn (λ (h : HeldRow). h.1.0) NextAttr b.attr hs → AllByRecursion (λ c. nat_cmp 1 c ≡ Less) (attrs hs)
      → Each IsRightRow hs → IsRead b hs
  rows_read b [] alive known turn above each = (tt, known)
  rows_read b (h ∷ hs) alive known turn above each =
      let now = each h (inl refl) in
      let rest = rows_read (with_held b h) hs (stays_alive table live n o b h.0 h.1.0 h.1.1 h.1.2 now.1 alive) (class_stays n b h.0 h.1.0 h.1.1 h.1.2 now.0.1.1.1 above.0 known)
      (subst (λ (last : Option ℕ). InTurn (λ (g : HeldRow). g.1.0) NextAttr last hs) (sym (attr_told b h.0 h.1.0 h.1.1 h.1.2)) turn.1) above.1 (λ g i. each g (inr i)) in
      ((((now.0.0, (now.0.1, turn.0)), fine_allowed table live n o b h.1.0 h.1.1 h.1.2 alive known now.1), rest.0), rest.1)

  -- the class row comes first
  object_read : (c : HeldRow) (hs : List HeldRow) → c.1.0 ≡ 1 → c.1.2 ≡ Class n → IsStrictlySortedBy nat_cmp (attrs (c ∷ hs)) → Each IsRightRow (c ∷ hs) → IsRead no_rows (c ∷ hs)
  unfolding IsStrictlySortedBy
  object_read c hs one is s each =
      let now = each c (inl refl) in
      let f = subst (IsFine table live n o c.1.0 c.1.1) is now.1 in
      let allowed : is_allowed table o no_rows c.1 ≡ true = ap (λ (d : Content). is_allowed table o no_rows (c.1.0, c.1.1, d)) is ∙ and_from (is_some (class_at table n)) (carries_birth o c.1.1) f.0 f.1 in
      let known : (with_held no_rows c).class ≡ Some n = ap (λ (d : Content). (with_held no_rows (c.0, (c.1.0, c.1.1, d))).class) is in
      let alive : (with_held no_rows c).dead ≡ false = ap (λ (d : Content). (with_held no_rows (c.0, (c.1.0, c.1.1, d))).dead) is in
      let rest = rows_read (with_held no_rows c) hs (λ e. alive) known
      (subst (λ (last : Option ℕ). InTurn (λ (g : HeldRow). g.1.0) NextAttr last hs) (sym (attr_told no_rows c.0 c.1.0 c.1.1 c.1.2)) (unchain nat_cmp (λ (g : HeldRow). g.1.0) (Some c.1.0) hs s.1 s.0))
      (subst (λ (i : ℕ). AllByRecursion (λ k. nat_cmp i k ≡ Less) (attrs hs)) one s.0) (λ g i. each g (inr i)) in
      ((((now.0.0, (now.0.1, refl)), allowed), rest.0), rest.1)

-- ---- stores that are formed and spelled, taken apart

pub record IsRight (schema usn : ℕ) (os : List Rows) (ls : List HeldLink) : Type 0 where
  pub small : usn < 2 ^ 63
  pub tidy : AreTidy os
  pub rising : AreRising (rows_of (os, ls))
  pub locals : Each (λ (h : Held). (1 ≤ h.local) × (h.local ≤ usn)) (rows_of (os, ls))
  pub alone : AreAlone (rows_of (os, ls))
  pub rows : AreFormedRows (numbered schema) (updates_of (rows_of (os, ls)))
  pub spelled : Each (λ (h : Held). IsSpelledRow h.update.key h.update.said h.update.stamp) (rows_of (os, ls))
  pub classes : Each (λ (h : Held). (class : ℕ) → h.update.said ≡ Holds (Class class) → is_some (class_at (numbered schema) class) ≡ true) (rows_of (os, ls))

abbrev content_of : Said → Content
content_of (Holds c) = c
content_of (IsPresent b) = Dead

abbrev text_of : Content → List ℕ
text_of (Class n) = []
text_of (Name t p) = t
text_of Dead = []
text_of (Values vs) = []

abbrev values_of : Content → List Datum
values_of (Class n) = []
values_of (Name t p) = []
values_of Dead = []
values_of (Values vs) = vs

plain_attr : (a : ℕ) → eqb a 1 ≡ false → eqb a 2 ≡ false → eqb a 3 ≡ false → (a ≡ 0 → ⊥) → 3 < a
plain_attr a one two three none = let p = eqb-false a 1 one in let q = eqb-false a 2 two in let r = eqb-false a 3 three in omega (arith, p, q, r, none)

module _ (schema usn : ℕ) (os : List Rows) (ls : List HeldLink) (r : IsRight schema usn os ls) where
  abbrev table : Table
  table = numbered schema

  abbrev us : List Update
  us = updates_of (rows_of (os, ls))

  pub is_held : (x : Rows) → Member x os → (h : HeldRow) → Member h x.1 → Member (held_of x.0 h) (rows_of (os, ls))
  is_held x m h n = member_left (flat_map rows_of_object os) (map link_of ls) (held_of x.0 h) (member_flat rows_of_object os x (held_of x.0 h) m (member_mapped (held_of x.0) x.1 h n))

  is_update : (x : Rows) → Member x os → (h : HeldRow) → Member h x.1 → Member (held_of x.0 h).update us
  is_update x m h n = member_mapped (λ (y : Held). y.update) (rows_of (os, ls)) (held_of x.0 h) (is_held x m h n)

  pub names_rise : IsStrictlySortedBy object_order (names os)
  names_rise = (chain object_order objects_total (λ (o : Rows). o.0) None os (names_in_turn os ls r.tidy r.rising)).0

  pub differ : AllDiffer os
  differ = all_differ os names_rise

  attrs_rise : (x : Rows) → Member x os → IsStrictlySortedBy nat_cmp (attrs x.1)
  attrs_rise x m = in_all (λ (o : Rows). IsStrictlySortedBy nat_cmp (attrs o.1)) os (each_rises os ls r.rising).0 x m

  -- the row of an attribute of an object
  own_row : (x : Rows) → Member x os → (attr : ℕ) (u : Update) → Member u us → u.key ≡ RowOf x.0 attr → (h : HeldRow) × Member h x.1 × (h.1.0 ≡ attr) × (u ≡ (held_of x.0 h).update)
  unfolding FromObject FromLink
  own_row x m attr u n key = ⊎_elim (λ a.
      let k = sym (ap (λ (v : Update). v.key) a.4) ∙ key in
      let same : a.0 ≡ x = one_object os differ a.0 a.1 x m (ap (λ (j : Key). key_name j x.0) k) in
      (a.2, subst (λ (y : Rows). Member a.2 y.1) same a.3, ap key_attr k, a.4 ∙ ap (λ (y : Rows). (held_of y.0 a.2).update) same))
      (λ b. absurd (let k = sym (ap (λ (v : Update). v.key) b.2) ∙ key in cc)) (source os ls u n)

  pub some_row : (x : Rows) → Member x os → (h : HeldRow) × Member h x.1
  some_row x m = some_of x.1 (each_has_rows os r.tidy x m)

  holds : (x : Rows) → Member x os → HoldsObject us x.0
  holds x m = let h = some_row x m in ((held_of x.0 h.0).update, h.0.1.0, is_update x m h.0 h.1, refl)

  pub name_in_range : (x : Rows) → Member x os → IsOid x.0
  name_in_range x m = let h = some_row x m in (r.spelled (held_of x.0 h.0) (is_held x m h.0 h.1)).0

  row_in_range : (x : Rows) → Member x os → (h : HeldRow) → Member h x.1 → IsLocal usn h.0 × IsRow h.1
  row_in_range x m h n =
      let s = r.spelled (held_of x.0 h) (is_held x m h n) in
      let l = r.locals (held_of x.0 h) (is_held x m h n) in
      let fits = r.small in
      (((l.0, omega (arith, l.1, fits)), le-leb h.0 usn l.1), (s.1, (s.3, s.2)))

  not_zero : (x : Rows) → Member x os → Each (λ (g : HeldRow). g.1.0 ≡ 0 → ⊥) x.1
  not_zero x m g n zero_attr = r.rows.none x.0 (held_of x.0 g).update (is_update x m g n) (ap (RowOf x.0) zero_attr)

  one_row : (x : Rows) → Member x os → (g : HeldRow) → Member g x.1 → (h : HeldRow) → Member h x.1 → g.1.0 ≡ h.1.0 → g ≡ h
  one_row x m g i h j e = one_of_each nat_cmp (λ (y : HeldRow). y.1.0) nat_cmp_total x.1 (attrs_rise x m) g i h j e

  -- the class row
  record HasClass (x : Rows) : Type 0 where
    class : ℕ
    row : HeldRow
    there : Member row x.1
    one : row.1.0 ≡ 1
    is : row.1.2 ≡ Class class
    rest : List HeldRow
    first : x.1 ≡ row ∷ rest

  class_row : (x : Rows) → Member x os → HasClass x
  class_row x m =
      let named = r.rows.named x.0 (holds x m) in
      let w = named.of_class in
      let own = own_row x m 1 w.0 w.1 w.2 in
      let front = head_row x.1 (attrs_rise x m) (not_zero x m) own.0 own.1 own.2 in
      record {
        class = named.class;
        row = own.0;
        there = own.1;
        one = own.2;
        is = ap content_of (sym (ap (λ (u : Update). u.said) own.3) ∙ w.3);
        rest = front.0;
        first = front.1;
      }

  module _ (x : Rows) (m : Member x os) (n : ℕ) where
    named_right : (h : HeldRow) → Member h x.1 → h.1.0 ≡ 2 → (t p : List ℕ) → h.1.2 ≡ Name t p → is_none (name_fault t) ≡ true
    named_right h i two t p e =
        let named = r.rows.named x.0 (holds x m) in
        let w = named.of_name in
        let own = own_row x m 2 w.0 w.1 w.2 in
        let same : own.0 ≡ h = one_row x m own.0 own.1 h i (own.2 ∙ sym two) in
        let says : own.0.1.2 ≡ Name named.text named.parent = ap content_of (sym (ap (λ (u : Update). u.said) own.3) ∙ w.3) in
        let text : t ≡ named.text = ap text_of (sym e ∙ ap (λ (y : HeldRow). y.1.2) (sym same) ∙ says) in
        ap is_none (ap name_fault text ∙ named.well_named)

    fine_dead : IsDeadFormed us x.0 → (h : HeldRow) → Member h x.1 → IsFine table false n x.0 h.1.0 h.1.1 h.1.2
    fine_dead dead h i = by h.1.2 refl (row_in_range x m h i).1.1.1
      where
        by : (c : Content) → h.1.2 ≡ c → IsContent h.1.0 c → IsFine table false n x.0 h.1.0 h.1.1 c
        by (Class k) e q = (r.classes (held_of x.0 h) (is_held x m h i) k (ap Holds e), r.rows.births x.0 (held_of x.0 h).update (is_update x m h i) (ap (RowOf x.0) (eqb-true h.1.0 1 q.0)))
        by (Name t p) e q = named_right h i (eqb-true h.1.0 2 q.0) t p e
        by Dead e q = refl
        by (Values vs) e q = absurd (dead.bare h.1.0 (plain_attr h.1.0 q.0 q.1 q.2 (not_zero x m h i)) (held_of x.0 h).update (is_update x m h i) refl)

    values_held : KeepsSchema table us x.0 n → (h : HeldRow) → Member h x.1 → 3 < h.1.0 → (vs : List Datum) → h.1.2 ≡ Values vs → MayBeHeld table n h.1.0 vs
    values_held keeps h i lt vs e =
        let a = keeps.allowed h.1.0 lt (held_of x.0 h).update (is_update x m h i) refl in
        let same : a.0 ≡ vs = ap (λ (s : Said). values_of (content_of s)) (sym a.1) ∙ ap values_of e in
        record {
          allowed = subst (λ (ws : List Datum). IsAllowed table n h.1.0 ws) same a.2;
          filled = λ must none.
              let w = keeps.whole h.1.0 must in
              let own = own_row x m h.1.0 w.0 w.1 w.2 in
              let one : own.0 ≡ h = one_row x m own.0 own.1 h i own.2 in
              let says : own.0.1.2 ≡ Values (w.3.0 ∷ w.3.1) = ap content_of (sym (ap (λ (u : Update). u.said) own.3) ∙ w.3.2) in
              let some : vs ≡ w.3.0 ∷ w.3.1 = ap values_of (sym e ∙ ap (λ (y : HeldRow). y.1.2) (sym one) ∙ says) in
              let clash : w.3.0 ∷ w.3.1 ≡ [] = sym some ∙ none in cc;
        }

    fine_live : (IsTombstoned us x.0 → ⊥) → KeepsSchema table us x.0 n → (h : HeldRow) → Member h x.1 → IsFine table true n x.0 h.1.0 h.1.1 h.1.2
    fine_live alive keeps h i = by h.1.2 refl (row_in_range x m h i).1.1.1
      where
        by : (c : Content) → h.1.2 ≡ c → IsContent h.1.0 c → IsFine table true n x.0 h.1.0 h.1.1 c
        by (Class k) e q = (r.classes (held_of x.0 h) (is_held x m h i) k (ap Holds e), r.rows.births x.0 (held_of x.0 h).update (is_update x m h i) (ap (RowOf x.0) (eqb-true h.1.0 1 q.0)))
        by (Name t p) e q = named_right h i (eqb-true h.1.0 2 q.0) t p e
        by Dead e q = absurd (alive ((held_of x.0 h).update, is_update x m h i, ap (RowOf x.0) (eqb-true h.1.0 3 q)))
        by (Values vs) e q =
            let lt = plain_attr h.1.0 q.0 q.1 q.2 (not_zero x m h i) in
            (refl, le-leb 1 h.1.0 (omega (arith, lt)), ap is_none (not_refused_held table n h.1.0 vs (values_held keeps h i lt vs e)))

  -- what an image asks of the rows of an object
  pub record IsObjectRight (x : Rows) : Type 0 where
    pub rows : AreHeldRows usn table x.0 x.1
    pub classed : has_attr 1 x.1 ≡ true
    pub named : has_attr 2 x.1 ≡ true
    pub whole : cond (has_attr 3 x.1) true (list_all (λ attr. has_attr attr x.1) (must_of table (unwrap_or (told_by x.1).class 0))) ≡ true

  count_in_range : (x : Rows) → Member x os → IsU16 (length x.1)
  count_in_range x m =
      let long = few 1 (2 ^ 16) x.1 (omega arith) (attrs_rise x m) (λ h i. from_one h.1.0 (not_zero x m h i)) (λ h i. (row_in_range x m h i).1.0) in
      omega (arith, long)
    where
      from_one : (a : ℕ) → (a ≡ 0 → ⊥) → 1 ≤ a
      from_one a none = omega (arith, none)

  there_is : (x : Rows) → Member x os → (attr : ℕ) (u : Update) → Member u us → u.key ≡ RowOf x.0 attr → has_attr attr x.1 ≡ true
  there_is x m attr u n key = let own = own_row x m attr u n key in one_passes (λ (h : HeldRow). eqb h.1.0 attr) x.1 own.0 own.1 (eq-eqb own.0.1.0 attr own.2)

  object_is_read : (x : Rows) (m : Member x os) (c : HasClass x) (live : Bool) → ((h : HeldRow) → Member h x.1 → IsFine table live c.class x.0 h.1.0 h.1.1 h.1.2) → IsRead usn table x.0 live c.class no_rows x.1
  object_is_read x m c live fine =
      subst (IsRead usn table x.0 live c.class no_rows) (sym c.first)
      (object_read usn table x.0 live c.class c.row c.rest c.one c.is (subst (λ (hs : List HeldRow). IsStrictlySortedBy nat_cmp (attrs hs)) c.first (attrs_rise x m))
      (subst (Each (IsRightRow usn table x.0 live c.class)) c.first (λ h i. (row_in_range x m h i, fine h i))))

  named_there : (x : Rows) → Member x os → has_attr 2 x.1 ≡ true
  named_there x m = let w = (r.rows.named x.0 (holds x m)).of_name in there_is x m 2 w.0 w.1 w.2

  has_class : (x : Rows) (m : Member x os) → HasClass x → has_attr 1 x.1 ≡ true
  has_class x m c = one_passes (λ (h : HeldRow). eqb h.1.0 1) x.1 c.row c.there (eq-eqb c.row.1.0 1 c.one)

  pub object_right : (x : Rows) → Member x os → IsObjectRight x
  object_right x m = ⊎_elim of_dead of_live (r.rows.objects x.0 (holds x m))
    where
      of_dead : IsDeadFormed us x.0 → IsObjectRight x
      of_dead dead =
          let c = class_row x m in
          let read = object_is_read x m c false (fine_dead x m c.class dead) in
          let three = there_is x m 3 dead.dead.0 dead.dead.1 dead.dead.2 in
          record {
            rows = (count_in_range x m, read.0);
            classed = has_class x m c;
            named = named_there x m;
            whole = ap (λ (b : Bool). cond b true (list_all (λ attr. has_attr attr x.1) (must_of table (unwrap_or (told_by x.1).class 0)))) three;
          }

      either : (b c : Bool) → c ≡ true → cond b true c ≡ true
      either true c e = refl
      either false c e = e

      of_live : (IsTombstoned us x.0 → ⊥) × ((class : ℕ) → HasRow us x.0 1 (λ said. said ≡ Holds (Class class)) → KeepsSchema table us x.0 class) → IsObjectRight x
      of_live live =
          let c = class_row x m in
          let keeps = live.1 c.class ((held_of x.0 c.row).update, is_update x m c.row c.there, ap (RowOf x.0) c.one, ap Holds c.is) in
          let read = object_is_read x m c true (fine_live x m c.class live.0 keeps) in
          let musts : list_all (λ attr. has_attr attr x.1) (must_of table c.class) ≡ true =
          all_pass (λ attr. has_attr attr x.1) (must_of table c.class) (λ attr i. let w = keeps.whole attr (one_passes (λ (k : ℕ). eqb k attr) (must_of table c.class) attr i (eq-eqb attr attr refl)) in there_is x m attr w.0 w.1 w.2) in
          record {
            rows = (count_in_range x m, read.0);
            classed = has_class x m c;
            named = named_there x m;
            whole = either (has_attr 3 x.1) _ (ap (λ (w : Option ℕ). list_all (λ attr. has_attr attr x.1) (must_of table (unwrap_or w 0))) read.1 ∙ musts);
          }

-- the first row gives birth, and no other one
pub record FirstRow (x : Rows) : Type 0 where
  pub row : HeldRow
  pub rest : List HeldRow
  pub one : row.1.0 ≡ 1
  pub first : x.1 ≡ row ∷ rest
  pub above : AllByRecursion (λ a. nat_cmp 1 a ≡ Less) (attrs rest)

module _ (schema usn : ℕ) (os : List Rows) (ls : List HeldLink) (r : IsRight schema usn os ls) where
  pub birth_row : Each FirstRow os
  unfolding IsStrictlySortedBy
  birth_row x m =
      let c = class_row schema usn os ls r x m in
      let s = subst (λ (hs : List HeldRow). IsStrictlySortedBy nat_cmp (attrs hs)) c.first (attrs_rise schema usn os ls r x m) in
      record { row = c.row; rest = c.rest; one = c.one; first = c.first; above = subst (λ (i : ℕ). AllByRecursion (λ a. nat_cmp i a ≡ Less) (attrs c.rest)) c.one s.0 }
