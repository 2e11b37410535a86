-- What a store's rows are as objects and links is what an image has of them.
use Rattle.std.proofs.Common.{◌≡◌, ℕ, zero, suc, ◌+◌, ◌-◌, ◌<◌, ◌≤◌, ◌^◌, Bool, true, false, cond, List, [], ◌∷◌, ◌++◌, length, map, take, drop, Some, None, refl, sym, ap, subst, ◌∙◌, inl, inr, append_assoc, append-nil, arith, Bor}
use Rattle.std.specs.Prelude.{All}
use Rattle.std.specs.List.{flat_map, filter_map, cons_option, AllByRecursion}
use Rattle.std.specs.List.Sorted.{IsStrictlySortedBy}
use Rattle.std.specs.Ordering.{is_eq, nat_cmp, ordering_reverse, ordering_then}
use Rattle.std.specs.declared.cmp.Ordering.{Ordering}
use Rattle.std.specs.declared.cmp.Ordering.TheVariants.{Less, Equal, Greater}
use Rattle.std.proofs.lemmas.Cmp.{tied_itself}
use Rattle.std.proofs.lemmas.List.{length-drop, take_all}
use Rattle.std.proofs.Math.Seq.{take-append_seam, drop-append_seam}
use Rattle.adr_values.specs.declared.stamp.Oid.{Oid}
use Rattle.adr_values.specs.declared.stamp.LinkStamp.{LinkStamp}
use Rattle.adr_values.specs.Order.{object_order}
use Rattle.adr_values.specs.contracts.stamp.OidOrd.TheImpl.Laws.{total-law as objects_total}
use Rattle.adr_values.specs.declared.content.Content.{Content}
use Rattle.adr_values.specs.declared.content.Content.TheVariants.{Class, Name, Dead, Values}
use Rattle.adr_wire.specs.Composites.{oid, vector, IsShortValue, IsShortContent}
use Rattle.adr_wire.specs.Fields.{flag, u16, u32, u64}
use Rattle.adr_wire.specs.Headed.{head}
use Rattle.adr_wire.specs.Timed.{timed}
use Rattle.adr_wire.specs.Ranges.{IsContent, IsValue}
use Rattle.adr_values.specs.declared.content.Value.{Value as Item}
use Rattle.adr_values.specs.declared.content.Value.TheVariants.{Text, Number, Flag, Octets, Ref}
use Rattle.adr_model.specs.Change.{Change}
use Rattle.adr_model.specs.Member.{Each}
use Rattle.adr_model.specs.Serve.{is_quarantined}
use Rattle.adr_model.specs.Update.{Key, RowOf, LinkOf, Said, Holds, IsPresent, key_order, same_object}
use Rattle.adr_model.specs.Store.{Held, Store, is_row_of}
use Rattle.adr_model.specs.Formed.{IsFormedStore}
use Rattle.adr_model.specs.Live.{born}
use Rattle.adr_model.proofs.Keys.{objects_tell}
use Rattle.adr_model.proofs.Members.{member_mapped}
use Rattle.adr_update.specs.Referents.{referents}
use Rattle.adr_image.specs.Body.{mark_if}
use Rattle.adr_image.specs.Changes.{change_bytes, written_bytes}
use Rattle.adr_image.specs.Image.{HeldRow, Rows, HeldLink, held_row, object, held_link}
use Rattle.adr_image.specs.Whole.{magic, marks, objects, links}
use Rattle.adr_image.specs.Stored.{AreTidy, IsNotFirst, held_of, link_of, rows_of_object, rows_of, apart, image, image_version, IsSpelled, IsSpelledRow}
use Rattle.adr_image.specs.Written.{held, IsShortSaid, own_rows, object_of, first_object, next_object, HaveFewRows, IsWritable}
use Rattle.adr_image.proofs.Names.{object_itself}
use Rattle.adr_image.proofs.Formed.{keys}
use Rattle.adr_image.proofs.Limits.{births}
use Rattle.adr_image.proofs.Taking.{Sorted, split, less_is, apart_tidy}
use Rattle.adr_image.proofs.InRange.{same_rows, births_counted, few_objects, few_links}

-- ---- the rows of the first object

-- the first row is none of the object
abbrev IsNotOwn : Oid → List Held → Type 0
IsNotOwn o [] = Unit {0}
IsNotOwn o (h ∷ hs) = is_row_of o h.update.key ≡ false

own_is : (o : Oid) (hs : List HeldRow) (rest : List Held) → IsNotOwn o rest → own_rows o (map (held_of o) hs ++ rest) ≡ length hs
own_is o [] [] other = refl
own_is o [] (r ∷ rs) other = ap (λ (b : Bool). cond b (suc (own_rows o rs)) 0) other
own_is o (h ∷ hs) rest other = ap (λ (b : Bool). cond b (suc (own_rows o (map (held_of o) hs ++ rest))) 0) (object_itself o) ∙ ap suc (own_is o hs rest other)

others_not_own : (o : Oid) (xs : List Rows) (ls : List HeldLink) → IsNotFirst o xs → AreTidy xs → IsNotOwn o (rows_of (xs, ls))
others_not_own o [] [] differ tidy = tt
others_not_own o [] (l ∷ ls) differ tidy = refl
others_not_own o (y ∷ ys) ls differ tidy = subst (IsNotOwn o) (sym (split y ys ls)) (by y.0 y.1 tidy.0 differ)
  where
    turned : (w : Ordering) → is_eq w ≡ false → is_eq (ordering_reverse w) ≡ false
    turned Less e = refl
    turned Equal e = e
    turned Greater e = refl

    by : (p : Oid) (hs : List HeldRow) → (hs ≡ [] → ⊥) → same_object o p ≡ false → IsNotOwn o (map (held_of p) hs ++ rows_of (ys, ls))
    by p [] some e = absurd (some refl)
    by p (h ∷ hs) some e = ap is_eq (objects_total.antisymm p o) ∙ turned (object_order o p) e

told_rows : (o : Oid) (hs : List HeldRow) → flat_map held (map (held_of o) hs) ≡ flat_map held_row hs
told_rows o [] = refl
told_rows o (h ∷ hs) = ap (λ (bytes : List ℕ). held_row h ++ bytes) (told_rows o hs)

told_links : (ls : List HeldLink) → flat_map held (map link_of ls) ≡ flat_map held_link ls
told_links [] = refl
told_links (l ∷ ls) = ap (λ (bytes : List ℕ). held_link l ++ bytes) (told_links ls)

pub mapped_long : {A B : Type 0} (f : A → B) (xs : List A) → length (map f xs) ≡ length xs
mapped_long f [] = refl
mapped_long f (x ∷ xs) = ap suc (mapped_long f xs)

record IsNext (x : Rows) (xs : List Rows) (ls : List HeldLink) (o : Oid) (hs : List Held) : Type 0 where
  others : drop (own_rows o hs) hs ≡ rows_of (xs, ls)
  written : next_object o hs ≡ object x

next_is : (x : Rows) (xs : List Rows) (ls : List HeldLink) → AreTidy (x ∷ xs) → IsNext x xs ls x.0 (rows_of (x ∷ xs, ls))
next_is x xs ls tidy =
    subst (IsNext x xs ls x.0) (sym (split x xs ls))
    (record {
      others = ap (λ (n : ℕ). drop n (rows_of_object x ++ rows_of (xs, ls))) long ∙ drop-append_seam (rows_of_object x) (rows_of (xs, ls));
      written = ap (λ (n : ℕ). oid x.0 ++ (u16 n ++ flat_map held (take n (rows_of_object x ++ rows_of (xs, ls))))) own
          ∙ ap (λ (hs : List Held). oid x.0 ++ (u16 (length x.1) ++ flat_map held hs)) (ap (λ (n : ℕ). take n (rows_of_object x ++ rows_of (xs, ls))) (sym (mapped_long (held_of x.0) x.1)) ∙ take-append_seam (rows_of_object x) (rows_of (xs, ls)))
          ∙ ap (λ (bytes : List ℕ). oid x.0 ++ (u16 (length x.1) ++ bytes)) (told_rows x.0 x.1);
    })
  where
    own : own_rows x.0 (rows_of_object x ++ rows_of (xs, ls)) ≡ length x.1
    own = own_is x.0 x.1 (rows_of (xs, ls)) (others_not_own x.0 xs ls tidy.1 tidy.2)

    long : own_rows x.0 (rows_of_object x ++ rows_of (xs, ls)) ≡ length (rows_of_object x)
    long = own ∙ sym (mapped_long (held_of x.0) x.1)

first_is : (x : Rows) (xs : List Rows) (ls : List HeldLink) → AreTidy (x ∷ xs) → first_object (rows_of (x ∷ xs, ls)) ≡ Some x.0
first_is x xs ls tidy = ap first_object (split x xs ls) ∙ by x.0 x.1 tidy.0
  where
    by : (o : Oid) (hs : List HeldRow) → (hs ≡ [] → ⊥) → first_object (map (held_of o) hs ++ rows_of (xs, ls)) ≡ Some o
    by o [] some = absurd (some refl)
    by o (h ∷ hs) some = refl

no_first : (ls : List HeldLink) → first_object (map link_of ls) ≡ None
no_first [] = refl
no_first (l ∷ ls) = refl

-- ---- a loop that writes objects

-- what is written and what is left is all that there is
abbrev pub IsUnderWay : List Rows → List HeldLink → List ℕ → List ℕ → List Held → Type 0
IsUnderWay os ls before now rest = (left : List Rows) × AreTidy left × (rest ≡ rows_of (left, ls)) × (now ++ flat_map object left ≡ before ++ flat_map object os)

pub starts : (os : List Rows) (ls : List HeldLink) (before : List ℕ) (rows : List Held) → AreTidy os → rows ≡ rows_of (os, ls) → IsUnderWay os ls before before rows
starts os ls before rows tidy e = (os, tidy, e, refl)

pub goes : (os : List Rows) (ls : List HeldLink) (before now after : List ℕ) (rest others : List Held) (o : Oid) → first_object rest ≡ Some o → after ≡ now ++ next_object o rest → others ≡ drop (own_rows o rest) rest
    → IsUnderWay os ls before now rest → IsUnderWay os ls before after others
goes os ls before now after rest others o first written behind way = by way.0 way.1 way.2 way.3
  where
    by : (left : List Rows) → AreTidy left → rest ≡ rows_of (left, ls) → now ++ flat_map object left ≡ before ++ flat_map object os → IsUnderWay os ls before after others
    by [] tidy e all = absurd (let n = no_first ls in let f = ap first_object e in cc)
    by (x ∷ xs) tidy e all =
        let found : Some x.0 ≡ Some o = sym (first_is x xs ls tidy) ∙ sym (ap first_object e) ∙ first in
        let same : x.0 ≡ o = cc in
        let next = subst (λ (p : Oid). IsNext x xs ls p rest) same (subst (IsNext x xs ls x.0) (sym e) (next_is x xs ls tidy)) in (
          xs,
          tidy.2,
          behind ∙ next.others,
          ap (λ (bytes : List ℕ). bytes ++ flat_map object xs) (written ∙ ap (λ (bytes : List ℕ). now ++ bytes) next.written) ∙ append_assoc now (object x) (flat_map object xs) ∙ all,
        )

pub ends : (os : List Rows) (ls : List HeldLink) (before now : List ℕ) (rest : List Held) → first_object rest ≡ None → IsUnderWay os ls before now rest → (now ≡ before ++ flat_map object os) × (rest ≡ map link_of ls)
ends os ls before now rest none way = by way.0 way.1 way.2 way.3
  where
    by : (left : List Rows) → AreTidy left → rest ≡ rows_of (left, ls) → now ++ flat_map object left ≡ before ++ flat_map object os → (now ≡ before ++ flat_map object os) × (rest ≡ map link_of ls)
    by [] tidy e all = (sym (append-nil now) ∙ all, e)
    by (x ∷ xs) tidy e all = absurd (let f = first_is x xs ls tidy in let g = ap first_object e in cc)

-- the rows that are left are fewer
pub falls : (rest : List Held) (o : Oid) → first_object rest ≡ Some o → length (drop (own_rows o rest) rest) < length rest
falls [] o first = absurd (cc)
falls (h ∷ hs) o first = by h.update.key first
  where
    by : (k : Key) → object_of k ≡ Some o → length (drop (cond (is_row_of o k) (suc (own_rows o hs)) 0) (h ∷ hs)) < length (h ∷ hs)
    by (RowOf p attr) e =
        let same : p ≡ o = cc in
        let own : same_object p o ≡ true = ap (λ (q : Oid). same_object q o) same ∙ object_itself o in
        let long = length-drop (own_rows o hs) hs in
        subst (λ (b : Bool). length (drop (cond b (suc (own_rows o hs)) 0) (h ∷ hs)) < length (h ∷ hs)) (sym own) (omega (arith, long))
    by (LinkOf l) e = absurd (cc)

-- ---- lengths and counts

pub content_short : (attr : ℕ) (c : Content) → IsContent attr c → IsShortContent c
content_short attr (Class n) q = tt
content_short attr (Name t parent) q = q.1.1.0
content_short attr Dead q = tt
content_short attr (Values vs) q = (q.3, short vs q.4)
  where
    value_short : (v : Item) → IsValue v → IsShortValue v
    value_short (Text t) h = h.0
    value_short (Number n) h = tt
    value_short (Flag b) h = tt
    value_short (Octets bytes) h = h
    value_short (Ref guid) h = tt

    short : (ws : List Item) → AllByRecursion IsValue ws → All IsShortValue ws
    short [] all k d lt = absurd (omega arith)
    short (w ∷ ws) all zero d lt = value_short w all.0
    short (w ∷ ws) all (suc k) d lt = short ws all.1 k d (omega arith)

said_short : (key : Key) (said : Said) (stamp : LinkStamp) → IsSpelledRow key said stamp → IsShortSaid said
said_short (RowOf o attr) (Holds c) stamp q = content_short attr c q.2
said_short (RowOf o attr) (IsPresent b) stamp q = absurd q
said_short (LinkOf l) (Holds c) stamp q = absurd q
said_short (LinkOf l) (IsPresent b) stamp q = tt

each_short : (hs : List Held) → Each (λ (h : Held). IsSpelledRow h.update.key h.update.said h.update.stamp) hs → All (λ (h : Held). IsShortSaid h.update.said) hs
each_short [] spelled k d lt = absurd (omega arith)
each_short (h ∷ hs) spelled zero d lt = said_short h.update.key h.update.said h.update.stamp (spelled h (inl refl))
each_short (h ∷ hs) spelled (suc k) d lt = each_short hs (λ g m. spelled g (inr m)) k d (omega arith)

own_above : (o : Oid) (a high : ℕ) (k : Key) → key_order (RowOf o a) k ≡ Less → (p : Oid) (c : ℕ) → k ≡ RowOf p c → same_object p o ≡ true → a < c
own_above o a high k less p c e own =
    let both : ordering_then (object_order o p) (nat_cmp a c) ≡ Less = ap (key_order (RowOf o a)) (sym e) ∙ less in
    let tie : object_order o p ≡ Equal = ap (object_order o) (objects_tell p o own) ∙ tied_itself objects_total o in
    less_is a c (ap (λ (w : Ordering). ordering_then w (nat_cmp a c)) (sym tie) ∙ both)

module _ (o : Oid) (high : ℕ) where
  abbrev IsOwnBetween : ℕ → Key → Type 0
  IsOwnBetween low k = (p : Oid) (a : ℕ) → k ≡ RowOf p a → same_object p o ≡ true → (low ≤ a) × (a < high)

  later : (a : ℕ) (hs : List Held) → AllByRecursion (λ k. key_order (RowOf o a) k ≡ Less) (keys hs) → Each (λ (h : Held). IsOwnBetween 0 h.update.key) hs → Each (λ (h : Held). IsOwnBetween (a + 1) h.update.key) hs
  later a [] less own h m p c e same = absurd m
  later a (g ∷ gs) less own h (inl i) p c e same =
      let lt = own_above o a high g.update.key less.0 p c (ap (λ (x : Held). x.update.key) (sym i) ∙ e) same in
      let top = own h (inl i) p c e same in
      (omega (arith, lt), top.1)
  later a (g ∷ gs) less own h (inr m) p c e same = later a gs less.1 (λ x n. own x (inr n)) h m p c e same

  weaker : (low : ℕ) (hs : List Held) → Each (λ (h : Held). IsOwnBetween low h.update.key) hs → Each (λ (h : Held). IsOwnBetween 0 h.update.key) hs
  weaker low hs own h m p c e same = let b = own h m p c e same in (omega arith, b.1)

  own_few : (low : ℕ) (hs : List Held) → low ≤ high → Sorted hs → Each (λ (h : Held). IsOwnBetween low h.update.key) hs → own_rows o hs + low ≤ high
  unfolding IsStrictlySortedBy
  own_few low [] fits s own = omega (arith, fits)
  own_few low (h ∷ hs) fits s own = by h.update.key refl (λ more f each. own_few more hs f s.1 each)
    where
      mine : (b : Bool) (p : Oid) (a : ℕ) → h.update.key ≡ RowOf p a → same_object p o ≡ b
          → ((more : ℕ) → more ≤ high → Each (λ (g : Held). IsOwnBetween more g.update.key) hs → own_rows o hs + more ≤ high) → cond b (suc (own_rows o hs)) 0 + low ≤ high
      mine false p a e same rec = omega (arith, fits)
      mine true p a e same rec =
          let here = own h (inl refl) p a e same in
          let name : p ≡ o = objects_tell p o same in
          let key : h.update.key ≡ RowOf o a = e ∙ ap (λ (q : Oid). RowOf q a) name in
          let less = subst (λ (k : Key). AllByRecursion (λ j. key_order k j ≡ Less) (keys hs)) key s.0 in
          let rest = rec (a + 1) (omega (arith, here)) (later a hs less (weaker low hs (λ g m. own g (inr m)))) in
          omega (arith, rest, here)

      by : (k : Key) → h.update.key ≡ k → ((more : ℕ) → more ≤ high → Each (λ (g : Held). IsOwnBetween more g.update.key) hs → own_rows o hs + more ≤ high) → cond (is_row_of o k) (suc (own_rows o hs)) 0 + low ≤ high
      by (LinkOf l) e rec = omega (arith, fits)
      by (RowOf p a) e rec = mine (same_object p o) p a e refl rec

  few_from : (k : ℕ) (hs : List Held) → 1 ≤ high → Sorted hs → Each (λ (h : Held). IsOwnBetween 1 h.update.key) hs → own_rows o (drop k hs) < high
  unfolding IsStrictlySortedBy
  few_from zero hs fits s own = let all = own_few 1 hs fits s own in omega (arith, all)
  few_from (suc k) [] fits s own = omega (arith, fits)
  few_from (suc k) (h ∷ hs) fits s own = few_from k hs fits s.1 (λ g m. own g (inr m))

born_alike : (hs : List Held) → filter_map (λ (h : Held). born h.update.key) hs ≡ births hs
born_alike [] = refl
born_alike (h ∷ hs) = ap (cons_option (born h.update.key)) (born_alike hs)

pub writable : (s : Store) → IsFormedStore s → IsSpelled s → IsWritable s.rows
writable s f q = record {
  joined = sym (same_rows s f q);
  tidy = apart_tidy s.rows;
  births = ap (λ (os : List Oid). length os) (born_alike s.rows) ∙ births_counted s f q;
  few_objects = few_objects s f q;
  few_links = few_links s f q;
  few = λ o k. few_from o (2 ^ 16) k s.rows (omega arith) f.rising (λ h m p a e same.
      let spelled = subst (λ (j : Key). IsSpelledRow j h.update.said h.update.stamp) e (q.rows h m) in
      let none = f.rows.none p h.update (member_mapped (λ (x : Held). x.update) s.rows h m) in
      (from_one a (λ z. none (e ∙ ap (RowOf p) z)), attr_fits p a h.update.said h.update.stamp spelled));
  short = each_short s.rows q.rows;
}
  where
    from_one : (a : ℕ) → (a ≡ 0 → ⊥) → 1 ≤ a
    from_one a none = omega (arith, none)

    attr_fits : (p : Oid) (a : ℕ) (said : Said) (stamp : LinkStamp) → IsSpelledRow (RowOf p a) said stamp → a < 2 ^ 16
    attr_fits p a (Holds c) stamp r = r.1
    attr_fits p a (IsPresent b) stamp r = absurd r

-- ---- what is left of rows

drop_none : {A : Type 0} (n : ℕ) (xs : List A) → xs ≡ [] → drop n xs ≡ []
drop_none zero xs e = e
drop_none (suc n) [] e = refl
drop_none (suc n) (x ∷ xs) e = absurd (cc)

drop_drop : {A : Type 0} (k n : ℕ) (xs : List A) → drop k (drop n xs) ≡ drop (n + k) xs
drop_drop k zero xs = ap (λ (m : ℕ). drop m xs) (omega arith)
drop_drop k (suc n) [] = drop_none k (drop (suc n) []) (drop_none (suc n) [] refl) ∙ sym (drop_none (suc n + k) [] refl)
drop_drop k (suc n) (x ∷ xs) =
    let one : suc n + k ≡ suc (n + k) = omega arith in
    drop_drop k n xs ∙ ap (λ (m : ℕ). drop m (x ∷ xs)) (sym one)

pub few_behind : (n : ℕ) (hs : List Held) → HaveFewRows hs → HaveFewRows (drop n hs)
few_behind n hs few o k = subst (λ (gs : List Held). own_rows o gs < 2 ^ 16) (sym (drop_drop k n hs)) (few o (n + k))

-- ---- rows by reference

module _ {A : Type 0} where
  pub referents_drop : (n : ℕ) (xs : List (Bor A)) → referents (drop n xs) ≡ drop n (referents xs)
  referents_drop zero xs = refl
  referents_drop (suc n) [] = refl
  referents_drop (suc n) (x ∷ xs) = referents_drop n xs

  pub referents_take : (n : ℕ) (xs : List (Bor A)) → referents (take n xs) ≡ take n (referents xs)
  referents_take zero xs = refl
  referents_take (suc n) [] = refl
  referents_take (suc n) (x ∷ xs) = ap (λ (ys : List A). x.now ∷ ys) (referents_take n xs)

pub births_referents : (xs : List (Bor Held)) → filter_map (λ (x : Bor Held). born x.now.update.key) xs ≡ filter_map (λ (h : Held). born h.update.key) (referents xs)
births_referents [] = refl
births_referents (x ∷ xs) = ap (cons_option (born x.now.update.key)) (births_referents xs)

pub rest_is : {A : Type 0} (n : ℕ) (xs : List A) → take (length xs - n) (drop n xs) ≡ drop n xs
rest_is n xs = take_all (length xs - n) (drop n xs) (omega (arith, length-drop n xs))

pub all_referents : (xs : List (Bor Held)) → All (λ (h : Held). IsShortSaid h.update.said) (referents xs) → All (λ (h : Bor Held). IsShortSaid h.now.update.said) xs
all_referents [] all k d lt = absurd (omega arith)
all_referents (x ∷ xs) all zero d lt = all zero x.now (omega arith)
all_referents (x ∷ xs) all (suc k) d lt = all_referents xs (λ j e less. all (suc j) e (omega arith)) k d (omega arith)

pub rows_written : (w0 w1 w2 w3 w4 : List ℕ) (os : List Rows) (ls : List HeldLink) (n : ℕ) (hs : List Held) → w1 ≡ w0 ++ u32 n → n ≡ length os → w2 ≡ w1 ++ flat_map object os → hs ≡ map link_of ls → w3 ≡ w2 ++ u32 (length hs)
    → w4 ≡ w3 ++ flat_map held hs → w4 ≡ w0 ++ (objects os ++ links ls)
rows_written w0 w1 w2 w3 w4 os ls n hs a b c d e f =
    let many : length hs ≡ length ls = ap (λ (gs : List Held). length gs) d ∙ mapped_long link_of ls in
    let told : flat_map held hs ≡ flat_map held_link ls = ap (flat_map held) d ∙ told_links ls in
    let one : w1 ≡ w0 ++ u32 (length os) = a ∙ ap (λ (m : ℕ). w0 ++ u32 m) b in
    let two : w2 ≡ (w0 ++ u32 (length os)) ++ flat_map object os = c ∙ ap (λ (w : List ℕ). w ++ flat_map object os) one in
    let three : w3 ≡ ((w0 ++ u32 (length os)) ++ flat_map object os) ++ u32 (length ls) = e ∙ ap (λ (w : List ℕ). w ++ u32 (length hs)) two ∙ ap (λ (m : ℕ). ((w0 ++ u32 (length os)) ++ flat_map object os) ++ u32 m) many in
    f ∙ ap (λ (w : List ℕ). w ++ flat_map held hs) three ∙ ap (λ (w : List ℕ). (((w0 ++ u32 (length os)) ++ flat_map object os) ++ u32 (length ls)) ++ w) told ∙ simp append_assoc

-- ---- an image or a change, part by part

then_written : (start mid end a b : List ℕ) → mid ≡ start ++ a → end ≡ mid ++ b → end ≡ start ++ (a ++ b)
then_written start mid end a b first second = second ∙ ap (λ (bytes : List ℕ). bytes ++ b) first ∙ append_assoc start a b

pub next_written : (w0 w1 w2 w3 : List ℕ) (o : Oid) (n : ℕ) (xs : List (Bor Held)) → n ≡ own_rows o (referents xs) → w1 ≡ w0 ++ oid o → w2 ≡ w1 ++ u16 n → w3 ≡ w2 ++ flat_map held (referents (take n xs)) → w3 ≡ w0 ++ next_object o (referents xs)
next_written w0 w1 w2 w3 o n xs own a b c =
    let rows = flat_map held (take n (referents xs)) in
    then_written w0 w1 w3 (oid o) (u16 n ++ rows) a (then_written w1 w2 w3 (u16 n) rows b (c ∙ ap (λ (hs : List Held). w2 ++ flat_map held hs) (referents_take n xs)))
    ∙ ap (λ (m : ℕ). w0 ++ (oid o ++ (u16 m ++ flat_map held (take m (referents xs))))) own

pub image_written : (s : Store) (w0 w2 w3 w4 w5 w6 w7 w8 : List ℕ) → w2 ≡ w0 ++ head magic image_version → w3 ≡ w2 ++ u32 s.schema → w4 ≡ w3 ++ u64 s.usn → w5 ≡ w4 ++ timed image_version (s.vector, s.times)
    → w6 ≡ w5 ++ vector s.purged → w7 ≡ w6 ++ marks s.marks → w8 ≡ w7 ++ (objects (apart s.rows).0 ++ links (apart s.rows).1) → w8 ≡ w0 ++ image s
image_written s w0 w2 w3 w4 w5 w6 w7 w8 p2 p3 p4 p5 p6 p7 p8 =
    let rows = objects (apart s.rows).0 ++ links (apart s.rows).1 in
    let seen = timed image_version (s.vector, s.times) in
    let q7 = then_written w6 w7 w8 (marks s.marks) rows p7 p8 in
    let q6 = then_written w5 w6 w8 (vector s.purged) (marks s.marks ++ rows) p6 q7 in
    let q5 = then_written w4 w5 w8 seen (vector s.purged ++ (marks s.marks ++ rows)) p5 q6 in
    let q4 = then_written w3 w4 w8 (u64 s.usn) (seen ++ (vector s.purged ++ (marks s.marks ++ rows))) p4 q5 in
    let q3 = then_written w2 w3 w8 (u32 s.schema) (u64 s.usn ++ (seen ++ (vector s.purged ++ (marks s.marks ++ rows)))) p3 q4 in
    then_written w0 w2 w8 (head magic image_version) (u32 s.schema ++ (u64 s.usn ++ (seen ++ (vector s.purged ++ (marks s.marks ++ rows))))) p2 q3

pub change_written : (c : Change) (w0 w1 w2 w3 w4 w5 w6 w7 w8 : List ℕ) → w1 ≡ w0 ++ u64 c.usn → w2 ≡ w1 ++ flag (is_quarantined c.mode) → w3 ≡ w2 ++ u32 c.schema → w4 ≡ w3 ++ mark_if c.mark
    → w5 ≡ w4 ++ timed image_version (c.joined, c.times) → w6 ≡ w5 ++ vector c.purged → w7 ≡ w6 ++ (u32 (length c.removed) ++ flat_map oid c.removed) → w8 ≡ w7 ++ (u32 (length c.writes) ++ flat_map written_bytes c.writes)
    → w8 ≡ w0 ++ change_bytes image_version c
change_written c w0 w1 w2 w3 w4 w5 w6 w7 w8 p1 p2 p3 p4 p5 p6 p7 p8 =
    let removed = u32 (length c.removed) ++ flat_map oid c.removed in
    let writes = u32 (length c.writes) ++ flat_map written_bytes c.writes in
    let seen = timed image_version (c.joined, c.times) in
    let q7 = then_written w6 w7 w8 removed writes p7 p8 in
    let q6 = then_written w5 w6 w8 (vector c.purged) (removed ++ writes) p6 q7 in
    let q5 = then_written w4 w5 w8 seen (vector c.purged ++ (removed ++ writes)) p5 q6 in
    let q4 = then_written w3 w4 w8 (mark_if c.mark) (seen ++ (vector c.purged ++ (removed ++ writes))) p4 q5 in
    let q3 = then_written w2 w3 w8 (u32 c.schema) (mark_if c.mark ++ (seen ++ (vector c.purged ++ (removed ++ writes)))) p3 q4 in
    let q2 = then_written w1 w2 w8 (flag (is_quarantined c.mode)) (u32 c.schema ++ (mark_if c.mark ++ (seen ++ (vector c.purged ++ (removed ++ writes))))) p2 q3 in
    then_written w0 w1 w8 (u64 c.usn) (flag (is_quarantined c.mode) ++ (u32 c.schema ++ (mark_if c.mark ++ (seen ++ (vector c.purged ++ (removed ++ writes)))))) p1 q2
