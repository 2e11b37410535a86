-- Rows are what their objects and links are, and back.
use Rattle.std.proofs.Common.{◌≡◌, ℕ, Bool, true, false, cond, List, [], ◌∷◌, ◌++◌, map, refl, sym, ap, ◌∙◌, inl, inr, append_assoc}
use Rattle.std.specs.List.{flat_map, AllByRecursion}
use Rattle.std.specs.List.Sorted.{IsStrictlySortedBy}
use Rattle.std.specs.declared.cmp.Ordering.TheVariants.{Less}
use Rattle.adr_values.specs.declared.stamp.Oid.{Oid}
use Rattle.adr_values.specs.declared.stamp.LinkStamp.{LinkStamp}
use Rattle.adr_model.specs.Member.{Each}
use Rattle.adr_model.specs.Update.{Key, RowOf, LinkOf, Said, Holds, IsPresent, key_order, same_object}
use Rattle.adr_model.specs.Store.{Held}
use Rattle.adr_model.specs.Formed.{AreRising}
use Rattle.adr_image.specs.Image.{HeldRow, Rows, HeldLink}
use Rattle.adr_image.specs.Stored.{AreTidy, IsNotFirst, held_of, link_of, rows_of_object, rows_of, put_row, with_one, apart, IsSpelledRow}
use Rattle.adr_image.proofs.Names.{object_is, object_itself}

-- ---- what was taken apart is put together

put_is : (o : Oid) (h : HeldRow) (xs : List Rows) → flat_map rows_of_object (put_row o h xs) ≡ held_of o h ∷ flat_map rows_of_object xs
put_is o h [] = refl
put_is o h (x ∷ xs) = by (same_object o x.0) refl
  where
    by : (b : Bool) → same_object o x.0 ≡ b → flat_map rows_of_object (cond b ((o, h ∷ x.1) ∷ xs) ((o, h ∷ []) ∷ x ∷ xs)) ≡ held_of o h ∷ flat_map rows_of_object (x ∷ xs)
    by true e = ap (λ (p : Oid). held_of o h ∷ (map (held_of p) x.1 ++ flat_map rows_of_object xs)) (object_is o x.0 e)
    by false e = refl

abbrev IsLinkKey : Key → Type 0
IsLinkKey (RowOf o attr) = ⊥
IsLinkKey (LinkOf l) = Unit {0}

one_is : (key : Key) (said : Said) (stamp : LinkStamp) (local : ℕ) (p : List Rows × List HeldLink) → IsSpelledRow key said stamp → (IsLinkKey key → p.0 ≡ [])
    → rows_of (with_one key said stamp local p) ≡ (let h : Held = record { update = record { key = key; stamp = stamp; said = said }; local = local } in h) ∷ rows_of p
one_is (RowOf o attr) (Holds c) stamp local p q none =
    ap (λ (rows : List Held). rows ++ map link_of p.1) (put_is o (local, (attr, stamp.stamp, c)) p.0)
    ∙ ap (λ (n : ℕ). (let h : Held = record { update = record { key = RowOf o attr; stamp = record { created = n; stamp = stamp.stamp }; said = Holds c }; local = local } in h) ∷ rows_of p) (sym q.4)
one_is (RowOf o attr) (IsPresent b) stamp local p q none = absurd q
one_is (LinkOf l) (Holds c) stamp local p q none = absurd q
one_is (LinkOf l) (IsPresent b) stamp local p q none =
    let e = none tt in
    ap (λ (os : List Rows). rows_of (os, (local, (l, stamp, b)) ∷ p.1)) e
    ∙ ap (λ (os : List Rows). link_of (local, (l, stamp, b)) ∷ rows_of (os, p.1)) (sym e)

-- behind a link there are links alone
abbrev AreLinks : List Held → Type 0
AreLinks hs = AllByRecursion (λ h. IsLinkKey h.update.key) hs

links_alone : (k : Key) (hs : List Held) → IsLinkKey k → AllByRecursion (λ j. key_order k j ≡ Less) (map (λ (h : Held). h.update.key) hs) → AreLinks hs
links_alone (RowOf o attr) hs is all = absurd is
links_alone (LinkOf l) [] is all = tt
links_alone (LinkOf l) (h ∷ hs) is all = (by h.update.key all.0, links_alone (LinkOf l) hs is all.1)
  where
    by : (j : Key) → key_order (LinkOf l) j ≡ Less → IsLinkKey j
    by (RowOf o attr) e = absurd (cc)
    by (LinkOf m) e = tt

kept_none : (key : Key) (said : Said) (stamp : LinkStamp) (local : ℕ) (p : List Rows × List HeldLink) → IsLinkKey key → p.0 ≡ [] → (with_one key said stamp local p).0 ≡ []
kept_none (RowOf o attr) said stamp local p is e = absurd is
kept_none (LinkOf l) (Holds c) stamp local p is e = e
kept_none (LinkOf l) (IsPresent b) stamp local p is e = e

no_objects : (hs : List Held) → AreLinks hs → (apart hs).0 ≡ []
no_objects [] all = refl
no_objects (h ∷ hs) all = kept_none h.update.key h.update.said h.update.stamp h.local (apart hs) all.0 (no_objects hs all.1)

pub joined_again : (hs : List Held) → AreRising hs → Each (λ (h : Held). IsSpelledRow h.update.key h.update.said h.update.stamp) hs → rows_of (apart hs) ≡ hs
unfolding IsStrictlySortedBy
joined_again [] rising spelled = refl
joined_again (h ∷ hs) rising spelled =
    one_is h.update.key h.update.said h.update.stamp h.local (apart hs) (spelled h (inl refl)) (λ is. no_objects hs (links_alone h.update.key hs is rising.0))
    ∙ ap (λ (rows : List Held). h ∷ rows) (joined_again hs rising.1 (λ x m. spelled x (inr m)))

-- ---- what was put together is taken apart

links_apart : (ls : List HeldLink) → apart (map link_of ls) ≡ ([], ls)
links_apart [] = refl
links_apart (l ∷ ls) = ap (λ (p : List Rows × List HeldLink). (p.0, l ∷ p.1)) (links_apart ls)

put_first : (o : Oid) (h : HeldRow) (xs : List Rows) → IsNotFirst o xs → put_row o h xs ≡ (o, h ∷ []) ∷ xs
put_first o h [] other = refl
put_first o h (x ∷ xs) other = ap (λ (b : Bool). cond b ((o, h ∷ x.1) ∷ xs) ((o, h ∷ []) ∷ x ∷ xs)) other

put_on : (o : Oid) (h : HeldRow) (hs : List HeldRow) (xs : List Rows) → put_row o h ((o, hs) ∷ xs) ≡ (o, h ∷ hs) ∷ xs
put_on o h hs xs = ap (λ (b : Bool). cond b ((o, h ∷ hs) ∷ xs) ((o, h ∷ []) ∷ (o, hs) ∷ xs)) (object_itself o)

object_apart : (o : Oid) (h : HeldRow) (hs : List HeldRow) (rest : List Held) (xs : List Rows) (ls : List HeldLink) → apart rest ≡ (xs, ls) → IsNotFirst o xs
    → apart (held_of o h ∷ (map (held_of o) hs ++ rest)) ≡ ((o, h ∷ hs) ∷ xs, ls)
object_apart o h [] rest xs ls e other =
    ap (λ (p : List Rows × List HeldLink). (put_row o h p.0, p.1)) e ∙ ap (λ (os : List Rows). (os, ls)) (put_first o h xs other)
object_apart o h (g ∷ gs) rest xs ls e other =
    ap (λ (p : List Rows × List HeldLink). (put_row o h p.0, p.1)) (object_apart o g gs rest xs ls e other)
    ∙ ap (λ (os : List Rows). (os, ls)) (put_on o h (g ∷ gs) xs)

in_front : (o : Oid) (hs : List HeldRow) (xs : List Rows) (ls : List HeldLink) → (hs ≡ [] → ⊥) → IsNotFirst o xs → apart (rows_of (xs, ls)) ≡ (xs, ls)
    → apart (map (held_of o) hs ++ rows_of (xs, ls)) ≡ ((o, hs) ∷ xs, ls)
in_front o [] xs ls some other e = absurd (some refl)
in_front o (h ∷ hs) xs ls some other e = object_apart o h hs (rows_of (xs, ls)) xs ls e other

pub apart_again : (ls : List HeldLink) (os : List Rows) → AreTidy os → apart (rows_of (os, ls)) ≡ (os, ls)
apart_again ls [] tidy = links_apart ls
apart_again ls (x ∷ xs) tidy =
    ap apart (append_assoc (rows_of_object x) (flat_map rows_of_object xs) (map link_of ls))
    ∙ in_front x.0 x.1 xs ls tidy.0 tidy.1 (apart_again ls xs tidy.2)
