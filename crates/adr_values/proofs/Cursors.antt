-- A vector is determined by its numbers, and what an entry does to them.
use Rattle.std.proofs.Common.{◌≡◌, ℕ, ◌≤◌, Bool, true, false, cond, List, [], ◌∷◌, refl, sym, ap, subst, ◌∙◌, arith}
use Rattle.std.specs.List.{AllByRecursion}
use Rattle.std.specs.List.Sorted.{IsStrictlySortedBy}
use Rattle.std.specs.Map.{keys_of}
use Rattle.std.specs.Ordering.{is_eq, match_ordering, ordering_reverse}
use Rattle.std.specs.BTreeMap.{insert_entry}
use Rattle.std.specs.declared.cmp.Ordering.{Ordering}
use Rattle.std.specs.declared.cmp.Ordering.TheVariants.{Less, Equal, Greater}
use Rattle.std.proofs.lemmas.Cmp.{nat_list_cmp_total, tied_itself}
use Rattle.std.proofs.lemmas.Map.Lookups.{exact_bytes}
use Rattle.adr_values.specs.Order.{identifier_order}
use Rattle.adr_values.specs.Vector.{Cursors, at}

abbrev pub IsRising : Cursors → Type 0
IsRising cs = IsStrictlySortedBy identifier_order (keys_of cs)

abbrev pub FromOne : Cursors → Type 0
FromOne cs = AllByRecursion (λ c. 1 ≤ c.1) cs

-- an identifier below all of these
abbrev pub IsBelow : List ℕ → Cursors → Type 0
IsBelow q cs = AllByRecursion (λ k. identifier_order q k ≡ Less) (keys_of cs)

-- ---- the order

pub turned : (a b : List ℕ) → identifier_order a b ≡ Greater → identifier_order b a ≡ Less
turned a b h = nat_list_cmp_total.antisymm b a ∙ ap ordering_reverse h

pub turned_back : (a b : List ℕ) → identifier_order a b ≡ Less → identifier_order b a ≡ Greater
turned_back a b h = nat_list_cmp_total.antisymm b a ∙ ap ordering_reverse h

pub itself : (a : List ℕ) → identifier_order a a ≡ Equal
itself a = tied_itself nat_list_cmp_total a

pub equal_from_test : (o : Ordering) → is_eq o ≡ true → o ≡ Equal
equal_from_test Less h = absurd (cc)
equal_from_test Equal h = refl
equal_from_test Greater h = absurd (cc)

pub same_from_test : (a b : List ℕ) → is_eq (identifier_order a b) ≡ true → a ≡ b
same_from_test a b h = exact_bytes a b (equal_from_test (identifier_order a b) h)

pub test_itself : (a : List ℕ) → is_eq (identifier_order a a) ≡ true
test_itself a = ap is_eq (itself a)

pub below_all : (a b : List ℕ) (cs : Cursors) → identifier_order a b ≡ Less → IsBelow b cs → IsBelow a cs
below_all a b [] h all = tt
below_all a b (c ∷ cs) h all = (nat_list_cmp_total.trans a b c.0 h all.0, below_all a b cs h all.1)

-- ---- numbers

pub at_below : (q : List ℕ) (cs : Cursors) → IsBelow q cs → at cs q ≡ 0
at_below q [] h = refl
at_below q (c ∷ cs) h = rw h.0 (at_below q cs h.1)

pub at_head : (c : List ℕ × ℕ) (cs : Cursors) → at (c ∷ cs) c.0 ≡ c.1
at_head c cs = rw (itself c.0) refl

-- where the head is below the rest, the rest has nothing at its identifier
pub at_rest : (q : List ℕ) (c : List ℕ × ℕ) (cs : Cursors) → IsBelow c.0 cs → is_eq (identifier_order q c.0) ≡ true → at cs q ≡ 0
at_rest q c cs h e = ap (at cs) (same_from_test q c.0 e) ∙ at_below c.0 cs h

pub head_below : (c : List ℕ × ℕ) (cs : Cursors) → IsRising (c ∷ cs) → IsBelow c.0 cs
unfolding IsStrictlySortedBy
head_below c cs s = s.0

pub tail_rising : (c : List ℕ × ℕ) (cs : Cursors) → IsRising (c ∷ cs) → IsRising cs
unfolding IsStrictlySortedBy
tail_rising c cs s = s.1

pub cons_rising : (c : List ℕ × ℕ) (cs : Cursors) → IsBelow c.0 cs → IsRising cs → IsRising (c ∷ cs)
unfolding IsStrictlySortedBy
cons_rising c cs b s = (b, s)

pub nil_rising : IsRising []
unfolding IsStrictlySortedBy
nil_rising = tt

-- ---- a vector is determined by its numbers

-- where the heads are one, the tails have the same numbers
same_tails : (x : List ℕ × ℕ) (xs ys : Cursors) → IsBelow x.0 xs → IsBelow x.0 ys → ((q : List ℕ) → at (x ∷ xs) q ≡ at (x ∷ ys) q) → (q : List ℕ) → at xs q ≡ at ys q
same_tails x xs ys s t h q = by (is_eq (identifier_order q x.0)) refl (h q)
  where
    by : (b : Bool) → is_eq (identifier_order q x.0) ≡ b → cond b x.1 (at xs q) ≡ cond b x.1 (at ys q) → at xs q ≡ at ys q
    by true e k = at_rest q x xs s e ∙ sym (at_rest q x ys t e)
    by false e k = k

no_lesser_head : (x y : List ℕ × ℕ) (xs ys : Cursors) → IsRising (y ∷ ys) → 1 ≤ x.1 → at (x ∷ xs) x.0 ≡ at (y ∷ ys) x.0 → identifier_order x.0 y.0 ≡ Less → ⊥
no_lesser_head x y xs ys t one h less =
    let none : at (y ∷ ys) x.0 ≡ 0 = at_below x.0 (y ∷ ys) (less, below_all x.0 y.0 ys less (head_below y ys t)) in
    let zero : x.1 ≡ 0 = sym (at_head x xs) ∙ h ∙ none in
    omega arith

same_heads : (x y : List ℕ × ℕ) (xs ys : Cursors) → IsRising (x ∷ xs) → IsRising (y ∷ ys) → 1 ≤ x.1 → 1 ≤ y.1 → ((q : List ℕ) → at (x ∷ xs) q ≡ at (y ∷ ys) q) → x ≡ y
same_heads x y xs ys s t one two h = by (identifier_order x.0 y.0) refl
  where
    by : (r : Ordering) → identifier_order x.0 y.0 ≡ r → x ≡ y
    by Less e = absurd (no_lesser_head x y xs ys t one (h x.0) e)
    by Greater e = absurd (no_lesser_head y x ys xs s two (sym (h y.0)) (turned x.0 y.0 e))
    by Equal e =
        let k : x.0 ≡ y.0 = exact_bytes x.0 y.0 e in
        let v : x.1 ≡ y.1 = sym (at_head x xs) ∙ h x.0 ∙ ap (at (y ∷ ys)) k ∙ at_head y ys in
        λ i. (k i, v i)

pub same_cursors : (v w : Cursors) → IsRising v → IsRising w → FromOne v → FromOne w → ((q : List ℕ) → at v q ≡ at w q) → v ≡ w
same_cursors [] [] s t one two h = refl
same_cursors [] (y ∷ ys) s t one two h = absurd (let e : 0 ≡ y.1 = h y.0 ∙ at_head y ys in let p = two.0 in omega arith)
same_cursors (x ∷ xs) [] s t one two h = absurd (let e : x.1 ≡ 0 = sym (at_head x xs) ∙ h x.0 in let p = one.0 in omega arith)
same_cursors (x ∷ xs) (y ∷ ys) s t one two h =
    let head : x ≡ y = same_heads x y xs ys s t one.0 two.0 h in
    let below : IsBelow x.0 ys = subst (λ (k : List ℕ). IsBelow k ys) (sym (ap (λ (c : List ℕ × ℕ). c.0) head)) (head_below y ys t) in
    let numbers : (q : List ℕ) → at (x ∷ xs) q ≡ at (x ∷ ys) q = λ q. h q ∙ ap (λ (c : List ℕ × ℕ). at (c ∷ ys) q) (sym head) in
    let tail = same_cursors xs ys (tail_rising x xs s) (tail_rising y ys t) one.1 two.1 (same_tails x xs ys (head_below x xs s) below numbers) in
    λ i. head i ∷ tail i

-- ---- an entry

swapped : (b d : Bool) (x u z : ℕ) → (b ≡ true → d ≡ true → ⊥) → cond b x (cond d u z) ≡ cond d u (cond b x z)
swapped true true x u z h = absurd (h refl refl)
swapped true false x u z h = refl
swapped false d x u z h = refl

overwritten : (b : Bool) (u x z : ℕ) → cond b u z ≡ cond b u (cond b x z)
overwritten true u x z = refl
overwritten false u x z = refl

apart : (q a b : List ℕ) → identifier_order a b ≡ Greater → is_eq (identifier_order q b) ≡ true → is_eq (identifier_order q a) ≡ true → ⊥
apart q a b g e f =
    let same : a ≡ b = sym (same_from_test q a f) ∙ same_from_test q b e in
    let k : Greater ≡ Equal = sym g ∙ ap (λ (x : List ℕ). identifier_order x b) same ∙ itself b in
    cc

pub at-insert_entry : (cs : Cursors) (inv : List ℕ) (usn : ℕ) (q : List ℕ) → at (insert_entry identifier_order cs inv usn) q ≡ cond (is_eq (identifier_order q inv)) usn (at cs q)
at-insert_entry [] inv usn q = refl
at-insert_entry (c ∷ cs) inv usn q = by (identifier_order inv c.0) refl (at-insert_entry cs inv usn q)
  where
    by : (r : Ordering) → identifier_order inv c.0 ≡ r → at (insert_entry identifier_order cs inv usn) q ≡ cond (is_eq (identifier_order q inv)) usn (at cs q)
        → at (match_ordering r ((inv, usn) ∷ c ∷ cs) ((c.0, usn) ∷ cs) (c ∷ insert_entry identifier_order cs inv usn)) q ≡ cond (is_eq (identifier_order q inv)) usn (cond (is_eq (identifier_order q c.0)) c.1 (at cs q))
    by Less e k = refl
    by Equal e k =
        let same : inv ≡ c.0 = exact_bytes inv c.0 e in
        overwritten (is_eq (identifier_order q c.0)) usn c.1 (at cs q)
        ∙ ap (λ (x : List ℕ). cond (is_eq (identifier_order q x)) usn (cond (is_eq (identifier_order q c.0)) c.1 (at cs q))) (sym same)
    by Greater e k = ap (cond (is_eq (identifier_order q c.0)) c.1) k ∙ swapped (is_eq (identifier_order q c.0)) (is_eq (identifier_order q inv)) c.1 usn (at cs q) (apart q inv c.0 e)

below-insert_entry : (a : List ℕ) (cs : Cursors) (inv : List ℕ) (usn : ℕ) → identifier_order a inv ≡ Less → IsBelow a cs → IsBelow a (insert_entry identifier_order cs inv usn)
below-insert_entry a [] inv usn h b = (h, tt)
below-insert_entry a (c ∷ cs) inv usn h b = by (identifier_order inv c.0) (below-insert_entry a cs inv usn h b.1)
  where
    by : (r : Ordering) → IsBelow a (insert_entry identifier_order cs inv usn) → IsBelow a (match_ordering r ((inv, usn) ∷ c ∷ cs) ((c.0, usn) ∷ cs) (c ∷ insert_entry identifier_order cs inv usn))
    by Less k = (h, b)
    by Equal k = b
    by Greater k = (b.0, k)

pub rising-insert_entry : (cs : Cursors) (inv : List ℕ) (usn : ℕ) → IsRising cs → IsRising (insert_entry identifier_order cs inv usn)
unfolding IsStrictlySortedBy
rising-insert_entry [] inv usn s = (tt, tt)
rising-insert_entry (c ∷ cs) inv usn s = by (identifier_order inv c.0) refl (rising-insert_entry cs inv usn s.1)
  where
    by : (r : Ordering) → identifier_order inv c.0 ≡ r → IsRising (insert_entry identifier_order cs inv usn) → IsRising (match_ordering r ((inv, usn) ∷ c ∷ cs) ((c.0, usn) ∷ cs) (c ∷ insert_entry identifier_order cs inv usn))
    by Less e k = ((e, below_all inv c.0 cs e s.0), s)
    by Equal e k = s
    by Greater e k = (below-insert_entry c.0 cs inv usn (turned inv c.0 e) s.0, k)

pub from_one-insert_entry : (cs : Cursors) (inv : List ℕ) (usn : ℕ) → 1 ≤ usn → FromOne cs → FromOne (insert_entry identifier_order cs inv usn)
from_one-insert_entry [] inv usn h one = (h, tt)
from_one-insert_entry (c ∷ cs) inv usn h one = by (identifier_order inv c.0) (from_one-insert_entry cs inv usn h one.1)
  where
    by : (r : Ordering) → FromOne (insert_entry identifier_order cs inv usn) → FromOne (match_ordering r ((inv, usn) ∷ c ∷ cs) ((c.0, usn) ∷ cs) (c ∷ insert_entry identifier_order cs inv usn))
    by Less k = (h, one)
    by Equal k = (h, one.1)
    by Greater k = (one.0, k)
