-- What raising and joining do to the numbers, and that two lists read as one are joined.
use Rattle.std.proofs.Common.{◌≡◌, ℕ, ◌≤◌, ◌<◌, ◌+◌, Bool, true, false, cond, leb, max, List, [], ◌∷◌, length, refl, sym, ap, subst, ◌∙◌, arith}
use Rattle.std.specs.Ordering.{is_eq, match_ordering}
use Rattle.std.specs.BTreeMap.{insert_entry}
use Rattle.std.specs.declared.cmp.Ordering.{Ordering}
use Rattle.std.specs.declared.cmp.Ordering.TheVariants.{Less, Equal, Greater}
use Rattle.std.proofs.lemmas.Bool.{leb-true, leb-false}
use Rattle.std.proofs.lemmas.Map.Lookups.{exact_bytes}
use Rattle.adr_values.specs.Order.{identifier_order}
use Rattle.adr_values.specs.Vector.{Cursors, IsVector, at, covers, raised, joined}
use Rattle.adr_values.specs.Merging.{merged_with, merged}
use Rattle.adr_values.proofs.Cursors.{IsRising, FromOne, IsBelow, turned, below_all, at_rest, same_from_test, test_itself, head_below, tail_rising, cons_rising, at-insert_entry, rising-insert_entry, from_one-insert_entry, same_cursors}

-- ---- raising

not_seen : (usn n : ℕ) → leb usn n ≡ false → n < usn
not_seen usn n h = leb-false usn n h

pub at-raised : (cs : Cursors) (inv : List ℕ) (usn : ℕ) (q : List ℕ) → at (raised cs inv usn) q ≡ max (at cs q) (cond (is_eq (identifier_order q inv)) usn 0)
at-raised cs inv usn q = by (covers cs inv usn) refl (is_eq (identifier_order q inv)) refl
  where
    by : (b : Bool) → covers cs inv usn ≡ b → (d : Bool) → is_eq (identifier_order q inv) ≡ d → at (cond b cs (insert_entry identifier_order cs inv usn)) q ≡ max (at cs q) (cond d usn 0)
    by true e true d =
        let same : at cs q ≡ at cs inv = ap (at cs) (same_from_test q inv d) in
        let le : usn ≤ at cs inv = leb-true usn (at cs inv) e in
        omega arith
    by true e false d = omega arith
    by false e true d =
        let same : at cs q ≡ at cs inv = ap (at cs) (same_from_test q inv d) in
        let lt : at cs inv < usn = not_seen usn (at cs inv) e in
        at-insert_entry cs inv usn q ∙ rw d (omega arith)
    by false e false d = at-insert_entry cs inv usn q ∙ rw d (omega arith)

pub raised_here : (cs : Cursors) (inv : List ℕ) (usn : ℕ) → at (raised cs inv usn) inv ≡ max (at cs inv) usn
raised_here cs inv usn = at-raised cs inv usn inv ∙ ap (λ (b : Bool). max (at cs inv) (cond b usn 0)) (test_itself inv)

pub raised_elsewhere : (cs : Cursors) (inv : List ℕ) (usn : ℕ) (other : List ℕ) → (other ≡ inv → ⊥) → at (raised cs inv usn) other ≡ at cs other
raised_elsewhere cs inv usn other differs = at-raised cs inv usn other ∙ by (is_eq (identifier_order other inv)) refl
  where
    by : (b : Bool) → is_eq (identifier_order other inv) ≡ b → max (at cs other) (cond b usn 0) ≡ at cs other
    by true e = absurd (differs (same_from_test other inv e))
    by false e = omega arith

pub rising-raised : (cs : Cursors) (inv : List ℕ) (usn : ℕ) → IsRising cs → IsRising (raised cs inv usn)
rising-raised cs inv usn s = by (covers cs inv usn)
  where
    by : (b : Bool) → IsRising (cond b cs (insert_entry identifier_order cs inv usn))
    by true = s
    by false = rising-insert_entry cs inv usn s

pub from_one-raised : (cs : Cursors) (inv : List ℕ) (usn : ℕ) → FromOne cs → FromOne (raised cs inv usn)
from_one-raised cs inv usn one = by (covers cs inv usn) refl
  where
    by : (b : Bool) → covers cs inv usn ≡ b → FromOne (cond b cs (insert_entry identifier_order cs inv usn))
    by true e = one
    by false e = from_one-insert_entry cs inv usn (let lt = not_seen usn (at cs inv) e in omega arith) one

-- ---- joining

-- the greater of two numbers, where the list w has nothing at the head's identifier
first_max : (c : List ℕ × ℕ) (cs : Cursors) (q : List ℕ) → IsBelow c.0 cs → (n : ℕ) → max (max n (cond (is_eq (identifier_order q c.0)) c.1 0)) (at cs q) ≡ max n (at (c ∷ cs) q)
first_max c cs q h n = by (is_eq (identifier_order q c.0)) refl
  where
    by : (b : Bool) → is_eq (identifier_order q c.0) ≡ b → max (max n (cond b c.1 0)) (at cs q) ≡ max n (cond b c.1 (at cs q))
    by true e = let none : at cs q ≡ 0 = at_rest q c cs h e in omega arith
    by false e = omega arith

pub at-joined : (w v : Cursors) (q : List ℕ) → IsRising w → at (joined v w) q ≡ max (at v q) (at w q)
at-joined [] v q s = omega arith
at-joined (c ∷ cs) v q s =
    at-joined cs (raised v c.0 c.1) q (tail_rising c cs s)
    ∙ ap (λ (n : ℕ). max n (at cs q)) (at-raised v c.0 c.1 q)
    ∙ first_max c cs q (head_below c cs s) (at v q)

pub rising-joined : (w v : Cursors) → IsRising v → IsRising (joined v w)
rising-joined [] v s = s
rising-joined (c ∷ cs) v s = rising-joined cs (raised v c.0 c.1) (rising-raised v c.0 c.1 s)

pub from_one-joined : (w v : Cursors) → FromOne v → FromOne (joined v w)
from_one-joined [] v one = one
from_one-joined (c ∷ cs) v one = from_one-joined cs (raised v c.0 c.1) (from_one-raised v c.0 c.1 one)

-- ---- reading two lists as one

-- a head that is below all that the other list has
head_max : (c : List ℕ × ℕ) (m cs ds : Cursors) (q : List ℕ) → IsBelow c.0 ds → at m q ≡ max (at cs q) (at ds q) → at (c ∷ m) q ≡ max (at (c ∷ cs) q) (at ds q)
head_max c m cs ds q h k = by (is_eq (identifier_order q c.0)) refl
  where
    by : (b : Bool) → is_eq (identifier_order q c.0) ≡ b → cond b c.1 (at m q) ≡ max (cond b c.1 (at cs q)) (at ds q)
    by true e = let none : at ds q ≡ 0 = at_rest q c ds h e in omega arith
    by false e = k

both_max : (c d : List ℕ × ℕ) (m cs ds : Cursors) (q : List ℕ) → c.0 ≡ d.0 → at m q ≡ max (at cs q) (at ds q) → at ((c.0, max c.1 d.1) ∷ m) q ≡ max (at (c ∷ cs) q) (at (d ∷ ds) q)
both_max c d m cs ds q same k = rw (← same) (by (is_eq (identifier_order q c.0)))
  where
    by : (b : Bool) → cond b (max c.1 d.1) (at m q) ≡ max (cond b c.1 (at cs q)) (cond b d.1 (at ds q))
    by true = refl
    by false = k

module _ (c : List ℕ × ℕ) (cs : Cursors) (s : IsRising (c ∷ cs)) (q : List ℕ) (rest : (ds : Cursors) → IsRising ds → at (merged cs ds) q ≡ max (at cs q) (at ds q)) where
  at-merged_with : (ds : Cursors) → IsRising ds → at (merged_with c (merged cs) ds) q ≡ max (at (c ∷ cs) q) (at ds q)
  at-merged_with [] t = head_max c (merged cs []) cs [] q tt (rest [] t)
  at-merged_with (d ∷ ds) t = by (identifier_order c.0 d.0) refl (at-merged_with ds (tail_rising d ds t))
    where
      by : (r : Ordering) → identifier_order c.0 d.0 ≡ r → at (merged_with c (merged cs) ds) q ≡ max (at (c ∷ cs) q) (at ds q)
          → at (match_ordering r (c ∷ merged cs (d ∷ ds)) ((c.0, max c.1 d.1) ∷ merged cs ds) (d ∷ merged_with c (merged cs) ds)) q ≡ max (at (c ∷ cs) q) (at (d ∷ ds) q)
      by Less e k = head_max c (merged cs (d ∷ ds)) cs (d ∷ ds) q (e, below_all c.0 d.0 ds e (head_below d ds t)) (rest (d ∷ ds) t)
      by Equal e k = both_max c d (merged cs ds) cs ds q (exact_bytes c.0 d.0 e) (rest ds (tail_rising d ds t))
      by Greater e k =
          let less = turned c.0 d.0 e in
          let below : IsBelow d.0 (c ∷ cs) = (less, below_all d.0 c.0 cs less (head_below c cs s)) in
          let turn : at (merged_with c (merged cs) ds) q ≡ max (at ds q) (at (c ∷ cs) q) = k ∙ omega arith in
          head_max d (merged_with c (merged cs) ds) ds (c ∷ cs) q below turn ∙ omega arith

pub at-merged : (cs ds : Cursors) (q : List ℕ) → IsRising cs → IsRising ds → at (merged cs ds) q ≡ max (at cs q) (at ds q)
at-merged [] ds q s t = omega arith
at-merged (c ∷ cs) ds q s t = at-merged_with c cs s q (λ es u. at-merged cs es q (tail_rising c cs s) u) ds t

module _ (a : List ℕ) (c : List ℕ × ℕ) (cs : Cursors) (less : identifier_order a c.0 ≡ Less) (rest : (ds : Cursors) → IsBelow a ds → IsBelow a (merged cs ds)) where
  below-merged_with : (ds : Cursors) → IsBelow a ds → IsBelow a (merged_with c (merged cs) ds)
  below-merged_with [] b = (less, rest [] b)
  below-merged_with (d ∷ ds) b = by (identifier_order c.0 d.0) (below-merged_with ds b.1)
    where
      by : (r : Ordering) → IsBelow a (merged_with c (merged cs) ds) → IsBelow a (match_ordering r (c ∷ merged cs (d ∷ ds)) ((c.0, max c.1 d.1) ∷ merged cs ds) (d ∷ merged_with c (merged cs) ds))
      by Less k = (less, rest (d ∷ ds) b)
      by Equal k = (less, rest ds b.1)
      by Greater k = (b.0, k)

below-merged : (a : List ℕ) (cs ds : Cursors) → IsBelow a cs → IsBelow a ds → IsBelow a (merged cs ds)
below-merged a [] ds b e = e
below-merged a (c ∷ cs) ds b e = below-merged_with a c cs b.0 (λ es f. below-merged a cs es b.1 f) ds e

module _ (c : List ℕ × ℕ) (cs : Cursors) (s : IsRising (c ∷ cs)) (rest : (ds : Cursors) → IsRising ds → IsRising (merged cs ds)) where
  rising-merged_with : (ds : Cursors) → IsRising ds → IsRising (merged_with c (merged cs) ds)
  rising-merged_with [] t = cons_rising c (merged cs []) (below-merged c.0 cs [] (head_below c cs s) tt) (rest [] t)
  rising-merged_with (d ∷ ds) t = by (identifier_order c.0 d.0) refl (rising-merged_with ds (tail_rising d ds t))
    where
      by : (r : Ordering) → identifier_order c.0 d.0 ≡ r → IsRising (merged_with c (merged cs) ds) → IsRising (match_ordering r (c ∷ merged cs (d ∷ ds)) ((c.0, max c.1 d.1) ∷ merged cs ds) (d ∷ merged_with c (merged cs) ds))
      by Less e k = cons_rising c (merged cs (d ∷ ds)) (below-merged c.0 cs (d ∷ ds) (head_below c cs s) (e, below_all c.0 d.0 ds e (head_below d ds t))) (rest (d ∷ ds) t)
      by Equal e k =
          let below : IsBelow c.0 ds = subst (λ (x : List ℕ). IsBelow x ds) (sym (exact_bytes c.0 d.0 e)) (head_below d ds t) in
          cons_rising (c.0, max c.1 d.1) (merged cs ds) (below-merged c.0 cs ds (head_below c cs s) below) (rest ds (tail_rising d ds t))
      by Greater e k =
          let less = turned c.0 d.0 e in
          let below : IsBelow d.0 (c ∷ cs) = (less, below_all d.0 c.0 cs less (head_below c cs s)) in
          cons_rising d (merged_with c (merged cs) ds) (below-merged d.0 (c ∷ cs) ds below (head_below d ds t)) k

pub rising-merged : (cs ds : Cursors) → IsRising cs → IsRising ds → IsRising (merged cs ds)
rising-merged [] ds s t = t
rising-merged (c ∷ cs) ds s t = rising-merged_with c cs s (λ es u. rising-merged cs es (tail_rising c cs s) u) ds t

module _ (c : List ℕ × ℕ) (cs : Cursors) (one : 1 ≤ c.1) (rest : (ds : Cursors) → FromOne ds → FromOne (merged cs ds)) where
  from_one-merged_with : (ds : Cursors) → FromOne ds → FromOne (merged_with c (merged cs) ds)
  from_one-merged_with [] o = (one, rest [] o)
  from_one-merged_with (d ∷ ds) o = by (identifier_order c.0 d.0) (from_one-merged_with ds o.1)
    where
      by : (r : Ordering) → FromOne (merged_with c (merged cs) ds) → FromOne (match_ordering r (c ∷ merged cs (d ∷ ds)) ((c.0, max c.1 d.1) ∷ merged cs ds) (d ∷ merged_with c (merged cs) ds))
      by Less k = (one, rest (d ∷ ds) o)
      by Equal k = (omega arith, rest ds o.1)
      by Greater k = (o.0, k)

pub from_one-merged : (cs ds : Cursors) → FromOne cs → FromOne ds → FromOne (merged cs ds)
from_one-merged [] ds o p = p
from_one-merged (c ∷ cs) ds o p = from_one-merged_with c cs o.0 (λ es q. from_one-merged cs es o.1 q) ds p

pub merged-is-joined : (v w : Cursors) → IsRising v → IsRising w → FromOne v → FromOne w → merged v w ≡ joined v w
merged-is-joined v w s t o p =
    same_cursors (merged v w) (joined v w) (rising-merged v w s t) (rising-joined w v s) (from_one-merged v w o p) (from_one-joined w v o)
    (λ q. at-merged v w q s t ∙ sym (at-joined w v q t))

module _ (c : List ℕ × ℕ) (cs : Cursors) (rest : (ds : Cursors) → length (merged cs ds) ≤ length cs + length ds) where
  length-merged_with : (ds : Cursors) → length (merged_with c (merged cs) ds) ≤ length cs + length ds + 1
  length-merged_with [] = let k = rest [] in omega arith
  length-merged_with (d ∷ ds) = by (identifier_order c.0 d.0) (length-merged_with ds)
    where
      by : (r : Ordering) → length (merged_with c (merged cs) ds) ≤ length cs + length ds + 1 → length (match_ordering r (c ∷ merged cs (d ∷ ds)) ((c.0, max c.1 d.1) ∷ merged cs ds) (d ∷ merged_with c (merged cs) ds)) ≤ length cs + length (d ∷ ds) + 1
      by Less k = let j = rest (d ∷ ds) in omega arith
      by Equal k = let j = rest ds in omega arith
      by Greater k = omega arith

pub length-merged : (cs ds : Cursors) → length (merged cs ds) ≤ length cs + length ds
length-merged [] ds = omega arith
length-merged (c ∷ cs) ds = omega (arith, length-merged_with c cs (λ es. length-merged cs es) ds)

-- ---- of vectors

pub merged_vectors : (v w : Cursors) → IsVector v → IsVector w → merged v w ≡ joined v w
merged_vectors v w p q = merged-is-joined v w p.rising q.rising p.from_one q.from_one

pub length-joined : (v w : Cursors) → IsVector v → IsVector w → length (joined v w) ≤ length v + length w
length-joined v w p q = subst (λ (u : Cursors). length u ≤ length v + length w) (merged_vectors v w p q) (length-merged v w)
