-- Vectors that others cover, entry by entry.
use Rattle.std.proofs.Common.{◌≡◌, ℕ, Bool, true, false, cond, List, [], ◌∷◌, refl, arith}
use Rattle.std.specs.Ordering.{match_ordering}
use Rattle.std.specs.BTreeMap.{insert_entry}
use Rattle.std.specs.declared.cmp.Ordering.{Ordering}
use Rattle.std.specs.declared.cmp.Ordering.TheVariants.{Less, Equal, Greater}
use Rattle.std.proofs.lemmas.Bool.{leb-true, le-leb, and_parts, and_from}
use Rattle.std.proofs.lemmas.Map.Lookups.{exact_bytes}
use Rattle.adr_values.specs.Order.{identifier_order}
use Rattle.adr_values.specs.Vector.{Cursors, at, covers, at_most, raised, joined}
use Rattle.adr_model.specs.Reflects.{AtMost}
use Rattle.adr_law_knowledge.proofs.Raised.{raised_up}

covers_more : (v w : Cursors) (inv : List ℕ) (usn : ℕ) → AtMost (at v) (at w) → covers v inv usn ≡ true → covers w inv usn ≡ true
covers_more v w inv usn more c = le-leb usn (at w inv) (let le = leb-true usn (at v inv) c in let m = more inv in omega arith)

-- what a vector covers, a greater one covers
pub covered_by_more : (p v w : Cursors) → AtMost (at v) (at w) → at_most p v ≡ true → at_most p w ≡ true
covered_by_more [] v w more c = refl
covered_by_more (x ∷ xs) v w more c =
    let t = and_parts (covers v x.0 x.1) (at_most xs v) c in
    and_from (covers w x.0 x.1) (at_most xs w) (covers_more v w x.0 x.1 more t.0) (covered_by_more xs v w more t.1)

covered_inserted : (v w : Cursors) (inv : List ℕ) (usn : ℕ) → at_most v w ≡ true → covers w inv usn ≡ true → at_most (insert_entry identifier_order v inv usn) w ≡ true
covered_inserted [] w inv usn v_is is = and_from (covers w inv usn) true is refl
covered_inserted (x ∷ xs) w inv usn v_is is = let t = and_parts (covers w x.0 x.1) (at_most xs w) v_is in by t.0 t.1 (identifier_order inv x.0) refl (covered_inserted xs w inv usn t.1 is)
  where
    by : covers w x.0 x.1 ≡ true → at_most xs w ≡ true → (o : Ordering) → identifier_order inv x.0 ≡ o → at_most (insert_entry identifier_order xs inv usn) w ≡ true
        → at_most (match_ordering o ((inv, usn) ∷ x ∷ xs) ((x.0, usn) ∷ xs) (x ∷ insert_entry identifier_order xs inv usn)) w ≡ true
    by first others Less e rest = and_from (covers w inv usn) (at_most (x ∷ xs) w) is v_is
    by first others Equal e rest = let same : inv ≡ x.0 = exact_bytes inv x.0 e in and_from (covers w x.0 usn) (at_most xs w) (rw (← same) is) others
    by first others Greater e rest = and_from (covers w x.0 x.1) (at_most (insert_entry identifier_order xs inv usn) w) first rest

pub covered_raised : (v w : Cursors) (inv : List ℕ) (usn : ℕ) → at_most v w ≡ true → covers w inv usn ≡ true → at_most (raised v inv usn) w ≡ true
covered_raised v w inv usn v_is is = by (covers v inv usn)
  where
    by : (b : Bool) → at_most (cond b v (insert_entry identifier_order v inv usn)) w ≡ true
    by true = v_is
    by false = covered_inserted v w inv usn v_is is

-- what is joined of two that a vector covers, it covers
pub covered_joined : (u v w : Cursors) → at_most v w ≡ true → at_most u w ≡ true → at_most (joined v u) w ≡ true
covered_joined [] v w v_is u_is = v_is
covered_joined (x ∷ xs) v w v_is u_is = let t = and_parts (covers w x.0 x.1) (at_most xs w) u_is in covered_joined xs (raised v x.0 x.1) w (covered_raised v w x.0 x.1 v_is t.0) t.1

pub within_joined : (u v : Cursors) → AtMost (at v) (at (joined v u))
within_joined [] v q = omega arith
within_joined (x ∷ xs) v q = let first = raised_up v x.0 x.1 q in let rest = within_joined xs (raised v x.0 x.1) q in omega arith
