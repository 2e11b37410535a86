-- Vectors are spelled in one way, and what is read is a vector.
use Rattle.std.proofs.Common.{◌≡◌, ℕ, ◌≤◌, ◌^◌, Bool, true, false, cond, leb, ltb, ◌&&◌, List, [], ◌∷◌, length, Option, Some, None, Ok, Err, IfSome, refl, ap, subst, arith}
use Rattle.std.specs.List.{AllByRecursion}
use Rattle.std.specs.Ordering.{is_lt}
use Rattle.std.specs.declared.cmp.Ordering.{Ordering}
use Rattle.std.specs.declared.cmp.Ordering.TheVariants.{Less, Equal, Greater}
use Rattle.std.proofs.lemmas.Bool.{leb-true, le-leb}
use Rattle.adr_values.specs.Order.{identifier_order}
use Rattle.adr_values.specs.Vector.{Cursors, IsVector, cursor_limit}
use Rattle.adr_values.proofs.Cursors.{IsRising, FromOne, IsBelow, below_all, head_below, tail_rising, cons_rising, nil_rising}
use Rattle.adr_wire.specs.Reading.{Rest, as_at, where_at, is_above}
use Rattle.adr_wire.specs.Fields.{u32_at, u64_at, id_at, usn_at, is_usn, u32, u64, id}
use Rattle.adr_wire.specs.Composites.{cursor_above, cursors_at, vector_at, cursor, vector}
use Rattle.adr_wire.specs.Spelling.{IsSpelling}
use Rattle.adr_wire.specs.Ranges.{IsU32, IsId, IsUsn, InTurn, IsCursor, IsCursors}
use Rattle.adr_wire.proofs.Combining.{bind_ok, passed_ok, ok_is, made, in_range_too, passed, followed, counted, each_read}
use Rattle.adr_wire.proofs.FieldLaws.{u32_spelled, id_spelled, usn_spelled}

-- ---- one above the other

abbrev head : List ℕ × ℕ → List ℕ
head c = c.0

-- above the one before it, and from 1
abbrev IsNext : Option (List ℕ) → List ℕ × ℕ → Type 0
IsNext last c = (is_above identifier_order last c.0 ≡ true) × (1 ≤ c.1)

less_from_test : (o : Ordering) → is_lt o ≡ true → o ≡ Less
less_from_test Less h = refl
less_from_test Equal h = absurd (cc)
less_from_test Greater h = absurd (cc)

below_last : (last : Option (List ℕ)) (c : List ℕ × ℕ) (cs : Cursors) → is_above identifier_order last c.0 ≡ true → IsBelow c.0 cs → IfSome last (λ k. IsBelow k (c ∷ cs))
below_last None c cs h b = tt
below_last (Some k) c cs h b = let less = less_from_test (identifier_order k c.0) h in (less, below_all k c.0 cs less b)

pub rises : (last : Option (List ℕ)) (cs : Cursors) → InTurn head IsNext last cs → record { rising : IsRising cs; from_one : FromOne cs; above : IfSome last (λ k. IsBelow k cs) }
rises None [] h = record { rising = nil_rising; from_one = tt; above = tt }
rises (Some k) [] h = record { rising = nil_rising; from_one = tt; above = tt }
rises last (c ∷ cs) h =
    let rest = rises (Some c.0) cs h.1 in
    record { rising = cons_rising c cs rest.above rest.rising; from_one = (h.0.1, rest.from_one); above = below_last last c cs h.0.0 rest.above }

-- ---- what is read is a vector

next_read : (last : Option (List ℕ)) (rest after : Rest) (c : List ℕ × ℕ) → cursor_above last rest ≡ Ok (c, after) → IsNext last c
unfolding cursor_above usn_at
next_read last rest after c h =
    let key = bind_ok (where_at (is_above identifier_order last) id_at rest) (λ k. as_at (λ usn. (k.0, usn)) usn_at k.1) (c, after) h in
    let inv = bind_ok (id_at rest) (λ x. cond (is_above identifier_order last x.0) (Ok x) (Err rest.place)) key.0 key.1 in
    let test = passed_ok (is_above identifier_order last inv.0.0) rest.place inv.0 key.0 inv.2 in
    let number = bind_ok (usn_at key.0.1) (λ n. Ok ((key.0.0, n.0), n.1)) (c, after) key.2 in
    let some = bind_ok (u64_at key.0.1) (λ x. cond (is_usn x.0) (Ok x) (Err key.0.1.place)) number.0 number.1 in
    let range = passed_ok (is_usn some.0.0) key.0.1.place some.0 number.0 some.2 in
    let above : is_above identifier_order last key.0.0 ≡ true = subst (λ (x : List ℕ × Rest). is_above identifier_order last x.0 ≡ true) test.1 test.0 in
    let one : 1 ≤ number.0.0 = subst (λ (x : ℕ × Rest). 1 ≤ x.0) range.1 (first some.0.0 range.0) in
    subst (λ (x : (List ℕ × ℕ) × Rest). IsNext last x.0) (ok_is ((key.0.0, number.0.0), number.0.1) (c, after) number.2) (above, one)
  where
    two : (a b : Bool) → (a && b) ≡ true → a ≡ true
    two true b e = refl
    two false b e = absurd (cc)

    first : (n : ℕ) → is_usn n ≡ true → 1 ≤ n
    first n e = leb-true 1 n (two (leb 1 n) (ltb n (2 ^ 63)) e)

pub vector_read : (count : ℕ) (rest after : Rest) (cs : Cursors) → count ≤ cursor_limit → cursors_at count None rest ≡ Ok (cs, after) → IsVector cs
unfolding cursors_at
vector_read count rest after cs few h =
    let all = each_read head cursor_above IsNext next_read count None rest after cs h in
    let up = rises None cs all.0 in
    record { rising = up.rising; from_one = up.from_one; few = (let len = all.1 in omega arith) }

-- ---- the law

abbrev IsCursorAbove : Option (List ℕ) → List ℕ × ℕ → Type 0
IsCursorAbove last c = IsCursor c × (is_above identifier_order last c.0 ≡ true)

cursor_spelled : (last : Option (List ℕ)) → IsSpelling (IsCursorAbove last) cursor (cursor_above last)
unfolding cursor_above
cursor_spelled last =
    in_range_too (λ c. (IsId c.0 × (is_above identifier_order last c.0 ≡ true)) × IsUsn c.1) cursor (cursor_above last)
    (followed (λ k. IsId k × (is_above identifier_order last k ≡ true)) id (where_at (is_above identifier_order last) id_at) (passed IsId id id_at id_spelled (is_above identifier_order last)) head (λ c. IsUsn c.1) (λ c. u64 c.1)
    (λ _ inv. as_at (λ usn. (inv, usn)) usn_at) (λ place inv h. number inv))
    (IsCursorAbove last) (λ c h. ((h.0.0, h.1), h.0.1)) (λ c h. ((h.0.0, h.1), h.0.1))
  where
    number : (inv : List ℕ) → IsSpelling {X = List ℕ × ℕ} (λ c. IsUsn c.1 × (c.0 ≡ inv)) (λ c. u64 c.1) (as_at (λ usn. (inv, usn)) usn_at)
    number inv =
        made IsUsn u64 usn_at usn_spelled (λ usn. (inv, usn)) (λ c. IsUsn c.1 × (c.0 ≡ inv)) (λ c. u64 c.1)
        (λ c q. (c.1, (λ i. (q.1 i, c.1)), q.0, refl)) (λ n p fits. ((p, refl), refl))

nexts : (last : Option (List ℕ)) (cs : Cursors) → InTurn head IsCursorAbove last cs → InTurn head IsNext last cs × AllByRecursion IsCursor cs
nexts last [] h = (tt, tt)
nexts last (c ∷ cs) h = let rest = nexts (Some c.0) cs h.1 in (((h.0.1, h.0.0.1.0), rest.0), (h.0.0, rest.1))

above_last : (last : Option (List ℕ)) (c : List ℕ × ℕ) (cs : Cursors) → IfSome last (λ k. IsBelow k (c ∷ cs)) → is_above identifier_order last c.0 ≡ true
above_last None c cs h = refl
above_last (Some k) c cs h = ap is_lt h.0

in_turn : (last : Option (List ℕ)) (cs : Cursors) → IsRising cs → IfSome last (λ k. IsBelow k cs) → AllByRecursion IsCursor cs → InTurn head IsCursorAbove last cs
in_turn last [] s b all = tt
in_turn last (c ∷ cs) s b all = ((all.0, above_last last c cs b), in_turn (Some c.0) cs (tail_rising c cs s) (head_below c cs s) all.1)

pub vector_spelled : IsSpelling IsCursors vector vector_at
unfolding vector_at cursors_at
vector_spelled =
    in_range_too (λ cs. ((length cs ≤ cursor_limit) × IsU32 (length cs)) × InTurn head IsCursorAbove None cs) vector vector_at
    (counted head IsCursorAbove cursor cursor_above cursor_spelled (λ n. (n ≤ cursor_limit) × IsU32 n) u32 (where_at (λ n. leb n cursor_limit) u32_at)
    (in_range_too (λ n. IsU32 n × (leb n cursor_limit ≡ true)) u32 (where_at (λ n. leb n cursor_limit) u32_at) (passed IsU32 u32 u32_at u32_spelled (λ n. leb n cursor_limit)) (λ n. (n ≤ cursor_limit) × IsU32 n)
    (λ n h. (h.1, le-leb n cursor_limit h.0)) (λ n h. (leb-true n cursor_limit h.1, h.0))))
    IsCursors
    (λ cs h. ((h.0.few, (let few = h.0.few in omega arith)), in_turn None cs h.0.rising tt h.1))
    (λ cs h. let parts = nexts None cs h.1 in let up = rises None cs parts.0 in (record { rising = up.rising; from_one = up.from_one; few = h.0.0 }, parts.1))
