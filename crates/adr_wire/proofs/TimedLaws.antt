-- Vectors with their moments are spelled in one way, in each version.
use Rattle.std.proofs.Common.{◌≡◌, ℕ, ◌≤◌, ◌^◌, Bool, true, false, cond, eqb, leb, ltb, ◌&&◌, is_eq, List, [], ◌∷◌, ◌++◌, length, Option, Some, None, IfSome, Ok, Err, refl, sym, ap, subst, ◌∙◌, arith}
use Rattle.std.specs.List.{AllByRecursion, flat_map}
use Rattle.std.specs.Ordering.{is_lt}
use Rattle.std.proofs.lemmas.Bool.{leb-true, le-leb, eqb-true}
use Rattle.adr_values.specs.Order.{identifier_order}
use Rattle.adr_values.specs.Times.{AreMoments}
use Rattle.adr_values.specs.Vector.{Cursors, IsVector, at, cursor_limit}
use Rattle.adr_values.proofs.Cursors.{IsRising, IsBelow, head_below, tail_rising, nil_rising}
use Rattle.adr_wire.specs.Reading.{Rest, ◌>>=◌, as_at, then_at, where_at, is_above}
use Rattle.adr_wire.specs.Fields.{u32_at, u64_at, id_at, usn_at, is_usn, u32, u64, id}
use Rattle.adr_wire.specs.Composites.{vector, vector_at}
use Rattle.adr_wire.specs.Spelling.{IsSpelling}
use Rattle.adr_wire.specs.Ranges.{IsU32, IsU64, IsId, IsUsn, InTurn, IsCursor, IsCursors}
use Rattle.adr_wire.proofs.Combining.{bind_ok, each_read, ok_is, passed_ok, followed, counted, in_range_too, made, pair, passed}
use Rattle.adr_wire.proofs.FieldLaws.{u32_spelled, u64_spelled, id_spelled, usn_spelled}
use Rattle.adr_wire.proofs.VectorLaws.{rises, vector_spelled}
use Rattle.adr_values.specs.Dated.{Dated, cursors_of, moments_of, with_moments}
use Rattle.adr_values.proofs.Dated.{rising_moments, from_one_moments, seen_moments, told_each, with_told, cursors_with, moments_with, as_many, as_many_cursors}
use Rattle.adr_wire.specs.Timed.{dated_above, dated_at, dated_vector_at, parted, vector2_at, timed_at, dated, vector2, timed, IsVector2, IsTimed}

abbrev head : Dated → List ℕ
head d = d.0.0

-- ---- a cursor with its moment

abbrev IsNextDated : Option (List ℕ) → Dated → Type 0
IsNextDated last d = (is_above identifier_order last d.0.0 ≡ true) × (1 ≤ d.0.1)

abbrev IsDatedAbove : Option (List ℕ) → Dated → Type 0
IsDatedAbove last d = (IsCursor d.0 × IsU64 d.1) × (is_above identifier_order last d.0.0 ≡ true)

dated_spelled : (last : Option (List ℕ)) → IsSpelling (IsDatedAbove last) dated (dated_above last)
unfolding dated_above
dated_spelled last =
    in_range_too (λ d. (IsId d.0.0 × (is_above identifier_order last d.0.0 ≡ true)) × (IsUsn d.0.1 × IsU64 d.1)) dated (dated_above last)
    (followed (λ k. IsId k × (is_above identifier_order last k ≡ true)) id (where_at (is_above identifier_order last) id_at) (passed IsId id id_at id_spelled (is_above identifier_order last)) head (λ d. IsUsn d.0.1 × IsU64 d.1)
    (λ d. u64 d.0.1 ++ u64 d.1) (λ _ inv. as_at (λ p. ((inv, p.0), p.1)) (then_at usn_at (λ _. u64_at))) (λ place inv h. numbers inv))
    (IsDatedAbove last) (λ d h. ((h.0.0.0, h.1), (h.0.0.1, h.0.1))) (λ d h. (((h.0.0, h.1.0), h.1.1), h.0.1))
  where
    numbers : (inv : List ℕ) → IsSpelling {X = Dated} (λ d. (IsUsn d.0.1 × IsU64 d.1) × (d.0.0 ≡ inv)) (λ d. u64 d.0.1 ++ u64 d.1) (as_at (λ p. ((inv, p.0), p.1)) (then_at usn_at (λ _. u64_at)))
    numbers inv =
        made (λ (p : ℕ × ℕ). IsUsn p.0 × IsU64 p.1) (λ p. u64 p.0 ++ u64 p.1) (then_at usn_at (λ _. u64_at)) (pair IsUsn u64 usn_at usn_spelled IsU64 u64 u64_at u64_spelled)
        (λ p. ((inv, p.0), p.1)) (λ d. (IsUsn d.0.1 × IsU64 d.1) × (d.0.0 ≡ inv)) (λ d. u64 d.0.1 ++ u64 d.1)
        (λ d q. ((d.0.1, d.1), (λ i. ((q.1 i, d.0.1), d.1)), q.0, refl)) (λ p q fits. ((q, refl), refl))

-- ---- so many of them

abbrev AreDated : List Dated → Type 0
AreDated ds = ((length ds ≤ cursor_limit) × IsU32 (length ds)) × InTurn head IsDatedAbove None ds

abbrev dated_bytes : List Dated → List ℕ
dated_bytes ds = u32 (length ds) ++ flat_map dated ds

all_spelled : IsSpelling AreDated dated_bytes dated_vector_at
unfolding dated_vector_at dated_at
all_spelled =
    counted head IsDatedAbove dated dated_above dated_spelled (λ n. (n ≤ cursor_limit) × IsU32 n) u32 (where_at (λ n. leb n cursor_limit) u32_at)
    (in_range_too (λ n. IsU32 n × (leb n cursor_limit ≡ true)) u32 (where_at (λ n. leb n cursor_limit) u32_at) (passed IsU32 u32 u32_at u32_spelled (λ n. leb n cursor_limit)) (λ n. (n ≤ cursor_limit) × IsU32 n)
    (λ n h. (h.1, le-leb n cursor_limit h.0)) (λ n h. (leb-true n cursor_limit h.1, h.0)))

-- ---- into them

short_at : (ts : Cursors) (q : List ℕ) → AllByRecursion (λ m. IsU64 m.1) ts → IsU64 (at ts q)
short_at [] q all = omega arith
short_at (t ∷ ts) q all = by (is_eq (identifier_order q t.0)) (short_at ts q all.1)
  where
    by : (b : Bool) → IsU64 (at ts q) → IsU64 (cond b t.1 (at ts q))
    by true k = all.0
    by false k = k

above_last : (last : Option (List ℕ)) (c : List ℕ × ℕ) (cs : Cursors) → IfSome last (λ k. IsBelow k (c ∷ cs)) → is_above identifier_order last c.0 ≡ true
above_last None c cs h = refl
above_last (Some k) c cs h = ap is_lt h.0

in_turn : (times : Cursors) → AllByRecursion (λ m. IsU64 m.1) times → (last : Option (List ℕ)) (cs : Cursors) → IsRising cs → IfSome last (λ k. IsBelow k cs) → AllByRecursion IsCursor cs
    → InTurn head IsDatedAbove last (with_moments times cs)
in_turn times short last [] s b all = tt
in_turn times short last (c ∷ cs) s b all =
    (((all.0, short_at times c.0 short), above_last last c cs b), in_turn times short (Some c.0) cs (tail_rising c cs s) (head_below c cs s) all.1)

-- ---- and back

abbrev cursor_head : List ℕ × ℕ → List ℕ
cursor_head c = c.0

abbrev IsNext : Option (List ℕ) → List ℕ × ℕ → Type 0
IsNext last c = (is_above identifier_order last c.0 ≡ true) × (1 ≤ c.1)

nexts : (last : Option (List ℕ)) (ds : List Dated) → InTurn head IsDatedAbove last ds
    → InTurn cursor_head IsNext last (cursors_of ds) × (AllByRecursion IsCursor (cursors_of ds) × AllByRecursion (λ m. IsU64 m.1) (moments_of ds))
nexts last [] h = (tt, (tt, tt))
nexts last (d ∷ ds) h =
    let rest = nexts (Some d.0.0) ds h.1 in
    (((h.0.1, h.0.0.0.1.0), rest.0), ((h.0.0.0, rest.1.0), by (eqb d.1 0) rest.1.1))
  where
    by : (t : Bool) → AllByRecursion (λ m. IsU64 m.1) (moments_of ds) → AllByRecursion (λ m. IsU64 m.1) (cond t (moments_of ds) ((d.0.0, d.1) ∷ moments_of ds))
    by true k = k
    by false k = (h.0.0.1, k)

vector2_from : (ds : List Dated) → AreDated ds → IsVector2 (parted ds) × (vector2 (parted ds) ≡ dated_bytes ds)
vector2_from ds h =
    let parts = nexts None ds h.1 in
    let up = rises None (cursors_of ds) parts.0 in
    let many = as_many_cursors ds in
    let few = h.0.0 in (
      record {
        cursors = (record { rising = up.rising; from_one = up.from_one; few = omega arith }, parts.1.0);
        times = record { moments = record { rising = rising_moments ds up.rising; from_one = from_one_moments ds }; seen = seen_moments ds up.from_one };
        moments = parts.1.1;
      },
      ap (λ (n : ℕ). u32 n ++ flat_map dated (with_moments (moments_of ds) (cursors_of ds))) many
          ∙ ap (λ (es : List Dated). u32 (length ds) ++ flat_map dated es) (with_told (moments_of ds) ds (told_each ds up.rising)),
    )

-- ---- the law

vector2_spelled : IsSpelling IsVector2 vector2 vector2_at
unfolding vector2_at
vector2_spelled =
    made AreDated dated_bytes dated_vector_at all_spelled parted IsVector2 vector2
    (λ t q.
    let are = q.cursors.0 in
    let ds = with_moments t.1 t.0 in
    let many = as_many t.1 t.0 in
    let few = are.few in
    let first = cursors_with t.1 t.0 in
    let second = moments_with t.0 t.1 are.rising are.from_one q.times in (
      ds,
      (λ i. (sym first i, sym second i)),
      (((omega arith, omega arith)), in_turn t.1 q.moments None t.0 are.rising tt q.cursors.1),
      ap (λ (n : ℕ). u32 n ++ flat_map dated ds) (sym many),
    ))
    (λ ds q fits. vector2_from ds q)

-- of the first version
vector1_spelled : IsSpelling (IsTimed 1) (timed 1) (as_at (λ v. (v, [])) vector_at)
vector1_spelled =
    made IsCursors vector vector_at vector_spelled (λ v. (v, [])) (IsTimed 1) (timed 1)
    (λ t q. (t.0, (λ i. (t.0, q.none refl i)), q.is.cursors, refl))
    (λ v q fits. (record { is = record { cursors = q; times = record { moments = record { rising = nil_rising; from_one = tt }; seen = tt }; moments = tt }; none = λ _. refl }, refl))

pub timed_spelled : (version : ℕ) → IsSpelling (IsTimed version) (timed version) (timed_at version)
timed_spelled version = by (eqb version 1) refl
  where
    by : (b : Bool) → eqb version 1 ≡ b → IsSpelling (IsTimed version) (λ t. cond b (vector t.0) (vector2 t)) (cond b (as_at (λ v. (v, [])) vector_at) vector2_at)
    by true e = subst (λ (v : ℕ). IsSpelling (IsTimed v) (λ t. vector t.0) (as_at (λ v. (v, [])) vector_at)) (sym (eqb-true version 1 e)) vector1_spelled
    by false e = in_range_too IsVector2 vector2 vector2_at vector2_spelled (IsTimed version) (λ t q. q.is) (λ t q. record { is = q; none = λ one. absurd (cc) })

-- ---- what code needs of them

next_read : (last : Option (List ℕ)) (rest after : Rest) (d : Dated) → dated_above last rest ≡ Ok (d, after) → IsNextDated last d
unfolding dated_above usn_at
next_read last rest after d h =
    let key = bind_ok (where_at (is_above identifier_order last) id_at rest) (λ k. as_at (λ p. ((k.0, p.0), p.1)) (then_at usn_at (λ _. u64_at)) k.1) (d, after) h in
    let inv = bind_ok (id_at rest) (λ x. cond (is_above identifier_order last x.0) (Ok x) (Err rest.place)) key.0 key.1 in
    let test = passed_ok (is_above identifier_order last inv.0.0) rest.place inv.0 key.0 inv.2 in
    let both = bind_ok (then_at usn_at (λ _. u64_at) key.0.1) (λ n. Ok (((key.0.0, n.0.0), n.0.1), n.1)) (d, after) key.2 in
    let number = bind_ok (usn_at key.0.1) (λ x. u64_at x.1 >>= λ y. Ok ((x.0, y.0), y.1)) both.0 both.1 in
    let moment = bind_ok (u64_at number.0.1) (λ y. Ok ((number.0.0, y.0), y.1)) both.0 number.2 in
    let some = bind_ok (u64_at key.0.1) (λ x. cond (is_usn x.0) (Ok x) (Err key.0.1.place)) number.0 number.1 in
    let range = passed_ok (is_usn some.0.0) key.0.1.place some.0 number.0 some.2 in
    let above : is_above identifier_order last key.0.0 ≡ true = subst (λ (x : List ℕ × Rest). is_above identifier_order last x.0 ≡ true) test.1 test.0 in
    let one : 1 ≤ number.0.0 = subst (λ (x : ℕ × Rest). 1 ≤ x.0) range.1 (first some.0.0 range.0) in
    let same : number.0.0 ≡ both.0.0.0 = ap (λ (z : (ℕ × ℕ) × Rest). z.0.0) (ok_is ((number.0.0, moment.0.0), moment.0.1) both.0 moment.2) in
    subst (λ (x : Dated × Rest). IsNextDated last x.0) (ok_is (((key.0.0, both.0.0.0), both.0.0.1), both.0.1) (d, after) both.2)
    (above, subst (λ (n : ℕ). 1 ≤ n) same one)
  where
    two : (a b : Bool) → (a && b) ≡ true → a ≡ true
    two true b e = refl
    two false b e = absurd (cc)

    first : (n : ℕ) → is_usn n ≡ true → 1 ≤ n
    first n e = leb-true 1 n (two (leb 1 n) (ltb n (2 ^ 63)) e)

next_cursors : (last : Option (List ℕ)) (ds : List Dated) → InTurn head IsNextDated last ds → InTurn cursor_head IsNext last (cursors_of ds)
next_cursors last [] h = tt
next_cursors last (d ∷ ds) h = (h.0, next_cursors (Some d.0.0) ds h.1)

-- what is read is a vector, and moments
pub dated_read : (count : ℕ) (rest after : Rest) (ds : List Dated) → count ≤ cursor_limit → dated_at count None rest ≡ Ok (ds, after) → IsVector (cursors_of ds) × AreMoments (moments_of ds)
unfolding dated_at
dated_read count rest after ds few h =
    let all = each_read head dated_above IsNextDated next_read count None rest after ds h in
    let up = rises None (cursors_of ds) (next_cursors None ds all.0) in
    let many = as_many_cursors ds in
    let len = all.1 in
    (record { rising = up.rising; from_one = up.from_one; few = omega arith }, record { rising = rising_moments ds up.rising; from_one = from_one_moments ds })
