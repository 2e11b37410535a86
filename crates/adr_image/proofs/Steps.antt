-- What stands behind the version is read part by part.
use Rattle.std.proofs.Common.{◌≡◌, ℕ, ◌-◌, ◌≤◌, ◌^◌, Bool, true, false, cond, eqb, refl, List, [], Option, Some, None, Ok, Err, sym, ap, ◌∙◌, arith}
use Rattle.std.specs.Option.{option_map_or}
use Rattle.std.specs.Prelude.{IfSome, nat_le}
use Rattle.std.proofs.lemmas.Bool.{eqb-true, le-leb, ltb-true}
use Rattle.adr_values.specs.Numbered.{numbered}
use Rattle.adr_values.specs.Schemas.{schema_1, schema_2, schema_table}
use Rattle.adr_values.specs.Table.{Table}
use Rattle.adr_values.specs.Vector.{Cursors, at_most}
use Rattle.adr_wire.specs.Reading.{Rest, Read, Reading, ◌>>=◌, elements_at, where_at, then_at, gathered_at, keyed}
use Rattle.adr_wire.specs.Fields.{u32_at, u64_at, is_usn0, usn0_at}
use Rattle.adr_wire.specs.Composites.{vector_at}
use Rattle.adr_wire.specs.Timed.{Timed, timed_at}
use Rattle.adr_wire.proofs.Combining.{bind_ok, passed_ok}
use Rattle.adr_wire.proofs.Loops.{behind_count, begins, with_front}
use Rattle.adr_model.specs.Take.{mark_limit}
use Rattle.adr_model.specs.Write.{object_limit, usn_limit}
use Rattle.adr_image.specs.Image.{Marked, kept_above, marks_of, no_objects, object_at, with_rows}
use Rattle.adr_image.specs.Whole.{is_schema_of, count_at, marks_at, objects_at, tuple_at, parts_of, parts_at}
use Rattle.adr_image.proofs.WholeLaws.{Tail, tail_at, three_at, four_at, five_at, six_at}

pub then_ok : {A B : Type 0} (a : Reading A) (b : A → Reading B) (rest mid end : Rest) (x : A) (y : B) → a rest ≡ Ok (x, mid) → b x mid ≡ Ok (y, end) → then_at a b rest ≡ Ok ((x, y), end)
then_ok {A} {B} a b rest mid end x y p q =
    ap (λ (r : Read A). r >>= λ z. b z.0 z.1 >>= λ w. Ok ((z.0, w.0), w.1)) p ∙ ap (λ (r : Read B). r >>= λ w. Ok ((x, w.0), w.1)) q

-- the schema of a number has it
schema_read : (number : ℕ) (t : Table) → schema_table number ≡ Some t → t.number ≡ number
unfolding schema_1 schema_2
schema_read number t is = by (eqb number 1) refl (eqb number 2) refl is
  where
    by : (a : Bool) → eqb number 1 ≡ a → (b : Bool) → eqb number 2 ≡ b → cond a (Some schema_1) (cond b (Some schema_2) None) ≡ Some t → t.number ≡ number
    by true one b two h = ap (λ (o : Option Table). option_map_or (λ x. x.number) o 1) (sym h) ∙ sym (eqb-true number 1 one)
    by false one true two h = ap (λ (o : Option Table). option_map_or (λ x. x.number) o 2) (sym h) ∙ sym (eqb-true number 2 two)
    by false one false two h = absurd (cc)

pub number_of : (o : Option Table) (number : ℕ) → o ≡ schema_table number → IfSome o (λ t. t.number ≡ number)
number_of None number is = tt
number_of (Some t) number is = schema_read number t (sym is)

pub count_fits : (most count : ℕ) (rest mid : Rest) → u32_at rest ≡ Ok (count, mid) → count ≤ most → count_at most rest ≡ Ok (count, mid)
count_fits most count rest mid p le =
    ap (λ (r : Read ℕ). r >>= λ x. cond (nat_le x.0 most) (Ok x) (Err rest.place)) p ∙ ap (λ (b : Bool). let r : Read ℕ = cond b (Ok (count, mid)) (Err rest.place) in r) (le-leb count most le)

pub marks_begin : (items : List Marked) (count : ℕ) (rest mid : Rest) → items ≡ [] → u32_at rest ≡ Ok (count, mid) → count ≤ mark_limit → with_front items (elements_at (λ k. k.0) kept_above (count - 0) None mid) ≡ marks_at rest
unfolding marks_at marks_of
marks_begin items count rest mid none p le = begins (keyed (λ k. k.0)) kept_above None (count_at mark_limit) items count rest mid none (count_fits mark_limit count rest mid p le)

pub objects_begin : (usn : ℕ) (table : Table) (count : ℕ) (rest mid : Rest) → u32_at rest ≡ Ok (count, mid) → count ≤ object_limit → gathered_at with_rows (object_at usn table) count no_objects mid ≡ objects_at usn table rest
unfolding objects_at
objects_begin usn table count rest mid p le =
    sym (behind_count (λ n. gathered_at with_rows (object_at usn table) n no_objects) (count_at object_limit) rest mid count (count_fits object_limit count rest mid p le))

abbrev pub purged_at : Cursors → Reading Cursors
purged_at seen = where_at (λ p. at_most p seen) vector_at

-- ---- where all parts are read, so is the whole

pub all_read : (version : ℕ) (r0 r1 r2 r3 r4 r5 r6 : Rest) (schema usn : ℕ) (seen : Timed) (purged : Cursors) (marks : List Marked) (tail : Tail)
    → where_at (is_schema_of version) u32_at r0 ≡ Ok (schema, r1) → usn0_at r1 ≡ Ok (usn, r2) → timed_at version r2 ≡ Ok (seen, r3) → purged_at seen.0 r3 ≡ Ok (purged, r4) → marks_at r4 ≡ Ok (marks, r5)
    → tail_at usn (numbered schema) r5 ≡ Ok (tail, r6) → parts_at version r0 ≡ Ok (parts_of (schema, (usn, (seen, (purged, (marks, tail))))), r6)
unfolding parts_at tuple_at
all_read version r0 r1 r2 r3 r4 r5 r6 schema usn seen purged marks tail p1 p2 p3 p4 p5 p6 =
    ap (λ (r : Read _). r >>= λ x. Ok (parts_of x.0, x.1))
    (then_ok (where_at (is_schema_of version) u32_at) (six_at version) r0 r1 r6 schema (usn, (seen, (purged, (marks, tail)))) p1
    (then_ok usn0_at (λ n. five_at version n (numbered schema)) r1 r2 r6 usn (seen, (purged, (marks, tail))) p2
    (then_ok (timed_at version) (λ s. four_at usn (numbered schema) s.0) r2 r3 r6 seen (purged, (marks, tail)) p3
    (then_ok (purged_at seen.0) (λ _. three_at usn (numbered schema)) r3 r4 r6 purged (marks, tail) p4
    (then_ok marks_at (λ _. tail_at usn (numbered schema)) r4 r5 r6 marks tail p5 p6)))))

pub usn_fits : (rest : Rest) (n : ℕ) (after : Rest) → usn0_at rest ≡ Ok (n, after) → n ≤ usn_limit
unfolding usn0_at
usn_fits rest n after e =
    let b = bind_ok (u64_at rest) (λ x. cond (is_usn0 x.0) (Ok x) (Err rest.place)) (n, after) e in
    let g = passed_ok (is_usn0 b.0.0) rest.place b.0 (n, after) b.2 in
    let lt = ltb-true b.0.0 (2 ^ 63) g.0 in
    let same = ap (λ (x : ℕ × Rest). x.0) g.1 in
    omega (arith, lt, same)
