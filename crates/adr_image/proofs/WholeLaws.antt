-- A whole image is spelled in one way.
use Rattle.std.proofs.Common.{◌≡◌, ℕ, ◌≤◌, Bool, true, false, cond, eqb, leb, List, ◌++◌, Ok, refl, subst, sym, arith}
use Rattle.std.specs.Prelude.{◌||◌}
use Rattle.std.proofs.lemmas.Bool.{eqb-true}
use Rattle.adr_values.specs.Table.{Table}
use Rattle.adr_values.specs.Numbered.{numbered}
use Rattle.adr_values.specs.Vector.{Cursors, at_most}
use Rattle.adr_wire.specs.Reading.{Reading, where_at, then_at}
use Rattle.adr_wire.specs.Fields.{u32_at, usn0_at, u32, u64}
use Rattle.adr_wire.specs.Composites.{vector_at, vector}
use Rattle.adr_wire.specs.Spelling.{AreBytes, IsSpelling}
use Rattle.adr_wire.specs.Ranges.{IsU32, IsUsn0, IsCursors}
use Rattle.adr_wire.proofs.Combining.{made, passed, both, pair, counted, counted_too}
use Rattle.adr_wire.proofs.FieldLaws.{u32_spelled, usn0_spelled}
use Rattle.adr_wire.specs.Headed.{is_version}
use Rattle.adr_wire.specs.Timed.{Timed, IsTimed, timed, timed_at}
use Rattle.adr_wire.proofs.HeadedLaws.{again_of_two, only_of_two}
use Rattle.adr_wire.proofs.TimedLaws.{timed_spelled}
use Rattle.adr_wire.proofs.VectorLaws.{vector_spelled}
use Rattle.adr_model.specs.Take.{mark_limit}
use Rattle.adr_model.specs.Write.{object_limit, link_limit, usn_limit}
use Rattle.adr_image.specs.Image.{Rows, HeldLink, Marked, kept, kept_above, marks_of, object_at, object, no_objects, with_rows, link_at, held_link, with_link}
use Rattle.adr_image.specs.Whole.{Parts, IsOf, is_schema, is_schema_of, count_at, marks_at, objects_at, links_at, dead_of, no_links, Tuple, tuple_at, parts_of, parts_at, magic, read_parts, marks, objects, links, body, image_of}
use Rattle.adr_image.specs.Ranged.{IsCount, IsMarked, AreMarks, IsObjectIn, AreObjects, IsLinkIn, AreLinks, AreParts}
use Rattle.adr_image.proofs.ImageLaws.{kept_spelled, object_in_spelled, link_in_spelled}

count_spelled : (most : ℕ) → IsSpelling (IsCount most) u32 (count_at most)
count_spelled most = passed IsU32 u32 u32_at u32_spelled (λ n. leb n most)

pub marks_spelled : IsSpelling AreMarks marks marks_at
unfolding marks_at marks_of
marks_spelled = counted (λ (k : Marked). k.0) IsMarked kept kept_above kept_spelled (IsCount mark_limit) u32 (count_at mark_limit) (count_spelled mark_limit)

module _ (usn : ℕ) (table : Table) where
  pub objects_spelled : usn ≤ usn_limit → IsSpelling (AreObjects usn table) objects (objects_at usn table)
  unfolding objects_at
  objects_spelled fits = counted_too with_rows (IsObjectIn usn table) object (object_at usn table) (λ e. object_in_spelled usn table e fits) (IsCount object_limit) u32 (count_at object_limit) (count_spelled object_limit) no_objects

  pub links_spelled : (os : List Rows) → IsSpelling (AreLinks usn table os) links (links_at usn table os)
  unfolding links_at
  links_spelled os =
      counted_too with_link (IsLinkIn usn table (dead_of os)) held_link (link_at usn table (dead_of os)) (λ k. link_in_spelled (dead_of os) usn k table)
      (IsCount link_limit) u32 (count_at link_limit) (count_spelled link_limit) (no_links os)

-- ---- the parts behind one another

abbrev pub Tail : Type 0
Tail = List Rows × List HeldLink

abbrev AreTail : ℕ → Table → Tail → Type 0
AreTail usn table t = AreObjects usn table t.0 × AreLinks usn table t.0 t.1

abbrev tail : Tail → List ℕ
tail t = objects t.0 ++ links t.1

abbrev pub tail_at : ℕ → Table → Reading Tail
tail_at usn table = then_at (objects_at usn table) (links_at usn table)

tail_spelled : (usn : ℕ) (table : Table) → usn ≤ usn_limit → IsSpelling (AreTail usn table) tail (tail_at usn table)
tail_spelled usn table fits = both (AreObjects usn table) objects (objects_at usn table) (objects_spelled usn table fits) (AreLinks usn table) (λ _. links) (links_at usn table) (λ os h. links_spelled usn table os)

abbrev pub Three : Type 0
Three = List Marked × Tail

abbrev AreThree : ℕ → Table → Three → Type 0
AreThree usn table t = AreMarks t.0 × AreTail usn table t.1

abbrev three : Three → List ℕ
three t = marks t.0 ++ tail t.1

abbrev pub three_at : ℕ → Table → Reading Three
three_at usn table = then_at marks_at (λ _. tail_at usn table)

three_spelled : (usn : ℕ) (table : Table) → usn ≤ usn_limit → IsSpelling (AreThree usn table) three (three_at usn table)
three_spelled usn table fits = pair AreMarks marks marks_at marks_spelled (AreTail usn table) tail (tail_at usn table) (tail_spelled usn table fits)

abbrev pub Four : Type 0
Four = Cursors × Three

abbrev AreFour : ℕ → Table → Cursors → Four → Type 0
AreFour usn table seen t = (IsCursors t.0 × (at_most t.0 seen ≡ true)) × AreThree usn table t.1

abbrev four : Four → List ℕ
four t = vector t.0 ++ three t.1

abbrev pub four_at : ℕ → Table → Cursors → Reading Four
four_at usn table seen = then_at (where_at (λ p. at_most p seen) vector_at) (λ _. three_at usn table)

four_spelled : (usn : ℕ) (table : Table) (seen : Cursors) → usn ≤ usn_limit → IsSpelling (AreFour usn table seen) four (four_at usn table seen)
four_spelled usn table seen fits =
    pair (λ p. IsCursors p × (at_most p seen ≡ true)) vector (where_at (λ p. at_most p seen) vector_at) (passed IsCursors vector vector_at vector_spelled (λ p. at_most p seen))
    (AreThree usn table) three (three_at usn table) (three_spelled usn table fits)

-- ---- and by the version

module _ (version : ℕ) where
  abbrev pub Five : Type 0
  Five = Timed × Four

  abbrev AreFive : ℕ → Table → Five → Type 0
  AreFive usn table t = IsTimed version t.0 × AreFour usn table t.0.0 t.1

  abbrev five : Five → List ℕ
  five t = timed version t.0 ++ four t.1

  abbrev pub five_at : ℕ → Table → Reading Five
  five_at usn table = then_at (timed_at version) (λ seen. four_at usn table seen.0)

  five_spelled : (usn : ℕ) (table : Table) → usn ≤ usn_limit → IsSpelling (AreFive usn table) five (five_at usn table)
  five_spelled usn table fits =
      both (IsTimed version) (timed version) (timed_at version) (timed_spelled version) (λ seen. AreFour usn table seen.0) (λ _. four) (λ seen. four_at usn table seen.0) (λ seen h. four_spelled usn table seen.0 fits)

  abbrev pub Six : Type 0
  Six = ℕ × Five

  abbrev AreSix : ℕ → Six → Type 0
  AreSix schema t = IsUsn0 t.0 × AreFive t.0 (numbered schema) t.1

  abbrev six : Six → List ℕ
  six t = u64 t.0 ++ five t.1

  abbrev pub six_at : ℕ → Reading Six
  six_at schema = then_at usn0_at (λ usn. five_at usn (numbered schema))

  six_spelled : (schema : ℕ) → IsSpelling (AreSix schema) six (six_at schema)
  six_spelled schema = both IsUsn0 u64 usn0_at usn0_spelled (λ usn. AreFive usn (numbered schema)) (λ _. five) (λ usn. five_at usn (numbered schema)) (λ usn h. five_spelled usn (numbered schema) (omega (arith, h)))

  abbrev AreTuple : Tuple → Type 0
  AreTuple t = (IsU32 t.0 × (is_schema_of version t.0 ≡ true)) × AreSix t.0 t.1

  abbrev tuple : Tuple → List ℕ
  tuple t = u32 t.0 ++ six t.1

  tuple_spelled : IsSpelling AreTuple tuple (tuple_at version)
  unfolding tuple_at
  tuple_spelled =
      both (λ n. IsU32 n × (is_schema_of version n ≡ true)) u32 (where_at (is_schema_of version) u32_at) (passed IsU32 u32 u32_at u32_spelled (is_schema_of version)) AreSix (λ _. six) six_at (λ schema h. six_spelled schema)

abbrev tuple_of : Parts → Tuple
tuple_of p = (p.schema, (p.usn, ((p.vector, p.times), (p.purged, (p.marks, (p.objects, p.links))))))

-- ---- the numbers of schemas

pub one_or_two : (n : ℕ) → is_schema n ≡ true → n ≤ 2
one_or_two n e = by (eqb n 1) refl (eqb n 2) refl e
  where
    by : (a : Bool) → eqb n 1 ≡ a → (b : Bool) → eqb n 2 ≡ b → (a || b) ≡ true → n ≤ 2
    by true one b two h = let is = eqb-true n 1 one in omega (arith, is)
    by false one true two h = let is = eqb-true n 2 two in omega (arith, is)
    by false one false two h = absurd (cc)

pub number_small : (n : ℕ) → is_schema n ≡ true → IsU32 n
number_small n e = let small = one_or_two n e in omega (arith, small)

-- one that is told by a version is told by the second, and the first tells one alone
number_told : (version n : ℕ) → is_schema_of version n ≡ true → (is_schema n ≡ true) × ((eqb version 1 ≡ true) → n ≡ 1)
number_told version n e = by (eqb version 1) refl e
  where
    by : (b : Bool) → eqb version 1 ≡ b → cond b (eqb n 1) (is_schema n) ≡ true → (is_schema n ≡ true) × ((eqb version 1 ≡ true) → n ≡ 1)
    by true v h = let one = eqb-true n 1 h in (subst (λ (m : ℕ). is_schema m ≡ true) (sym one) refl, (λ _. one))
    by false v h = (h, (λ one. absurd (cc)))

number_tells : (version n : ℕ) → is_schema n ≡ true → ((eqb version 1 ≡ true) → n ≡ 1) → is_schema_of version n ≡ true
number_tells version n is of = by (eqb version 1) refl
  where
    by : (b : Bool) → eqb version 1 ≡ b → cond b (eqb n 1) (is_schema n) ≡ true
    by true v = subst (λ (m : ℕ). eqb m 1 ≡ true) (sym (of v)) refl
    by false v = is

-- ---- the parts, in a version that can tell them

abbrev pub ArePartsOf : ℕ → Parts → Type 0
ArePartsOf version p = AreParts p × IsOf version p

pub parts_spelled : (version : ℕ) → IsSpelling (ArePartsOf version) (body version) (parts_at version)
unfolding parts_at
parts_spelled version =
    made (AreTuple version) (tuple version) (tuple_at version) (tuple_spelled version) parts_of (ArePartsOf version) (body version)
    (λ p q. (tuple_of p, refl, ((number_small p.schema q.0.schema, number_tells version p.schema q.0.schema (λ one. (q.1 one).0)), (q.0.usn, (record { is = q.0.seen; none = λ one. (q.1 one).1 }, (q.0.purged, (q.0.marks, (q.0.objects, q.0.links)))))), refl))
    (λ t q fits.
    let number = number_told version t.0 q.0.1 in
    let seen = q.1.1.0 in (
      (
        record { schema = number.0; usn = q.1.0; seen = seen.is; purged = q.1.1.1.0; marks = q.1.1.1.1.0; objects = q.1.1.1.1.1.0; links = q.1.1.1.1.1.1 },
        (λ one. (number.1 one, seen.none one)),
      ),
      refl,
    ))

-- ---- behind magic and version, to the end

-- what is written is read again
pub parts_again : (version : ℕ) (p : Parts) → is_version version ≡ true → AreParts p → IsOf version p → read_parts (image_of version p) ≡ Ok p
parts_again version p known q of = again_of_two magic refl ArePartsOf body parts_at parts_spelled version known p (q, of)

-- what is read was written so
pub parts_only : (bytes : List ℕ) (p : Parts) → AreBytes bytes → read_parts bytes ≡ Ok p → (version : ℕ) × (is_version version ≡ true) × (AreParts p × IsOf version p) × (bytes ≡ image_of version p)
parts_only bytes p fits e = only_of_two magic refl ArePartsOf body parts_at parts_spelled bytes p fits e
