-- The body of a record is spelled in one way.
use Rattle.std.proofs.Common.{◌≡◌, ℕ, Bool, true, false, cond, eqb, List, [], ◌++◌, length, Option, Some, None, Ok, refl, sym, ap, subst}
use Rattle.std.specs.List.{flat_map}
use Rattle.std.specs.Ordering.{nat_cmp}
use Rattle.adr_wire.specs.Reading.{Reading, as_at, where_at, then_at, elements_at, is_above}
use Rattle.adr_wire.specs.Fields.{u32_at, usn_at, usn0_at, flag_at, u32, u64, flag}
use Rattle.adr_wire.specs.Composites.{oid_at, oid, vector_at, vector}
use Rattle.adr_wire.specs.Spelling.{IsSpelling}
use Rattle.adr_wire.specs.Ranges.{IsU32, IsFlag, IsUsn, IsUsn0, IsOid, IsCursors, InTurn}
use Rattle.adr_wire.proofs.Combining.{made, passed, both, pair, nothing, elements_spelled, counted}
use Rattle.adr_wire.proofs.FieldLaws.{u32_spelled, usn_spelled, usn0_spelled, flag_spelled}
use Rattle.adr_wire.proofs.CompositeLaws.{oid_spelled}
use Rattle.adr_wire.proofs.OptionalLaws.{if_there_spelled}
use Rattle.adr_wire.proofs.VectorLaws.{vector_spelled}
use Rattle.adr_image.specs.Image.{kept_above, kept}
use Rattle.adr_image.specs.Ranged.{IsMarked}
use Rattle.adr_image.specs.Whole.{is_schema}
use Rattle.adr_wire.specs.Pieces.{piece_at, piece, IsPiece}
use Rattle.adr_wire.proofs.Pieces.{piece_spelled}
use Rattle.adr_wire.specs.Timed.{IsTimed, timed, timed_at}
use Rattle.adr_wire.proofs.TimedLaws.{timed_spelled}
use Rattle.adr_image.specs.Body.{Write, write_above, write, IsWrite, one_name, mark_if_at, mark_if, IsMarkIf, number_at, number, NumberBy, IsNumber, removed_at, writes_at, body_at, body, AreRemoved, AreWrites, IsBody}
use Rattle.adr_image.proofs.ImageLaws.{kept_spelled}

write_spelled : (last : Option ℕ) → IsSpelling (IsWrite last) write (write_above last)
unfolding write_above
write_spelled last =
    pair (λ n. IsUsn n × (is_above nat_cmp last n ≡ true)) u64 (where_at (is_above nat_cmp last) usn_at) (passed IsUsn u64 usn_at usn_spelled (is_above nat_cmp last)) IsPiece piece piece_at piece_spelled

mark_if_spelled : IsSpelling IsMarkIf mark_if mark_if_at
mark_if_spelled = if_there_spelled (IsMarked None) kept (kept_above None) (kept_spelled None)

removed_spelled : IsSpelling AreRemoved (λ os. u32 (length os) ++ flat_map oid os) removed_at
unfolding removed_at
removed_spelled = counted one_name (λ _. IsOid) oid (λ _. oid_at) (λ _. oid_spelled) IsU32 u32 u32_at u32_spelled

-- a count, and so many elements behind a first key
counted_from : {K E : Type 0} (key : E → K) (P : Option K → E → Type 0) (s : E → List ℕ) (element : Option K → Reading E) → ((last : Option K) → IsSpelling (P last) s (element last)) → (last : Option K)
    → (C : ℕ → Type 0) (c : ℕ → List ℕ) (count : Reading ℕ) → IsSpelling C c count
    → IsSpelling (λ es. C (length es) × InTurn key P last es) (λ es. c (length es) ++ flat_map s es) (as_at (λ p. p.1) (then_at count (λ n. elements_at key element n last)))
counted_from {K} {E} key P s element laws last C c count law =
    let pairs = both C c count law (λ n es. InTurn key P last es × (length es ≡ n)) (λ n es. flat_map s es) (λ n. elements_at key element n last) (λ n h. elements_spelled key P s element laws n last) in
    made (λ p. C p.0 × (InTurn key P last p.1 × (length p.1 ≡ p.0))) (λ p. c p.0 ++ flat_map s p.1) (then_at count (λ n. elements_at key element n last)) pairs (λ (p : ℕ × List E). p.1)
    (λ es. C (length es) × InTurn key P last es) (λ es. c (length es) ++ flat_map s es)
    (λ es q. ((length es, es), refl, (q.0, (q.1, refl)), refl))
    (λ p q b. ((subst C (sym q.1.1) q.0, q.1.0), ap (λ (n : ℕ). c n ++ flat_map s p.1) q.1.1))

writes_spelled : (before : ℕ) → IsSpelling (AreWrites before) (λ ws. u32 (length ws) ++ flat_map write ws) (writes_at before)
unfolding writes_at
writes_spelled before = counted_from (λ (w : Write). w.0) IsWrite write write_above write_spelled (Some before) IsU32 u32 u32_at u32_spelled

number_spelled : (version schema : ℕ) → IsSpelling (IsNumber version schema) (number version) (number_at version schema)
unfolding number_at
number_spelled version schema = by (eqb version 1)
  where
    by : (b : Bool) → IsSpelling (NumberBy b schema) (λ n. cond b [] (u32 n)) (cond b (λ rest. Ok (schema, rest)) (where_at is_schema u32_at))
    by true = nothing (λ n. n ≡ schema) (λ n. []) schema refl refl (λ n e. e)
    by false = passed IsU32 u32 u32_at u32_spelled is_schema

module _ (version before schema : ℕ) where
  pub body_spelled : IsSpelling (IsBody version before schema) (body version) (body_at version before schema)
  unfolding body_at
  body_spelled =
      pair IsUsn0 u64 usn0_at usn0_spelled _ _ _
      (pair IsFlag flag flag_at flag_spelled _ _ _
      (pair (IsNumber version schema) (number version) (number_at version schema) (number_spelled version schema) _ _ _
      (pair IsMarkIf mark_if mark_if_at mark_if_spelled _ _ _
      (pair (IsTimed version) (timed version) (timed_at version) (timed_spelled version) _ _ _
      (pair IsCursors vector vector_at vector_spelled _ _ _
      (pair AreRemoved (λ os. u32 (length os) ++ flat_map oid os) removed_at removed_spelled (AreWrites before) (λ ws. u32 (length ws) ++ flat_map write ws) (writes_at before) (writes_spelled before)))))))
