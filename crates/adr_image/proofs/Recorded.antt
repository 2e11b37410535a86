-- A change has the bytes of its body, and is as long as is counted.
use Rattle.std.proofs.Common.{◌≡◌, ℕ, zero, suc, ◌+◌, ◌*◌, ◌<◌, Bool, true, false, cond, eqb, List, [], ◌∷◌, ◌++◌, length, get_or, map, fold, Option, Some, None, Ok, Err, refl, sym, ap, subst, ◌∙◌, append-nil, arith}
use Rattle.std.specs.Prelude.{All, is_some}
use Rattle.std.specs.List.{flat_map}
use Rattle.std.proofs.lemmas.Bool.{eqb-true}
use Rattle.std.proofs.lemmas.List.{length-append, nil_from_length}
use Rattle.adr_values.specs.declared.stamp.Oid.{Oid}
use Rattle.adr_wire.specs.Composites.{Row, row, oid, vector}
use Rattle.adr_wire.specs.Fields.{flag, u16, u32, u64}
use Rattle.adr_wire.specs.Pieces.{Piece, OfRows, OfLink, IsPiece, piece}
use Rattle.adr_wire.specs.Timed.{timed}
use Rattle.adr_wire.specs.Ranges.{InTurn, IsOid, IsRowAbove}
use Rattle.adr_wire.specs.Reading.{Rest, Read}
use Rattle.adr_wire.specs.Spelling.{AreBytes, Was}
use Rattle.adr_wire.proofs.Combining.{from}
use Rattle.adr_law_lengths.specs.Written.{update_of}
use Rattle.adr_law_lengths.proofs.Lengths.{object_long, link_long, oid_long, timed_long, vector_long}
use Rattle.adr_model.specs.Change.{Change, Written}
use Rattle.adr_model.specs.Lengths.{change_length}
use Rattle.adr_model.specs.Serve.{is_quarantined, item_length}
use Rattle.adr_model.specs.Update.{Update}
use Rattle.adr_image.specs.Body.{Body, Write, IsWrite, body, body_at, mark_if, number, one_name, write, IsBody, IsMarkIf}
use Rattle.adr_image.specs.Image.{Marked}
use Rattle.adr_image.specs.Changes.{item_of, written_of, mode_of_flag, change_of, whole_change, decoded_change, update_bytes, unit_bytes, written_bytes, change_bytes, AreShort, IsShortChange, HasBody}
use Rattle.adr_image.specs.Written.{IsShortSaid}
use Rattle.adr_image.proofs.BodyLaws.{body_spelled}
use Rattle.adr_image.proofs.Long.{kept_long}
use Rattle.adr_image.proofs.Writing.{content_short, mapped_long}

-- ---- the bytes of a change are those of its body

rows_told : (o : Oid) (rows : List Row) → flat_map update_bytes (map (update_of o) rows) ≡ flat_map row rows
rows_told o [] = refl
rows_told o (r ∷ rs) = ap (λ (bytes : List ℕ). row r ++ bytes) (rows_told o rs)

pub piece_told : (p : Piece) → unit_bytes (item_of p).unit (item_of p).rows ≡ piece p
piece_told (OfRows x) =
    ap (λ (n : ℕ). (1 ∷ []) ++ (oid x.0 ++ (u16 n ++ flat_map update_bytes (map (update_of x.0) x.1)))) (mapped_long (update_of x.0) x.1)
    ∙ ap (λ (bytes : List ℕ). (1 ∷ []) ++ (oid x.0 ++ (u16 (length x.1) ++ bytes))) (rows_told x.0 x.1)
piece_told (OfLink l) = ap (λ (bytes : List ℕ). (2 ∷ []) ++ bytes) (append-nil _)

writes_told : (ws : List Write) → flat_map written_bytes (map written_of ws) ≡ flat_map write ws
writes_told [] = refl
writes_told (w ∷ ws) =
    ap (λ (bytes : List ℕ). (u64 w.0 ++ bytes) ++ flat_map written_bytes (map written_of ws)) (piece_told w.1) ∙ ap (λ (bytes : List ℕ). write w ++ bytes) (writes_told ws)

flag_told : (b : Bool) → is_quarantined (mode_of_flag b) ≡ b
flag_told true = refl
flag_told false = refl

pub bytes_are : (version : ℕ) (b : Body) → change_bytes version (change_of b) ≡ body version b
bytes_are version b =
    let behind : List ℕ → List ℕ = λ writes. number version b.1.1.0 ++ (mark_if b.1.1.1.0 ++ (timed version b.1.1.1.1.0 ++ (vector b.1.1.1.1.1.0
    ++ ((u32 (length b.1.1.1.1.1.1.0) ++ flat_map oid b.1.1.1.1.1.1.0) ++ writes)))) in
    ap (λ (f : Bool). u64 b.0 ++ (flag f ++ behind (u32 (length (map written_of b.1.1.1.1.1.1.1)) ++ flat_map written_bytes (map written_of b.1.1.1.1.1.1.1)))) (flag_told b.1.0)
    ∙ ap (λ (n : ℕ). u64 b.0 ++ (flag b.1.0 ++ behind (u32 n ++ flat_map written_bytes (map written_of b.1.1.1.1.1.1.1)))) (mapped_long written_of b.1.1.1.1.1.1.1)
    ∙ ap (λ (bytes : List ℕ). u64 b.0 ++ (flag b.1.0 ++ behind (u32 (length b.1.1.1.1.1.1.1) ++ bytes))) (writes_told b.1.1.1.1.1.1.1)

-- ---- what is written is read again, and what is read was written so

module _ (version before schema : ℕ) where
  body_again : (b : Body) → IsBody version before schema b → decoded_change version before schema (change_bytes version (change_of b)) ≡ Some (change_of b)
  body_again b q =
      ap whole_change
      (ap (λ (bytes : List ℕ). body_at version before schema (from 0 bytes)) (bytes_are version b ∙ sym (append-nil (body version b))) ∙ (body_spelled version before schema).again 0 b [] q)

  pub change_again : (c : Change) → HasBody version before schema c → decoded_change version before schema (change_bytes version c) ≡ Some c
  change_again c q = subst (λ (d : Change). decoded_change version before schema (change_bytes version d) ≡ Some d) (sym q.says) (body_again q.body q.in_range)

  pub change_only : (bytes : List ℕ) (c : Change) → AreBytes bytes → decoded_change version before schema bytes ≡ Some c → HasBody version before schema c × (bytes ≡ change_bytes version c)
  change_only bytes c fits e = by (body_at version before schema (from 0 bytes)) refl e
    where
      whole : (b : Body) (rest : Rest) (t : Bool) → eqb (length rest.bytes) 0 ≡ t → body_at version before schema (from 0 bytes) ≡ Ok (b, rest) → cond t (Some (change_of b)) None ≡ Some c
          → HasBody version before schema c × (bytes ≡ change_bytes version c)
      whole b rest true end r h =
          let was : Was (IsBody version before schema) (body version) 0 bytes b rest = (body_spelled version before schema).only 0 bytes b rest fits r in
          let none = nil_from_length rest.bytes (eqb-true (length rest.bytes) 0 end) in
          let says : change_of b ≡ c = cc in (
            record { body = b; in_range = was.in_range; says = sym says },
            was.spelled_so ∙ ap (λ (w : List ℕ). body version b ++ w) none ∙ append-nil (body version b) ∙ sym (bytes_are version b) ∙ ap (change_bytes version) says,
          )
      whole b rest false end r h = absurd (cc)

      by : (r : Read Body) → body_at version before schema (from 0 bytes) ≡ r → whole_change r ≡ Some c → HasBody version before schema c × (bytes ≡ change_bytes version c)
      by (Ok x) r h = whole x.0 x.1 (eqb (length x.1.bytes) 0) refl r h
      by (Err place) r h = absurd (cc)

-- ---- bodies in range are short enough for their counts

rows_short : (o : Oid) (last : Option ℕ) (rows : List Row) → InTurn (λ (r : Row). r.0) IsRowAbove last rows → All (λ (u : Update). IsShortSaid u.said) (map (update_of o) rows)
rows_short o last [] turn k d lt = absurd (omega arith)
rows_short o last (r ∷ rs) turn zero d lt = content_short r.0 r.2 turn.0.0.1.1
rows_short o last (r ∷ rs) turn (suc k) d lt = rows_short o (Some r.0) rs turn.1 k d (omega arith)

pub piece_short : (p : Piece) → IsPiece p → AreShort (item_of p).rows
piece_short (OfRows x) q =
    let long = mapped_long (update_of x.0) x.1 in
    let few = q.1.0.1 in
    record { few = omega (arith, long, few); short = rows_short x.0 None x.1 q.1.1 }
piece_short (OfLink l) q = record { few = omega arith; short = one }
  where
    one : (k : ℕ) (d : Update) → k < 1 → IsShortSaid (get_or (item_of (OfLink l)).rows k d).said
    one zero d lt = tt
    one (suc k) d lt = absurd (omega arith)

writes_short : (last : Option ℕ) (ws : List Write) → InTurn (λ (w : Write). w.0) IsWrite last ws → All (λ (w : Written). AreShort w.item.rows) (map written_of ws)
writes_short last [] turn k d lt = absurd (omega arith)
writes_short last (w ∷ ws) turn zero d lt = piece_short w.1 turn.0.1
writes_short last (w ∷ ws) turn (suc k) d lt = writes_short (Some w.0) ws turn.1 k d (omega arith)

body_short : (version before schema : ℕ) (b : Body) → IsBody version before schema b → IsShortChange (change_of b)
body_short version before schema b q =
    let long = mapped_long written_of b.1.1.1.1.1.1.1 in
    let few = q.1.1.1.1.1.1.1.0 in
    record { removed = q.1.1.1.1.1.1.0.0; few = omega (arith, long, few); short = writes_short (Some before) b.1.1.1.1.1.1.1 q.1.1.1.1.1.1.1.1 }

-- ---- lengths

removed_long : (last : Option (Unit {0})) (os : List Oid) → InTurn one_name (λ _. IsOid) last os → length (flat_map oid os) ≡ 40 * length os
removed_long last [] turn = omega arith
removed_long last (o ∷ os) turn =
    let here = oid_long o turn.0 in
    let rest = removed_long (Some tt) os turn.1 in
    omega (arith, here, rest, length-append (oid o) (flat_map oid os))

piece_long : (p : Piece) → IsPiece p → length (piece p) ≡ item_length (item_of p)
piece_long (OfRows x) q = object_long x q
piece_long (OfLink l) q = link_long l q

writes_long : (n : ℕ) (last : Option ℕ) (ws : List Write) → InTurn (λ (w : Write). w.0) IsWrite last ws → fold (λ m (w : Written). m + 8 + item_length w.item) n (map written_of ws) ≡ n + length (flat_map write ws)
unfolding u64
writes_long n last [] turn = omega arith
writes_long n last (w ∷ ws) turn =
    let here = piece_long w.1 turn.0.1 in
    let rest = writes_long (n + 8 + item_length (item_of w.1)) (Some w.0) ws turn.1 in
    omega (arith, here, rest, length-append (u64 w.0) (piece w.1), length-append (write w) (flat_map write ws))

mark_long : (m : Option Marked) → IsMarkIf m → length (mark_if m) ≡ 1 + cond (is_some m) 56 0
mark_long None q = refl
mark_long (Some k) q = let long = kept_long None k q in omega (arith, long)

body_long : (before schema : ℕ) (b : Body) → IsBody 2 before schema b → length (body 2 b) ≡ change_length (change_of b)
unfolding u32 u64
body_long before schema b q =
    let mark = mark_long b.1.1.1.0 q.1.1.1.0 in
    let joined = timed_long b.1.1.1.1.0 q.1.1.1.1.0 in
    let purged = vector_long b.1.1.1.1.1.0 q.1.1.1.1.1.0 in
    let removed = removed_long None b.1.1.1.1.1.1.0 q.1.1.1.1.1.1.0.1 in
    let writes = writes_long 0 (Some before) b.1.1.1.1.1.1.1 q.1.1.1.1.1.1.1.1 in
    simp length-append (omega (arith, mark, joined, purged, removed, writes))

pub change_short : (version before schema : ℕ) (c : Change) → HasBody version before schema c → IsShortChange c
change_short version before schema c q = subst IsShortChange (sym q.says) (body_short version before schema q.body q.in_range)

pub change_long : (before schema : ℕ) (c : Change) → HasBody 2 before schema c → length (change_bytes 2 c) ≡ change_length c
change_long before schema c q =
    subst (λ (d : Change). length (change_bytes 2 d) ≡ change_length d) (sym q.says) (ap (λ (bytes : List ℕ). length bytes) (bytes_are 2 q.body) ∙ body_long before schema q.body q.in_range)
