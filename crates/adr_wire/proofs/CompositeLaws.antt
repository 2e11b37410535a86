-- Each composite is spelled in one way.
use Rattle.std.proofs.Common.{◌≡◌, ℕ, ◌≤◌, true, false, leb, eqb, List, [], ◌∷◌, ◌++◌, length, Option, Some, None, Ok, refl, sym, ap, subst, ◌∙◌, arith}
use Rattle.std.specs.Prelude.{MatchBool}
use Rattle.std.specs.List.{flat_map, AllByRecursion}
use Rattle.std.specs.Ordering.{nat_cmp}
use Rattle.std.proofs.lemmas.Bool.{eqb-true, leb-true, le-leb}
use Rattle.adr_values.specs.declared.content.Value.{Value as Item}
use Rattle.adr_values.specs.declared.content.Value.TheVariants.{Text, Number, Flag, Octets, Ref}
use Rattle.adr_values.specs.declared.content.Content.{Content}
use Rattle.adr_values.specs.declared.content.Content.TheVariants.{Class, Name, Dead, Values}
use Rattle.adr_wire.specs.Reading.{Reading, ◌>>=◌, as_at, where_at, then_at, is_above}
use Rattle.adr_wire.specs.Fields.{u8_at, u16_at, u64_at, i64_at, id_at, flag_at, usn_at, usn0_at, version_at, octets_at, text_at, u8, u16, u32, u64, i64, id, flag, octets, text}
use Rattle.adr_wire.specs.Composites.{mark_at, mark, is_ordered, ordered_mark_at, oid_at, oid, stamp_at, stamp, value_of, value_at, kind_of, told, value, one_key, values_at, content_at, content, Row, row_of, row_above, row_at, row, rows_at, object_at, object, link_key_at, link_key, link_stamp_at, link_stamp, link_at, link}
use Rattle.adr_wire.specs.Spelling.{IsSpelling}
use Rattle.adr_wire.specs.Ranges.{IsU8, IsU16, IsU64, IsI64, IsId, IsFlag, IsUsn, IsUsn0, IsVersion, IsOctets, IsText, IsMark, IsOrderedMark, IsOid, IsStamp, IsValue, IsContent, IsRow, InTurn, IsRowAbove, RowsRise, IsObject, IsLink}
use Rattle.adr_wire.proofs.Combining.{MadeOf, made, in_range_too, passed, both, pair, followed, either, never, nothing, elements_spelled, counted}
use Rattle.adr_wire.proofs.FieldLaws.{u8_spelled, u16_spelled, u64_spelled, i64_spelled, id_spelled, flag_spelled, usn_spelled, usn0_spelled, version_spelled, octets_spelled, text_spelled}

-- ---- marks, names and stamps

pub mark_spelled : IsSpelling IsMark mark mark_at
unfolding mark_at
mark_spelled =
    made _ _ _ (pair IsUsn0 u64 usn0_at usn0_spelled (λ p. IsUsn0 p.0 × IsUsn0 p.1) (λ p. u64 p.0 ++ u64 p.1) (then_at usn0_at (λ _. usn0_at)) (pair IsUsn0 u64 usn0_at usn0_spelled IsUsn0 u64 usn0_at usn0_spelled))
    (λ p. record { obj = p.0; prop = p.1.0; seen = p.1.1 }) IsMark mark
    (λ m q. ((m.obj, (m.prop, m.seen)), refl, q, refl)) (λ p q fits. (q, refl))

pub ordered_mark_spelled : IsSpelling IsOrderedMark mark ordered_mark_at
ordered_mark_spelled = passed IsMark mark mark_at mark_spelled is_ordered

pub oid_spelled : IsSpelling IsOid oid oid_at
unfolding oid_at
oid_spelled =
    made _ _ _ (pair IsId id id_at id_spelled (λ p. IsId p.0 × IsUsn p.1) (λ p. id p.0 ++ u64 p.1) (then_at id_at (λ _. usn_at)) (pair IsId id id_at id_spelled IsUsn u64 usn_at usn_spelled))
    (λ p. record { guid = p.0; birth = record { inv = p.1.0; usn = p.1.1 } }) IsOid oid
    (λ o q. ((o.guid, (o.birth.inv, o.birth.usn)), refl, q, refl)) (λ p q fits. (q, refl))

pub stamp_spelled : IsSpelling IsStamp stamp stamp_at
unfolding stamp_at
stamp_spelled =
    made _ _ _
    (pair IsVersion u32 version_at version_spelled (λ p. IsU64 p.0 × (IsId p.1.0 × IsUsn p.1.1)) (λ p. u64 p.0 ++ (id p.1.0 ++ u64 p.1.1)) (then_at u64_at (λ _. then_at id_at (λ _. usn_at)))
    (pair IsU64 u64 u64_at u64_spelled (λ p. IsId p.0 × IsUsn p.1) (λ p. id p.0 ++ u64 p.1) (then_at id_at (λ _. usn_at)) (pair IsId id id_at id_spelled IsUsn u64 usn_at usn_spelled)))
    (λ p. record { version = p.0; time = p.1.0; inv = p.1.1.0; usn = p.1.1.1 }) IsStamp stamp
    (λ s q. ((s.version, (s.time, (s.inv, s.usn))), refl, q, refl)) (λ p q fits. (q, refl))

-- ---- what stands behind its kind, a number of one byte

pub kinded : {E : Type 0} (kind_of : E → ℕ) (P : E → Type 0) (told : E → List ℕ) (read : ℕ → ℕ → Reading E) → ((e : E) → IsU8 (kind_of e)) → ((place kind : ℕ) → IsSpelling (λ e. P e × (kind_of e ≡ kind)) told (read place kind))
    → IsSpelling P (λ e. u8 (kind_of e) ++ told e) (λ rest. u8_at rest >>= λ k. read rest.place k.0 k.1)
kinded kind_of P told read small laws =
    in_range_too (λ e. IsU8 (kind_of e) × P e) (λ e. u8 (kind_of e) ++ told e) (λ rest. u8_at rest >>= λ k. read rest.place k.0 k.1)
    (followed IsU8 u8 u8_at u8_spelled kind_of P told read (λ place kind h. laws place kind))
    P (λ e h. (small e, h)) (λ e h. h.1)

-- ---- values

-- what a value of a kind says
abbrev Says : ℕ → Item → Type 0
Says kind v =
    MatchBool (eqb kind 1) (MadeOf IsText text Text told v)
    (MatchBool (eqb kind 2) (MadeOf IsI64 i64 Number told v)
    (MatchBool (eqb kind 3) (MadeOf IsFlag flag Flag told v)
    (MatchBool (eqb kind 4) (MadeOf IsOctets octets Octets told v)
    (MatchBool (eqb kind 5) (MadeOf IsId id Ref told v) ⊥))))

says : (v : Item) → IsValue v → Says (kind_of v) v
says (Text t) q = (t, refl, q, refl)
says (Number n) q = (n, refl, q, refl)
says (Flag b) q = (b, refl, tt, refl)
says (Octets o) q = (o, refl, q, refl)
says (Ref guid) q = (guid, refl, q, refl)

module _ (place kind : ℕ) where
  abbrev OfKind : Item → Type 0
  OfKind v = IsValue v × (kind_of v ≡ kind)

  out : (k : ℕ) → kind ≡ k → (v : Item) → OfKind v → Says k v
  out k e v q = subst (λ (n : ℕ). Says n v) (q.1 ∙ e) (says v q.0)

  of_text : kind ≡ 1 → IsSpelling OfKind told (as_at Text text_at)
  of_text e = made IsText text text_at text_spelled Text OfKind told (out 1 e) (λ t p fits. ((p, sym e), refl))

  of_number : kind ≡ 2 → IsSpelling OfKind told (as_at Number i64_at)
  of_number e = made IsI64 i64 i64_at i64_spelled Number OfKind told (out 2 e) (λ n p fits. ((p, sym e), refl))

  of_flag : kind ≡ 3 → IsSpelling OfKind told (as_at Flag flag_at)
  of_flag e = made IsFlag flag flag_at flag_spelled Flag OfKind told (out 3 e) (λ b p fits. ((tt, sym e), refl))

  of_octets : kind ≡ 4 → IsSpelling OfKind told (as_at Octets octets_at)
  of_octets e = made IsOctets octets octets_at octets_spelled Octets OfKind told (out 4 e) (λ o p fits. ((p, sym e), refl))

  of_ref : kind ≡ 5 → IsSpelling OfKind told (as_at Ref id_at)
  of_ref e = made IsId id id_at id_spelled Ref OfKind told (out 5 e) (λ guid p fits. ((p, sym e), refl))

  of_kind : IsSpelling OfKind told (value_of place kind)
  of_kind =
      either OfKind told (eqb kind 1) _ _ (λ e. of_text (eqb-true kind 1 e)) (λ n1.
      either OfKind told (eqb kind 2) _ _ (λ e. of_number (eqb-true kind 2 e)) (λ n2.
      either OfKind told (eqb kind 3) _ _ (λ e. of_flag (eqb-true kind 3 e)) (λ n3.
      either OfKind told (eqb kind 4) _ _ (λ e. of_octets (eqb-true kind 4 e)) (λ n4.
      either OfKind told (eqb kind 5) _ _ (λ e. of_ref (eqb-true kind 5 e)) (λ n5.
      never OfKind told place (λ v q. rw (n1, n2, n3, n4, n5) at (out kind refl v q)))))))

small : (v : Item) → IsU8 (kind_of v)
small (Text t) = omega arith
small (Number n) = omega arith
small (Flag b) = omega arith
small (Octets o) = omega arith
small (Ref guid) = omega arith

pub value_spelled : IsSpelling IsValue value value_at
unfolding value_at
value_spelled = kinded kind_of IsValue told value_of small of_kind

-- ---- contents

all_in_turn : (last : Option (Unit {0})) (vs : List Item) → AllByRecursion IsValue vs → InTurn one_key (λ _. IsValue) last vs
all_in_turn last [] h = tt
all_in_turn last (v ∷ vs) h = (h.0, all_in_turn (Some tt) vs h.1)

all_from_turn : (last : Option (Unit {0})) (vs : List Item) → InTurn one_key (λ _. IsValue) last vs → AllByRecursion IsValue vs
all_from_turn last [] h = tt
all_from_turn last (v ∷ vs) h = (h.0, all_from_turn (Some tt) vs h.1)

module _ (attr : ℕ) where
  of_class : eqb attr 1 ≡ true → IsSpelling (IsContent attr) content (as_at Class u16_at)
  of_class e = made IsU16 u16 u16_at u16_spelled Class (IsContent attr) content out (λ n p fits. ((e, p), refl))
    where
      out : (c : Content) → IsContent attr c → (n : ℕ) × (c ≡ Class n) × IsU16 n × (content c ≡ u16 n)
      out (Class n) q = (n, refl, q.1, refl)
      out (Name t parent) q = absurd (let a = eqb-true attr 1 e in let b = eqb-true attr 2 q.0 in omega arith)
      out Dead q = absurd (let a = eqb-true attr 1 e in let b = eqb-true attr 3 q in omega arith)
      out (Values vs) q = absurd (let f = q.0 in cc)

  of_name : eqb attr 2 ≡ true → IsSpelling (IsContent attr) content (as_at (λ p. Name p.1 p.0) (then_at id_at (λ _. text_at)))
  of_name e = made _ _ _ (pair IsId id id_at id_spelled IsText text text_at text_spelled) (λ p. Name p.1 p.0) (IsContent attr) content out (λ p q fits. ((e, q), refl))
    where
      out : (c : Content) → IsContent attr c → (p : List ℕ × List ℕ) × (c ≡ Name p.1 p.0) × (IsId p.0 × IsText p.1) × (content c ≡ id p.0 ++ text p.1)
      out (Class n) q = absurd (let a = eqb-true attr 2 e in let b = eqb-true attr 1 q.0 in omega arith)
      out (Name t parent) q = ((parent, t), refl, q.1, refl)
      out Dead q = absurd (let a = eqb-true attr 2 e in let b = eqb-true attr 3 q in omega arith)
      out (Values vs) q = absurd (let f = q.1 in cc)

  of_dead : eqb attr 3 ≡ true → IsSpelling (IsContent attr) content (λ rest. Ok (Dead, rest))
  of_dead e = nothing (IsContent attr) content Dead e refl out
    where
      out : (c : Content) → IsContent attr c → c ≡ Dead
      out (Class n) q = absurd (let a = eqb-true attr 3 e in let b = eqb-true attr 1 q.0 in omega arith)
      out (Name t parent) q = absurd (let a = eqb-true attr 3 e in let b = eqb-true attr 2 q.0 in omega arith)
      out Dead q = refl
      out (Values vs) q = absurd (let f = q.2 in cc)

  of_values : eqb attr 1 ≡ false → eqb attr 2 ≡ false → eqb attr 3 ≡ false → IsSpelling (IsContent attr) content (as_at (λ p. Values p.1) (then_at u8_at values_at))
  unfolding values_at
  of_values n1 n2 n3 =
      made (λ p. IsU8 p.0 × (InTurn one_key (λ _. IsValue) None p.1 × (length p.1 ≡ p.0))) (λ p. u8 p.0 ++ flat_map value p.1) (then_at u8_at values_at)
      (both IsU8 u8 u8_at u8_spelled (λ n vs. InTurn one_key (λ _. IsValue) None vs × (length vs ≡ n)) (λ n vs. flat_map value vs) values_at
      (λ n h. elements_spelled one_key (λ _. IsValue) value (λ _. value_at) (λ _. value_spelled) n None))
      (λ p. Values p.1) (IsContent attr) content out
      (λ p q fits. ((n1, n2, n3, subst IsU8 (sym q.1.1) q.0, all_from_turn None p.1 q.1.0), ap (λ (n : ℕ). u8 n ++ flat_map value p.1) q.1.1))
    where
      out : (c : Content) → IsContent attr c → (p : ℕ × List Item) × (c ≡ Values p.1) × (IsU8 p.0 × (InTurn one_key (λ _. IsValue) None p.1 × (length p.1 ≡ p.0))) × (content c ≡ u8 p.0 ++ flat_map value p.1)
      out (Class n) q = absurd (let f = q.0 in cc)
      out (Name t parent) q = absurd (let f = q.0 in cc)
      out Dead q = absurd (let f = n3 in cc)
      out (Values vs) q = ((length vs, vs), refl, (q.3, (all_in_turn None vs q.4, refl)), refl)

  pub content_spelled : IsSpelling (IsContent attr) content (content_at attr)
  unfolding content_at
  content_spelled =
      either (IsContent attr) content (eqb attr 1) _ _ of_class (λ n1.
      either (IsContent attr) content (eqb attr 2) _ _ of_name (λ n2.
      either (IsContent attr) content (eqb attr 3) _ _ of_dead (λ n3. of_values n1 n2 n3)))

-- ---- rows and objects

abbrev pub IsBehind : Row → Type 0
IsBehind r = IsStamp r.1 × IsContent r.0 r.2

abbrev pub behind_attr : Row → List ℕ
behind_attr r = stamp r.1 ++ content r.2

pub row_of_spelled : (attr : ℕ) → IsSpelling (λ r. IsBehind r × (r.0 ≡ attr)) behind_attr (row_of attr)
unfolding row_of
row_of_spelled attr =
    made (λ p. IsStamp p.0 × IsContent attr p.1) (λ p. stamp p.0 ++ content p.1) (then_at stamp_at (λ _. content_at attr)) (pair IsStamp stamp stamp_at stamp_spelled (IsContent attr) content (content_at attr) (content_spelled attr))
    (λ p. (attr, p.0, p.1)) (λ r. IsBehind r × (r.0 ≡ attr)) behind_attr
    (λ r q. ((r.1, r.2), (λ i. (q.1 i, r.1, r.2)), (q.0.0, subst (λ (a : ℕ). IsContent a r.2) q.1 q.0.1), refl))
    (λ p q fits. ((q, refl), refl))

pub row_above_spelled : (last : Option ℕ) → IsSpelling (IsRowAbove last) row (row_above last)
unfolding row_above
row_above_spelled last =
    in_range_too (λ r. (IsU16 r.0 × (is_above nat_cmp last r.0 ≡ true)) × IsBehind r) row (row_above last)
    (followed (λ k. IsU16 k × (is_above nat_cmp last k ≡ true)) u16 (where_at (is_above nat_cmp last) u16_at) (passed IsU16 u16 u16_at u16_spelled (is_above nat_cmp last)) (λ r. r.0) IsBehind behind_attr (λ _. row_of) (λ place k h. row_of_spelled k))
    (IsRowAbove last) (λ r h. ((h.0.0, h.1), h.0.1)) (λ r h. ((h.0.0, h.1), h.0.1))

pub row_spelled : IsSpelling IsRow row row_at
row_spelled = in_range_too (IsRowAbove None) row row_at (row_above_spelled None) IsRow (λ r h. (h, refl)) (λ r h. h.0)

pub object_spelled : IsSpelling IsObject object object_at
unfolding object_at rows_at
object_spelled =
    pair IsOid oid oid_at oid_spelled (λ rs. ((1 ≤ length rs) × IsU16 (length rs)) × RowsRise rs) (λ rs. u16 (length rs) ++ flat_map row rs) _
    (counted (λ r. r.0) IsRowAbove row row_above row_above_spelled (λ n. (1 ≤ n) × IsU16 n) u16 (where_at (leb 1) u16_at)
    (in_range_too (λ n. IsU16 n × (leb 1 n ≡ true)) u16 (where_at (leb 1) u16_at) (passed IsU16 u16 u16_at u16_spelled (leb 1)) (λ n. (1 ≤ n) × IsU16 n)
    (λ n h. (h.1, le-leb 1 n h.0)) (λ n h. (leb-true 1 n h.1, h.0))))

-- ---- links

pub link_key_spelled : IsSpelling (λ k. IsOid k.from × (IsU16 k.attr × IsOid k.to)) link_key link_key_at
unfolding link_key_at
link_key_spelled =
    made _ _ _ (pair IsOid oid oid_at oid_spelled (λ p. IsU16 p.0 × IsOid p.1) (λ p. u16 p.0 ++ oid p.1) (then_at u16_at (λ _. oid_at)) (pair IsU16 u16 u16_at u16_spelled IsOid oid oid_at oid_spelled))
    (λ p. record { from = p.0; attr = p.1.0; to = p.1.1 }) (λ k. IsOid k.from × (IsU16 k.attr × IsOid k.to)) link_key
    (λ k q. ((k.from, (k.attr, k.to)), refl, q, refl)) (λ p q fits. (q, refl))

pub link_stamp_spelled : IsSpelling (λ s. IsU64 s.created × IsStamp s.stamp) link_stamp link_stamp_at
unfolding link_stamp_at
link_stamp_spelled =
    made _ _ _ (pair IsU64 u64 u64_at u64_spelled IsStamp stamp stamp_at stamp_spelled)
    (λ p. record { created = p.0; stamp = p.1 }) (λ s. IsU64 s.created × IsStamp s.stamp) link_stamp
    (λ s q. ((s.created, s.stamp), refl, q, refl)) (λ p q fits. (q, refl))

pub link_spelled : IsSpelling IsLink link link_at
unfolding link_at
link_spelled =
    made _ _ _
    (pair (λ k. IsOid k.from × (IsU16 k.attr × IsOid k.to)) link_key link_key_at link_key_spelled (λ p. (IsU64 p.0.created × IsStamp p.0.stamp) × IsFlag p.1) (λ p. link_stamp p.0 ++ flag p.1) (then_at link_stamp_at (λ _. flag_at))
    (pair (λ s. IsU64 s.created × IsStamp s.stamp) link_stamp link_stamp_at link_stamp_spelled IsFlag flag flag_at flag_spelled))
    (λ p. (p.0, p.1.0, p.1.1)) IsLink link
    (λ l q. ((l.0, (l.1, l.2)), refl, (q.0, (q.1, tt)), refl)) (λ p q fits. ((q.0, q.1.0), refl))
