-- A change that can follow, and whose rows are in range, has a body.
use Rattle.std.proofs.Common.{◌≡◌, ℕ, suc, ◌+◌, ◌≤◌, ◌<◌, ◌^◌, Bool, true, false, cond, eqb, leb, ltb, List, [], ◌∷◌, length, map, Option, Some, None, refl, sym, ap, subst, ◌∙◌, inl, inr, arith}
use Rattle.std.specs.Prelude.{◌⊎◌}
use Rattle.std.specs.List.{AllByRecursion}
use Rattle.std.specs.List.Sorted.{IsStrictlySortedBy}
use Rattle.std.specs.Option.{IfSome}
use Rattle.std.specs.Ordering.{is_lt, nat_cmp, ordering_then}
use Rattle.std.specs.declared.cmp.Ordering.{Ordering}
use Rattle.std.specs.declared.cmp.Ordering.TheVariants.{Less, Equal, Greater}
use Rattle.std.proofs.lemmas.Bool.{and_from, and_parts, eq-eqb, eqb-true, le-leb, leb-true, lt-ltb, ltb-true, ltb-false}
use Rattle.std.proofs.lemmas.Cmp.{tied_itself}
use Rattle.adr_values.specs.declared.stamp.LinkKey.{LinkKey}
use Rattle.adr_values.specs.declared.stamp.LinkStamp.{LinkStamp}
use Rattle.adr_values.specs.declared.stamp.Oid.{Oid}
use Rattle.adr_values.specs.declared.stamp.Unit.{Unit as Named}
use Rattle.adr_values.specs.declared.stamp.Unit.TheVariants.{Object, Link}
use Rattle.adr_values.specs.Order.{link_order}
use Rattle.adr_values.specs.contracts.stamp.OidOrd.TheImpl.Laws.{total-law as objects_total}
use Rattle.adr_values.proofs.Units.{units_total}
use Rattle.adr_values.specs.Table.{Table}
use Rattle.adr_values.specs.declared.content.Content.{Content}
use Rattle.adr_values.specs.declared.content.Content.TheVariants.{Dead}
use Rattle.adr_values.specs.Vector.{Cursors}
use Rattle.adr_wire.specs.Composites.{Row}
use Rattle.adr_wire.specs.Pieces.{Piece, OfRows, OfLink, IsPiece}
use Rattle.adr_wire.specs.Ranges.{InTurn, IsId, IsMark, IsOid, IsRow, IsRowAbove, IsUsn0}
use Rattle.adr_wire.specs.Reading.{is_above}
use Rattle.adr_law_lengths.specs.Written.{update_of}
use Rattle.adr_model.specs.Change.{Change, Item, Written, unchanged, updates_written}
use Rattle.adr_model.specs.LocalLog.{IsOrdered}
use Rattle.adr_model.specs.Member.{Each, Member}
use Rattle.adr_model.specs.Serve.{is_quarantined}
use Rattle.adr_model.specs.Store.{Held, Mode, Normal, Quarantined, State}
use Rattle.adr_model.specs.Lengths.{area_version}
use Rattle.adr_model.specs.Take.{is_reserved_row}
use Rattle.adr_model.specs.Update.{Key, RowOf, LinkOf, Said, Holds, IsPresent, Update, key_order, unit_of, deleted_attr}
use Rattle.adr_model.proofs.Members.{member_flat}
use Rattle.adr_law_calls.specs.Follow.{CanFollow, MayFollowInTurn, after_write}
use Rattle.adr_model.specs.Spelled.{AreLocalsRising, IsSpelledItem, IsSpelledWrite}
use Rattle.adr_law_calls.specs.Taken.{AreBare}
use Rattle.adr_image.specs.Body.{IsMarkIf, IsWrite, Write, one_name}
use Rattle.adr_image.specs.Changes.{HasBody, item_of, mode_of_flag, written_of}
use Rattle.adr_image.specs.Image.{Marked}
use Rattle.adr_image.specs.Whole.{is_schema}
use Rattle.adr_image.proofs.WholeLaws.{number_small}
use Rattle.adr_image.specs.Stored.{IsSpelledRow}
use Rattle.adr_image.proofs.Taking.{less_is, unchain}
use Rattle.adr_image.proofs.Writing.{mapped_long}
use Rattle.adr_records.specs.Logged.{IsLogged, MayBeRecorded}
use Rattle.adr_law_recorded.specs.InRange.{IsInRange}

-- ---- numbers that rise are few

above_it : (a : ℕ) (ns : List ℕ) → AllByRecursion (λ b. nat_cmp a b ≡ Less) ns → AllByRecursion (λ b. suc a ≤ b) ns
above_it a [] all = tt
above_it a (b ∷ bs) all = let less = less_is a b all.0 in (omega (arith, less), above_it a bs all.1)

few : (lo hi : ℕ) (ns : List ℕ) → lo ≤ hi → AllByRecursion (λ a. lo ≤ a) ns → AllByRecursion (λ a. a < hi) ns
    → IsStrictlySortedBy nat_cmp ns → lo + length ns ≤ hi
unfolding IsStrictlySortedBy
few lo hi [] le above below rise = omega arith
few lo hi (a ∷ ns) le above below rise =
    let rest = few (suc a) hi ns (omega (arith, below.0)) (above_it a ns rise.0) below.1 rise.1 in
    omega (arith, above.0, rest)

-- there are fewer where one of them is missing
fewer : (lo hi gap : ℕ) (ns : List ℕ) → lo ≤ gap → gap < hi → AllByRecursion (λ a. lo ≤ a) ns
    → AllByRecursion (λ a. a < hi) ns → AllByRecursion (λ a. a ≡ gap → ⊥) ns → IsStrictlySortedBy nat_cmp ns
    → lo + length ns < hi
unfolding IsStrictlySortedBy
fewer lo hi gap [] le lt above below other rise = omega arith
fewer lo hi gap (a ∷ ns) le lt above below other rise = by (ltb a gap) refl
    (λ less. fewer (suc a) hi gap ns less lt (above_it a ns rise.0) below.1 other.1 rise.1)
  where
    by : (t : Bool) → ltb a gap ≡ t → (suc a ≤ gap → suc a + length ns < hi) → lo + suc (length ns) < hi
    by true t rest =
        let less = ltb-true a gap t in
        let behind = rest (omega (arith, less)) in
        omega (arith, above.0, behind)
    by false t unused =
        let not_less = ltb-false a gap t in
        let is_other = other.0 in
        let rest = few (suc a) hi ns (omega (arith, below.0)) (above_it a ns rise.0) below.1 rise.1 in
        omega (arith, not_less, is_other, rest)

-- ---- updates as the rows of a piece

abbrev attr_of : Key → ℕ
attr_of (RowOf o attr) = attr
attr_of (LinkOf l) = l.attr

abbrev content_of : Said → Content
content_of (Holds content) = content
content_of (IsPresent b) = Dead

abbrev row_for : Update → Row
row_for u = (attr_of u.key, u.stamp.stamp, content_of u.said)

abbrev attrs : List Update → List ℕ
attrs us = map (λ (r : Row). r.0) (map row_for us)

abbrev IsRightUpdate : Update → Type 0
IsRightUpdate u = IsSpelledRow u.key u.said u.stamp

abbrev keys : List Update → List Key
keys us = map (λ (u : Update). u.key) us

all_attrs : (P : ℕ → Type 0) (us : List Update) → Each (λ u. P (attr_of u.key)) us → AllByRecursion P (attrs us)
all_attrs P [] each = tt
all_attrs P (u ∷ us) each = (each u (inl refl), all_attrs P us (λ v m. each v (inr m)))

attrs_long : (us : List Update) → length (attrs us) ≡ length us
attrs_long us = mapped_long (λ (r : Row). r.0) (map row_for us) ∙ mapped_long row_for us

-- a row of an attribute is there, or none is
there_or_not : (attr : ℕ) (us : List Update)
    → ((u : Update) × Member u us × (attr_of u.key ≡ attr)) ⊎ Each (λ u. attr_of u.key ≡ attr → ⊥) us
there_or_not attr [] = inr (λ u m. absurd m)
there_or_not attr (u ∷ us) = by (eqb (attr_of u.key) attr) refl (there_or_not attr us)
  where
    by : (t : Bool) → eqb (attr_of u.key) attr ≡ t
        → ((v : Update) × Member v us × (attr_of v.key ≡ attr)) ⊎ Each (λ v. attr_of v.key ≡ attr → ⊥) us
        → ((v : Update) × Member v (u ∷ us) × (attr_of v.key ≡ attr)) ⊎ Each (λ v. attr_of v.key ≡ attr → ⊥) (u ∷ us)
    by true is rest = inl (u, inl refl, eqb-true (attr_of u.key) attr is)
    by false is (inl r) = inl (r.0, inr r.1, r.2)
    by false is (inr none) = inr each
      where
        each : Each (λ v. attr_of v.key ≡ attr → ⊥) (u ∷ us)
        each v (inl e) same = let here : eqb (attr_of u.key) attr ≡ true = eq-eqb (attr_of u.key) attr (ap (λ (w : Update). attr_of w.key) (sym e) ∙ same) in cc
        each v (inr m) same = none v m same

-- ---- the rows of an object

module _ (o : Oid) where
  abbrev IsOf : Update → Type 0
  IsOf u = unit_of u.key ≡ Object o

  named : (p : Oid) → Object p ≡ Object o → p ≡ o
  named p e = cc

  key_is : (k : Key) → unit_of k ≡ Object o → k ≡ RowOf o (attr_of k)
  key_is (RowOf p attr) e = ap (λ q. RowOf q attr) (named p e)
  key_is (LinkOf l) e = absurd (cc)

  row_is : (k : Key) (said : Said) (stamp : LinkStamp) → unit_of k ≡ Object o → IsSpelledRow k said stamp
      → update_of o (attr_of k, stamp.stamp, content_of said) ≡ (let u : Update = record { key = k; stamp = stamp; said = said } in u)
  row_is (RowOf p attr) (Holds content) stamp e q =
      ap (λ r. let u : Update = record { key = RowOf r attr; stamp = record { created = 0; stamp = stamp.stamp }; said = Holds content } in u) (sym (named p e))
      ∙ ap (λ n. let u : Update = record { key = RowOf p attr; stamp = record { created = n; stamp = stamp.stamp }; said = Holds content } in u) (sym q.4)
  row_is (RowOf p attr) (IsPresent b) stamp e q = absurd q
  row_is (LinkOf l) said stamp e q = absurd (cc)

  row_right : (k : Key) (said : Said) (stamp : LinkStamp) → unit_of k ≡ Object o → IsSpelledRow k said stamp
      → IsRow (attr_of k, stamp.stamp, content_of said)
  row_right (RowOf p attr) (Holds content) stamp e q = (q.1, (q.3, q.2))
  row_right (RowOf p attr) (IsPresent b) stamp e q = absurd q
  row_right (LinkOf l) said stamp e q = absurd (cc)

  name_right : (k : Key) (said : Said) (stamp : LinkStamp) → unit_of k ≡ Object o → IsSpelledRow k said stamp → IsOid o
  name_right (RowOf p attr) (Holds content) stamp e q = subst IsOid (named p e) q.0
  name_right (RowOf p attr) (IsPresent b) stamp e q = absurd q
  name_right (LinkOf l) said stamp e q = absurd (cc)

  rows_are : (us : List Update) → Each IsOf us → Each IsRightUpdate us → map (update_of o) (map row_for us) ≡ us
  rows_are [] of_it right = refl
  rows_are (u ∷ us) of_it right =
      ap (λ v. v ∷ map (update_of o) (map row_for us)) (row_is u.key u.said u.stamp (of_it u (inl refl)) (right u (inl refl)))
      ∙ ap (λ vs. u ∷ vs) (rows_are us (λ v m. of_it v (inr m)) (λ v m. right v (inr m)))

  -- ---- in order

  attr_below : (a : ℕ) (k : Key) → unit_of k ≡ Object o → key_order (RowOf o a) k ≡ Less → nat_cmp a (attr_of k) ≡ Less
  attr_below a k is less =
      ap (λ (w : Ordering). ordering_then w (nat_cmp a (attr_of k))) (sym (tied_itself objects_total o))
      ∙ subst (λ j. key_order (RowOf o a) j ≡ Less) (key_is k is) less

  attrs_below : (a : ℕ) (us : List Update) → Each IsOf us
      → AllByRecursion (λ k. key_order (RowOf o a) k ≡ Less) (keys us)
      → AllByRecursion (λ b. nat_cmp a b ≡ Less) (attrs us)
  attrs_below a [] of_it all = tt
  attrs_below a (u ∷ us) of_it all = (attr_below a u.key (of_it u (inl refl)) all.0, attrs_below a us (λ v m. of_it v (inr m)) all.1)

  attrs_rise : (us : List Update) → Each IsOf us → IsStrictlySortedBy key_order (keys us)
      → IsStrictlySortedBy nat_cmp (attrs us)
  unfolding IsStrictlySortedBy
  attrs_rise [] of_it rise = tt
  attrs_rise (u ∷ us) of_it rise = (
    attrs_below (attr_of u.key) us (λ v m. of_it v (inr m)) (subst (λ j. AllByRecursion (λ k. key_order j k ≡ Less) (keys us)) (key_is u.key (of_it u (inl refl))) rise.0),
    attrs_rise us (λ v m. of_it v (inr m)) rise.1,
  )

  in_turn : (last : Option ℕ) (us : List Update) → Each IsOf us → Each IsRightUpdate us
      → InTurn (λ (r : Row). r.0) (λ last r. is_above nat_cmp last r.0 ≡ true) last (map row_for us)
      → InTurn (λ (r : Row). r.0) IsRowAbove last (map row_for us)
  in_turn last [] of_it right turn = tt
  in_turn last (u ∷ us) of_it right turn = (
    (row_right u.key u.said u.stamp (of_it u (inl refl)) (right u (inl refl)), turn.0),
    in_turn (Some (attr_of u.key)) us (λ v m. of_it v (inr m)) (λ v m. right v (inr m)) turn.1,
  )

  -- ---- few rows

  attr_right : (k : Key) (said : Said) (stamp : LinkStamp) → IsSpelledRow k said stamp → attr_of k < 2 ^ 16
  attr_right (RowOf p attr) (Holds content) stamp q = q.1
  attr_right (RowOf p attr) (IsPresent b) stamp q = absurd q
  attr_right (LinkOf l) (Holds content) stamp q = absurd q
  attr_right (LinkOf l) (IsPresent b) stamp q = q.1

  reserved : (k : Key) → is_reserved_row k ≡ true → (1 ≤ attr_of k) × (attr_of k < 4)
  reserved (RowOf p attr) is =
      let both = and_parts (leb 1 attr) (leb attr 3) is in
      let most = leb-true attr 3 both.1 in
      (leb-true 1 attr both.0, omega (arith, most))
  reserved (LinkOf l) is = absurd (cc)

  few_rows : (us : List Update) → Each IsOf us → Each IsRightUpdate us → AreBare us
      → IsStrictlySortedBy nat_cmp (attrs us) → length us < 2 ^ 16
  few_rows us of_it right bare rise = by (there_or_not deleted_attr us)
    where
      by : ((u : Update) × Member u us × (attr_of u.key ≡ deleted_attr)) ⊎ Each (λ u. attr_of u.key ≡ deleted_attr → ⊥) us
          → length us < 2 ^ 16
      by (inl d) =
          let each : Each (λ u. is_reserved_row u.key ≡ true) us = bare d.0 d.1 (o, key_is d.0.key (of_it d.0 d.1) ∙ ap (λ a. RowOf o a) d.2) in
          let most = few 1 4 (attrs us) (omega arith) (all_attrs (λ a. 1 ≤ a) us (λ u m. (reserved u.key (each u m)).0)) (all_attrs (λ a. a < 4) us (λ u m. (reserved u.key (each u m)).1)) rise in
          let long = attrs_long us in
          omega (arith, most, long)
      by (inr none) =
          let most = fewer 0 (2 ^ 16) deleted_attr (attrs us) (omega arith) (omega arith) (all_attrs (λ a. 0 ≤ a) us (λ u m. omega arith))
          (all_attrs (λ a. a < 2 ^ 16) us (λ u m. attr_right u.key u.said u.stamp (right u m))) (all_attrs (λ a. a ≡ deleted_attr → ⊥) us none) rise in
          let long = attrs_long us in
          omega (arith, most, long)

some_long : (us : List Update) (u : Update) → Member u us → 1 ≤ length us
some_long [] u m = absurd m
some_long (x ∷ xs) u m = omega arith

-- ---- pieces

-- a piece in range that is this item
pub record HasPiece (i : Item) : Type 0 where
  pub piece : Piece
  pub in_range : IsPiece piece
  pub says : item_of piece ≡ i

object_piece : (o : Oid) (us : List Update) → ((u : Update) × Member u us)
    → IsSpelledItem (record { unit = Object o; rows = us }) → AreBare us → Each IsRightUpdate us
    → HasPiece (record { unit = Object o; rows = us })
object_piece o us some form bare right =
    let rise = attrs_rise o us form.of_unit form.rising in
    let long = mapped_long row_for us in
    let least = some_long us some.0 some.1 in
    let most = few_rows o us form.of_unit right bare rise in
    record {
      piece = OfRows (o, map row_for us);
      in_range = (
        name_right o some.0.key some.0.said some.0.stamp (form.of_unit some.0 some.1) (right some.0 some.1),
        ((omega (arith, long, least), omega (arith, long, most)), in_turn o None us form.of_unit right (unchain nat_cmp (λ (r : Row). r.0) None (map row_for us) rise tt)),
      );
      says = ap (λ vs. let i : Item = record { unit = Object o; rows = vs } in i) (rows_are o us form.of_unit right);
    }

one_link : (l : LinkKey) (k : Key) (said : Said) (stamp : LinkStamp) → unit_of k ≡ Link l → IsSpelledRow k said stamp
    → HasPiece (record { unit = Link l; rows = record { key = k; stamp = stamp; said = said } ∷ [] })
one_link l (RowOf o attr) said stamp e q = absurd (cc)
one_link l (LinkOf m) (Holds content) stamp e q = absurd q
one_link l (LinkOf m) (IsPresent b) stamp e q = record {
  piece = OfLink (m, stamp, b);
  in_range = ((q.0, (q.1, q.2)), (q.3, q.4));
  says = ap (λ unit. let i : Item = record { unit = unit; rows = record { key = LinkOf m; stamp = stamp; said = IsPresent b } ∷ [] } in i) e;
}

-- a link has one row
not_behind : (l : LinkKey) (j k : Key) → unit_of j ≡ Link l → unit_of k ≡ Link l → key_order j k ≡ Less → ⊥
not_behind l (RowOf o attr) k first second less = cc
not_behind l (LinkOf m) (RowOf o attr) first second less = cc
not_behind l (LinkOf m) (LinkOf n) first second less =
    let same : link_order l l ≡ Equal = tied_itself units_total (Link l) in
    let one : m ≡ l = cc in
    let two : n ≡ l = cc in
    let of_it : link_order l l ≡ Less = cc in
    cc

link_piece : (l : LinkKey) (us : List Update) → ((u : Update) × Member u us)
    → IsSpelledItem (record { unit = Link l; rows = us }) → Each IsRightUpdate us
    → HasPiece (record { unit = Link l; rows = us })
unfolding IsStrictlySortedBy
link_piece l [] some form right = absurd some.1
link_piece l (u ∷ []) some form right = one_link l u.key u.said u.stamp (form.of_unit u (inl refl)) (right u (inl refl))
link_piece l (u ∷ v ∷ vs) some form right = absurd (not_behind l u.key v.key (form.of_unit u (inl refl)) (form.of_unit v (inr (inl refl))) form.rising.0.0)

pub item_piece : (unit : Named) (us : List Update) → ((u : Update) × Member u us)
    → IsSpelledItem (record { unit = unit; rows = us }) → AreBare us → Each IsRightUpdate us
    → HasPiece (record { unit = unit; rows = us })
item_piece (Object o) us some form bare right = object_piece o us some form bare right
item_piece (Link l) us some form bare right = link_piece l us some form right

-- ---- writes

-- each write that may follow is an item with a row
in_turn_spelled : (table : Table) (vector : Cursors) (rows : List Held) (ws : List Written)
    → MayFollowInTurn table vector rows ws → Each IsSpelledWrite ws
in_turn_spelled table vector rows [] turn w m = absurd m
in_turn_spelled table vector rows (x ∷ xs) turn w (inl e) = subst IsSpelledWrite (sym e) (turn.0.form, turn.0.some)
in_turn_spelled table vector rows (x ∷ xs) turn w (inr m) = in_turn_spelled table vector (after_write rows x) xs turn.2 w m

-- writes in range that are these
pub record HasWrites (last : ℕ) (ws : List Written) : Type 0 where
  pub writes : List Write
  pub in_range : InTurn (λ (w : Write). w.0) IsWrite (Some last) writes
  pub says : map written_of writes ≡ ws

abbrev IsRightWrite : Written → Type 0
IsRightWrite w = IsSpelledWrite w × AreBare w.item.rows × Each IsRightUpdate w.item.rows

less_told : (a b : ℕ) → a < b → is_above nat_cmp (Some a) b ≡ true
less_told a b lt = ap (λ t. is_lt (cond t Less (cond (eqb a b) Equal Greater))) (lt-ltb a b lt)

has_writes : (last usn : ℕ) (ws : List Written) → usn < 2 ^ 63 → AreLocalsRising last usn ws → Each IsRightWrite ws
    → HasWrites last ws
has_writes last usn [] fits rise right = record { writes = []; in_range = tt; says = refl }
has_writes last usn (w ∷ ws) fits rise right =
    let q = right w (inl refl) in
    let p = item_piece w.item.unit w.item.rows q.0.1 q.0.0 q.1 q.2 in
    let rest = has_writes w.local usn ws fits rise.2 (λ v m. right v (inr m)) in
    let above = rise.0 in
    let most = rise.1 in
    record {
      writes = (w.local, p.piece) ∷ rest.writes;
      in_range = ((((omega (arith, above), omega (arith, most, fits)), less_told last w.local above), p.in_range), rest.in_range);
      says = ap (λ i. (let v : Written = record { local = w.local; item = i } in v) ∷ map written_of rest.writes) p.says ∙ ap (λ vs. w ∷ vs) rest.says;
    }

-- ---- a change that only writes

pub writes_in_range : (s : State) → is_schema s.store.schema ≡ true → (usn : ℕ) (mode : Mode) (writes : List Written) → IsUsn0 usn → length writes < 2 ^ 32
    → Each (λ (u : Update). IsSpelledRow u.key u.said u.stamp) (updates_written (record (unchanged s) { writes = writes }))
    → IsInRange (record (unchanged s) { usn = usn; mode = mode; writes = writes })
writes_in_range s known usn mode writes most few rows = record {
  usn = most;
  schema = known;
  mark = tt;
  joined = tt;
  times = tt;
  purged = tt;
  removed = λ o m. absurd m;
  few_removed = omega arith;
  few = few;
  rows = rows;
}

-- ---- the whole

mark_right : (m : Option Marked) → IfSome m (λ k. IsOrdered k.1.mark)
    → IfSome m (λ k. IsId k.0 × IsId k.1.inv × IsMark k.1.mark) → IsMarkIf m
mark_right None ordered q = tt
mark_right (Some k) ordered q = (
  (q.0, refl),
  (q.1, (q.2, and_from (leb k.1.mark.prop k.1.mark.obj) (leb k.1.mark.obj k.1.mark.seen) (le-leb k.1.mark.prop k.1.mark.obj ordered.prop) (le-leb k.1.mark.obj k.1.mark.seen ordered.obj))),
)

removed_right : (last : Option (Unit {0})) (os : List Oid) → Each IsOid os → InTurn one_name (λ _. IsOid) last os
removed_right last [] each = tt
removed_right last (o ∷ os) each = (each o (inl refl), removed_right (Some tt) os (λ p m. each p (inr m)))

mode_told : (m : Mode) → m ≡ mode_of_flag (is_quarantined m)
mode_told Normal = refl
mode_told Quarantined = refl

pub has_body : (s : State) (c : Change) → CanFollow s c → Each (λ w. AreBare w.item.rows) c.writes → IsInRange c
    → HasBody area_version s.store.usn s.store.schema c
has_body s c follows bare q =
    let form = in_turn_spelled _ s.store.vector s.store.rows c.writes follows.goes_on.writes in
    let w = has_writes s.store.usn c.usn c.writes q.usn follows.goes_on.locals
    (λ w m. (form w m, bare w m, λ u n. q.rows u (member_flat (λ (x : Written). x.item.rows) c.writes w u m n))) in
    let long : length w.writes ≡ length c.writes = sym (mapped_long written_of w.writes) ∙ ap length w.says in
    let fits = q.few in
    record {
      body = (c.usn, (is_quarantined c.mode, (c.schema, (c.mark, ((c.joined, c.times), (c.purged, (c.removed, w.writes)))))));
      in_range = (
        q.usn,
        (
          tt,
          (
            (number_small c.schema q.schema, q.schema),
            (
              mark_right c.mark follows.goes_on.mark q.mark,
              (
                record { is = record { cursors = (follows.goes_on.joined, q.joined); times = follows.goes_on.times; moments = q.times }; none = λ one. absurd (cc) },
                ((follows.goes_on.purged, q.purged), ((q.few_removed, removed_right None c.removed q.removed), (omega (arith, long, fits), w.in_range))),
              ),
            ),
          ),
        ),
      );
      says =
          ap (λ mode. let d : Change = record c { mode = mode } in d) (mode_told c.mode)
          ∙ ap (λ writes. let d : Change = record c { mode = mode_of_flag (is_quarantined c.mode); writes = writes } in d) (sym w.says);
    }

pub recorded : (s : State) (c : Change) → IsLogged s → CanFollow s c → Each (λ w. AreBare w.item.rows) c.writes
    → IsInRange c → MayBeRecorded s c
recorded s c logged follows bare q = record { logged = logged; follows = follows; body = has_body s c follows bare q }
