-- A spelled store stays spelled by what a body in range says.
use Rattle.std.proofs.Common.{◌≡◌, ℕ, ◌<◌, ◌^◌, Bool, true, false, cond, eqb, List, [], ◌∷◌, map, fold, Option, Some, None, refl, sym, ap, subst, ◌∙◌, inl, inr, ⊎_elim, arith}
use Rattle.std.specs.Prelude.{◌⊎◌}
use Rattle.std.specs.BTreeMap.{insert_entry}
use Rattle.std.specs.List.{AllByRecursion}
use Rattle.std.specs.List.Sorted.{IsStrictlySortedBy}
use Rattle.std.specs.Ordering.{match_ordering, ordering_reverse}
use Rattle.std.specs.Cmp.{IsTotalOrder}
use Rattle.std.specs.declared.cmp.Ordering.{Ordering}
use Rattle.std.specs.declared.cmp.Ordering.TheVariants.{Less, Equal, Greater}
use Rattle.std.proofs.lemmas.Bool.{leb-false}
use Rattle.std.proofs.lemmas.Cmp.{nat_list_cmp_total}
use Rattle.adr_values.specs.declared.stamp.Oid.{Oid}
use Rattle.adr_values.specs.Order.{identifier_order}
use Rattle.adr_values.specs.Numbered.{numbered}
use Rattle.adr_values.specs.Vector.{Cursors, at, covers, raised, joined}
use Rattle.adr_wire.specs.Composites.{Row}
use Rattle.adr_wire.specs.Pieces.{Piece, OfRows, OfLink, IsPiece}
use Rattle.adr_wire.specs.Ranges.{InTurn, IsCursor, IsId, IsMark, IsOid, IsRowAbove, IsU64, IsUsn}
use Rattle.adr_law_lengths.specs.Written.{update_of}
use Rattle.adr_model.specs.Change.{Change, Written, after, held_of, put, rows_after, with_mark, without_object}
use Rattle.adr_model.specs.Member.{Member, Each}
use Rattle.adr_model.specs.Sound.{AreClassesKnown}
use Rattle.adr_model.specs.Store.{Held, PartnerMark, State, empty_store, updates_of}
use Rattle.adr_model.specs.Update.{Identifier, Update}
use Rattle.adr_model.proofs.Members.{flat_member, mapped_member, member_mapped, of_filter}
use Rattle.adr_law_calls.proofs.Rows.{put_from}
use Rattle.adr_image.specs.Body.{IsMarkIf, IsNumber, IsWrite, NumberBy, Write}
use Rattle.adr_image.specs.Changes.{HasBody, item_of, written_of}
use Rattle.adr_image.specs.Image.{Marked}
use Rattle.adr_image.specs.Stored.{IsSpelled, IsSpelledRow}
use Rattle.adr_image.specs.Whole.{is_schema}
use Rattle.adr_image.proofs.Alone.{in_all}
use Rattle.adr_image.proofs.Storing.{all_above}

-- ---- entries that are put in

module _ {K X : Type 0} (R : K → K → Ordering) where
  inserted_all : (A : K → Type 0) (B : X → Type 0) (es : List (K × X)) (k : K) (v : X) → AllByRecursion (λ (e : K × X). A e.0 × B e.1) es → A k → B v → AllByRecursion (λ (e : K × X). A e.0 × B e.1) (insert_entry R es k v)
  inserted_all A B [] k v all a b = ((a, b), tt)
  inserted_all A B (e ∷ es) k v all a b = by (R k e.0) (inserted_all A B es k v all.1 a b)
    where
      by : (o : Ordering) → AllByRecursion (λ (f : K × X). A f.0 × B f.1) (insert_entry R es k v) → AllByRecursion (λ (f : K × X). A f.0 × B f.1) (match_ordering o ((k, v) ∷ e ∷ es) ((e.0, v) ∷ es) (e ∷ insert_entry R es k v))
      by Less rest = ((a, b), all)
      by Equal rest = ((all.0.0, b), all.1)
      by Greater rest = (all.0, rest)

  inserted_second : (B : X → Type 0) (es : List (K × X)) (k : K) (v : X) → AllByRecursion (λ (e : K × X). B e.1) es → B v → AllByRecursion (λ (e : K × X). B e.1) (insert_entry R es k v)
  inserted_second B [] k v all b = (b, tt)
  inserted_second B (e ∷ es) k v all b = by (R k e.0) (inserted_second B es k v all.1 b)
    where
      by : (o : Ordering) → AllByRecursion (λ (f : K × X). B f.1) (insert_entry R es k v) → AllByRecursion (λ (f : K × X). B f.1) (match_ordering o ((k, v) ∷ e ∷ es) ((e.0, v) ∷ es) (e ∷ insert_entry R es k v))
      by Less rest = (b, all)
      by Equal rest = (b, all.1)
      by Greater rest = (all.0, rest)

  abbrev keys : List (K × X) → List K
  keys es = map (λ (e : K × X). e.0) es

  below_inserted : (j : K) (es : List (K × X)) (k : K) (v : X) → R j k ≡ Less → AllByRecursion (λ x. R j x ≡ Less) (keys es) → AllByRecursion (λ x. R j x ≡ Less) (keys (insert_entry R es k v))
  below_inserted j [] k v less all = (less, tt)
  below_inserted j (e ∷ es) k v less all = by (R k e.0) (below_inserted j es k v less all.1)
    where
      by : (o : Ordering) → AllByRecursion (λ x. R j x ≡ Less) (keys (insert_entry R es k v)) → AllByRecursion (λ x. R j x ≡ Less) (keys (match_ordering o ((k, v) ∷ e ∷ es) ((e.0, v) ∷ es) (e ∷ insert_entry R es k v)))
      by Less rest = (less, all)
      by Equal rest = all
      by Greater rest = (all.0, rest)

  sorted_inserted : IsTotalOrder R → (es : List (K × X)) (k : K) (v : X) → IsStrictlySortedBy R (keys es) → IsStrictlySortedBy R (keys (insert_entry R es k v))
  unfolding IsStrictlySortedBy
  sorted_inserted total [] k v s = (tt, tt)
  sorted_inserted total (e ∷ es) k v s = by (R k e.0) refl (sorted_inserted total es k v s.1)
    where
      by : (o : Ordering) → R k e.0 ≡ o → IsStrictlySortedBy R (keys (insert_entry R es k v)) → IsStrictlySortedBy R (keys (match_ordering o ((k, v) ∷ e ∷ es) ((e.0, v) ∷ es) (e ∷ insert_entry R es k v)))
      by Less is rest = ((is, all_above R total k e.0 (keys es) is s.0), s)
      by Equal is rest = s
      by Greater is rest = let less : R e.0 k ≡ Less = total.antisymm e.0 k ∙ ap ordering_reverse is in (below_inserted e.0 es k v less s.0, rest)

-- ---- vectors

pub raised_spelled : (v : Cursors) (inv : Identifier) (usn : ℕ) → AllByRecursion IsCursor v → IsId inv → usn < 2 ^ 63 → AllByRecursion IsCursor (raised v inv usn)
raised_spelled v inv usn all id fits = by (covers v inv usn) refl
  where
    by : (b : Bool) → covers v inv usn ≡ b → AllByRecursion IsCursor (cond b v (insert_entry identifier_order v inv usn))
    by true e = all
    by false e = let above = leb-false usn (at v inv) e in inserted_all identifier_order IsId IsUsn v inv usn all id (omega (arith, above), fits)

joined_spelled : (v w : Cursors) → AllByRecursion IsCursor v → AllByRecursion IsCursor w → AllByRecursion IsCursor (joined v w)
joined_spelled v [] all more = all
joined_spelled v (c ∷ cs) all more = joined_spelled (raised v c.0 c.1) cs (raised_spelled v c.0 c.1 all more.0.0 more.0.1.1) more.1

-- ---- moments

pub raised_moments : (v : Cursors) (inv : Identifier) (now : ℕ) → AllByRecursion (λ t. IsU64 t.1) v → IsU64 now → AllByRecursion (λ t. IsU64 t.1) (raised v inv now)
raised_moments v inv now all fits = by (covers v inv now)
  where
    by : (b : Bool) → AllByRecursion (λ t. IsU64 t.1) (cond b v (insert_entry identifier_order v inv now))
    by true = all
    by false = inserted_second identifier_order IsU64 v inv now all fits

joined_moments : (v w : Cursors) → AllByRecursion (λ t. IsU64 t.1) v → AllByRecursion (λ t. IsU64 t.1) w → AllByRecursion (λ t. IsU64 t.1) (joined v w)
joined_moments v [] all more = all
joined_moments v (c ∷ cs) all more = joined_moments (raised v c.0 c.1) cs (raised_moments v c.0 c.1 all more.0) more.1

-- ---- marks

abbrev IsRightKept : PartnerMark → Type 0
IsRightKept k = IsId k.inv × IsMark k.mark

all_in : {A : Type 0} (P : A → Type 0) (xs : List A) → Each P xs → AllByRecursion P xs
all_in P [] each = tt
all_in P (x ∷ xs) each = (each x (inl refl), all_in P xs (λ y m. each y (inr m)))

mark_spelled : (m : Option Marked) (marks : List Marked) → IsMarkIf m → Each (λ (k : Marked). IsId k.0 × IsRightKept k.1) marks → Each (λ (k : Marked). IsId k.0 × IsRightKept k.1) (with_mark m marks)
mark_spelled None marks q each = each
mark_spelled (Some k) marks q each =
    in_all (λ (j : Marked). IsId j.0 × IsRightKept j.1) (with_mark (Some k) marks)
    (inserted_all identifier_order IsId IsRightKept marks k.0 k.1 (all_in (λ (j : Marked). IsId j.0 × IsRightKept j.1) marks each) q.0.0 (q.1.0, q.1.1.0))

partners_rise : (m : Option Marked) (marks : List Marked) → IsStrictlySortedBy identifier_order (map (λ (k : Marked). k.0) marks) → IsStrictlySortedBy identifier_order (map (λ (k : Marked). k.0) (with_mark m marks))
partners_rise None marks s = s
partners_rise (Some k) marks s = sorted_inserted identifier_order nat_list_cmp_total marks k.0 k.1 s

-- ---- rows

from_writes : (writes rows : List Held) (h : Held) → Member h (fold put rows writes) → Member h writes ⊎ Member h rows
from_writes [] rows h m = inr m
from_writes (w ∷ ws) rows h m =
    ⊎_elim (λ a. inl (inr a)) (λ b. ⊎_elim (λ e. inl (inl e)) (λ n. inr n) (put_from rows w h b)) (from_writes ws (put rows w) h m)

from_removals : (removed : List Oid) (rows : List Held) (h : Held) → Member h (fold without_object rows removed) → Member h rows
from_removals [] rows h m = m
from_removals (o ∷ os) rows h m = (of_filter _ rows h (from_removals os (without_object rows o) h m)).0

abbrev IsRightRow : Held → Type 0
IsRightRow h = IsSpelledRow h.update.key h.update.said h.update.stamp

abbrev pub IsRightUpdate : Update → Type 0
IsRightUpdate u = IsSpelledRow u.key u.said u.stamp

rows_right : (o : Oid) (last : Option ℕ) (rows : List Row) → IsOid o → InTurn (λ (r : Row). r.0) IsRowAbove last rows → Each IsRightUpdate (map (update_of o) rows)
rows_right o last [] id turn u m = absurd m
rows_right o last (r ∷ rs) id turn u (inl e) = subst IsRightUpdate (sym e) (id, turn.0.0.0, turn.0.0.1.1, turn.0.0.1.0, refl)
rows_right o last (r ∷ rs) id turn u (inr m) = rows_right o (Some r.0) rs id turn.1 u m

pub piece_right : (p : Piece) → IsPiece p → Each IsRightUpdate (item_of p).rows
piece_right (OfRows x) q u m = rows_right x.0 None x.1 q.0 q.1.1 u m
piece_right (OfLink l) q u (inl e) = subst IsRightUpdate (sym e) (q.0.0, q.0.1.0, q.0.1.1, q.1.0, q.1.1)
piece_right (OfLink l) q u (inr m) = absurd m

writes_right : (last : Option ℕ) (ws : List Write) → InTurn (λ (w : Write). w.0) IsWrite last ws → Each (λ (w : Written). Each IsRightUpdate w.item.rows) (map written_of ws)
writes_right last [] turn w m = absurd m
writes_right last (x ∷ xs) turn w (inl e) = subst (λ (v : Written). Each IsRightUpdate v.item.rows) (sym e) (piece_right x.1 turn.0.1)
writes_right last (x ∷ xs) turn w (inr m) = writes_right (Some x.0) xs turn.1 w m

held_right : (ws : List Written) → Each (λ (w : Written). Each IsRightUpdate w.item.rows) ws → Each IsRightRow (held_of ws)
held_right ws each h m =
    let w = flat_member _ ws h m in
    let u = mapped_member _ w.0.item.rows h w.2 in
    subst IsRightRow (sym u.2) (each w.0 w.1 u.0 u.1)

-- ---- the schema

number_right : (version schema n : ℕ) → is_schema schema ≡ true → IsNumber version schema n → is_schema n ≡ true
number_right version schema n is q = by (eqb version 1) q
  where
    by : (b : Bool) → NumberBy b schema n → is_schema n ≡ true
    by true e = subst (λ (m : ℕ). is_schema m ≡ true) (sym e) is
    by false h = h.1

-- ---- the whole

pub stays_spelled : (version : ℕ) (s : State) (c : Change) → IsId s.inv → IsSpelled s.store → HasBody version s.store.usn s.store.schema c → AreClassesKnown (numbered c.schema) (updates_of (after s c).store.rows)
    → IsSpelled (after s c).store
stays_spelled version s c id q has known = subst (λ (d : Change). IsSpelled (after s d).store) (sym has.says) (let b = has.in_range in let d = has.body in record {
  schema = number_right version s.store.schema d.1.1.0 q.schema b.1.1.0;
  usn = b.0;
  vector = raised_spelled (joined s.store.vector d.1.1.1.1.0.0) s.inv d.0 (joined_spelled s.store.vector d.1.1.1.1.0.0 q.vector b.1.1.1.1.0.is.cursors.1) id b.0;
  times = joined_moments s.store.times d.1.1.1.1.0.1 q.times b.1.1.1.1.0.is.moments;
  purged = joined_spelled s.store.purged d.1.1.1.1.1.0 q.purged b.1.1.1.1.1.0.1;
  marks = mark_spelled d.1.1.1.0 s.store.marks b.1.1.1.0 q.marks;
  partners = partners_rise d.1.1.1.0 s.store.marks q.partners;
  rows = λ h m. ⊎_elim (λ w. held_right _ (writes_right (Some s.store.usn) d.1.1.1.1.1.1.1 b.1.1.1.1.1.1.1.1) h w) (λ r. q.rows h r)
      (from_writes (held_of (map written_of d.1.1.1.1.1.1.1)) s.store.rows h (from_removals d.1.1.1.1.1.1.0 (fold put s.store.rows (held_of (map written_of d.1.1.1.1.1.1.1))) h m));
  classes = λ h m. subst (λ (e : Change). AreClassesKnown (numbered e.schema) (updates_of (after s e).store.rows)) has.says known h.update
      (member_mapped (λ (x : Held). x.update) (rows_after d.1.1.1.1.1.1.0 (held_of (map written_of d.1.1.1.1.1.1.1)) s.store.rows) h m);
})

pub begins_spelled : IsSpelled (empty_store 1)
unfolding IsStrictlySortedBy
begins_spelled = record {
  schema = refl;
  usn = omega arith;
  vector = tt;
  times = tt;
  purged = tt;
  marks = λ k m. absurd m;
  partners = tt;
  rows = λ h m. absurd m;
  classes = λ h m. absurd m;
}
