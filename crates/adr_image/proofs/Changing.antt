-- The body of a record is read field by field.
use Rattle.std.proofs.Common.{◌≡◌, ℕ, ◌-◌, Bool, ◌∷◌, ◌++◌, [], List, map, fold, Option, None, Some, Result, Ok, Err, refl, sym, ap, ◌∙◌}
use Rattle.std.specs.Ordering.{nat_cmp}
use Rattle.std.proofs.lemmas.List.Sums.{fold-append}
use Rattle.adr_values.specs.declared.failure.Failure.{Failure}
use Rattle.adr_values.specs.declared.stamp.Oid.{Oid}
use Rattle.adr_values.specs.Vector.{Cursors}
use Rattle.adr_wire.specs.declared.refusal.Malformed.{Malformed}
use Rattle.adr_wire.specs.Fields.{u8_at, u32_at, usn_at, usn0_at, flag_at}
use Rattle.adr_wire.specs.Composites.{link_at, object_at, oid_at, vector_at}
use Rattle.adr_wire.specs.Timed.{Timed, timed_at}
use Rattle.adr_wire.specs.Pieces.{Piece, OfRows, OfLink, piece_of, piece_at}
use Rattle.adr_wire.specs.Reading.{Rest, Read, Reading, ◌>>=◌, where_at, then_at, elements_at, gathered_at, is_above, keyed}
use Rattle.adr_wire.proofs.Loops.{behind_count, begins, refuses_is, refuses_then, with_front}
use Rattle.adr_model.specs.Change.{Item, Written}
use Rattle.adr_law_lengths.specs.Written.{link_item, object_item}
use Rattle.adr_image.specs.Image.{Marked}
use Rattle.adr_image.specs.Body.{Write, one_name, write_above, mark_if_at, number_at, removed_at, writes_at, body_at}
use Rattle.adr_image.specs.Changes.{item_of, written_of}
use Rattle.adr_image.specs.Seen.{GivesSeen}
use Rattle.adr_image.proofs.Steps.{then_ok}

-- ---- removed objects

pub removed_begin : (items : List Oid) (count : ℕ) (rest mid : Rest) → items ≡ [] → u32_at rest ≡ Ok (count, mid) → with_front items (elements_at one_name (λ _. oid_at) (count - 0) None mid) ≡ removed_at rest
unfolding removed_at
removed_begin = begins (keyed one_name) (λ _. oid_at) None u32_at

-- ---- writes

abbrev pub next_local : Option ℕ → Write → Option ℕ
next_local = keyed (λ w. w.0)

pub writes_begin : (before count : ℕ) (rest mid : Rest) → u32_at rest ≡ Ok (count, mid) → gathered_at next_local write_above count (Some before) mid ≡ writes_at before rest
unfolding writes_at
writes_begin before count rest mid p = sym (behind_count (λ n. gathered_at next_local write_above n (Some before)) u32_at rest mid count p)

-- the writes so far, and the last local USN
abbrev pub KeepsWrites : ℕ → List Written × ℕ → List Write → Type 0
KeepsWrites before k ws = (k.0 ≡ map written_of ws) × (fold next_local (Some before) ws ≡ Some k.1)

mapped_more : (ws : List Write) (w : Write) → map written_of (ws ++ w ∷ []) ≡ map written_of ws ++ written_of w ∷ []
mapped_more [] w = refl
mapped_more (v ∷ vs) w = ap (λ (us : List Written). written_of v ∷ us) (mapped_more vs w)

pub keeps_write : (before : ℕ) (items : List Written) (last : ℕ) (written : Written) (ws : List Write) (w : Write) → KeepsWrites before (items, last) ws → written ≡ written_of w → KeepsWrites before (items ++ written ∷ [], written.local) (ws ++ w ∷ [])
keeps_write before items last written ws w keeps is = (
  ap (λ (us : List Written). us ++ written ∷ []) keeps.0 ∙ ap (λ (v : Written). map written_of ws ++ v ∷ []) is ∙ sym (mapped_more ws w),
  fold-append next_local (Some before) ws (w ∷ []) ∙ ap (λ (v : Written). Some v.local) (sym is),
)

-- ---- a body, field by field

module _ (version before schema : ℕ) where
  abbrev pub b7 : Reading (List Oid × List Write)
  b7 = then_at removed_at (λ _. writes_at before)

  abbrev pub b6 : Reading (Cursors × (List Oid × List Write))
  b6 = then_at vector_at (λ _. b7)

  abbrev pub b5 : Reading (Timed × (Cursors × (List Oid × List Write)))
  b5 = then_at (timed_at version) (λ _. b6)

  abbrev pub b4 : Reading (Option Marked × (Timed × (Cursors × (List Oid × List Write))))
  b4 = then_at mark_if_at (λ _. b5)

  abbrev pub b3 : Reading (ℕ × (Option Marked × (Timed × (Cursors × (List Oid × List Write)))))
  b3 = then_at (number_at version schema) (λ _. b4)

  abbrev pub b2 : Reading (Bool × (ℕ × (Option Marked × (Timed × (Cursors × (List Oid × List Write))))))
  b2 = then_at flag_at (λ _. b3)

  pub body_read : (r0 r1 r2 r3 r4 r5 r6 r7 r8 : Rest) (usn : ℕ) (quarantined : Bool) (number : ℕ) (mark : Option Marked) (joined : Timed) (purged : Cursors) (removed : List Oid) (writes : List Write)
      → usn0_at r0 ≡ Ok (usn, r1) → flag_at r1 ≡ Ok (quarantined, r2) → number_at version schema r2 ≡ Ok (number, r3) → mark_if_at r3 ≡ Ok (mark, r4) → timed_at version r4 ≡ Ok (joined, r5) → vector_at r5 ≡ Ok (purged, r6)
      → removed_at r6 ≡ Ok (removed, r7) → writes_at before r7 ≡ Ok (writes, r8) → body_at version before schema r0 ≡ Ok ((usn, (quarantined, (number, (mark, (joined, (purged, (removed, writes))))))), r8)
  unfolding body_at
  body_read r0 r1 r2 r3 r4 r5 r6 r7 r8 usn quarantined number mark joined purged removed writes p1 p2 p3 p4 p5 p6 p7 p8 =
      then_ok usn0_at (λ _. b2) r0 r1 r8 usn (quarantined, (number, (mark, (joined, (purged, (removed, writes)))))) p1
      (then_ok flag_at (λ _. b3) r1 r2 r8 quarantined (number, (mark, (joined, (purged, (removed, writes))))) p2
      (then_ok (number_at version schema) (λ _. b4) r2 r3 r8 number (mark, (joined, (purged, (removed, writes)))) p3
      (then_ok mark_if_at (λ _. b5) r3 r4 r8 mark (joined, (purged, (removed, writes))) p4
      (then_ok (timed_at version) (λ _. b6) r4 r5 r8 joined (purged, (removed, writes)) p5
      (then_ok vector_at (λ _. b7) r5 r6 r8 purged (removed, writes) p6
      (then_ok removed_at (λ _. writes_at before) r6 r7 r8 removed writes p7 p8))))))

-- ---- pieces, behind their kind

module _ (r : Result Item (Failure Malformed)) (rest mid end : Rest) where
  seen_as : {A : Type 0} (read : Reading A) (made : A → Piece) → piece_at rest ≡ (read mid >>= λ z. Ok (made z.0, z.1)) → GivesSeen (λ item x. item ≡ item_of (made x)) r end (read mid)
      → GivesSeen (λ item p. item ≡ item_of p) r end (piece_at rest)
  seen_as {A} read made here = by r
    where
      by : (s : Result Item (Failure Malformed)) → GivesSeen (λ item x. item ≡ item_of (made x)) s end (read mid) → GivesSeen (λ item p. item ≡ item_of p) s end (piece_at rest)
      by (Ok item) g = (made g.0, here ∙ ap (λ (x : Read A). x >>= λ z. Ok (made z.0, z.1)) g.1, g.2)
      by (Err e) g = refuses_is e (read mid >>= λ z. Ok (made z.0, z.1)) (piece_at rest) (sym here) (refuses_then e (read mid) (λ z. Ok (made z.0, z.1)) g)

  pub rows_seen : u8_at rest ≡ Ok (1, mid) → GivesSeen (λ item x. item ≡ object_item x) r end (object_at mid) → GivesSeen (λ item p. item ≡ item_of p) r end (piece_at rest)
  unfolding piece_at
  rows_seen kind = seen_as object_at OfRows (ap (λ (k : Read ℕ). k >>= λ x. piece_of rest.place x.0 x.1) kind)

  pub link_seen : u8_at rest ≡ Ok (2, mid) → GivesSeen (λ item l. item ≡ link_item l) r end (link_at mid) → GivesSeen (λ item p. item ≡ item_of p) r end (piece_at rest)
  unfolding piece_at
  link_seen kind = seen_as link_at OfLink (ap (λ (k : Read ℕ). k >>= λ x. piece_of rest.place x.0 x.1) kind)

pub write_read : (rest mid end : Rest) (last local : ℕ) (p : Piece) → where_at (is_above nat_cmp (Some last)) usn_at rest ≡ Ok (local, mid) → piece_at mid ≡ Ok (p, end) → write_above (Some last) rest ≡ Ok ((local, p), end)
unfolding write_above
write_read rest mid end last local p a b = then_ok (where_at (is_above nat_cmp (Some last)) usn_at) (λ _. piece_at) rest mid end local p a b
