-- What a state of a log says of its objects, and which stamps are written next.
use Rattle.std.proofs.Common.{◌≡◌, ℕ, ◌+◌, ◌<◌, ◌^◌, List, Option, None, inl, inr, sym, ap, ◌∙◌, subst, arith, ◌==◌}
use Rattle.std.specs.Prelude.{nat_lt}
use Rattle.std.specs.Option.{option_map_or}
use Rattle.std.proofs.lemmas.Bool.{ltb-false, eqb-false}
use Rattle.adr_values.specs.declared.stamp.Oid.{Oid}
use Rattle.adr_values.specs.declared.stamp.LinkKey.{LinkKey}
use Rattle.adr_values.specs.declared.stamp.LinkStamp.{LinkStamp}
use Rattle.adr_call.specs.declared.refusal.WriteRefusal.TheVariants.{UsnLimit, VersionLimit}
use Rattle.adr_values.specs.Numbered.{numbered}
use Rattle.adr_wire.specs.Ranges.{IsU64, IsUsn, IsOid, IsStamp}
use Rattle.adr_model.specs.Member.{Each}
use Rattle.adr_model.specs.Update.{Identifier, Key, RowOf, LinkOf, Said, Holds, IsPresent, Update, deleted_attr}
use Rattle.adr_model.specs.Reflects.{HoldsObject, IsTombstoned}
use Rattle.adr_model.specs.Store.{Held, State, updates_of, row_held}
use Rattle.adr_model.specs.Write.{object_refusal, nodes_held, object_of, usn_limit, usn_refusal, version_limit, version_of, version_refusal, first_stamp, next_stamp}
use Rattle.adr_image.specs.Stored.{IsSpelledRow}
use Rattle.adr_law_calls.proofs.Rows.{updated, held_as}
use Rattle.adr_law_calls.proofs.Rising.{one_update}
use Rattle.adr_law_calls.proofs.Tests.{IsFound, row_found}
use Rattle.adr_law_calls.specs.MayWrites.{IsHeldAlive}
use Rattle.adr_law_calls.proofs.Nodes.{object_is_live}
use Rattle.adr_law_calls.proofs.Refusals.{not_so}
use Rattle.adr_law_calls.proofs.Saids.{live_is_held}
use Rattle.adr_records.specs.Logged.{IsLogged}

-- ---- the parts of a row in range

pub row_parts : (o : Oid) (attr : ℕ) (said : Said) (stamp : LinkStamp) → IsSpelledRow (RowOf o attr) said stamp
    → IsOid o × (stamp.created ≡ 0)
row_parts o attr (Holds content) stamp q = (q.0, q.4)
row_parts o attr (IsPresent b) stamp q = absurd q

link_created : (l : LinkKey) (said : Said) (stamp : LinkStamp) → IsSpelledRow (LinkOf l) said stamp → IsU64 stamp.created
link_created l (Holds content) stamp q = absurd q
link_created l (IsPresent b) stamp q = q.3

stamp_of_row : (k : Key) (said : Said) (stamp : LinkStamp) → IsSpelledRow k said stamp → IsStamp stamp.stamp
stamp_of_row (RowOf o attr) (Holds content) stamp q = q.3
stamp_of_row (RowOf o attr) (IsPresent b) stamp q = absurd q
stamp_of_row (LinkOf l) (Holds content) stamp q = absurd q
stamp_of_row (LinkOf l) (IsPresent b) stamp q = q.4

pub usn_in_range : (usn : ℕ) → usn_refusal usn ≡ None → usn < 2 ^ 63
usn_in_range usn none = let most = ltb-false usn_limit usn (not_so (nat_lt usn_limit usn) UsnLimit none) in omega (arith, most)

module _ (s : State) (logged : IsLogged s) where
  abbrev rows : List Update
  rows = updates_of s.store.rows

  -- ---- objects

  pub spelled : Each (λ (u : Update). IsSpelledRow u.key u.said u.stamp) rows
  spelled u m = let h = held_as s.store.rows u m in
      subst (λ (v : Update). IsSpelledRow v.key v.said v.stamp) (sym h.2) (logged.spelled.rows h.0 h.1)

  pub object_in_range : (o : Oid) → HoldsObject rows o → IsOid o
  object_in_range o (r, attr, m, is) =
      (row_parts o attr r.said r.stamp (subst (λ k. IsSpelledRow k r.said r.stamp) is (spelled r m))).0

  pub live : (guid : Identifier) → object_refusal rows (nodes_held rows) guid ≡ None
      → IsHeldAlive rows (object_of (nodes_held rows) guid)
  live guid none = live_is_held rows _ _
      (object_is_live (numbered s.store.schema) rows logged.formed.store.rows (one_update s.store.rows logged.formed.store.rising) guid none)

  -- ---- versions

  abbrev pub version_at : Key → ℕ
  version_at key = version_of (row_held s.store.rows key)

  held_version : (key : Key) → version_at key < 2 ^ 32
  held_version key = by (row_found s.store.rows key)
    where
      by : IsFound s.store.rows key (row_held s.store.rows key) → version_at key < 2 ^ 32
      by (inl (x, m, e, f)) =
          let stamp = stamp_of_row x.update.key x.update.said x.update.stamp (logged.spelled.rows x m) in
          omega (arith, ap version_of f, stamp.0.1)
      by (inr (none, f)) = omega (arith, ap version_of f)

  -- a version isn't the last one where the write isn't refused
  pub version_free : (key : Key) (attr : ℕ) → version_refusal s.store.rows key attr ≡ None → version_at key + 1 < 2 ^ 32
  version_free key attr none =
      let other = eqb-false (version_at key) version_limit (not_so (version_at key == version_limit) (VersionLimit attr) none) in
      omega (arith, held_version key, other)

  -- nor where the object isn't dead yet
  pub death_free : (o : Oid) → (IsTombstoned rows o → ⊥) → version_at (RowOf o deleted_attr) + 1 < 2 ^ 32
  death_free o alive = by (row_found s.store.rows (RowOf o deleted_attr))
    where
      by : IsFound s.store.rows (RowOf o deleted_attr) (row_held s.store.rows (RowOf o deleted_attr))
          → version_at (RowOf o deleted_attr) + 1 < 2 ^ 32
      by (inl (x, m, e, f)) = absurd (alive (x.update, updated s.store.rows x m, e))
      by (inr (none, f)) = omega (arith, ap version_of f)

  -- ---- stamps

  module _ (now : ℕ) (time : now < 2 ^ 64) (usn : s.store.usn + 1 < 2 ^ 63) where
    pub own_usn : IsUsn (s.store.usn + 1)
    own_usn = (omega arith, usn)

    pub first_in_range : IsStamp (first_stamp s now).stamp
    first_in_range = ((omega arith, omega arith), (time, (logged.inv, own_usn)))

    pub next_in_range : (key : Key) → version_at key + 1 < 2 ^ 32 → IsStamp (next_stamp s key now).stamp
    next_in_range key free = ((omega arith, free), (time, (logged.inv, own_usn)))

    -- a row keeps 0 as its moment of creation
    pub row_created : (o : Oid) (attr : ℕ) → (next_stamp s (RowOf o attr) now).created ≡ 0
    row_created o attr = by (row_found s.store.rows (RowOf o attr))
      where
        by : IsFound s.store.rows (RowOf o attr) (row_held s.store.rows (RowOf o attr))
            → (next_stamp s (RowOf o attr) now).created ≡ 0
        by (inl (x, m, e, f)) =
            ap (λ (h : Option Held). option_map_or (λ (y : Held). y.update.stamp.created) h 0) f
            ∙ (row_parts o attr x.update.said x.update.stamp (subst (λ k. IsSpelledRow k x.update.said x.update.stamp) e (logged.spelled.rows x m))).1
        by (inr (none, f)) = ap (λ (h : Option Held). option_map_or (λ (y : Held). y.update.stamp.created) h 0) f

    pub link_created_in_range : (l : LinkKey) → IsU64 (next_stamp s (LinkOf l) now).created
    link_created_in_range l = by (row_found s.store.rows (LinkOf l))
      where
        by : IsFound s.store.rows (LinkOf l) (row_held s.store.rows (LinkOf l)) → IsU64 (next_stamp s (LinkOf l) now).created
        by (inl (x, m, e, f)) =
            subst (λ (h : Option Held). IsU64 (option_map_or (λ (y : Held). y.update.stamp.created) h now)) (sym f)
            (link_created l x.update.said x.update.stamp (subst (λ k. IsSpelledRow k x.update.said x.update.stamp) e (logged.spelled.rows x m)))
        by (inr (none, f)) =
            subst (λ (h : Option Held). IsU64 (option_map_or (λ (y : Held). y.update.stamp.created) h now)) (sym f) time
