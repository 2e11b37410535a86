-- The change of a client's write is in the ranges of a record.
use Rattle.std.proofs.Common.{◌≡◌, ℕ, zero, suc, ◌+◌, ◌<◌, ◌≤◌, ◌^◌, List, [], ◌∷◌, Bool, true, false, not, Option, None, inl, inr, refl, sym, ap, subst, map, length, arith}
use Rattle.std.specs.Prelude.{IsSome}
use Rattle.std.specs.Str.{is_utf8}
use Rattle.adr_values.specs.First.{first_of}
use Rattle.adr_values.specs.declared.stamp.Oid.{Oid}
use Rattle.adr_values.specs.declared.stamp.LinkKey.{LinkKey}
use Rattle.adr_values.specs.declared.stamp.Unit.TheVariants.{Object, Link}
use Rattle.adr_values.specs.Assignments.{Given}
use Rattle.adr_values.specs.Table.{class_at}
use Rattle.adr_values.specs.Numbered.{numbered}
use Rattle.adr_values.specs.declared.content.Content.{Content}
use Rattle.adr_values.specs.declared.content.Content.TheVariants.{Class, Name, Dead, Values}
use Rattle.adr_call.specs.declared.refusal.WriteRefusal.{WriteRefusal}
use Rattle.adr_call.specs.declared.refusal.WriteRefusal.TheVariants.{LinkThere, LinkNotThere}
use Rattle.adr_call.specs.declared.refusal.Table.TheVariants.{Links}
use Rattle.adr_call.specs.declared.directory.Entry.{Entry}
use Rattle.adr_wire.specs.Ranges.{IsId, IsU16, IsUsn, IsOid, IsStamp, IsContent}
use Rattle.adr_model.specs.Member.{Member, Each}
use Rattle.adr_model.specs.Update.{Identifier, RowOf, LinkOf, Said, Holds, IsPresent, Update, name_attr, deleted_attr}
use Rattle.adr_model.specs.Formed.{IsFormedStore}
use Rattle.adr_model.specs.Reflects.{HoldsObject}
use Rattle.adr_model.specs.Store.{Normal, State, Store, updates_of}
use Rattle.adr_model.specs.Change.{Item, Written, updates_written}
use Rattle.adr_model.specs.Write.{Write, AddObject, Modify, Rename, Delete, AddLink, RemoveLink, Revive, full_refusal, link_limit, links_in, more_links, version_refusal, add_refusals, modify_refusals, rename_refusals, delete_refusals, any_link_refusals, any_link_refusal, nodes_held, object_of, link_of, next_row, first_stamp, new_object, new_rows, row, write_refusal, revive_refusals, revive_refusal, entry_in, links_revived, new_links, link_row as new_link, rows_written, more_written, items_written, own_change}
use Rattle.adr_model.specs.Given.{IsWellGiven}
use Rattle.std.specs.Bool.{then_some}
use Rattle.adr_model.proofs.Members.{mapped_member, member_mapped, flat_member}
use Rattle.adr_image.specs.Stored.{IsSpelledRow}
use Rattle.adr_law_knowledge.proofs.Refusing.{none_there, answered}
use Rattle.adr_law_calls.specs.Forms.{IsWellSaid}
use Rattle.adr_law_calls.proofs.Rows.{row_of_unit}
use Rattle.adr_law_calls.specs.MayWrites.{Fits, MayWrite, IsHeldAlive, after_item}
use Rattle.adr_law_calls.proofs.Reviving.{MayRelink, may_relink_all}
use Rattle.adr_law_calls.proofs.WriteSound.{may_write}
use Rattle.adr_law_calls.proofs.Stamps.{written}
use Rattle.adr_law_calls.proofs.Writes.{well_said}
use Rattle.adr_law_calls.proofs.EachWrite.{write_follows, write_is_bare}
use Rattle.adr_law_calls.proofs.Whence.{rows_from}
use Rattle.adr_records.specs.Logged.{IsLogged}
use Rattle.adr_law_recorded.specs.Typed.{IsTypedValue, IsTypedWrite}
use Rattle.adr_law_recorded.specs.InRange.{IsInRange}
use Rattle.adr_law_recorded.specs.Laws.{WrittenIsRecorded}
use Rattle.adr_law_recorded.proofs.Bodied.{recorded, writes_in_range}
use Rattle.adr_law_recorded.proofs.Typed.{shown_typed}
use Rattle.adr_law_recorded.proofs.Values.{class_in_range, forward_in_range, name_is_short, values_in_range}
use Rattle.adr_law_recorded.proofs.Known.{row_parts, spelled, object_in_range, live, version_at, usn_in_range, version_free, death_free, own_usn, first_in_range, next_in_range, row_created, link_created_in_range}

-- ---- rows of objects

-- what a row of an object says, as a client's write gives it
abbrev IsTypedSaid : Said → Type 0
IsTypedSaid (Holds (Class class)) = Unit {0}
IsTypedSaid (Holds (Name text parent)) = IsId parent × (is_utf8 text ≡ true)
IsTypedSaid (Holds Dead) = Unit {0}
IsTypedSaid (Holds (Values vs)) = Each IsTypedValue vs
IsTypedSaid (IsPresent present) = Unit {0}

-- a row whose content is typed and whose stamp is in range
record IsTypedRow (u : Update) : Type 0 where
  said : IsTypedSaid u.said
  stamp : IsStamp u.stamp.stamp
  created : u.stamp.created ≡ 0

module _ (s : State) where
  abbrev IsKnownClass : ℕ → Type 0
  IsKnownClass class = IsSome (class_at (numbered s.store.schema) class)

  row_in_range : (class : ℕ) (o : Oid) (u : Update) (attr : ℕ) → IsKnownClass class → IsOid o → IsTypedRow u
      → IsWellSaid (numbered s.store.schema) class o u → u.key ≡ RowOf o attr → IsSpelledRow u.key u.said u.stamp
  row_in_range class o u attr known oid typed well is = subst (λ k. IsSpelledRow k u.said u.stamp) (sym is) (by attr is)
    where
      of_content : (a : ℕ) (content : Content) → u.said ≡ Holds content → IsU16 a × IsContent a content
          → IsSpelledRow (RowOf o a) u.said u.stamp
      of_content a content says range = subst (λ x. IsSpelledRow (RowOf o a) x u.stamp) (sym says)
          (oid, range.0, range.1, typed.stamp, typed.created)

      by : (a : ℕ) → u.key ≡ RowOf o a → IsSpelledRow (RowOf o a) u.said u.stamp
      by zero e = absurd (well.none e)
      by (suc zero) e = of_content 1 (Class class) (well.of_class e).0
          (omega arith, (refl, class_in_range s.store.schema class known))
      by (suc (suc zero)) e =
          let t = well.of_name e in
          let given : IsTypedSaid (Holds (Name t.0 t.1)) = subst IsTypedSaid t.2 typed.said in
          let short = name_is_short t.0 t.3 in
          of_content 2 (Name t.0 t.1) t.2 (omega arith, (refl, (given.0, (omega (arith, short), given.1))))
      by (suc (suc (suc zero))) e = of_content 3 Dead (well.of_death e) (omega arith, refl)
      by (suc (suc (suc (suc n)))) e =
          let t = well.of_values (suc (suc (suc (suc n)))) (omega arith) e in
          let given : IsTypedSaid (Holds (Values t.0)) = subst IsTypedSaid t.1 typed.said in
          of_content (suc (suc (suc (suc n)))) (Values t.0) t.1
          (values_in_range s.store.schema class (suc (suc (suc (suc n)))) t.0 t.2.allowed (omega arith) given)

  module _ (logged : IsLogged s) where
    class_known : (o : Oid) (us : List Update) (f : Fits s (Object o) us) → IsKnownClass f.0
    class_known o us (class, inl changes) = logged.classes changes.of_class.0 changes.of_class.1 class changes.of_class.3
    class_known o us (class, inr comes) = comes.0.known

    object_rows : (o : Oid) (us : List Update) → MayWrite s (Object o) us → IsOid o → Each IsTypedRow us
        → Each (λ (u : Update). IsSpelledRow u.key u.said u.stamp) us
    object_rows o us may oid typed u m =
        let k = row_of_unit u.key o (may.put.of_unit u m) in
        row_in_range may.fits.0 o u k.0 (class_known o us may.fits) oid (typed u m) (well_said s o us may.fits u m) k.1

    -- ---- what each write writes

    module _ (now : ℕ) (time : now < 2 ^ 64) where
      abbrev AreInRange : List Update → Type 0
      AreInRange us = Each (λ (u : Update). IsSpelledRow u.key u.said u.stamp) us

      module _ (usn : s.store.usn + 1 < 2 ^ 63) where
        next_typed : (o : Oid) (attr : ℕ) (content : Content) → version_at s logged (RowOf o attr) + 1 < 2 ^ 32
            → IsTypedSaid (Holds content) → IsTypedRow (next_row s now o attr content)
        next_typed o attr content free typed = record {
          said = typed;
          stamp = next_in_range s logged now time usn (RowOf o attr) free;
          created = row_created s logged now time usn o attr;
        }

        -- one row of a live object
        one_row : (o : Oid) (attr : ℕ) (content : Content) → MayWrite s (Object o) (next_row s now o attr content ∷ [])
            → IsHeldAlive (updates_of s.store.rows) o → version_at s logged (RowOf o attr) + 1 < 2 ^ 32
            → IsTypedSaid (Holds content) → AreInRange (next_row s now o attr content ∷ [])
        one_row o attr content may alive free typed =
            object_rows o (next_row s now o attr content ∷ []) may (object_in_range s logged o alive.0) each
          where
            each : Each IsTypedRow (next_row s now o attr content ∷ [])
            each u (inl e) = subst IsTypedRow (sym e) (next_typed o attr content free typed)
            each u (inr m) = absurd m

        -- rows of values of a live object
        value_rows : (o : Oid) (values : List Given)
            → MayWrite s (Object o) (map (λ (g : Given). next_row s now o g.0 (Values g.1)) values)
            → IsHeldAlive (updates_of s.store.rows) o
            → Each (λ (g : Given). version_at s logged (RowOf o g.0) + 1 < 2 ^ 32) values
            → Each (λ (g : Given). Each IsTypedValue g.1) values
            → AreInRange (map (λ (g : Given). next_row s now o g.0 (Values g.1)) values)
        value_rows o values may alive free typed =
            object_rows o (map made values) may (object_in_range s logged o alive.0) each
          where
            made : Given → Update
            made g = next_row s now o g.0 (Values g.1)

            each : Each IsTypedRow (map made values)
            each u m = let g = mapped_member made values u m in
                subst IsTypedRow (sym g.2) (next_typed o g.0.0 (Values g.0.1) (free g.0 g.1) (typed g.0 g.1))

        -- all rows of a new object
        new_in_range : (guid : Identifier) (class : ℕ) (parent : Identifier) (text : List ℕ) (values : List Given)
            → MayWrite s (Object (new_object s guid)) (new_rows (new_object s guid) (first_stamp s now) class parent text values)
            → IsTypedWrite (AddObject guid class parent text values)
            → AreInRange (new_rows (new_object s guid) (first_stamp s now) class parent text values)
        new_in_range guid class parent text values may typed = object_rows o us may
            (typed.0, (logged.inv, own_usn s logged now time usn)) each
          where
            o : Oid
            o = new_object s guid

            us : List Update
            us = new_rows o (first_stamp s now) class parent text values

            value_row : Given → Update
            value_row g = row o (first_stamp s now) g.0 (Values g.1)

            first : (attr : ℕ) (content : Content) → IsTypedSaid (Holds content) → IsTypedRow (row o (first_stamp s now) attr content)
            first attr content said = record { said = said; stamp = first_in_range s logged now time usn; created = refl }

            each : Each IsTypedRow us
            each u (inl e) = subst IsTypedRow (sym e) (first 1 (Class class) tt)
            each u (inr (inl e)) = subst IsTypedRow (sym e) (first 2 (Name text parent) (typed.1, typed.2))
            each u (inr (inr m)) = let g = mapped_member value_row values u m in
                subst IsTypedRow (sym g.2) (first g.0.0 (Values g.0.1) (typed.3 g.0 g.1))

        -- a link row
        link_row : (l : LinkKey) (present : Bool) → MayWrite s (Link l) (written s now (LinkOf l) (IsPresent present) ∷ [])
            → version_at s logged (LinkOf l) + 1 < 2 ^ 32 → AreInRange (written s now (LinkOf l) (IsPresent present) ∷ [])
        link_row l present may free u (inl e) = subst (λ (v : Update). IsSpelledRow v.key v.said v.stamp) (sym e) (
          end l.from (inl refl),
          forward_in_range s.store.schema l.attr may.fits.forward,
          end l.to (inr (inl refl)),
          link_created_in_range s logged now time usn l,
          next_in_range s logged now time usn (LinkOf l) free,
        )
          where
            end : (o : Oid) → Member o (l.from ∷ l.to ∷ []) → IsOid o
            end o m = object_in_range s logged o (may.fits.ends o m).0
        link_row l present may free u (inr m) = absurd m

      -- ---- what isn't refused

      abbrev nodes_guid : Identifier → Oid
      nodes_guid guid = object_of (nodes_held (updates_of s.store.rows)) guid

      abbrev IsWritten : Write → Type 0
      IsWritten w = (s.store.usn + 1 < 2 ^ 63) × AreInRange (rows_written s w now).rows

      abbrev the_link : Identifier → ℕ → Identifier → LinkKey
      the_link from attr to = link_of (nodes_held (updates_of s.store.rows)) from attr to

      link_written : (from : Identifier) (attr : ℕ) (to : Identifier) (present : Bool) (wrong : Bool → Option WriteRefusal)
          → any_link_refusal s from attr to wrong ≡ None
          → MayWrite s (Link (the_link from attr to)) (written s now (LinkOf (the_link from attr to)) (IsPresent present) ∷ [])
          → (s.store.usn + 1 < 2 ^ 63)
          × AreInRange (written s now (LinkOf (the_link from attr to)) (IsPresent present) ∷ [])
      link_written from attr to present wrong none may =
          (usn, link_row usn (the_link from attr to) present may (version_free s logged (LinkOf (the_link from attr to)) attr version))
        where
          refusals : List (Option WriteRefusal)
          refusals = any_link_refusals s from attr to wrong

          version : version_refusal s.store.rows (LinkOf (the_link from attr to)) attr ≡ None
          version = none_there refusals none _ (inr (inr (inr (inr (inr (inr (inr (inl refl))))))))

          usn : s.store.usn + 1 < 2 ^ 63
          usn = usn_in_range (s.store.usn + 1)
              (none_there refusals none _ (inr (inr (inr (inr (inr (inr (inr (inr (inl refl))))))))))

      -- an object that is revived, and its links
      module _ (image : Store) (guid parent : Identifier) (text : List ℕ) (given : IsFormedStore image)
          (typed : IsTypedWrite (Revive image guid parent text)) (none : revive_refusal s image guid parent text ≡ None) where
        abbrev entry : Entry
        entry = entry_in image guid

        abbrev links : List LinkKey
        links = links_revived s image guid

        abbrev first : Item
        first = rows_written s (Revive image guid parent text) now

        abbrev one : State
        one = after_item s first

        far : s.store.usn + 1 + length links < 2 ^ 63
        far = usn_in_range (s.store.usn + 1 + length links)
            (none_there (revive_refusals s image guid parent text) none _ (inr (inr (inr (inr (inr (inr (inr (inr (inr (inr (inr (inl refl)))))))))))))

        near : s.store.usn + 1 < 2 ^ 63
        near = omega (arith, far)

        object_in : AreInRange first.rows
        object_in = new_in_range near guid entry.class parent text entry.values
            (may_write s (Revive image guid parent text) now logged.formed given none)
            (typed.1, typed.2, typed.3, shown_typed image guid given typed.0)

        may : MayRelink one links
        may = may_relink_all s logged.formed image guid parent text given none now

        end_in : (o : Oid) → HoldsObject (updates_of one.store.rows) o → IsOid o
        end_in o (r, attr, m, is) =
            let q = rows_from (λ (u : Update). IsSpelledRow u.key u.said u.stamp) s (own_change s (record { local = s.store.usn + 1; item = first } ∷ []))
            (spelled s logged) written_right r m in
            (row_parts o attr r.said r.stamp (subst (λ k. IsSpelledRow k r.said r.stamp) is q)).0
          where
            written_right : AreInRange (updates_written (own_change s (record { local = s.store.usn + 1; item = first } ∷ [])))
            written_right u m = let t = flat_member (λ (v : Written). v.item.rows) (record { local = s.store.usn + 1; item = first } ∷ []) u m in of_write t.0 t.1 t.2
              where
                of_write : (v : Written) → Member v (record { local = s.store.usn + 1; item = first } ∷ []) → Member u v.item.rows → IsSpelledRow u.key u.said u.stamp
                of_write v (inl e) n = object_in u (subst (λ (x : Written). Member u x.item.rows) e n)
                of_write v (inr n) k = absurd n

        link_in : (l : LinkKey) → Member l links → (usn : ℕ) → IsUsn usn → AreInRange (new_link s now usn l).item.rows
        link_in l m usn right u (inl e) = subst (λ (v : Update). IsSpelledRow v.key v.said v.stamp) (sym e) (
          end_in l.from (may.alive l m l.from (inl refl)).0,
          forward_in_range s.store.schema l.attr (may.forward l m),
          end_in l.to (may.alive l m l.to (inr (inl refl))).0,
          time,
          ((omega arith, omega arith), (time, (logged.inv, right))),
        )
        link_in l m usn right u (inr n) = absurd n

        each_link_in : (ls : List LinkKey) → ((l : LinkKey) → Member l ls → Member l links) → (usn : ℕ) → s.store.usn + 2 ≤ usn
            → usn + length ls ≤ s.store.usn + 2 + length links → Each (λ (v : Written). AreInRange v.item.rows) (new_links s now usn ls)
        each_link_in [] of_it usn above most v m = absurd m
        each_link_in (l ∷ ls) of_it usn above most v (inl e) = subst (λ (w : Written). AreInRange w.item.rows) (sym e)
            (link_in l (of_it l (inl refl)) usn (omega (arith, above), omega (arith, most, far)))
        each_link_in (l ∷ ls) of_it usn above most v (inr m) =
            each_link_in ls (λ k n. of_it k (inr n)) (usn + 1) (omega (arith, above)) (omega (arith, most)) v m

        long : (usn : ℕ) (ls : List LinkKey) → length (new_links s now usn ls) ≡ length ls
        long usn [] = refl
        long usn (l ∷ ls) = ap suc (long (usn + 1) ls)

        links_in_range : (s.store.usn + 1 + length (new_links s now (s.store.usn + 2) links) < 2 ^ 63) × (1 + length (new_links s now (s.store.usn + 2) links) < 2 ^ 32)
            × Each (λ (v : Written). AreInRange v.item.rows) (new_links s now (s.store.usn + 2) links)
        links_in_range =
            let same = long (s.store.usn + 2) links in (
              omega (arith, same, far),
              omega (arith, same, may.room),
              each_link_in links (λ l m. m) (s.store.usn + 2) (omega arith) (omega arith),
            )

      rows_in_range : (w : Write) → IsWellGiven w → IsTypedWrite w → write_refusal s w ≡ None → IsWritten w
      rows_in_range (AddObject guid class parent text values) given typed none =
          let usn = usn_in_range (s.store.usn + 1)
          (none_there (add_refusals s guid class parent text values) none _ (inr (inr (inr (inr (inr (inr (inr (inl refl))))))))) in (
            usn,
            new_in_range usn guid class parent text values
                (may_write s (AddObject guid class parent text values) now logged.formed given none) typed,
          )
      rows_in_range (Modify guid values) given typed none = (
        usn,
        value_rows usn (nodes_guid guid) values
            (may_write s (Modify guid values) now logged.formed given none)
            (live s logged guid (none_there refusals none _ (inr (inr (inl refl))))) free typed.1,
      )
        where
          refusals : List (Option WriteRefusal)
          refusals = modify_refusals s guid values

          usn : s.store.usn + 1 < 2 ^ 63
          usn = usn_in_range (s.store.usn + 1) (none_there refusals none _ (inr (inr (inr (inr (inr (inl refl)))))))

          of_version : Given → Option WriteRefusal
          of_version g = version_refusal s.store.rows (RowOf (nodes_guid guid) g.0) g.0

          versions : first_of (map of_version values) ≡ None
          versions = none_there refusals none _ (inr (inr (inr (inr (inl refl)))))

          free : Each (λ (g : Given). version_at s logged (RowOf (nodes_guid guid) g.0) + 1 < 2 ^ 32) values
          free g m = version_free s logged (RowOf (nodes_guid guid) g.0) g.0
              (none_there (map of_version values) versions _ (member_mapped of_version values g m))
      rows_in_range (Rename guid parent text) given typed none = (
        usn,
        one_row usn (nodes_guid guid) name_attr (Name text parent)
            (may_write s (Rename guid parent text) now logged.formed given none)
            (live s logged guid (none_there refusals none _ (inr (inr (inl refl)))))
            (version_free s logged (RowOf (nodes_guid guid) name_attr) name_attr (none_there refusals none _ (inr (inr (inr (inr (inr (inr (inr (inr (inl refl)))))))))))
            (typed.1, typed.2),
      )
        where
          refusals : List (Option WriteRefusal)
          refusals = rename_refusals s guid parent text

          usn : s.store.usn + 1 < 2 ^ 63
          usn = usn_in_range (s.store.usn + 1) (none_there refusals none _ (inr (inr (inr (inr (inr (inr (inr (inr (inr (inl refl)))))))))))
      rows_in_range (Delete guid) given typed none = (
        usn,
        one_row usn (nodes_guid guid) deleted_attr Dead
            (may_write s (Delete guid) now logged.formed given none) alive (death_free s logged (nodes_guid guid) alive.1) tt,
      )
        where
          refusals : List (Option WriteRefusal)
          refusals = delete_refusals s guid

          usn : s.store.usn + 1 < 2 ^ 63
          usn = usn_in_range (s.store.usn + 1) (none_there refusals none _ (inr (inr (inr (inr (inl refl))))))

          alive : IsHeldAlive (updates_of s.store.rows) (nodes_guid guid)
          alive = live s logged guid (none_there refusals none _ (inr (inr (inl refl))))
      rows_in_range (AddLink from attr to) given typed none = link_written from attr to true (λ linked. then_some linked LinkThere)
          (none_there (any_link_refusal s from attr to (λ linked. then_some linked LinkThere) ∷ full_refusal Links link_limit (links_in s.store.rows + more_links s from attr to) ∷ []) none _ (inl refl))
          (may_write s (AddLink from attr to) now logged.formed given none)
      rows_in_range (RemoveLink from attr to) given typed none = link_written from attr to false (λ linked. then_some (not linked) LinkNotThere) none
          (may_write s (RemoveLink from attr to) now logged.formed given none)
      rows_in_range (Revive image guid parent text) given typed none =
          (near image guid parent text given typed none, object_in image guid parent text given typed none)

      -- ---- beside the first item

      abbrev IsMoreWritten : Write → Type 0
      IsMoreWritten w =
          (s.store.usn + 1 + length (more_written s w now) < 2 ^ 63) × (1 + length (more_written s w now) < 2 ^ 32)
          × Each (λ (v : Written). AreInRange v.item.rows) (more_written s w now)

      alone : s.store.usn + 1 < 2 ^ 63
          → (s.store.usn + 1 + 0 < 2 ^ 63) × (1 + 0 < 2 ^ 32) × Each (λ (v : Written). AreInRange v.item.rows) []
      alone usn = (omega (arith, usn), omega arith, λ v m. absurd m)

      more_in_range : (w : Write) → IsWellGiven w → IsTypedWrite w → write_refusal s w ≡ None → IsMoreWritten w
      more_in_range (AddObject guid class parent text values) given typed none = alone (rows_in_range (AddObject guid class parent text values) given typed none).0
      more_in_range (Modify guid values) given typed none = alone (rows_in_range (Modify guid values) given typed none).0
      more_in_range (Rename guid parent text) given typed none = alone (rows_in_range (Rename guid parent text) given typed none).0
      more_in_range (Delete guid) given typed none = alone (rows_in_range (Delete guid) given typed none).0
      more_in_range (AddLink from attr to) given typed none = alone (rows_in_range (AddLink from attr to) given typed none).0
      more_in_range (RemoveLink from attr to) given typed none = alone (rows_in_range (RemoveLink from attr to) given typed none).0
      more_in_range (Revive image guid parent text) given typed none = links_in_range image guid parent text given typed none

      change_in_range : (w : Write) → IsWellGiven w → IsTypedWrite w → write_refusal s w ≡ None
          → IsInRange (own_change s (items_written s w now))
      change_in_range w given typed none =
          writes_in_range s logged.spelled.schema (s.store.usn + length (items_written s w now)) Normal (items_written s w now) (omega (arith, more.0)) (omega (arith, more.1)) rows
        where
          ahead : IsWritten w
          ahead = rows_in_range w given typed none

          more : IsMoreWritten w
          more = more_in_range w given typed none

          rows : AreInRange (updates_written (own_change s (items_written s w now)))
          rows u m = let t = flat_member (λ (v : Written). v.item.rows) (items_written s w now) u m in of_write t.0 t.1 t.2
            where
              of_write : (v : Written) → Member v (items_written s w now) → Member u v.item.rows → IsSpelledRow u.key u.said u.stamp
              of_write v (inl e) n = ahead.1 u (subst (λ (x : Written). Member u x.item.rows) e n)
              of_write v (inr n) k = more.2 v n u k

-- ---- the law

pub write_is_recorded : WrittenIsRecorded
write_is_recorded s w now c logged given typed time made =
    let t = answered (write_refusal s w) (own_change s (items_written s w now)) c made in
    recorded s c logged (write_follows s w now c logged.formed logged.classes given made)
    (write_is_bare s w now c logged.formed given made)
    (subst IsInRange t.1 (change_in_range s logged now time w given typed t.0))
