-- What calls leave of a state of a log of whose rows something holds. Nothing is asked of what was taken but that it is a reply in range
-- and this of its rows, and such a state answers so.
use Rattle.std.proofs.Common.{◌≡◌, ℕ, List, Ok, refl, sym, ap, ◌∙◌, subst, map, filter}
use Rattle.std.specs.Prelude.{◌&&◌}
use Rattle.adr_values.specs.declared.mark.Mark.{Mark}
use Rattle.adr_wire.specs.Ranges.{IsId, IsU64}
use Rattle.adr_image.specs.Stored.{IsSpelled}
use Rattle.adr_records.specs.Logged.{IsLogged, MayBeRecorded}
use Rattle.adr_records.specs.BodyLaws.{logged_after}
use Rattle.adr_model.specs.Member.{Member, Each}
use Rattle.adr_model.specs.Update.{Identifier, Update, same_unit, unit_of}
use Rattle.adr_model.specs.Store.{Held, Normal, Store, State, updates_of, empty_state}
use Rattle.adr_model.specs.Change.{Item, Change, updates_written, after}
use Rattle.adr_model.specs.Formed.{IsFormedStore, IsFormed}
use Rattle.adr_model.specs.Serve.{Request, Reply, is_above_mark, is_unseen, sendable, item_of, candidates, byte_limit, first_items, begins_at, reply_to, serve_refusal, serve}
use Rattle.adr_model.specs.Write.{Write, write_refusal, items_written, own_change, write}
use Rattle.adr_model.specs.Given.{IsWellGiven}
use Rattle.adr_model.specs.Take.{take}
use Rattle.adr_model.specs.Collect.{deaths_to_collect, collection, collect_refusal, collect, adopt, quarantine}
use Rattle.adr_model.specs.Upgrade.{upgraded, upgrade_refusal, upgrade}
use Rattle.adr_model.proofs.Members.{of_filter, member_left, mapped_member}
use Rattle.adr_law_knowledge.proofs.Refusing.{answered}
use Rattle.adr_law_calls.proofs.Rows.{held_as, updated}
use Rattle.adr_law_calls.proofs.Woken.{adopted_is_woken}
use Rattle.adr_law_calls.proofs.Candidates.{candidate_from}
use Rattle.adr_law_calls.proofs.Ground.{first_front}
use Rattle.adr_model.specs.Spelled.{IsSpelledReply}
use Rattle.adr_law_calls.proofs.Whence.{rows_from}
use Rattle.adr_law_calls.proofs.TakenFollow.{taken_brings}
use Rattle.adr_law_recorded.specs.Typed.{IsTypedWrite}
use Rattle.adr_law_recorded.specs.Ranged.{IsRangedRequest, IsRangedReply}
use Rattle.adr_law_recorded.proofs.Beginning.{new_may_begin, adopted_is_logged}
use Rattle.adr_law_recorded.proofs.Served.{served_in_range}
use Rattle.adr_law_recorded.proofs.Written.{write_is_recorded}
use Rattle.adr_law_recorded.proofs.Taken.{taken_recorded}
use Rattle.adr_law_recorded.proofs.Collected.{quarantine_is_recorded, upgrade_is_recorded, collection_is_recorded}

-- what is kept of each state, where something holds of all rows
pub record IsInForm (P : Update → Type 0) (s : State) : Type 0 where
  pub logged : IsLogged s
  pub rows : Each P (updates_of s.store.rows)

-- of the store of an image
pub record IsImageInForm (P : Update → Type 0) (s : Store) : Type 0 where
  pub formed : IsFormedStore s
  pub spelled : IsSpelled s
  pub rows : Each P (updates_of s.rows)

-- and of a reply
pub record IsReplyInForm (P : Update → Type 0) (r : Reply) : Type 0 where
  pub spelled : IsSpelledReply r
  pub ranged : IsRangedReply r
  pub rows : Each (λ (i : Item). Each P i.rows) r.items

-- ---- changes

-- the rows that a write writes
abbrev pub written_by : State → Write → ℕ → List Update
written_by s w now = updates_written (own_change s (items_written s w now))

module _ (P : Update → Type 0) where
  changed_in_form : (s : State) (c : Change) → IsInForm P s → MayBeRecorded s c → Each P (updates_written c) → IsInForm P (after s c)
  changed_in_form s c is may new = record { logged = logged_after s c may; rows = rows_from P s c is.rows new }

  pub written_in_form : (s : State) (w : Write) (now : ℕ) (c : Change) → IsInForm P s → IsWellGiven w → IsTypedWrite w → IsU64 now → Each P (written_by s w now) → write s w now ≡ Ok c → IsInForm P (after s c)
  written_in_form s w now c is given typed small new e = changed_in_form s c is (write_is_recorded s w now c is.logged given typed small e)
      (subst (λ (x : Change). Each P (updates_written x)) (answered (write_refusal s w) (own_change s (items_written s w now)) c e).1 new)

  pub taken_in_form : (s : State) (r : Reply) (c : Change) → IsInForm P s → IsReplyInForm P r → take s r ≡ Ok c → IsInForm P (after s c)
  taken_in_form s r c is reply e = changed_in_form s c is (taken_recorded s r c is.logged reply.spelled reply.ranged e)
      (λ u m. let t = (taken_brings s r c e).0 u m in reply.rows t.0 t.1 u t.2)

  pub collected_in_form : (s : State) (now lifetime : ℕ) (c : Change) → IsInForm P s → collect s now lifetime ≡ Ok c → IsInForm P (after s c)
  collected_in_form s now lifetime c is e = changed_in_form s c is (collection_is_recorded s now lifetime c is.logged e)
      (subst (λ (x : Change). Each P (updates_written x)) (answered (collect_refusal s made) made c e).1 (λ u m. absurd m))
    where
      made : Change
      made = collection s (deaths_to_collect s now lifetime)

  pub upgraded_in_form : (s : State) (c : Change) → IsInForm P s → upgrade s ≡ Ok c → IsInForm P (after s c)
  upgraded_in_form s c is e = changed_in_form s c is (upgrade_is_recorded s c is.logged e)
      (subst (λ (x : Change). Each P (updates_written x)) (answered (upgrade_refusal s) (upgraded s) c e).1 (λ u m. absurd m))

  -- a quarantine leaves the store of a state as it would that of one that is up
  pub quarantined_in_form : (s : State) → IsInForm P s → IsInForm P (after s (quarantine s))
  quarantined_in_form s is = changed_in_form up (quarantine up) (record { logged = logged; rows = is.rows }) (quarantine_is_recorded up logged refl) (λ u m. absurd m)
    where
      up : State
      up = record s { mode = Normal }

      formed : IsFormed up
      formed = record { store = is.logged.formed.store; own = is.logged.formed.own }

      logged : IsLogged up
      logged = record { dsa = is.logged.dsa; inv = is.logged.inv; formed = formed; spelled = is.logged.spelled; classes = is.logged.classes }

  -- ---- replies

  module _ (s : State) (q : Request) (each : Each P (updates_of s.store.rows)) where
    abbrev from : Mark
    from = begins_at s q

    abbrev unseen : List Held
    unseen = sendable s.store.rows from q.vector

    abbrev sent : List (ℕ × Item)
    sent = first_items q.max byte_limit (candidates s.store.rows from q.vector)

    -- a row that is sent is held
    sent_rows : Each (λ (i : Item). Each P i.rows) (map (λ (c : ℕ × Item). c.1) sent)
    sent_rows i m u n =
        let c = mapped_member (λ (c : ℕ × Item). c.1) sent i m in
        let front = first_front q.max byte_limit (candidates s.store.rows from q.vector) in
        let x = candidate_from s.store.rows unseen c.0 (subst (λ (cs : List (ℕ × Item)). Member c.0 cs) front.1 (member_left sent front.0 c.0 c.1)) in
        let same : i ≡ item_of unseen (unit_of x.0.update.key) = c.2 ∙ ap (λ (d : ℕ × Item). d.1) x.2 in
        let h = held_as (filter (λ (y : Held). same_unit (unit_of y.update.key) (unit_of x.0.update.key)) unseen) u (subst (λ (j : Item). Member u j.rows) same n) in
        let k = of_filter (λ (y : Held). same_unit (unit_of y.update.key) (unit_of x.0.update.key)) unseen h.0 h.1 in
        let a = of_filter (λ (y : Held). is_above_mark from s.store.rows y && is_unseen from q.vector y) s.store.rows h.0 k.0 in
        subst P (sym h.2) (each h.0.update (updated s.store.rows h.0 a.0))

  pub served_in_form : (s : State) (q : Request) (now : ℕ) (r : Reply) → IsInForm P s → IsRangedRequest q → IsU64 now → serve s q now ≡ Ok r → IsReplyInForm P r
  served_in_form s q now r is ranged fits e = let t = served_in_range s q r now is.logged ranged fits e in record {
    spelled = t.0;
    ranged = t.1;
    rows = subst (λ (x : Reply). Each (λ (i : Item). Each P i.rows) x.items) (answered (serve_refusal s q) (reply_to s q now) r e).1 (sent_rows s q is.rows);
  }

  -- ---- where states begin

  pub new_in_form : (dsa inv : Identifier) → IsId dsa → IsId inv → IsInForm P (empty_state dsa inv)
  new_in_form dsa inv right_dsa right_inv = record { logged = (new_may_begin dsa inv right_dsa right_inv).logged; rows = λ u m. absurd m }

  pub image_in_form : (s : State) → IsInForm P s → IsImageInForm P s.store
  image_in_form s is = record { formed = is.logged.formed.store; spelled = is.logged.spelled; rows = is.rows }

  pub adopted_in_form : (image : Store) (dsa inv : Identifier) (s : State) → IsImageInForm P image → IsId dsa → IsId inv → adopt image dsa inv ≡ Ok s → IsInForm P s
  adopted_in_form image dsa inv s is right_dsa right_inv e = record {
    logged = (adopted_is_logged image dsa inv s is.formed is.spelled right_dsa right_inv e).0;
    rows = subst (λ (t : State). Each P (updates_of t.store.rows)) (adopted_is_woken image dsa inv s e) is.rows;
  }
