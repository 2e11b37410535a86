-- What holds on the way still holds where the rows of an item are put.
use Rattle.std.proofs.Common.{◌≡◌, ◌⊎◌, inl, inr, ⊎_elim, ℕ, ◌≤◌, ◌<◌, ◌+◌, List, [], ◌∷◌, ◌++◌, refl, sym, ap, ◌∙◌, subst, fold, map, arith, length, Option}
use Rattle.std.proofs.lemmas.List.{append-nil}
use Rattle.std.proofs.lemmas.Grind.{fold-append, flat_map-append}
use Rattle.adr_values.specs.declared.stamp.Unit.{Unit as Named}
use Rattle.adr_values.specs.Numbered.{numbered}
use Rattle.adr_values.specs.Vector.{at}
use Rattle.adr_call.specs.declared.refusal.TakeRefusal.{TakeRefusal}
use Rattle.adr_model.specs.Member.{Member, Each}
use Rattle.adr_model.specs.Update.{Update}
use Rattle.adr_model.specs.Store.{Held, State, updates_of}
use Rattle.adr_model.specs.Change.{Item, Written, held_of, put, rows_after}
use Rattle.adr_model.specs.Formed.{AreRising, AreFormedRows, AreAlone}
use Rattle.adr_model.specs.Serve.{Reply}
use Rattle.adr_model.specs.Take.{Taking, writes_of}
use Rattle.adr_model.specs.Replica.{Book}
use Rattle.adr_model.specs.Sound.{IsSent}
use Rattle.adr_model.proofs.Members.{member_of_either}
use Rattle.adr_law_knowledge.specs.Grows.{Grows}
use Rattle.adr_law_knowledge.proofs.Knows.{grows_trans, grows_self}
use Rattle.adr_law_calls.specs.Puts.{held_at, under, MayPut, ArePut}
use Rattle.adr_law_calls.specs.KeepForms.{KeepForms}
use Rattle.adr_law_calls.specs.OnTheWay.{IsTakeable, known_with, AreOnTheWay, IsTakenSoFar, StaysFormed}
use Rattle.adr_law_calls.proofs.Rows.{updated}
use Rattle.adr_law_calls.proofs.Putting.{are_put, puts_grow}
use Rattle.adr_law_calls.proofs.Order.{puts_rise, puts_stay_alone, puts_stay_within}
use Rattle.adr_law_calls.proofs.PutForms.{under_usn, whence_update, rows_stay_formed, rows_stay_closed}
use Rattle.adr_law_calls.proofs.OnTheWay.{purged_within}

held_where_written : (usn : ℕ) (unit : Named) (us : List Update) → held_of (record { local = usn; item = record { unit = unit; rows = us } } ∷ []) ≡ under usn us
held_where_written usn unit us = append-nil (under usn us)

-- the rows that are written of an item are put under the next USN
pub put_of_item : (usn : ℕ) (i : Item) (us : List Update) (rows : List Held) → rows_after [] (held_of (writes_of usn i us)) rows ≡ fold put rows (under (usn + 1) us)
put_of_item usn i [] rows = refl
put_of_item usn i (u ∷ us) rows = ap (λ hs. fold put rows hs) (held_where_written (usn + 1) i.unit (u ∷ us))

module _ (book : Book) (s : State) (r : Reply) (may : IsTakeable book s r) (rows : List Held) (way : AreOnTheWay book s rows) (usn : ℕ) (unit : Named) (us : List Update)
    (issued : Each (λ u. Member u book.issued) us)
    (puts : MayPut (updates_of rows) (at s.store.vector) unit us) (keeps : KeepForms (numbered s.store.schema) (at s.store.vector) (updates_of rows) unit us) where
  abbrev next : List Held
  next = fold put rows (under usn us)

  are : ArePut usn us rows next
  are = are_put usn rows (at s.store.vector) unit us puts

  known : Each (λ u. Member u book.issued) (updates_of next)
  known u m = ⊎_elim (λ n. issued u n) (λ old. way.known u old) (whence_update usn us rows next are u m)

  pub grows_by_puts : Grows book.issued (known_with s rows) (known_with s next)
  grows_by_puts = puts_grow book.issued usn rows next (at s.store.vector) (at s.store.purged) unit us puts are (purged_within book s r may)

  pub rows_step : AreOnTheWay book s next
  rows_step = record {
    rising = puts_rise rows (under usn us) way.rising;
    known = known;
    grows = grows_trans book.issued _ (known_with s rows) (known_with s next) way.grows grows_by_puts;
    formed = rows_stay_formed usn us rows next are s.store.schema (at s.store.vector) unit way.rising (puts_rise rows (under usn us) way.rising) way.formed puts keeps;
    closed = rows_stay_closed usn us rows next are s.store.schema (at s.store.vector) unit way.closed puts keeps;
  }

-- a taking that goes on with these rows of an item
abbrev pub goes_on : Taking → Item → List Update → Option TakeRefusal → ℕ → ℕ → ℕ → Taking
goes_on t i us refusal place objects links =
    record {
      rows = rows_after [] (held_of (writes_of t.usn i us)) t.rows;
      usn = t.usn + length (writes_of t.usn i us);
      writes = t.writes ++ writes_of t.usn i us;
      refusal = refusal;
      place = place;
      objects = objects;
      links = links;
    }

pub held_of_both : (ws vs : List Written) → held_of (ws ++ vs) ≡ held_of ws ++ held_of vs
held_of_both ws vs = flat_map-append (λ (w : Written). map (held_at w.local) w.item.rows) ws vs

-- ---- whatever the reply is

module _ (s : State) (t : Taking) (way : StaysFormed s t) (i : Item) (refusal : Option TakeRefusal) (place objects links : ℕ) where
  -- nothing is written
  steady_idle : StaysFormed s (goes_on t i [] refusal place objects links)
  steady_idle = record {
    rising = way.rising;
    formed = way.formed;
    alone = way.alone;
    locals = λ h m. ((way.locals h m).0, omega (arith, (way.locals h m).1));
    made = ap (λ ws. rows_after [] (held_of ws) s.store.rows) (append-nil t.writes) ∙ way.made;
    rises = omega (arith, way.rises);
  }

  module _ (u : Update) (us : List Update)
      (puts : MayPut (updates_of t.rows) (at s.store.vector) i.unit (u ∷ us)) (keeps : KeepForms (numbered s.store.schema) (at s.store.vector) (updates_of t.rows) i.unit (u ∷ us)) where
    abbrev put_rows : List Held
    put_rows = fold put t.rows (under (t.usn + 1) (u ∷ us))

    put_are : ArePut (t.usn + 1) (u ∷ us) t.rows put_rows
    put_are = are_put (t.usn + 1) t.rows (at s.store.vector) i.unit (u ∷ us) puts

    put_rise : AreRising put_rows
    put_rise = puts_rise t.rows (under (t.usn + 1) (u ∷ us)) way.rising

    put_same : (goes_on t i (u ∷ us) refusal place objects links).rows ≡ put_rows
    put_same = put_of_item t.usn i (u ∷ us) t.rows

    steady_written : StaysFormed s (goes_on t i (u ∷ us) refusal place objects links)
    steady_written = record {
      rising = subst AreRising (sym put_same) put_rise;
      formed = subst (λ rows. AreFormedRows (numbered s.store.schema) (updates_of rows)) (sym put_same)
          (rows_stay_formed (t.usn + 1) (u ∷ us) t.rows put_rows put_are s.store.schema (at s.store.vector) i.unit way.rising put_rise way.formed puts keeps);
      alone = subst AreAlone (sym put_same) (puts_stay_alone t.usn (t.usn + 1) t.rows put_rows (at s.store.vector) i.unit (u ∷ us) way.alone (λ h m. (way.locals h m).1) (omega arith) puts put_are);
      locals = subst (Each (λ h. (1 ≤ h.local) × (h.local ≤ t.usn + 1))) (sym put_same) (puts_stay_within t.usn (t.usn + 1) t.rows put_rows (u ∷ us) way.locals (omega arith) put_are);
      made = ap (λ hs. fold put s.store.rows hs) (held_of_both t.writes (writes_of t.usn i (u ∷ us)))
          ∙ (fold-append put s.store.rows (held_of t.writes) (held_of (writes_of t.usn i (u ∷ us))) ∙ ap (λ rows. fold put rows (held_of (writes_of t.usn i (u ∷ us)))) way.made);
      rises = omega (arith, way.rises);
    }

  pub steady_step : (us : List Update)
      → (us ≡ []) ⊎ (MayPut (updates_of t.rows) (at s.store.vector) i.unit us × KeepForms (numbered s.store.schema) (at s.store.vector) (updates_of t.rows) i.unit us)
      → StaysFormed s (goes_on t i us refusal place objects links)
  steady_step [] e = steady_idle
  steady_step (u ∷ us) (inl e) = absurd (let f : u ∷ us ≡ [] = e in cc)
  steady_step (u ∷ us) (inr (puts, keeps)) = steady_written u us puts keeps

-- ---- of a sound reply

module _ (book : Book) (s : State) (r : Reply) (may : IsTakeable book s r) (t : Taking) (way : IsTakenSoFar book s r t) (i : Item) (refusal : Option TakeRefusal) (place objects links : ℕ) where
  -- nothing is written
  idle : IsTakenSoFar book s r (goes_on t i [] refusal place objects links)
  idle = record {
    steady = steady_step s t way.steady i refusal place objects links [] (inl refl);
    rows = way.rows;
    sent = subst (λ ws. Each (λ h. IsSent r h.update) (held_of ws)) (sym (append-nil t.writes)) way.sent;
    above = subst (λ ws. Each (λ h. s.store.usn < h.local) (held_of ws)) (sym (append-nil t.writes)) way.above;
    within = λ h m. omega (arith, way.within h (subst (λ ws. Member h (held_of ws)) (append-nil t.writes) m));
    idle = λ le. append-nil t.writes ∙ way.idle (omega (arith, le));
  }

  module _ (u : Update) (us : List Update) (of_item : Each (λ v. IsSent r v) (u ∷ us))
      (puts : MayPut (updates_of t.rows) (at s.store.vector) i.unit (u ∷ us)) (keeps : KeepForms (numbered s.store.schema) (at s.store.vector) (updates_of t.rows) i.unit (u ∷ us)) where
    abbrev after : List Held
    after = fold put t.rows (under (t.usn + 1) (u ∷ us))

    abbrev behind : Taking
    behind = goes_on t i (u ∷ us) refusal place objects links

    same : behind.rows ≡ after
    same = put_of_item t.usn i (u ∷ us) t.rows

    new_or_old : (h : Held) → Member h (held_of behind.writes) → (Member h.update (u ∷ us) × (h.local ≡ t.usn + 1)) ⊎ Member h (held_of t.writes)
    new_or_old h m = by (member_of_either (held_of t.writes) (held_of (writes_of t.usn i (u ∷ us))) h (subst (Member h) (held_of_both t.writes (writes_of t.usn i (u ∷ us))) m))
      where
        by : Member h (held_of t.writes) ⊎ Member h (held_of (writes_of t.usn i (u ∷ us))) → (Member h.update (u ∷ us) × (h.local ≡ t.usn + 1)) ⊎ Member h (held_of t.writes)
        by (inl old) = inr old
        by (inr new) = inl (under_usn (t.usn + 1) (u ∷ us) h (subst (Member h) (held_where_written (t.usn + 1) i.unit (u ∷ us)) new))

    written : IsTakenSoFar book s r behind
    written = record {
      steady = steady_step s t way.steady i refusal place objects links (u ∷ us) (inr (puts, keeps));
      rows = subst (AreOnTheWay book s) (sym same) (rows_step book s r may t.rows way.rows (t.usn + 1) i.unit (u ∷ us) (λ v m. may.reply.known v (of_item v m)) puts keeps);
      sent = λ h m. ⊎_elim (λ new. of_item h.update new.0) (λ old. way.sent h old) (new_or_old h m);
      above = λ h m. ⊎_elim (λ new. omega (arith, new.1, way.steady.rises)) (λ old. way.above h old) (new_or_old h m);
      within = λ h m. ⊎_elim (λ new. omega (arith, new.1)) (λ old. omega (arith, way.within h old)) (new_or_old h m);
      idle = λ le. absurd (omega (arith, le, way.steady.rises));
    }

  pub step : (us : List Update) → Each (λ v. IsSent r v) us
      → (us ≡ []) ⊎ (MayPut (updates_of t.rows) (at s.store.vector) i.unit us × KeepForms (numbered s.store.schema) (at s.store.vector) (updates_of t.rows) i.unit us)
      → IsTakenSoFar book s r (goes_on t i us refusal place objects links)
  step [] of_item e = idle
  step (u ∷ us) of_item (inl e) = absurd (let f : u ∷ us ≡ [] = e in cc)
  step (u ∷ us) of_item (inr (puts, keeps)) = written u us of_item puts keeps

  pub step_grows : (us : List Update) → Each (λ v. IsSent r v) us
      → (us ≡ []) ⊎ (MayPut (updates_of t.rows) (at s.store.vector) i.unit us × KeepForms (numbered s.store.schema) (at s.store.vector) (updates_of t.rows) i.unit us)
      → Grows book.issued (known_with s t.rows) (known_with s (goes_on t i us refusal place objects links).rows)
  step_grows [] of_item e = grows_self book.issued (known_with s t.rows)
  step_grows (u ∷ us) of_item (inl e) = absurd (let f : u ∷ us ≡ [] = e in cc)
  step_grows (u ∷ us) of_item (inr (puts, keeps)) =
      subst (λ rows. Grows book.issued (known_with s t.rows) (known_with s rows)) (sym (put_of_item t.usn i (u ∷ us) t.rows))
      (grows_by_puts book s r may t.rows way.rows (t.usn + 1) i.unit (u ∷ us) (λ v m. may.reply.known v (of_item v m)) puts keeps)

  pub step_writes : (us : List Update)
      → (us ≡ []) ⊎ (MayPut (updates_of t.rows) (at s.store.vector) i.unit us × KeepForms (numbered s.store.schema) (at s.store.vector) (updates_of t.rows) i.unit us)
      → Each (λ v. Member v (updates_of (goes_on t i us refusal place objects links).rows)) us
  step_writes us (inl e) v m = absurd (subst (Member v) e m)
  step_writes us (inr (puts, keeps)) v m =
      subst (λ rows. Member v (updates_of rows)) (sym (put_of_item t.usn i us t.rows))
      (updated (fold put t.rows (under (t.usn + 1) us)) (held_at (t.usn + 1) v) ((are_put (t.usn + 1) t.rows (at s.store.vector) i.unit us puts).written v m))
