-- A reply that a sound state gives to a sound request is sound.
use Rattle.std.proofs.Common.{[], ◌≡◌, ◌⊎◌, inl, inr, ⊎_elim, ℕ, zero, suc, ◌≤◌, ◌<◌, List, Bool, true, false, refl, sym, ◌∙◌, subst, ap, arith, map, filter, length, ◌==◌, ◌&&◌, not, if◌then◌else◌}
use Rattle.std.specs.Bool.{then_some}
use Rattle.std.specs.Cmp.Derive.{both_true}
use Rattle.std.proofs.lemmas.Bool.{and_parts, ltb-true, eqb-false}
use Rattle.std.proofs.lemmas.Bool.Decides.{leb_tells}
use Rattle.std.specs.Prelude.{nat_lt, IfSome}
use Rattle.adr_values.specs.declared.stamp.Unit.{Unit as Named}
use Rattle.adr_values.specs.Numbered.{numbered}
use Rattle.adr_values.specs.Vector.{Cursors, at, at_most}
use Rattle.adr_values.specs.Times.{AreTimesOf}
use Rattle.adr_values.proofs.Moments.{no_times, times_raise, times_filter}
use Rattle.adr_values.specs.declared.mark.Mark.{Mark}
use Rattle.adr_values.proofs.Cursors.{same_from_test}
use Rattle.adr_values.proofs.Comparing.{everywhere_from_at_most}
use Rattle.adr_model.specs.Member.{Member}
use Rattle.adr_model.specs.Update.{Identifier, Update, inv_of, usn_of, unit_of, same_unit, same_identifier}
use Rattle.adr_model.specs.Reflects.{Covers, Knowledge, knowledge_of, Reflects}
use Rattle.adr_model.specs.Store.{Held, State, updates_of, no_mark}
use Rattle.adr_model.specs.Change.{Item}
use Rattle.adr_model.specs.Formed.{AreRising, AreFormedRows}
use Rattle.adr_model.specs.LocalLog.{IsOrdered, rows_at}
use Rattle.adr_model.specs.Serve.{Request, Reply, last_local, is_above_mark, is_unseen, sendable, item_of, candidates, byte_limit, first_items, reply_of, begins_at, times_told, reply_to}
use Rattle.adr_model.specs.Replica.{Book, log_of}
use Rattle.adr_model.specs.Sound.{last_of, IsSoundBook, IsSoundState, IsSoundRequest, IsExact, IsSoundLast, IsSoundReply, CoversItsGround, AreClassesKnown}
use Rattle.adr_law_knowledge.specs.Grows.{Grows}
use Rattle.adr_law_knowledge.proofs.Knows.{grows_keeps, more_covered}
use Rattle.adr_law_calls.proofs.Rows.{updated, held_as}
use Rattle.adr_model.proofs.Members.{in_filter, of_filter, member_left, mapped_member}
use Rattle.adr_law_calls.proofs.Past.{Tells}
use Rattle.adr_law_calls.proofs.Locals.{last_within, units_same, units_tell}
use Rattle.adr_law_calls.proofs.Bounds.{boundary_when_all_is_read}
use Rattle.adr_law_calls.proofs.Candidates.{entry_of, candidate_from, row_in_item}
use Rattle.adr_law_calls.proofs.Ground.{LessTells, lt_tells, first_front, read_to_item, ground_of_log}

-- where a reply begins
pub begins : (book : Book) (s : State) (q : Request) → IsSoundState book s → IsSoundRequest book q → IsOrdered (begins_at s q) × ((begins_at s q).seen ≤ s.store.usn)
begins book s q state request = by (same_identifier q.inv s.inv) refl
  where
    by : (b : Bool) → same_identifier q.inv s.inv ≡ b → IsOrdered (if b then q.mark else no_mark) × ((if b then q.mark else no_mark).seen ≤ s.store.usn)
    by true is = (request.ordered, omega (arith, subst (λ i. q.mark.seen ≤ last_of book i) (same_from_test q.inv s.inv is) request.seen, state.last))
    by false is = (record { prop = omega arith; obj = omega arith }, omega arith)

positive : (n : ℕ) → (n ≡ 0 → ⊥) → 1 ≤ n
positive zero none = absurd (none refl)
positive (suc n) none = omega arith

module _ (book : Book) (s : State) (q : Request) (now : ℕ) (sound_book : IsSoundBook book) (state : IsSoundState book s) (request : IsSoundRequest book q) (purged : at_most s.store.purged q.vector ≡ true) where
  abbrev rows : List Held
  rows = s.store.rows

  abbrev from : Mark
  from = begins_at s q

  abbrev unseen : List Held
  unseen = sendable rows from q.vector

  abbrev sent : List (ℕ × Item)
  sent = first_items q.max byte_limit (candidates rows from q.vector)

  abbrev reply : Bool → Reply
  reply last = reply_of s q now from sent last

  began : IsOrdered from × (from.seen ≤ s.store.usn)
  began = begins book s q state request

  -- an item that is sent is of a row that may be sent
  sent_from : (c : ℕ × Item) → Member c sent → (x : Held) × Member x unseen × (c ≡ entry_of rows unseen (unit_of x.update.key))
  sent_from c m = let front = first_front q.max byte_limit (candidates rows from q.vector) in
      candidate_from rows unseen c (subst (λ (cs : List (ℕ × Item)). Member c cs) front.1 (member_left sent front.0 c m))

  above : (x : Held) → Member x unseen → from.obj < last_local rows (unit_of x.update.key)
  above x m = ltb-true from.obj (last_local rows (unit_of x.update.key)) (and_parts _ _ (of_filter (λ (h : Held). is_above_mark from rows h && is_unseen from q.vector h) rows x m).1).0

  to_ordered : (b : Bool) → IsOrdered (reply b).to
  to_ordered true = record { prop = omega arith; obj = omega arith }
  to_ordered false = ⊎_elim
      (λ e. record { prop = omega (arith, began.0.prop, e); obj = omega (arith, began.0.obj, began.1, e) })
      (λ z. let x = sent_from z.0 z.1 in let k : z.0.0 ≡ last_local rows (unit_of x.0.update.key) = ap (λ (c : ℕ × Item). c.0) x.2 in
      record { prop = omega (arith, began.0.prop, above x.0 x.1, z.2, k); obj = omega (arith, within x.0, z.2, k) })
      (read_to_item from.obj sent)
    where
      within : (x : Held) → last_local rows (unit_of x.update.key) ≤ s.store.usn
      within x = last_within (unit_of x.update.key) rows s.store.usn (λ y m e. (state.store.formed.locals y m).1)

  in_rows : (x : Held) → Member x unseen → Member x rows
  in_rows x m = (of_filter (λ (h : Held). is_above_mark from rows h && is_unseen from q.vector h) rows x m).0

  -- what an item that is sent is
  pub item_is : (i : Item) → Member i (map (λ (c : ℕ × Item). c.1) sent) → (x : Held) × Member x unseen × (i ≡ item_of unseen (unit_of x.update.key))
  item_is i m = let c = mapped_member (λ (c : ℕ × Item). c.1) sent i m in let x = sent_from c.0 c.1 in (x.0, x.1, c.2 ∙ ap (λ (d : ℕ × Item). d.1) x.2)

  pub row_is : (unit : Named) (u : Update) → Member u (item_of unseen unit).rows → (h : Held) × Member h unseen × (h.update ≡ u) × (unit_of h.update.key ≡ unit)
  row_is unit u m = let h = held_as (filter (λ (y : Held). same_unit (unit_of y.update.key) unit) unseen) u m in
      let k = of_filter (λ (y : Held). same_unit (unit_of y.update.key) unit) unseen h.0 h.1 in
      (h.0, k.0, sym h.2, units_tell (unit_of h.0.update.key) unit k.1)

  known : (u : Update) (i : Item) → Member i (map (λ (c : ℕ × Item). c.1) sent) → Member u i.rows → Member u book.issued
  known u i m n = let x = item_is i m in let h = row_is (unit_of x.0.update.key) u (subst (λ (j : Item). Member u j.rows) x.2 n) in
      subst (λ v. Member v book.issued) h.2 (state.store.known h.0.update (updated rows h.0 (in_rows h.0 h.1)))

  -- a row of the unit of one that may be sent is sent too, or was seen
  sent_too : (x h : Held) → Member x unseen → Member h rows → unit_of h.update.key ≡ unit_of x.update.key
      → Member h.update (item_of unseen (unit_of x.update.key)).rows ⊎ (Covers (at q.vector) h.update ⊎ (h.local ≤ from.prop))
  sent_too x h m n e = by (lt_tells from.prop h.local) (leb_tells (usn_of h.update) (at q.vector (inv_of h.update)))
    where
      high : nat_lt from.obj (last_local rows (unit_of h.update.key)) ≡ true
      high = subst (λ (unit : Named). nat_lt from.obj (last_local rows unit) ≡ true) (sym e) (and_parts _ _ (of_filter (λ (y : Held). is_above_mark from rows y && is_unseen from q.vector y) rows x m).1).0

      by : LessTells from.prop h.local → Tells (usn_of h.update) (at q.vector (inv_of h.update)) → Member h.update (item_of unseen (unit_of x.update.key)).rows ⊎ (Covers (at q.vector) h.update ⊎ (h.local ≤ from.prop))
      by (inr low) c = inr (inr low.1)
      by (inl up) (inl covered) = inr (inl covered.1)
      by (inl up) (inr new) = inl (updated (filter (λ (y : Held). same_unit (unit_of y.update.key) (unit_of x.update.key)) unseen) h
          (in_filter (λ (y : Held). same_unit (unit_of y.update.key) (unit_of x.update.key)) unseen h
          (in_filter (λ (y : Held). is_above_mark from rows y && is_unseen from q.vector y) rows h n (both_true high (both_true up.0 (ap not new.0))))
          (units_same (unit_of h.update.key) (unit_of x.update.key) e)))

  exact : (b : Bool) (i : Item) → Member i (map (λ (c : ℕ × Item). c.1) sent) → IsExact rows (reply b) i
  exact b i m = record {
    some = (x.update, subst (λ (j : Item). Member x.update j.rows) (sym is) (row_in_item rows unseen x there));
    from = λ u n. let h = row_is (unit_of x.update.key) u (subst (λ (j : Item). Member u j.rows) is n) in (h.0, in_rows h.0 h.1, h.2, subst (λ (v : Update). unit_of v.key ≡ i.unit) h.2 (h.3 ∙ sym unit));
    whole = λ h n e. ⊎_elim (λ t. inl (subst (λ (j : Item). Member h.update j.rows) (sym is) t)) (λ o. inr o) (sent_too x h there n (e ∙ unit));
  }
    where
      x : Held
      x = (item_is i m).0

      there : Member x unseen
      there = (item_is i m).1

      is : i ≡ item_of unseen (unit_of x.update.key)
      is = (item_is i m).2

      unit : i.unit ≡ unit_of x.update.key
      unit = ap (λ (j : Item). j.unit) is

  by_unit : (i : Item) → Member i (map (λ (c : ℕ × Item). c.1) sent) → i ≡ item_of unseen i.unit
  by_unit i m = let x = item_is i m in x.2 ∙ ap (item_of unseen) (sym (ap (λ (j : Item). j.unit) x.2))

  moment : (b : Bool) → rows ≡ rows_at (log_of book s.inv) (reply b).to.seen
  moment true = state.rows
  moment false = state.rows

  seen : (b : Bool) → (reply b).to.seen ≡ last_of book s.inv
  seen true = state.last
  seen false = state.last

  abbrev asked_for : Knowledge
  asked_for = record { rows = updates_of rows; vector = at s.store.vector; purged = at q.vector }

  further : Grows book.issued (knowledge_of s.store) asked_for
  further = more_covered book.issued (updates_of rows) (at s.store.vector) (at s.store.vector) (at s.store.purged) (at q.vector) (λ i. omega arith) (everywhere_from_at_most s.store.purged q.vector purged)

  -- the times that are told are of cursors of the own vector
  told_times : AreTimesOf s.store.vector (times_told s now)
  told_times = times_raise s.store.vector others s.inv (if s.store.usn == 0 then 0 else now) there (times_filter is_other s.store.vector s.store.times state.store.formed.times)
    where
      is_other : Identifier × ℕ → Bool
      is_other t = not (same_identifier t.0 s.inv)

      others : Cursors
      others = filter is_other s.store.times

      by : (b : Bool) → (s.store.usn == 0) ≡ b → 1 ≤ (if b then 0 else now) → 1 ≤ at s.store.vector s.inv
      by true e one = absurd (omega (arith, one))
      by false e one = omega (arith, positive s.store.usn (eqb-false s.store.usn 0 e), state.formed.own)

      there : 1 ≤ (if s.store.usn == 0 then 0 else now) → 1 ≤ at s.store.vector s.inv
      there = by (s.store.usn == 0) refl

  times : (b : Bool) → AreTimesOf s.store.vector (if b then times_told s now else [])
  times true = told_times
  times false = no_times s.store.vector

  last : (b : Bool) → IfSome (then_some b s.store.vector) (IsSoundLast book (reply b))
  last false = tt
  last true = record {
    obj = refl;
    prop = refl;
    vector = state.store.formed.vector;
    times = times (q.version == 2);
    bounded = state.store.bounded;
    carries = λ u m c. subst (λ (rs : List Held). Reflects book.issued (record { rows = updates_of rs; vector = at s.store.vector; purged = at q.vector }) u) state.rows
        (grows_keeps book.issued (knowledge_of s.store) asked_for further u (state.store.covered u m c));
  }

  sound : (b : Bool) → CoversItsGround (reply b) (log_of book s.inv) → IsSoundReply book (reply b)
  sound b ground = record {
    to_ordered = to_ordered b;
    to_seen = omega (arith, seen b);
    to_boundary = boundary_when_all_is_read (log_of book s.inv) (reply b).to.seen (sound_book.kept s.inv) (omega (arith, seen b));
    from_ordered = began.0;
    forward = omega (arith, began.1, state.last, seen b);
    asked = request.bounded;
    known = λ u t. known u t.0 t.1 t.2;
    ground = ground;
    last = last b;
    exact = λ i m. subst (λ (rs : List Held). IsExact rs (reply b) i) (moment b) (exact b i m);
    once = λ i m j n e. by_unit i m ∙ (ap (item_of unseen) e ∙ sym (by_unit j n));
    rising = subst AreRising (moment b) state.store.formed.rising;
    formed = subst (λ (rs : List Held). AreFormedRows (numbered s.store.schema) (updates_of rs)) (moment b) state.store.formed.rows;
    classes = subst (λ (rs : List Held). AreClassesKnown (numbered s.store.schema) (updates_of rs)) (moment b) state.store.classes;
  }

  pub reply_is_sound : IsSoundReply book (reply_to s q now)
  reply_is_sound = sound (length sent == length (candidates rows from q.vector)) (ground_of_log book s q now state.rows state.store.formed.alone)
