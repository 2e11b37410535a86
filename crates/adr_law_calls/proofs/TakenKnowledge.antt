-- What is known behind a reply that is taken: nothing is lost, what was sent and what its vector brings is reflected, and its mark tells the truth.
use Rattle.std.proofs.Common.{◌≡◌, inl, inr, [], Bool, true, false, cond, Option, Some, None, is_some, if◌then◌else◌, unwrap_or, refl, sym, ap, ◌∙◌, subst, arith, max}
use Rattle.std.specs.Option.{IfSome}
use Rattle.std.specs.Ordering.{is_eq}
use Rattle.std.specs.List.Sorted.{IsStrictlySortedBy}
use Rattle.std.proofs.lemmas.Bool.Decides.{leb_tells}
use Rattle.adr_values.specs.Order.{identifier_order}
use Rattle.adr_values.specs.Vector.{Cursors, IsVector, at, joined}
use Rattle.adr_values.specs.Times.{AreTimesOf}
use Rattle.adr_values.proofs.Joining.{at-raised, at-joined}
use Rattle.adr_values.proofs.Moments.{no_times}
use Rattle.adr_values.proofs.Cursors.{same_from_test}
use Rattle.adr_model.specs.Member.{Each}
use Rattle.adr_model.specs.Update.{Identifier, Update, inv_of, usn_of}
use Rattle.adr_model.specs.Reflects.{Covers, AtMost, Knowledge, knowledge_of, Reflects}
use Rattle.adr_model.specs.Store.{State, updates_of}
use Rattle.adr_model.specs.Change.{after}
use Rattle.adr_model.specs.Serve.{Reply}
use Rattle.adr_model.specs.Take.{Taking, take_items, times_brought, taken_change}
use Rattle.adr_model.specs.Replica.{Book, log_of}
use Rattle.adr_model.specs.Sound.{last_of, IsBounded, IsSoundMark, IsSoundLast, IsSoundState, IsSent}
use Rattle.adr_law_knowledge.specs.Grows.{Grows}
use Rattle.adr_law_knowledge.proofs.Knows.{grows_keeps, grows_trans, more_covered, carry_over}
use Rattle.adr_law_calls.proofs.Past.{Tells}
use Rattle.adr_law_calls.proofs.Moved.{mark_taken}
use Rattle.adr_law_calls.proofs.Bounds.{rows_are_within}
use Rattle.adr_law_calls.specs.OnTheWay.{IsTakeable, known_with, source_rows}
use Rattle.adr_law_calls.proofs.Rows.{held_as}
use Rattle.adr_law_calls.proofs.Items.{ends, items_reflected}

-- what a reply joins is a vector, and bounded
carried_is : (book : Book) (r : Reply) (last : Option Cursors) → IfSome last (IsSoundLast book r) → IsVector (unwrap_or last []) × IsBounded book (at (unwrap_or last []))
unfolding IsStrictlySortedBy
carried_is book r None h = (record { rising = tt; from_one = tt; few = omega arith }, λ i. omega arith)
carried_is book r (Some w) h = (h.vector, h.bounded)

-- and its times are of that vector
carried_times : (book : Book) (r : Reply) (last : Option Cursors) → IfSome last (IsSoundLast book r) → AreTimesOf (unwrap_or last []) (if is_some last then r.times else [])
carried_times book r None h = no_times []
carried_times book r (Some w) h = h.times

module _ (book : Book) (s : State) (r : Reply) (may : IsTakeable book s r) where
  abbrev now : Taking
  now = take_items s r.items

  abbrev pub behind : State
  behind = after s (taken_change s r now)

  abbrev pub brought : Cursors
  brought = unwrap_or r.last []

  pub joins_vector : IsVector brought
  joins_vector = (carried_is book r r.last may.reply.last).0

  pub joins_times : AreTimesOf brought (times_brought r)
  joins_times = carried_times book r r.last may.reply.last

  pub joins_bounded : IsBounded book (at brought)
  joins_bounded = (carried_is book r r.last may.reply.last).1

  vector_is : (i : Identifier) → at behind.store.vector i ≡ max (max (at s.store.vector i) (at brought i)) (cond (is_eq (identifier_order i s.inv)) now.usn 0)
  vector_is i = at-raised (joined s.store.vector brought) s.inv now.usn i ∙ ap (λ n. max n (cond (is_eq (identifier_order i s.inv)) now.usn 0)) (at-joined brought s.store.vector i joins_vector.rising)

  pub higher : AtMost (at s.store.vector) (at behind.store.vector)
  higher i = omega (arith, vector_is i)

  brings : AtMost (at brought) (at behind.store.vector)
  brings i = omega (arith, vector_is i)

  -- what is known with the rows behind the items is known behind the reply
  pub wider : Grows book.issued (known_with s now.rows) (knowledge_of behind.store)
  wider = subst (λ rows. Grows book.issued (known_with s now.rows) (record { rows = updates_of rows; vector = at behind.store.vector; purged = at s.store.purged }))
      (sym (ends book s r may).steady.made)
      (more_covered book.issued (updates_of now.rows) (at s.store.vector) (at behind.store.vector) (at s.store.purged) (at s.store.purged) higher (λ i. omega arith))

  pub taken_grows : Grows book.issued (knowledge_of s.store) (knowledge_of behind.store)
  taken_grows = grows_trans book.issued (knowledge_of s.store) (known_with s now.rows) (knowledge_of behind.store) (ends book s r may).rows.grows wider

  pub keeps : (u : Update) → Reflects book.issued (knowledge_of s.store) u → Reflects book.issued (knowledge_of behind.store) u
  keeps = grows_keeps book.issued (knowledge_of s.store) (knowledge_of behind.store) taken_grows

  sent : (u : Update) → IsSent r u → Reflects book.issued (knowledge_of behind.store) u
  sent u m = grows_keeps book.issued (known_with s now.rows) (knowledge_of behind.store) wider u (items_reflected book s r may u m)

  pub new_mark : IsSoundMark book (knowledge_of behind.store) r.inv r.to
  new_mark = mark_taken book r (knowledge_of s.store) (knowledge_of behind.store) may.book may.reply
      (record { mark = may.mark; asked = may.asked; covered = may.base.covered }) (record { kept = keeps; sent = sent })

  -- the last reply brings what its vector covers
  module _ (w : Cursors) (last : IsSoundLast book r w) (up : AtMost (at w) (at behind.store.vector)) where
    abbrev there : Knowledge
    there = record { rows = updates_of (source_rows book r); vector = at w; purged = at r.asked }

    all_read : Each (λ u. Reflects book.issued (knowledge_of behind.store) u) (updates_of (source_rows book r))
    all_read u m = let h = held_as (source_rows book r) u m in
        subst (Reflects book.issued (knowledge_of behind.store)) (sym h.2) (new_mark.watermark h.0 h.1 (inl (omega (arith, (rows_are_within (log_of book r.inv) r.to.seen (may.book.kept r.inv) h.0 h.1).1, last.prop))))

    pub last_brings : Each (λ u. Covers (at w) u → Reflects book.issued (knowledge_of behind.store) u) book.issued
    last_brings u m c = carry_over book.issued there (knowledge_of behind.store) up all_read
        (λ d n covers. keeps d (may.base.covered d n (omega (arith, covers, may.asked (inv_of d))))) u c (last.carries u m c)

  carried_by : (last : Option Cursors) → IfSome last (IsSoundLast book r) → AtMost (at (unwrap_or last [])) (at behind.store.vector) → Each (λ u. Covers (at (unwrap_or last [])) u → Reflects book.issued (knowledge_of behind.store) u) book.issued
  carried_by None h up u m c = absurd (omega (arith, (may.book.once u m).0, c))
  carried_by (Some w) h up u m c = last_brings w h up u m c

  pub carried : Each (λ u. Covers (at brought) u → Reflects book.issued (knowledge_of behind.store) u) book.issued
  carried = carried_by r.last may.reply.last brings

  -- all that the vector covers now is reflected
  pub covered_now : IsSoundState book s → Each (λ u. Covers (at behind.store.vector) u → Reflects book.issued (knowledge_of behind.store) u) book.issued
  covered_now state u m c = by (is_eq (identifier_order (inv_of u) s.inv)) refl (leb_tells (usn_of u) (at s.store.vector (inv_of u)))
    where
      old : Covers (at s.store.vector) u → Reflects book.issued (knowledge_of behind.store) u
      old covers = keeps u (may.base.covered u m covers)

      by : (b : Bool) → is_eq (identifier_order (inv_of u) s.inv) ≡ b → Tells (usn_of u) (at s.store.vector (inv_of u)) → Reflects book.issued (knowledge_of behind.store) u
      by b is (inl within) = old within.1
      by true is (inr more) =
          let same : inv_of u ≡ s.inv = same_from_test (inv_of u) s.inv is in
          old (omega (arith, (may.book.once u m).1, ap (last_of book) same, ap (at s.store.vector) same, state.last, state.formed.own))
      by false is (inr more) =
          let other : at behind.store.vector (inv_of u) ≡ max (max (at s.store.vector (inv_of u)) (at brought (inv_of u))) 0 = vector_is (inv_of u) ∙ ap (λ b. max (max (at s.store.vector (inv_of u)) (at brought (inv_of u))) (cond b now.usn 0)) is in
          carried u m (omega (arith, more.1, c, other))
