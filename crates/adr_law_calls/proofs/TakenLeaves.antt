-- What a reply that is taken leaves: a formed and closed store, and a change that follows in its log.
use Rattle.std.proofs.Common.{◌≡◌, ◌⊎◌, inl, inr, ⊎_elim, [], refl, sym, subst, arith, Ok}
use Rattle.adr_values.specs.declared.stamp.Oid.{Oid}
use Rattle.adr_values.specs.Numbered.{numbered}
use Rattle.adr_values.specs.Vector.{at}
use Rattle.adr_model.specs.Member.{Member, Each}
use Rattle.adr_model.specs.Update.{Update, ends}
use Rattle.adr_model.specs.Reflects.{CoversBirth, HoldsObject, knowledge_of}
use Rattle.adr_model.specs.Store.{Held, State, updates_of}
use Rattle.adr_model.specs.Change.{Change, after, held_of}
use Rattle.adr_model.specs.Formed.{IsClosed}
use Rattle.adr_model.specs.LocalLog.{Follows}
use Rattle.adr_model.specs.Serve.{Reply}
use Rattle.adr_model.specs.Take.{Taking, take, take_items, taken_change}
use Rattle.adr_model.specs.Replica.{Book, ToTake}
use Rattle.adr_model.specs.Sound.{last_of, IsSoundBook, IsSoundState, IsSoundReply, IsSent, AreClassesKnown}
use Rattle.adr_model.proofs.Members.{member_left}
use Rattle.adr_law_knowledge.proofs.Knows.{covered_absent}
use Rattle.adr_law_calls.specs.Puts.{AreClosed}
use Rattle.adr_law_calls.specs.Later.{MayIssue}
use Rattle.adr_law_calls.specs.Settling.{Leaves}
use Rattle.adr_law_calls.proofs.Units.{change_from}
use Rattle.adr_law_calls.specs.OnTheWay.{IsTakeable, IsTaken, IsTakenSoFar}
use Rattle.adr_law_calls.proofs.Rows.{held_as, updated}
use Rattle.adr_law_calls.proofs.Standings.{held_or_not}
use Rattle.adr_law_calls.proofs.OnTheWay.{source_classes, purged_within}
use Rattle.adr_law_calls.proofs.ItemRows.{in_source}
use Rattle.adr_law_calls.proofs.Items.{ends as way_ends}
use Rattle.adr_law_calls.proofs.TakenFormed.{taken_formed}
use Rattle.adr_law_calls.proofs.Passed.{is_taken}
use Rattle.adr_law_calls.proofs.TakenKnowledge.{behind, joins_vector, joins_times, joins_bounded, keeps, new_mark, carried, covered_now}

module _ (book : Book) (s : State) (r : Reply) (c : Change) (t : IsTaken book s r c) where
  abbrev may : IsTakeable book s r
  may = t.may

  abbrev now : Taking
  now = take_items s r.items

  abbrev change : Change
  change = taken_change s r now

  abbrev d : State
  d = behind book s r may

  way : IsTakenSoFar book s r now
  way = way_ends book s r may

  -- a row that stands now stood before or was sent
  pub from : Each (λ u. Member u (updates_of s.store.rows) ⊎ IsSent r u) (updates_of d.store.rows)
  from u m = let h = held_as d.store.rows u m in by h (change_from [] (held_of now.writes) s.store.rows h.0 h.1)
    where
      by : (h : (h : Held) × Member h d.store.rows × (u ≡ h.update)) → Member h.0 (held_of now.writes) ⊎ Member h.0 s.store.rows → Member u (updates_of s.store.rows) ⊎ IsSent r u
      by h (inl new) = inr (subst (IsSent r) (sym h.2) (way.sent h.0 new))
      by h (inr old) = inl (subst (λ v. Member v (updates_of s.store.rows)) (sym h.2) (updated s.store.rows h.0 old))

  known : Each (λ u. Member u book.issued) (updates_of d.store.rows)
  known u m = subst (λ rows. Each (λ v. Member v book.issued) (updates_of rows)) (sym way.steady.made) way.rows.known u m

  -- a class that is said came with the reply or was known
  classes : AreClassesKnown (numbered s.store.schema) (updates_of d.store.rows)
  classes u m = ⊎_elim (λ old. t.state.store.classes u old) (λ sent. source_classes book s r may u (in_source book s r may sent.0 (may.reply.exact sent.0 sent.1) u sent.2)) (from u m)

  closed_before : AreClosed (at s.store.vector) (updates_of d.store.rows)
  closed_before = subst (λ rows. AreClosed (at s.store.vector) (updates_of rows)) (sym way.steady.made) way.rows.closed

  -- an absent object whose birth the vector covers now was collected, so its birth was covered before
  covered_before : (o : Oid) (u : Update) → Member u book.issued → Member o (ends u.key) → (HoldsObject (updates_of d.store.rows) o → ⊥) → CoversBirth (at d.store.vector) o → CoversBirth (at s.store.vector) o
  covered_before o u m e absent covers =
      let b = may.book.born u m o e in
      let g = covered_absent book.issued (knowledge_of d.store) b.0 o (covered_now book s r may t.state) b.1 b.2.0 b.2.1 covers absent in
      omega (arith, g.birth, purged_within book s r may o.birth.inv)

  closed : IsClosed d.store
  closed l u m e o n = by (held_or_not d.store.rows o) (closed_before u m l e o n)
    where
      by : HoldsObject (updates_of d.store.rows) o ⊎ (HoldsObject (updates_of d.store.rows) o → ⊥) → HoldsObject (updates_of d.store.rows) o ⊎ (CoversBirth (at s.store.vector) o → ⊥)
          → HoldsObject (updates_of d.store.rows) o ⊎ (CoversBirth (at d.store.vector) o → ⊥)
      by (inl holds) before = inl holds
      by (inr absent) (inl holds) = absurd (absent holds)
      by (inr absent) (inr missed) = inr (λ covers. missed (covered_before o u (known u m) (subst (λ k. Member o (ends k)) (sym e) n) absent covers))

  leaves : Leaves book s (record { call = ToTake r; change = change })
  leaves = record {
    keeps = keeps book s r may;
    known = λ u m. member_left book.issued [] u (known u m);
    issued = λ u m. absurd m;
    joined = joins_vector book s r may;
    bounded = joins_bounded book s r may;
    carried = carried book s r may;
    formed = (taken_formed s r t.state.formed may.reply.to_ordered (joins_vector book s r may) (joins_times book s r may) way.steady t.passes).store;
    closed = closed;
    classes = classes;
    mark = new_mark book s r may;
  }

  follows : Follows (last_of book s.inv) change
  follows = record {
    rises = omega (arith, way.steady.rises, t.state.last);
    above = λ h m. omega (arith, way.above h m, t.state.last);
    within = way.within;
    idle = λ le. (way.idle (omega (arith, le, t.state.last)), refl);
  }

  may_issue : MayIssue book change []
  may_issue = record {
    alone = λ u m. absurd m;
    born = λ u m. absurd m;
    births = λ u m. absurd m;
    logged = λ h m. member_left book.issued [] h.update (may.reply.known h.update (way.sent h m));
  }

  leaves_sound : Follows (last_of book s.inv) c × (MayIssue book c [] × Leaves book s (record { call = ToTake r; change = c }))
  leaves_sound = subst (λ (x : Change). Follows (last_of book s.inv) x × (MayIssue book x [] × Leaves book s (record { call = ToTake r; change = x }))) t.is (follows, (may_issue, leaves))

pub taken_leaves : (book : Book) (s : State) (r : Reply) (c : Change) → IsSoundBook book → IsSoundState book s → IsSoundReply book r → take s r ≡ Ok c
    → Follows (last_of book s.inv) c × (MayIssue book c [] × Leaves book s (record { call = ToTake r; change = c }))
taken_leaves book s r c sound_book state reply e = leaves_sound book s r c (is_taken book s r c sound_book state reply e)

pub taken_from : (book : Book) (s : State) (r : Reply) (c : Change) → IsSoundBook book → IsSoundState book s → IsSoundReply book r → take s r ≡ Ok c
    → Each (λ u. Member u (updates_of s.store.rows) ⊎ IsSent r u) (updates_of (after s c).store.rows)
taken_from book s r c sound_book state reply e = let t = is_taken book s r c sound_book state reply e in
    subst (λ (x : Change). Each (λ u. Member u (updates_of s.store.rows) ⊎ IsSent r u) (updates_of (after s x).store.rows)) t.is (from book s r c t)
