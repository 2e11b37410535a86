-- A change that leaves what a sound state needs leaves a sound state.
use Rattle.std.proofs.Common.{◌≡◌, ◌⊎◌, inl, inr, ⊎_elim, ◌≤◌, List, Bool, true, false, cond, Option, Some, None, refl, sym, ◌∙◌, subst, ap, arith, max}
use Rattle.std.specs.Option.{IfSome}
use Rattle.std.specs.Ordering.{is_eq}
use Rattle.std.proofs.lemmas.Bool.Decides.{leb_tells}
use Rattle.std.proofs.lemmas.Map.Lookups.{exact_bytes}
use Rattle.adr_values.specs.Order.{identifier_order}
use Rattle.adr_values.specs.Vector.{at, joined}
use Rattle.adr_values.proofs.Cursors.{test_itself, same_from_test}
use Rattle.adr_values.proofs.Joining.{at-raised, at-joined}
use Rattle.adr_model.specs.Member.{Member, Each}
use Rattle.adr_model.specs.Update.{Identifier, Update, inv_of, usn_of}
use Rattle.adr_model.specs.Reflects.{Numbers, Covers, knowledge_of, Reflects}
use Rattle.adr_model.specs.Store.{PartnerMark, State}
use Rattle.adr_model.specs.Change.{held_of, rows_after, with_mark, after}
use Rattle.adr_model.specs.LocalLog.{LocalLog, no_log, last_usn, rows_at, Follows}
use Rattle.adr_model.specs.Replica.{Pending, issued_by, Book, log_of, with_change, recorded}
use Rattle.adr_model.specs.Sound.{last_of, IsBounded, IsSoundBook, IsSoundMark, IsSoundState}
use Rattle.adr_model.proofs.Members.{member_of_either}
use Rattle.adr_law_calls.specs.Later.{IsLater, AreIssuedBy}
use Rattle.adr_law_calls.specs.Settling.{Leaves}
use Rattle.adr_law_calls.proofs.Past.{Tells}
use Rattle.adr_law_calls.proofs.Extended.{rows_now}
use Rattle.adr_law_calls.proofs.Frames.{more_issued, mark_later}
use Rattle.adr_law_calls.proofs.Recorded.{recorded_later}
use Rattle.adr_law_calls.proofs.Tables.{entry_from, entry_itself}

-- a fact of what is kept, and of a mark that comes, is one of all that is kept then
pub each_mark : (P : PartnerMark → Type 0) (o : Option (Identifier × PartnerMark)) (marks : List (Identifier × PartnerMark)) → IfSome o (λ m. P m.1) → Each (λ m. P m.1) marks → Each (λ m. P m.1) (with_mark o marks)
each_mark P None marks new old m n = old m n
each_mark P (Some x) marks new old m n = ⊎_elim (λ is. subst (λ (t : Identifier × PartnerMark). P t.1) (sym is) new) (λ j. old m j) (entry_from identifier_order exact_bytes marks x.0 x.1 m n)

module _ (book : Book) (s : State) (p : Pending) (sound_book : IsSoundBook book) (state : IsSoundState book s)
    (follows : Follows (last_of book s.inv) p.change) (own : AreIssuedBy book s.inv p.change (issued_by p.call p.change)) (leaves : Leaves book s p) where
  abbrev next : Book
  next = recorded book s.inv p

  abbrev d : State
  d = after s p.change

  abbrev V : Numbers
  V = at s.store.vector

  abbrev J : Numbers
  J = at p.change.joined

  abbrev W : Numbers
  W = at d.store.vector

  later : IsLater book next
  later = recorded_later book s.inv p follows own

  log : log_of next s.inv ≡ with_change (log_of book s.inv) p.change
  log = entry_itself book.logs no_log s.inv (with_change (log_of book s.inv) p.change)

  last : last_of next s.inv ≡ p.change.usn
  last = ap last_usn log

  W_is : (i : Identifier) → W i ≡ max (max (V i) (J i)) (cond (is_eq (identifier_order i s.inv)) p.change.usn 0)
  W_is i = at-raised (joined s.store.vector p.change.joined) s.inv p.change.usn i ∙ ap (λ n. max n (cond (is_eq (identifier_order i s.inv)) p.change.usn 0)) (at-joined p.change.joined s.store.vector i leaves.joined.rising)

  here : (i : Identifier) → is_eq (identifier_order i s.inv) ≡ true → W i ≡ max (max (V i) (J i)) p.change.usn
  here i is = W_is i ∙ ap (λ b. max (max (V i) (J i)) (cond b p.change.usn 0)) is

  elsewhere : (i : Identifier) → is_eq (identifier_order i s.inv) ≡ false → W i ≡ max (V i) (J i)
  elsewhere i is = W_is i ∙ ap (λ b. max (max (V i) (J i)) (cond b p.change.usn 0)) is ∙ omega arith

  bounded : IsBounded next W
  bounded i = by (is_eq (identifier_order i s.inv)) refl
    where
      by : (b : Bool) → is_eq (identifier_order i s.inv) ≡ b → W i ≤ last_of next i
      by true is = omega (arith, here i is, state.store.bounded i, leaves.bounded i, later.rising i, last, ap (last_of next) (same_from_test i s.inv is))
      by false is = omega (arith, elsewhere i is, state.store.bounded i, leaves.bounded i, later.rising i)

  -- what the vector covered was taken, and what was joined in is taken now
  taken : (u : Update) → Member u book.issued → Covers V u ⊎ Covers J u → Reflects next.issued (knowledge_of d.store) u
  taken u m (inl c) = more_issued book next later (knowledge_of d.store) u (leaves.keeps u (state.store.covered u m c))
  taken u m (inr c) = more_issued book next later (knowledge_of d.store) u (leaves.carried u m c)

  covered : Each (λ u. Covers W u → Reflects next.issued (knowledge_of d.store) u) next.issued
  covered u m c = ⊎_elim (λ old. taken u old (by old (is_eq (identifier_order (inv_of u) s.inv)) refl)) (λ new. more_issued book next later (knowledge_of d.store) u (leaves.issued u new))
      (member_of_either book.issued (issued_by p.call p.change) u m)
    where
      either : Tells (usn_of u) (V (inv_of u)) → W (inv_of u) ≡ max (V (inv_of u)) (J (inv_of u)) → Covers V u ⊎ Covers J u
      either (inl within) e = inl within.1
      either (inr above) e = inr (omega (arith, above.1, c, e))

      by : Member u book.issued → (b : Bool) → is_eq (identifier_order (inv_of u) s.inv) ≡ b → Covers V u ⊎ Covers J u
      by old true is = inl (omega (arith, (sound_book.once u old).1, ap (last_of book) (same_from_test (inv_of u) s.inv is), ap V (same_from_test (inv_of u) s.inv is), state.last, state.formed.own))
      by old false is = either (leb_tells (usn_of u) (V (inv_of u))) (elsewhere (inv_of u) is)

  mark_is : (k : PartnerMark) → IsSoundMark book (knowledge_of s.store) k.inv k.mark → IsSoundMark next (knowledge_of d.store) k.inv k.mark
  mark_is k is = mark_later book next later (knowledge_of d.store) k.inv k.mark (record {
    ordered = is.ordered;
    seen = is.seen;
    boundary = is.boundary;
    watermark = λ x m below. leaves.keeps x.update (is.watermark x m below);
  })

  new_mark : (o : Option (Identifier × PartnerMark)) → IfSome o (λ m. IsSoundMark book (knowledge_of d.store) m.1.inv m.1.mark) → IfSome o (λ m. IsSoundMark next (knowledge_of d.store) m.1.inv m.1.mark)
  new_mark None h = h
  new_mark (Some m) h = mark_later book next later (knowledge_of d.store) m.1.inv m.1.mark h

  rows : d.store.rows ≡ rows_at (log_of next s.inv) p.change.usn
  rows =
      ap (rows_after p.change.removed (held_of p.change.writes)) (state.rows ∙ ap (rows_at (log_of book s.inv)) state.last)
      ∙ sym (rows_now (log_of book s.inv) p.change (sound_book.kept s.inv) follows)
      ∙ ap (λ (h : LocalLog). rows_at h p.change.usn) (sym log)

  pub sound_state_is_left : IsSoundState next d
  sound_state_is_left = record {
    store = record {
      known = λ u m. leaves.known u m;
      bounded = bounded;
      covered = covered;
      formed = leaves.formed;
      closed = leaves.closed;
      classes = leaves.classes;
      marks = each_mark (λ k. IsSoundMark next (knowledge_of d.store) k.inv k.mark) p.change.mark s.store.marks (new_mark p.change.mark leaves.mark) (λ m n. mark_is m.1 (state.store.marks m n));
    };
    formed = record { store = leaves.formed; own = own_is };
    last = sym last;
    rows = rows;
  }
    where
      own_is : W s.inv ≡ p.change.usn
      own_is = omega (arith, here s.inv (test_itself s.inv), state.formed.own, leaves.bounded s.inv, state.last, follows.rises)
