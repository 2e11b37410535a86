-- Items that a sound state writes one after the other, in one change, issue what they may and leave what a sound state needs: so does one
-- change for each, in a book in which each became safe by itself.
use Rattle.std.proofs.Common.{◌≡◌, inl, inr, ⊎_elim, ℕ, ◌+◌, List, [], ◌∷◌, ◌++◌, refl, sym, ap, ◌∙◌, subst, arith}
use Rattle.adr_model.specs.Member.{Member, Each}
use Rattle.adr_model.specs.Update.{Update, inv_of, usn_of}
use Rattle.adr_model.specs.Reflects.{knowledge_of, Reflects}
use Rattle.adr_model.specs.Store.{Held, State}
use Rattle.adr_model.specs.Change.{Item, Written, Change, held_of, updates_written, after}
use Rattle.adr_model.specs.LocalLog.{Follows}
use Rattle.adr_model.specs.Write.{Write, own_change}
use Rattle.adr_model.specs.Replica.{Pending, ToWrite, Book, recorded}
use Rattle.adr_model.specs.Sound.{last_of, IsSoundBook, IsSoundState}
use Rattle.adr_model.proofs.Members.{member_left, member_right, member_of_either, member_flat}
use Rattle.adr_law_knowledge.specs.Grows.{Grows}
use Rattle.adr_law_knowledge.proofs.Knows.{grows_keeps, grows_trans}
use Rattle.adr_law_knowledge.proofs.Lists.{alone_from}
use Rattle.adr_law_calls.specs.Later.{AreIssuedBy, MayIssue}
use Rattle.adr_law_calls.specs.Settling.{Leaves}
use Rattle.adr_law_calls.proofs.Empty.{empty_is_formed}
use Rattle.adr_law_calls.proofs.Recorded.{recorded_sound}
use Rattle.adr_law_calls.proofs.Leaving.{sound_state_is_left}
use Rattle.adr_law_calls.proofs.Written.{held_from}
use Rattle.adr_law_calls.specs.MayWrites.{after_item, MayWrite, MayWriteInTurn}
use Rattle.adr_law_calls.proofs.Issues.{change_of, write_may_issue}
use Rattle.adr_law_calls.proofs.WriteFormed.{stands, are_written}
use Rattle.adr_law_calls.proofs.WriteLeaves.{grows, written, write_leaves}
use Rattle.adr_law_calls.proofs.InTurn.{first_by_itself, only_one}

-- the rows of an item carry the controller's identifier and the item's USN
abbrev pub AreOwn : State → Written → Type 0
AreOwn s x = Each (λ u. (inv_of u ≡ s.inv) × (usn_of u ≡ x.local)) x.item.rows

record WroteInTurn (b : Book) (s : State) (ws : List Written) : Type 0 where
  book : Book
  sound : IsSoundBook book
  state : IsSoundState book (after s (own_change s ws))
  all : Each (λ u. Member u (b.issued ++ updates_written (own_change s ws))) book.issued
  some : Each (λ u. Member u book.issued) (updates_written (own_change s ws))
  first : Each (λ u. Member u book.issued) b.issued
  grown : (issued : List Update) → Grows issued (knowledge_of s.store) (knowledge_of (after s (own_change s ws)).store)
  reflected : (issued : List Update) → Each (λ u. Reflects issued (knowledge_of (after s (own_change s ws)).store) u) (updates_written (own_change s ws))

module _ (what : Write) (now : ℕ) where
  -- ---- one item

  module _ (book : Book) (s : State) (w : Written) (sound_book : IsSoundBook book) (state : IsSoundState book s) (local : w.local ≡ s.store.usn + 1) (may : MayWrite s w.item.unit w.item.rows) (own : AreOwn s w) where
    abbrev item : Item
    item = w.item

    abbrev p : Pending
    p = record { call = ToWrite what now; change = change_of s item }

    abbrev next : Book
    next = recorded book s.inv p

    follows : Follows (last_of book s.inv) (change_of s item)
    follows = record {
      rises = omega (arith, state.last);
      above = λ x m. omega (arith, locals x m, state.last);
      within = λ x m. omega (arith, locals x m);
      idle = λ le. absurd (omega (arith, state.last, le));
    }
      where
        locals : Each (λ (x : Held). x.local ≡ s.store.usn + 1) (held_of (change_of s item).writes)
        locals x m = let h = held_from (change_of s item).writes x m in ⊎_elim (λ e. h.3 ∙ ap (λ (y : Written). y.local) e) (λ none. absurd none) h.1

    issued : AreIssuedBy book s.inv (change_of s item) (updates_written (change_of s item))
    issued u m = let o = own u (alone_from item.rows u m) in (o.0, omega (arith, o.1, local, state.last), omega (arith, o.1, local))

    next_sound : IsSoundBook next
    next_sound = recorded_sound book s.inv p follows issued (write_may_issue book s item sound_book state may) sound_book

    next_state : IsSoundState next (after_item s item)
    next_state = sound_state_is_left book s p sound_book state follows issued (write_leaves book s item sound_book state may what now)

    one_grown : (issued : List Update) → Grows issued (knowledge_of s.store) (knowledge_of (after_item s item).store)
    one_grown issued = grows book s item.unit item.rows (stands s item) sound_book state may (are_written s item state.formed may) issued

    one_reflected : (issued : List Update) → Each (λ u. Reflects issued (knowledge_of (after_item s item).store) u) (item.rows ++ [])
    one_reflected issued = written book s item.unit item.rows (stands s item) sound_book state may (are_written s item state.formed may) issued

  -- ---- one after the other

  goes_on : (book : Book) (s : State) (w v : Written) (vs : List Written) (sound_book : IsSoundBook book) (state : IsSoundState book s) (local : w.local ≡ s.store.usn + 1) (may : MayWrite s w.item.unit w.item.rows) (own : AreOwn s w)
      → WroteInTurn (next book s w sound_book state local may own) (after_item s w.item) (v ∷ vs) → WroteInTurn book s (w ∷ v ∷ vs)
  goes_on book s w v vs sound_book state local may own rest = record {
    book = rest.book;
    sound = rest.sound;
    state = subst (IsSoundState rest.book) (sym here) rest.state;
    all = λ u m. ⊎_elim (λ before. ⊎_elim (λ old. member_left book.issued us u old) (λ new. member_right book.issued us u (member_left w.item.rows more u (alone_from w.item.rows u new))) (member_of_either book.issued (w.item.rows ++ []) u before))
        (λ later. member_right book.issued us u (member_right w.item.rows more u later)) (member_of_either (next book s w sound_book state local may own).issued more u (rest.all u m));
    some = λ u m. ⊎_elim (λ new. rest.first u (member_right book.issued (w.item.rows ++ []) u (member_left w.item.rows [] u new))) (λ later. rest.some u later) (member_of_either w.item.rows more u m);
    first = λ u m. rest.first u (member_left book.issued (w.item.rows ++ []) u m);
    grown = λ issued. subst (λ (d : State). Grows issued (knowledge_of s.store) (knowledge_of d.store)) (sym here)
        (grows_trans issued (knowledge_of s.store) (knowledge_of one.store) (knowledge_of behind.store) (one_grown book s w sound_book state local may own issued) (rest.grown issued));
    reflected = λ issued u m. subst (λ (d : State). Reflects issued (knowledge_of d.store) u) (sym here)
        (⊎_elim (λ new. grows_keeps issued (knowledge_of one.store) (knowledge_of behind.store) (rest.grown issued) u (one_reflected book s w sound_book state local may own issued u (member_left w.item.rows [] u new)))
        (λ later. rest.reflected issued u later) (member_of_either w.item.rows more u m));
  }
    where
      one : State
      one = after_item s w.item

      behind : State
      behind = after one (own_change one (v ∷ vs))

      more : List Update
      more = updates_written (own_change one (v ∷ vs))

      us : List Update
      us = w.item.rows ++ more

      here : after s (own_change s (w ∷ v ∷ vs)) ≡ behind
      here = first_by_itself s state.formed w (v ∷ vs) local

  wrote : (book : Book) (s : State) (w : Written) (ws : List Written) → IsSoundBook book → IsSoundState book s → MayWriteInTurn s (w ∷ ws) → Each (AreOwn s) (w ∷ ws) → WroteInTurn book s (w ∷ ws)
  wrote book s w [] sound_book state may own =
      let o = own w (inl refl) in
      record {
        book = next book s w sound_book state may.0 may.1 o;
        sound = next_sound book s w sound_book state may.0 may.1 o;
        state = subst (IsSoundState (next book s w sound_book state may.0 may.1 o)) (sym (only_one s w may.0)) (next_state book s w sound_book state may.0 may.1 o);
        all = λ u m. m;
        some = λ u m. member_right book.issued (w.item.rows ++ []) u m;
        first = λ u m. member_left book.issued (w.item.rows ++ []) u m;
        grown = λ issued. subst (λ (d : State). Grows issued (knowledge_of s.store) (knowledge_of d.store)) (sym (only_one s w may.0)) (one_grown book s w sound_book state may.0 may.1 o issued);
        reflected = λ issued. subst (λ (d : State). Each (λ u. Reflects issued (knowledge_of d.store) u) (w.item.rows ++ [])) (sym (only_one s w may.0)) (one_reflected book s w sound_book state may.0 may.1 o issued);
      }
  wrote book s w (v ∷ vs) sound_book state may own =
      let o = own w (inl refl) in
      goes_on book s w v vs sound_book state may.0 may.1 o
      (wrote (next book s w sound_book state may.0 may.1 o) (after_item s w.item) v vs (next_sound book s w sound_book state may.0 may.1 o) (next_state book s w sound_book state may.0 may.1 o) may.2 (λ x m. own x (inr m)))

  -- ---- the whole

  module _ (book : Book) (s : State) (w : Written) (ws : List Written) (sound_book : IsSoundBook book) (state : IsSoundState book s) (may : MayWriteInTurn s (w ∷ ws)) (own : Each (AreOwn s) (w ∷ ws)) where
    abbrev c : Change
    c = own_change s (w ∷ ws)

    done : WroteInTurn book s (w ∷ ws)
    done = wrote book s w ws sound_book state may own

    inv_is : (u : Update) → Member u (updates_written c) → inv_of u ≡ s.inv
    inv_is u m = let x = written_in (w ∷ ws) u m in (own x.0 x.1 u x.2).0
      where
        written_in : (vs : List Written) (u : Update) → Member u (updates_written (own_change s vs)) → (x : Written) × Member x vs × Member u x.item.rows
        written_in [] u m = absurd m
        written_in (v ∷ vs) u m = ⊎_elim (λ here. (v, inl refl, here)) (λ there. let t = written_in vs u there in (t.0, inr t.1, t.2)) (member_of_either v.item.rows (updates_written (own_change s vs)) u m)

    pub in_turn_issue : MayIssue book c (updates_written c)
    in_turn_issue = record {
      alone = λ u m v n e f. done.sound.one_content u (done.some u m) v (done.some v n) e (inv_is u m ∙ sym (inv_is v n)) f;
      born = λ u m o n. let b = done.sound.born u (done.some u m) o n in (b.0, done.all b.0 b.1, b.2);
      births = λ u m o e. done.sound.births u (done.some u m) o e;
      logged = λ h m. let x = held_from (w ∷ ws) h m in member_right book.issued (updates_written c) h.update (member_flat (λ (y : Written). y.item.rows) (w ∷ ws) x.0 h.update x.1 x.2);
    }

    pub in_turn_leave : Leaves book s (record { call = ToWrite what now; change = c })
    in_turn_leave = record {
      keeps = grows_keeps book.issued (knowledge_of s.store) (knowledge_of (after s c).store) (done.grown book.issued);
      known = λ u m. done.all u (done.state.store.known u m);
      issued = done.reflected book.issued;
      joined = empty_is_formed.vector;
      bounded = λ i. omega arith;
      carried = λ u m le. absurd (omega (arith, (sound_book.once u m).0, le));
      formed = done.state.store.formed;
      closed = done.state.store.closed;
      classes = done.state.store.classes;
      mark = tt;
    }
