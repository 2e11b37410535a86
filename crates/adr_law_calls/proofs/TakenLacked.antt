-- Where nothing that was sent is covered, no row comes that was reflected before: where all were, the USN stays.
use Rattle.std.proofs.Common.{◌≡◌, ◌⊎◌, inl, inr, ⊎_elim, ℕ, ◌+◌, List, [], ◌∷◌, refl, sym, ap, ◌∙◌, subst, arith, fold, length, Ok}
use Rattle.adr_values.specs.Numbered.{numbered}
use Rattle.adr_values.specs.Vector.{at}
use Rattle.adr_model.specs.Member.{Member, Each}
use Rattle.adr_model.specs.Update.{Update}
use Rattle.adr_model.specs.Reflects.{Covers, knowledge_of, Reflects}
use Rattle.adr_model.specs.Store.{Held, State, updates_of}
use Rattle.adr_model.specs.Change.{Item, Change, held_of, after}
use Rattle.adr_model.specs.Serve.{Reply}
use Rattle.adr_model.specs.Take.{Taking, begin, rows_taken, writes_of, take_item, take_items, taken_change, take}
use Rattle.adr_model.specs.Replica.{Book}
use Rattle.adr_model.specs.Sound.{IsSoundBook, IsSoundState, IsSoundReply, IsSent}
use Rattle.adr_law_knowledge.proofs.Knows.{grows_keeps}
use Rattle.adr_law_calls.specs.OnTheWay.{IsTakeable, known_with, IsTakenSoFar, IsTaken}
use Rattle.adr_law_calls.proofs.Items.{starts, ends, on_the_way}
use Rattle.adr_model.proofs.Members.{member_of_either}
use Rattle.adr_law_knowledge.proofs.Lists.{no_members, alone_from}
use Rattle.adr_law_calls.specs.Puts.{under}
use Rattle.adr_law_calls.proofs.Rows.{updated, held_as}
use Rattle.adr_law_calls.proofs.Units.{change_from}
use Rattle.adr_law_calls.proofs.ItemPut.{taken_from}
use Rattle.adr_law_calls.proofs.PutForms.{under_usn}
use Rattle.adr_law_calls.proofs.ItemStep.{held_of_both}
use Rattle.adr_law_calls.proofs.ItemLacked.{item_lacked}
use Rattle.adr_law_calls.proofs.Passed.{is_taken}

module _ (book : Book) (s : State) (r : Reply) (may : IsTakeable book s r) (missed : (u : Update) → IsSent r u → Covers (at s.store.vector) u → ⊥) where
  -- a row that an item writes was not reflected at the start
  lacked : (t : Taking) → IsTakenSoFar book s r t → (i : Item) → Member i r.items → Each (λ u. Reflects book.issued (knowledge_of s.store) u → ⊥) (rows_taken s.store.vector t.rows i)
  lacked t way i m u w taken = item_lacked book s r may t.rows way.rows i.unit i.rows (may.reply.exact i m) u w (missed u (i, m, taken_from s.store.vector t.rows i.unit i.rows u w))
      (grows_keeps book.issued (knowledge_of s.store) (known_with s t.rows) way.rows.grows u taken)

  -- ---- nothing comes

  module _ (taken : (u : Update) → IsSent r u → Reflects book.issued (knowledge_of s.store) u) where
    stays : (t : Taking) → IsTakenSoFar book s r t → (i : Item) → Member i r.items → (take_item (numbered s.store.schema) s.store.vector t i).usn ≡ t.usn
    stays t way i m = subst (λ us. t.usn + length (writes_of t.usn i us) ≡ t.usn) (sym nothing) (omega arith)
      where
        nothing : rows_taken s.store.vector t.rows i ≡ []
        nothing = no_members (rows_taken s.store.vector t.rows i) (λ u w. lacked t way i m u w (taken u (i, m, taken_from s.store.vector t.rows i.unit i.rows u w)))

    all_stay : (is : List Item) (t : Taking) → IsTakenSoFar book s r t → Each (λ i. Member i r.items) is → (fold (take_item (numbered s.store.schema) s.store.vector) t is).usn ≡ t.usn
    all_stay [] t way among = refl
    all_stay (i ∷ is) t way among =
        let m = among i (inl refl) in
        all_stay is (take_item (numbered s.store.schema) s.store.vector t i) (on_the_way book s r may t way i m) (λ j n. among j (inr n)) ∙ stays t way i m

  -- ---- what comes

  abbrev Lacks : Taking → Type 0
  Lacks t = Each (λ (h : Held). Reflects book.issued (knowledge_of s.store) h.update → ⊥) (held_of t.writes)

  written_of : (usn : ℕ) (i : Item) (us : List Update) → Each (λ u. Reflects book.issued (knowledge_of s.store) u → ⊥) us → Each (λ (h : Held). Reflects book.issued (knowledge_of s.store) h.update → ⊥) (held_of (writes_of usn i us))
  written_of usn i [] none h m = absurd m
  written_of usn i (u ∷ us) none h m = none h.update (under_usn (usn + 1) (u ∷ us) h (alone_from (under (usn + 1) (u ∷ us)) h m)).0

  all_lack : (is : List Item) (t : Taking) → IsTakenSoFar book s r t → Each (λ i. Member i r.items) is → Lacks t → Lacks (fold (take_item (numbered s.store.schema) s.store.vector) t is)
  all_lack [] t way among lacks = lacks
  all_lack (i ∷ is) t way among lacks = all_lack is (take_item (numbered s.store.schema) s.store.vector t i) (on_the_way book s r may t way i (among i (inl refl))) (λ j n. among j (inr n)) next
    where
      next : Lacks (take_item (numbered s.store.schema) s.store.vector t i)
      next h m = ⊎_elim (λ old. lacks h old) (λ w. written_of t.usn i (rows_taken s.store.vector t.rows i) (lacked t way i (among i (inl refl))) h w)
          (member_of_either (held_of t.writes) (held_of (writes_of t.usn i (rows_taken s.store.vector t.rows i))) h (subst (Member h) (held_of_both t.writes (writes_of t.usn i (rows_taken s.store.vector t.rows i))) m))

pub taken_idle : (book : Book) (s : State) (r : Reply) (c : Change) → IsSoundBook book → IsSoundState book s → IsSoundReply book r → take s r ≡ Ok c
    → ((u : Update) → IsSent r u → Covers (at s.store.vector) u → ⊥) → ((u : Update) → IsSent r u → Reflects book.issued (knowledge_of s.store) u) → c.usn ≡ s.store.usn
taken_idle book s r c sound_book state reply e missed taken =
    let t = is_taken book s r c sound_book state reply e in
    ap (λ (x : Change). x.usn) (sym t.is) ∙ all_stay book s r t.may missed taken r.items (begin s) (starts book s r t.may) (λ i m. m)

-- a row that comes with a reply was sent, and not reflected before
pub taken_lacked : (book : Book) (s : State) (r : Reply) (c : Change) → IsSoundBook book → IsSoundState book s → IsSoundReply book r → take s r ≡ Ok c
    → ((u : Update) → IsSent r u → Covers (at s.store.vector) u → ⊥)
    → Each (λ u. Member u (updates_of s.store.rows) ⊎ (IsSent r u × (Reflects book.issued (knowledge_of s.store) u → ⊥))) (updates_of (after s c).store.rows)
taken_lacked book s r c sound_book state reply e missed = subst (λ (x : Change). Each (λ u. Member u (updates_of s.store.rows) ⊎ (IsSent r u × (Reflects book.issued (knowledge_of s.store) u → ⊥))) (updates_of (after s x).store.rows)) t.is from
  where
    t : IsTaken book s r c
    t = is_taken book s r c sound_book state reply e

    from : Each (λ u. Member u (updates_of s.store.rows) ⊎ (IsSent r u × (Reflects book.issued (knowledge_of s.store) u → ⊥))) (updates_of (after s (taken_change s r (take_items s r.items))).store.rows)
    from u m = let h = held_as (after s (taken_change s r (take_items s r.items))).store.rows u m in by h.0 h.2 (change_from [] (held_of (take_items s r.items).writes) s.store.rows h.0 h.1)
      where
        by : (h : Held) → u ≡ h.update → Member h (held_of (take_items s r.items).writes) ⊎ Member h s.store.rows → Member u (updates_of s.store.rows) ⊎ (IsSent r u × (Reflects book.issued (knowledge_of s.store) u → ⊥))
        by h is (inl new) = inr (subst (λ v. IsSent r v × (Reflects book.issued (knowledge_of s.store) v → ⊥)) (sym is)
            ((ends book s r t.may).sent h new, all_lack book s r t.may missed r.items (begin s) (starts book s r t.may) (λ i n. n) (λ g n. absurd n) h new))
        by h is (inr old) = inl (subst (λ v. Member v (updates_of s.store.rows)) (sym is) (updated s.store.rows h old))
