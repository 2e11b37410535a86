-- What holds after the items of a reply.
use Rattle.std.proofs.Common.{inl, inr, ℕ, ◌≤◌, List, [], ◌∷◌, refl, subst, fold, arith, max, length}
use Rattle.adr_values.specs.Numbered.{numbered}
use Rattle.adr_model.specs.Member.{Member, Each}
use Rattle.adr_model.specs.Update.{Update}
use Rattle.adr_model.specs.Reflects.{knowledge_of, Reflects}
use Rattle.adr_model.specs.Live.{objects_of}
use Rattle.adr_model.specs.Store.{State, updates_of}
use Rattle.adr_model.specs.Change.{Item}
use Rattle.adr_model.specs.Formed.{AreAlone, AreFormedRows, AreRising, IsFormed}
use Rattle.adr_model.specs.Serve.{Reply}
use Rattle.adr_model.specs.Write.{links_in}
use Rattle.adr_model.specs.Take.{Taking, begin, rows_taken, take_item, take_items}
use Rattle.adr_model.specs.Replica.{Book}
use Rattle.adr_model.specs.Sound.{IsSent}
use Rattle.adr_law_knowledge.specs.Grows.{Grows}
use Rattle.adr_law_knowledge.proofs.Knows.{grows_keeps, grows_self, grows_trans}
use Rattle.adr_law_calls.specs.OnTheWay.{IsTakeable, known_with, StaysFormed, IsTakenSoFar}
use Rattle.adr_law_calls.proofs.ItemPut.{MayWrite, taken_from, item_may}
use Rattle.adr_law_calls.proofs.ItemStep.{step, step_grows, step_writes}
use Rattle.adr_law_calls.proofs.ItemReflected.{item_reflected}

-- before any item, what holds of the rows of a state
pub begins_steady : (s : State) → AreRising s.store.rows → AreFormedRows (numbered s.store.schema) (updates_of s.store.rows) → AreAlone s.store.rows
    → Each (λ h. (1 ≤ h.local) × (h.local ≤ s.store.usn)) s.store.rows → StaysFormed s (begin s)
begins_steady s rising formed alone locals = record { rising = rising; formed = formed; alone = alone; locals = locals; made = refl; rises = omega arith }

pub begins_formed : (s : State) → IsFormed s → StaysFormed s (begin s)
begins_formed s formed = begins_steady s formed.store.rising formed.store.rows formed.store.alone formed.store.locals

module _ (book : Book) (s : State) (r : Reply) (may : IsTakeable book s r) where
  abbrev taken : Taking → Item → Taking
  taken t i = take_item (numbered s.store.schema) s.store.vector t i

  abbrev all : Taking → List Item → Taking
  all t is = fold (take_item (numbered s.store.schema) s.store.vector) t is

  pub starts : IsTakenSoFar book s r (begin s)
  starts = record {
    steady = begins_steady s may.base.rising may.base.rows may.base.alone may.base.locals;
    rows = record {
      rising = may.base.rising;
      known = may.base.known;
      grows = grows_self book.issued (knowledge_of s.store);
      formed = may.base.rows;
      closed = λ u m l e. may.base.closed l u m e;
    };
    sent = λ h m. absurd m;
    above = λ h m. absurd m;
    within = λ h m. absurd m;
    idle = λ le. refl;
  }

  module _ (t : Taking) (way : IsTakenSoFar book s r t) (i : Item) (m : Member i r.items) where
    abbrev us : List Update
    us = rows_taken s.store.vector t.rows i

    of_item : Each (λ u. IsSent r u) us
    of_item u n = (i, m, taken_from s.store.vector t.rows i.unit i.rows u n)

    writes : MayWrite book s r may t.rows way.rows i.unit us
    writes = item_may book s r may t.rows way.rows i.unit i.rows (may.reply.exact i m)

    pub on_the_way : IsTakenSoFar book s r (taken t i)
    on_the_way = step book s r may t way i (taken t i).refusal (taken t i).place (taken t i).objects (taken t i).links us of_item writes

    pub item_grows : Grows book.issued (known_with s t.rows) (known_with s (taken t i).rows)
    item_grows = step_grows book s r may t way i (taken t i).refusal (taken t i).place (taken t i).objects (taken t i).links us of_item writes

    pub is_reflected : Each (λ u. Reflects book.issued (known_with s (taken t i).rows) u) i.rows
    is_reflected = item_reflected book s r may t.rows way.rows (taken t i).rows (grows_keeps book.issued (known_with s t.rows) (known_with s (taken t i).rows) item_grows) i.unit i.rows (may.reply.exact i m)
        (step_writes book s r may t way i (taken t i).refusal (taken t i).place (taken t i).objects (taken t i).links us writes)

  pub all_on_the_way : (is : List Item) (t : Taking) → IsTakenSoFar book s r t → Each (λ i. Member i r.items) is → IsTakenSoFar book s r (all t is)
  all_on_the_way [] t way among = way
  all_on_the_way (i ∷ is) t way among = all_on_the_way is (taken t i) (on_the_way t way i (among i (inl refl))) (λ j m. among j (inr m))

  pub all_grow : (is : List Item) (t : Taking) → IsTakenSoFar book s r t → Each (λ i. Member i r.items) is → Grows book.issued (known_with s t.rows) (known_with s (all t is).rows)
  all_grow [] t way among = grows_self book.issued (known_with s t.rows)
  all_grow (i ∷ is) t way among =
      let m = among i (inl refl) in
      grows_trans book.issued (known_with s t.rows) (known_with s (taken t i).rows) (known_with s (all (taken t i) is).rows)
      (item_grows t way i m) (all_grow is (taken t i) (on_the_way t way i m) (λ j n. among j (inr n)))

  -- the rows of an item are reflected after it, and so after the items that follow
  pub all_reflected : (is : List Item) (t : Taking) → IsTakenSoFar book s r t → Each (λ i. Member i r.items) is → Each (λ i. Each (λ u. Reflects book.issued (known_with s (all t is).rows) u) i.rows) is
  all_reflected [] t way among i m u n = absurd m
  all_reflected (j ∷ is) t way among i (inl e) u n =
      let next : IsTakenSoFar book s r (taken t j) = on_the_way t way j (among j (inl refl)) in
      grows_keeps book.issued (known_with s (taken t j).rows) (known_with s (all (taken t j) is).rows) (all_grow is (taken t j) next (λ k o. among k (inr o))) u
      (is_reflected t way j (among j (inl refl)) u (subst (λ (k : Item). Member u k.rows) e n))
  all_reflected (j ∷ is) t way among i (inr m) u n = all_reflected is (taken t j) (on_the_way t way j (among j (inl refl))) (λ k o. among k (inr o)) i m u n

  -- ---- the whole reply

  pub ends : IsTakenSoFar book s r (take_items s r.items)
  ends = all_on_the_way r.items (begin s) starts (λ i m. m)

  pub items_reflected : (u : Update) → IsSent r u → Reflects book.issued (known_with s (take_items s r.items).rows) u
  items_reflected u (i, m, n) = all_reflected r.items (begin s) starts (λ j o. o) i m u n

-- ---- limits

-- what is counted on the way bounds what stands, where something was counted
most_objects : (s : State) (is : List Item) (t : Taking) (most : ℕ) → length (objects_of (updates_of t.rows)) ≤ max most t.objects
    → length (objects_of (updates_of (fold (take_item (numbered s.store.schema) s.store.vector) t is).rows)) ≤ max most (fold (take_item (numbered s.store.schema) s.store.vector) t is).objects
most_objects s [] t most le = le
most_objects s (i ∷ is) t most le = most_objects s is (take_item (numbered s.store.schema) s.store.vector t i) most (omega arith)

most_links : (s : State) (is : List Item) (t : Taking) (most : ℕ) → links_in t.rows ≤ max most t.links
    → links_in (fold (take_item (numbered s.store.schema) s.store.vector) t is).rows ≤ max most (fold (take_item (numbered s.store.schema) s.store.vector) t is).links
most_links s [] t most le = le
most_links s (i ∷ is) t most le = most_links s is (take_item (numbered s.store.schema) s.store.vector t i) most (omega arith)

pub objects_within : (s : State) (is : List Item) (most : ℕ) → length (objects_of (updates_of s.store.rows)) ≤ most → (take_items s is).objects ≤ most → length (objects_of (updates_of (take_items s is).rows)) ≤ most
objects_within s is most start le = let h = most_objects s is (begin s) most (omega (arith, start)) in omega (arith, h, le)

pub links_within : (s : State) (is : List Item) (most : ℕ) → links_in s.store.rows ≤ most → (take_items s is).links ≤ most → links_in (take_items s is).rows ≤ most
links_within s is most start le = let h = most_links s is (begin s) most (omega (arith, start)) in omega (arith, h, le)
