-- A collection leaves a sound state.
use Rattle.std.proofs.Common.{◌≡◌, inl, inr, ⊎_elim, ℕ, [], Ok, sym, subst, arith}
use Rattle.adr_values.specs.declared.stamp.Oid.{Oid}
use Rattle.adr_values.specs.declared.stamp.LinkKey.{LinkKey}
use Rattle.adr_values.specs.Numbered.{numbered}
use Rattle.adr_values.specs.Vector.{at}
use Rattle.adr_model.specs.Member.{Member, Each}
use Rattle.adr_model.specs.Update.{LinkOf, ends}
use Rattle.adr_model.specs.Reflects.{Numbers, AtMost, Covers, CoversBirth, HoldsObject, IsTombstoned, knowledge_of}
use Rattle.adr_model.specs.Store.{State, updates_of}
use Rattle.adr_model.specs.Change.{Change}
use Rattle.adr_model.specs.Formed.{IsLinkFormed, IsClosed}
use Rattle.adr_model.specs.LocalLog.{Follows}
use Rattle.adr_model.specs.Collect.{collect}
use Rattle.adr_model.specs.Replica.{Book, ToCollect}
use Rattle.adr_model.specs.Sound.{last_of, IsSoundBook, IsSoundState}
use Rattle.adr_model.proofs.Members.{member_left}
use Rattle.adr_law_knowledge.specs.Grows.{Grows, Keeps}
use Rattle.adr_law_knowledge.proofs.Knows.{grows_keeps}
use Rattle.adr_law_calls.proofs.Empty.{empty_is_formed}
use Rattle.adr_law_calls.proofs.Frames.{born_before}
use Rattle.adr_law_calls.specs.Settling.{Leaves}
use Rattle.adr_law_calls.specs.Collectable.{IsCollectable}
use Rattle.adr_law_calls.proofs.PurgedVector.{purged_up}
use Rattle.adr_law_calls.proofs.Removing.{row_of_tells, update_stood, update_stands}
use Rattle.adr_law_calls.proofs.RemovingForms.{classes_stay_known}
use Rattle.adr_law_calls.proofs.Collections.{collecting}
use Rattle.adr_law_calls.proofs.CollectionFormed.{collectable, covered, higher, covers, collection_formed}
use Rattle.adr_law_calls.proofs.Shrinking.{removal_grows, removed_is_dead}
use Rattle.adr_law_calls.proofs.CollectionFollows.{collect_is_collection, collection_follows}

module _ (book : Book) (s : State) (now lifetime : ℕ) (sound_book : IsSoundBook book) (state : IsSoundState book s) where
  open (collecting s now lifetime) use {dead, c, d, rows, os}

  abbrev V : Numbers
  V = at s.store.vector

  abbrev W : Numbers
  W = at d.store.vector

  abbrev P : Numbers
  P = at s.store.purged

  abbrev Q : Numbers
  Q = at d.store.purged

  gone : Each (IsCollectable rows V) dead
  gone = collectable s now lifetime state.formed

  up : AtMost V W
  up = higher s now lifetime state.formed

  -- ---- what was taken stays so

  q_up : AtMost P Q
  q_up = purged_up s.store.purged s.store.vector dead state.store.formed.purged state.store.formed.purged_within state.store.formed.vector (covered s now lifetime state.formed)

  q_covers : Each (λ t. CoversBirth Q t.0 × Covers Q t.1) dead
  q_covers = covers s now lifetime state.formed

  grows : Grows book.issued (knowledge_of s.store) (knowledge_of d.store)
  grows = removal_grows book.issued rows V W P Q dead state.store.known gone up q_up q_covers

  keeps : Keeps book.issued (knowledge_of s.store) (knowledge_of d.store)
  keeps = grows_keeps book.issued (knowledge_of s.store) (knowledge_of d.store) grows

  -- ---- closed

  is_dead : (o : Oid) → Member o os → IsTombstoned (updates_of rows) o
  is_dead = removed_is_dead book.issued rows V W P Q dead state.store.known gone up q_up q_covers

  not_dead : (l : LinkKey) → IsLinkFormed (numbered s.store.schema) (updates_of rows) l → (o : Oid) → Member o (ends (LinkOf l)) → IsTombstoned (updates_of rows) o → ⊥
  not_dead l f o (inl e) t = f.from (subst (IsTombstoned (updates_of rows)) e t)
  not_dead l f o (inr (inl e)) t = f.to (subst (IsTombstoned (updates_of rows)) e t)
  not_dead l f o (inr (inr n)) t = absurd n

  stays_held : (o : Oid) → (IsTombstoned (updates_of rows) o → ⊥) → HoldsObject (updates_of rows) o → HoldsObject (updates_of d.store.rows) o
  stays_held o alive (r, attr, m, is) = (r, attr, update_stands os rows r m (λ p n row. alive (subst (IsTombstoned (updates_of rows)) (sym (row_of_tells o p attr r.key is row)) (is_dead p n))), is)

  closed : IsClosed d.store
  closed l r m is o n = ⊎_elim
      (λ h. inl (stays_held o (not_dead l (state.store.formed.rows.links l r (before) is) o n) h))
      (λ unborn. inr (λ born. unborn (born_before book s c.usn sound_book state r (state.store.known r before) o (subst (λ k. Member o (ends k)) (sym is) n) born)))
      (state.store.closed l r before is o n)
    where
      before : Member r (updates_of rows)
      before = update_stood os rows r m

  leaves : Leaves book s (record { call = ToCollect now lifetime; change = c })
  leaves = record {
    keeps = keeps;
    known = λ u m. member_left book.issued [] u (state.store.known u (update_stood os rows u m));
    issued = λ u m. absurd m;
    joined = empty_is_formed.vector;
    bounded = λ i. omega arith;
    carried = λ u m le. absurd (omega (arith, le, (sound_book.once u m).0));
    formed = (collection_formed s now lifetime state.formed).store;
    closed = closed;
    classes = classes_stay_known os rows (numbered s.store.schema) state.store.classes;
    mark = tt;
  }

  follows_and_leaves : Follows (last_of book s.inv) c × Leaves book s (record { call = ToCollect now lifetime; change = c })
  follows_and_leaves = (collection_follows (last_of book s.inv) s dead state.last, leaves)

pub collection_leaves : (book : Book) (s : State) (now lifetime : ℕ) (change : Change) → IsSoundBook book → IsSoundState book s → collect s now lifetime ≡ Ok change
    → Follows (last_of book s.inv) change × Leaves book s (record { call = ToCollect now lifetime; change = change })
collection_leaves book s now lifetime change sound_book state e =
    subst (λ (x : Change). Follows (last_of book s.inv) x × Leaves book s (record { call = ToCollect now lifetime; change = x })) (collect_is_collection s now lifetime change e)
    (follows_and_leaves book s now lifetime sound_book state)
