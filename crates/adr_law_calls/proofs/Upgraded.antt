-- An upgrade leaves a formed state, and a sound one: what a schema allows, schema 2 allows, and nothing else changes.
use Rattle.std.proofs.Common.{◌≡◌, inl, inr, ⊎_elim, [], refl, sym, subst, arith, Ok}
use Rattle.adr_values.specs.Numbered.{numbered}
use Rattle.adr_values.proofs.Extending.{second_is_last}
use Rattle.adr_values.specs.Vector.{Cursors, IsVector, at}
use Rattle.adr_values.proofs.Comparing.{everywhere_from_at_most, at_most_from_everywhere}
use Rattle.adr_values.proofs.Joining.{raised_here}
use Rattle.adr_values.proofs.Moments.{times_stay}
use Rattle.adr_model.specs.Reflects.{AtMost, CoversBirth, knowledge_of}
use Rattle.adr_model.specs.Store.{State, updates_of}
use Rattle.adr_model.specs.Change.{Change, after}
use Rattle.adr_model.specs.LocalLog.{Follows}
use Rattle.adr_model.specs.Formed.{IsFormedStore, IsFormed, IsClosed}
use Rattle.adr_model.specs.Upgrade.{upgraded, upgrade_refusal, upgrade}
use Rattle.adr_model.specs.Replica.{Book, ToUpgrade}
use Rattle.adr_model.specs.Sound.{last_of, IsSoundBook, IsSoundState}
use Rattle.adr_model.proofs.Members.{member_left}
use Rattle.adr_law_knowledge.proofs.Knows.{grows_keeps, more_covered}
use Rattle.adr_law_knowledge.proofs.Raised.{raised_up, not_raised}
use Rattle.adr_law_knowledge.proofs.Refusing.{answered}
use Rattle.adr_law_calls.specs.Settling.{Leaves}
use Rattle.adr_law_calls.proofs.Empty.{empty_is_formed}
use Rattle.adr_law_calls.proofs.More.{rows_formed_more, classes_known_more}

module _ (s : State) (formed : IsFormed s) where
  abbrev d : State
  d = after s (upgraded s)

  -- the own cursor is the USN, so nothing is raised
  pub same_vector : d.store.vector ≡ s.store.vector
  same_vector = not_raised s.store.vector s.inv s.store.usn (omega (arith, formed.own))

  up : AtMost (at s.store.vector) (at d.store.vector)
  up = raised_up s.store.vector s.inv s.store.usn

  store : IsFormedStore d.store
  store = record {
    vector = subst IsVector (sym same_vector) formed.store.vector;
    times = times_stay s.store.vector d.store.vector s.store.times up formed.store.times;
    purged = formed.store.purged;
    purged_within = at_most_from_everywhere s.store.purged d.store.vector formed.store.purged.rising (λ i. omega (arith, everywhere_from_at_most s.store.purged s.store.vector formed.store.purged_within i, up i));
    marks = formed.store.marks;
    rising = formed.store.rising;
    locals = formed.store.locals;
    alone = formed.store.alone;
    rows = rows_formed_more (numbered s.store.schema) (numbered 2) (second_is_last s.store.schema) (updates_of s.store.rows) formed.store.rows;
    limits = record { objects = formed.store.limits.objects; links = formed.store.limits.links; marks = formed.store.limits.marks };
  }

  pub upgraded_formed : IsFormed d
  upgraded_formed = record { store = store; own = (let here = raised_here s.store.vector s.inv s.store.usn in omega (arith, here, formed.own)) }

module _ (book : Book) (s : State) (sound_book : IsSoundBook book) (state : IsSoundState book s) where
  abbrev behind : State
  behind = after s (upgraded s)

  closed : IsClosed behind.store
  closed l r m is o n = ⊎_elim (λ held. inl held) (λ new. inr (λ born. new (subst (λ (v : Cursors). CoversBirth (at v) o) (same_vector s state.formed) born))) (state.store.closed l r m is o n)

  leaves : Leaves book s (record { call = ToUpgrade; change = upgraded s })
  leaves = record {
    keeps = grows_keeps book.issued (knowledge_of s.store) (knowledge_of behind.store)
        (more_covered book.issued (updates_of s.store.rows) (at s.store.vector) (at behind.store.vector) (at s.store.purged) (at s.store.purged) (raised_up s.store.vector s.inv s.store.usn) (λ i. omega arith));
    known = λ u m. member_left book.issued [] u (state.store.known u m);
    issued = λ u m. absurd m;
    joined = empty_is_formed.vector;
    bounded = λ i. omega arith;
    carried = λ u m le. absurd (omega (arith, le, (sound_book.once u m).0));
    formed = (upgraded_formed s state.formed).store;
    closed = closed;
    classes = classes_known_more (numbered s.store.schema) (numbered 2) (second_is_last s.store.schema) (updates_of s.store.rows) state.store.classes;
    mark = tt;
  }

  follows : Follows (last_of book s.inv) (upgraded s)
  follows = record { rises = omega (arith, state.last); above = λ x m. absurd m; within = λ x m. absurd m; idle = λ le. (refl, refl) }

pub upgrade_leaves : (book : Book) (s : State) (c : Change) → IsSoundBook book → IsSoundState book s → upgrade s ≡ Ok c → Follows (last_of book s.inv) c × Leaves book s (record { call = ToUpgrade; change = c })
upgrade_leaves book s c sound_book state e = subst (λ (x : Change). Follows (last_of book s.inv) x × Leaves book s (record { call = ToUpgrade; change = x })) (answered (upgrade_refusal s) (upgraded s) c e).1
    (follows book s sound_book state, leaves book s sound_book state)
