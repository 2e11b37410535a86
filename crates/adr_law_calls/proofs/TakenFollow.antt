-- A reply that is spelled and is taken by a formed state: the change can follow it, and leaves a formed one.
use Rattle.std.proofs.Common.{◌≡◌, ◌≤◌, [], Some, unwrap_or, refl, sym, subst, Ok, inl}
use Rattle.adr_values.specs.Numbered.{numbered}
use Rattle.adr_values.specs.Vector.{IsVector}
use Rattle.adr_model.specs.Member.{Member, Each}
use Rattle.adr_model.specs.Store.{State, updates_of}
use Rattle.adr_model.specs.Change.{Item, Change, updates_written}
use Rattle.adr_model.specs.Formed.{IsFormed}
use Rattle.adr_model.specs.Sound.{AreClassesKnown}
use Rattle.adr_model.specs.Serve.{Reply}
use Rattle.adr_model.specs.Write.{usn_limit}
use Rattle.adr_model.specs.Take.{take, times_brought}
use Rattle.adr_law_calls.proofs.Empty.{empty_is_formed}
use Rattle.adr_law_calls.specs.OnTheWay.{Passes, taken_items, change_taken, state_behind}
use Rattle.adr_law_calls.proofs.Passed.{passed}
use Rattle.adr_law_calls.proofs.TakenFormed.{taken_formed}
use Rattle.adr_model.specs.Spelled.{IsSpelledReply}
use Rattle.adr_law_calls.specs.Taken.{AreBare}
use Rattle.adr_law_calls.specs.Follow.{HasKnownClasses, CanFollow}
use Rattle.adr_law_calls.specs.SoFar.{FollowsSoFar}
use Rattle.adr_law_calls.proofs.ItemFollows.{items_on_way}
use Rattle.adr_law_calls.proofs.Whence.{taken_rows_from}

pub nothing_is_vector : IsVector []
nothing_is_vector = empty_is_formed.vector

module _ (s : State) (r : Reply) (c : Change) (formed : IsFormed s) (classes : HasKnownClasses s)
    (spelled : IsSpelledReply r) (e : take s r ≡ Ok c) where
  passes : Passes s r (taken_items s r) (state_behind s r)
  passes = (passed s r c e).0

  is_change : change_taken s r ≡ c
  is_change = (passed s r c e).1

  way : FollowsSoFar s (taken_items s r)
  way = items_on_way s r.items formed classes spelled.items passes.items

  follows : CanFollow s (change_taken s r)
  follows = record {
    goes_on = record {
      normal = passes.normal;
      rises = way.steady.rises;
      locals = way.spaced;
      mark = spelled.to;
      schema = inl refl;
      joined = spelled.last;
      times = spelled.times;
      purged = nothing_is_vector;
      writes = way.follow passes.objects passes.links;
      removed = λ o m. absurd m;
    };
    formed = taken_formed s r formed spelled.to spelled.last spelled.times way.steady passes;
    classes = subst (λ rows. AreClassesKnown (numbered s.store.schema) (updates_of rows))
        (sym way.steady.made) way.classes;
  }

  pub taken_follows : CanFollow s c
  taken_follows = subst (CanFollow s) is_change follows

  pub taken_bare : Each (λ w. AreBare w.item.rows) c.writes
  taken_bare = subst (λ (x : Change). Each (λ w. AreBare w.item.rows) x.writes) is_change way.bare

-- what of a reply the change brings: its rows, its vector and its mark, under a USN within the limit
pub taken_brings : (s : State) (r : Reply) (c : Change) → take s r ≡ Ok c
    → Each (λ u. (i : Item) × Member i r.items × Member u i.rows) (updates_written c) × (c.usn ≤ usn_limit) × (c.joined ≡ unwrap_or r.last []) × (c.times ≡ times_brought r) × (c.mark ≡ Some (r.source, record { inv = r.inv; mark = r.to })) ×
    (c.purged ≡ [])
taken_brings s r c e =
    let p = passed s r c e in
    subst (λ (x : Change). Each (λ u. (i : Item) × Member i r.items × Member u i.rows) (updates_written x) × (x.usn ≤ usn_limit) × (x.joined ≡ unwrap_or r.last []) × (x.times ≡ times_brought r) × (x.mark ≡ Some (r.source, record { inv = r.inv; mark = r.to })) × (x.purged ≡ [])) p.1
    (taken_rows_from s (λ u. (i : Item) × Member i r.items × Member u i.rows) r.items (λ i m u n. (i, m, n)), p.0.usn, refl, refl, refl, refl)
