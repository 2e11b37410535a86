-- A reply that passes leaves a formed state, where its mark and its vector are in order and the rows stay formed.
use Rattle.std.proofs.Common.{◌≡◌, ◌≤◌, [], Option, Some, None, unwrap_or, refl, sym, subst, arith, length}
use Rattle.std.specs.Option.{option_map_or}
use Rattle.adr_values.specs.Numbered.{numbered}
use Rattle.adr_values.specs.Vector.{Cursors, IsVector, at, joined}
use Rattle.adr_values.specs.Times.{AreTimesOf}
use Rattle.adr_values.proofs.Moments.{times_join}
use Rattle.adr_values.proofs.Comparing.{everywhere_from_at_most, at_most_from_everywhere}
use Rattle.adr_values.proofs.Joining.{at-joined, raised_here, rising-raised, from_one-raised, rising-joined, from_one-joined}
use Rattle.adr_model.specs.Member.{Each}
use Rattle.adr_model.specs.Live.{objects_of}
use Rattle.adr_model.specs.Reflects.{AtMost}
use Rattle.adr_model.specs.Store.{Held, PartnerMark, State, updates_of}
use Rattle.adr_model.specs.Formed.{AreRising, AreAlone, AreFormedRows, IsFormedStore, IsFormed}
use Rattle.adr_model.specs.LocalLog.{IsOrdered}
use Rattle.adr_model.specs.Serve.{Reply}
use Rattle.adr_model.specs.Take.{Taking, times_brought}
use Rattle.adr_model.specs.Write.{object_limit, link_limit, links_in}
use Rattle.adr_law_knowledge.proofs.Raised.{raised_up}
use Rattle.adr_law_calls.proofs.Leaving.{each_mark}
use Rattle.adr_law_calls.specs.OnTheWay.{StaysFormed, Passes, taken_items, state_behind}
use Rattle.adr_law_calls.proofs.Items.{objects_within, links_within}

module _ (s : State) (r : Reply) (formed : IsFormed s) (to : IsOrdered r.to) (last : IsVector (unwrap_or r.last []))
    (times : AreTimesOf (unwrap_or r.last []) (times_brought r)) (way : StaysFormed s (taken_items s r)) (passes : Passes s r (taken_items s r) (state_behind s r)) where
  abbrev now : Taking
  now = taken_items s r

  abbrev d : State
  d = state_behind s r

  abbrev brought : Cursors
  brought = unwrap_or r.last []

  shown_is : (v : Option Cursors) → option_map_or (λ w. at w s.inv) v 0 ≡ at (unwrap_or v []) s.inv
  shown_is None = refl
  shown_is (Some v) = refl

  vector : IsVector d.store.vector
  vector = record {
    rising = rising-raised (joined s.store.vector brought) s.inv now.usn (rising-joined brought s.store.vector formed.store.vector.rising);
    from_one = from_one-raised (joined s.store.vector brought) s.inv now.usn (from_one-joined brought s.store.vector formed.store.vector.from_one);
    few = passes.cursors;
  }

  higher : AtMost (at s.store.vector) (at d.store.vector)
  higher i = omega (arith, at-joined brought s.store.vector i last.rising, raised_up (joined s.store.vector brought) s.inv now.usn i)

  carried_up : AtMost (at brought) (at d.store.vector)
  carried_up i = omega (arith, at-joined brought s.store.vector i last.rising, raised_up (joined s.store.vector brought) s.inv now.usn i)

  store : IsFormedStore d.store
  store = record {
    vector = vector;
    times = times_join s.store.vector brought d.store.vector s.store.times (times_brought r) higher carried_up formed.store.times times;
    purged = formed.store.purged;
    purged_within = at_most_from_everywhere s.store.purged d.store.vector formed.store.purged.rising
        (λ i. omega (arith, everywhere_from_at_most s.store.purged s.store.vector formed.store.purged_within i, higher i));
    marks = each_mark (λ (k : PartnerMark). IsOrdered k.mark) (Some (r.source, record { inv = r.inv; mark = r.to })) s.store.marks to formed.store.marks;
    rising = subst AreRising (sym way.made) way.rising;
    locals = subst (Each (λ (h : Held). (1 ≤ h.local) × (h.local ≤ now.usn))) (sym way.made) way.locals;
    alone = subst AreAlone (sym way.made) way.alone;
    rows = subst (λ rows. AreFormedRows (numbered s.store.schema) (updates_of rows)) (sym way.made) way.formed;
    limits = record {
      objects = subst (λ rows. length (objects_of (updates_of rows)) ≤ object_limit) (sym way.made) (objects_within s r.items object_limit formed.store.limits.objects passes.objects);
      links = subst (λ rows. links_in rows ≤ link_limit) (sym way.made) (links_within s r.items link_limit formed.store.limits.links passes.links);
      marks = passes.marks;
    };
  }

  -- the own cursor is the USN: what the last reply shows of it isn't more
  own : at d.store.vector s.inv ≡ now.usn
  own =
      let here = raised_here (joined s.store.vector brought) s.inv now.usn in
      let both = at-joined brought s.store.vector s.inv last.rising in
      omega (arith, here, both, formed.own, way.rises, passes.shown, shown_is r.last)

  pub taken_formed : IsFormed d
  taken_formed = record { store = store; own = own }
