-- A collection of a formed state leaves a formed one.
use Rattle.std.proofs.Common.{⊎_elim, ℕ, ◌≤◌, arith}
use Rattle.adr_values.specs.Numbered.{numbered}
use Rattle.adr_values.specs.Vector.{IsVector, at}
use Rattle.adr_values.proofs.Comparing.{at_most_from_everywhere}
use Rattle.adr_values.proofs.Joining.{raised_here}
use Rattle.adr_model.specs.Member.{Each}
use Rattle.adr_model.specs.Reflects.{AtMost, Covers, CoversBirth}
use Rattle.adr_model.specs.Store.{State}
use Rattle.adr_model.specs.Formed.{IsFormedStore, IsFormed}
use Rattle.adr_law_knowledge.proofs.Raised.{raised_up, raised_is_vector, raised_replaces}
use Rattle.adr_law_knowledge.proofs.RisingHeld.{removals_rise}
use Rattle.adr_law_calls.specs.Collectable.{IsCollectable}
use Rattle.adr_law_calls.proofs.Collections.{collecting}
use Rattle.adr_law_calls.proofs.Deaths.{all_collectable}
use Rattle.adr_law_calls.proofs.PurgedVector.{purged_within, purged_covers, purged_is_vector}
use Rattle.adr_law_calls.proofs.Removing.{stood_before, stay_alone}
use Rattle.adr_law_calls.proofs.RemovingForms.{stay_formed}
use Rattle.adr_law_calls.proofs.RemovingSizes.{objects_fewer, links_fewer}
use Rattle.adr_law_calls.proofs.CollectionFollows.{usn_of_collection}
use Rattle.adr_values.proofs.Moments.{times_stay}

module _ (s : State) (now lifetime : ℕ) (is : IsFormed s) where
  open (collecting s now lifetime) use {dead, c, d, rows, os}

  pub collectable : Each (IsCollectable rows (at s.store.vector)) dead
  collectable = all_collectable s now lifetime

  pub covered : Each (λ t. CoversBirth (at s.store.vector) t.0 × Covers (at s.store.vector) t.1) dead
  covered t m = let g = collectable t m in (g.birth, g.death)

  pub higher : AtMost (at s.store.vector) (at d.store.vector)
  higher = raised_up s.store.vector s.inv c.usn

  -- a USN is only taken where a row is held, and so one was taken before
  own_is_there : 1 ≤ c.usn → 1 ≤ at s.store.vector s.inv
  own_is_there one = ⊎_elim
      (λ t. omega (arith, one, t.1, is.own))
      (λ t. let g = collectable t.0.0 t.0.1 in let local = is.store.locals g.held g.stands in omega (arith, local.0, local.1, is.own))
      (usn_of_collection s dead)

  pub usn_rises : s.store.usn ≤ c.usn
  usn_rises = ⊎_elim (λ t. omega (arith, t.1)) (λ t. omega (arith, t.1)) (usn_of_collection s dead)

  within : AtMost (at d.store.purged) (at s.store.vector)
  within = purged_within s.store.purged s.store.vector dead is.store.purged is.store.purged_within is.store.vector covered

  pub covers : Each (λ t. CoversBirth (at d.store.purged) t.0 × Covers (at d.store.purged) t.1) dead
  covers = purged_covers s.store.purged s.store.vector dead is.store.purged is.store.purged_within is.store.vector covered

  is_purged : IsVector d.store.purged
  is_purged = purged_is_vector s.store.purged s.store.vector dead is.store.purged is.store.purged_within is.store.vector covered

  store : IsFormedStore d.store
  store = record {
    vector = raised_is_vector s.store.vector s.inv c.usn is.store.vector (omega (arith, raised_replaces s.store.vector s.inv c.usn own_is_there is.store.vector, is.store.vector.few));
    times = times_stay s.store.vector d.store.vector s.store.times higher is.store.times;
    purged = is_purged;
    purged_within = at_most_from_everywhere d.store.purged d.store.vector is_purged.rising (λ i. omega (arith, within i, higher i));
    marks = is.store.marks;
    rising = removals_rise os rows is.store.rising;
    locals = λ h m. let l = is.store.locals h (stood_before os rows h m) in (l.0, omega (arith, l.1, usn_rises));
    alone = stay_alone os rows is.store.alone;
    rows = stay_formed os rows (numbered s.store.schema) is.store.rows;
    limits = record {
      objects = omega (arith, objects_fewer os rows, is.store.limits.objects);
      links = omega (arith, links_fewer os rows is.store.rising, is.store.limits.links);
      marks = is.store.limits.marks;
    };
  }

  pub collection_formed : IsFormed d
  collection_formed = record { store = store; own = (let here = raised_here s.store.vector s.inv c.usn in omega (arith, here, is.own, usn_rises)) }
