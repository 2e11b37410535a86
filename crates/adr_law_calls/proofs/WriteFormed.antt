-- A write of a formed state leaves a formed one.
use Rattle.std.proofs.Common.{◌≡◌, ◌+◌, List, [], sym, ap, subst, fold, arith, append-nil}
use Rattle.adr_values.specs.Vector.{at}
use Rattle.adr_values.proofs.Comparing.{everywhere_from_at_most, at_most_from_everywhere}
use Rattle.adr_values.proofs.Joining.{raised_here}
use Rattle.adr_values.proofs.Moments.{times_stay}
use Rattle.adr_model.specs.Store.{Held, State}
use Rattle.adr_model.specs.Change.{Item, put, held_of, rows_after, after}
use Rattle.adr_model.specs.Formed.{AreRising, IsFormedStore, IsFormed}
use Rattle.adr_law_knowledge.proofs.Raised.{raised_is_vector, raised_up}
use Rattle.adr_law_calls.specs.Puts.{under, ArePut}
use Rattle.adr_law_calls.proofs.Putting.{are_put}
use Rattle.adr_law_calls.proofs.Order.{puts_rise, puts_stay_alone, puts_stay_within}
use Rattle.adr_law_calls.specs.MayWrites.{MayWrite}
use Rattle.adr_law_calls.proofs.Rooms.{cursors_within, objects_within_limit, links_within_limit}
use Rattle.adr_law_calls.proofs.PutForms.{rows_stay_formed}
use Rattle.adr_law_calls.proofs.WriteForms.{write_keeps_forms}
use Rattle.adr_law_calls.proofs.Issues.{change_of}

-- the rows behind a write
abbrev pub stands : State → Item → List Held
stands s item = rows_after [] (held_of (change_of s item).writes) s.store.rows

module _ (s : State) (item : Item) (formed : IsFormed s) (may : MayWrite s item.unit item.rows) where
  stands_is : fold put s.store.rows (under (s.store.usn + 1) item.rows) ≡ stands s item
  stands_is = ap (fold put s.store.rows) (sym (append-nil (under (s.store.usn + 1) item.rows)))

  pub are_written : ArePut (s.store.usn + 1) item.rows s.store.rows (stands s item)
  are_written = subst (ArePut (s.store.usn + 1) item.rows s.store.rows) stands_is (are_put (s.store.usn + 1) s.store.rows (at s.store.vector) item.unit item.rows may.put)

  pub written_rise : AreRising (stands s item)
  written_rise = subst AreRising stands_is (puts_rise s.store.rows (under (s.store.usn + 1) item.rows) formed.store.rising)

  abbrev d : State
  d = after s (change_of s item)

  store : IsFormedStore d.store
  store = record {
    vector = raised_is_vector s.store.vector s.inv (s.store.usn + 1) formed.store.vector (cursors_within s item.unit item.rows formed may);
    times = times_stay s.store.vector d.store.vector s.store.times (raised_up s.store.vector s.inv (s.store.usn + 1)) formed.store.times;
    purged = formed.store.purged;
    purged_within = at_most_from_everywhere s.store.purged d.store.vector formed.store.purged.rising
        (λ i. omega (arith, everywhere_from_at_most s.store.purged s.store.vector formed.store.purged_within i, raised_up s.store.vector s.inv (s.store.usn + 1) i));
    marks = formed.store.marks;
    rising = written_rise;
    locals = puts_stay_within s.store.usn (s.store.usn + 1) s.store.rows (stands s item) item.rows formed.store.locals (omega arith) are_written;
    alone = puts_stay_alone s.store.usn (s.store.usn + 1) s.store.rows (stands s item) (at s.store.vector) item.unit item.rows formed.store.alone (λ x m. (formed.store.locals x m).1) (omega arith) may.put are_written;
    rows = rows_stay_formed (s.store.usn + 1) item.rows s.store.rows (stands s item) are_written s.store.schema (at s.store.vector) item.unit formed.store.rising written_rise formed.store.rows may.put (write_keeps_forms s item.unit item.rows may);
    limits = record {
      objects = objects_within_limit s item.rows (stands s item) are_written item.unit may formed.store.limits.objects;
      links = links_within_limit s item.rows (stands s item) are_written item.unit may written_rise formed.store.limits.links;
      marks = formed.store.limits.marks;
    };
  }

  pub write_formed : IsFormed d
  write_formed = record { store = store; own = (let here = raised_here s.store.vector s.inv (s.store.usn + 1) in omega (arith, here, formed.own)) }
