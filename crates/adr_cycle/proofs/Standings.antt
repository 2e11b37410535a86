-- What stands of a unit, and what that makes of its item.
use Rattle.std.proofs.Common.{◌≡◌, List, [], ◌∷◌, cond, filter, map, refl, ap, ◌∙◌, Option, None, true, false}
use Rattle.std.specs.Option.{option_or}
use Rattle.adr_values.specs.declared.stamp.Unit.{Unit as Named}
use Rattle.adr_values.specs.declared.stamp.Unit.TheVariants.{Object, Link}
use Rattle.adr_values.specs.Table.{Table as Schema}
use Rattle.adr_values.specs.First.{first_of}
use Rattle.adr_call.specs.declared.refusal.ItemFault.{ItemFault}
use Rattle.adr_values.specs.Vector.{Cursors}
use Rattle.adr_model.specs.Update.{Update}
use Rattle.adr_model.specs.Store.{Held as Row}
use Rattle.adr_model.specs.Change.{Item}
use Rattle.adr_model.specs.Take.{class_among, is_above, item_fault, left_by_death, object_rows_taken, object_rows_tested, presence_of, row_fault, rows_taken}
use Rattle.adr_model.proofs.Members.{filter_all}
use Rattle.adr_overlay.specs.Presence.{defined}
use Rattle.adr_overlay.specs.Standing.{IsStanding}
use Rattle.adr_overlay.specs.declared.presence.Presence.TheVariants.{Dead, Held, Gone, New}
use Rattle.adr_overlay.specs.declared.standing.Standing.{Standing}
use Rattle.adr_overlay.specs.declared.standing.Standing.TheVariants.{OfObject, OfLink}
use Rattle.adr_cycle.specs.RowsTaken.{can_die, is_taken}

abbrev pub taken_by : List Row → List Update → Standing → List Update
taken_by rows us (OfObject presence class) = object_rows_taken rows us (defined presence)
taken_by rows us (OfLink is_lost) = cond is_lost [] (filter (is_above rows) us)

pub taken_so : (vector : Cursors) (rows : List Row) (item : Item) (s : Standing) → IsStanding vector rows item.unit s → taken_by rows item.rows s ≡ rows_taken vector rows item
taken_so vector rows item s = by item.unit s
  where
    by : (u : Named) (s : Standing) → IsStanding vector rows u s → taken_by rows item.rows s ≡ rows_taken vector rows (record { unit = u; rows = item.rows })
    by (Object o) (OfObject presence class) is = ap (object_rows_taken rows item.rows) is.0
    by (Object o) (OfLink is_lost) other = absurd other
    by (Link l) (OfObject presence class) other = absurd other
    by (Link l) (OfLink is_lost) is = ap (λ b. cond b [] (filter (is_above rows) item.rows)) is

none_taken : (us : List Update) → filter (λ u. false) us ≡ []
none_taken [] = refl
none_taken (u ∷ us) = none_taken us

-- the rows that are taken one by one are these, but for what a death leaves
pub each_so : (rows : List Row) (us : List Update) (s : Standing) → cond (can_die s) (left_by_death (filter (is_taken rows s) us)) (filter (is_taken rows s) us) ≡ taken_by rows us s
each_so rows us (OfObject Dead class) = refl
each_so rows us (OfObject Held class) = refl
each_so rows us (OfObject Gone class) = none_taken us
each_so rows us (OfObject New class) = ap left_by_death (filter_all (λ u. true) us (λ u member. refl))
each_so rows us (OfLink true) = none_taken us
each_so rows us (OfLink false) = refl

abbrev pub fault_by : Schema → List Update → Standing → Option ItemFault
fault_by table us (OfObject presence class) = first_of (map (row_fault table (option_or class (class_among us))) (object_rows_tested us (defined presence)))
fault_by table us (OfLink is_lost) = first_of (map (row_fault table None) (cond is_lost [] us))

pub fault_so : (table : Schema) (vector : Cursors) (rows : List Row) (item : Item) (s : Standing) → IsStanding vector rows item.unit s → fault_by table item.rows s ≡ item_fault table vector rows item
fault_so table vector rows item s = by item.unit s
  where
    by : (u : Named) (s : Standing) → IsStanding vector rows u s → fault_by table item.rows s ≡ item_fault table vector rows (record { unit = u; rows = item.rows })
    by (Object o) (OfObject presence class) is =
        ap (λ p. first_of (map (row_fault table (option_or class (class_among item.rows))) (object_rows_tested item.rows p))) is.0
        ∙ ap (λ c. first_of (map (row_fault table (option_or c (class_among item.rows))) (object_rows_tested item.rows (presence_of vector rows o)))) is.1
    by (Object o) (OfLink is_lost) other = absurd other
    by (Link l) (OfObject presence class) other = absurd other
    by (Link l) (OfLink is_lost) is = ap (λ b. first_of (map (row_fault table None) (cond b [] item.rows))) is
