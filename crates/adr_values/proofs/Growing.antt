-- A vector that is raised has no fewer cursors.
use Rattle.std.proofs.Common.{ℕ, ◌≤◌, Bool, true, false, List, [], ◌∷◌, length, arith, if◌then◌else◌}
use Rattle.std.specs.BTreeMap.{insert_entry}
use Rattle.std.specs.Ordering.{match_ordering}
use Rattle.std.specs.declared.cmp.Ordering.{Ordering}
use Rattle.std.specs.declared.cmp.Ordering.TheVariants.{Less, Equal, Greater}
use Rattle.adr_values.specs.Order.{identifier_order}
use Rattle.adr_values.specs.Vector.{Cursors, covers, raised}

entered : (v : Cursors) (inv : List ℕ) (usn : ℕ) → length v ≤ length (insert_entry identifier_order v inv usn)
entered [] inv usn = omega arith
entered (c ∷ cs) inv usn = by (identifier_order inv c.0) (entered cs inv usn)
  where
    by : (o : Ordering) → length cs ≤ length (insert_entry identifier_order cs inv usn)
        → length (c ∷ cs) ≤ length (match_ordering o ((inv, usn) ∷ c ∷ cs) ((c.0, usn) ∷ cs) (c ∷ insert_entry identifier_order cs inv usn))
    by Less h = omega arith
    by Equal h = omega arith
    by Greater h = omega (arith, h)

pub length-raised : (v : Cursors) (inv : List ℕ) (usn : ℕ) → length v ≤ length (raised v inv usn)
length-raised v inv usn = by (covers v inv usn)
  where
    by : (b : Bool) → length v ≤ length (if b then v else insert_entry identifier_order v inv usn)
    by true = omega arith
    by false = entered v inv usn
