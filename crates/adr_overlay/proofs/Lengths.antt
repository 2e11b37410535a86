-- How many cursors a vector has after it was raised.
use Rattle.std.proofs.Common.{◌≡◌, ℕ, ◌+◌, ◌≤◌, ◌<◌, Bool, true, false, cond, List, [], ◌∷◌, refl, length, Some, is_some, arith, leb-true, leb-false}
use Rattle.std.specs.Map.{lookup}
use Rattle.std.specs.BTreeMap.{insert_entry, is_at}
use Rattle.std.specs.Ordering.{is_eq}
use Rattle.std.proofs.lemmas.Bool.Decides.{nat_tests}
use Rattle.std.proofs.lemmas.Cmp.{nat_list_cmp_total}
use Rattle.adr_values.specs.Order.{identifier_order}
use Rattle.adr_values.specs.Vector.{Cursors, at, covers, raised}
use Rattle.adr_values.proofs.Cursors.{IsRising, FromOne}
use Rattle.adr_change.proofs.Entered.{entered, lacking}
use Rattle.adr_overlay.specs.Cursors.{at_zero, new_at}

-- an identifier with no cursor is one at which the number is 0
lacks_at : (v : Cursors) (inv : List ℕ) → FromOne v → lacking (is_some (lookup (is_at (identifier_order inv)) v)) ≡ at_zero (at v inv)
lacks_at [] inv one = refl
lacks_at (c ∷ cs) inv one = by (is_eq (identifier_order inv c.0)) (lacks_at cs inv one.1)
  where
    some : (n : ℕ) → 1 ≤ n → lacking true ≡ at_zero n
    some n least = grind (arith, nat_tests)

    by : (b : Bool) → lacking (is_some (lookup (is_at (identifier_order inv)) cs)) ≡ at_zero (at cs inv)
        → lacking (is_some (cond b (Some c.1) (lookup (is_at (identifier_order inv)) cs))) ≡ at_zero (cond b c.1 (at cs inv))
    by true later = some c.1 one.0
    by false later = later

pub raised_length : (v : Cursors) (inv : List ℕ) (usn : ℕ) → IsRising v → FromOne v → length (raised v inv usn) ≡ length v + new_at (at v inv) usn
raised_length v inv usn rising one = by (covers v inv usn) refl
  where
    seen : (n : ℕ) → usn ≤ n → new_at n usn ≡ 0
    seen n le = grind (arith, nat_tests)

    passed : (n : ℕ) → n < usn → new_at n usn ≡ at_zero n
    passed n lt = grind (arith, nat_tests)

    by : (b : Bool) → covers v inv usn ≡ b → length (cond b v (insert_entry identifier_order v inv usn)) ≡ length v + new_at (at v inv) usn
    by true e = omega (arith, seen (at v inv) (leb-true usn (at v inv) e))
    by false e = omega (arith, entered nat_list_cmp_total v inv usn rising, lacks_at v inv one, passed (at v inv) (leb-false usn (at v inv) e))
