-- A vector that is raised at an identifier.
use Rattle.std.proofs.Common.{◌≡◌, ℕ, ◌≤◌, Bool, true, false, cond, max, refl, ap, length, arith}
use Rattle.std.specs.BTreeMap.{insert_entry}
use Rattle.std.specs.Ordering.{is_eq}
use Rattle.std.proofs.lemmas.Bool.{le-leb}
use Rattle.adr_values.specs.Order.{identifier_order}
use Rattle.adr_values.specs.Vector.{Cursors, IsVector, at, raised, cursor_limit}
use Rattle.adr_values.proofs.Cursors.{same_from_test}
use Rattle.adr_values.proofs.Joining.{at-raised, rising-raised, from_one-raised}
use Rattle.adr_model.specs.Update.{Identifier}
use Rattle.adr_model.specs.Reflects.{AtMost}
use Rattle.adr_law_knowledge.proofs.Fewer.{IsWithin, no_more_cursors}

-- a vector that has seen it already isn't raised
pub not_raised : (v : Cursors) (inv : Identifier) (usn : ℕ) → usn ≤ at v inv → raised v inv usn ≡ v
not_raised v inv usn le = ap (λ b. cond b v (insert_entry identifier_order v inv usn)) (le-leb usn (at v inv) le)

module _ (v : Cursors) (inv : Identifier) (usn : ℕ) where
  pub raised_up : AtMost (at v) (at (raised v inv usn))
  raised_up i = omega (arith, at-raised v inv usn i)

  -- what is covered after was covered, or is at the identifier
  pub covered_before : (i : Identifier) (n : ℕ) → n ≤ at (raised v inv usn) i → (i ≡ inv → n ≤ at v inv) → n ≤ at v i
  covered_before i n le own = by (is_eq (identifier_order i inv)) refl (at-raised v inv usn i)
    where
      by : (b : Bool) → is_eq (identifier_order i inv) ≡ b → at (raised v inv usn) i ≡ max (at v i) (cond b usn 0) → n ≤ at v i
      by true is e = let same : i ≡ inv = same_from_test i inv is in omega (arith, own same, ap (at v) same)
      by false is e = omega (arith, le, e)

  pub raised_is_vector : IsVector v → length (raised v inv usn) ≤ cursor_limit → IsVector (raised v inv usn)
  raised_is_vector is few = record { rising = rising-raised v inv usn is.rising; from_one = from_one-raised v inv usn is.from_one; few = few }

  -- it gets no further cursor where there is one at the identifier
  pub raised_replaces : (1 ≤ usn → 1 ≤ at v inv) → IsVector v → length (raised v inv usn) ≤ length v
  raised_replaces own is = no_more_cursors v (raised v inv usn) (rising-raised v inv usn is.rising) (from_one-raised v inv usn is.from_one) is.rising within
    where
      there : (q : Identifier) → q ≡ inv → 1 ≤ at (raised v inv usn) q → at (raised v inv usn) q ≡ max (at v q) usn → 1 ≤ at v q
      there q same some e = grind (arith, own, some, e, ap (at v) same)

      within : IsWithin (raised v inv usn) v
      within q some = by (is_eq (identifier_order q inv)) refl (at-raised v inv usn q)
        where
          by : (b : Bool) → is_eq (identifier_order q inv) ≡ b → at (raised v inv usn) q ≡ max (at v q) (cond b usn 0) → 1 ≤ at v q
          by true is e = there q (same_from_test q inv is) some e
          by false is e = omega (arith, some, e)
