-- A vector that is raised stays within another one that covers the number, and gets no more cursors than it has.
use Rattle.std.proofs.Common.{◌≡◌, ◌≤◌, ℕ, refl, Bool, true, false, cond, max, ap, length, arith}
use Rattle.std.specs.Ordering.{is_eq}
use Rattle.std.proofs.lemmas.Bool.{leb-true}
use Rattle.adr_values.specs.Order.{identifier_order}
use Rattle.adr_values.specs.Vector.{Cursors, IsVector, at, covers, cursor_limit, raised}
use Rattle.adr_values.proofs.Cursors.{same_from_test}
use Rattle.adr_values.proofs.Joining.{at-raised, from_one-raised, rising-raised}
use Rattle.adr_model.specs.Reflects.{AtMost}
use Rattle.adr_model.specs.Update.{Identifier}
use Rattle.adr_law_knowledge.proofs.Fewer.{no_more_cursors}

module _ (v w : Cursors) (inv : Identifier) (usn : ℕ) (within : AtMost (at v) (at w)) (covered : covers w inv usn ≡ true) where
  pub raised_within : AtMost (at (raised v inv usn)) (at w)
  raised_within i = by (is_eq (identifier_order i inv)) refl (at-raised v inv usn i)
    where
      by : (b : Bool) → is_eq (identifier_order i inv) ≡ b → at (raised v inv usn) i ≡ max (at v i) (cond b usn 0) → at (raised v inv usn) i ≤ at w i
      by true is e = omega (arith, e, within i, leb-true usn (at w inv) covered, ap (at w) (same_from_test i inv is))
      by false is e = omega (arith, e, within i)

  pub raised_few : IsVector v → IsVector w → length (raised v inv usn) ≤ cursor_limit
  raised_few is other =
      omega (
        arith,
        other.few,
        no_more_cursors w (raised v inv usn) (rising-raised v inv usn is.rising) (from_one-raised v inv usn is.from_one) other.rising (λ q some. omega (arith, some, raised_within q)),
      )
