-- The vector of what is purged after a collection: it stays within what was seen.
use Rattle.std.proofs.Common.{◌≡◌, List, true, max, arith}
use Rattle.adr_values.specs.declared.stamp.Oid.{Oid}
use Rattle.adr_values.specs.Vector.{Cursors, IsVector, at, at_most, joined}
use Rattle.adr_values.proofs.Cursors.{IsRising, FromOne}
use Rattle.adr_values.proofs.Comparing.{everywhere_from_at_most}
use Rattle.adr_values.proofs.Joining.{at-joined, rising-joined, from_one-joined}
use Rattle.adr_model.specs.Member.{Each}
use Rattle.adr_model.specs.Update.{Identifier, Update}
use Rattle.adr_model.specs.Reflects.{AtMost, Covers, CoversBirth}
use Rattle.adr_model.specs.Collect.{covering}
use Rattle.adr_law_knowledge.proofs.Fewer.{no_more_cursors}
use Rattle.adr_law_calls.proofs.Covering.{covering_within, covering_covers, covering_rises}

module _ (p v : Cursors) (ds : List (Oid × Update)) (is : IsVector p) (within : at_most p v ≡ true) (vector : IsVector v) (covered : Each (λ d. CoversBirth (at v) d.0 × Covers (at v) d.1) ds) where
  abbrev q : Cursors
  q = joined p (covering ds)

  q_is : (i : Identifier) → at q i ≡ max (at p i) (at (covering ds) i)
  q_is i = at-joined (covering ds) p i (covering_rises ds)

  pub purged_up : AtMost (at p) (at q)
  purged_up i = omega (arith, q_is i)

  pub purged_within : AtMost (at q) (at v)
  purged_within i = omega (arith, q_is i, everywhere_from_at_most p v within i, covering_within ds (at v) covered i)

  pub purged_covers : Each (λ d. CoversBirth (at q) d.0 × Covers (at q) d.1) ds
  purged_covers d m = let c = covering_covers ds d m in (omega (arith, c.0, q_is d.0.birth.inv), omega (arith, c.1, q_is d.1.stamp.stamp.inv))

  pub purged_is_vector : IsVector q
  purged_is_vector = record {
    rising = rising;
    from_one = from_one;
    few = omega (arith, vector.few, no_more_cursors v q rising from_one vector.rising (λ i some. omega (arith, some, purged_within i)));
  }
    where
      rising : IsRising q
      rising = rising-joined (covering ds) p is.rising

      from_one : FromOne q
      from_one = from_one-joined (covering ds) p is.from_one
