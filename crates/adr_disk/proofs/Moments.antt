-- What a crash at any moment of several calls leaves.
use Rattle.std.proofs.Common.{inl, inr, ⊎_elim, ℕ, List, arith}
use Rattle.adr_disk.specs.Disk.{Among, Elapses, LeavesOnly}

module _ {D O : Type 0} (moment : D → ℕ) (left_since : D → ℕ → O → Type 0) where
  -- before the first call
  pub started : (old : D) (P : O → Type 0) → Among P (left_since old (moment old)) → LeavesOnly moment left_since old old P
  started old P here = record { later = omega arith; each = here; before = λ t bytes le left. inl left }

  -- one run of calls after another
  pub joined : (old mid new : D) (P : O → Type 0) → LeavesOnly moment left_since old mid P → LeavesOnly moment left_since mid new P → LeavesOnly moment left_since old new P
  joined old mid new P first second = record {
    later = omega (arith, first.later, second.later);
    each = λ bytes left. ⊎_elim (first.each bytes) (λ p. p) (second.before (moment old) bytes first.later left);
    before = λ t bytes le left. ⊎_elim (first.before t bytes le) inr (second.before t bytes (omega (arith, le, first.later)) left);
  }

  -- and all that this says of what is left
  pub weakened : (old new : D) (P Q : O → Type 0) → Among Q P → LeavesOnly moment left_since old new P → LeavesOnly moment left_since old new Q
  weakened old new P Q says leaves = record {
    later = leaves.later;
    each = λ bytes left. says bytes (leaves.each bytes left);
    before = λ t bytes le left. ⊎_elim inl (λ p. inr (says bytes p)) (leaves.before t bytes le left);
  }

module _ {D : Type 0} (moment : D → ℕ) (left_since : D → ℕ → List ℕ → Type 0) where
  -- one call more
  pub goes_on : (old mid new : D) (P outcomes : List ℕ → Type 0) → LeavesOnly moment left_since old mid P → Elapses (moment mid) (moment new) (left_since mid) (left_since new) outcomes → Among P outcomes → LeavesOnly moment left_since old new P
  goes_on old mid new P outcomes so_far time here = record {
    later = omega (arith, so_far.later, time.later);
    each = λ bytes left. ⊎_elim (so_far.each bytes) (here bytes) (time.nothing_else (moment old) bytes so_far.later left);
    before = λ t bytes le left. ⊎_elim (so_far.before t bytes le) (λ now. inr (here bytes now)) (time.nothing_else t bytes (omega (arith, le, so_far.later)) left);
  }
