-- How long the disk of a keeper has become.
use Rattle.std.proofs.Common.{ℕ, ◌≤◌, max, arith}
use Rattle.adr_journal.specs.declared.keeper.Keeper.{Ghosts}
use Rattle.adr_controller.specs.Did.{IsBoundedBy}

below : (i image m : ℕ) → i ≤ image → i ≤ max image m
below i image m le = grind arith

both_below : (i image m : ℕ) → i ≤ image → max i m ≤ max image m
both_below i image m le = grind arith

module _ {K : Type 0} (k : Ghosts K) where
  pub grown : (keeper : K) (file image longest m n : ℕ) → IsBoundedBy k keeper file image longest → IsBoundedBy k keeper file (max image m) (max longest n)
  grown keeper file image longest m n (i, l, le_i, le_l, is) = (i, l, below i image m le_i, below l longest n le_l, is)

  module _ (old new : K) where
    -- a call after which it is as long as before
    pub same_bound : ((file image longest : ℕ) → k.is_within old file image longest → k.is_within new file image longest)
        → (file image longest m n : ℕ) → IsBoundedBy k old file image longest → IsBoundedBy k new file (max image m) (max longest n)
    same_bound keeps file image longest m n (i, l, le_i, le_l, is) = grown new file image longest m n (i, l, le_i, le_l, keeps file i l is)

    -- and one that writes an image and a record
    pub new_bound : (m n : ℕ) → ((file image longest : ℕ) → k.is_within old file image longest → k.is_within new file (max image m) (max longest n))
        → (file image longest : ℕ) → IsBoundedBy k old file image longest → IsBoundedBy k new file (max image m) (max longest n)
    new_bound m n writes file image longest (i, l, le_i, le_l, is) = (max i m, max l n, both_below i image m le_i, both_below l longest n le_l, writes file i l is)
