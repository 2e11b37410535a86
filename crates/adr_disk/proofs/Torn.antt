-- What a crash leaves of one write, and of two.
use Rattle.std.proofs.Common.{ℕ, List, sym, subst}
use Rattle.adr_disk.specs.Disk.{Torn, After, Among, Elapses, LeavesOnly, Only, TornTwice}
use Rattle.adr_disk.proofs.Bytes.{Torn-same}
use Rattle.adr_disk.proofs.Moments.{started, goes_on}

-- where these bytes alone may be left, a write tears them
pub tears : (at n : ℕ) (there : List ℕ) (outcomes : List ℕ → Type 0) → Only there outcomes → Among (Torn at n there) (After (Torn at n) outcomes)
tears at n there outcomes only = λ bytes left. subst (λ (old : List ℕ). Torn at n old bytes) (only left.0 left.1) left.2

-- and so does the first of two writes
pub tears_first : (at n later m : ℕ) (there : List ℕ) (outcomes : List ℕ → Type 0) → Only there outcomes → Among (TornTwice at n later m there) (After (Torn at n) outcomes)
tears_first at n later m there outcomes only = λ bytes left. (bytes, tears at n there outcomes only bytes left, Torn-same later m bytes)

-- and the second
pub tears_again : (at n later m : ℕ) (there : List ℕ) (outcomes mid : List ℕ → Type 0) → Only there outcomes → Among (After (Torn at n) outcomes) mid → Among (TornTwice at n later m there) (After (Torn later m) mid)
tears_again at n later m there outcomes mid only first = λ bytes left. (left.0, tears at n there outcomes only left.0 (first left.0 left.1), left.2)

pub untouched : (at n later m : ℕ) (there : List ℕ) → TornTwice at n later m there there
untouched at n later m there = (there, Torn-same at n there, Torn-same later m there)

-- ---- at each moment of them, where these bytes alone may be left at first

module _ {D : Type 0} (may_leave : D → List ℕ → Type 0) (moment : D → ℕ) (left_since : D → ℕ → List ℕ → Type 0) (only_now : (disk : D) (bytes : List ℕ) → left_since disk (moment disk) bytes → may_leave disk bytes)
    (old mid : D) (at n : ℕ) (there : List ℕ) (only : Only there (may_leave old)) (time : Elapses (moment old) (moment mid) (left_since old) (left_since mid) (After (Torn at n) (may_leave old))) where
  begun : (P : List ℕ → Type 0) → P there → LeavesOnly moment left_since old old P
  begun P here = started moment left_since old P (λ bytes left. subst P (sym (only bytes (only_now old bytes left))) here)

  pub one_moment : LeavesOnly moment left_since old mid (Torn at n there)
  one_moment = goes_on moment left_since old old mid (Torn at n there) (After (Torn at n) (may_leave old)) (begun (Torn at n there) (Torn-same at n there)) time (tears at n there (may_leave old) only)

  -- and of the sync behind
  pub one_synced : Among (After (Torn at n) (may_leave old)) (may_leave mid) → (new : D) → Elapses (moment mid) (moment new) (left_since mid) (left_since new) (may_leave mid) → LeavesOnly moment left_since old new (Torn at n there)
  one_synced crash new then = goes_on moment left_since old mid new (Torn at n there) (may_leave mid) one_moment then (λ bytes left. tears at n there (may_leave old) only bytes (crash bytes left))

  module _ (later m : ℕ) where
    pub first_moment : LeavesOnly moment left_since old mid (TornTwice at n later m there)
    first_moment =
        goes_on moment left_since old old mid (TornTwice at n later m there) (After (Torn at n) (may_leave old)) (begun (TornTwice at n later m there) (untouched at n later m there)) time
        (tears_first at n later m there (may_leave old) only)

    pub second_moment : Among (After (Torn at n) (may_leave old)) (may_leave mid) → (new : D) → Elapses (moment mid) (moment new) (left_since mid) (left_since new) (After (Torn later m) (may_leave mid))
        → LeavesOnly moment left_since old new (TornTwice at n later m there)
    second_moment crash new then =
        goes_on moment left_since old mid new (TornTwice at n later m there) (After (Torn later m) (may_leave mid)) first_moment then (tears_again at n later m there (may_leave old) (may_leave mid) only crash)

    pub second_synced : Among (After (Torn at n) (may_leave old)) (may_leave mid) → (last : D) → Elapses (moment mid) (moment last) (left_since mid) (left_since last) (After (Torn later m) (may_leave mid))
        → Among (After (Torn later m) (may_leave mid)) (may_leave last) → (new : D) → Elapses (moment last) (moment new) (left_since last) (left_since new) (may_leave last) → LeavesOnly moment left_since old new (TornTwice at n later m there)
    second_synced crash last then tears_then new end =
        goes_on moment left_since old last new (TornTwice at n later m there) (may_leave last) (second_moment crash last then) end
        (λ bytes left. tears_again at n later m there (may_leave old) (may_leave mid) only crash bytes (tears_then bytes left))
