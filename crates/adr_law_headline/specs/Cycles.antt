-- What a cycle comes to between two controllers with nothing in the way.
use Rattle.std.specs.Prelude.{◌≤◌, ℕ}
use Rattle.adr_model.specs.Replica.{Replica}
use Rattle.adr_model.specs.World.{World}
use Rattle.adr_model.specs.Cycles.{cycle, reply_limit}
use Rattle.adr_model.specs.Convergence.{MayCycle, units_beyond, AreUnlimited, EndsOrSaysMore}
use Rattle.adr_law_convergence.specs.Rounds.{IsWhole}

-- where no limit is met, the destination has everything behind it, or it says that there is more; and it is whole where the source has
-- no more units beyond the mark than a cycle may take replies
abbrev pub CyclesEnd : World → Type 0
CyclesEnd w =
    (dest source : Replica) (most : ℕ) → MayCycle w dest source → 1 ≤ most
    → let c = cycle w dest.name source.name most in
    AreUnlimited c.1 → EndsOrSaysMore w dest source c.1 c.0 × (units_beyond dest.safe source.safe ≤ reply_limit → IsWhole c.1)
