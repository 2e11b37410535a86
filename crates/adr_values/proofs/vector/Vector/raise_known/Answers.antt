use Rattle.std.proofs.Common.{◌≡◌, ◌≢◌, ◌≤◌, ℕ, zero, suc, arith}
use Rattle.adr_values.specs.Vector.{at}
use Rattle.adr_values.proofs.Placing.{at_gap, raised_seen}
use Rattle.adr_values.proofs.vector.Vector.raise_known.Goals as goal

-- where there is no cursor, there is nothing to raise
nothing_new : (usn n : ℕ) → (usn ≢ 0 → n ≢ 0) → n ≡ 0 → usn ≤ n
nothing_new zero n h none = omega arith
nothing_new (suc u) n h none = absurd (h (λ z. omega arith) none)

pub returns-in_default : goal.returns-in_default
returns-in_default c =
    let none : at c.args.self.now c.args.inv ≡ 0 = at_gap c.args.self.now c.args.inv c.in_default.field-0 c.in_default.ensures.vector.rising c.in_default.ensures.gap in
    raised_seen c.args.self.now c.args.inv c.args.usn (nothing_new c.args.usn (at c.args.self.now c.args.inv) c.requires none)
