-- The states of the generator, three draws at each seventh person.
use Rattle.std.proofs.Common.{◌≡◌, ℕ, suc, ◌+◌, ◌*◌, ◌/◌, ◌%◌, refl, ap, ◌∙◌, arith}
use Rattle.adr_run_exercise.specs.Generated.{state}

three_more : (x draws : ℕ) → state (state x draws) 3 ≡ state x (suc (suc (suc draws)))
unfolding state
three_more x draws = refl

pub state_behind : (n k : ℕ) → k % 7 ≡ 6 → state (state n (3 * (k / 7))) 3 ≡ state n (3 * ((k + 1) / 7))
state_behind n k is =
    let e : suc (suc (suc (3 * (k / 7)))) ≡ 3 * ((k + 1) / 7) = omega arith in
    three_more n (3 * (k / 7)) ∙ ap (state n) e
