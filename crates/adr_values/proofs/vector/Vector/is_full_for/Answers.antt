use Rattle.std.proofs.Common.{◌≡◌, ◌+◌, ℕ, Bool, true, false, length, leb, sym, ap, refl, arith}
use Rattle.std.specs.Prelude.{nat_lt}
use Rattle.std.proofs.lemmas.Bool.{leb-true, leb-false, lt-ltb, le-ltb}
use Rattle.adr_values.specs.Vector.{cursor_limit, raised}
use Rattle.adr_values.proofs.Placing.{length_over, length_between}
use Rattle.adr_values.proofs.vector.Vector.is_full_for.Goals as goal

-- the two tests of a count and of the next one
one_more : (most n more : ℕ) → more ≡ n + 1 → leb most n ≡ nat_lt most more
one_more most n more e = by (leb most n) refl
  where
    by : (b : Bool) → leb most n ≡ b → b ≡ nat_lt most more
    by true h = sym (lt-ltb most more (let le = leb-true most n h in omega arith))
    by false h = sym (le-ltb most more (let lt = leb-false most n h in omega arith))

pub returns-in-Ok : goal.returns-in-Ok
returns-in-Ok c =
    let same = length_over c.args.self.now c.args.inv c.args.usn c.in-Ok.field-0 c.in-Ok.ensures.found in
    sym (le-ltb cursor_limit (length (raised c.args.self.now c.args.inv c.args.usn)) (omega (arith, same, c.search.ensures.vector.few)))

pub returns-then-usn-gt0 : goal.returns-then-usn-gt0
returns-then-usn-gt0 c =
    let longer = length_between c.args.self.now c.args.inv c.args.usn c.in-Err.field-0 c.search.ensures.vector.rising c.in-Err.ensures.gap (let some = c.if-usn-gt0.true in omega arith) in
    let viewed = ap length c.self.view_is in
    one_more cursor_limit c.len.result (length (raised c.args.self.now c.args.inv c.args.usn)) (omega (arith, longer, viewed))
