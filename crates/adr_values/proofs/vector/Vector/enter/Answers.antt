use Rattle.std.proofs.Common.{length, true, arith, ap, subst}
use Rattle.adr_values.specs.Vector.{cursor_limit, raised}
use Rattle.adr_values.proofs.Cursors.{IsRising}
use Rattle.adr_values.proofs.Placing.{written_between, raised_between, raised_seen, length_between}
use Rattle.adr_values.proofs.Refusals.{done, refused, wanting}
use Rattle.adr_values.proofs.vector.Vector.enter.Goals as goal

-- nothing was raised
pub returns-then-is_nothing-clause-full : goal.returns-then-is_nothing-clause-full
returns-then-is_nothing-clause-full c =
    let same = ap length (raised_seen c.args.self.now c.args.inv c.args.usn (let zero = c.if-is_nothing.true in omega arith)) in
    let viewed = ap length c.self.view_is in
    done tt cursor_limit (length (raised c.args.self.now c.args.inv c.args.usn)) (omega (arith, c.self.invariant.few))

pub returns-then-is_full-clause-full : goal.returns-then-is_full-clause-full
returns-then-is_full-clause-full c =
    let longer = length_between c.args.self.now c.args.inv c.args.usn c.args.place (subst IsRising c.self.view_is c.self.invariant.rising) c.requires (let some = c.if-is_nothing.false in omega arith) in
    let viewed = ap length c.self.view_is in
    refused cursor_limit (length (raised c.args.self.now c.args.inv c.args.usn)) (omega arith)

pub returns-in_err-insert-clause-full : goal.returns-in_err-insert-clause-full
returns-in_err-insert-clause-full c =
    let longer = length_between c.args.self.now c.args.inv c.args.usn c.args.place (subst IsRising c.self.view_is c.self.invariant.rising) c.requires (let some = c.if-is_nothing.false in omega arith) in
    let viewed = ap length c.self.view_is in
    wanting c.from_residual.result cursor_limit (length (raised c.args.self.now c.args.inv c.args.usn)) c.from_residual.ensures.1 (omega arith)

pub invariant_of-self-2 : goal.invariant_of-self-2
invariant_of-self-2 c =
    rw c.in_ok-insert.ensures.items
    (written_between c.self.inside.cursors.items c.args.inv c.args.usn c.args.place c.self.invariant (let some = c.if-is_nothing.false in omega arith) (let room = c.if-is_full.false in omega arith) (rw c.self.view_is c.requires) true)

pub returns-clause-ok : goal.returns-clause-ok
returns-clause-ok c =
    rw (c.in_ok-insert.ensures.items, c.self.view_is)
    (raised_between c.args.self.now c.args.inv c.args.usn c.args.place (subst IsRising c.self.view_is c.self.invariant.rising) c.requires (let some = c.if-is_nothing.false in omega arith))

pub returns-clause-full : goal.returns-clause-full
returns-clause-full c =
    let longer = length_between c.args.self.now c.args.inv c.args.usn c.args.place (subst IsRising c.self.view_is c.self.invariant.rising) c.requires (let some = c.if-is_nothing.false in omega arith) in
    let viewed = ap length c.self.view_is in
    done tt cursor_limit (length (raised c.args.self.now c.args.inv c.args.usn)) (omega arith)
