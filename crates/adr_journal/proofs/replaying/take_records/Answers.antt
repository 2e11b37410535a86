use Rattle.std.proofs.Common.{arith}
use Rattle.adr_journal.proofs.Starts.{damage_at, ends, rests}
use Rattle.adr_journal.proofs.replaying.take_records.Goals as goal

pub returns-then-bytes-gate-clause-rests : goal.returns-then-bytes-gate-clause-rests
returns-then-bytes-gate-clause-rests g c =
    let f = g.F.Form in
    let a = c.args.area in
    rests f.head f.area f.following c.args.bytes.now a.second a.place a.version a.first c.records.gate c.records.state c.records.invariant.reached c.records-test.true c.if-bytes-gate.true

pub returns-clause-damaged : goal.returns-clause-damaged
returns-clause-damaged g c =
    let f = g.F.Form in
    let a = c.args.area in
    let reached = c.records.invariant.reached in
    damage_at c.damaged.result c.records.gate _ c.damaged.ensures
    (ends f.head f.area f.following c.args.bytes.now a.second a.place a.version a.first c.records.gate c.records.state reached (omega (arith, reached.within, c.records-test.false)))
