use Rattle.std.proofs.Common.{arith, ap, Ok}
use Rattle.adr_io.proofs.ReadLemmas.{read_more, read_most, left_most, read_ended, left_ended, gone_so_far, gone_more}
use Rattle.adr_io.proofs.reading.read_at_most.Goals as goal

pub returns-then-room-eq0-clause-read : goal.returns-then-room-eq0-clause-read
returns-then-room-eq0-clause-read g c = read_most (g.S.Source.left c.args.source.now) (g.S.Source.left c.turns.source) c.turns.bytes.items c.args.most c.turns.invariant.told (omega arith)

pub returns-then-room-eq0-clause-left : goal.returns-then-room-eq0-clause-left
returns-then-room-eq0-clause-left g c = left_most (g.S.Source.left c.args.source.now) (g.S.Source.left c.turns.source) c.turns.bytes.items c.args.most c.turns.invariant.told (omega arith)

pub returns-then-count-eq0-clause-read : goal.returns-then-count-eq0-clause-read
returns-then-count-eq0-clause-read g c =
    read_ended (g.S.Source.left c.args.source.now) (g.S.Source.left c.turns.source) (g.S.Source.left c.read_some.new.source) c.turns.bytes.items c.read_some.new.bytes.items c.in_ok-count.count c.args.most
    c.turns.invariant.told c.in_ok-count.ensures.read c.in_ok-count.ensures.count.1 (c.in_ok-count.ensures.end (ap Ok c.if-count-eq0.true)) c.turns.invariant.most

pub returns-then-count-eq0-clause-left : goal.returns-then-count-eq0-clause-left
returns-then-count-eq0-clause-left g c =
    left_ended (g.S.Source.left c.args.source.now) (g.S.Source.left c.turns.source) (g.S.Source.left c.read_some.new.source) c.turns.bytes.items c.read_some.new.bytes.items c.in_ok-count.count c.args.most
    c.turns.invariant.told c.in_ok-count.ensures.read c.in_ok-count.ensures.count.1 (c.in_ok-count.ensures.end (ap Ok c.if-count-eq0.true)) c.turns.invariant.most

pub turns-preserved : goal.turns-preserved
turns-preserved g c = record {
  told = read_more (g.S.Source.left c.args.source.now) (g.S.Source.left c.turns.source) (g.S.Source.left c.read_some.new.source) c.turns.bytes.items c.read_some.new.bytes.items c.in_ok-count.count
      c.turns.invariant.told c.in_ok-count.ensures.read c.in_ok-count.ensures.count.1;
  turns = omega (arith, c.in_ok-count.ensures.count);
  most = omega (arith, c.in_ok-count.ensures.count);
  faults = omega (arith, c.turns.invariant.faults, c.read_some.ensures.never_falls);
}

pub returns-clause-read : goal.returns-clause-read
returns-clause-read g c = read_most (g.S.Source.left c.args.source.now) (g.S.Source.left c.turns.source) c.turns.bytes.items c.args.most c.turns.invariant.told (omega arith)

pub returns-clause-left : goal.returns-clause-left
returns-clause-left g c = left_most (g.S.Source.left c.args.source.now) (g.S.Source.left c.turns.source) c.turns.bytes.items c.args.most c.turns.invariant.told (omega arith)

pub returns-then-room-eq0-clause-at_most : goal.returns-then-room-eq0-clause-at_most
returns-then-room-eq0-clause-at_most g c = gone_so_far (g.S.Source.left c.args.source.now) (g.S.Source.left c.turns.source) c.turns.bytes.items c.args.most c.turns.invariant.told c.turns.invariant.most

pub returns-in_err-count-clause-at_most : goal.returns-in_err-count-clause-at_most
returns-in_err-count-clause-at_most g c =
    gone_more (g.S.Source.left c.args.source.now) (g.S.Source.left c.turns.source) (g.S.Source.left c.read_some.new.source) c.turns.bytes.items _ c.args.most c.turns.invariant.told c.read_some.ensures.at_most (omega (arith, c.turns.invariant.most))

pub returns-then-count-eq0-clause-at_most : goal.returns-then-count-eq0-clause-at_most
returns-then-count-eq0-clause-at_most g c =
    gone_more (g.S.Source.left c.args.source.now) (g.S.Source.left c.turns.source) (g.S.Source.left c.read_some.new.source) c.turns.bytes.items _ c.args.most c.turns.invariant.told c.read_some.ensures.at_most (omega (arith, c.turns.invariant.most))

pub returns-clause-at_most : goal.returns-clause-at_most
returns-clause-at_most g c = gone_so_far (g.S.Source.left c.args.source.now) (g.S.Source.left c.turns.source) c.turns.bytes.items c.args.most c.turns.invariant.told c.turns.invariant.most
