use Rattle.std.proofs.Common.{◌∙◌, arith, ap, Ok}
use Rattle.adr_frames.proofs.ReceivedLemmas.{all_come, all_ended, come_more, come_part, part_more}
use Rattle.adr_frames.proofs.receiving.receive_at_most.Goals as goal

pub returns-then-room-eq0-clause-received : goal.returns-then-room-eq0-clause-received
returns-then-room-eq0-clause-received g c =
    (all_come (g.N.Net.traffic c.args.net.now) (g.N.Net.traffic c.turns.net) c.turns.bytes.items c.args.most
    c.turns.invariant.told (omega arith)).0

pub returns-then-room-eq0-clause-left : goal.returns-then-room-eq0-clause-left
returns-then-room-eq0-clause-left g c =
    (all_come (g.N.Net.traffic c.args.net.now) (g.N.Net.traffic c.turns.net) c.turns.bytes.items c.args.most
    c.turns.invariant.told (omega arith)).1

pub returns-then-room-eq0-clause-part : goal.returns-then-room-eq0-clause-part
returns-then-room-eq0-clause-part g c =
    come_part (g.N.Net.traffic c.args.net.now) (g.N.Net.traffic c.turns.net) c.turns.bytes.items c.turns.invariant.told

pub returns-in_err-count-clause-part : goal.returns-in_err-count-clause-part
returns-in_err-count-clause-part g c =
    part_more (g.N.Net.traffic c.args.net.now) (g.N.Net.traffic c.turns.net) (g.N.Net.traffic c.receive_some.new.net)
    (come_part (g.N.Net.traffic c.args.net.now) (g.N.Net.traffic c.turns.net) c.turns.bytes.items c.turns.invariant.told) c.receive_some.ensures.part

pub returns-then-count-eq0-clause-received : goal.returns-then-count-eq0-clause-received
returns-then-count-eq0-clause-received g c =
    (all_ended (g.N.Net.traffic c.args.net.now) (g.N.Net.traffic c.turns.net) (g.N.Net.traffic c.receive_some.new.net)
    c.turns.bytes.items c.receive_some.new.bytes.items c.in_ok-count.count c.args.most
    c.turns.invariant.told c.in_ok-count.ensures.received c.in_ok-count.ensures.count.1
    (c.in_ok-count.ensures.end (ap Ok c.if-count-eq0.true)) c.turns.invariant.most).0

pub returns-then-count-eq0-clause-left : goal.returns-then-count-eq0-clause-left
returns-then-count-eq0-clause-left g c =
    (all_ended (g.N.Net.traffic c.args.net.now) (g.N.Net.traffic c.turns.net) (g.N.Net.traffic c.receive_some.new.net)
    c.turns.bytes.items c.receive_some.new.bytes.items c.in_ok-count.count c.args.most
    c.turns.invariant.told c.in_ok-count.ensures.received c.in_ok-count.ensures.count.1
    (c.in_ok-count.ensures.end (ap Ok c.if-count-eq0.true)) c.turns.invariant.most).1

pub returns-then-count-eq0-clause-part : goal.returns-then-count-eq0-clause-part
returns-then-count-eq0-clause-part g c =
    part_more (g.N.Net.traffic c.args.net.now) (g.N.Net.traffic c.turns.net) (g.N.Net.traffic c.receive_some.new.net)
    (come_part (g.N.Net.traffic c.args.net.now) (g.N.Net.traffic c.turns.net) c.turns.bytes.items c.turns.invariant.told) c.receive_some.ensures.part

pub turns-preserved : goal.turns-preserved
turns-preserved g c = record {
  told = come_more (g.N.Net.traffic c.args.net.now) (g.N.Net.traffic c.turns.net) (g.N.Net.traffic c.receive_some.new.net)
      c.turns.bytes.items c.receive_some.new.bytes.items c.in_ok-count.count
      c.turns.invariant.told c.in_ok-count.ensures.received c.in_ok-count.ensures.count.1;
  turns = omega (arith, c.in_ok-count.ensures.count);
  most = omega (arith, c.in_ok-count.ensures.count);
  lines = c.in_ok-count.ensures.counts.passed ∙ c.turns.invariant.lines;
  doors = c.receive_some.ensures.counts.other ∙ c.turns.invariant.doors;
}

pub returns-clause-received : goal.returns-clause-received
returns-clause-received g c =
    (all_come (g.N.Net.traffic c.args.net.now) (g.N.Net.traffic c.turns.net) c.turns.bytes.items c.args.most
    c.turns.invariant.told (omega arith)).0

pub returns-clause-left : goal.returns-clause-left
returns-clause-left g c =
    (all_come (g.N.Net.traffic c.args.net.now) (g.N.Net.traffic c.turns.net) c.turns.bytes.items c.args.most
    c.turns.invariant.told (omega arith)).1

pub returns-clause-part : goal.returns-clause-part
returns-clause-part g c =
    come_part (g.N.Net.traffic c.args.net.now) (g.N.Net.traffic c.turns.net) c.turns.bytes.items c.turns.invariant.told
