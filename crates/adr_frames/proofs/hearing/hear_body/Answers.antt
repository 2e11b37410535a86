use Rattle.std.proofs.Common.{arith}
use Rattle.adr_frames.proofs.Framing.{body_cut, body_whole}
use Rattle.adr_frames.proofs.hearing.hear_body.Goals as goal

pub returns-then-len-wanted-clause-heard : goal.returns-then-len-wanted-clause-heard
returns-then-len-wanted-clause-heard g c =
    body_cut (g.N.Net.traffic c.args.net.now) c.in_ok-bytes.bytes.items c.args.wanted c.in_ok-bytes.ensures.received
    (omega (arith, c.if-len-wanted.true, c.in_ok-bytes.bytes.ok.0))

pub returns-clause-heard : goal.returns-clause-heard
returns-clause-heard g c =
    body_whole (g.N.Net.traffic c.args.net.now) (g.N.Net.traffic c.receive_at_most.new.net) c.in_ok-bytes.bytes.items c.args.wanted
    c.in_ok-bytes.ensures.received c.in_ok-bytes.ensures.left (omega (arith, c.if-len-wanted.false, c.in_ok-bytes.bytes.ok.0))

pub returns-clause-exactly : goal.returns-clause-exactly
returns-clause-exactly g c = omega (arith, c.in_ok-bytes.ensures.at_most, c.if-len-wanted.false, c.in_ok-bytes.bytes.ok.0)
