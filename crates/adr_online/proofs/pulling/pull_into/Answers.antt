use Rattle.adr_online.specs.Pulls.{Hands}
use Rattle.adr_online.proofs.Started.{Counted, started_pulls}
use Rattle.adr_online.proofs.pulling.pull_into.Goals as goal

pub returns : goal.returns
returns g c = λ keeper begun.
    let k = g.K.Keeper in
    let n = g.N.Net in
    let s = g.S.Sink in
    let name = c.args.name.now in
    let up = c.pull_up-ended in
    let u = up.ensures in
    let law = g.met.K.Keeper in
    let old : Hands g.row.K.Denot g.row.N.Denot g.row.S.Denot = record { disk = keeper; net = c.args.net.now; sink = c.args.sink.now } in
    let new : Hands g.row.K.Denot g.row.N.Denot g.row.S.Denot = record { disk = c.into_keeper.result; net = up.new.net; sink = up.new.sink } in
    let first = c.args.controller in
    let last = up.new.controller in
    let counted : Counted k n s name law.tells law.leaves old new first last up.result begun c.into_keeper.ensures u.in_order = record {
      told = u.told;
      write = u.write;
      disk = u.disk;
      link = u.link;
      sink_later = u.sink_never_falls;
      disk_later = u.disk_never_falls;
      doors_later = u.doors_never_fall;
      lines_later = u.lines_never_fall;
      doors_only = u.doors_only;
      lines_only = u.lines_only;
    } in
    started_pulls k n s name law.tells law.leaves old new first last up.result begun c.into_keeper.ensures u.in_order u.pulls u.any_moment counted
