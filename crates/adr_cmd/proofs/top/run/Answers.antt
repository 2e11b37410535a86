-- Where memory was wanting while the words were read, nothing was done.
use Rattle.std.specs.Prelude.{map, string_bytes}
use Rattle.adr_words.specs.Commands.{command_of}
use Rattle.adr_cmd.proofs.ObeyLemmas.{nothing_obeyed}
use Rattle.adr_cmd.proofs.top.run.Goals as goal

pub returns-in-Err-clause-obeys : goal.returns-in-Err-clause-obeys
returns-in-Err-clause-obeys g c =
    nothing_obeyed g.S.Source g.K.Sink g.D.Disk g.N.Net g.C.Clock g.F.Fresh g.met.D.Disk.only_now (command_of (map string_bytes c.args.words.now))
    (record { source = c.args.source.now; sink = c.args.sink.now; disk = c.args.disk; net = c.args.net.now; clock = c.args.clock.now; fresh = c.args.fresh.now })
