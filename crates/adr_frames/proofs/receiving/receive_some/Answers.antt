use Rattle.adr_frames.proofs.ReceivedLemmas.{part_none}
use Rattle.adr_frames.proofs.receiving.receive_some.Goals as goal

pub returns-in_err-count-clause-part : goal.returns-in_err-count-clause-part
returns-in_err-count-clause-part g c = part_none (g.N.Net.traffic c.args.net.now) (g.N.Net.traffic c.receive.new.self) c.in_err-count.ensures.unread
