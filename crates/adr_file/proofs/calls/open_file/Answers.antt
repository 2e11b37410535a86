use Rattle.adr_file.proofs.Known.{own_kept}
use Rattle.adr_file.proofs.calls.open_file.Goals as goal

pub returns-clause-own : goal.returns-clause-own
returns-clause-own g c = λ some. own_kept g.F.Folder c.open_there.new.folder c.length_of.new.folder c.length_of.ensures.keeps.content_stays c.length_of.ensures.stays c.in_ok-open_there.ensures.own
