use Rattle.adr_file.proofs.Known.{given, own_kept}
use Rattle.adr_file.proofs.calls.open_there.Goals as goal

pub returns-clause-own : goal.returns-clause-own
returns-clause-own g c = given c.forget.result _ (own_kept g.F.Folder c.lock.new.folder c.forget.new.self c.forget.ensures.keeps.content_stays c.forget.ensures.stays c.in_ok-lock.ensures.own)
