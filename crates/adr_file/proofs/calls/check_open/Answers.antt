use Rattle.adr_file.proofs.Known.{given, own_kept}
use Rattle.adr_file.proofs.calls.check_open.Goals as goal

pub returns-clause-own : goal.returns-clause-own
returns-clause-own g c = given c.check_length.result _ (own_kept g.F.Folder c.check_name.new.folder c.check_length.new.folder c.check_length.ensures.keeps.content_stays c.check_length.ensures.stays c.in_ok-check_name.ensures.own)
