use Rattle.adr_file.proofs.Known.{found_none}
use Rattle.adr_file.proofs.calls.check_free.Goals as goal

pub returns-in-None-clause-free : goal.returns-in-None-clause-free
returns-in-None-clause-free g c = λ there is. found_none (g.F.Folder.named c.args.folder.now) there c.in_ok-look.field-0 c.in-None.is (c.in_ok-look.ensures.found there is)
