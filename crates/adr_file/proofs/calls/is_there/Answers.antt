use Rattle.adr_file.proofs.Known.{found_none}
use Rattle.adr_file.proofs.calls.is_there.Goals as goal

pub returns-in-None-clause-none : goal.returns-in-None-clause-none
returns-in-None-clause-none g c = λ no there is. found_none (g.F.Folder.named c.args.folder.now) there c.in_ok-found.field-0 c.in-None.is (c.in_ok-found.ensures.found there is)
