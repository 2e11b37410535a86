use Rattle.adr_file.proofs.Behind.{turns_kept}
use Rattle.adr_file.proofs.held.Held.made.Goals as goal

pub returns-in-Err-clause-turns : goal.returns-in-Err-clause-turns
returns-in-Err-clause-turns g c = turns_kept g.F.Folder c.args.self.now.folder c.make_file.new.folder c.close.new.self _ c.make_file.ensures.turns c.close.ensures.keeps
