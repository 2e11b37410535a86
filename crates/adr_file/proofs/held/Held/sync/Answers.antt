use Rattle.adr_file.proofs.Behind.{turns_kept}
use Rattle.adr_file.proofs.held.Held.sync.Goals as goal

pub returns-in-Err-clause-turns : goal.returns-in-Err-clause-turns
returns-in-Err-clause-turns g c = turns_kept g.F.Folder c.args.self.now.folder c.sync_whole.new.self.folder c.let_go.new.self.folder _ c.sync_whole.ensures.turns c.let_go.ensures.keeps
