use Rattle.adr_journal.proofs.Found.{kept_again}
use Rattle.adr_gather.proofs.restarting.read_all.Goals as goal

pub returns-in_err-len-clause-keeps : goal.returns-in_err-len-clause-keeps
returns-in_err-len-clause-keeps g c = c.len.ensures.keeps

pub returns-in_default-clause-keeps : goal.returns-in_default-clause-keeps
returns-in_default-clause-keeps g c = c.len.ensures.keeps

pub returns-in_err-count-clause-keeps : goal.returns-in_err-count-clause-keeps
returns-in_err-count-clause-keeps g c = kept_again g.D.Disk c.args.disk.now c.len.new.self c.read.new.self c.len.ensures.keeps c.read.ensures.keeps

pub returns-clause-keeps : goal.returns-clause-keeps
returns-clause-keeps g c = kept_again g.D.Disk c.args.disk.now c.len.new.self c.read.new.self c.len.ensures.keeps c.read.ensures.keeps
