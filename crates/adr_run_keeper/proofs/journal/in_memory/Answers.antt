use Rattle.std.proofs.Common.{◌∙◌, ap}
use Rattle.adr_disk.specs.Memory.{DiskState}
use Rattle.adr_run_keeper.proofs.journal.in_memory.Goals as goal

pub returns-clause-running : goal.returns-clause-running
returns-clause-running g c = ap (λ (d : DiskState). d.stopped) c.new-2.ensures.disk ∙ c.new.ensures.running

pub returns-clause-plan : goal.returns-clause-plan
returns-clause-plan g c = ap (λ (d : DiskState). d.plan) c.new-2.ensures.disk ∙ c.new.ensures.plan
