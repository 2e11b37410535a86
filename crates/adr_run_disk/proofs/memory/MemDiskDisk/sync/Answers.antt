use Rattle.adr_disk.specs.Disk.{ended}
use Rattle.adr_disk.proofs.Outcomes.{synced, sync_durable, sync_crash, sync_time}
use Rattle.adr_run_disk.proofs.memory.MemDiskDisk.sync.Goals as goal

pub returns-clause-durable : goal.returns-clause-durable
returns-clause-durable c = sync_durable c.args.self.now c.sync_all.new.self c.sync_all.result c.sync_all.ensures.does

pub returns-clause-crash : goal.returns-clause-crash
returns-clause-crash c = sync_crash c.args.self.now.held c.sync_all.new.self.held (synced c.args.self.now c.sync_all.new.self (ended c.sync_all.result) c.sync_all.ensures.does)

pub returns-clause-time : goal.returns-clause-time
returns-clause-time c = sync_time c.args.self.now.held c.sync_all.new.self.held (synced c.args.self.now c.sync_all.new.self (ended c.sync_all.result) c.sync_all.ensures.does)
