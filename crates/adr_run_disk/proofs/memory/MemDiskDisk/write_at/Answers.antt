use Rattle.adr_disk.specs.Disk.{ended}
use Rattle.adr_disk.proofs.Outcomes.{wrote, write_written, write_crash, write_time}
use Rattle.adr_run_disk.proofs.memory.MemDiskDisk.write_at.Goals as goal

pub returns-clause-written : goal.returns-clause-written
returns-clause-written c = write_written c.args.at c.args.bytes.now c.args.self.now c.write.new.self c.write.result c.write.ensures.does

pub returns-clause-crash : goal.returns-clause-crash
returns-clause-crash c = write_crash _ c.args.self.now.held c.write.new.self.held (wrote c.args.at c.args.bytes.now c.args.self.now c.write.new.self (ended c.write.result) c.write.ensures.does)

pub returns-clause-time : goal.returns-clause-time
returns-clause-time c = write_time _ c.args.self.now.held c.write.new.self.held (wrote c.args.at c.args.bytes.now c.args.self.now c.write.new.self (ended c.write.result) c.write.ensures.does)
