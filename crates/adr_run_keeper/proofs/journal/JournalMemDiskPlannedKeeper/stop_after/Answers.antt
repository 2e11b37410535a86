use Rattle.std.proofs.Common.{rules}
use Rattle.adr_run_keeper.proofs.Plans.{held_keeps}
use Rattle.adr_run_keeper.proofs.journal.JournalMemDiskPlannedKeeper.stop_after.Goals as goal

pub returns-clause-keeps : goal.returns-clause-keeps
returns-clause-keeps g c = held_keeps g.F.Form.head g.F.Form.area g.F.Form.following (λ j. j.disk) c.args.self.now c.attend.new.self (search rules)
