use Rattle.std.proofs.Common.{length}
use Rattle.adr_file.proofs.Turns.{nothing_told, torn_same}
use Rattle.adr_file.proofs.system.SystemFolderFolder.write.Goals as goal

pub returns-in_err-opened-clause-changes : goal.returns-in_err-opened-clause-changes
returns-in_err-opened-clause-changes g c = nothing_told _ _ _ (λ left. (left, tt, torn_same c.args.at (length c.args.bytes.now) left))

pub returns-clause-changes : goal.returns-clause-changes
returns-clause-changes g c = nothing_told _ _ _ (λ left. (left, tt, torn_same c.args.at (length c.args.bytes.now) left))
