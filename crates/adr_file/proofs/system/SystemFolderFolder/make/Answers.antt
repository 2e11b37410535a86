use Rattle.std.proofs.Common.{inl, refl}
use Rattle.adr_file.proofs.Turns.{nothing_told}
use Rattle.adr_file.proofs.system.SystemFolderFolder.make.Goals as goal

pub returns-in_err-file-clause-changes : goal.returns-in_err-file-clause-changes
returns-in_err-file-clause-changes g c = nothing_told _ _ _ (λ left. (left, tt, inl refl))

pub returns-clause-changes : goal.returns-clause-changes
returns-clause-changes g c = nothing_told _ _ _ (λ left. (left, tt, inl refl))
