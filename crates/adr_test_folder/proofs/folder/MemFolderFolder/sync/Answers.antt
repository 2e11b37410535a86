use Rattle.std.proofs.Common.{refl, subst}
use Rattle.adr_test_folder.specs.Kept.{FolderState, IsLeft}
use Rattle.adr_test_folder.proofs.Moments.{ChangesFolder, passed_on, synced_leaves}
use Rattle.adr_test_folder.proofs.folder.MemFolderFolder.sync.Goals as goal

pub returns-clause-changes : goal.returns-clause-changes
returns-clause-changes c =
    let old = c.tick.new.self in
    subst (λ (s : FolderState). ChangesFolder s c.sync_now.new.self (IsLeft s.kept)) c.tick.ensures
    (passed_on c.sync_now.result old c.sync_now.new.self _ (IsLeft old.kept) c.sync_now.ensures.synced c.sync_now.ensures.same refl (synced_leaves old.kept) (λ left out. out))
