use Rattle.std.proofs.Common.{◌≡◌, false, refl, sym, ap, subst, ◌∙◌}
use Rattle.adr_file.specs.Device.{Behind, Made}
use Rattle.adr_test_folder.specs.Kept.{FolderState, IsLeft}
use Rattle.adr_test_folder.proofs.Moments.{ChangesFolder, passed_on, made_leaves, not_made}
use Rattle.adr_test_folder.proofs.folder.MemFolderFolder.make.Goals as goal

pub returns-clause-changes : goal.returns-clause-changes
returns-clause-changes c =
    let old = c.tick.new.self in
    let none : old.kept.is_there ≡ false = sym (ap (λ (s : FolderState). s.kept.is_there) c.self.view_is) ∙ sym c.is_there.ensures ∙ c.if-is_there.false in
    subst (λ (s : FolderState). ChangesFolder s c.make_now.new.self (Behind Made (IsLeft s.kept))) c.tick.ensures
    (passed_on c.make_now.result old c.make_now.new.self _ (Behind Made (IsLeft old.kept)) c.make_now.ensures.made c.make_now.ensures.same refl (made_leaves old.kept none) (not_made (IsLeft old.kept)))
