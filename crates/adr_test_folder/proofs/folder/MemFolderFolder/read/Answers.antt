use Rattle.std.proofs.Common.{List, ℕ, Option, refl, ap, subst, ◌∙◌}
use Rattle.adr_disk.proofs.Told.{some_is}
use Rattle.adr_file.specs.Device.{bytes_of, ReadsAt}
use Rattle.adr_test_folder.specs.Kept.{FolderState, file_of}
use Rattle.adr_test_folder.proofs.Moments.{is_there, reads_at}
use Rattle.adr_test_folder.proofs.folder.MemFolderFolder.read.Goals as goal

pub returns-clause-read : goal.returns-clause-read
returns-clause-read c = λ sure there is.
    let k = c.args.self.now.kept in
    let some = is_there k (c.requires (file_of k) refl).0 in
    let same = ap (λ (s : FolderState). s.kept.bytes) (c.self.view_is ∙ c.tick.ensures) in
    subst (λ (f : Option (List ℕ)). ReadsAt (bytes_of f) c.args.at c.read.new.into c.read.result) (some_is (file_of k) there is)
    (reads_at k _ c.args.at c.args.into.now c.read.new.into c.read.result some same c.read.auto.into c.read.ensures.count c.read.ensures.read)
