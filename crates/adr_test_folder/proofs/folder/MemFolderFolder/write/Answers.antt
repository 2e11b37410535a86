use Rattle.std.proofs.Common.{◌≤◌, length, List, ℕ, Option, refl, sym, ap, subst}
use Rattle.std.proofs.lemmas.Result.{on_ok_weaker}
use Rattle.adr_file.specs.Device.{bytes_of, Behind, TornFile}
use Rattle.adr_test_folder.specs.Kept.{FolderState, IsLeft, file_of}
use Rattle.adr_test_folder.proofs.Moments.{ChangesFolder, passed_on, torn_leaves, not_torn, is_there, file_there, for_some, write_whole}
use Rattle.adr_test_folder.proofs.folder.MemFolderFolder.write.Goals as goal

pub write_now-requires : goal.write_now-requires
write_now-requires c =
    let k = c.args.self.now.kept in
    let there = is_there k (c.requires.own (file_of k) refl).0 in
    let within : c.args.at ≤ length k.bytes = subst (λ (f : Option (List ℕ)). c.args.at ≤ length (bytes_of f)) (file_there k there) (c.requires.within (file_of k) refl) in
    subst (λ (s : FolderState). c.args.at ≤ length s.kept.bytes) (sym c.tick.ensures) within

pub returns-clause-written : goal.returns-clause-written
returns-clause-written c =
    let k = c.args.self.now.kept in
    let there = is_there k (c.requires.own (file_of k) refl).0 in
    on_ok_weaker c.write_now.result
    (λ written. for_some (file_of k) _ (write_whole c.args.self.now c.tick.new.self c.write_now.new.self c.args.at c.args.bytes.now c.tick.ensures there (ap (λ (s : FolderState). s.kept) written)))
    c.write_now.ensures.written

pub returns-clause-changes : goal.returns-clause-changes
returns-clause-changes c =
    let old = c.tick.new.self in
    let n = length c.args.bytes.now in
    subst (λ (s : FolderState). ChangesFolder s c.write_now.new.self (Behind (TornFile c.args.at n) (IsLeft s.kept))) c.tick.ensures
    (passed_on c.write_now.result old c.write_now.new.self _ (Behind (TornFile c.args.at n) (IsLeft old.kept)) c.write_now.ensures.written c.write_now.ensures.same refl
    (torn_leaves old.kept c.args.at c.args.bytes.now) (not_torn c.args.at n (IsLeft old.kept)))
