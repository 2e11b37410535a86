use Rattle.std.proofs.Common.{length}
use Rattle.adr_file.specs.Device.{AsBytes}
use Rattle.adr_file.proofs.Known.{known_kept, own_kept}
use Rattle.adr_file.proofs.Turns.{kept, torn_none}
use Rattle.adr_file.proofs.Behind.{turns_written}
use Rattle.adr_file.proofs.held.Held.write_on.Goals as goal

pub returns-in_err-check_length-clause-known : goal.returns-in_err-check_length-clause-known
returns-in_err-check_length-clause-known g c = known_kept g.F.Folder c.args.self.now.folder c.check_length.new.folder _ _ _ c.check_length.ensures.keeps c.check_length.ensures.stays c.requires.known

pub returns-in_err-check_length-clause-turns : goal.returns-in_err-check_length-clause-turns
returns-in_err-check_length-clause-turns g c =
    kept g.F.Folder c.args.self.now.folder c.check_length.new.folder _ (torn_none c.args.at (length c.args.bytes.now) (AsBytes (g.F.Folder.may_leave c.args.self.now.folder))) c.check_length.ensures.keeps

pub write-requires-clause-own : goal.write-requires-clause-own
write-requires-clause-own g c = own_kept g.F.Folder c.args.self.now.folder c.check_length.new.folder c.check_length.ensures.keeps.content_stays c.check_length.ensures.stays (c.requires.known.own c.requires.is_open)

pub returns-in_err-write-clause-turns : goal.returns-in_err-write-clause-turns
returns-in_err-write-clause-turns g c =
    turns_written g.F.Folder c.args.self.now.folder c.check_length.new.folder c.write.new.folder c.args.at (length c.args.bytes.now)
    (kept g.F.Folder c.args.self.now.folder c.check_length.new.folder (AsBytes (g.F.Folder.may_leave c.args.self.now.folder)) (λ b left. left) c.check_length.ensures.keeps) c.write.ensures.turns

pub returns-clause-turns : goal.returns-clause-turns
returns-clause-turns g c =
    turns_written g.F.Folder c.args.self.now.folder c.check_length.new.folder c.write.new.folder c.args.at (length c.args.bytes.now)
    (kept g.F.Folder c.args.self.now.folder c.check_length.new.folder (AsBytes (g.F.Folder.may_leave c.args.self.now.folder)) (λ b left. left) c.check_length.ensures.keeps) c.write.ensures.turns
