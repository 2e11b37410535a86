use Rattle.std.proofs.Common.{length}
use Rattle.adr_file.proofs.Known.{own_torn, named_behind}
use Rattle.adr_file.proofs.Turns.{changed, torn_gives}
use Rattle.adr_file.proofs.calls.write.Goals as goal

pub returns-clause-still : goal.returns-clause-still
returns-clause-still g c = own_torn g.F.Folder c.args.folder.now c.write.new.self c.args.at (length c.args.bytes.now) c.write.ensures.changes.told.0 c.write.ensures.torn c.write.ensures.stays c.requires.own

pub returns-clause-named : goal.returns-clause-named
returns-clause-named g c = named_behind g.F.Folder c.args.folder.now c.write.new.self c.args.at (length c.args.bytes.now) c.write.ensures.changes.told.0 c.write.ensures.torn c.write.ensures.changes.crash

pub returns-clause-turns : goal.returns-clause-turns
returns-clause-turns g c = changed g.F.Folder c.args.folder.now c.write.new.self _ _ (torn_gives c.args.at (length c.args.bytes.now) (g.F.Folder.may_leave c.args.folder.now)) c.write.ensures.changes
