use Rattle.std.proofs.Common.{◌≤◌, length, List, ℕ}
use Rattle.std.proofs.lemmas.Result.{on_ok_weaker}
use Rattle.adr_file.specs.Device.{AsBytes}
use Rattle.adr_file.proofs.Turns.{torn_none}
use Rattle.adr_file.proofs.Behind.{for_same, turns_more, turns_written, written_behind}
use Rattle.adr_file.proofs.held.Held.write.Goals as goal

pub returns-in_err-made-clause-turns : goal.returns-in_err-made-clause-turns
returns-in_err-made-clause-turns g c =
    turns_more g.F.Folder c.args.self.now.folder c.made.new.self.folder _ _ c.made.ensures.turns (torn_none c.args.at (length c.args.bytes.now) (AsBytes (g.F.Folder.may_leave c.args.self.now.folder)))

pub write_on-requires-clause-within : goal.write_on-requires-clause-within
write_on-requires-clause-within g c =
    for_same g.F.Folder c.args.self.now.folder c.made.new.self.folder (λ (b : List ℕ). c.args.at ≤ length b) c.made.ensures.turns.told.0 c.made.ensures.same c.requires.within

pub returns-clause-written : goal.returns-clause-written
returns-clause-written g c = on_ok_weaker c.write_on.result
    (written_behind g.F.Folder c.args.self.now.folder c.made.new.self.folder c.write_on.new.self.folder c.args.at c.args.bytes.now c.made.ensures.turns.told.1 c.made.ensures.same) c.write_on.ensures.written

pub returns-clause-turns : goal.returns-clause-turns
returns-clause-turns g c = turns_written g.F.Folder c.args.self.now.folder c.made.new.self.folder c.write_on.new.self.folder c.args.at (length c.args.bytes.now) c.made.ensures.turns c.write_on.ensures.turns
