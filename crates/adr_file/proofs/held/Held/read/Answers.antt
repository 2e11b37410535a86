use Rattle.adr_file.proofs.Known.{known_kept}
use Rattle.adr_file.proofs.held.Held.read.Goals as goal

pub fill-requires-clause-own : goal.fill-requires-clause-own
fill-requires-clause-own g c = c.requires.own c.if-self.true

pub returns-then-self-clause-known : goal.returns-then-self-clause-known
returns-then-self-clause-known g c = known_kept g.F.Folder c.args.self.now.folder c.fill.new.folder _ _ _ c.fill.ensures.keeps c.fill.ensures.stays c.requires
