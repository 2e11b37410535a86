use Rattle.adr_file.proofs.Known.{known_kept}
use Rattle.adr_file.proofs.held.Held.count.Goals as goal

pub length_of-requires : goal.length_of-requires
length_of-requires g c = c.requires.own c.if-self.true

pub returns-then-self-clause-known : goal.returns-then-self-clause-known
returns-then-self-clause-known g c = known_kept g.F.Folder c.args.self.now.folder c.length_of.new.folder _ _ _ c.length_of.ensures.keeps c.length_of.ensures.stays c.requires
