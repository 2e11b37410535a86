use Rattle.std.proofs.Common.{subst}
use Rattle.adr_wire.specs.Reading.{Rest, Tells}
use Rattle.adr_records.specs.Head.{sized_at}
use Rattle.adr_records.proofs.Heads.{sized_told}
use Rattle.adr_records.proofs.head.read_sized_of.Goals as goal

pub returns-clause-sized : goal.returns-clause-sized
returns-clause-sized c =
    (sized_told c.args.bytes.now c.args.place (λ i. (c.type_inv.bytes i).fits) c.read_sized.result c.read_sized.new.reader c.requires
    (subst (λ (r : Rest). Tells c.read_sized.result c.read_sized.new.reader (sized_at r)) c.at-reader.ensures c.read_sized.ensures)).0

pub returns-clause-long : goal.returns-clause-long
returns-clause-long c =
    (sized_told c.args.bytes.now c.args.place (λ i. (c.type_inv.bytes i).fits) c.read_sized.result c.read_sized.new.reader c.requires
    (subst (λ (r : Rest). Tells c.read_sized.result c.read_sized.new.reader (sized_at r)) c.at-reader.ensures c.read_sized.ensures)).1
