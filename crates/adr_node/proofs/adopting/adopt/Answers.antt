use Rattle.adr_node.specs.Makes.{Adopts}
use Rattle.adr_node.proofs.Made.{makes_told}
use Rattle.adr_node.proofs.Telling.{reads_told}
use Rattle.adr_node.proofs.adopting.adopt.Goals as goal

pub returns-clause-makes : goal.returns-clause-makes
returns-clause-makes g c =
    let m = c.image_on-made in
    let t = c.tell.ensures in
    makes_told g.D.Disk g.K.Sink (Adopts c.args.given (g.S.Source.left c.args.source.now) (g.F.Fresh.identifiers c.args.fresh.now) (g.F.Fresh.identifiers m.new.fresh)) _ c.args.verb.now c.args.name.now
    c.args.disk m.result.1 c.args.sink.now c.tell.new.sink m.result.0 c.tell.result m.ensures.made t.tells t.disk_fault t.faulty

pub returns-clause-read_whole : goal.returns-clause-read_whole
returns-clause-read_whole g c =
    let m = c.image_on-made in
    let t = c.tell.ensures in
    reads_told g.K.Sink c.args.verb.now c.args.name.now m.ensures.made.state c.args.sink.now c.tell.new.sink (g.S.Source.left c.args.source.now) (g.S.Source.left m.new.source)
    m.result.0 c.tell.result (t.tells m.ensures.made.state) t.disk_fault t.fresh_fault m.ensures.reads
