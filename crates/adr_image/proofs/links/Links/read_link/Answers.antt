use Rattle.adr_image.specs.Image.{link_behind, link_at}
use Rattle.adr_image.proofs.Looks.{told_too, link_ok_too}
use Rattle.adr_image.proofs.links.Links.read_link.Goals as goal

pub returns-then-is_ok : goal.returns-then-is_ok
returns-then-is_ok c =
    told_too c.read_link_strictly-read.result c.read_link_strictly-read.new.reader
    (link_behind c.args.schema.now c.args.usn c.args.self.now.dead.keys (record { last = c.args.self.now.last; used = c.args.self.now.used.keys }) c.args.reader.now)
    (link_at c.args.usn c.args.schema.now c.args.self.now.dead.keys (record { last = c.args.self.now.last; used = c.args.self.now.used.keys }) c.args.reader.now)
    (let v = c.is_ok.ensures.value in let t = c.if-is_ok.true in cc)
    (λ y h. link_ok_too c.args.usn c.args.schema.now c.args.self.now.dead.keys (record { last = c.args.self.now.last; used = c.args.self.now.used.keys }) c.args.reader.now y h)
    c.read_link_strictly-read.ensures
