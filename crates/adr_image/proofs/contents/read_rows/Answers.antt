use Rattle.adr_image.specs.Whole.{objects_at, links_at}
use Rattle.adr_image.proofs.Steps.{then_ok}
use Rattle.adr_image.proofs.contents.read_rows.Goals as goal

pub returns : goal.returns
returns c =
    let o = c.in_ok-objects.ensures in
    let l = c.in_ok-links.ensures o.0 o.2 in (
      (o.0, l.0),
      then_ok (objects_at c.args.usn c.args.schema.now) (links_at c.args.usn c.args.schema.now) c.args.reader.now c.read_objects.new.reader c.read_links.new.reader o.0 l.0 o.1 l.1,
      l.2.rows,
    )
