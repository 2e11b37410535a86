use Rattle.std.proofs.Common.{List, sym, ap, ◌∙◌}
use Rattle.adr_values.specs.Table.{Table}
use Rattle.adr_model.specs.Store.{Held, Store}
use Rattle.adr_image.specs.Whole.{parts_of}
use Rattle.adr_image.proofs.WholeLaws.{tail_at}
use Rattle.adr_image.proofs.Steps.{all_read, usn_fits}
use Rattle.adr_image.proofs.contents.read_contents.Goals as goal

pub read_rows-requires : goal.read_rows-requires
read_rows-requires c = usn_fits c.read_schema.new.reader c.in_ok-usn.usn c.read_usn0.new.self c.in_ok-usn.ensures

pub returns : goal.returns
returns c =
    let w = c.in_ok-rows.ensures in
    let tail = ap (λ (t : Table). tail_at c.in_ok-usn.usn t c.read_marks.new.reader) (sym c.in_ok-schema.ensures.table) ∙ w.1 in (
      parts_of (c.in_ok-schema.schema.number, (c.in_ok-usn.usn, ((c.in_ok-vector.vector, c.in_ok-vector.times), (c.in_ok-purged.purged, (c.in_ok-marks.marks.items, w.0))))),
      all_read c.args.version c.args.reader.now c.read_schema.new.reader c.read_usn0.new.self c.read_timed.new.self c.read_purged.new.reader c.read_marks.new.reader c.read_rows.new.reader
          c.in_ok-schema.schema.number c.in_ok-usn.usn (c.in_ok-vector.vector, c.in_ok-vector.times) c.in_ok-purged.purged c.in_ok-marks.marks.items w.0
          c.in_ok-schema.ensures.number c.in_ok-usn.ensures c.in_ok-vector.ensures c.in_ok-purged.ensures c.in_ok-marks.ensures tail,
      ap (λ (rows : List Held). let s : Store = record { schema = c.in_ok-schema.schema.number; usn = c.in_ok-usn.usn; rows = rows; vector = c.in_ok-vector.vector; times = c.in_ok-vector.times; purged = c.in_ok-purged.purged; marks = c.in_ok-marks.marks.items } in s) w.2,
    )
