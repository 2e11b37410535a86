use Rattle.std.proofs.Common.{List, ap, ◌∙◌}
use Rattle.adr_model.specs.Change.{Change, Written}
use Rattle.adr_model.specs.Store.{Mode}
use Rattle.adr_image.specs.Changes.{mode_of_flag}
use Rattle.adr_image.proofs.Changing.{body_read}
use Rattle.adr_image.proofs.changes.read_body.Goals as goal

pub returns : goal.returns
returns c =
    let w = c.in_ok-writes.ensures in (
      (c.in_ok-usn.usn, (c.in_ok-quarantined.quarantined, (c.in_ok-schema.schema.number, (c.in_ok-mark.mark, ((c.in_ok-joined.joined, c.in_ok-joined.times), (c.in_ok-purged.purged, (c.in_ok-removed.removed.items, w.0))))))),
      body_read c.args.version c.args.before c.args.schema.number c.args.reader.now c.read_usn0.new.self c.read_flag.new.self c.read_number.new.reader c.read_mark_if.new.reader c.read_timed.new.self c.read_vector.new.self c.read_removed.new.reader c.read_writes.new.reader
          c.in_ok-usn.usn c.in_ok-quarantined.quarantined c.in_ok-schema.schema.number c.in_ok-mark.mark (c.in_ok-joined.joined, c.in_ok-joined.times) c.in_ok-purged.purged c.in_ok-removed.removed.items w.0
          c.in_ok-usn.ensures c.in_ok-quarantined.ensures c.in_ok-schema.ensures c.in_ok-mark.ensures c.in_ok-joined.ensures c.in_ok-purged.ensures c.in_ok-removed.ensures w.1,
      c.new.ensures
          ∙ ap (λ (mode : Mode). let change : Change = record { usn = c.in_ok-usn.usn; mode = mode; schema = c.in_ok-schema.schema.number; mark = c.in_ok-mark.mark; joined = c.in_ok-joined.joined; times = c.in_ok-joined.times; purged = c.in_ok-purged.purged; removed = c.in_ok-removed.removed.items; writes = c.in_ok-writes.writes.items } in change) c.mode_of_flag-mode.ensures
          ∙ ap (λ (writes : List Written). let change : Change = record { usn = c.in_ok-usn.usn; mode = mode_of_flag c.in_ok-quarantined.quarantined; schema = c.in_ok-schema.schema.number; mark = c.in_ok-mark.mark; joined = c.in_ok-joined.joined; times = c.in_ok-joined.times; purged = c.in_ok-purged.purged; removed = c.in_ok-removed.removed.items; writes = writes } in change) w.2,
    )
