use Rattle.std.proofs.Common.{ap, ◌∙◌}
use Rattle.adr_model.specs.Change.{Item, Written}
use Rattle.adr_image.proofs.Changing.{write_read}
use Rattle.adr_image.proofs.changes.read_write.Goals as goal

pub returns : goal.returns
returns c =
    let p = c.in_ok-item.ensures in (
      (c.in_ok-local.local, p.0),
      write_read c.args.reader.now c.read_local_above.new.reader c.read_item.new.reader c.args.last c.in_ok-local.local p.0 c.in_ok-local.ensures p.1,
      c.new.ensures ∙ ap (λ (item : Item). let written : Written = record { local = c.in_ok-local.local; item = item } in written) p.2,
    )
