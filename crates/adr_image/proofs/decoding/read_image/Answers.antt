use Rattle.std.proofs.Common.{Ok, ap, sym, ◌∙◌}
use Rattle.adr_wire.specs.Reading.{Read}
use Rattle.adr_model.specs.Store.{Store}
use Rattle.adr_image.proofs.Placed.{image_placed}
use Rattle.adr_image.proofs.decoding.read_image.Goals as goal

pub returns : goal.returns
returns c =
    let p = c.in_ok-contents.ensures in
    image_placed c.args.version c.args.reader.now c.read_magic.new.self c.read_format_version.new.self c.read_contents.new.reader c.in_ok-read_magic.field-0 c.in_ok-read_format_version.field-0 p.0 c.in_ok-read_magic.ensures c.in_ok-read_format_version.ensures p.1
    ∙ ap (λ (s : Store). let r : Read Store = Ok (s, c.read_contents.new.reader) in r) (sym p.2)
