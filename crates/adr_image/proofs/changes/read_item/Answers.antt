use Rattle.std.proofs.Common.{◌≡◌, Ok}
use Rattle.adr_wire.specs.Fields.{u8_at}
use Rattle.adr_image.proofs.Changing.{rows_seen, link_seen}
use Rattle.adr_image.proofs.changes.read_item.Goals as goal

pub returns-in-1 : goal.returns-in-1
returns-in-1 c =
    let kind : u8_at c.args.reader.now ≡ Ok (1, c.read_u8.new.self) = (let a = c.in_ok-read_u8.ensures in let b = c.in-1.is in cc) in
    rows_seen c.read_object_item.result c.args.reader.now c.read_u8.new.self c.read_object_item.new.reader kind c.read_object_item.ensures

pub returns-in-2 : goal.returns-in-2
returns-in-2 c =
    let kind : u8_at c.args.reader.now ≡ Ok (2, c.read_u8.new.self) = (let a = c.in_ok-read_u8.ensures in let b = c.in-2.is in cc) in
    link_seen c.read_link_item.result c.args.reader.now c.read_u8.new.self c.read_link_item.new.reader kind c.read_link_item.ensures
