use Rattle.adr_image.proofs.Looks.{ok_too}
use Rattle.adr_image.proofs.objects.read_object.Goals as goal

pub returns-in-Ok : goal.returns-in-Ok
returns-in-Ok c =
    ok_too c.args.usn c.args.schema.now (record { last = c.args.last.now; used = c.args.used.now.keys }) c.args.reader.now c.requires
    ((c.in-Ok.object.0, c.in-Ok.object.1.items), c.read_object_with.new.reader) c.in-Ok.ensures
