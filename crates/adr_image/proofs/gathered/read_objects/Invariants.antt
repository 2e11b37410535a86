use Rattle.adr_image.specs.Image.{no_objects, with_rows, object_at}
use Rattle.adr_image.specs.Seen.{KeepsObjects}
use Rattle.adr_image.specs.Whole.{objects_at}
use Rattle.adr_image.proofs.Keeping.{IsAmid}
use Rattle.adr_image.proofs.gathered.read_objects.Given as goal

-- what is kept is what the objects so far say, and the others are left to read
abbrev pub invariant-loop : goal.invariant-loop
invariant-loop l =
    IsAmid with_rows (object_at l.usn l.schema) no_objects KeepsObjects l.count (objects_at l.usn l.schema l.fn.reader) l.counter l.objects l.reader
