use Rattle.adr_wire.proofs.VectorLaws.{vector_read}
use Rattle.adr_wire.proofs.reader.Reader.read_vector.Goals as goal

pub of-requires : goal.of-requires
of-requires c = vector_read c.in_ok-count.count c.read_u32.new.self c.read_cursors.new.self c.in_ok-cursors.cursors.items c.if-count-gt-CURSOR_LIMIT.false c.in_ok-cursors.ensures
