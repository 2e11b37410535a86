use Rattle.std.proofs.Common.{arith}
use Rattle.adr_image.proofs.Placed.{read_is_formed}
use Rattle.adr_image.proofs.decoding.decode.Goals as goal

pub of-requires-clause-formed : goal.of-requires-clause-formed
of-requires-clause-formed c = (read_is_formed c.args.bytes.now c.in-Ok.contents (λ i. omega (arith, c.type_inv.bytes i)) c.in-Ok.ensures.read).0

pub of-requires-clause-spelled : goal.of-requires-clause-spelled
of-requires-clause-spelled c = (read_is_formed c.args.bytes.now c.in-Ok.contents (λ i. omega (arith, c.type_inv.bytes i)) c.in-Ok.ensures.read).1
