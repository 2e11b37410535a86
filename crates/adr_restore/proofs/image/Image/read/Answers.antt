use Rattle.std.proofs.Common.{subst}
use Rattle.adr_image.specs.Stored.{decoded}
use Rattle.adr_wire.specs.Headed.{IsRefusedSo}
use Rattle.adr_restore.proofs.Reading.{never_refused, one_store}
use Rattle.adr_restore.proofs.image.Image.read.Goals as goal

pub unreachable-requires : goal.unreachable-requires
unreachable-requires c =
    never_refused c.bytes.result.now c.args.self.now c.bytes.ensures.spelling c.bytes.ensures.formed c.bytes.ensures.spelled c.in-Err-Refused.field-0-0
    (subst (IsRefusedSo (decoded c.bytes.result.now)) c.in-Err-Refused.field-0-is c.in-Err-Refused.ensures.refused)

pub returns-in-Ok : goal.returns-in-Ok
returns-in-Ok c =
    one_store c.bytes.result.now c.args.self.now c.bytes.ensures.spelling c.bytes.ensures.formed c.bytes.ensures.spelled c.in-Ok.dormant c.in-Ok.ensures.read
