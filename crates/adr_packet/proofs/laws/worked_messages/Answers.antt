use Rattle.std.proofs.Common.{refl}
use Rattle.adr_wire.specs.Fields.{id_at, u16_at, u32_at, u64_at, usn0_at, u16, u32, u64}
use Rattle.adr_wire.specs.Composites.{mark_at, vector_at, cursors_at}
use Rattle.adr_wire.specs.Headed.{head_at}
use Rattle.adr_packet.specs.Parts.{parties_at}
use Rattle.adr_packet.specs.Requests.{tuple_at, request_at}
use Rattle.adr_packet.proofs.laws.worked_messages.Goals as goal

pub returns-clause-request : goal.returns-clause-request
unfolding u16 u32 u64
returns-clause-request c = refl

pub returns-clause-read : goal.returns-clause-read
unfolding head_at request_at tuple_at parties_at mark_at vector_at cursors_at id_at usn0_at u16_at u32_at u64_at
returns-clause-read c = refl

pub returns-clause-cut : goal.returns-clause-cut
unfolding head_at request_at tuple_at parties_at mark_at vector_at cursors_at id_at usn0_at u16_at u32_at u64_at
returns-clause-cut c = refl

pub returns-clause-more : goal.returns-clause-more
unfolding head_at request_at tuple_at parties_at mark_at vector_at cursors_at id_at usn0_at u16_at u32_at u64_at
returns-clause-more c = refl

pub returns-clause-two : goal.returns-clause-two
unfolding head_at request_at tuple_at parties_at mark_at vector_at cursors_at id_at usn0_at u16_at u32_at u64_at
returns-clause-two c = refl

pub returns-clause-version : goal.returns-clause-version
unfolding head_at u16_at
returns-clause-version c = refl

pub returns-clause-refusal : goal.returns-clause-refusal
unfolding u16 u32 u64
returns-clause-refusal c = refl
