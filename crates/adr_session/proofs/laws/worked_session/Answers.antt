use Rattle.std.proofs.Common.{refl}
use Rattle.adr_wire.specs.Fields.{u32_at}
use Rattle.adr_frames.specs.Frames.{frame_at}
use Rattle.adr_session.proofs.laws.worked_session.Goals as goal

pub returns : goal.returns
unfolding frame_at u32_at
returns c = λ f. record { greets = refl; estranged = refl }
