use Rattle.std.proofs.Common.{inl, inr, ⊎_elim}
use Rattle.adr_law_journal.proofs.Told.{is_some_of, some_is}
use Rattle.adr_journal.specs.declared.keeper.StartRefusal.TheVariants.{DiskFault}
use Rattle.adr_node.proofs.Started.{refused_unbegun}
use Rattle.adr_node.proofs.beginning.start.Goals as goal

pub returns-in-Ok-clause-begun : goal.returns-in-Ok-clause-begun
returns-in-Ok-clause-begun g c =
    let e = c.in-Ok.ensures in
    record { started = e.ok; unwritten = ⊎_elim (λ is. absurd (cc is)) (λ same. same) e.unwritten; told = e.told; later = e.later; any_moment = e.any_moment; left = e.left }

pub returns-in-Ok-clause-up : goal.returns-in-Ok-clause-up
returns-in-Ok-clause-up g c = let e = c.in-Ok.ensures in is_some_of c.in-Ok.controller.state e.ok.state e.ok.in_memory

pub returns-in-Err-clause-unbegun : goal.returns-in-Err-clause-unbegun
returns-in-Err-clause-unbegun g c =
    let e = c.in-Err.ensures in
    let t = c.tell_refusal in
    refused_unbegun g.K.Keeper g.S.Sink c.args.keeper c.in-Err.keeper c.args.sink.now t.new.sink t.result c.in-Err.refusal
    e.damaged e.fault e.still (⊎_elim (λ is. inl (some_is c.in-Err.refusal DiskFault is)) (λ same. inr same) e.unwritten) e.later e.told.1 e.any_moment e.left t.ensures.tells t.ensures.write t.ensures.write_ends t.ensures.never_falls
