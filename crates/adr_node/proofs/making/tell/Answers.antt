use Rattle.std.proofs.Common.{[], inl, inr, refl, sym, ap, subst, Option}
use Rattle.adr_model.specs.Store.{empty_state}
use Rattle.adr_node.specs.Makes.{TellsVerdict, Verdict, verdict_of}
use Rattle.adr_node.proofs.making.tell.Goals as goal

pub returns-in-Ok-clause-tells : goal.returns-in-Ok-clause-tells
returns-in-Ok-clause-tells g c = λ s.
    subst (λ (v : Option Verdict). TellsVerdict g.K.Sink c.args.verb.now c.args.name.now v c.args.sink.now c.tell_verdict.new.sink c.tell_verdict.result)
    (sym (ap (verdict_of s) c.in-Ok.is)) (c.tell_verdict.ensures.done refl s)

pub returns-in-Ok-clause-disk_fault : goal.returns-in-Ok-clause-disk_fault
returns-in-Ok-clause-disk_fault g c = λ is. absurd ((c.tell_verdict.ensures.done refl (empty_state [] [])).3 (inr (inr is)))

pub returns-in-Ok-clause-read_fault : goal.returns-in-Ok-clause-read_fault
returns-in-Ok-clause-read_fault g c = λ is. absurd ((c.tell_verdict.ensures.done refl (empty_state [] [])).3 (inl is))

pub returns-in-Ok-clause-fresh_fault : goal.returns-in-Ok-clause-fresh_fault
returns-in-Ok-clause-fresh_fault g c = λ is. absurd ((c.tell_verdict.ensures.done refl (empty_state [] [])).3 (inr (inl is)))
