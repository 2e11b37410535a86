use Rattle.std.proofs.Common.{inl, inr, ⊎_elim, refl}
use Rattle.adr_controller.proofs.controller.Controller.resume.Goals as goal

pub returns-in-Ok-clause-ok : goal.returns-in-Ok-clause-ok
returns-in-Ok-clause-ok g c =
    let found = c.in-Ok.ensures.ok in
    record { state = c.in-Ok.state; log = found.0; in_memory = refl; up = refl; at = found.1; told = found.2; within = c.in-Ok.ensures.within_found found.0 found.1 }

pub returns-in-Ok-clause-unwritten : goal.returns-in-Ok-clause-unwritten
returns-in-Ok-clause-unwritten g c = ⊎_elim (λ fault. absurd (cc fault)) (λ same. inr same) c.in-Ok.ensures.unwritten

pub returns-in-Err-clause-unwritten : goal.returns-in-Err-clause-unwritten
returns-in-Err-clause-unwritten g c = ⊎_elim (λ fault. inl (cc fault)) (λ same. inr same) c.in-Err.ensures.unwritten
