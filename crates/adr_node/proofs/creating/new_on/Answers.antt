use Rattle.std.proofs.Common.{◌≡◌, ⊎_elim, inl, inr, refl, ap, Err}
use Rattle.adr_node.specs.Makes.{IsNew}
use Rattle.adr_node.specs.declared.making.Unmade.TheVariants as unmade
use Rattle.adr_node.proofs.Made.{found_full, made_on, unmade_on}
use Rattle.adr_node.proofs.creating.new_on.Goals as goal

pub returns-in-Err-clause-made : goal.returns-in-Err-clause-made
returns-in-Err-clause-made g c =
    let ids = g.F.Fresh.identifiers c.args.fresh.now in
    let e = c.in-Err.ensures in
    unmade_on g.D.Disk g.met.D.Disk.only_now (IsNew ids ids) _ c.args.disk c.find_empty.new.disk e.keeps e.later c.in-Err.unmade
    (λ why is. found_full g.D.Disk (IsNew ids ids) c.args.disk c.in-Err.unmade why is e.refused (λ full. e.not_empty (ap Err full))) (inr refl) (λ is. e.fault (ap Err is))

pub returns-in-Ok-new_state-clause-made : goal.returns-in-Ok-new_state-clause-made
returns-in-Ok-new_state-clause-made g c =
    let e = c.in-Ok.ensures in
    made_on g.D.Disk g.met.D.Disk.only_now (IsNew (g.F.Fresh.identifiers c.args.fresh.now) (g.F.Fresh.identifiers c.new_state.new.fresh)) _ c.args.disk c.find_empty.new.disk e.keeps e.later
    c.format_empty.result.1 c.in-Ok-new_state.state e.empty c.in-Ok-new_state.ensures.new c.format_empty.ensures.begins c.format_empty.result.0 c.format_empty.ensures.ends

pub returns-in-Err-new_state-clause-made : goal.returns-in-Err-new_state-clause-made
returns-in-Err-new_state-clause-made g c =
    let e = c.in-Ok.ensures in
    let e2 = c.in-Err-new_state.unmade in
    unmade_on g.D.Disk g.met.D.Disk.only_now (IsNew (g.F.Fresh.identifiers c.args.fresh.now) (g.F.Fresh.identifiers c.new_state.new.fresh)) _ c.args.disk c.find_empty.new.disk e.keeps e.later e2
    (λ why is. absurd (⊎_elim (λ (f : e2 ≡ unmade.FreshFault). let no : ⊥ = cc (f, is) in no) (λ (m : e2 ≡ unmade.NoMemory). cc (m, is)) c.in-Err-new_state.ensures.why))
    (inl (e.empty, λ is. ⊎_elim (λ (f : e2 ≡ unmade.FreshFault). let no : ⊥ = cc (f, is) in no) (λ (m : e2 ≡ unmade.NoMemory). cc (m, is)) c.in-Err-new_state.ensures.why))
    (λ is. absurd (⊎_elim (λ (f : e2 ≡ unmade.FreshFault). let no : ⊥ = cc (f, is) in no) (λ (m : e2 ≡ unmade.NoMemory). cc (m, is)) c.in-Err-new_state.ensures.why))
