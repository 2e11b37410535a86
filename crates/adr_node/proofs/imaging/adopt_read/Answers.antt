use Rattle.std.proofs.Common.{◌≡◌, ◌⊎◌, ⊎_elim}
use Rattle.std.proofs.lemmas.Result.{err_from_is_err_and}
use Rattle.adr_call.specs.declared.refusal.AdoptRefusal.{AdoptRefusal}
use Rattle.adr_node.specs.declared.ended.Refusal.TheVariants.{NotEmpty, Adoption}
use Rattle.adr_node.specs.declared.making.Unmade.{Unmade}
use Rattle.adr_node.specs.declared.making.Unmade.TheVariants as unmade
use Rattle.adr_node.proofs.Reading.{is_not, whole_as}
use Rattle.adr_node.proofs.imaging.adopt_read.Goals as goal

pub returns-in_err-image-clause-reads : goal.returns-in_err-image-clause-reads
returns-in_err-image-clause-reads g c =
    let p = err_from_is_err_and c.from_residual.result c.from_residual.ensures.1 in
    rw (p.1, p.2) c.in_err-image.ensures.reads

pub returns-clause-reads : goal.returns-clause-reads
returns-clause-reads g c =
    let P : Unmade → Type 0 = λ e. ((why : AdoptRefusal) × (e ≡ unmade.Refused (Adoption why))) ⊎ ((e ≡ unmade.FreshFault) ⊎ (e ≡ unmade.NoMemory)) in
    whole_as (g.S.Source.left c.args.source.now) (g.S.Source.left c.read_image.new.source) c.in_ok-image.ensures.reads c.adopt_drawn.result
    (is_not c.adopt_drawn.result P c.adopt_drawn.ensures.why (unmade.Refused NotEmpty)
    (λ h. ⊎_elim (λ adopts. cc adopts.1) (λ rest. ⊎_elim (λ fault. cc fault) (λ wants. cc wants) rest) h))
