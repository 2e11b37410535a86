use Rattle.std.proofs.Common.{◌≡◌, ◌⊎◌, ⊎_elim}
use Rattle.std.proofs.lemmas.Result.{err_from_is_err_and}
use Rattle.adr_wire.specs.declared.refusal.DecodeRefusal.{DecodeRefusal}
use Rattle.adr_node.specs.declared.ended.Refusal.TheVariants.{NotEmpty, Image}
use Rattle.adr_node.specs.declared.making.Unmade.{Unmade}
use Rattle.adr_node.specs.declared.making.Unmade.TheVariants as unmade
use Rattle.adr_node.proofs.Reading.{cut_short, is_not, whole_as}
use Rattle.adr_node.proofs.imaging.read_image.Goals as goal

pub returns-in_err-bytes-clause-reads : goal.returns-in_err-bytes-clause-reads
returns-in_err-bytes-clause-reads g c =
    let p = err_from_is_err_and c.from_residual.result c.from_residual.ensures.1 in
    rw (p.1, p.2)
    (cut_short (g.S.Source.left c.args.source.now) (g.S.Source.left c.read_bytes.new.source) c.in_err-bytes.field-0.0 c.in_err-bytes.ensures.why)

pub returns-clause-reads : goal.returns-clause-reads
returns-clause-reads g c =
    let P : Unmade → Type 0 = λ e. ((why : DecodeRefusal) × (e ≡ unmade.Refused (Image why))) ⊎ (e ≡ unmade.NoMemory) in
    whole_as (g.S.Source.left c.args.source.now) (g.S.Source.left c.read_bytes.new.source) c.in_ok-bytes.ensures.whole c.decode_bytes.result
    (is_not c.decode_bytes.result P c.decode_bytes.ensures.why (unmade.Refused NotEmpty) (λ h. ⊎_elim (λ image. cc image.1) (λ wants. cc wants) h))
