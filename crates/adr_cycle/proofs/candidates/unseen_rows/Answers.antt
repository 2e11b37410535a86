use Rattle.std.proofs.Common.{◌∙◌, ap, rules}
use Rattle.std.proofs.lemmas.Fn.{filter_same}
use Rattle.adr_model.specs.Serve.{is_unseen}
use Rattle.adr_update.specs.Referents.{referents}
use Rattle.adr_cycle.proofs.Choosing.{kept_referents}
use Rattle.adr_cycle.proofs.candidates.unseen_rows.Goals as goal

pub returns : goal.returns
returns c =
    let test = is_unseen c.args.from c.args.asked.now in
    ap referents (filter_same _ (λ row. test row.now) _ (λ x b q r. search rules) _ _ c.retain.ensures.filtered) ∙ kept_referents test _
