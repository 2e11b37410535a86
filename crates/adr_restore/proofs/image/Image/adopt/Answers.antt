use Rattle.std.proofs.Common.{◌≡◌, IfOk, Ok, Err, sym, subst, ◌∙◌}
use Rattle.std.proofs.lemmas.Result.{IfOk-weaker}
use Rattle.adr_model.specs.Collect.{adopt}
use Rattle.adr_model.specs.Formed.{IsFormedStore}
use Rattle.adr_model.specs.Store.{Store}
use Rattle.adr_image.specs.Stored.{IsSpelled}
use Rattle.adr_law_recorded.proofs.Beginning.{adopted_is_logged}
use Rattle.adr_restore.proofs.image.Image.adopt.Goals as goal

pub returns-clause-ok : goal.returns-clause-ok
returns-clause-ok c =
    let same : c.into_contents.result ≡ c.args.self.now = c.into_contents.ensures.all ∙ c.in_ok-dormant.ensures in
    subst (λ (s : Store). IfOk c.adopt.result (λ state. adopt s c.args.dsa c.args.inv ≡ Ok state)) same c.adopt.ensures.ok

pub returns-clause-refused : goal.returns-clause-refused
returns-clause-refused c = λ refusal e.
    let same : c.into_contents.result ≡ c.args.self.now = c.into_contents.ensures.all ∙ c.in_ok-dormant.ensures in
    subst (λ (s : Store). adopt s c.args.dsa c.args.inv ≡ Err refusal) same (c.adopt.ensures.refused refusal e)

pub returns-clause-logged : goal.returns-clause-logged
returns-clause-logged c =
    let read = c.into_contents.result in
    let formed : IsFormedStore read = subst IsFormedStore (sym c.into_contents.ensures.all) c.into_contents.ensures.formed in
    let spelled : IsSpelled read = subst IsSpelled (sym c.into_contents.ensures.all) c.into_contents.ensures.spelled in
    IfOk-weaker c.adopt.result _ _ (λ state is. adopted_is_logged read c.args.dsa c.args.inv state formed spelled c.requires.dsa c.requires.inv is) c.adopt.ensures.ok
