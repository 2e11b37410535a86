use Rattle.std.proofs.Common.{◌≡◌, ◌∙◌, refl, true}
use Rattle.std.proofs.lemmas.Bool.{cond_both}
use Rattle.std.specs.BTreeMap.{is_at}
use Rattle.std.specs.BTreeSet.{contains}
use Rattle.adr_table.specs.Back.{behind_order}
use Rattle.adr_table.proofs.back.insert.Goals as goal

pub returns-clause-more : goal.returns-clause-more
returns-clause-more c b there =
    c.in_ok-insert.ensures.updates.0 b ∙ cond_both (is_at (behind_order c.args.behind) b) true (contains behind_order c.args.back.now b) (λ r. r ≡ true) (λ _. refl) (λ _. there)
