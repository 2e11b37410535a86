use Rattle.std.proofs.Common.{◌≡◌, ◌∙◌, refl, true}
use Rattle.std.proofs.lemmas.Bool.{cond_both}
use Rattle.std.specs.BTreeMap.{is_at}
use Rattle.std.specs.BTreeSet.{contains}
use Rattle.adr_tree.specs.Hints.{hint_order}
use Rattle.adr_tree.proofs.hints.remember.Goals as goal

pub returns-clause-more : goal.returns-clause-more
returns-clause-more c h there =
    c.in_ok-insert.ensures.updates.0 h ∙ cond_both (is_at (hint_order c.args.hint) h) true (contains hint_order c.args.hints.now h) (λ r. r ≡ true) (λ _. refl) (λ _. there)
