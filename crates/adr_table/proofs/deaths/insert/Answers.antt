use Rattle.std.proofs.Common.{◌≡◌, ◌∙◌, refl, true}
use Rattle.std.proofs.lemmas.Bool.{cond_both}
use Rattle.std.specs.BTreeMap.{is_at}
use Rattle.std.specs.BTreeSet.{contains}
use Rattle.adr_values.specs.Order.{object_order}
use Rattle.adr_table.proofs.deaths.insert.Goals as goal

pub returns-clause-more : goal.returns-clause-more
returns-clause-more c o there =
    c.in_ok-insert.ensures.updates.0 o ∙ cond_both (is_at (object_order c.args.object) o) true (contains object_order c.args.dead.now o) (λ r. r ≡ true) (λ _. refl) (λ _. there)
