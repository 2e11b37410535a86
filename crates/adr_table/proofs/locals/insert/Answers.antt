use Rattle.std.proofs.Common.{◌≡◌, ◌∙◌, refl, true, Some}
use Rattle.std.proofs.lemmas.Bool.{cond_both}
use Rattle.std.specs.BTreeMap.{is_at}
use Rattle.std.specs.BTreeSet.{contains}
use Rattle.adr_table.specs.Locals.{local_of, local_order}
use Rattle.adr_table.proofs.locals.insert.Goals as goal

pub returns-clause-more : goal.returns-clause-more
returns-clause-more c h there =
    c.in_ok-insert.ensures.updates.0 (local_of h) ∙ cond_both (is_at (local_order (record { usn = c.args.usn; unit = Some c.args.unit })) (local_of h)) true (contains local_order c.args.locals.now (local_of h)) (λ r. r ≡ true) (λ _. refl) (λ _. there)
