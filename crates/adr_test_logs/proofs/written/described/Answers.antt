use Rattle.std.proofs.Common.{◌≡◌, ◌∙◌, [], ◌∷◌, ap, subst, sym}
use Rattle.adr_values.specs.Assignments.{placed}
use Rattle.adr_model.specs.Given.{AreInOrder}
use Rattle.adr_test_logs.proofs.Writing.{one_rises}
use Rattle.adr_test_logs.proofs.written.described.Goals as goal

pub returns-in-Ok-clause-in_order : goal.returns-in-Ok-clause-in_order
returns-in-Ok-clause-in_order c =
    let values = c.in_ok-descriptions.field-0.items in
    let is : c.add.new.self ≡ (12, values) ∷ [] = c.in-Ok.ensures.ok ∙ ap (placed 12 values) c.new-given.ensures in
    subst AreInOrder (sym is) (one_rises values)
