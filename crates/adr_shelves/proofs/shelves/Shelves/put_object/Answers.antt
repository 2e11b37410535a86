use Rattle.std.proofs.Common.{◌∙◌, ap, fold}
use Rattle.adr_shelves.specs.Place.{rows_start}
use Rattle.adr_shelves.specs.Shelves.{with_update, without_unit}
use Rattle.adr_shelves.proofs.ShelvedObjects.{new_replaced}
use Rattle.adr_shelves.proofs.ShelvedWrites.{HaveNow}
use Rattle.adr_shelves.proofs.ShelvedTrees.{object_put}
use Rattle.adr_shelves.proofs.shelves.Shelves.put_object.Goals as goal
use Rattle.adr_shelves.specs.Place.{object_place}
use Rattle.adr_shelves.specs.Shelves.{all_shelves}
use Rattle.adr_shelves.proofs.shelves.Shelves.put_object.Goals.{Joined-branch-3}

replaced : (c : Joined-branch-3) → HaveNow (all_shelves c.insert.new.self.entries c.self.inside.links.entries) (fold (with_update c.args.local) (without_unit (rows_start c.args.object.now) c.args.self.now) c.args.rows.now)
replaced c =
    new_replaced (all_shelves c.self.inside.objects.entries c.self.inside.links.entries) (all_shelves c.insert.new.self.entries c.self.inside.links.entries) c.self.invariant c.args.self.now c.self.view_is c.args.object.now c.args.local c.args.rows.now c.requires
    (object_place c.of_object.result) (ap object_place c.of_object.ensures) c.in_ok-shelf.shelf c.in_ok-shelf.ensures
    (ap (λ os. all_shelves os c.self.inside.links.entries) c.in_ok-insert.ensures.entries ∙ object_put c.self.inside.objects.entries c.self.inside.links.entries c.of_object.result c.in_ok-shelf.shelf)

pub invariant_of-self-2 : goal.invariant_of-self-2
invariant_of-self-2 c = (replaced (goal.at.invariant_of-self-2 c).Joined-branch-3).are

pub returns-clause-entries : goal.returns-clause-entries
returns-clause-entries c = (replaced (goal.at.returns-clause-entries c).Joined-branch-3).entries
