use Rattle.std.proofs.Common.{Bool, List, sym, ap, ◌∙◌}
use Rattle.std.specs.Prelude.{◌&&◌, ◌||◌}
use Rattle.adr_values.specs.declared.stamp.Oid.{Oid}
use Rattle.adr_model.specs.Live.{is_among}
use Rattle.adr_model.specs.Update.{same_object}
use Rattle.adr_image.proofs.Keeping.{one_dead}
use Rattle.adr_image.proofs.gathered.add_dead.Goals as goal

pub returns-in_ok-insert : goal.returns-in_ok-insert
returns-in_ok-insert c = λ p.
    ap (λ (keys : List Oid). is_among keys p) c.in_ok-insert.ensures.keys ∙ one_dead c.args.dead.now.keys c.args.object.now p
    ∙ ap (λ (b : Bool). is_among c.args.dead.now.keys p || (b && same_object c.args.object.now p)) (sym c.if-is_dead.true)
