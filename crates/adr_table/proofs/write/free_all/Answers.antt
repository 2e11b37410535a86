use Rattle.std.proofs.Common.{◌∙◌, subst, arith, take}
use Rattle.std.specs.List.{All}
use Rattle.std.proofs.lemmas.List.{take_all}
use Rattle.std.proofs.lemmas.List.Elements.{All-more, All-weaker}
use Rattle.adr_table.specs.Slots.{AreFull}
use Rattle.adr_table.proofs.write.free_all.Goals as goal

pub loop-object-preserved : goal.loop-object-preserved
loop-object-preserved c = (
  c.free_object.ensures.tidy,
  c.free_object.ensures.seen ∙ c.loop-object.invariant.1,
  (λ q. c.free_object.ensures.same q ∙ c.loop-object.invariant.2 q),
  All-more (AreFull c.free_object.new.self) c.args.objects.now c.loop-object.object-index c.object-item.result (omega arith)
      (All-weaker (AreFull c.loop-object.slots) (AreFull c.free_object.new.self) c.free_object.ensures.still (take c.loop-object.object-index c.args.objects.now) c.loop-object.invariant.3)
      (subst (AreFull c.free_object.new.self) c.object-item.is c.free_object.ensures.full),
)

pub returns-clause-full : goal.returns-clause-full
returns-clause-full c =
    subst (All (AreFull c.loop-object.slots)) (take_all c.loop-object.object-index c.args.objects.now (omega arith)) c.loop-object.invariant.3
