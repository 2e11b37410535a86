use Rattle.std.proofs.Common.{arith, ◌∙◌}
use Rattle.std.specs.Prelude.{IfSome}
use Rattle.adr_tree.specs.Tree.{HasRoom}
use Rattle.adr_tree.proofs.Edited.{each_indexed, room_more}
use Rattle.adr_tree.proofs.tree.Tree.reserve.Goals as goal

pub returns-clause-ok : goal.returns-clause-ok
returns-clause-ok c =
    each_indexed (λ x. IfSome x.node (HasRoom c.loop-edit.self)) c.args.edits.now (λ i d less. c.loop-edit.invariant.2 i d (omega (arith, less, c.loop-edit-test.false)))

pub loop-edit-preserved : goal.loop-edit-preserved
loop-edit-preserved c = (
  c.reserve_edit.ensures.tree,
  c.reserve_edit.ensures.nodes ∙ c.loop-edit.invariant.1,
  room_more c.loop-edit.self c.reserve_edit.new.self c.reserve_edit.ensures.more c.args.edits.now c.loop-edit.edit-index c.edit-item.result c.loop-edit-test.true c.edit-item.is
      c.in_ok-reserve_edit.ensures.ok c.loop-edit.invariant.2,
)
