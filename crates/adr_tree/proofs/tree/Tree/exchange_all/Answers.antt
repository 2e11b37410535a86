use Rattle.std.proofs.Common.{rules, ◌≡◌, ◌+◌, ◌<◌, ◌∷◌, length, drop, set, get_or, sym, ap, ◌∙◌, subst, arith}
use Rattle.std.proofs.lemmas.List.{drop-set-lt, drop_more}
use Rattle.adr_model.specs.Place.{node_at}
use Rattle.adr_tree.specs.Edits.{AreOwn, edited}
use Rattle.adr_tree.specs.Tree.{HaveRoom, nodes_in}
use Rattle.adr_tree.proofs.Edited.{own_later, room_later}
use Rattle.adr_tree.proofs.tree.Tree.exchange_all.Goals as goal

pub loop-edit-preserved : goal.loop-edit-preserved
loop-edit-preserved c =
    let less : c.loop-edit.edit-index < length c.loop-edit.edits = search rules in
    let left : drop c.loop-edit.edit-index c.loop-edit.edits ≡ get_or c.loop-edit.edits c.loop-edit.edit-index c.edit-item.result ∷ drop (c.loop-edit.edit-index + 1) c.loop-edit.edits =
    drop_more c.loop-edit.edits c.loop-edit.edit-index c.edit-item.result less in
    let after : drop (c.loop-edit.edit-index + 1) (set c.loop-edit.edits c.loop-edit.edit-index c.exchange.new.edit) ≡ drop (c.loop-edit.edit-index + 1) c.loop-edit.edits =
    drop-set-lt (c.loop-edit.edit-index + 1) c.loop-edit.edits c.loop-edit.edit-index c.exchange.new.edit (omega arith) in (
      c.exchange.ensures.tree,
      subst AreOwn (sym after) (own_later (get_or c.loop-edit.edits c.loop-edit.edit-index c.edit-item.result) (drop (c.loop-edit.edit-index + 1) c.loop-edit.edits) (subst AreOwn left c.loop-edit.invariant.1)),
      subst (HaveRoom c.exchange.new.self) (sym after)
          (room_later c.loop-edit.self c.exchange.new.self c.exchange.ensures.more (get_or c.loop-edit.edits c.loop-edit.edit-index c.edit-item.result) (drop (c.loop-edit.edit-index + 1) c.loop-edit.edits) (subst (HaveRoom c.loop-edit.self) left c.loop-edit.invariant.2)),
      (λ g.
          ap (λ es. edited es g (node_at (nodes_in c.exchange.new.self) g)) after
          ∙ ap (edited (drop (c.loop-edit.edit-index + 1) c.loop-edit.edits) g) (c.exchange.ensures.nodes g)
          ∙ sym (ap (λ es. edited es g (node_at (nodes_in c.loop-edit.self) g)) left) ∙ c.loop-edit.invariant.3 g),
    )
