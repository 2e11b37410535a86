use Rattle.std.proofs.Common.{◌∙◌, subst, ◌≡◌, List, ℕ, None, Some}
use Rattle.adr_search.specs.Behind.{behind}
use Rattle.adr_search.proofs.First.{stuck, turned}
use Rattle.adr_search.proofs.pieces.in_turn.Goals as goal

pub returns-in-None : goal.returns-in-None
returns-in-None c =
    let none : behind c.piece-item.result c.loop-piece.rest.now ≡ None = subst (λ (p : List ℕ). behind p c.loop-piece.rest.now ≡ None) c.items.ensures c.in-None.ensures in
    stuck c.args.pieces.now c.args.last.now c.loop-piece.rest.now c.piece-item.result c.loop-piece.piece-index c.loop-piece-test.true c.piece-item.is none ∙ c.loop-piece.invariant

pub loop-piece-preserved : goal.loop-piece-preserved
loop-piece-preserved c =
    let some : behind c.piece-item.result c.loop-piece.rest.now ≡ Some c.in-Some.further.now = subst (λ (p : List ℕ). behind p c.loop-piece.rest.now ≡ Some c.in-Some.further.now) c.items.ensures c.in-Some.ensures in
    turned c.args.pieces.now c.args.last.now c.loop-piece.rest.now c.piece-item.result c.in-Some.further.now c.loop-piece.piece-index c.loop-piece-test.true c.piece-item.is some ∙ c.loop-piece.invariant
