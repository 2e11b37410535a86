use Rattle.std.proofs.Common.{ap, ◌∙◌, sym, ◌≡◌, List, ℕ, Some, true, false, drop, length}
use Rattle.adr_search.specs.Pieces.{begins_with}
use Rattle.adr_search.proofs.First.{here, passed}
use Rattle.adr_search.proofs.pieces.behind.Goals as goal

pub loop-start-preserved : goal.loop-start-preserved
loop-start-preserved c =
    let isnt : begins_with c.args.piece.now (drop c.loop-start.start c.args.bytes.now) ≡ false = cc in
    passed c.args.piece.now c.args.bytes.now c.loop-start.start c.loop-start-test.true isnt ∙ c.loop-start.invariant

pub returns-then-starts_with : goal.returns-then-starts_with
returns-then-starts_with c =
    let is : begins_with c.args.piece.now (drop c.loop-start.start c.args.bytes.now) ≡ true = cc in
    sym c.loop-start.invariant
    ∙ here c.args.piece.now c.args.bytes.now c.loop-start.start c.loop-start-test.true is
    ∙ ap (λ (x : List ℕ). Some (drop (length c.args.piece.now) x)) (sym c.split_at.ensures.back)
    ∙ ap (λ (x : List ℕ). Some x) (sym c.split_at-then-starts_with.ensures.back)
