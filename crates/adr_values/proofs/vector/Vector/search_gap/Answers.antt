use Rattle.std.proofs.Common.{◌≡◌, ℕ, drop, suc, Some, add-one, ap, sym, subst, ◌∙◌, arith}
use Rattle.adr_values.specs.Vector.{Cursors, at, first_gap}
use Rattle.adr_values.proofs.Comparing.{gap_first, gap_behind}
use Rattle.adr_values.proofs.Cursors.{IsRising}
use Rattle.adr_values.proofs.Walks.{Agrees, agrees_first, agrees_here, agrees_behind, left_of}
use Rattle.adr_values.proofs.vector.Vector.search_gap.Goals as goal

pub loop-inv-init : goal.loop-inv-init
loop-inv-init c =
    let whole : c.new-walk.result ≡ c.args.other.now = c.new-walk.ensures ∙ c.deref.ensures.value ∙ c.other.view_is in
    record {
      left = ap (λ (v : Cursors). first_gap v c.args.other.now) (c.deref-inv-items.ensures.value ∙ c.self.view_is);
      walked = subst (λ (w : Cursors). Agrees w c.args.other.now c.deref-inv-items.result.now) (sym whole) (agrees_first c.args.other.now c.deref-inv-items.result.now);
    }

pub returns-then-theirs-usn-clause-gap : goal.returns-then-theirs-usn-clause-gap
returns-then-theirs-usn-clause-gap c =
    let cs = c.deref-inv-items.result.now in
    let i = c.loop-inv.inv-index in
    let here = c.loop-inv-item.result in
    let theirs : c.at-theirs.result ≡ at c.args.other.now here.0 =
    c.at-theirs.ensures.here ∙ agrees_here c.loop-inv.walk c.args.other.now cs i here c.loop-inv-test.true c.loop-inv-item.is c.loop-inv.invariant.walked in
    ap (λ (n : ℕ). Some (here.0, n, here.1)) theirs
    ∙ sym (gap_first here (drop (suc i) cs) c.args.other.now (let above = c.if-theirs-usn.true in omega arith))
    ∙ ap (λ (v : Cursors). first_gap v c.args.other.now) (sym (left_of cs i here c.loop-inv-test.true c.loop-inv-item.is))
    ∙ c.loop-inv.invariant.left

pub loop-inv-preserved : goal.loop-inv-preserved
loop-inv-preserved c =
    let cs = c.deref-inv-items.result.now in
    let i = c.loop-inv.inv-index in
    let here = c.loop-inv-item.result in
    let theirs : c.at-theirs.result ≡ at c.args.other.now here.0 =
    c.at-theirs.ensures.here ∙ agrees_here c.loop-inv.walk c.args.other.now cs i here c.loop-inv-test.true c.loop-inv-item.is c.loop-inv.invariant.walked in
    let rising : IsRising cs = subst IsRising (sym c.deref-inv-items.ensures.value) c.self.invariant.rising in
    record {
      left = rw add-one (
          sym (gap_behind here (drop (suc i) cs) c.args.other.now (let within = c.if-theirs-usn.false in omega arith))
          ∙ ap (λ (v : Cursors). first_gap v c.args.other.now) (sym (left_of cs i here c.loop-inv-test.true c.loop-inv-item.is))
          ∙ c.loop-inv.invariant.left);
      walked = agrees_behind c.loop-inv.walk c.args.other.now cs i here c.loop-inv-test.true c.loop-inv-item.is c.loop-inv.invariant.walked c.at-theirs.new.self rising c.at-theirs.ensures.above;
    }
