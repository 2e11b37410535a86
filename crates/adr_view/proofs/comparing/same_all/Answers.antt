use Rattle.std.proofs.Common.{◌≡◌, ℕ, suc, ◌+◌, Bool, ◌&&◌, drop, refl, sym, ap, subst, ◌∙◌, arith}
use Rattle.std.specs.Cmp.Lexicographic.{pointwise}
use Rattle.adr_view.proofs.PairByPair.{next_pair, no_pair}
use Rattle.adr_view.proofs.comparing.same_all.Goals as goal

pub pairs-init : goal.pairs-init
pairs-init g c = refl

pub returns-then-not-is_same : goal.returns-then-not-is_same
returns-then-not-is_same g c =
    let same = g.T.Compared.same in
    let step = next_pair same c.pairs.k c.args.a.now c.args.b.now c.index-a-k.result c.index-b-k.result c.pairs-test.true c.if-a-b.false c.index-a-k.is c.index-b-k.is in
    sym (c.pairs.invariant ∙ step ∙ ap (λ (t : Bool). t && pointwise same (drop (suc c.pairs.k) c.args.a.now) (drop (suc c.pairs.k) c.args.b.now)) (sym c.is_same.ensures ∙ c.if-not-is_same.true))

pub pairs-preserved : goal.pairs-preserved
pairs-preserved g c =
    let same = g.T.Compared.same in
    let step = next_pair same c.pairs.k c.args.a.now c.args.b.now c.index-a-k.result c.index-b-k.result c.pairs-test.true c.if-a-b.false c.index-a-k.is c.index-b-k.is in
    let one : suc c.pairs.k ≡ c.pairs.k + 1 = omega arith in
    subst (λ (n : ℕ). pointwise same c.args.a.now c.args.b.now ≡ pointwise same (drop n c.args.a.now) (drop n c.args.b.now)) one
    (c.pairs.invariant ∙ step ∙ ap (λ (t : Bool). t && pointwise same (drop (suc c.pairs.k) c.args.a.now) (drop (suc c.pairs.k) c.args.b.now)) (sym c.is_same.ensures ∙ c.if-not-is_same.false))

pub returns : goal.returns
returns g c = sym (c.pairs.invariant ∙ no_pair g.T.Compared.same c.pairs.k c.args.a.now c.args.b.now (omega (arith, c.pairs-test.false)) c.if-a-b.false)
