use Rattle.std.proofs.Common.{◌≡◌, Bool, true, false, ◌&&◌, ◌||◌, refl, sym, ap, ◌∙◌}
use Rattle.adr_tree.proofs.Steps.{one_up}
use Rattle.adr_tree.specs.Slots.{looks, flagged}
use Rattle.adr_tree.proofs.walks.climbs.Goals as goal
use Rattle.adr_tree.proofs.walks.climbs.Goals.{else-breaks-via-then-breaks+else-seen, else-breaks-via-else-breaks, then-breaks-2, else-breaks-2}

not_second : (a b : Bool) → b ≡ false → (a && b) ≡ false
not_second true b e = e
not_second false b e = refl

pub loop-left-preserved : goal.loop-left-preserved
loop-left-preserved c =
    let breaks = c.is_breaker-breaks.result in
    let seen = c.loop-left.seen in
    let goes : (breaks && seen) ≡ false = elim c.else-breaks.branch [
      | else-breaks-via-then-breaks+else-seen w ↦ not_second breaks seen w.if-seen.false
      | else-breaks-via-else-breaks w ↦ ap (λ b. b && seen) w.if-breaks.false
    ] in
    let sees : c.if-breaks-2.seen ≡ (breaks || seen) = elim c.if-breaks-2.branch [
      | then-breaks-2 w ↦ w.seen-is ∙ w.if-breaks-2.true ∙ sym (ap (λ b. b || seen) w.if-breaks-2.true)
      | else-breaks-2 w ↦ w.seen-is ∙ sym (ap (λ b. b || seen) w.if-breaks-2.false)
    ] in
    one_up (looks c.args.slots.now) (flagged c.args.flags.now) c.args.target c.loop-left.left c.loop-left.guid seen c.if-breaks-2.seen (breaks && seen) c.in-Some.node.now _ _ c.loop-left-test.true
    (sym c.in-Some.ensures) (cc) (ap (λ b. b && seen) c.is_breaker-breaks.ensures) goes (sees ∙ ap (λ b. b || seen) c.is_breaker-breaks.ensures) c.parent-guid.ensures c.loop-left.invariant
