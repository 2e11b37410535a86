use Rattle.std.proofs.Common.{◌≡◌, ◌∙◌, ◌++◌, ◌∷◌, [], ℕ, map, sym, ap, arith, append_assoc}
use Rattle.std.proofs.lemmas.Grind.{common_steps}
use Rattle.adr_model.specs.Change.{Item}
use Rattle.adr_cycle.proofs.replying.items_of.Goals as goal

pub loop-item-preserved : goal.loop-item-preserved
loop-item-preserved c =
    let before = c.loop-item.items.items in
    let item = c.in-Some.item in
    let left = c.next.new.self.rest.items in
    let more : c.loop-item.item-iterator.rest.items ≡ (c.in-Some.field-0-0, item) ∷ left = grind (arith, common_steps) in
    ap (λ xs. xs ++ map (λ (c : ℕ × Item). c.1) left) c.in_ok-push.ensures.items
    ∙ append_assoc before (item ∷ []) (map (λ (c : ℕ × Item). c.1) left)
    ∙ ap (λ cs. before ++ map (λ (c : ℕ × Item). c.1) cs) (sym more)
    ∙ c.loop-item.invariant
