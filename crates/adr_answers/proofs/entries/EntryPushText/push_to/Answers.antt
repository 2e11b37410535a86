use Rattle.std.proofs.Common.{◌≡◌, ◌++◌, ◌∙◌, List, ℕ, append_assoc, flat_map}
use Rattle.std.proofs.lemmas.Result.{on_ok_weaker}
use Rattle.adr_values.specs.declared.content.Value.{Value as Item}
use Rattle.adr_answers.specs.Line.{values_text, links_text, entry_line}
use Rattle.adr_answers.proofs.entries.EntryPushText.push_to.Goals as goal

-- five pieces, one behind another
pieces : (old a b e n₁ n₂ n₃ n₄ : List ℕ) (vs vs' : List (ℕ × List Item)) (ls ls' : List (ℕ × List (List ℕ)))
    → n₁ ≡ old ++ a → n₂ ≡ n₁ ++ b → n₃ ≡ n₂ ++ flat_map values_text vs' → n₄ ≡ n₃ ++ flat_map links_text ls' → vs' ≡ vs → ls' ≡ ls
    → n₄ ++ e ≡ old ++ (a ++ b ++ flat_map values_text vs ++ flat_map links_text ls ++ e)
pieces old a b e n₁ n₂ n₃ n₄ vs vs' ls ls' p q r s x y = rw (s, r, q, p, x, y) (simp append_assoc)

pub returns : goal.returns
unfolding entry_line
returns c =
    on_ok_weaker c.push.result (λ last. last
    ∙ pieces c.args.out.now.items _ _ _ c.push_head.new.out.items c.push_place.new.out.items c.push_each.new.out.items c.push_each-2.new.out.items
    c.args.self.now.values c.items.result.now c.args.self.now.links c.items-2.result.now
    c.in_ok-push_head.ensures c.in_ok-push_place.ensures c.in_ok-push_each.ensures c.in_ok-push_each-2.ensures c.items.ensures c.items-2.ensures) c.push.ensures.items
