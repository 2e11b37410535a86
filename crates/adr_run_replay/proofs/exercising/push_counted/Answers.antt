use Rattle.std.proofs.Common.{◌≡◌, ℕ, List, ◌++◌, ap, ◌∙◌, append_assoc}
use Rattle.adr_run_replay.proofs.exercising.push_counted.Goals as goal

both_added : (front now next x y : List ℕ) → now ≡ front ++ x → next ≡ now ++ y → next ≡ front ++ (x ++ y)
both_added front now next x y first second = second ∙ (ap (λ (bytes : List ℕ). bytes ++ y) first ∙ append_assoc front x y)

pub returns : goal.returns
returns c = both_added c.args.out.now.items c.push_number_behind.new.out.items c.push_number_behind-2.new.out.items _ _ c.in_ok-push_number_behind.ensures.items c.in_ok-push_number_behind-2.ensures.items
