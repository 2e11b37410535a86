use Rattle.std.proofs.Common.{◌≡◌, ◌+◌, List, ℕ, [], ◌++◌, length, take, drop, sym, ap, ◌∙◌, arith}
use Rattle.std.proofs.lemmas.List.{append-nil, drop_all}
use Rattle.adr_run_disk.proofs.platter.put.Goals as goal

-- nothing is left behind the new bytes
pub returns-else-new-saturating_sub-clause-items : goal.returns-else-new-saturating_sub-clause-items
returns-else-new-saturating_sub-clause-items c =
    let old = c.args.bytes.now.items in
    let new = c.args.new.now in
    let front = take c.args.at old in
    let none : drop (c.args.at + length new) old ≡ [] = drop_all (c.args.at + length new) old (omega arith) in
    rw c.unwrap.ensures at c.extend_from_slice.ensures.items
    ∙ ap (λ (l : List ℕ). l ++ new) c.truncate.ensures.items
    ∙ sym (append-nil (front ++ new))
    ∙ ap (λ (l : List ℕ). front ++ new ++ l) (sym none)
