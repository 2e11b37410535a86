use Rattle.std.proofs.Common.{◌≡◌, ◌≤◌, ◌++◌, ℕ, fold}
use Rattle.adr_model.specs.Change.{Item}
use Rattle.adr_model.specs.Serve.{byte_limit, candidates, first_items}
use Rattle.adr_cycle.specs.Candidates.{AreBehind}
use Rattle.adr_cycle.proofs.Numbered.{behind}
use Rattle.adr_cycle.proofs.replying.first_items.Given as goal

-- what was taken and the first of those behind it are the first of all
abbrev pub invariant-loop-most : goal.invariant-loop-most
invariant-loop-most l = record {
  above : l.from.obj ≤ l.last;
  whole : l.sent.items ++ first_items l.most l.bytes (behind l.last (candidates l.rows l.from l.asked)) ≡ first_items l.fn.most byte_limit (candidates l.rows l.from l.asked);
  left : AreBehind l.rows l.from l.asked l.last l.walk;
  end : l.last ≡ fold (λ n (c : ℕ × Item). c.0) l.from.obj l.sent.items;
}

abbrev pub decreases-loop-most : goal.decreases-loop-most
decreases-loop-most l = l.most
