use Rattle.std.proofs.Common.{◌≡◌, ◌+◌, ◌≤◌, fold, take}
use Rattle.adr_values.specs.Numbered.{numbered}
use Rattle.adr_model.specs.Take.{begin, take_item}
use Rattle.adr_cycle.proofs.taking.take_items.Given as goal

-- the items so far are taken, each under one USN at most
abbrev pub invariant-loop-item : goal.invariant-loop-item
invariant-loop-item l = record {
  taken : l.taking ≡ fold (take_item (numbered l.state.store.schema) l.state.store.vector) (begin l.state) (take l.item-index l.items);
  usn : l.taking.usn ≤ l.state.store.usn + l.item-index;
  place : l.taking.place ≡ l.item-index;
}
