use Rattle.std.proofs.Common.{◌≡◌, [], drop}
use Rattle.adr_model.specs.Change.{held_of, rows_after}
use Rattle.adr_law_calls.specs.Tested.{may_follow_in_turn}
use Rattle.adr_records.proofs.writes.may_follow_in_turn.Given as goal

-- the writes so far follow and are put; what is left decides
abbrev pub invariant-loop-written : goal.invariant-loop-written
invariant-loop-written l = record {
  may : may_follow_in_turn l.schema l.vector l.initial.told l.writes ≡ may_follow_in_turn l.schema l.vector l.told (drop l.written-index l.writes);
  put : rows_after [] (held_of (drop l.written-index l.writes)) l.told ≡ rows_after [] (held_of l.writes) l.initial.told;
}
