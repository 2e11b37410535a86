use Rattle.std.proofs.Common.{◌≡◌, true, fold, take}
use Rattle.std.specs.List.{list_all}
use Rattle.adr_model.specs.Change.{Written, without_object}
use Rattle.adr_law_calls.specs.Tested.{is_touched_formed}
use Rattle.adr_records.proofs.touched.are_touched_formed.Given as goal

-- those so far are formed
abbrev pub invariant-loop-written : goal.invariant-loop-written
invariant-loop-written l =
    list_all (λ (w : Written). is_touched_formed l.schema (fold without_object l.told l.change.removed) w.item.unit) (take l.written-index l.written-items) ≡ true
