use Rattle.std.proofs.Common.{◌≡◌, [], Some, fold, take}
use Rattle.std.specs.BTreeMap.{IsOrdered}
use Rattle.adr_values.specs.Order.{identifier_order}
use Rattle.adr_model.specs.Change.{with_mark}
use Rattle.adr_model.specs.Store.{PartnerMark}
use Rattle.adr_model.specs.Update.{Identifier}
use Rattle.adr_state.proofs.marks.Marks.of.Given as goal

-- the marks are those of the list so far
abbrev pub invariant-loop-partner : goal.invariant-loop-partner
invariant-loop-partner l = record {
  made : l.map.entries ≡ fold (λ ms (m : Identifier × PartnerMark). with_mark (Some m) ms) [] (take l.partner-index l.list);
  ordered : IsOrdered identifier_order l.map;
}
