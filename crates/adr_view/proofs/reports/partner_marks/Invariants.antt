use Rattle.std.proofs.Common.{◌≡◌, ◌++◌, map}
use Rattle.adr_model.specs.Update.{Identifier}
use Rattle.adr_model.specs.Store.{PartnerMark}
use Rattle.adr_view.proofs.reports.partner_marks.Given as goal

-- what is told and what is left are the whole
abbrev pub invariant-loop-partner : goal.invariant-loop-partner
invariant-loop-partner l =
    l.list.items ++ map (λ (k : Identifier × PartnerMark). (k.0, k.1.inv, k.1.mark)) l.partner-iterator.rest.items ≡ map (λ (k : Identifier × PartnerMark). (k.0, k.1.inv, k.1.mark)) l.marks
