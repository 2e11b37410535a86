use Rattle.std.proofs.Common.{List, take, fold}
use Rattle.adr_model.specs.Change.{without_object}
use Rattle.adr_model.specs.Store.{Held}
use Rattle.adr_table.specs.Table.{rows_in}
use Rattle.adr_state.specs.Drafts.{AreDrafts}
use Rattle.adr_state.proofs.drafts.remove_all.Given as goal

-- the objects so far are removed
abbrev pub invariant-loop-object : goal.invariant-loop-object
invariant-loop-object l =
    (seen : List Held) → AreDrafts (rows_in l.table) seen l.initial.drafts → AreDrafts (rows_in l.table) (fold without_object seen (take l.object-index l.objects)) l.drafts
