use Rattle.std.proofs.Common.{List, [], ap, ◌∙◌}
use Rattle.adr_values.specs.Numbered.{numbered}
use Rattle.adr_model.specs.Change.{rows_after}
use Rattle.adr_model.specs.Store.{Held}
use Rattle.adr_records.proofs.Anew.{rows_anew}
use Rattle.adr_records.proofs.rows.rows_of.Goals as goal

pub returns : goal.returns
returns c =
    let s = c.args.contents in
    c.in_ok-write.ensures.ok
    ∙ (ap (λ (rows : List Held). rows_after [] c.in_ok-held.held.items rows) c.new-rows.ensures
    ∙ (ap (λ (held : List Held). rows_after [] held []) (c.in_ok-held.ensures.rows ∙ c.in_ok-change.ensures.change.writes) ∙ rows_anew (numbered s.schema) s.rows c.requires.rows c.requires.rising))
