use Rattle.std.proofs.Common.{◌≡◌, List, [], Bool, true, ◌&&◌, fold, sym, ap, ap₂, ◌∙◌}
use Rattle.std.proofs.lemmas.Result.{IfOk-weaker}
use Rattle.adr_values.specs.Numbered.{numbered}
use Rattle.adr_values.specs.Table.{Table}
use Rattle.adr_values.specs.Vector.{Cursors, joined}
use Rattle.adr_model.specs.Store.{Held}
use Rattle.adr_model.specs.Change.{Written, after, held_of, rows_after, without_object}
use Rattle.adr_law_calls.specs.Tested.{are_removable, are_touched_formed, may_follow_in_turn}
use Rattle.adr_records.proofs.follow.writes_pass.Goals as goal

pub returns : goal.returns
returns c =
    let s = c.args.state.now in
    let d = c.args.change.now in
    let written = rows_after [] (held_of d.writes) s.store.rows in
    let left = (after s d).store in
    let begun : c.args.told.now ≡ s.store.rows = c.requires in
    let judged =
    ap (λ (table : Table). may_follow_in_turn table c.vector.result.now c.args.told.now c.writes.result.now) c.schema-schema.ensures.table
    ∙ ap₂ (λ (v : Cursors) (hs : List Held). may_follow_in_turn (numbered s.store.schema) v hs c.writes.result.now) c.vector.ensures begun
    ∙ ap (λ (ws : List Written). may_follow_in_turn (numbered s.store.schema) s.store.vector s.store.rows ws) c.writes.ensures in
    let may : true ≡ may_follow_in_turn (numbered s.store.schema) s.store.vector s.store.rows d.writes =
    sym c.if-not-branch.false ∙ c.in_ok-may_follow_in_turn.ensures.may ∙ judged in
    let put : c.may_follow_in_turn.new.told ≡ written =
    c.in_ok-may_follow_in_turn.ensures.put c.if-not-branch.false ∙ ap₂ (λ (ws : List Written) (hs : List Held). rows_after [] (held_of ws) hs) c.writes.ensures begun in
    let removed : true ≡ are_removable written left.purged d.removed =
    sym c.if-not-are_removable.false
    ∙ c.are_removable.ensures
    ∙ ap₂ (λ (hs : List Held) (v : Cursors). are_removable hs (joined v d.purged) d.removed) put c.purged.ensures in
    IfOk-weaker c.are_touched_formed.result _ _
    (λ formed e.
    e
    ∙ ap₂ (λ (table : Table) (hs : List Held). are_touched_formed table (fold without_object hs d.removed) d.writes) c.schema.ensures.numbered put
    ∙ ap₂ (λ (follow : Bool) (go : Bool). follow && go && are_touched_formed (numbered d.schema) left.rows d.writes) may removed)
    c.are_touched_formed.ensures
