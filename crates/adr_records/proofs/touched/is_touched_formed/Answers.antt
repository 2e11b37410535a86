use Rattle.std.proofs.Common.{◌≡◌, ◌||◌, true, false, sym, ap, ◌∙◌, fold}
use Rattle.std.specs.Prelude.{is_none}
use Rattle.std.proofs.lemmas.Result.{IfOk-weaker}
use Rattle.adr_values.specs.Table.{is_forward, kind_at}
use Rattle.adr_model.specs.Change.{without_object}
use Rattle.adr_model.specs.Live.{is_among}
use Rattle.adr_model.specs.Store.{holds_object, row_held}
use Rattle.adr_model.specs.Update.{LinkOf}
use Rattle.adr_law_calls.specs.Tested.{is_touched_formed}
use Rattle.adr_records.proofs.Left.{among_set, removed_formed, absent_formed, left_formed, link_formed, none_copied}
use Rattle.adr_records.proofs.touched.is_touched_formed.Goals as goal
use Rattle.adr_records.proofs.touched.is_touched_formed.Goals.{then-contains-via-then-contains, then-contains-via-else-contains+then-not-holds}

pub returns-then-contains : goal.returns-then-contains
returns-then-contains c os is =
    let o = c.in-Object.object in
    let told = c.args.told.now in
    let found = c.contains.ensures ∙ among_set o c.args.removed.now.keys os is in
    elim c.then-contains.branch [
      | then-contains-via-then-contains w ↦ removed_formed c.args.schema os told o (sym found ∙ w.if-contains.true) ∙ ap (is_touched_formed c.args.schema (fold without_object told os)) (sym c.in-Object.is)
      | then-contains-via-else-contains+then-not-holds w ↦ absent_formed c.args.schema os told o (sym found ∙ w.if-contains.false) (sym w.holds.ensures ∙ w.if-not-holds.true) ∙ ap (is_touched_formed c.args.schema (fold without_object told os)) (sym c.in-Object.is)
    ]

pub returns-else-not-holds : goal.returns-else-not-holds
returns-else-not-holds c os is =
    let o = c.in-Object.object in
    let told = c.args.told.now in
    let left : is_among os o ≡ false = sym (c.contains.ensures ∙ among_set o c.args.removed.now.keys os is) ∙ c.if-contains.false in
    let there : holds_object told o ≡ true = sym c.holds.ensures ∙ c.if-not-holds.false in
    IfOk-weaker c.is_object_formed.result _ _
    (λ formed e. e ∙ left_formed c.args.schema os told o left there ∙ ap (is_touched_formed c.args.schema (fold without_object told os)) (sym c.in-Object.is))
    c.is_object_formed.ensures

pub returns-then-is_none : goal.returns-then-is_none
returns-then-is_none c os is =
    let l = c.in-Link.link in
    let told = c.args.told.now in
    let none : is_none (row_held told (LinkOf l)) ≡ true = ap is_none (sym c.row.ensures) ∙ none_copied c.row.result c.is_none.result c.is_none.ensures ∙ c.if-is_none.true in
    c.if-is_none.true
    ∙ sym (ap (λ b. b || is_forward (kind_at c.args.schema l.attr)) none)
    ∙ link_formed c.args.schema os told l
    ∙ ap (is_touched_formed c.args.schema (fold without_object told os)) (sym c.in-Link.is)

pub returns-else-is_none : goal.returns-else-is_none
returns-else-is_none c os is =
    let l = c.in-Link.link in
    let told = c.args.told.now in
    let some : is_none (row_held told (LinkOf l)) ≡ false = ap is_none (sym c.row.ensures) ∙ none_copied c.row.result c.is_none.result c.is_none.ensures ∙ c.if-is_none.false in
    c.is_forward.ensures
    ∙ sym (ap (λ b. b || is_forward (kind_at c.args.schema l.attr)) some)
    ∙ link_formed c.args.schema os told l
    ∙ ap (is_touched_formed c.args.schema (fold without_object told os)) (sym c.in-Link.is)
