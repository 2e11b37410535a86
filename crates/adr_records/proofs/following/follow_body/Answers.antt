use Rattle.std.proofs.Common.{◌≡◌, ◌∙◌, ℕ, List, Option, Some, ap, sym}
use Rattle.std.proofs.lemmas.Result.{on_ok_weaker}
use Rattle.adr_model.specs.Change.{Change}
use Rattle.adr_image.specs.Changes.{decoded_change}
use Rattle.adr_image.proofs.Recorded.{change_only}
use Rattle.adr_records.specs.Body.{by_change}
use Rattle.adr_records.proofs.following.follow_body.Goals as goal

says : (version usn before number schema : ℕ) (body : List ℕ) (read : Option Change) (c : Change) → before ≡ usn → schema ≡ number → read ≡ decoded_change version before schema body → read ≡ Some c → decoded_change version usn number body ≡ Some c
says version usn before number schema body read c same of is some =
    ap (λ (n : ℕ). decoded_change version n number body) (sym same) ∙ ap (λ (n : ℕ). decoded_change version before n body) (sym of) ∙ sym is ∙ some

pub apply_read-requires-clause-body : goal.apply_read-requires-clause-body
apply_read-requires-clause-body c =
    (change_only c.args.version c.args.state.now.store.usn c.args.state.now.store.schema c.args.body.now c.in-Ok-Some.change (λ i. (c.type_inv.body i).fits)
    (says c.args.version c.args.state.now.store.usn c.usn.result c.args.state.now.store.schema c.schema.result.number c.args.body.now c.in-Ok-Some.field-0 c.in-Ok-Some.change c.usn.ensures c.schema.ensures.number c.in-Ok-Some.ensures c.in-Ok-Some.field-0-is)).0

pub returns-in-Ok-Some-clause-ok : goal.returns-in-Ok-Some-clause-ok
returns-in-Ok-Some-clause-ok c =
    on_ok_weaker c.apply_read.result
    (λ is. ap (by_change c.args.state.now) (says c.args.version c.args.state.now.store.usn c.usn.result c.args.state.now.store.schema c.schema.result.number c.args.body.now c.in-Ok-Some.field-0 c.in-Ok-Some.change c.usn.ensures c.schema.ensures.number c.in-Ok-Some.ensures c.in-Ok-Some.field-0-is) ∙ is)
    c.apply_read.ensures.ok

pub returns-in-Ok-Some-clause-refused : goal.returns-in-Ok-Some-clause-refused
returns-in-Ok-Some-clause-refused c = λ refused.
    ap (by_change c.args.state.now) (says c.args.version c.args.state.now.store.usn c.usn.result c.args.state.now.store.schema c.schema.result.number c.args.body.now c.in-Ok-Some.field-0 c.in-Ok-Some.change c.usn.ensures c.schema.ensures.number c.in-Ok-Some.ensures c.in-Ok-Some.field-0-is) ∙ c.apply_read.ensures.refused refused
