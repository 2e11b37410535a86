use Rattle.std.proofs.Common.{inr, ℕ, List, sym, ◌∙◌, subst, arith}
use Rattle.adr_model.specs.Lengths.{Log, first_area, new_log}
use Rattle.adr_law_journal.specs.Areas.{found}
use Rattle.adr_law_journal.specs.Kept.{Rests}
use Rattle.adr_law_journal.proofs.Told.{some_is}
use Rattle.adr_journal.specs.Kept.{ids_of}
use Rattle.adr_journal.proofs.Begun.{new_layout, new_rests, new_at}
use Rattle.adr_test_plain.specs.Kept.{told_as, StaysAs, IsAtBytes}
use Rattle.adr_test_plain.specs.Laws.{log_tells}
use Rattle.adr_test_plain.proofs.PlainKeeper.format.Goals as goal

pub returns-clause-ok : goal.returns-clause-ok
returns-clause-ok g c =
    let f = g.F.Form in
    let law = g.met.F.Form in
    let s = c.args.state.now in
    let begins = c.requires.begins in
    let front = f.front_of (ids_of s) in
    let is_head = law.tells_front s (law.begins_formed s begins) in
    let bytes = c.in-Ok-opened.bytes.items in
    let l = new_layout f.head f.area f.following front (f.area_of s) s is_head in
    let written = c.deref.result.now in
    let there = new_rests f.head f.area f.following front (f.area_of s) s is_head (law.tells_area first_area s begins c.in-Ok.ensures.short) (law.area_length s begins) written (c.deref.ensures.value ∙ c.in-Ok.ensures.bytes) in
    let rests : Rests l s (new_log s) bytes = subst (λ (y : List ℕ). Rests l s (new_log s) y) (sym c.in-Ok-opened.ensures) there in
    subst (λ (log : Log). IsAtBytes f.head f.area f.following bytes log (found s (new_log s))) (sym c.in-Ok.ensures.log)
    (new_at f.head f.area f.following front (f.area_of s) s is_head told_as StaysAs bytes c.in-Ok.ensures.short (record {
      at_rest = λ there told. subst (λ (y : List ℕ). Rests l s (new_log s) y) (some_is bytes there told) rests;
      synced = λ there told left same. same ∙ some_is bytes there told;
    }))

pub returns-clause-any_moment : goal.returns-clause-any_moment
returns-clause-any_moment g c =
    let f = g.F.Form in
    let s = c.args.state.now in
    let tells = log_tells f.head f.area f.following c.in-Ok-opened.bytes.items c.in-Ok.both.1 (found s (new_log s)) (returns-clause-ok g c) in
    record { later = omega arith; each = λ t left. inr (left ∙ tells); before = λ n t le left. inr (inr (left ∙ tells)) }

pub returns-clause-left : goal.returns-clause-left
returns-clause-left g c = λ t left.
    let f = g.F.Form in
    let s = c.args.state.now in
    inr (left ∙ log_tells f.head f.area f.following c.in-Ok-opened.bytes.items c.in-Ok.both.1 (found s (new_log s)) (returns-clause-ok g c))
