use Rattle.std.proofs.Common.{◌+◌, None, sym, ap, ◌∙◌, subst, length, arith}
use Rattle.std.specs.List.{cons_option}
use Rattle.adr_table.specs.Lasts.{AreAmong, AreLasts, lasts_hinted}
use Rattle.adr_table.specs.Slots.{rows_seen}
use Rattle.adr_table.proofs.Lasts.{all_behind, none_behind, one_passed}
use Rattle.adr_table.proofs.walk.first_behind.Goals as goal

pub returns-then-usn-last : goal.returns-then-usn-last
returns-then-usn-last c =
    let rows = rows_seen c.args.slots.now in
    let rest = lasts_hinted rows c.next_last.new.hints in
    let is = c.next_last.ensures.same ∙ ap (λ o. cons_option o rest) c.in-Some.is in
    all_behind rows c.args.usn c.in-Some.last rest (subst (AreAmong rows c.args.usn) is c.loop-last.invariant) c.if-usn-last.true

pub loop-last-preserved : goal.loop-last-preserved
loop-last-preserved c =
    let rows = rows_seen c.args.slots.now in
    let rest = lasts_hinted rows c.next_last.new.hints in
    let is = c.next_last.ensures.same ∙ ap (λ o. cons_option o rest) c.in-Some.is in
    one_passed rows c.args.usn c.in-Some.last rest (subst (AreAmong rows c.args.usn) is c.loop-last.invariant) c.if-usn-last.false

pub loop-last-smaller : goal.loop-last-smaller
loop-last-smaller c =
    let rest = lasts_hinted (rows_seen c.args.slots.now) c.next_last.new.hints in
    let is = c.next_last.ensures.same ∙ ap (λ o. cons_option o rest) c.in-Some.is in
    omega (arith, ap length is)

pub returns : goal.returns
returns c =
    let rows = rows_seen c.args.slots.now in
    let rest = lasts_hinted rows c.next_last.new.hints in
    let is = c.next_last.ensures.same ∙ ap (λ o. cons_option o rest) c.in_default.is in
    subst (AreLasts rows (c.args.usn + 1)) (sym (ap (λ es. cons_option None es) (c.in_default.ensures.none))) (none_behind rows c.args.usn (subst (AreAmong rows c.args.usn) (is ∙ c.in_default.ensures.none) c.loop-last.invariant))
