use Rattle.std.proofs.Common.{sym, ap, ◌∙◌, arith}
use Rattle.std.proofs.lemmas.Cmp.{nat_list_cmp_total}
use Rattle.adr_change.proofs.Entered.{entered, lacking}
use Rattle.adr_state.proofs.marks.Marks.len_with.Goals as goal

pub returns-then-contains_key : goal.returns-then-contains_key
returns-then-contains_key c kept =
    let long = entered nat_list_cmp_total c.self.inside.map.entries c.args.partner kept c.self.invariant in
    let there = ap lacking (sym c.contains_key.ensures ∙ c.if-contains_key.true) in
    rw (← c.self.view_is) (omega (arith, long, there, c.len-len.ensures.len))

pub returns-else-contains_key : goal.returns-else-contains_key
returns-else-contains_key c kept =
    let long = entered nat_list_cmp_total c.self.inside.map.entries c.args.partner kept c.self.invariant in
    let there = ap lacking (sym c.contains_key.ensures ∙ c.if-contains_key.false) in
    rw (← c.self.view_is) (omega (arith, long, there, c.len-len.ensures.len))
