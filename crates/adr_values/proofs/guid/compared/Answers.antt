use Rattle.std.proofs.Common.{ap, sym, ◌∙◌}
use Rattle.std.specs.Ordering.{nat_cmp}
use Rattle.adr_values.proofs.GuidOrder.{value, all_fit, order, spells}
use Rattle.adr_values.proofs.guid.compared.Goals as goal

pub returns : goal.returns
returns c =
    let mine = c.args.mine.now in
    let theirs = c.args.theirs.now in
    let first = c.bytes_fit.ensures in
    let second = c.bytes_fit-2.ensures in
    c.cmp.ensures
    ∙ (ap (λ n. nat_cmp n c.from_be_bytes-2.result) (c.from_be_bytes.ensures ∙ sym (spells mine first.length))
    ∙ (ap (λ n. nat_cmp (value mine) n) (c.from_be_bytes-2.ensures ∙ sym (spells theirs second.length))
    ∙ sym (order mine theirs (all_fit mine 16 first.length first.fit) (all_fit theirs 16 second.length second.fit) (first.length ∙ sym second.length))))
