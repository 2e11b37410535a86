use Rattle.std.proofs.Common.{◌≡◌, ◌∙◌, arith, sym, ap, subst, Bool, false, Option}
use Rattle.std.specs.Prelude.{IsSome, unwrap_or}
use Rattle.std.specs.BTreeMap.{get, is_at}
use Rattle.std.specs.BTreeMap.Entry.{map_with_value}
use Rattle.adr_values.specs.Order.{identifier_order}
use Rattle.adr_update.proofs.Slots.{still_some}
use Rattle.adr_tree.specs.Slots.{flag_at}
use Rattle.adr_tree.proofs.Seen.{same_flag}
use Rattle.adr_tree.proofs.slots.reserve_flag.Goals as goal

pub returns-clause-same : goal.returns-clause-same
returns-clause-same c g =
    let value = c.or_insert.result.now in
    let after = map_with_value c.in_ok-flags.field-0 value in
    let held : value ≡ flag_at c.args.flags.now c.args.guid = c.or_insert.ensures.value ∙ ap (λ (o : Option Bool). unwrap_or o false) c.in_ok-flags.ensures.value in
    let same : flag_at after g ≡ flag_at c.args.flags.now g =
    ap (λ o. unwrap_or o false) ((c.in_ok-flags.ensures.update.0 value).0 g)
    ∙ same_flag (get identifier_order c.args.flags.now) c.args.guid g value held
    in
    grind (arith, same)

pub returns-clause-more : goal.returns-clause-more
returns-clause-more c q some =
    let value = c.or_insert.result.now in
    let after = map_with_value c.in_ok-flags.field-0 value in
    let still : IsSome (get identifier_order after q) =
    subst IsSome (sym ((c.in_ok-flags.ensures.update.0 value).0 q)) (still_some (is_at (identifier_order c.args.guid) q) value _ some)
    in
    grind (arith, still)
