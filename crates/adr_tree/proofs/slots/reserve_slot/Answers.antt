use Rattle.std.proofs.Common.{◌≡◌, ◌∙◌, arith, rules, sym, ap, subst, None, Option}
use Rattle.std.specs.Prelude.{IfSome, IsSome, unwrap_or}
use Rattle.std.specs.BTreeMap.{BTreeMap, get, is_at}
use Rattle.std.specs.BTreeMap.Entry.{map_with_value}
use Rattle.adr_values.specs.Order.{identifier_order}
use Rattle.adr_model.specs.Update.{Identifier}
use Rattle.adr_model.specs.Place.{Node}
use Rattle.adr_tree.specs.Slots.{AreAtHome, IsTidy, seen}
use Rattle.adr_update.proofs.Slots.{still_some}
use Rattle.adr_tree.proofs.Seen.{held_at, held_home, home_still, same_seen}
use Rattle.adr_tree.proofs.slots.reserve_slot.Goals as goal

pub returns-clause-seen : goal.returns-clause-seen
returns-clause-seen c =
    let value = c.or_insert.result.now in
    let after = map_with_value c.in_ok-slots.field-0 value in
    let held : value ≡ held_at c.args.slots.now.entries c.args.guid = c.or_insert.ensures.value ∙ ap (λ (o : Option (Option Node)). unwrap_or o None) c.in_ok-slots.ensures.value in
    let same : seen after.entries ≡ seen c.args.slots.now.entries =
    ap seen (c.in_ok-slots.ensures.update.1 value) ∙ same_seen c.args.slots.now.entries c.args.guid value c.requires.ordered held
    in
    grind (arith, same)

tidy_along : (n m : BTreeMap Identifier (Option Node)) → n ≡ m → IsTidy m → IsTidy n
tidy_along n m e tidy = subst IsTidy (sym e) tidy

pub returns-clause-tidy : goal.returns-clause-tidy
returns-clause-tidy c =
    let value = c.or_insert.result.now in
    let after = map_with_value c.in_ok-slots.field-0 value in
    let held : value ≡ held_at c.args.slots.now.entries c.args.guid = c.or_insert.ensures.value ∙ ap (λ (o : Option (Option Node)). unwrap_or o None) c.in_ok-slots.ensures.value in
    let own : IfSome value (λ n. n.object.guid ≡ c.args.guid) =
    subst (λ o. IfSome o (λ n. n.object.guid ≡ c.args.guid)) (sym held) (held_home c.args.slots.now.entries c.args.guid c.requires.home)
    in
    let tidy : IsTidy after = record {
      ordered = c.in_ok-slots.ensures.update.2 value;
      home = subst AreAtHome (sym (c.in_ok-slots.ensures.update.1 value)) (home_still c.args.slots.now.entries c.args.guid value own c.requires.home);
    } in
    search (rules, tidy_along, tidy)

pub returns-clause-more : goal.returns-clause-more
returns-clause-more c q some =
    let value = c.or_insert.result.now in
    let after = map_with_value c.in_ok-slots.field-0 value in
    let still : IsSome (get identifier_order after q) =
    subst IsSome (sym ((c.in_ok-slots.ensures.update.0 value).0 q)) (still_some (is_at (identifier_order c.args.guid) q) value _ some)
    in
    grind (arith, still)
