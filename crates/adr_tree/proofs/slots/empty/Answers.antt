use Rattle.std.proofs.Common.{◌≡◌, ◌∙◌, sym, ap, subst, Option, Some, None, refl}
use Rattle.std.specs.Prelude.{IfNone, IsSome}
use Rattle.std.specs.Option.{option_copied_mut}
use Rattle.std.specs.BTreeMap.{get, is_at}
use Rattle.adr_values.specs.Order.{identifier_order}
use Rattle.adr_model.specs.Place.{Node}
use Rattle.adr_tree.specs.Slots.{AreAtHome, IsTidy, flat, seen, slot_at}
use Rattle.adr_update.proofs.Slots.{still_some}
use Rattle.adr_tree.proofs.Seen.{emptied_home, emptied_seen, none_still}
use Rattle.adr_tree.proofs.slots.empty.Goals as goal

if_none : (o : Option Node) (P : Type 0) → (o ≡ None → P) → IfNone o P
if_none None P holds = holds refl
if_none (Some n) P holds = tt

pub returns-in-Some-clause-tidy : goal.returns-in-Some-clause-tidy
returns-in-Some-clause-tidy c =
    let empties = c.get_mut.follows.holds None in
    let tidy : IsTidy (c.get_mut.follows.lender None) = record {
      ordered = empties.4;
      home = subst AreAtHome (sym empties.0) (emptied_home c.args.slots.now.entries c.args.guid c.requires.home);
    } in
    subst (λ (o : Option Node). IsTidy (c.get_mut.follows.lender o)) (sym c.take.ensures.after) tidy

pub returns-in-Some-clause-more : goal.returns-in-Some-clause-more
returns-in-Some-clause-more c q some =
    let empties = c.get_mut.follows.holds None in
    let was = subst (λ r. option_copied_mut r ≡ get identifier_order c.args.slots.now c.args.guid) c.in-Some.is c.get_mut.ensures.value in
    subst (λ (o : Option Node). IsSome (get identifier_order (c.get_mut.follows.lender o) q)) (sym c.take.ensures.after)
    (subst IsSome (sym ((empties.3 (subst IsSome was refl)).0 q)) (still_some (is_at (identifier_order c.args.guid) q) None _ some))

pub returns-in-Some-clause-none : goal.returns-in-Some-clause-none
returns-in-Some-clause-none c =
    let was = subst (λ r. option_copied_mut r ≡ get identifier_order c.args.slots.now c.args.guid) c.in-Some.is c.get_mut.ensures.value in
    if_none c.take.result _
    (λ gone. subst (λ (o : Option Node). seen (c.get_mut.follows.lender o).entries ≡ seen c.args.slots.now.entries) (sym c.take.ensures.after)
    (ap seen (c.get_mut.follows.holds None).0 ∙ emptied_seen c.args.slots.now.entries c.args.guid (ap flat (sym was) ∙ sym c.take.ensures.value ∙ gone)))

pub returns-in-None-clause-nodes : goal.returns-in-None-clause-nodes
returns-in-None-clause-nodes c g =
    ap (λ m. slot_at m g) c.get_mut.follows.holds-at-none
    ∙ none_still (get identifier_order c.args.slots.now) c.args.guid g (sym c.get_mut.ensures.value ∙ ap option_copied_mut c.in-None.is)
