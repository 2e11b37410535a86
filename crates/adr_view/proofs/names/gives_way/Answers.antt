use Rattle.std.proofs.Common.{◌≡◌, ℕ, List, Option, Some, false, subst, ap, ◌∙◌}
use Rattle.std.specs.BTreeMap.{get}
use Rattle.std.specs.Option.{option_copied, option_map_or}
use Rattle.adr_view.specs.Slots.{slot_order}
use Rattle.adr_view.specs.Youngest.{Rank, is_before, rank_of}
use Rattle.adr_view.proofs.names.gives_way.Goals as goal

pub returns-in-Some : goal.returns-in-Some
returns-in-Some c =
    let names = c.args.names.now.map in
    let found : Some c.in-Some.youngest.now ≡ get slot_order names c.new.result = subst (λ r. option_copied r ≡ get slot_order names c.new.result) c.in-Some.is c.get.ensures.value in
    c.is_before.ensures
    ∙ (ap (λ (r : Rank). is_before r c.in-Some.youngest.now) c.rank_of.ensures
    ∙ ap (λ (o : Option Rank). option_map_or (is_before (rank_of c.args.node.now)) o false)
    (found ∙ ap (get slot_order names) (c.new.ensures ∙ ap (λ (name : List ℕ). (c.args.place, name)) c.name.ensures)))
