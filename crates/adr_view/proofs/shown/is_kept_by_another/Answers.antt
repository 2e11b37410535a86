use Rattle.std.proofs.Common.{◌≡◌, ℕ, List, Bool, true, false, ◌&&◌, ◌||◌, sym, ap, ap₂, ◌∙◌}
use Rattle.std.specs.Prelude.{codes}
use Rattle.std.specs.BTreeMap.{BTreeMap, get}
use Rattle.std.specs.Option.{option_map_or}
use Rattle.std.specs.Str.{bytes_eq}
use Rattle.adr_values.specs.Folding.{folded}
use Rattle.adr_model.specs.Place.{Node, place, root}
use Rattle.adr_model.specs.Shown.{gives_way, is_lost_name}
use Rattle.adr_model.specs.Update.{Identifier, same_identifier}
use Rattle.adr_view.specs.Slots.{Slot, slot_order}
use Rattle.adr_view.specs.Youngest.{AreYoungest, Rank, is_before, rank_of}
use Rattle.adr_view.proofs.YoungestNames.{gives_way_is}
use Rattle.adr_view.proofs.shown.is_kept_by_another.Goals as goal

-- what is found of the youngest name tells whether the object gives way
told : (all : List Node) (names : BTreeMap Slot Rank) → AreYoungest all names → (n : Node) (at : Identifier) (gives : Bool) → at ≡ place all n
    → gives ≡ option_map_or (is_before (rank_of n)) (get slot_order names (at, folded n.text)) false → gives ≡ gives_way all n
told all names youngest n at gives there found =
    found ∙ (ap (λ (g : Identifier). option_map_or (is_before (rank_of n)) (get slot_order names (g, folded n.text)) false) there ∙ gives_way_is all names youngest n)

gave : (all : List Node) (n : Node) (gives : Bool) → gives ≡ true → gives ≡ gives_way all n → gives ≡ (gives_way all n || is_lost_name (place all n) n.text)
gave all n gives is way = is ∙ sym (ap (λ b. b || is_lost_name (place all n) n.text) (sym way ∙ is))

lost : (all : List Node) (n : Node) (gives is_lost : Bool) (at : Identifier) (name : List ℕ) → gives ≡ false → gives ≡ gives_way all n → at ≡ place all n → name ≡ folded n.text
    → is_lost ≡ (same_identifier at root && bytes_eq name (folded (codes "LostAndFound"))) → is_lost ≡ (gives_way all n || is_lost_name (place all n) n.text)
lost all n gives is_lost at name is way there named found =
    found
    ∙ (ap₂ (λ (g : Identifier) (text : List ℕ). same_identifier g root && bytes_eq text (folded (codes "LostAndFound"))) there named
    ∙ sym (ap (λ b. b || is_lost_name (place all n) n.text) (sym way ∙ is)))

pub returns-then-gives_way : goal.returns-then-gives_way
returns-then-gives_way c = λ nodes youngest there.
    gave nodes c.args.node.now c.gives_way.result c.if-gives_way.true
    (told nodes c.args.names.now.map youngest c.args.node.now c.args.place c.gives_way.result there c.gives_way.ensures)

pub returns-else-gives_way : goal.returns-else-gives_way
returns-else-gives_way c = λ nodes youngest there.
    lost nodes c.args.node.now c.gives_way.result c.is_lost_name.result c.args.place c.name.result.now c.if-gives_way.false
    (told nodes c.args.names.now.map youngest c.args.node.now c.args.place c.gives_way.result there c.gives_way.ensures)
    there c.name.ensures c.is_lost_name.ensures
