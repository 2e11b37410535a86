-- Hints of who has a parent, and who has a name under it.
use Rattle.std.specs.Prelude.{◌≡◌, ◌+◌, ◌*◌, ◌^◌, ◌%◌, ◌&&◌, ℕ, List, Bool, true, Some, None, fold}
use Rattle.std.specs.Ordering.{nat_cmp, ordering_then, is_eq}
use Rattle.std.specs.Option.{option_cmp}
use Rattle.std.specs.declared.cmp.Ordering.{Ordering}
use Rattle.std.specs.BTreeSet.{BTreeSet, contains}
use Rattle.adr_values.specs.Order.{identifier_order}
use Rattle.adr_values.specs.Folding.{folded}
use Rattle.adr_model.specs.Update.{same_identifier}
use Rattle.adr_model.specs.Place.{Node, node_at}
use Rattle.adr_tree.specs.declared.hints.Hint.{Hint}

-- hints by parent, then by the name's number and by GUID
abbrev pub hint_order : Hint → Hint → Ordering
hint_order a b =
    ordering_then (identifier_order a.parent b.parent)
    (ordering_then (option_cmp nat_cmp a.number b.number) (option_cmp identifier_order a.guid b.guid))

-- a number of a text: texts with different numbers differ
abbrev pub number_of : List ℕ → ℕ
number_of text = fold (λ number byte. (number * 1099511628211 + byte) % 2 ^ 64) 0 text

-- the hint of a child, and the hint of a name
abbrev pub child_hint : Node → Hint
child_hint n = record { parent = n.parent; number = None; guid = Some n.object.guid }

abbrev pub name_hint : Node → Hint
name_hint n = record { parent = n.parent; number = Some (number_of (folded n.text)); guid = Some n.object.guid }

pub record IsHinted (hints : BTreeSet Hint) (n : Node) : Type 0 where
  pub child : contains hint_order hints (child_hint n) ≡ true
  pub name : contains hint_order hints (name_hint n) ≡ true

-- each live object has its hints; nothing says that a hint has an object
abbrev pub AreHinted : List Node → BTreeSet Hint → Type 0
AreHinted all hints = (n : Node) → node_at all n.object.guid ≡ Some n → IsHinted hints n

-- hints of one parent and one number of a name, or none, are in one run
abbrev pub is_in_run : Hint → Hint → Bool
is_in_run start h = same_identifier start.parent h.parent && is_eq (option_cmp nat_cmp start.number h.number)
