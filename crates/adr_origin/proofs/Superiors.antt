-- No object may stand under LostAndFound.
use Rattle.std.proofs.Common.{◌≡◌, ℕ, Bool, true, false, List, refl, sym, ap, ◌∙◌}
use Rattle.std.proofs.lemmas.Map.Lookups.{exact_bytes}
use Rattle.adr_values.specs.Order.{identifier_order}
use Rattle.adr_values.specs.Numbered.{numbered}
use Rattle.adr_values.specs.Table.{is_superior}
use Rattle.adr_model.specs.Update.{Identifier, same_identifier}
use Rattle.adr_model.specs.Place.{Node, lost_and_found}
use Rattle.adr_model.specs.Write.{class_of_place}
use Rattle.adr_model.proofs.Keys.{equal_order}
use Rattle.adr_law_tree.proofs.Trees.{lost_superior_law}

lost_class : (nodes : List Node) (parent : Identifier) → same_identifier parent lost_and_found ≡ true → class_of_place nodes parent ≡ 2
lost_class nodes parent e = let same : parent ≡ lost_and_found = exact_bytes parent lost_and_found (equal_order (identifier_order parent lost_and_found) e) in ap (class_of_place nodes) same

-- a parent under which an object may stand isn't LostAndFound
pub other_than_lost : (nodes : List Node) (schema class : ℕ) (parent : Identifier) → is_superior (numbered schema) class (class_of_place nodes parent) ≡ true → same_identifier parent lost_and_found ≡ false
other_than_lost nodes schema class parent may = by (same_identifier parent lost_and_found) refl
  where
    by : (b : Bool) → same_identifier parent lost_and_found ≡ b → b ≡ false
    by false is = refl
    by true is = let none = sym may ∙ (ap (is_superior (numbered schema) class) (lost_class nodes parent is) ∙ lost_superior_law schema class) in absurd (cc)
