-- A list of nodes that is kept is that of the definitions.
use Rattle.std.proofs.Common.{◌≡◌, ℕ, Bool, true, false, cond, not, ◌==◌, List, [], ◌∷◌, Some, refl, find}
use Rattle.std.specs.Prelude.{if◌then◌else◌, nat_le}
use Rattle.std.specs.List.{list_all}
use Rattle.std.specs.Option.{option_map_or}
use Rattle.std.proofs.lemmas.Bool.{and_parts, not-true}
use Rattle.adr_values.specs.Table.{Class, has, is_superior}
use Rattle.adr_values.specs.Schemas.{schema_1, schema_2}
use Rattle.adr_model.specs.Store.{updates_of}
use Rattle.adr_law_tree.specs.Kept.{TreeLaw, LostSuperiorLaw}
use Rattle.adr_law_tree.specs.Edits.{tree_of}
use Rattle.adr_law_tree.proofs.InOrder.{order_law, look_up_law}
use Rattle.adr_law_tree.proofs.RisingRows.{rising_updates}

pub tree_law : TreeLaw
tree_law rows rising all s same = look_up_law all (tree_of rows) s (order_law (updates_of rows) (rising_updates rows rising)) same

none_has : (test : Class → Bool) (cs : List Class) → list_all (λ (c : Class). not (has c.superiors 2)) cs ≡ true → has (option_map_or (λ (c : Class). c.superiors) (find test cs) []) 2 ≡ false
none_has test [] e = refl
none_has test (c ∷ cs) e = by (test c) (none_has test cs (and_parts (not (has c.superiors 2)) (list_all (λ (c : Class). not (has c.superiors 2)) cs) e).1)
  where
    by : (b : Bool) → has (option_map_or (λ (c : Class). c.superiors) (find test cs) []) 2 ≡ false → has (option_map_or (λ (c : Class). c.superiors) (cond b (Some c) (find test cs)) []) 2 ≡ false
    by true rest = not-true (has c.superiors 2) (and_parts (not (has c.superiors 2)) (list_all (λ (c : Class). not (has c.superiors 2)) cs) e).0
    by false rest = rest

in_schema_1 : (class : ℕ) → is_superior schema_1 class 2 ≡ false
unfolding schema_1
in_schema_1 class = none_has (λ c. c.number == class) schema_1.classes refl

in_schema_2 : (class : ℕ) → is_superior schema_2 class 2 ≡ false
unfolding schema_2
in_schema_2 class = none_has (λ c. c.number == class) schema_2.classes refl

pub lost_superior_law : LostSuperiorLaw
lost_superior_law schema class = by (nat_le schema 1)
  where
    by : (b : Bool) → is_superior (if b then schema_1 else schema_2) class 2 ≡ false
    by true = in_schema_1 class
    by false = in_schema_2 class
