-- Lists that rise in an order.
use Rattle.std.specs.Prelude.{◌≡◌, List, [], ◌∷◌, fold}
use Rattle.std.specs.declared.cmp.Ordering.{Ordering}
use Rattle.std.specs.declared.cmp.Ordering.TheVariants.{Less}
use Rattle.std.specs.BTreeSet.{insert_key}
use Rattle.adr_model.specs.Member.{Each}

-- each member is below those that follow it
abbrev pub Rises : {A : Type 0} → (A → A → Ordering) → List A → Type 0
Rises R [] = Unit {0}
Rises R (x ∷ xs) = Each (λ y. R x y ≡ Less) xs × Rises R xs

-- keys in an order, each once
abbrev pub in_order : {K : Type 0} → (K → K → Ordering) → List K → List K
in_order R ks = fold (insert_key R) [] ks
