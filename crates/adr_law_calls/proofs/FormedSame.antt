-- An object whose rows are the same is as well formed as before.
use Rattle.std.proofs.Common.{◌≡◌, inl, inr, ℕ, List, true}
use Rattle.adr_values.specs.declared.stamp.Oid.{Oid}
use Rattle.adr_values.specs.Table.{Table}
use Rattle.adr_model.specs.Member.{Member, Each}
use Rattle.adr_model.specs.Update.{RowOf, Update, Said, class_attr, deleted_attr}
use Rattle.adr_model.specs.Reflects.{HoldsObject, IsTombstoned}
use Rattle.adr_model.specs.Take.{is_birth}
use Rattle.adr_model.specs.Formed.{HasRow, IsNamed, KeepsSchema, IsObjectFormed}

module _ (before after : List Update) (o : Oid) (to : (r : Update) (attr : ℕ) → r.key ≡ RowOf o attr → Member r before → Member r after) where
  pub row_same : (attr : ℕ) (P : Said → Type 0) → HasRow before o attr P → HasRow after o attr P
  row_same attr P (r, m, is, says) = (r, to r attr is m, is, says)

  pub named_same : IsNamed before o → IsNamed after o
  named_same n = record { class = n.class; of_class = row_same _ _ n.of_class; text = n.text; parent = n.parent; of_name = row_same _ _ n.of_name; well_named = n.well_named }

  module _ (back : (r : Update) (attr : ℕ) → r.key ≡ RowOf o attr → Member r after → Member r before) where
    pub held_same : HoldsObject after o → HoldsObject before o
    held_same (r, attr, m, is) = (r, attr, back r attr is m, is)

    pub dead_same : IsTombstoned after o → IsTombstoned before o
    dead_same (r, m, is) = (r, back r deleted_attr is m, is)

    pub births_same : Each (λ r. r.key ≡ RowOf o class_attr → is_birth o r ≡ true) before → Each (λ r. r.key ≡ RowOf o class_attr → is_birth o r ≡ true) after
    births_same b r m is = b r (back r class_attr is m) is

    keeps_same : (table : Table) (class : ℕ) → KeepsSchema table before o class → KeepsSchema table after o class
    keeps_same table class k = record {
      known = k.known;
      allowed = λ attr above r m is. k.allowed attr above r (back r attr is m) is;
      whole = λ attr must. row_same _ _ (k.whole attr must);
    }

    pub object_same : (table : Table) → IsObjectFormed table before o → IsObjectFormed table after o
    object_same table (inl d) = inl (record { dead = row_same _ _ d.dead; bare = λ attr above r m is. d.bare attr above r (back r attr is m) is })
    object_same table (inr (lives, keeps)) = inr ((λ t. lives (dead_same t)), λ class (r, m, is, says). keeps_same table class (keeps class (r, back r class_attr is m, is, says)))
