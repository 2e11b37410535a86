-- What every schema keeps to.
use Rattle.std.specs.Prelude.{◌≡◌, ◌↔◌, ℕ, ◌+◌, map, false, Some}
use Rattle.std.specs.List.{slice_get}
use Rattle.std.specs.List.Sorted.{IsStrictlySortedBy}
use Rattle.std.specs.Ordering.{nat_cmp}
use Rattle.adr_values.specs.declared.table.Kind.TheVariants.{Forward, Back}
use Rattle.adr_values.specs.Table.{Class, Table, is_superior, kind_at}

-- the numbers of classes and attributes rise, and so each has one entry; the first of the attributes that a class must
-- have is the least; each forward link has its back link, which is the next attribute; nothing stands under LostAndFound, whose
-- class is 2
pub record IsOrderly (t : Table) : Type 0 where
  pub classes : IsStrictlySortedBy nat_cmp (map (λ c. c.number) t.classes)
  pub attributes : IsStrictlySortedBy nat_cmp (map (λ a. a.number) t.attributes)
  pub musts : (place : ℕ) (c : Class) → slice_get t.classes place ≡ Some c → IsStrictlySortedBy nat_cmp c.must
  pub links : (forward back : ℕ) → (kind_at t forward ≡ Some (Forward back)) ↔ (kind_at t back ≡ Some (Back forward))
  pub next : (forward back : ℕ) → kind_at t forward ≡ Some (Forward back) → back ≡ forward + 1
  pub lost_and_found : (class : ℕ) → is_superior t class 2 ≡ false
