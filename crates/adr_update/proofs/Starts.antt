-- The keys from a start on.
use Rattle.std.proofs.Common.{◌≡◌, refl, List, [], ◌∷◌, Bool, true, false, cond, not, ◌&&◌, filter}
use Rattle.std.specs.List.{AllByRecursion}
use Rattle.std.specs.BTreeMap.Range.{IsLeBy, range_contains}
use Rattle.std.specs.Ordering.{is_gt, is_le}
use Rattle.std.specs.declared.ops.Bound.TheVariants.{Included, Unbounded}
use Rattle.std.specs.declared.cmp.Ordering.{Ordering}
use Rattle.std.specs.declared.cmp.Ordering.TheVariants.{Less, Equal, Greater}

module _ {K : Type 0} (order : K → K → Ordering) (start : K) where
  abbrev is_on : K → Bool
  is_on key = range_contains order (Included start) Unbounded key

  from_one : (key : K) → is_on key ≡ true → IsLeBy order start key
  from_one key on = by (order start key) on
    where
      by : (x : Ordering) → (is_le x && not false) ≡ true → is_gt x ≡ false
      by Less e = refl
      by Equal e = refl
      by Greater e = cc

  pub from_all : (keys : List K) → AllByRecursion (λ key. IsLeBy order start key) (filter (range_contains order (Included start) Unbounded) keys)
  from_all [] = tt
  from_all (key ∷ keys) = by (is_on key) refl (from_all keys)
    where
      rest : List K
      rest = filter is_on keys

      by : (t : Bool) → is_on key ≡ t → AllByRecursion (λ k. IsLeBy order start k) rest → AllByRecursion (λ k. IsLeBy order start k) (cond t (key ∷ rest) rest)
      by true on h = (from_one key on, h)
      by false on h = h
