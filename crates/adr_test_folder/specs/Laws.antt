-- Why a folder in memory is honest, and what its moments are.
use Rattle.std.specs.Prelude.{◌≡◌, ◌⊎◌, ℕ, Bool, true, false, List, [], ◌∷◌, length, drop, Option, Some, None, refl, unwrap_or}
use Rattle.std.proofs.Common.{inl, inr, ap, subst}
use Rattle.std.specs.Option.{ForSome}
use Rattle.adr_test_folder.specs.Kept.{Kept, FolderState, file_of, some_if, IsLeft, IsLeftByOne, IsLeftSince}

abbrev left_by : Bool → Bool → List ℕ → List ℕ → Option (List ℕ) → Type 0
left_by is_there is_named synced bytes left = (((is_named ≡ false) ⊎ (is_there ≡ false)) × (left ≡ None)) ⊎ ((is_there ≡ true) × ((left ≡ Some synced) ⊎ (left ≡ Some bytes)))

by_name : (is_there is_named : Bool) (synced bytes : List ℕ) → left_by is_there is_named synced bytes (some_if is_there bytes)
by_name true is_named synced bytes = inr (refl, inr refl)
by_name false is_named synced bytes = inl (inr refl, refl)

pub kept_honest : (k : Kept) → ForSome (Some (file_of k)) (IsLeft k)
kept_honest k = λ there is. subst (IsLeft k) (ap (λ o. unwrap_or o there) is) (by_name k.is_there k.is_named k.synced k.bytes)

pub now_counts : (s : FolderState) (t : ℕ) (left : Option (List ℕ)) → IsLeft s.kept left → IsLeftSince s t left
now_counts s t left now = inl now

none_left : (ks : List Kept) (left : Option (List ℕ)) → IsLeftByOne (drop (length ks) ks) left → ⊥
none_left [] left had = had
none_left (k ∷ ks) left had = none_left ks left had

pub now_only : (s : FolderState) (left : Option (List ℕ)) → IsLeftSince s (length s.past) left → IsLeft s.kept left
now_only s left (inl now) = now
now_only s left (inr had) = absurd (none_left s.past left had)
