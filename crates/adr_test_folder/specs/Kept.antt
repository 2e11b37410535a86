-- What a folder in memory has of its file, and what a crash may leave of that.
use Rattle.std.specs.Prelude.{◌≡◌, ◌⊎◌, ℕ, Bool, true, false, List, [], ◌∷◌, drop, Option, Some, None}
use Rattle.adr_file.specs.declared.folder.Identity.{Identity}

-- whether the file is there, and whether its name is safe; its bytes as they were synced, and as they read
pub record Kept : Type 0 where
  pub is_there : Bool
  pub is_named : Bool
  pub synced : List ℕ
  pub bytes : List ℕ

-- what it has now, what it had at each earlier moment, and what is known of the open file
pub record FolderState : Type 0 where
  pub kept : Kept
  pub past : List Kept
  pub is_open : Bool
  pub is_seen : Bool
  pub is_sure : Bool

abbrev pub some_if : {A : Type 0} → Bool → A → Option A
some_if true x = Some x
some_if false x = None

-- the file as it reads
abbrev pub file_of : Kept → Option (List ℕ)
file_of k = some_if k.is_there k.bytes

-- A crash leaves none of the unsynced writes or all of them, or no file, where the name isn't safe.
abbrev pub IsLeft : Kept → Option (List ℕ) → Type 0
IsLeft k left = (((k.is_named ≡ false) ⊎ (k.is_there ≡ false)) × (left ≡ None)) ⊎ ((k.is_there ≡ true) × ((left ≡ Some k.synced) ⊎ (left ≡ Some k.bytes)))

-- one of these leaves it
abbrev pub IsLeftByOne : List Kept → Option (List ℕ) → Type 0
IsLeftByOne [] left = ⊥
IsLeftByOne (k ∷ ks) left = IsLeft k left ⊎ IsLeftByOne ks left

-- what a crash might have left since a moment
abbrev pub IsLeftSince : FolderState → ℕ → Option (List ℕ) → Type 0
IsLeftSince s t left = IsLeft s.kept left ⊎ IsLeftByOne (drop t s.past) left

-- the one file of such a folder
abbrev pub the_file : Identity
the_file = record { device = 1; number = 1; names = 1 }
