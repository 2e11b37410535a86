-- What is known of a folder over which a disk stands, and what calls of that disk make of it, as bytes.
use Rattle.std.specs.Prelude.{◌≡◌, ◌↔◌, ℕ, Bool, true, false, List, [], IsSome}
use Rattle.std.specs.Option.{ForSome}
use Rattle.adr_disk.specs.Disk.{Among, Elapses, Keeps}
use Rattle.adr_file.specs.declared.device.Folder.{Ghosts}
use Rattle.adr_file.specs.Device.{bytes_of, AsBytes, IsNamed, IsOwn, Stays}

-- what is told of the file stays, and so do all outcomes of a crash
abbrev pub KeepsFile : {F : Type 0} → Ghosts F → F → F → Type 0
KeepsFile {F} f old new = Keeps f.file f.may_leave f.moment f.left_since old new

-- the same file is open under its name, and as sure
abbrev pub StaysOpen : {F : Type 0} → Ghosts F → F → F → Type 0
StaysOpen {F} f old new = Stays f.named f.opened f.is_sure old new

abbrev pub IsOwnFile : {F : Type 0} → Ghosts F → F → Type 0
IsOwnFile {F} f folder = IsOwn f.file f.named f.opened folder

-- Calls that may change the file: a crash leaves one of these byte lists, behind them and at each moment of them.
pub record Turns {F : Type 0} (f : Ghosts F) (old new : F) (outcomes : List ℕ → Type 0) : Type 0 where
  pub told : IsSome (f.file new) ↔ IsSome (f.file old)
  pub crash : Among outcomes (AsBytes (f.may_leave new))
  pub time : Elapses (f.moment old) (f.moment new) (λ t. AsBytes (f.left_since old t)) (λ t. AsBytes (f.left_since new t)) outcomes

-- What a disk knows of its folder while it has a name, or none.
pub record IsKnown {F : Type 0} (f : Ghosts F) (folder : F) (is_attached is_open is_name_safe : Bool) : Type 0 where
  -- an open file is that of the name, and what a read gives is sure
  pub own : is_open ≡ true → IsOwnFile f folder
  pub sure : is_open ≡ true → f.is_sure folder
  -- where none is open, there are no bytes
  pub none : is_attached ≡ true → is_open ≡ false → ForSome (f.file folder) (λ there. bytes_of there ≡ [])
  -- where the name is safe, a crash leaves it
  pub named : is_name_safe ≡ true → ForSome (f.file folder) (λ there. IsNamed there (f.may_leave folder))
