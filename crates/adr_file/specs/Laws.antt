-- Why a disk over a file is honest.
use Rattle.std.specs.Prelude.{List, ℕ, Option, Some, None, IfSome, refl}
use Rattle.std.specs.Option.{ForSome, option_map}
use Rattle.adr_file.specs.Device.{bytes_of, AsBytes}

pub file_honest : (told : Option (Option (List ℕ))) (may_leave : Option (List ℕ) → Type 0) → ForSome told may_leave → IfSome (option_map bytes_of told) (AsBytes may_leave)
file_honest None may_leave honest = tt
file_honest (Some there) may_leave honest = (there, honest there refl, refl)
