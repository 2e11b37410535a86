-- A file that is told, as the bytes of a disk.
use Rattle.std.proofs.Common.{◌≡◌, ℕ, List, Option, Some, None, IfSome, IsSome, ◌↔◌, refl, ap, ◌∙◌}
use Rattle.std.specs.Prelude.{Result, Ok, Err, IfOk, OnOk}
use Rattle.std.specs.Option.{ForSome, option_map}
use Rattle.adr_disk.specs.Disk.{Keeps}
use Rattle.adr_file.specs.declared.device.Folder.{Ghosts}
use Rattle.adr_file.specs.Device.{bytes_of, AsBytes}
use Rattle.adr_file.specs.Known.{KeepsFile}
use Rattle.adr_file.specs.State.{FileState}

pub if_file : (o : Option (Option (List ℕ))) (P : List ℕ → Type 0) → ((there : Option (List ℕ)) → o ≡ Some there → P (bytes_of there)) → IfSome (option_map bytes_of o) P
if_file None P h = tt
if_file (Some there) P h = h there refl

pub told_bytes : (o p : Option (Option (List ℕ))) → IsSome p ↔ IsSome o → IsSome (option_map bytes_of p) ↔ IsSome (option_map bytes_of o)
told_bytes None None told = (λ some. some, λ some. some)
told_bytes None (Some y) told = (told.0, λ some. refl)
told_bytes (Some x) None told = (λ some. refl, told.1)
told_bytes (Some x) (Some y) told = (λ some. refl, λ some. refl)

pub told_ok : {T E : Type 0} (r : Result T E) (o : Option (Option (List ℕ))) (P : T → List ℕ → Type 0) → IfOk r (λ x. ForSome o (λ there. P x (bytes_of there))) → IfOk r (λ x. IfSome (option_map bytes_of o) (P x))
told_ok (Ok x) o P h = if_file o (P x) h
told_ok (Err e) o P h = tt

-- behind a call that left the file as it was
pub told_same : {T E : Type 0} (r : Result T E) (old new : Option (Option (List ℕ))) (P : List ℕ → Type 0) → OnOk r (new ≡ old) → OnOk r (ForSome new (λ there. P (bytes_of there))) → OnOk r (IfSome (option_map bytes_of old) P)
told_same (Ok x) old new P same h = if_file old P (λ there is. h there (same ∙ is))
told_same (Err e) old new P same h = tt

module _ {F : Type 0} (f : Ghosts F) where
  pub keeps_bytes : (old new : FileState F) → KeepsFile f old.folder new.folder
      → Keeps {D = FileState F} (λ d. option_map bytes_of (f.file d.folder)) (λ d. AsBytes (f.may_leave d.folder)) (λ d. f.moment d.folder) (λ d t. AsBytes (f.left_since d.folder t)) old new
  keeps_bytes old new k = record {
    content_stays = ap (option_map bytes_of) k.content_stays;
    no_more = λ b x. (x.0, k.no_more x.0 x.1, x.2);
    no_fewer = λ b x. (x.0, k.no_fewer x.0 x.1, x.2);
    moment_stays = k.moment_stays;
    past_stays = λ t b x. (x.0, k.past_stays t x.0 x.1, x.2);
    past_kept = λ t b x. (x.0, k.past_kept t x.0 x.1, x.2);
  }
