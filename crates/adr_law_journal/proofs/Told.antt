-- What may be told or not.
use Rattle.std.proofs.Common.{◌≡◌, ℕ, Option, Some, None, Result, Ok, Err, IfSome, refl}
use Rattle.std.specs.Prelude.{OnOk}
use Rattle.std.specs.Option.{option_map}
use Rattle.adr_disk.specs.Disk.{Keeps}
pub use Rattle.adr_disk.proofs.Told.{if_told, at_told, some_of, is_some_of, some_is}

pub if_mapped : {A B : Type 0} (f : A → B) (o : Option A) (Q : B → Type 0) → ((there : A) → o ≡ Some there → Q (f there)) → IfSome (option_map f o) Q
if_mapped f None Q h = tt
if_mapped f (Some there) Q h = h there refl

pub both_ok : {T E A B C : Type 0} (r : Result T E) → OnOk r A → OnOk r B → (A → B → C) → OnOk r C
both_ok (Ok x) a b f = f a b
both_ok (Err e) a b f = tt

-- a disk that is as it was
pub same_keeps : {D C O : Type 0} (content : D → Option C) (may_leave : D → O → Type 0) (moment : D → ℕ) (left_since : D → ℕ → O → Type 0) (d : D) → Keeps content may_leave moment left_since d d
same_keeps content may_leave moment left_since d = record {
  content_stays = refl;
  no_more = λ x h. h;
  no_fewer = λ x h. h;
  moment_stays = refl;
  past_stays = λ t x h. h;
  past_kept = λ t x h. h;
}
