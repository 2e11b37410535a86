-- Why a keeper that holds records keeps the laws of keepers.
use Rattle.std.specs.Prelude.{◌≡◌, ℕ, List, Option, Some, None, IfSome, IsSome}
use Rattle.std.proofs.Common.{refl}
use Rattle.adr_gather.specs.Held.{with_held, once_written}
use Rattle.adr_gather.specs.Gathered.{Gathered, content_of, images_of}

honestly : (o : Option (List ℕ)) (left : List ℕ → Type 0) (gate : ℕ) (held : List ℕ) → IfSome o left
    → IfSome (once_written o gate held) (λ bytes. IsSome o → (x : List ℕ) × left x × (with_held gate held x ≡ bytes))
honestly None left gate held here = tt
honestly (Some there) left gate held here = λ told. (there, here, refl)

-- what is read once what is held is written is one of the outcomes
pub images_honest : {D : Type 0} (content : D → Option (List ℕ)) (may_leave : D → List ℕ → Type 0) (g : Gathered D) → IfSome (content g.disk) (may_leave g.disk)
    → IfSome (content_of content g) (images_of content may_leave g)
images_honest content may_leave g here = honestly (content g.disk) (may_leave g.disk) g.gate g.held here
