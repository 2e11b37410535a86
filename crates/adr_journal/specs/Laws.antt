-- Why a journal keeps the laws of keepers.
use Rattle.std.specs.Prelude.{◌≡◌, ℕ, List, Option, Some, None, IsSome, IfSome, Ok}
use Rattle.std.specs.Option.{ForSome, option_map}
use Rattle.std.proofs.Common.{refl, sym, ◌∙◌, ap}
use Rattle.adr_disk.specs.Disk.{Only}
use Rattle.adr_wire.specs.Reading.{Reading}
use Rattle.adr_model.specs.Store.{State}
use Rattle.adr_model.specs.Lengths.{Log}
use Rattle.adr_law_journal.specs.Log.{Following}
use Rattle.adr_law_journal.specs.Areas.{Began, Found, Started, start_of}
use Rattle.adr_law_journal.specs.Kept.{Finds}
use Rattle.adr_law_journal.proofs.Settled.{stands}
use Rattle.adr_journal.specs.Kept.{Ids, ids_of, layout_of, IsAt}

module _ (head : Reading Ids) (area : Ids → Reading (Began State)) (following : ℕ → Following State) where
  tells_so : (content : Option (List ℕ)) (f : Found State) → ForSome content (λ there. start_of head area following there ≡ Ok f) → IfSome (option_map (start_of head area following) content) (λ t. t ≡ Ok f)
  tells_so None f finds = tt
  tells_so (Some there) f finds = finds there refl

  leaves_so : (content : Option (List ℕ)) (may_leave : List ℕ → Type 0) (f : Found State) → ForSome content (λ there. start_of head area following there ≡ Ok f) → ForSome content (λ there. Only there may_leave)
      → (t : Started State) → IsSome (option_map (start_of head area following) content) → Finds head area following may_leave t → t ≡ Ok f
  leaves_so None may_leave f finds synced t told left = absurd (cc told)
  leaves_so (Some there) may_leave f finds synced t told left = sym left.2 ∙ ap (start_of head area following) (synced there refl left.0 left.1) ∙ finds there refl

  -- a disk as it reads is one of its crash images, and so is what a start would find
  pub is_honest : (content : Option (List ℕ)) (may_leave : List ℕ → Type 0) → IfSome content may_leave → IfSome (option_map (start_of head area following) content) (Finds head area following may_leave)
  is_honest None may_leave honest = tt
  is_honest (Some there) may_leave honest = (there, honest, refl)

  module _ {D : Type 0} (content : D → Option (List ℕ)) (may_leave : D → List ℕ → Type 0) (disk : D) (log : Log) (f : Found State) (at : IsAt head area following content may_leave disk log f) where
    finds_it : ForSome (content disk) (λ there. start_of head area following there ≡ Ok f)
    finds_it there is = stands (layout_of head area following at.front (ids_of f.state) at.is_head) f.state f.log there (at.settled.at_rest there is)

    pub at_tells : IfSome (option_map (start_of head area following) (content disk)) (λ t. t ≡ Ok f)
    at_tells = tells_so (content disk) f finds_it

    pub at_leaves : (t : Started State) → IsSome (option_map (start_of head area following) (content disk)) → Finds head area following (may_leave disk) t → t ≡ Ok f
    at_leaves t told left = leaves_so (content disk) (may_leave disk) f finds_it at.settled.synced t told left
