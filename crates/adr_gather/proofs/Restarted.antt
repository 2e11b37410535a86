-- What is read once what is held is written, from one call of a start to the next.
use Rattle.std.proofs.Common.{◌≡◌, ℕ, ◌≤◌, List, [], ◌∷◌, length, Bool, Option, Some, None, IfSome, if◌then◌else◌, refl, ◌∙◌, ap, subst}
use Rattle.std.specs.Prelude.{◌↔◌, IsSome}
use Rattle.std.specs.Option.{ForSome}
use Rattle.std.proofs.lemmas.Bool.{le-ltb}
use Rattle.adr_disk.specs.Disk.{Among, Only}
use Rattle.adr_disk.specs.declared.disk.Disk.{Ghosts as DiskGhosts}
use Rattle.adr_law_journal.proofs.Told.{if_told}
use Rattle.adr_journal.specs.Ended.{ReadsOnly}
use Rattle.adr_journal.proofs.Found.{KeepsDisk}
use Rattle.adr_gather.specs.Held.{once_written, with_held, opened}
use Rattle.adr_gather.specs.Gathered.{gathered}
use Rattle.adr_gather.specs.Laws.{images_honest}
use Rattle.adr_gather.proofs.Finding.{content, images}
use Rattle.adr_gather.proofs.Viewing.{each_only, images_only, is_same, only_fewer}

-- where there is no such gate, nothing of it is written
held_beyond : (gate : ℕ) (held there : List ℕ) → length there ≤ gate → with_held gate held there ≡ there
held_beyond gate [] there far = refl
held_beyond gate (b ∷ held) there far = ap (λ (c : Bool). if c then opened there gate (b ∷ held) else there) (le-ltb gate (length there) far)

pub none_beyond : (o : Option (List ℕ)) (gate : ℕ) (held : List ℕ) → IfSome o (λ there. length there ≤ gate) → once_written o gate held ≡ o
none_beyond None gate held far = refl
none_beyond (Some there) gate held far = ap Some (held_beyond gate held there far)

module _ {D : Type 0} (d : DiskGhosts D) where
  -- behind calls that only look, a synced disk leaves what it told
  pub synced_still : (old new : D) → ForSome (d.content old) (λ there. Only there (d.may_leave old)) → KeepsDisk d old new → IfSome (d.content old) (λ there. Only there (d.may_leave new))
  synced_still old new synced keeps = if_told (d.content old) _ (λ there told bytes left. synced there told bytes (keeps.no_more bytes left))

  pub looked_only : (old new : D) (gate : ℕ) (held : List ℕ) → ForSome (d.content old) (λ there. Only there (d.may_leave old)) → KeepsDisk d old new
      → IfSome (content d (gathered old gate held)) (λ there. Only there (images d (gathered new gate held)))
  looked_only old new gate held synced keeps =
      images_only d.content d.may_leave old new gate held (is_same (d.content old) (d.content new) keeps.content_stays) (each_only d.content d.may_leave old new gate held (synced_still old new synced keeps))

  pub looked_same : (old new : D) (gate : ℕ) (held : List ℕ) → KeepsDisk d old new → content d (gathered new gate held) ≡ content d (gathered old gate held)
  looked_same old new gate held keeps = ap (λ (o : Option (List ℕ)). once_written o gate held) keeps.content_stays

  -- a sync, and what is written behind it
  module _ (old synced written : D) (gate : ℕ) (held more : List ℕ) (same : d.content synced ≡ d.content old) (is_same : content d (gathered written gate more) ≡ content d (gathered synced gate held))
      (only : IfSome (content d (gathered synced gate held)) (λ there. Only there (images d (gathered written gate more)))) (told : IsSome (d.content written) ↔ IsSome (d.content synced)) where
    synced_same : content d (gathered synced gate held) ≡ content d (gathered old gate held)
    synced_same = ap (λ (o : Option (List ℕ)). once_written o gate held) same

    pub all_same : content d (gathered written gate more) ≡ content d (gathered old gate held)
    all_same = is_same ∙ synced_same

    pub all_only : IfSome (content d (gathered old gate held)) (λ there. Only there (images d (gathered written gate more)))
    all_only = subst (λ (o : Option (List ℕ)). IfSome o (λ there. Only there (images d (gathered written gate more)))) synced_same only

    pub all_told : IsSome (d.content written) ↔ IsSome (d.content old)
    all_told = subst (λ (o : Option (List ℕ)). IsSome (d.content written) ↔ IsSome o) same told

    pub all_left : IfSome (d.content old) (d.may_leave old) → Among (images d (gathered old gate held)) (images d (gathered written gate more))
    all_left honest = only_fewer d.content d.may_leave (gathered old gate held) (gathered written gate more) all_told (images_honest d.content d.may_leave (gathered old gate held) honest) all_only

    pub all_read : ReadsOnly (content d) (images d) (gathered old gate held) (gathered written gate more)
    all_read = (all_same, all_only)
