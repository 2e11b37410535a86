-- What the two steps of a checkpoint leave.
use Rattle.std.proofs.Common.{◌≡◌, inl, inr, ⊎_elim, ℕ, ◌+◌, ◌≤◌, List, [], ◌∷◌, ◌++◌, length, Option, Some, Ok, IfSome, IsSome, sym, ◌∙◌, ap, subst, arith, length-append, ◌==◌}
use Rattle.std.specs.Prelude.{◌↔◌, not}
use Rattle.adr_disk.specs.Disk.{put, Torn, TornTwice, Among, Only}
use Rattle.adr_disk.proofs.Bytes.{Torn-put as torn_put}
use Rattle.adr_wire.specs.Fields.{u64}
use Rattle.adr_law_journal.proofs.Told.{at_told, some_of, is_some_of, some_is}
use Rattle.adr_model.specs.Lengths.{Log}
use Rattle.adr_law_journal.specs.Areas.{found, selects_second, selector_place, slot_place}
use Rattle.adr_law_journal.proofs.Settled.{stands}
use Rattle.adr_law_journal.proofs.Keeping.{long_u64, both_ready, torn_new_area, torn_other_slot, torn_selector, put_selector}
use Rattle.std.proofs.lemmas.Option.{IfSome_then}
use Rattle.adr_journal.specs.Written.{AreNoLonger}
use Rattle.adr_law_journal.specs.Kept.{Layout, starts, Rests, Ready, IsSettled, IsBeside, Stages, IsOneOf}

-- two torn writes leave no more than reaches to the later of their ends
pub twice_no_longer : (content : Option (List ℕ)) (left : List ℕ → Type 0) (at n later m end : ℕ) → at + n ≤ end → later + m ≤ end → IfSome content (λ there. Among (TornTwice at n later m there) left) → AreNoLonger content left end
twice_no_longer content left at n later m end within later_within h =
    IfSome_then content h (λ there torn bytes is. let t = torn bytes is in let first = t.1.no_longer in let second = t.2.no_longer in omega (arith, first, second, within, later_within))

module _ {D H S : Type 0} (l : Layout H S) (content : D → Option (List ℕ)) (may_leave : D → List ℕ → Type 0) (old : D) (s : S) (log other : Log) where
  module _ (place : ℕ) (written : List ℕ) (slot m : ℕ) (eight : m ≡ 8) (stages : Stages l content may_leave old place written slot s log other) where
    size : length written ≡ length stages.image + 1
    size = ap length stages.is ∙ length-append stages.image (0 ∷ [])

    -- whatever a crash leaves of the new area and the slot
    pub stage_finds : (there : List ℕ) → content old ≡ Some there → Among (λ bytes. starts l bytes ≡ Ok (found s log)) (TornTwice place (length written) slot m there)
    stage_finds there told = λ bytes torn.
        let rests = stages.settled.at_rest there told in
        let first = torn_new_area l.head l.area l.following l.front l.told l.is_head s log place (length stages.image + 1) there torn.0 rests stages.free (subst (λ (n : ℕ). Torn place n there torn.0) size torn.1) in
        let second = torn_other_slot l.head l.area l.following l.front l.told l.is_head s log torn.0 bytes first
        (subst (λ (k : ℕ). Torn (slot_place (not log.second)) k torn.0 bytes) eight (subst (λ (k : ℕ). Torn k m torn.0 bytes) stages.slot_is torn.2)) in
        stands l s log bytes second

    -- both areas stand
    staged_there : (there : List ℕ) → Rests l s log there → Rests l s log (put (put there place written) slot (u64 place)) × Ready l s other (put (put there place written) slot (u64 place))
    staged_there there rests =
        let image = stages.image in
        let bytes : List ℕ = put (put there place (image ++ 0 ∷ [])) (slot_place (not log.second)) (u64 place) in
        let both = both_ready (l.area l.told) l.following l.front s s log place stages.version image there rests.ready stages.free stages.tells stages.fits in
        let first = torn_new_area l.head l.area l.following l.front l.told l.is_head s log place (length image + 1) there (put there place (image ++ 0 ∷ [])) rests stages.free
        (torn_put there place (length image + 1) (image ++ 0 ∷ []) (length-append image (0 ∷ []))) in
        let second = torn_other_slot l.head l.area l.following l.front l.told l.is_head s log (put there place (image ++ 0 ∷ [])) bytes first
        (torn_put (put there place (image ++ 0 ∷ [])) (slot_place (not log.second)) 8 (u64 place) (long_u64 place)) in
        subst (λ (w : List ℕ). Rests l s log (put (put there place w) slot (u64 place)) × Ready l s other (put (put there place w) slot (u64 place))) (sym stages.is)
        (subst (λ (k : ℕ). Rests l s log (put (put there place (image ++ 0 ∷ [])) k (u64 place)) × Ready l s other (put (put there place (image ++ 0 ∷ [])) k (u64 place))) (sym stages.slot_is)
        (second, subst (λ (o : Log). Ready l s o bytes) (sym stages.becomes) both.1))

    pub beside_after : (new : D) (spelled : List ℕ) → spelled ≡ u64 place → IfSome (content old) (λ there. content new ≡ Some (put (put there place written) slot spelled)) → IfSome (content old) (λ there. Only (put (put there place written) slot spelled) (may_leave new))
        → (IsSome (content new) ↔ IsSome (content old)) → IsBeside l content may_leave new s log other
    beside_after new spelled spells now only both =
        let parts : (x : List ℕ) → content new ≡ Some x → Rests l s log x × Ready l s other x × Only x (may_leave new) = λ x told.
        let before = some_of (content old) (both.0 (is_some_of (content new) x told)) in
        let there : List ℕ = put (put before.0 place written) slot spelled in
        let same : there ≡ x = some_is there x (sym (at_told (content old) _ before.0 before.1 now) ∙ told) in
        let stand = subst (λ (sp : List ℕ). Rests l s log (put (put before.0 place written) slot sp) × Ready l s other (put (put before.0 place written) slot sp)) (sym spells) (staged_there before.0 (stages.settled.at_rest before.0 before.1)) in
        subst (λ (y : List ℕ). Rests l s log y × Ready l s other y × Only y (may_leave new)) same (stand.0, stand.1, at_told (content old) _ before.0 before.1 only) in
        record { at_rest = λ x told. (parts x told).0; ready = λ x told. (parts x told).1; synced = λ x told. (parts x told).2 }

  -- whatever a crash leaves of the selector
  module _ (staged : IsBeside l content may_leave old s log other) (is_other : other.second ≡ not log.second) where
    pub select_finds : (there : List ℕ) → content old ≡ Some there → Among (λ bytes. IsOneOf s log other (starts l bytes)) (Torn selector_place 1 there)
    select_finds there told = λ bytes torn. ⊎_elim
        (λ here. inl (stands l s log bytes here))
        (λ moved. inr (stands l s other bytes moved))
        (torn_selector l.head l.area l.following l.front l.told l.is_head s log other there bytes is_other (staged.at_rest there told).ready (staged.ready there told) torn)

    pub selected_after : (new : D) (selector : ℕ) → (selector == selects_second) ≡ other.second → IfSome (content old) (λ there. content new ≡ Some (put there selector_place (selector ∷ []))) → IfSome (content old) (λ there. Only (put there selector_place (selector ∷ [])) (may_leave new))
        → (IsSome (content new) ↔ IsSome (content old)) → IsSettled l content may_leave new s other
    selected_after new selector selects now only both =
        let parts : (x : List ℕ) → content new ≡ Some x → Rests l s other x × Only x (may_leave new) = λ x told.
        let before = some_of (content old) (both.0 (is_some_of (content new) x told)) in
        let there : List ℕ = put before.0 selector_place (selector ∷ []) in
        let same : there ≡ x = some_is there x (sym (at_told (content old) _ before.0 before.1 now) ∙ told) in
        subst (λ (y : List ℕ). Rests l s other y × Only y (may_leave new)) same
        (put_selector l.head l.area l.following l.front l.told l.is_head s log other before.0 selector selects (staged.ready before.0 before.1), at_told (content old) _ before.0 before.1 only) in
        record { at_rest = λ x told. (parts x told).0; synced = λ x told. (parts x told).1 }
