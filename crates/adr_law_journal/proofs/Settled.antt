-- What the two halves of a commit leave of a settled log.
use Rattle.std.proofs.Common.{◌≡◌, inl, inr, ⊎_elim, ℕ, ◌+◌, ◌≤◌, ◌<◌, ◌^◌, List, [], ◌∷◌, length, Option, Some, Ok, IfSome, IsSome, sym, ◌∙◌, subst, arith}
use Rattle.std.specs.Prelude.{◌↔◌}
use Rattle.adr_disk.specs.Disk.{put, Torn, Among, Only}
use Rattle.adr_model.specs.Lengths.{Log}
use Rattle.adr_law_journal.specs.Log.{open_gate, record_of}
use Rattle.adr_law_journal.specs.Areas.{found}
use Rattle.adr_law_journal.specs.Kept.{Layout, starts, Rests, IsSettled, FindsEither}
use Rattle.adr_law_journal.specs.Recording.{IsStaged, log_behind}
use Rattle.adr_law_journal.proofs.Told.{at_told, some_of, is_some_of, some_is}
use Rattle.adr_law_journal.proofs.Reading.{at_rest_stands, area_long}
use Rattle.adr_law_journal.proofs.Recording.{torn_record, staged, torn_gate, opened_up}

-- a log at rest is found, and reaches beyond the slots to its end
pub stands : {H S : Type 0} (l : Layout H S) (s : S) (log : Log) (there : List ℕ) → Rests l s log there → starts l there ≡ Ok (found s log)
stands l s log there rests = at_rest_stands l.head l.area l.following l.front l.told l.is_head s log there rests

pub rests_long : {H S : Type 0} (l : Layout H S) (s : S) (log : Log) (there : List ℕ) → Rests l s log there → (57 ≤ length there) × (log.log_end ≤ length there)
rests_long l s log there rests =
    let low = rests.ready.low in
    let far = area_long (l.area l.told) l.following s log.place log.version log.first log.log_end there rests.ready.stands in
    (omega (arith, low, far.0, far.1), far.1)

module _ {D H S : Type 0} (l : Layout H S) (content : D → Option (List ℕ)) (may_leave : D → List ℕ → Type 0) (old mid new : D) (s : S) (log : Log) (body written : List ℕ)
    (is : written ≡ record_of body) (settled : IsSettled l content may_leave old s log) where
  abbrev Staged : List ℕ → Type 0
  Staged bytes = IsStaged (l.area l.told) l.following l.front s log body bytes

  -- the first half
  pub first_finds : (there : List ℕ) → content old ≡ Some there → Among (λ bytes. starts l bytes ≡ Ok (found s log)) (Torn log.log_end (length written) there)
  first_finds there told = λ bytes torn. stands l s log bytes (torn_record l.head l.area l.following l.front l.told l.is_head s log (length written) there bytes (settled.at_rest there told) torn)

  pub staged_at : (there : List ℕ) → content old ≡ Some there → Staged (put there log.log_end written)
  staged_at there told = subst (λ (w : List ℕ). Staged (put there log.log_end w)) (sym is) (staged l.head l.area l.following l.front l.told l.is_head s log body there (settled.at_rest there told))

  module _ (now : IfSome (content old) (λ there. content mid ≡ Some (put there log.log_end written))) (only : IfSome (content old) (λ there. Only (put there log.log_end written) (may_leave mid))) (both : IsSome (content mid) ↔ IsSome (content old)) where
    pub mid_staged : (x : List ℕ) → content mid ≡ Some x → Staged x × Only x (may_leave mid)
    mid_staged x told =
        let before = some_of (content old) (both.0 (is_some_of (content mid) x told)) in
        let same : put before.0 log.log_end written ≡ x = some_is (put before.0 log.log_end written) x (sym (at_told (content old) _ before.0 before.1 now) ∙ told) in
        subst (λ (y : List ℕ). Staged y × Only y (may_leave mid)) same (staged_at before.0 before.1, at_told (content old) _ before.0 before.1 only)

    -- the second half
    module _ (at : ℕ) (is_at : at + 1 ≡ log.log_end) (t : S) (follows : l.following log.version s body ≡ Some t) (fits : length body < 2 ^ 32) where
      pub second_finds : (x : List ℕ) → content mid ≡ Some x → Among (λ bytes. FindsEither s t (starts l bytes)) (Torn at 1 x)
      second_finds x told = λ bytes torn. ⊎_elim
          (λ as_it_was. inl (log, stands l s log bytes as_it_was))
          (λ with_record. inr (log_behind log body, stands l t (log_behind log body) bytes with_record))
          (torn_gate l.head l.area l.following l.front l.told l.is_head s log t at is_at body x bytes (mid_staged x told).0 follows fits torn)

      pub settled_after : IfSome (content mid) (λ there. content new ≡ Some (put there at (open_gate ∷ []))) → IfSome (content mid) (λ there. Only (put there at (open_gate ∷ [])) (may_leave new)) → (IsSome (content new) ↔ IsSome (content mid))
          → IsSettled l content may_leave new t (log_behind log body)
      settled_after now2 only2 both2 =
          let later = log_behind log body in
          let parts : (y : List ℕ) → content new ≡ Some y → Rests l t later y × Only y (may_leave new) = λ y told.
          let before = some_of (content mid) (both2.0 (is_some_of (content new) y told)) in
          let same : put before.0 at (open_gate ∷ []) ≡ y = some_is (put before.0 at (open_gate ∷ [])) y (sym (at_told (content mid) _ before.0 before.1 now2) ∙ told) in
          subst (λ (z : List ℕ). Rests l t later z × Only z (may_leave new)) same
          (opened_up l.head l.area l.following l.front l.told l.is_head s log t at is_at body before.0 (mid_staged before.0 before.1).0 follows fits, at_told (content mid) _ before.0 before.1 only2) in
          record { at_rest = λ y told. (parts y told).0; synced = λ y told. (parts y told).1 }
