-- What the two writes of a settling do.
use Rattle.std.proofs.Common.{◌≡◌, inl, inr, ⊎_elim, ℕ, ◌+◌, ◌≤◌, ◌<◌, List, [], ◌∷◌, length, Option, Some, None, IfSome, IsSome, refl, sym, ◌∙◌, ap, subst, arith}
use Rattle.std.specs.Prelude.{◌↔◌}
use Rattle.std.specs.Option.{ForSome, option_map}
use Rattle.adr_disk.specs.Disk.{put, Torn, Among, Only}
use Rattle.adr_disk.specs.declared.disk.Disk.{Ghosts as DiskGhosts}
use Rattle.adr_disk.proofs.Bytes.{Torn-put, length-put}
use Rattle.adr_model.specs.Store.{State}
use Rattle.adr_model.specs.Lengths.{Log}
use Rattle.adr_law_journal.specs.Log.{open_gate}
use Rattle.adr_law_journal.specs.Kept.{Layout, starts, Rests, IsSettled}
use Rattle.adr_law_journal.proofs.Settled.{stands}
use Rattle.adr_law_journal.proofs.Told.{if_told, at_told, some_is}
use Rattle.adr_law_group.specs.Batch.{IsHeld}
use Rattle.adr_law_group.proofs.Holding.{held_behind, held_or_all}
use Rattle.adr_journal.specs.Kept.{Ids}
use Rattle.adr_journal.specs.Written.{IsEitherLog}
use Rattle.adr_gather.specs.Held.{opened, with_held, once_written}
use Rattle.adr_gather.specs.Taken.{Takes}
use Rattle.adr_gather.proofs.Putting.{some_held, torn_same}
use Rattle.adr_gather.proofs.Steps.{made_of}

-- two disks that tell the same bytes, or neither tells any
told_alike : {A B : Type 0} (f : A → B) (o p : Option A) → (IsSome p ↔ IsSome o) → ((x y : A) → o ≡ Some x → p ≡ Some y → f y ≡ f x) → option_map f p ≡ option_map f o
told_alike f None None both h = refl
told_alike f None (Some y) both h = absurd (cc (both.0 refl))
told_alike f (Some x) None both h = absurd (cc (both.1 refl))
told_alike f (Some x) (Some y) both h = ap Some (h x y refl refl)

told_made : {A : Type 0} (f : A → A) (o p : Option A) → (IsSome p ↔ IsSome o) → ((x y : A) → o ≡ Some x → p ≡ Some y → y ≡ f x) → p ≡ option_map f o
told_made f None None both h = refl
told_made f None (Some y) both h = absurd (cc (both.0 refl))
told_made f (Some x) None both h = absurd (cc (both.1 refl))
told_made f (Some x) (Some y) both h = ap Some (h x y refl refl)

-- a write that a fault cuts short is made good by writing it again
pub same_behind : {D : Type 0} (d : DiskGhosts D) (old new : D) (gate : ℕ) (held : List ℕ) (at n : ℕ) → 1 ≤ length held → ForSome (d.content old) (λ there. (gate < length there) × (at ≤ length there)) → gate ≤ at → at + n ≤ gate + 1 + length held
    → (IsSome (d.content new) ↔ IsSome (d.content old)) → IfSome (d.content new) (d.may_leave new) → IfSome (d.content old) (λ there. Among (Torn at n there) (d.may_leave new)) → once_written (d.content new) gate held ≡ once_written (d.content old) gate held
same_behind d old new gate held at n some within low high both honest left =
    told_alike (with_held gate held) (d.content old) (d.content new) both (λ x y was is.
    let near = within x was in
    torn_same gate held at n x y some near.0 (at_told (d.content old) _ x was left y (at_told (d.content new) _ y is honest)) low near.1 high)

module _ {D : Type 0} (d : DiskGhosts D) (old mid new : D) (gate : ℕ) (written : List ℕ) (within : ForSome (d.content old) (λ there. gate < length there))
    (now : IfSome (d.content old) (λ there. d.content mid ≡ Some (put there (gate + 1) written))) (only : IfSome (d.content old) (λ there. Only (put there (gate + 1) written) (d.may_leave mid))) (both : IsSome (d.content mid) ↔ IsSome (d.content old)) where
  pub mid_there : (x : List ℕ) → d.content mid ≡ Some x → (there : List ℕ) × (d.content old ≡ Some there) × (put there (gate + 1) written ≡ x) × Only x (d.may_leave mid)
  mid_there = made_of d old mid (λ there. put there (gate + 1) written) now only both

  pub mid_within : ForSome (d.content mid) (λ there. gate < length there)
  mid_within x told = let made = mid_there x told in omega (arith, ap length made.2, length-put made.0 (gate + 1) written, within made.0 made.1)

  module _ (now2 : IfSome (d.content mid) (λ there. d.content new ≡ Some (put there gate (open_gate ∷ [])))) (only2 : IfSome (d.content mid) (λ there. Only (put there gate (open_gate ∷ [])) (d.may_leave new))) (both2 : IsSome (d.content new) ↔ IsSome (d.content mid)) where
    pub new_there : (y : List ℕ) → d.content new ≡ Some y → (there : List ℕ) × (d.content old ≡ Some there) × (y ≡ opened there gate written) × Only y (d.may_leave new)
    new_there y told =
        let last = made_of d mid new (λ x. put x gate (open_gate ∷ [])) now2 only2 both2 y told in
        let made = mid_there last.0 last.1 in
        (made.0, made.1, sym last.2 ∙ ap (λ (z : List ℕ). put z gate (open_gate ∷ [])) (sym made.2), last.3)

    pub new_written : 1 ≤ length written → d.content new ≡ once_written (d.content old) gate written
    new_written some =
        told_made (with_held gate written) (d.content old) (d.content new) ((λ is. both.0 (both2.0 is)), (λ is. both2.1 (both.1 is))) (λ x y was is.
        let made = new_there y is in
        let same : made.0 ≡ x = some_is made.0 x (sym made.1 ∙ was) in
        made.2 ∙ ap (λ (z : List ℕ). opened z gate written) same ∙ sym (some_held gate written x some (within x was)))

    pub new_only : IfSome (d.content new) (λ there. Only there (d.may_leave new))
    new_only = if_told (d.content new) _ (λ y told. (new_there y told).3)

-- ---- what is settled

module _ {D : Type 0} (d : DiskGhosts D) (l : Layout Ids State) (old mid new : D) (gate : ℕ) (written : List ℕ) (s t : State) (log next : Log) (takes : Takes l d.content d.may_leave old gate written s t log next) where
  abbrev pub Either : List ℕ → Type 0
  Either bytes = IsEitherLog s log t next (starts l bytes)

  abbrev Shut : List ℕ → Type 0
  Shut bytes = IsHeld (l.area l.told) l.following l.front s log gate bytes

  torn_behind_gate : (n : ℕ) (there bytes : List ℕ) → d.content old ≡ Some there → Torn (gate + 1) n there bytes → Shut bytes
  torn_behind_gate n there bytes told torn =
      held_behind l.head l.area l.following l.front l.told l.is_head s log gate n there bytes (record { rests = takes.settled.at_rest there told; ends = takes.ends }) torn

  -- whatever a crash leaves behind the gate
  pub behind_finds : (there : List ℕ) → d.content old ≡ Some there → Among Either (Torn (gate + 1) (length written) there)
  behind_finds there told = λ bytes torn. inl (stands l s log bytes (torn_behind_gate (length written) there bytes told torn).rests)

  module _ (within : ForSome (d.content old) (λ there. gate < length there)) (now : IfSome (d.content old) (λ there. d.content mid ≡ Some (put there (gate + 1) written))) (only : IfSome (d.content old) (λ there. Only (put there (gate + 1) written) (d.may_leave mid))) (both : IsSome (d.content mid) ↔ IsSome (d.content old)) where
    -- and of it
    pub gate_finds : (x : List ℕ) → d.content mid ≡ Some x → Among Either (Torn gate 1 x)
    gate_finds x told = λ bytes torn.
        let made = mid_there d old mid new gate written within now only both x told in
        let held : Shut x = subst (λ (y : List ℕ). Shut y) made.2 (torn_behind_gate (length written) made.0 (put made.0 (gate + 1) written) made.1 (Torn-put made.0 (gate + 1) (length written) written refl)) in ⊎_elim
        (λ as_it_was. inl (stands l s log bytes as_it_was.rests))
        (λ is_open. inr (stands l t next bytes (subst (λ (y : List ℕ). Rests l t next y) (ap (λ (y : List ℕ). put y gate (open_gate ∷ [])) made.2 ∙ sym is_open) (takes.becomes made.0 made.1))))
        (held_or_all l.head l.area l.following l.front l.told l.is_head s log gate x bytes held torn)

    pub settled_behind : IfSome (d.content mid) (λ there. d.content new ≡ Some (put there gate (open_gate ∷ []))) → IfSome (d.content mid) (λ there. Only (put there gate (open_gate ∷ [])) (d.may_leave new)) → (IsSome (d.content new) ↔ IsSome (d.content mid))
        → IsSettled l d.content d.may_leave new t next
    settled_behind now2 only2 both2 =
        let there = new_there d old mid new gate written within now only both now2 only2 both2 in
        record { at_rest = λ y told. let made = there y told in subst (λ (z : List ℕ). Rests l t next z) (sym made.2) (takes.becomes made.0 made.1); synced = λ y told. (there y told).3 }
