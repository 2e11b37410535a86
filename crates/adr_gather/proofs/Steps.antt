-- One write with its sync after another.
use Rattle.std.proofs.Common.{◌≡◌, inl, ℕ, ◌+◌, List, [], ◌∷◌, ◌++◌, length, take, Option, Some, IfSome, IsSome, refl, sym, ◌∙◌, ap, subst, arith}
use Rattle.std.specs.Prelude.{◌↔◌}
use Rattle.std.proofs.lemmas.List.{append-nil, drop_all}
use Rattle.adr_disk.specs.Disk.{put, Torn, Among, LeavesOnly, Only}
use Rattle.adr_disk.specs.declared.disk.Disk.{Ghosts as DiskGhosts}
use Rattle.adr_disk.proofs.Moments.{joined, weakened}
use Rattle.adr_model.specs.Store.{State}
use Rattle.adr_model.specs.Lengths.{Log}
use Rattle.adr_law_journal.specs.Log.{open_gate}
use Rattle.adr_law_journal.specs.Areas.{found}
use Rattle.adr_law_journal.specs.Kept.{Layout, starts, Rests}
use Rattle.adr_law_journal.proofs.Formatting.{torn_first, torn_rest, torn_last}
use Rattle.adr_law_journal.proofs.Settled.{stands}
use Rattle.adr_law_journal.proofs.Told.{if_told, at_told, some_of, is_some_of, some_is}
use Rattle.adr_journal.specs.Kept.{Ids}
use Rattle.adr_journal.specs.Written.{IsNone}

-- what is there behind a call is what it makes of the bytes before, and a crash leaves nothing else
pub made_of : {D : Type 0} (d : DiskGhosts D) (old new : D) (made : List ℕ → List ℕ)
    → IfSome (d.content old) (λ there. d.content new ≡ Some (made there)) → IfSome (d.content old) (λ there. Only (made there) (d.may_leave new))
    → (IsSome (d.content new) ↔ IsSome (d.content old)) → (y : List ℕ) → d.content new ≡ Some y → (there : List ℕ) × (d.content old ≡ Some there) × (made there ≡ y) × Only y (d.may_leave new)
made_of d old new made now only both y told =
    let before = some_of (d.content old) (both.0 (is_some_of (d.content new) y told)) in
    let same : made before.0 ≡ y = some_is (made before.0) y (sym (at_told (d.content old) _ before.0 before.1 now) ∙ told) in
    (before.0, before.1, same, subst (λ (l : List ℕ). Only l (d.may_leave new)) same (at_told (d.content old) _ before.0 before.1 only))

-- what is there after a write and a sync, where it was this before
pub stepped : {D : Type 0} (d : DiskGhosts D) (old new : D) (was : List ℕ) (at : ℕ) (bytes : List ℕ)
    → ((x : List ℕ) → d.content old ≡ Some x → x ≡ was) → IfSome (d.content old) (λ there. d.content new ≡ Some (put there at bytes)) → IfSome (d.content old) (λ there. Only (put there at bytes) (d.may_leave new))
    → (IsSome (d.content new) ↔ IsSome (d.content old)) → (y : List ℕ) → d.content new ≡ Some y → (y ≡ put was at bytes) × Only y (d.may_leave new)
stepped d old new was at bytes stood now only both y told =
    let made = made_of d old new (λ there. put there at bytes) now only both y told in
    (sym made.2 ∙ ap (λ (l : List ℕ). put l at bytes) (stood made.0 made.1), made.3)

-- what holds where the bytes are told in between holds where they are told before
pub if_before : {A : Type 0} (old mid : Option A) (P : Type 0) → (IsSome mid ↔ IsSome old) → IfSome mid (λ _. P) → IfSome old (λ _. P)
if_before old mid P both h = if_told old _ (λ there told. let x = some_of mid (both.1 (is_some_of old there told)) in at_told mid _ x.0 x.1 h)

-- ---- what a crash leaves at each moment

module _ {D : Type 0} (d : DiskGhosts D) (P : List ℕ → Type 0) where
  abbrev pub Leaves : D → D → Type 0
  Leaves old new = IfSome (d.content old) (λ _. LeavesOnly d.moment d.left_since old new P)

  -- a crash leaves what is torn of what was there
  pub torn_left : (old new : D) (Q : List ℕ → List ℕ → Type 0) → ((there : List ℕ) → d.content old ≡ Some there → Among P (Q there)) → IfSome (d.content old) (λ there. Among (Q there) (d.may_leave new)) → IfSome (d.content old) (λ _. Among P (d.may_leave new))
  torn_left old new Q each h = if_told (d.content old) _ (λ there told bytes left. each there told bytes (at_told (d.content old) _ there told h bytes left))

  -- one run of calls behind another
  pub moments_joined : (old mid new : D) → (IsSome (d.content mid) ↔ IsSome (d.content old)) → Leaves old mid → Leaves mid new → Leaves old new
  moments_joined old mid new both first then =
      if_told (d.content old) _ (λ there told.
      joined d.moment d.left_since old mid new P (at_told (d.content old) _ there told first) (at_told (d.content old) _ there told (if_before (d.content old) (d.content mid) _ both then)))

  -- a run of calls of which less is known
  pub moments_of : (old new : D) (Q : List ℕ → List ℕ → Type 0) → ((there : List ℕ) → d.content old ≡ Some there → Among P (Q there)) → IfSome (d.content old) (λ there. LeavesOnly d.moment d.left_since old new (Q there)) → Leaves old new
  moments_of old new Q each h =
      if_told (d.content old) _ (λ there told. weakened d.moment d.left_since old new (Q there) P (each there told) (at_told (d.content old) _ there told h))

-- ---- a format

pub second_is : (written : List ℕ) → put (0 ∷ []) 1 written ≡ 0 ∷ written
second_is written =
    ap (λ (l : List ℕ). take 1 (0 ∷ []) ++ written ++ l) (drop_all (1 + length written) (0 ∷ []) (omega arith))
    ∙ ap (λ (l : List ℕ). 0 ∷ l) (append-nil written)

pub third_is : (written : List ℕ) → put (0 ∷ written) 0 (open_gate ∷ []) ≡ open_gate ∷ written
third_is written = refl

module _ (l : Layout Ids State) (s : State) (log : Log) where
  abbrev pub None_at : List ℕ → Type 0
  None_at bytes = IsNone s log (starts l bytes)

  pub tears_first : (x : List ℕ) → x ≡ [] → Among None_at (Torn 0 1 x)
  tears_first x is bytes torn = inl (torn_first l.head l.area l.following bytes (subst (λ (y : List ℕ). Torn 0 1 y bytes) is torn))

  pub tears_second : (n : ℕ) (x : List ℕ) → x ≡ 0 ∷ [] → Among None_at (Torn 1 n x)
  tears_second n x is bytes torn = inl (torn_rest l.head l.area l.following n bytes (subst (λ (y : List ℕ). Torn 1 n y bytes) is torn))

  pub tears_third : (written x : List ℕ) → Rests l s log (open_gate ∷ written) → x ≡ 0 ∷ written → Among None_at (Torn 0 1 x)
  tears_third written x rests is bytes torn =
      torn_last l.head l.area l.following written (found s log) bytes (stands l s log (open_gate ∷ written) rests) (subst (λ (y : List ℕ). Torn 0 1 y bytes) is torn)
