-- A cycle, by how its last request came out.
use Rattle.std.proofs.Common.{◌≡◌, ◌⊎◌, inl, inr, ⊎_elim, ℕ, zero, suc, ◌+◌, ◌<◌, ◌≤◌, Bool, true, false, List, ◌++◌, take, length, Option, Some, None, IfSome, IsSome, Result, Ok, Err, refl, sym, ap, ◌∙◌, subst, arith, take_all}
use Rattle.std.specs.Prelude.{◌↔◌}
use Rattle.std.specs.Option.{option_map}
use Rattle.std.proofs.Math.Seq.{take-append-add, take-append_seam}
use Rattle.std.specs.Bool.{then_some}
use Rattle.adr_disk.specs.Disk.{Among}
use Rattle.adr_disk.proofs.Told.{if_told, at_told, is_some_of}
use Rattle.adr_law_journal.specs.Areas.{Started}
use Rattle.adr_law_journal.specs.Kept.{FindsState}
use Rattle.adr_model.specs.Store.{State}
use Rattle.adr_model.specs.Update.{Identifier}
use Rattle.adr_journal.specs.declared.keeper.Keeper.{Ghosts}
use Rattle.adr_controller.specs.Running.{Running, IsInOrder}
use Rattle.adr_outside.specs.Traffic.{Traffic}
use Rattle.adr_frames.specs.Frames.{frame}
use Rattle.adr_pull.specs.declared.fault.PullFault.{PullFault}
use Rattle.adr_pull.specs.declared.fault.PullFault.TheVariants as faults
use Rattle.adr_pull.specs.Exchange.{HasSentFront, heard_in, moved}
use Rattle.adr_pull.specs.Fetch.{Course, Ends, Over, Refused, BadPeer, Made, Point, fetch, greeting, hears, line_of, made, meets, met, pulled, request, said_in, sends, tells, turn}
use Rattle.adr_law_controller.specs.Keeping.{Stands}
use Rattle.adr_pull.specs.Told.{EndsSo, Fallen, FindsBehind, FindsNear, FindsTold, Goes, HasDone, HasFailed, IsAsking, IsAt, IsBetween, IsTelling, Meets, TakesTurn, Up, Within}
use Rattle.adr_pull.proofs.Cycling.{ended_by, further, none_yet}
use Rattle.adr_law_controller.proofs.Crashes.{Crashes, LeavesLaw, crash_by, crash_on, finds_here, since}

done_at : {K : Type 0} (k : Ghosts K) (t : Traffic) (p : Point) (c : Running K) (net : Option Traffic)
    (lines : Option (List ℕ)) → IsAt k t p c net lines → HasDone t net lines p.sent p.written
done_at k t p c net lines at = record { left = p.left; net = at.net; lines = at.lines }

-- ---- requests, one after the other

module _ {K : Type 0} (k : Ghosts K) (t : Traffic) (name : List ℕ) (partner : Identifier) (p : Point) where
  abbrev pub course : ℕ → Course
  course n = fetch name partner n p

  -- behind so many requests it goes on from here
  pub record GoesOn (n : ℕ) (c : Running K) (net : Option Traffic) (lines : Option (List ℕ)) : Type 0 where
    pub none : (course n).1 ≡ None
    pub at : IsAt k t (course n).0 c net lines

  pub begins : (c : Running K) (net : Option Traffic) (lines : Option (List ℕ)) → IsAt k t p c net lines → GoesOn 0 c net lines
  begins c net lines at = record {
    none = ap (λ (x : Course). x.1) (none_yet name partner p);
    at = subst (λ (x : Course). IsAt k t x.0 c net lines) (sym (none_yet name partner p)) at;
  }

  pub begins_behind : (most : ℕ) (x : Started State) → FindsState p.stands.state x → FindsBehind course most x
  begins_behind most x here = (0, omega arith, subst (λ (c : Course). FindsState c.0.stands.state x) (sym (none_yet name partner p)) here)

  module _ (n : ℕ) (none : (course n).1 ≡ None) (c : Running K) (net : Option Traffic) (lines : Option (List ℕ)) where
    abbrev pub Turns : Result Bool PullFault → Type 0
    Turns result = TakesTurn k t (course n).0 (turn name partner (course n).0) result c net lines

    next : course (suc n) ≡ turn name partner (course n).0
    next = further name partner n p none

    pub goes_further : (over : Bool) → over ≡ false → Turns (Ok over) → GoesOn (n + 1) c net lines
    goes_further over is turns =
        let one : suc n ≡ n + 1 = omega arith in
        subst (λ (m : ℕ). GoesOn m c net lines) one (record {
          none = ap (λ (x : Course). x.1) next ∙ turns.0 ∙ ap (λ (b : Bool). then_some b Over) is;
          at = subst (λ (x : Course). IsAt k t x.0 c net lines) (sym next) turns.1;
        })

    module _ (most : ℕ) (within : n < most) where
      -- it has ended so
      ends_so : (e : Ends) → EndsSo (Up k c) (HasDone t net lines) (turn name partner (course n).0) (Some e)
          → EndsSo (Up k c) (HasDone t net lines) (course most) (Some e)
      ends_so e so =
          let here : (course (suc n)).1 ≡ Some e = ap (λ (x : Course). x.1) next ∙ so.0 in
          let all : course most ≡ turn name partner (course n).0 =
          ended_by name partner (suc n) most p e here (omega arith) ∙ next in
          subst (λ (x : Course). EndsSo (Up k c) (HasDone t net lines) x (Some e)) (sym all) so

      within_so : (P : Point → Point → Type 0) → P (course n).0 (turn name partner (course n).0).0 → Within course most P
      within_so P holds = (n, within, none, subst (λ (x : Course). P (course n).0 x.0) (sym next) holds)

      pub goes_over : (over : Bool) → over ≡ true → Turns (Ok over) → (unit : Unit) → Goes (Up k c) (Fallen k c) (HasDone t net lines) course most (Ok unit)
      goes_over over is turns unit =
          ends_so Over (turns.0 ∙ ap (λ (b : Bool). then_some b Over) is, turns.1.node, done_at k t _ c net lines turns.1)

      pub goes_err : (fault : PullFault) → Turns (Err fault) → Goes (Up k c) (Fallen k c) (HasDone t net lines) course most (Err fault)
      goes_err faults.Refused turns = ends_so Refused (turns.0, turns.1.node, done_at k t _ c net lines turns.1)
      goes_err faults.BadPeer turns = ends_so BadPeer turns
      goes_err faults.Link turns = within_so (λ p q. IsAsking (Up k c) (HasDone t net lines) p q) turns
      goes_err faults.Write turns = within_so (λ p q. IsTelling (Up k c) (HasDone t net lines) p q) turns
      goes_err faults.NoMemory turns =
          within_so (λ p q. IsAsking (Up k c) (HasDone t net lines) p q ⊎ IsTelling (Up k c) (HasDone t net lines) p q) turns
      goes_err faults.Disk turns = within_so (λ p q. HasFailed (Fallen k c) (HasDone t net lines) p q) turns
      goes_err faults.MoreWaiting turns = absurd turns

  -- a crash so far, and in one request more
  pub crash_more : (n most : ℕ) → n < most → {c : Running K} {net : Option Traffic} {lines : Option (List ℕ)} → GoesOn n c net lines → (old new : K)
      → Crashes k old c.keeper (FindsBehind course most) → (IsSome (k.told c.keeper) ↔ IsSome (k.told old))
      → ((q : Point) → IsAt k t q c net lines → Crashes k c.keeper new (FindsNear q (turn name partner q).0)) → Crashes k old new (FindsBehind course most)
  crash_more n most within {c} on old new first still second =
      crash_on k old c.keeper new (FindsBehind course most) (FindsNear (course n).0 (turn name partner (course n).0).0) (FindsBehind course most) (λ x finds. finds) near first still.1
      (second (course n).0 on.at)
    where
      near : (x : Started State) → FindsNear (course n).0 (turn name partner (course n).0).0 x → FindsBehind course most x
      near x (inl here) = (n, omega (arith, within), here)
      near x (inr there) = (suc n, omega (arith, within), subst (λ (c : Course). FindsState c.0.stands.state x) (sym (further name partner n p on.none)) there)

  -- as many as there may be, and it hasn't ended
  pub goes_waiting : (n most : ℕ) (c : Running K) (net : Option Traffic) (lines : Option (List ℕ)) → n ≡ most
      → GoesOn n c net lines → Goes (Up k c) (Fallen k c) (HasDone t net lines) course most (Err faults.MoreWaiting)
  goes_waiting n most c net lines is on =
      subst (λ (m : ℕ). EndsSo (Up k c) (HasDone t net lines) (course m) None) is (on.none, on.at.node, done_at k t _ c net lines on.at)

-- ---- the greeting, and then requests

module _ {K : Type 0} (k : Ghosts K) (t : Traffic) (name : List ℕ) (p : Point) where
  abbrev pub all : ℕ → Course
  all n = pulled name n p

  abbrev pub Before : Traffic
  Before = record t { left = p.left; sent = p.sent }

  -- the partner was met
  module _ (partner : Identifier) (rest : List ℕ) (met_so : met (heard_in p.left) ≡ Some (partner, rest)) where
    abbrev pub after_greeting : Point
    after_greeting = record (sends p greeting) { left = rest }

    later : (n : ℕ) → all (suc n) ≡ fetch name partner n after_greeting
    later n = ap (meets name n (sends p greeting)) met_so

    within_later : (most : ℕ) (P : Point → Point → Type 0) → Within (λ n. fetch name partner n after_greeting) most P → Within all (suc most) P
    within_later most P w = (
      suc w.0,
      omega (arith, w.1),
      ap (λ (x : Course). x.1) (later w.0) ∙ w.2,
      subst (λ (x : Course). P x.0 (all (suc (suc w.0))).0) (sym (later w.0)) (subst (λ (x : Course). P
          (fetch name partner w.0 after_greeting).0 x.0) (sym (later (suc w.0))) w.3),
    )

    ends_later : (most : ℕ) (ends : Option Ends) (c : Running K) (net : Option Traffic) (lines : Option (List ℕ))
        → EndsSo (Up k c) (HasDone t net lines) (fetch name partner most after_greeting) ends
        → EndsSo (Up k c) (HasDone t net lines) (all (suc most)) ends
    ends_later most ends c net lines so = subst (λ (x : Course). EndsSo (Up k c) (HasDone t net lines) x ends) (sym (later most)) so

    pub goes_later : (most : ℕ) (result : Result Unit PullFault) (c : Running K) (net : Option Traffic)
        (lines : Option (List ℕ))
        → Goes (Up k c) (Fallen k c) (HasDone t net lines) (λ n. fetch name partner n after_greeting) most result
        → Goes (Up k c) (Fallen k c) (HasDone t net lines) all (suc most) result
    goes_later most (Ok unit) c net lines so = ends_later most (Some Over) c net lines so
    goes_later most (Err faults.Refused) c net lines so = ends_later most (Some Refused) c net lines so
    goes_later most (Err faults.BadPeer) c net lines so = ends_later most (Some BadPeer) c net lines so
    goes_later most (Err faults.MoreWaiting) c net lines so = ends_later most None c net lines so
    goes_later most (Err faults.Link) c net lines so = within_later most (λ p q. IsAsking (Up k c) (HasDone t net lines) p q) so
    goes_later most (Err faults.Write) c net lines so = within_later most (λ p q. IsTelling (Up k c) (HasDone t net lines) p q) so
    goes_later most (Err faults.NoMemory) c net lines so = within_later most
        (λ p q. IsAsking (Up k c) (HasDone t net lines) p q ⊎ IsTelling (Up k c) (HasDone t net lines) p q) so
    goes_later most (Err faults.Disk) c net lines so = within_later most (λ p q. HasFailed (Fallen k c) (HasDone t net lines) p q) so

    pub finds_later : (most : ℕ) (x : Started State) → FindsBehind (λ n. fetch name partner n after_greeting) most x → FindsBehind all (suc most) x
    finds_later most x finds = (
      suc finds.0,
      omega (arith, finds.1),
      subst (λ (c : Course). FindsState c.0.stands.state x) (sym (later finds.0)) finds.2,
    )

    pub leaves_later : (most : ℕ) (old new : K) → Crashes k old new (FindsBehind (λ n. fetch name partner n after_greeting) most) → Crashes k old new (FindsBehind all (suc most))
    leaves_later most old new leaves =
        crash_by k old new (FindsBehind (λ n. fetch name partner n after_greeting) most) (FindsBehind all (suc most)) (finds_later most) leaves

    pub greeted_at : (c : Running K) (net : Option Traffic) (lines : Option (List ℕ)) → Stands k p.stands c
        → net ≡ Some (moved Before rest (frame greeting)) → lines ≡ Some p.written
        → IsAt k t after_greeting c net lines
    greeted_at c net lines node is told = record { node = node; net = is; lines = told }

  -- it was not
  greeted_sent : (m : Option (Identifier × List ℕ)) → met (heard_in p.left) ≡ m → (all 1).0.sent ≡ p.sent ++ frame greeting
  greeted_sent None is = ap (λ (m : Option (Identifier × List ℕ)). (meets name 0 (sends p greeting) m).0.sent) is
  greeted_sent (Some m) is = ap (λ (m : Option (Identifier × List ℕ)). (meets name 0 (sends p greeting) m).0.sent) is
      ∙ ap (λ (x : Course). x.0.sent) (none_yet name m.0 (record (sends p greeting) { left = m.1 }))

  cut_short : (c : Running K) (net : Option Traffic) (lines : Option (List ℕ)) → Stands k p.stands c
      → HasSentFront Before (frame greeting) net → lines ≡ Some p.written → IsAsking (Up k c) (HasDone t net lines) p (all 1).0
  cut_short c net lines node sent told = (
    node,
    (
      p.sent ++ take sent.1 (frame greeting),
      (frame greeting, sent.1, greeted_sent (met (heard_in p.left)) refl, refl),
      record { left = sent.0; net = sent.2; lines = told },
    ),
  )

  pub goes_unmet : (most : ℕ) (fault : PullFault) (c : Running K) (net : Option Traffic) (lines : Option (List ℕ))
      → Stands k p.stands c → Meets Before (Err fault) net → lines ≡ Some p.written
      → Goes (Up k c) (Fallen k c) (HasDone t net lines) all (suc most) (Err fault)
  goes_unmet most faults.BadPeer c net lines node so told =
      let is : all (suc most) ≡ (sends p greeting, Some BadPeer) = ap (meets name most (sends p greeting)) so.0 in
      subst (λ (x : Course). EndsSo (Up k c) (HasDone t net lines) x (Some BadPeer)) (sym is)
      (refl, node, record { left = so.1.0; net = so.1.1; lines = told })
  goes_unmet most faults.Link c net lines node so told = (0, omega arith, refl, cut_short c net lines node so told)
  goes_unmet most faults.NoMemory c net lines node so told = (0, omega arith, refl, inl (cut_short c net lines node so told))
  goes_unmet most faults.Write c net lines node so told = absurd so
  goes_unmet most faults.Disk c net lines node so told = absurd so
  goes_unmet most faults.Refused c net lines node so told = absurd so
  goes_unmet most faults.MoreWaiting c net lines node so told = absurd so

-- ---- what is kept

between_front : (first bytes last : List ℕ) → IsBetween first bytes last → (m : ℕ) × (bytes ≡ take m last)
between_front first bytes last (more, n, whole, front) = (
  length first + n,
  front ∙ sym (take-append-add first more n) ∙ ap (λ (xs : List ℕ). take (length first + n) xs)
      (sym whole),
)

all_front : (bytes : List ℕ) → (m : ℕ) × (bytes ≡ take m bytes)
all_front bytes = (length bytes, sym (take_all (length bytes) bytes (omega arith)))

module _ {K : Type 0} (k : Ghosts K) (leaves : LeavesLaw k) (t : Traffic) (go : ℕ → Course) (most : ℕ) (c : Running K)
    (net : Option Traffic) (lines : Option (List ℕ)) (order : IsInOrder k c) where
  abbrev pub IsKept : Type 0
  IsKept = IfSome (k.told c.keeper) (λ _. Among (FindsTold go most lines) (k.may_leave c.keeper))

  -- the same, by what was told before
  pub kept_from : (old : K) → (IsSome (k.told c.keeper) ↔ IsSome (k.told old)) → IsKept → IfSome (k.told old)
      (λ _. Among (FindsTold go most lines) (k.may_leave c.keeper))
  kept_from old still kept = since k old c.keeper (Among (FindsTold go most lines) (k.may_leave c.keeper)) still.1 kept

  -- what was written is a front of the lines behind so many exchanges
  abbrev IsFront : ℕ → Type 0
  IsFront n = IfSome lines (λ l. (m : ℕ) × (l ≡ take m (go n).0.written))

  is_front : (n : ℕ) (told : List ℕ) → lines ≡ Some told → (m : ℕ) × (told ≡ take m (go n).0.written) → IsFront n
  is_front n told is front = subst (λ (o : Option (List ℕ)). IfSome o (λ l. (m : ℕ) × (l ≡ take m (go n).0.written)))
      (sym is) front

  -- the node is up
  up_kept : (n : ℕ) → n ≤ most → Stands k (go n).0.stands c → IsFront n → IsKept
  up_kept n within node front =
      if_told (k.told c.keeper) (λ _. Among (FindsTold go most lines) (k.may_leave c.keeper)) (λ x is. λ left may. (
        n,
        within,
        front,
        finds_here k leaves (go n).0.stands c node order (is_some_of (k.told c.keeper) x is) left may,
      ))

  ended_kept : (ends : Option Ends) → EndsSo (Up k c) (HasDone t net lines) (go most) ends → IsKept
  ended_kept ends so = up_kept most (omega arith) so.1 (is_front most (go most).0.written so.2.lines (all_front (go most).0.written))

  asking_kept : (n : ℕ) → n < most → IsAsking (Up k c) (HasDone t net lines) (go n).0 (go (suc n)).0 → IsKept
  asking_kept n within so = up_kept n (omega (arith, within)) so.0 (is_front n (go n).0.written so.1.2.lines (all_front (go n).0.written))

  telling_kept : (n : ℕ) → n < most → IsTelling (Up k c) (HasDone t net lines) (go n).0 (go (suc n)).0 → IsKept
  telling_kept n within so = up_kept (suc n) (omega (arith, within)) so.0 (is_front (suc n) so.1.0 so.1.2.lines (between_front
      (go n).0.written so.1.0 (go (suc n)).0.written so.1.1))

  -- the node has fallen: what was written is a front behind one exchange more too
  failed_kept : (n : ℕ) → n < most → ((m : ℕ) × ((go n).0.written ≡ take m (go (suc n)).0.written)) → HasFailed (Fallen k c) (HasDone t net lines) (go n).0 (go
      (suc n)).0 → IsKept
  failed_kept n within more so =
      if_told (k.told c.keeper) (λ _. Among (FindsTold go most lines) (k.may_leave c.keeper)) (λ x is. λ left may.
      ⊎_elim
      (λ here. (n, omega (arith, within), is_front n (go n).0.written so.1.lines (all_front (go n).0.written), here))
      (λ there. (suc n, omega (arith, within), is_front (suc n) (go n).0.written so.1.lines more, there))
      (at_told (k.told c.keeper) _ x is so.0.1 left may))

  module _ (more : (n : ℕ) → (go n).1 ≡ None → (m : ℕ) × ((go n).0.written ≡ take m (go (suc n)).0.written)) where
    pub kept_so : (result : Result Unit PullFault) → Goes (Up k c) (Fallen k c) (HasDone t net lines) go most result → IsKept
    kept_so (Ok unit) so = ended_kept (Some Over) so
    kept_so (Err faults.Refused) so = ended_kept (Some Refused) so
    kept_so (Err faults.BadPeer) so = ended_kept (Some BadPeer) so
    kept_so (Err faults.MoreWaiting) so = ended_kept None so
    kept_so (Err faults.Link) so = asking_kept so.0 so.1 so.3
    kept_so (Err faults.Write) so = telling_kept so.0 so.1 so.3
    kept_so (Err faults.NoMemory) so = ⊎_elim (asking_kept so.0 so.1) (telling_kept so.0 so.1) so.3
    kept_so (Err faults.Disk) so = failed_kept so.0 so.1 (more so.0 so.2) so.3

-- ---- lines are written one behind the other

tells_more : (name : List ℕ) (p : Point) (rest : List ℕ) (due : Option Made) → (m : ℕ) × (p.written ≡ take m
    (tells name p rest due).0.written)
tells_more name p rest None = all_front p.written
tells_more name p rest (Some d) = (length p.written, sym (take-append_seam p.written (line_of name d.1)))

turn_more : (name : List ℕ) (p : Point) (heard : Option (List ℕ × List ℕ)) → (m : ℕ) × (p.written ≡ take m
    (hears name p heard).0.written)
turn_more name p None = all_front p.written
turn_more name p (Some h) = tells_more name p h.1 (option_map (made p.stands) (said_in h.0))

fetch_more : (name : List ℕ) (partner : Identifier) (n : ℕ) (p : Point) → (fetch name partner n p).1 ≡ None
    → (m : ℕ) × ((fetch name partner n p).0.written ≡ take m (fetch name partner (suc n) p).0.written)
fetch_more name partner n p none =
    let q = (fetch name partner n p).0 in
    subst (λ (x : Course). (m : ℕ) × (q.written ≡ take m x.0.written)) (sym (further name partner n p none))
    (turn_more name (sends q (request q.stands.state partner)) (heard_in q.left))

pub pulled_more : (name : List ℕ) (p : Point) (n : ℕ) → (pulled name n p).1 ≡ None → (m : ℕ) ×
    ((pulled name n p).0.written ≡ take m (pulled name (suc n) p).0.written)
pulled_more name p zero none = by (met (heard_in p.left)) refl
  where
    by : (m : Option (Identifier × List ℕ)) → met (heard_in p.left) ≡ m → (n : ℕ) × (p.written ≡ take n
        (pulled name 1 p).0.written)
    by None is =
        subst (λ (x : Course). (n : ℕ) × (p.written ≡ take n x.0.written)) (sym (ap (meets name 0
        (sends p greeting)) is)) (all_front p.written)
    by (Some m) is =
        subst (λ (x : Course). (n : ℕ) × (p.written ≡ take n x.0.written))
        (sym (ap (meets name 0 (sends p greeting)) is ∙ none_yet name m.0 (record (sends p greeting) { left = m.1 })))
        (all_front p.written)
pulled_more name p (suc n) none = by (met (heard_in p.left)) refl
  where
    by : (m : Option (Identifier × List ℕ)) → met (heard_in p.left) ≡ m → (i : ℕ) × ((pulled name
        (suc n) p).0.written ≡ take i (pulled name (suc (suc n)) p).0.written)
    by None is = absurd (let so : (pulled name (suc n) p).1 ≡ Some BadPeer = ap (λ (x : Option (Identifier × List ℕ)).
        (meets name n (sends p greeting) x).1) is in cc (so, none))
    by (Some m) is =
        let q : Point = record (sends p greeting) { left = m.1 } in
        let here = ap (meets name n (sends p greeting)) is in
        let next = ap (meets name (suc n) (sends p greeting)) is in
        subst (λ (x : Course). (i : ℕ) × (x.0.written ≡ take i (pulled name (suc (suc n)) p).0.written)) (sym here)
        (subst (λ (x : Course). (i : ℕ) × ((fetch name m.0 n q).0.written ≡ take i x.0.written)) (sym next)
        (fetch_more name m.0 n q (ap (λ (x : Course). x.1) (sym here) ∙ none)))
