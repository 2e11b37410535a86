-- What a format leaves of a keeper, and of the disk below it.
use Rattle.std.proofs.Common.{◌≡◌, ◌⊎◌, ◌<◌, ◌≤◌, ⊎_elim, inl, inr, refl, sym, ap, subst, ℕ, ◌↔◌, List, true, false, Option, Some, None, IfSome, IsSome, Ok, Err, Result, arith}
use Rattle.std.specs.Option.{option_map}
use Rattle.adr_io.specs.declared.Fault.{Fault}
use Rattle.adr_io.specs.declared.Fault.TheVariants.{Failed, NoMemory}
use Rattle.adr_disk.specs.Disk.{Among, Elapses, LeavesOnly}
use Rattle.adr_disk.specs.declared.disk.Disk.{Ghosts as DiskGhosts}
use Rattle.adr_disk.proofs.Moments.{joined, weakened}
use Rattle.adr_model.specs.Lengths.{area_fits, new_log}
use Rattle.adr_model.specs.Store.{State}
use Rattle.adr_law_journal.specs.Areas.{Found, Started, found, start_of}
use Rattle.adr_journal.specs.Ended.{IsNewOrNone}
use Rattle.adr_journal.specs.declared.keeper.Keeper.{Ghosts as KeeperGhosts}
use Rattle.adr_journal.specs.declared.keeper.KeeperRefusal.{KeeperRefusal}
use Rattle.adr_journal.specs.declared.keeper.KeeperRefusal.TheVariants as keeps
use Rattle.adr_controller.specs.Running.{IsInOrder, Running}
use Rattle.adr_node.specs.Seen.{FindsAsBefore, Seen, of_disk, of_keeper, Mirrors}
use Rattle.adr_records.specs.Head.{area_at, front_at}
use Rattle.adr_records.specs.Body.{following_in}
use Rattle.adr_node.specs.Formats.{EndsFormat, Formats}
use Rattle.adr_node.specs.Makes.{BeforeOrBegun, Begins}
use Rattle.adr_node.specs.declared.ended.Refusal.TheVariants.{NotEmpty, Image, Adoption, Full}
use Rattle.adr_node.specs.declared.making.Unmade.{Unmade}
use Rattle.adr_node.specs.declared.making.Unmade.TheVariants as unmade
use Rattle.adr_node.proofs.Mirrored.{as_before_over, as_before_twice, as_over, leaves_over}

-- what is told may be weakened
pub if_weaker : {A : Type 0} (o : Option A) (P Q : A → Type 0) → ((x : A) → P x → Q x) → IfSome o P → IfSome o Q
if_weaker None P Q f p = tt
if_weaker (Some x) P Q f p = f x p

pub stands_so : (o : Option (Started State)) (left : Started State → Type 0) (f : Found State) → IfSome o (λ t. t ≡ Ok f) → (IsSome o → Among (λ t. t ≡ Ok f) left)
    → IfSome o (λ t. (t ≡ Ok f) × Among (λ t. t ≡ Ok f) left)
stands_so None left f told among = tt
stands_so (Some t) left f told among = (told, among refl)

-- the same, or mapped, is as much told
pub as_told : {A : Type 0} (a b : Option A) → b ≡ a → IsSome b ↔ IsSome a
as_told {A} a b e = subst (λ (o : Option A). IsSome o ↔ IsSome a) (sym e) (λ is. is, λ is. is)

pub mapped_told : {A B : Type 0} (f : A → B) (a b : Option A) → (IsSome b ↔ IsSome a) → IsSome (option_map f b) ↔ IsSome (option_map f a)
mapped_told f None None both = (λ is. is, λ is. is)
mapped_told f None (Some y) both = absurd (cc (both.0 refl))
mapped_told f (Some x) None both = absurd (cc (both.1 refl))
mapped_told f (Some x) (Some y) both = (λ is. refl, λ is. refl)

module _ {K T : Type 0} (k : KeeperGhosts K) (s : State) (old : K) where
  pub formats_ok : (law : (x : K) (f : Found State) → k.is_at x f → k.is_failed x ≡ false → IfSome (k.told x) (λ t. t ≡ Ok f))
      → (left_law : (x : K) (f : Found State) (t : Started State) → k.is_at x f → k.is_failed x ≡ false → IsSome (k.told x) → k.may_leave x t → t ≡ Ok f)
      → (c : Running K) (done : T) → c.state ≡ Some s → k.is_at c.keeper (found s (new_log s)) → IsInOrder k c → area_fits (new_log s) s.store ≡ true → k.faults old ≤ k.faults c.keeper → (IsSome (k.told c.keeper) ↔ IsSome (k.told old))
      → IfSome (k.told old) (λ _. LeavesOnly k.moment k.left_since old c.keeper (IsNewOrNone s)) → IfSome (k.told old) (λ _. Among (IsNewOrNone s) (k.may_leave c.keeper))
      → Formats (of_keeper k) s old c.keeper (let how : Result T Unmade = Ok done in how)
  formats_ok law left_law c done is at order fits later both moments left = record {
    ends =
        let f = found s (new_log s) in
        let up = (order.up s is).0.running in
        (fits, stands_so (k.told c.keeper) (k.may_leave c.keeper) f (law c.keeper f at up) (λ told t may. left_law c.keeper f t at up told may));
    later = later;
    still_told = both;
    any_moment = moments;
    left = left;
  }

  pub formats_err : (new : K) (refusal : KeeperRefusal) (e : Unmade)
      → (refusal ≡ keeps.DiskFault) ⊎ ((refusal ≡ keeps.Full) ⊎ (refusal ≡ keeps.NoMemory))
      → (refusal ≡ keeps.DiskFault → e ≡ unmade.DiskFault) → (refusal ≡ keeps.Full → e ≡ unmade.Refused Full) → (refusal ≡ keeps.NoMemory → e ≡ unmade.NoMemory)
      → (refusal ≡ keeps.Full → FindsAsBefore (of_keeper k) old new × (area_fits (new_log s) s.store ≡ false)) → (refusal ≡ keeps.DiskFault → k.faults old < k.faults new) → (refusal ≡ keeps.NoMemory → FindsAsBefore (of_keeper k) old new)
      → k.faults old ≤ k.faults new → (IsSome (k.told new) ↔ IsSome (k.told old)) → IfSome (k.told old) (λ _. LeavesOnly k.moment k.left_since old new (IsNewOrNone s)) → IfSome (k.told old) (λ _. Among (IsNewOrNone s) (k.may_leave new))
      → Formats (of_keeper k) s old new (let how : Result T Unmade = Err e in how)
  formats_err new refusal e which of_fault of_full of_none full fault none later both moments left =
      let P : Unmade → Type 0 = λ e. EndsFormat (of_keeper k) s old new (let how : Result T Unmade = Err e in how) in
      record {
        ends =
            ⊎_elim (λ is. subst P (sym (of_fault is)) (fault is))
            (λ rest. ⊎_elim (λ is. subst P (sym (of_full is)) ((full is).1, (full is).0)) (λ is. subst P (sym (of_none is)) (none is)) rest) which;
        later = later;
        still_told = both;
        any_moment = moments;
        left = left;
      }

module _ {D E T : Type 0} (d : Seen D) (e : Seen E) (s : State) (old new : D) (from to : E) (first : Mirrors d old e from) (last : Mirrors e to d new) where
  ends_over : (how : Result T Unmade) → EndsFormat e s from to how → EndsFormat d s old new how
  ends_over (Ok done) ends = (ends.0, as_over d e old new from to first last (Ok (found s (new_log s))) ends.1)
  ends_over (Err (unmade.Refused Full)) ends = (ends.0, as_before_over d e old new from to first last ends.1)
  ends_over (Err (unmade.Refused NotEmpty)) ends = ends
  ends_over (Err (unmade.Refused (Image why))) ends = ends
  ends_over (Err (unmade.Refused (Adoption why))) ends = ends
  ends_over (Err unmade.ReadFault) ends = ends
  ends_over (Err unmade.DiskFault) ends = omega (arith, first.faults, last.faults, ends)
  ends_over (Err unmade.FreshFault) ends = ends
  ends_over (Err unmade.NoMemory) ends = as_before_over d e old new from to first last ends

  pub formats_over : (how : Result T Unmade) → Formats e s from to how → Formats d s old new how
  formats_over how f = record {
    ends = ends_over how f.ends;
    later = omega (arith, first.faults, last.faults, f.later);
    still_told =
        subst (λ (o : Option (Started State)). IsSome (d.told new) ↔ IsSome o) first.told
        (subst (λ (o : Option (Started State)). IsSome o ↔ IsSome (e.told from)) (sym last.told) f.still_told);
    any_moment =
        subst (λ (o : Option (Started State)). IfSome o (λ _. LeavesOnly d.moment d.left_since old new (IsNewOrNone s))) first.told
        (if_weaker (e.told from) _ _ (λ t leaves. leaves_over d e old new from to first last (IsNewOrNone s) (IsNewOrNone s) (λ f is. is) leaves) f.any_moment);
    left =
        subst (λ (o : Option (Started State)). IfSome o (λ _. Among (IsNewOrNone s) (d.may_leave new))) first.told
        (if_weaker (e.told from) _ _ (λ t among f left. among f (last.left f left)) f.left);
  }

-- what was done behind a call that left what a start finds, also behind a crash
pub ends_behind : {D T : Type 0} (d : Seen D) (s : State) (old mid new : D) (how : Result T Unmade) → FindsAsBefore d old mid → d.faults old ≤ d.faults mid → EndsFormat d s mid new how → EndsFormat d s old new how
ends_behind d s old mid new (Ok done) same later ends = ends
ends_behind d s old mid new (Err (unmade.Refused Full)) same later ends = (ends.0, as_before_twice d old mid new same ends.1)
ends_behind d s old mid new (Err (unmade.Refused NotEmpty)) same later ends = ends
ends_behind d s old mid new (Err (unmade.Refused (Image why))) same later ends = ends
ends_behind d s old mid new (Err (unmade.Refused (Adoption why))) same later ends = ends
ends_behind d s old mid new (Err unmade.ReadFault) same later ends = ends
ends_behind d s old mid new (Err unmade.DiskFault) same later ends = omega (arith, later, ends)
ends_behind d s old mid new (Err unmade.FreshFault) same later ends = ends
ends_behind d s old mid new (Err unmade.NoMemory) same later ends = as_before_twice d old mid new same ends

-- and what ended there
pub ends_short : {D : Type 0} (T : Type 0) (d : Seen D) (s : State) (old mid : D) (fault : Fault) (e : Unmade) → (fault ≡ Failed → e ≡ unmade.DiskFault) → (fault ≡ NoMemory → e ≡ unmade.NoMemory)
    → (fault ≡ Failed → d.faults old < d.faults mid) → (fault ≡ NoMemory → FindsAsBefore d old mid) → EndsFormat d s old mid (let how : Result T Unmade = Err e in how)
ends_short T d s old mid Failed e of_failed of_none counts same = subst (λ (e : Unmade). EndsFormat d s old mid (let how : Result T Unmade = Err e in how)) (sym (of_failed refl)) (counts refl)
ends_short T d s old mid NoMemory e of_failed of_none counts same = subst (λ (e : Unmade). EndsFormat d s old mid (let how : Result T Unmade = Err e in how)) (sym (of_none refl)) (same refl)

-- how it ended, where that is this
pub ends_at : {D T : Type 0} (d : Seen D) (s : State) (old new : D) (how : Result T Unmade) (e : Unmade) → how ≡ Err e → EndsFormat d s old new how → EndsFormat d s old new (let h : Result T Unmade = Err e in h)
ends_at {D} {T} d s old new how e is ends = subst (λ (h : Result T Unmade). EndsFormat d s old new h) is ends

pub always : {A X : Type 0} (o : Option A) → X → IfSome o (λ _. X)
always None x = tt
always (Some a) x = x

-- ---- the sync before it

pub is_left : {D : Type 0} (d : DiskGhosts D) (old new : D) → Among (d.may_leave old) (d.may_leave new) → Among ((of_disk d).may_leave old) ((of_disk d).may_leave new)
is_left d old new among f left = (left.0, among left.0 left.1, left.2)

module _ {D : Type 0} (d : DiskGhosts D) (only_now : (disk : D) (bytes : List ℕ) → d.left_since disk (d.moment disk) bytes → d.may_leave disk bytes) where
  -- a sync leaves what might have been left before it
  pub synced_leaves : (old new : D) → Elapses (d.moment old) (d.moment new) (d.left_since old) (d.left_since new) (d.may_leave old)
      → LeavesOnly d.moment (of_disk d).left_since old new ((of_disk d).may_leave old)
  synced_leaves old new time = record {
    later = time.later;
    each = λ f left. (left.0, ⊎_elim (λ past. only_now old left.0 past) (λ now. now) (time.nothing_else (d.moment old) left.0 (omega arith) left.1), left.2);
    before = λ t f le left. ⊎_elim (λ past. inl (left.0, past, left.2)) (λ now. inr (left.0, now, left.2)) (time.nothing_else t left.0 le left.1);
  }

  -- nor does it change what a start finds
  pub synced_as_before : (old new : D) → d.content new ≡ d.content old → Elapses (d.moment old) (d.moment new) (d.left_since old) (d.left_since new) (d.may_leave old)
      → Among (d.may_leave old) (d.may_leave new) → FindsAsBefore (of_disk d) old new
  synced_as_before old new same time left = record {
    stays = (same, ap (option_map (start_of front_at area_at following_in)) same);
    any_moment = synced_leaves old new time;
    left = is_left d old new left;
  }

module _ {D : Type 0} (d : DiskGhosts D) (old mid : D) (s : State) (first : LeavesOnly d.moment (of_disk d).left_since old mid ((of_disk d).may_leave old)) (left : Among ((of_disk d).may_leave old) ((of_disk d).may_leave mid)) where
  -- it was cut short before
  pub begins_short : d.faults old ≤ d.faults mid → (IsSome ((of_disk d).told mid) ↔ IsSome ((of_disk d).told old)) → Begins (of_disk d) (Some s) old mid
  begins_short later both =
      let P : Started State → Type 0 = BeforeOrBegun (of_disk d) old (Some s) in
      record {
        later = later;
        still_told = both;
        any_moment = always ((of_disk d).told old) (weakened d.moment (of_disk d).left_since old mid ((of_disk d).may_leave old) P (λ f is. inl is) first);
        left = always ((of_disk d).told old) (λ f may. inl (left f may));
      }

  -- and then it was formatted
  pub begins_behind : {T : Type 0} (new : D) (how : Result T Unmade) → d.faults old ≤ d.faults mid → (of_disk d).told mid ≡ (of_disk d).told old → Formats (of_disk d) s mid new how → Begins (of_disk d) (Some s) old new
  begins_behind new how later told f =
      let P : Started State → Type 0 = BeforeOrBegun (of_disk d) old (Some s) in
      record {
        later = omega (arith, later, f.later);
        still_told = subst (λ (o : Option (Started State)). IsSome ((of_disk d).told new) ↔ IsSome o) told f.still_told;
        any_moment =
            subst (λ (o : Option (Started State)). IfSome o (λ _. LeavesOnly d.moment (of_disk d).left_since old new P)) told
            (if_weaker ((of_disk d).told mid) _ _
            (λ t leaves.
            joined d.moment (of_disk d).left_since old mid new P (weakened d.moment (of_disk d).left_since old mid ((of_disk d).may_leave old) P (λ f is. inl is) first)
            (weakened d.moment (of_disk d).left_since mid new (IsNewOrNone s) P (λ f is. inr is) leaves))
            f.any_moment);
        left =
            subst (λ (o : Option (Started State)). IfSome o (λ _. Among P ((of_disk d).may_leave new))) told
            (if_weaker ((of_disk d).told mid) _ _ (λ t among f is. inr (among f is)) f.left);
      }
