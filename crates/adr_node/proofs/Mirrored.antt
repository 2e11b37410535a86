-- What a command leaves of one disk, it leaves of another that mirrors it.
use Rattle.std.proofs.Common.{◌≡◌, refl, sym, ap, ◌∙◌, subst, inl, inr, ⊎_elim, ℕ, ◌≤◌, List, Option, Ok, Err, arith, IfSome, IsSome}
use Rattle.std.specs.Option.{option_map}
use Rattle.adr_disk.specs.Disk.{Among, Keeps, LeavesOnly}
use Rattle.adr_disk.specs.declared.disk.Disk.{Ghosts as DiskGhosts}
use Rattle.adr_disk.proofs.Moments.{joined, started, weakened}
use Rattle.adr_io.specs.declared.Sink.{Ghosts as SinkGhosts}
use Rattle.adr_model.specs.Store.{State}
use Rattle.adr_law_journal.specs.Areas.{Found, Started, start_of}
use Rattle.adr_law_journal.specs.Kept.{Finds, FindsState}
use Rattle.adr_law_journal.proofs.Told.{at_told, if_told}
use Rattle.adr_journal.specs.declared.keeper.Keeper.{Ghosts as KeeperGhosts}
use Rattle.adr_records.specs.Head.{area_at, front_at}
use Rattle.adr_records.specs.Body.{following_in}
use Rattle.adr_node.specs.Seen.{FindsAsBefore, Seen, StandsAs, Stays, of_disk, of_keeper, Mirrors}
use Rattle.adr_node.specs.Begins.{EndsUnbegun, IsDamaged, IsHindered, IsUnbegun, StandsOn}
use Rattle.adr_node.specs.Looks.{Due, Looks}
use Rattle.adr_node.specs.declared.ended.Looked.{Looked}
use Rattle.adr_node.specs.declared.ended.Unbegun.{Unbegun}

-- what is kept mirrors
pub kept : {D : Type 0} (d : DiskGhosts D) (old new : D) → Keeps d.content d.may_leave d.moment d.left_since old new → d.faults old ≤ d.faults new
    → Mirrors (of_disk d) old (of_disk d) new
kept d old new keeps counted = record {
  content = keeps.content_stays;
  told = ap (option_map (start_of front_at area_at following_in)) keeps.content_stays;
  left = λ f left. (left.0, keeps.no_more left.0 left.1, left.2);
  since = λ t f left. (left.0, keeps.past_stays t left.0 left.1, left.2);
  moment = keeps.moment_stays;
  faults = counted;
}

pub both : {A B C : Type 0} (a : Seen A) (b : Seen B) (c : Seen C) (x : A) (y : B) (z : C) → Mirrors a x b y → Mirrors b y c z → Mirrors a x c z
both a b c x y z first second = record {
  content = second.content ∙ first.content;
  told = second.told ∙ first.told;
  left = λ f left. first.left f (second.left f left);
  since = λ t f left. first.since t f (second.since t f left);
  moment = second.moment ∙ first.moment;
  faults = omega (arith, first.faults, second.faults);
}

module _ {D E : Type 0} (d : Seen D) (e : Seen E) (old new : D) (from to : E) (first : Mirrors d old e from) (last : Mirrors e to d new) where
  pub leaves_over : (P Q : Started State → Type 0) → Among Q P → LeavesOnly e.moment e.left_since from to P → LeavesOnly d.moment d.left_since old new Q
  leaves_over P Q says leaves = record {
    later = omega (arith, first.moment, last.moment, leaves.later);
    each = λ f left. says f (leaves.each f (subst (λ (t : ℕ). e.left_since to t f) (sym first.moment) (last.since (d.moment old) f left)));
    before = λ t f le left. ⊎_elim (λ was. inl (first.since t f was)) (λ p. inr (says f p)) (leaves.before t f (omega (arith, first.moment, le)) (last.since t f left));
  }

  pub told_over : (P : Started State → Type 0) → IfSome (e.told from) P → IfSome (d.told old) P
  told_over P is = subst (λ (o : Option (Started State)). IfSome o P) first.told is

  pub same_over : Stays e from to → Stays d old new
  same_over same = (last.content ∙ same.0 ∙ first.content, last.told ∙ same.1 ∙ first.told)

  pub among_over : Among (e.may_leave from) (e.may_leave to) → Among (d.may_leave old) (d.may_leave new)
  among_over among f left = first.left f (among f (last.left f left))

  pub still_over : (IsSome (e.told from) → IsSome (e.told to)) → IsSome (d.told old) → IsSome (d.told new)
  still_over still was =
      subst (λ (o : Option (Started State)). IsSome o) (sym last.told) (still (subst (λ (o : Option (Started State)). IsSome o) (sym first.told) was))

  pub as_before_over : FindsAsBefore e from to → FindsAsBefore d old new
  as_before_over b = record {
    stays = same_over b.stays;
    any_moment = leaves_over (e.may_leave from) (d.may_leave old) first.left b.any_moment;
    left = among_over b.left;
  }

  pub as_over : (this : Started State) → StandsAs e this to → StandsAs d this new
  as_over this stands =
      if_told (d.told new) (λ t. (t ≡ this) × Among (λ f. f ≡ this) (d.may_leave new)) (λ t there.
      let was = at_told (e.told to) (λ t. (t ≡ this) × Among (λ f. f ≡ this) (e.may_leave to)) t (sym last.told ∙ there) stands in
      (was.0, λ f left. was.1 f (last.left f left)))

  pub stands_over : (f : Found State) → StandsOn e to f → StandsOn d new f
  stands_over f stands =
      if_told (d.told new) (λ t. (t ≡ Ok f) × Among (FindsState f.state) (d.may_leave new)) (λ t there.
      let was = at_told (e.told to) (λ t. (t ≡ Ok f) × Among (FindsState f.state) (e.may_leave to)) t (sym last.told ∙ there) stands in
      (was.0, λ s left. was.1 s (last.left s left)))

  -- what is told of a command that had no controller to begin with
  module _ {S : Type 0} (k : SinkGhosts S) (before after : S) (why : Unbegun) where
    hindered_over : IsHindered e from to before after why → IsHindered d old new before after why
    hindered_over h = (⊎_elim (λ fault. inl fault) (λ wants. inr (wants.0, same_over wants.1)) h.0, h.1)

    damaged_over : (there : Started State) → IsDamaged e k there from to before after why → IsDamaged d k there old new before after why
    damaged_over (Ok f) h = absurd h
    damaged_over (Err place) h = (h.0, same_over h.1, as_over (Err place) h.2)

    pub ends_over : (there : Started State) → EndsUnbegun e k there from to before after why → EndsUnbegun d k there old new before after why
    ends_over there ends = (⊎_elim (λ h. inl (hindered_over h)) (λ h. inr (damaged_over there h)) ends.0, among_over ends.1)

    pub unbegun_over : IsUnbegun e k from to before after why → IsUnbegun d k old new before after why
    unbegun_over u = record {
      found = u.found;
      is_found = told_over (λ t. t ≡ u.found) u.is_found;
      ends = ends_over u.found u.ends;
      still_told = still_over u.still_told;
      any_moment = leaves_over (e.may_leave from) (d.may_leave old) first.left u.any_moment;
      write_fault = u.write_fault;
      write_ends = u.write_ends;
      disk_fault = λ is. omega (arith, first.faults, last.faults, u.disk_fault is);
      sink_later = u.sink_later;
      disk_later = omega (arith, first.faults, last.faults, u.disk_later);
    }

  pub looks_over : {K : Type 0} (k : SinkGhosts K) (due : Started State → Due) (before after : K) (how : Looked) → Looks e k due from to before after how → Looks d k due old new before after how
  looks_over k due before after how l = record {
    found = l.found;
    is_found = told_over (λ t. t ≡ l.found) l.is_found;
    logged = l.logged;
    tells = l.tells;
    disk_fault = λ is. (omega (arith, first.faults, last.faults, (l.disk_fault is).0), (l.disk_fault is).1);
    later = omega (arith, first.faults, last.faults, l.later);
    stays = λ no_fault. same_over (l.stays no_fault);
    durable = ⊎_elim (λ stands. inl (as_over l.found stands)) (λ none. inr none) l.durable;
    still_told = still_over l.still_told;
    any_moment = leaves_over (e.may_leave from) (d.may_leave old) first.left l.any_moment;
    left = among_over l.left;
  }

-- what changes nothing leaves what might have been left before it
pub kept_leaves : {D : Type 0} (d : DiskGhosts D) (only_now : (disk : D) (bytes : List ℕ) → d.left_since disk (d.moment disk) bytes → d.may_leave disk bytes) (old new : D)
    → Keeps d.content d.may_leave d.moment d.left_since old new → LeavesOnly d.moment (of_disk d).left_since old new ((of_disk d).may_leave old)
kept_leaves d only_now old new keeps = record {
  later = omega (arith, keeps.moment_stays);
  each = λ f left. (left.0, only_now old left.0 (keeps.past_stays (d.moment old) left.0 left.1), left.2);
  before = λ t f le left. inl (left.0, keeps.past_stays t left.0 left.1, left.2);
}

-- ---- a start finds what it found

-- also behind what leaves it so
pub as_before_twice : {D : Type 0} (d : Seen D) (old mid new : D) → FindsAsBefore d old mid → FindsAsBefore d mid new → FindsAsBefore d old new
as_before_twice d old mid new first second = record {
  stays = (second.stays.0 ∙ first.stays.0, second.stays.1 ∙ first.stays.1);
  any_moment = joined d.moment d.left_since old mid new (d.may_leave old) first.any_moment (weakened d.moment d.left_since mid new (d.may_leave mid) (d.may_leave old) first.left second.any_moment);
  left = λ f may. first.left f (second.left f may);
}

-- where nothing changes
pub kept_as_before : {D : Type 0} (d : DiskGhosts D) (only_now : (disk : D) (bytes : List ℕ) → d.left_since disk (d.moment disk) bytes → d.may_leave disk bytes) (old new : D)
    → Keeps d.content d.may_leave d.moment d.left_since old new → FindsAsBefore (of_disk d) old new
kept_as_before d only_now old new keeps = record {
  stays = (keeps.content_stays, ap (option_map (start_of front_at area_at following_in)) keeps.content_stays);
  any_moment = kept_leaves d only_now old new keeps;
  left = λ f left. (left.0, keeps.no_more left.0 left.1, left.2);
}

-- nor of a keeper
module _ {K : Type 0} (k : KeeperGhosts K) (only_now : (x : K) (t : Started State) → k.left_since x (k.moment x) t → k.may_leave x t) where
  pub keeper_as_before : (old new : K) → k.content new ≡ k.content old → Keeps k.told k.may_leave k.moment k.left_since old new → FindsAsBefore (of_keeper k) old new
  keeper_as_before old new same keeps = record {
    stays = (same, keeps.content_stays);
    any_moment = record {
      later = omega (arith, keeps.moment_stays);
      each = λ f left. only_now old f (keeps.past_stays (k.moment old) f left);
      before = λ t f le left. inl (keeps.past_stays t f left);
    };
    left = keeps.no_more;
  }

  pub keeper_itself : (old new : K) → new ≡ old → FindsAsBefore (of_keeper k) old new
  keeper_itself old new is =
      subst (λ (x : K). FindsAsBefore (of_keeper k) old x) (sym is) (record { stays = (refl, refl); any_moment = started k.moment k.left_since old (k.may_leave old) (only_now old); left = λ f may. may })

-- ---- a log on a disk

module _ {D J : Type 0} (d : DiskGhosts D) (disk_of : J → D) where
  abbrev pub over : Seen J
  over =
      record {
        faults = λ j. d.faults (disk_of j);
        content = λ j. d.content (disk_of j);
        told = λ j. option_map (start_of front_at area_at following_in) (d.content (disk_of j));
        may_leave = λ j. Finds front_at area_at following_in (d.may_leave (disk_of j));
        moment = λ j. d.moment (disk_of j);
        left_since = λ j t. Finds front_at area_at following_in (d.left_since (disk_of j) t);
      }

  -- it mirrors the disk that it was put on
  pub onto : (disk : D) (j : J) → disk_of j ≡ disk → Mirrors (of_disk d) disk over j
  onto disk j is =
      subst (λ (x : D). Mirrors (of_disk d) x over j) is
      (record { content = refl; told = refl; left = λ f left. left; since = λ t f left. left; moment = refl; faults = omega arith })

  -- and is mirrored by the one that it gives back
  pub off : (j : J) (disk : D) → d.content disk ≡ over.content j → Among (over.may_leave j) ((of_disk d).may_leave disk)
      → ((t : ℕ) → Among (over.left_since j t) ((of_disk d).left_since disk t)) → d.moment disk ≡ over.moment j → d.faults disk ≡ over.faults j → Mirrors over j (of_disk d) disk
  off j disk same left since moment faults = record { content = same; told = ap (option_map (start_of front_at area_at following_in)) same; left = left; since = since; moment = moment; faults = omega (arith, faults) }
