-- Many connections, one after the other.
use Rattle.std.proofs.Common.{◌≡◌, ◌⊎◌, ◌≤◌, ◌<◌, ◌+◌, ◌∙◌, inl, inr, ⊎_elim, refl, sym, ap, subst, ℕ, zero, suc, Result, Ok, Err, arith}
use Rattle.std.proofs.lemmas.Bool.{cases_lt}
use Rattle.std.specs.Prelude.{IsSome}
use Rattle.adr_io.specs.declared.Sink.{Ghosts as SinkGhosts}
use Rattle.adr_disk.specs.Disk.{Among}
use Rattle.adr_outside.specs.declared.net.Net.{Ghosts as NetGhosts}
use Rattle.adr_outside.specs.declared.clock.Clock.{Ghosts as ClockGhosts}
use Rattle.adr_model.specs.Store.{State}
use Rattle.adr_law_journal.specs.Areas.{Found, Started}
use Rattle.adr_law_journal.specs.Kept.{FindsState}
use Rattle.adr_journal.specs.declared.keeper.Keeper.{Ghosts as KeeperGhosts}
use Rattle.adr_controller.specs.Running.{IsInOrder, Running}
use Rattle.adr_law_controller.specs.Keeping.{Stands}
use Rattle.adr_session.specs.Talk.{Point}
use Rattle.adr_session.specs.Told.{FindsNear}
use Rattle.adr_law_controller.proofs.Crashes.{Crashes, LeavesLaw, OnlyNowLaw, crash_on, since, still_crashes}
use Rattle.adr_online.specs.declared.ended.Stop.{Stop}
use Rattle.adr_online.specs.declared.ended.Stop.TheVariants as stops
use Rattle.adr_online.specs.Posts.{Post, Behind, Connects, FindsFrom, FindsWithin}
use Rattle.adr_online.specs.Served.{HasFallen, IsAt, Outside, ServesAll, ServesNext, StopsAt}
use Rattle.adr_online.specs.Goes.{CallsDoor, Goes, Server, ServesOne, ServesSo, outside}
use Rattle.adr_online.proofs.Connected.{crashes_before, unopened}
use Rattle.adr_online.proofs.Monotone.{stops_so}

-- where a server stands behind so many connections
abbrev pub StandsBehind : {K : Type 0} → KeeperGhosts K → ℕ → Post → Running K → Outside → Type 0
StandsBehind k n p c o = (q : Post) × Behind n p q × Stands k q.stands c × IsAt q o

-- one more
pub one_further : {K : Type 0} (k : KeeperGhosts K) (fallen : Point → Type 0) (n : ℕ) (p : Post) (c : Running K) (o : Outside) (q : Post) → Behind n p q
    → ServesNext (λ f. Stands k f c) fallen (n + 1) q (Ok tt) o → StandsBehind k (n + 1) p c o
one_further k fallen n p c o q behind next =
    let one : n + 1 ≡ suc n = omega arith in
    let one_back : suc n ≡ n + 1 = omega arith in
    (next.0, subst (λ (m : ℕ). Behind m p next.0) one_back (q, behind, subst (λ (m : ℕ). Connects m q next.0) one next.1), next.2, next.3)

-- or it stops there
pub stops_there : (at : Found State → Type 0) (fallen : Point → Type 0) (count n : ℕ) (p q : Post) (o : Outside) → n < count → Behind n p q → (stop : Stop)
    → StopsAt at fallen (n + 1) q stop o → ServesAll at fallen count p (Err stop) o
stops_there at fallen count n p q o less behind stop stops =
    let one : n + 1 ≡ suc n = omega arith in
    (n, q, inl less, behind, subst (λ (m : ℕ). StopsAt at fallen m q stop o) one stops)

module _ {K : Type 0} (k : KeeperGhosts K) where
  -- a fault of the disk is told from the keeper on that was there first
  pub fell_since : (first mid : K) → (IsSome (k.told first) → IsSome (k.told mid)) → (c : Running K) (x : Point) → HasFallen k mid x c → HasFallen k first x c
  fell_since first mid told c x fell = (fell.0, since k first mid (Among (FindsNear x) (k.may_leave c.keeper)) told fell.1)

  -- where the loop stops
  pub stops_since : (first mid : K) → (IsSome (k.told first) → IsSome (k.told mid)) → (c : Running K) (count n : ℕ) (p q : Post) (o : Outside) → n < count → Behind n p q → (stop : Stop)
      → StopsAt (λ f. Stands k f c) (λ x. HasFallen k mid x c) (n + 1) q stop o → ServesAll (λ f. Stands k f c) (λ x. HasFallen k first x c) count p (Err stop) o
  stops_since first mid told c count n p q o less behind stop stops =
      stops_there (λ f. Stands k f c) (λ x. HasFallen k first x c) count n p q o less behind stop
      (stops_so (λ f. Stands k f c) (λ f. Stands k f c) (λ x. HasFallen k mid x c) (λ x. HasFallen k first x c) (λ f stands. stands) (fell_since first mid told c) (n + 1) q stop o stops)

  -- no connection was served yet
  first_found : (count : ℕ) (p : Post) (s : Started State) → FindsState p.stands.state s → FindsWithin count p s
  first_found zero p s finds = (0, p, refl, inr (refl, finds))
  first_found (suc count) p s finds = (0, p, refl, inl (omega arith, inl finds))

  pub crashes_first : LeavesLaw k → OnlyNowLaw k → (count : ℕ) (p : Post) (c : Running K) → Stands k p.stands c → IsInOrder k c → Crashes k c.keeper c.keeper (FindsWithin count p)
  crashes_first leaves only_now count p c stands in_order =
      still_crashes k leaves only_now (FindsWithin count p) p.stands c stands in_order (first_found count p)

  -- a crash so far, and in one connection more
  found_further : (n m : ℕ) (p : Post) (s : Started State) → n < m → FindsWithin n p s → FindsWithin m p s
  found_further n m p s lt finds = (
    finds.0,
    finds.1,
    finds.2,
    inl (⊎_elim (λ some. (omega (arith, lt, some.0), some.1)) (λ all. (omega (arith, lt, all.0), inl all.1)) finds.3),
  )

  pub crashes_further : (n m : ℕ) (p q : Post) (first mid new : K) → n < m → Behind n p q → Crashes k first mid (FindsWithin n p) → (IsSome (k.told first) → IsSome (k.told mid))
      → Crashes k mid new (FindsFrom q) → Crashes k first new (FindsWithin m p)
  crashes_further n m p q first mid new lt behind so_far told more =
      crash_on k first mid new (FindsWithin n p) (FindsFrom q) (FindsWithin m p) (λ s finds. found_further n m p s lt finds)
      (λ s finds. (n, q, behind, inl (lt, finds))) so_far told more

-- ---- with what is counted

-- a count that didn't rise at first rose then
rises_then : {A : Type 0} (a b d : ℕ) → (a < b → ⊥) → (b < d → A) → a < d → A
rises_then a b d none then rose = ⊎_elim (λ first. absurd (none first)) (λ (all : b ≤ a). then (omega (arith, all, rose))) (cases_lt a b)

module _ {K N C S : Type 0} (k : KeeperGhosts K) (n : NetGhosts N) (c : ClockGhosts C) (s : SinkGhosts S) where
  abbrev failing : Stop → Result Unit Stop
  failing stop = Err stop

  -- no connection was opened
  none_opened : (comes : Post → Outside → Type 0) (finds : Post → Started State → Type 0) (v : Server K N C S) (net : N) (stop : Stop) → CallsDoor n v.net net (Err stop)
      → ((p : Post) → Stands k p.stands v.controller → IsAt p (outside n c s v) → comes p (outside n c s (record v { net = net })))
      → ((p : Post) → Stands k p.stands v.controller → Crashes k v.controller.keeper v.controller.keeper (finds p))
      → Goes k n c s comes finds v (record v { net = net }) (Err stop)
  none_opened comes finds v net stop door so crash = record {
    up = tt;
    serves = so;
    any_moment = λ p stands at. crash p stands;
    told = λ is. is;
    disk = λ is. absurd (neither stops.Disk (cc is) door.only (λ e. cc e) (λ e. cc e));
    disk_later = omega arith;
    link = door.link;
    doors_later = door.doors_later;
    lines_later = omega (arith, door.lines);
    clock = λ is. absurd (neither stops.Clock (cc is) door.only (λ e. cc e) (λ e. cc e));
    clock_later = omega arith;
    write = λ is. absurd (neither stops.Write (cc is) door.only (λ e. cc e) (λ e. cc e));
    sink_later = omega arith;
    link_ends = door.link_ends;
    clock_ends = λ rose. absurd (omega (arith, rose));
    write_ends = λ rose. absurd (omega (arith, rose));
  }
    where
      neither : (x : Stop) → stop ≡ x → (stop ≡ stops.Link) ⊎ (stop ≡ stops.NoMemory) → (x ≡ stops.Link → ⊥) → (x ≡ stops.NoMemory → ⊥) → ⊥
      neither x is (inl e) link memory = link (sym is ∙ e)
      neither x is (inr e) link memory = memory (sym is ∙ e)

  module _ (leaves : LeavesLaw k) (only_now : OnlyNowLaw k) (v : Server K N C S) (net : N) (stop : Stop) (order : IsInOrder k v.controller) (door : CallsDoor n v.net net (Err stop)) where
    abbrev at_once : Found State → Type 0
    at_once f = Stands k f v.controller

    abbrev fallen_there : Point → Type 0
    fallen_there x = HasFallen k v.controller.keeper x v.controller

    stops_unopened : (number : ℕ) (p : Post) → Stands k p.stands v.controller → IsAt p (outside n c s v) → StopsAt at_once fallen_there number p stop (outside n c s (record v { net = net }))
    stops_unopened number p stands at =
        unopened at_once fallen_there number p (n.traffic v.net) (n.traffic net) (c.moments v.clock) (s.written v.sink) (n.lines v.net) (n.lines net) stands
        door.lines stop door.only (λ is. door.stays (ap failing is)) (λ is. door.hangs (ap failing is)) at

    pub unaccepted : (number : ℕ) → ServesOne k n c s number v (record v { net = net }) (Err stop)
    unaccepted number =
        none_opened (λ p o. StopsAt at_once fallen_there number p stop o) FindsFrom v net stop door (stops_unopened number) (λ p stands. crashes_before k leaves only_now p v.controller stands order)

    pub unlistened : (count : ℕ) → ServesSo k n c s count v (record v { net = net }) (Err stop)
    unlistened count =
        none_opened (λ p o. ServesAll at_once fallen_there count p (failing stop) o) (FindsWithin count) v net stop door
        (λ p stands at. (0, p, inr refl, refl, stops_unopened 1 p stands at)) (λ p stands. crashes_first k leaves only_now count p v.controller stands order)

  pub served_none : LeavesLaw k → OnlyNowLaw k → (v : Server K N C S) → IsSome v.controller.state → IsInOrder k v.controller → ServesSo k n c s 0 v v (Ok tt)
  served_none leaves only_now v up order = record {
    up = up;
    serves = λ p stands at. (p, refl, stands, at);
    any_moment = λ p stands at. crashes_first k leaves only_now 0 p v.controller stands order;
    told = λ is. is;
    disk = λ is. absurd (cc is);
    disk_later = omega arith;
    link = λ is. absurd (cc is);
    doors_later = omega arith;
    lines_later = omega arith;
    clock = λ is. absurd (cc is);
    clock_later = omega arith;
    write = λ is. absurd (cc is);
    sink_later = omega arith;
    link_ends = λ rose. absurd (omega (arith, rose));
    clock_ends = λ rose. absurd (omega (arith, rose));
    write_ends = λ rose. absurd (omega (arith, rose));
  }

  module _ (m : ℕ) (first mid new : Server K N C S) (so : ServesSo k n c s m first mid (Ok tt)) where
    -- one more
    pub served_more : ServesOne k n c s (m + 1) mid new (Ok tt) → ServesSo k n c s (m + 1) first new (Ok tt)
    served_more one = record {
      up = one.up;
      serves = λ p stands at.
          let b = so.serves p stands at in
          one_further k (λ x. HasFallen k mid.controller.keeper x new.controller) m p new.controller (outside n c s new) b.0 b.1 (one.serves b.0 b.2 b.3);
      any_moment = λ p stands at.
          let b = so.serves p stands at in
          crashes_further k m (m + 1) p b.0 first.controller.keeper mid.controller.keeper new.controller.keeper (omega arith) b.1 (so.any_moment p stands at) so.told
          (one.any_moment b.0 b.2 b.3);
      told = λ is. one.told (so.told is);
      disk = λ is. absurd (cc is);
      disk_later = omega (arith, so.disk_later, one.disk_later);
      link = λ is. absurd (cc is);
      doors_later = omega (arith, so.doors_later, one.doors_later);
      lines_later = omega (arith, so.lines_later, one.lines_later);
      clock = λ is. absurd (cc is);
      clock_later = omega (arith, so.clock_later, one.clock_later);
      write = λ is. absurd (cc is);
      sink_later = omega (arith, so.sink_later, one.sink_later);
      link_ends = rises_then (n.doors first.net) (n.doors mid.net) (n.doors new.net) (λ rose. cc (so.link_ends rose)) one.link_ends;
      clock_ends = rises_then (c.faults first.clock) (c.faults mid.clock) (c.faults new.clock) (λ rose. cc (so.clock_ends rose)) one.clock_ends;
      write_ends = rises_then (s.faults first.sink) (s.faults mid.sink) (s.faults new.sink) (λ rose. cc (so.write_ends rose)) one.write_ends;
    }

    -- or it stops there
    pub served_some : (count : ℕ) (stop : Stop) → m < count → ServesOne k n c s (m + 1) mid new (Err stop) → ServesSo k n c s count first new (Err stop)
    served_some count stop less one = record {
      up = tt;
      serves = λ p stands at.
          let b = so.serves p stands at in
          stops_since k first.controller.keeper mid.controller.keeper so.told new.controller count m p b.0 (outside n c s new) less b.1 stop (one.serves b.0 b.2 b.3);
      any_moment = λ p stands at.
          let b = so.serves p stands at in
          crashes_further k m count p b.0 first.controller.keeper mid.controller.keeper new.controller.keeper (omega (arith, less)) b.1 (so.any_moment p stands at) so.told
          (one.any_moment b.0 b.2 b.3);
      told = λ is. one.told (so.told is);
      disk = λ is. omega (arith, so.disk_later, one.disk is);
      disk_later = omega (arith, so.disk_later, one.disk_later);
      link = λ is. omega (arith, so.doors_later, one.link is);
      doors_later = omega (arith, so.doors_later, one.doors_later);
      lines_later = omega (arith, so.lines_later, one.lines_later);
      clock = λ is. omega (arith, so.clock_later, one.clock is);
      clock_later = omega (arith, so.clock_later, one.clock_later);
      write = λ is. omega (arith, so.sink_later, one.write is);
      sink_later = omega (arith, so.sink_later, one.sink_later);
      link_ends = rises_then (n.doors first.net) (n.doors mid.net) (n.doors new.net) (λ rose. cc (so.link_ends rose)) one.link_ends;
      clock_ends = rises_then (c.faults first.clock) (c.faults mid.clock) (c.faults new.clock) (λ rose. cc (so.clock_ends rose)) one.clock_ends;
      write_ends = rises_then (s.faults first.sink) (s.faults mid.sink) (s.faults new.sink) (λ rose. cc (so.write_ends rose)) one.write_ends;
    }

  -- behind a call that only listens
  pub served_behind : (count : ℕ) (v new : Server K N C S) (net : N) (r : Result Unit Stop) → n.traffic net ≡ n.traffic v.net → CallsDoor n v.net net (Ok tt)
      → ServesSo k n c s count (record v { net = net }) new r → ServesSo k n c s count v new r
  served_behind count v new net r stays door so = record {
    up = so.up;
    serves = λ p stands at. so.serves p stands (listening p at);
    any_moment = λ p stands at. so.any_moment p stands (listening p at);
    told = so.told;
    disk = so.disk;
    disk_later = so.disk_later;
    link = λ is. omega (arith, door.doors_later, so.link is);
    doors_later = omega (arith, door.doors_later, so.doors_later);
    lines_later = omega (arith, door.lines, so.lines_later);
    clock = so.clock;
    clock_later = so.clock_later;
    write = so.write;
    sink_later = so.sink_later;
    link_ends = rises_then (n.doors v.net) (n.doors net) (n.doors new.net) (λ rose. cc (door.link_ends rose)) so.link_ends;
    clock_ends = so.clock_ends;
    write_ends = so.write_ends;
  }
    where
      listening : (p : Post) → IsAt p (outside n c s v) → IsAt p (outside n c s (record v { net = net }))
      listening p at = record { net = stays ∙ at.net; clock = at.clock; lines = at.lines; faults = door.lines ∙ at.faults }
