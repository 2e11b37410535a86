-- One connection more: what its three steps come to.
use Rattle.std.proofs.Common.{◌≡◌, ◌⊎◌, ◌<◌, ◌≤◌, ◌∙◌, inl, inr, refl, sym, ap, subst, ℕ, List, [], ◌∷◌, ◌++◌, take, Option, Some, Result, Ok, Err, IfSome, arith}
use Rattle.std.specs.Prelude.{IfErr, IsErrOf, IsSome, OnErr, OnOk}
use Rattle.std.specs.Option.{option_map}
use Rattle.adr_io.specs.Told.{Adds, AddsFront}
use Rattle.adr_io.specs.declared.Fault.{Fault}
use Rattle.adr_io.specs.declared.Fault.TheVariants.{Failed, NoMemory}
use Rattle.adr_io.specs.declared.Sink.{Ghosts as SinkGhosts}
use Rattle.adr_model.specs.Store.{State}
use Rattle.adr_law_journal.specs.Areas.{Found}
use Rattle.adr_law_journal.proofs.Told.{at_told}
use Rattle.adr_journal.specs.declared.keeper.Keeper.{Ghosts as KeeperGhosts}
use Rattle.adr_controller.specs.Running.{IsInOrder, Running}
use Rattle.adr_outside.specs.Traffic.{Traffic, Opens, closed, hung_up}
use Rattle.adr_outside.specs.Counted.{IsCounted}
use Rattle.adr_outside.specs.declared.net.Net.{Ghosts as NetGhosts}
use Rattle.adr_outside.specs.declared.clock.Clock.{Ghosts as ClockGhosts}
use Rattle.adr_session.specs.declared.ending.Served.{Served}
use Rattle.adr_session.specs.Talk.{Point}
use Rattle.adr_law_controller.specs.Keeping.{Stands}
use Rattle.adr_session.specs.Told.{FindsBehind}
use Rattle.adr_law_controller.proofs.Crashes.{Crashes, LeavesLaw, OnlyNowLaw, crash_by, still_crashes}
use Rattle.adr_session.proofs.Reacting.{if_ok_any}
use Rattle.adr_online.specs.declared.ended.Stop.{Stop}
use Rattle.adr_online.specs.declared.ended.Stop.TheVariants as stops
use Rattle.adr_online.specs.Lines.{connection_line}
use Rattle.adr_online.specs.Posts.{Post, Connects, Fails, FindsFrom, done, opened}
use Rattle.adr_online.specs.Served.{called, AnswersAll, HangsUp, HasFallen, IsAt, IsHungUp, IsTelling, IsUnopened, Outside, ServesNext, StopsAt}
use Rattle.adr_online.specs.Goes.{Answers, CallsDoor, Server, ServesOne, outside}
use Rattle.adr_online.proofs.Hanging.{OpensNext}

-- the next connection of a post is opened
pub next_opens : (p : Post) (o : Outside) (after : Option Traffic) → IsAt p o → IfSome o.net (λ t. Opens t after) → OpensNext p.net.waiting (done p) after
next_opens p o after at opens =
    let next = at_told o.net (λ (t : Traffic). Opens t after) p.net at.net opens in
    record { came = next.0; rest = next.1; opens = next.2; net = next.3 }

-- none was
module _ (at : Found State → Type 0) (fallen : Point → Type 0) (number : ℕ) (p : Post) (before after : Option Traffic) (clock lines : Option (List ℕ))
    (faults faults_after : ℕ) (stands : at p.stands) (still : faults_after ≡ faults) where
  abbrev Was : Outside
  Was = record { net = before; clock = clock; lines = lines; faults = faults }

  abbrev Then : Outside
  Then = record { net = after; clock = clock; lines = lines; faults = faults_after }

  unmoved : after ≡ before → IsAt p Was → IsAt p Then
  unmoved same was = record { net = same ∙ was.net; clock = was.clock; lines = was.lines; faults = still ∙ was.faults }

  unopened_then : (after ≡ before) ⊎ (after ≡ option_map hung_up before) → IsAt p Was → IsUnopened p Then
  unopened_then (inl same) was = inl (unmoved same was)
  unopened_then (inr hung) was = inr (record { net = hung ∙ ap (option_map hung_up) was.net; clock = was.clock; lines = was.lines; faults = still ∙ was.faults })

  pub unopened : (stop : Stop) → (stop ≡ stops.Link) ⊎ (stop ≡ stops.NoMemory) → (stop ≡ stops.NoMemory → after ≡ before)
      → (stop ≡ stops.Link → (after ≡ before) ⊎ (after ≡ option_map hung_up before)) → IsAt p Was → StopsAt at fallen number p stop Then
  unopened stop (inl is) stays hangs was = subst (λ (x : Stop). StopsAt at fallen number p x Then) (sym is) (stands, unopened_then (hangs is) was)
  unopened stop (inr is) stays hangs was = subst (λ (x : Stop). StopsAt at fallen number p x Then) (sym is) (inl (stands, unmoved (stays is) was))

module _ {K : Type 0} (k : KeeperGhosts K) (before : K) (c : Running K) (number : ℕ) (p : Post) (came : List ℕ) (rest : List (List ℕ)) (opens : p.net.waiting ≡ came ∷ rest)
    (net : Option Traffic) (clock : Option (List ℕ)) (faults : ℕ) where
  abbrev at : Found State → Type 0
  at f = Stands k f c

  abbrev fallen : Point → Type 0
  fallen x = HasFallen k before x c

  -- it was cut off
  module _ (lines : Option (List ℕ)) (still : lines ≡ Some p.written) (none : faults ≡ p.faults) where
    abbrev there : Outside
    there = record { net = net; clock = clock; lines = lines; faults = faults }

    hung_there : (x : Point) (n : ℕ) → HangsUp p came rest n x net → IsHungUp p x there
    hung_there x n hangs = record {
      came = came;
      rest = rest;
      opens = opens;
      count = n;
      hangs = hangs;
      lines = still;
      faults = none;
    }

    pub cut_off : (stop : Stop) → AnswersAll k before p came rest (Err stop) c net clock → StopsAt at fallen number p stop there
    cut_off stops.Write a = absurd a
    cut_off stops.Link a = absurd a
    cut_off stops.Disk a = (a.0, hung_there a.0 a.1 a.2, a.3, a.4)
    cut_off stops.Clock a = (a.0, hung_there a.0 a.1 a.2, a.3, a.4, a.5)
    cut_off stops.NoMemory a = inr (inl (a.0, a.4.0, hung_there a.0 a.1 a.2, a.3, a.4.1, a.4.2))

  -- it was answered to its end
  module _ (s : Served) (a : AnswersAll k before p came rest (Ok s) c net clock) (fails : Fails s.end p.faults faults) (was lines : Option (List ℕ))
      (wrote : was ≡ Some p.written) where
    abbrev line : List ℕ
    line = connection_line number s.messages s.end

    abbrev next : Post
    next = record {
      stands = a.0.stands;
      moments = a.0.moments;
      net = closed rest (done p ++ a.1 ∷ []);
      faults = faults;
      written = p.written ++ line;
    }

    abbrev now : Outside
    now = record { net = net; clock = clock; lines = lines; faults = faults }

    connects : Connects number p next
    connects = (came, rest, opens, (s.messages, s.end, a.0, a.1, faults, a.2, fails, refl))

    telling : AddsFront was lines line → IsTelling p next now
    telling front =
        let cut = at_told was (λ (w : List ℕ). (n : ℕ) × (lines ≡ Some (w ++ take n line))) p.written wrote front in
        record {
          net = a.4;
          clock = a.5;
          faults = refl;
          line = line;
          whole = refl;
          count = cut.0;
          lines = cut.1;
        }

    -- or nothing of its line
    untold : lines ≡ was → IsAt (record next { written = p.written }) now
    untold same = record { net = a.4; clock = a.5; lines = same ∙ wrote; faults = refl }

    pub told_so : (r : Result Unit Stop) → OnOk r (Adds was lines line) → OnErr r (AddsFront was lines line)
        → IfErr r (λ stop. (stop ≡ stops.Write) ⊎ (stop ≡ stops.NoMemory)) → (IsErrOf r stops.NoMemory → lines ≡ was) → ServesNext at fallen number p r now
    told_so (Ok u) adds front only unwritten = (
      next,
      connects,
      a.3,
      record {
        net = a.4;
        clock = a.5;
        lines = at_told was (λ (w : List ℕ). lines ≡ Some (w ++ line)) p.written wrote adds;
        faults = refl;
      },
    )
    told_so (Err stop) adds front (inl is) unwritten =
        subst (λ (x : Stop). StopsAt at fallen number p x now) (sym is) (next, connects, a.3, telling front)
    told_so (Err stop) adds front (inr is) unwritten =
        let same : lines ≡ was = unwritten (cc is) in
        subst (λ (x : Stop). StopsAt at fallen number p x now) (sym is) (inr (inr (next, connects, a.3, untold same)))

-- ---- what a crash leaves

module _ {K : Type 0} (k : KeeperGhosts K) where
  -- nothing was answered
  pub crashes_before : LeavesLaw k → OnlyNowLaw k → (p : Post) (c : Running K) → Stands k p.stands c → IsInOrder k c → Crashes k c.keeper c.keeper (FindsFrom p)
  crashes_before leaves only_now p c stands in_order = still_crashes k leaves only_now (FindsFrom p) p.stands c stands in_order (λ s finds. inl finds)

  -- some of the next connection
  pub crashes_within : (p : Post) (came : List ℕ) (rest : List (List ℕ)) → p.net.waiting ≡ came ∷ rest → (old new : K) → Crashes k old new (FindsBehind (opened p came)) → Crashes k old new (FindsFrom p)
  crashes_within p came rest opens old new crash = crash_by k old new (FindsBehind (opened p came)) (FindsFrom p) (λ s finds. inr (came, rest, opens, finds)) crash

-- ---- a call of a door

-- where it opened a connection, it passed
pub called_on : (r : Result Unit Fault) (A : Type 0) → OnOk r A → OnOk (called r) A
called_on (Ok u) A a = a
called_on (Err Failed) A a = tt
called_on (Err NoMemory) A a = tt

-- where it opened none, one that was open still is, or was hung up
pub door_called :
    {N : Type 0} (n : NetGhosts N) (old new : N) (r : Result Unit Fault) → IsCounted (n.doors old) (n.doors new) (n.lines old) (n.lines new) r
    → (r ≡ Err NoMemory → n.traffic new ≡ n.traffic old)
    → (r ≡ Err Failed → (n.traffic new ≡ n.traffic old) ⊎ (n.traffic new ≡ option_map hung_up (n.traffic old))) → CallsDoor n old new (called r)
door_called n old new (Ok u) a stays hangs = record {
  only = tt;
  stays = λ is. absurd (cc is);
  hangs = λ is. absurd (cc is);
  link = λ is. absurd (cc is);
  link_ends = λ rose. let same : n.doors new ≡ n.doors old = a.passed in absurd (omega (arith, rose, same));
  doors_later = a.never_falls;
  lines = a.other;
}
door_called n old new (Err Failed) a stays hangs = record {
  only = inl refl;
  stays = λ is. absurd (cc is);
  hangs = λ is. hangs refl;
  link = λ is. a.failed refl;
  link_ends = λ rose. refl;
  doors_later = a.never_falls;
  lines = a.other;
}
door_called n old new (Err NoMemory) a stays hangs = record {
  only = inr refl;
  stays = λ is. stays refl;
  hangs = λ is. absurd (cc is);
  link = λ is. absurd (cc is);
  link_ends = λ rose. let same : n.doors new ≡ n.doors old = a.no_memory refl in absurd (omega (arith, rose, same));
  doors_later = a.never_falls;
  lines = a.other;
}

-- ---- with what is counted

-- a line that was written, or not, lets the server stop in no other way
only_told : (r : Result Unit Stop) (stop : Stop) → IfErr r (λ stop. (stop ≡ stops.Write) ⊎ (stop ≡ stops.NoMemory)) → IsErrOf r stop → (stop ≡ stops.Write → ⊥) → (stop ≡ stops.NoMemory → ⊥) → ⊥
only_told (Ok u) stop only is write memory = cc is
only_told (Err e) stop (inl a) is write memory = let same : e ≡ stop = (cc is) in write (sym same ∙ a)
only_told (Err e) stop (inr a) is write memory = let same : e ≡ stop = (cc is) in memory (sym same ∙ a)

module _ {K N C S : Type 0} (k : KeeperGhosts K) (n : NetGhosts N) (c : ClockGhosts C) (s : SinkGhosts S) (number : ℕ) (v : Server K N C S) (begun : N)
    (after : Running K) (net : N) (clock : C) (opens : IfSome (n.traffic v.net) (λ t. Opens t (n.traffic begun))) (door : CallsDoor n v.net begun (Ok tt)) where
  abbrev Answered : Result Served Stop → Type 0
  Answered r = Answers k n c v.controller after begun net v.clock clock r

  crash_passed : (r : Result Served Stop) → Answered r → (p : Post) → Stands k p.stands v.controller → IsAt p (outside n c s v)
      → Crashes k v.controller.keeper after.keeper (FindsFrom p)
  crash_passed r a p stands at =
      let o = next_opens p (outside n c s v) (n.traffic begun) at opens in
      crashes_within k p o.came o.rest o.opens v.controller.keeper after.keeper (a.any_moment p o.came o.rest stands o.net at.clock)

  -- it was cut off
  pub cut_goes : (stop : Stop) → Answered (Err stop) → ServesOne k n c s number v (record { controller = after; net = net; clock = clock; sink = v.sink }) (Err stop)
  cut_goes stop a = record {
    up = tt;
    serves = λ p stands at.
        let o = next_opens p (outside n c s v) (n.traffic begun) at opens in
        cut_off k v.controller.keeper after number p o.came o.rest o.opens (n.traffic net) (c.moments clock) (n.lines net) (s.written v.sink) at.lines
        (a.no_fault ∙ (door.lines ∙ at.faults)) stop (a.answers p o.came o.rest stands o.net at.clock);
    any_moment = crash_passed (Err stop) a;
    told = a.told;
    disk = λ is. let same : stop ≡ stops.Disk = (cc is) in a.disk (ap (λ (x : Stop). let r : Result Served Stop = Err x in r) same);
    disk_later = a.disk_later;
    link = λ is. absurd (neither stops.Link (cc is) a.only (λ e. cc e) (λ e. cc e) (λ e. cc e));
    doors_later = omega (arith, door.doors_later, a.doors);
    lines_later = omega (arith, door.lines, a.lines_later);
    clock = λ is. let same : stop ≡ stops.Clock = (cc is) in a.clock (ap (λ (x : Stop). let r : Result Served Stop = Err x in r) same);
    clock_later = a.clock_later;
    write = λ is. absurd (neither stops.Write (cc is) a.only (λ e. cc e) (λ e. cc e) (λ e. cc e));
    sink_later = omega arith;
    link_ends = λ rose. absurd (cc (door.link_ends (omega (arith, a.doors, rose))));
    clock_ends = λ rose. let same : stop ≡ stops.Clock = (cc (a.clock_ends rose)) in ap (λ (x : Stop). let r : Result Unit Stop = Err x in r) same;
    write_ends = λ rose. absurd (omega (arith, rose));
  }
    where
      neither : (x : Stop) → stop ≡ x → (stop ≡ stops.Disk) ⊎ ((stop ≡ stops.Clock) ⊎ (stop ≡ stops.NoMemory)) → (x ≡ stops.Disk → ⊥) → (x ≡ stops.Clock → ⊥) → (x ≡ stops.NoMemory → ⊥) → ⊥
      neither x is (inl e) disk time memory = disk (sym is ∙ e)
      neither x is (inr (inl e)) disk time memory = time (sym is ∙ e)
      neither x is (inr (inr e)) disk time memory = memory (sym is ∙ e)

  -- it was answered to its end, and its line written or not
  pub told_goes : (served : Served) → Answered (Ok served) → (sink : S) (r : Result Unit Stop)
      → OnOk r (Adds (s.written v.sink) (s.written sink) (connection_line number served.messages served.end))
      → OnErr r (AddsFront (s.written v.sink) (s.written sink) (connection_line number served.messages served.end))
      → IfErr r (λ stop. (stop ≡ stops.Write) ⊎ (stop ≡ stops.NoMemory)) → (IsErrOf r stops.NoMemory → s.written sink ≡ s.written v.sink)
      → (IsErrOf r stops.Write → s.faults v.sink < s.faults sink)
      → (s.faults v.sink < s.faults sink → IsErrOf r stops.Write) → s.faults v.sink ≤ s.faults sink
      → ServesOne k n c s number v (record { controller = after; net = net; clock = clock; sink = sink }) r
  told_goes served a sink r adds front only unwritten write write_ends sink_later = record {
    up = if_ok_any (IsSome after.state) r a.up;
    serves = λ p stands at.
        let o = next_opens p (outside n c s v) (n.traffic begun) at opens in
        told_so k v.controller.keeper after number p o.came o.rest o.opens (n.traffic net) (c.moments clock) (n.lines net) served
        (a.answers p o.came o.rest stands o.net at.clock) (subst (λ (x : ℕ). Fails served.end x (n.lines net)) (door.lines ∙ at.faults) a.fails)
        (s.written v.sink) (s.written sink) at.lines r adds front only unwritten;
    any_moment = crash_passed (Ok served) a;
    told = a.told;
    disk = λ is. absurd (only_told r stops.Disk only is (λ e. cc e) (λ e. cc e));
    disk_later = a.disk_later;
    link = λ is. absurd (only_told r stops.Link only is (λ e. cc e) (λ e. cc e));
    doors_later = omega (arith, door.doors_later, a.doors);
    lines_later = omega (arith, door.lines, a.lines_later);
    clock = λ is. absurd (only_told r stops.Clock only is (λ e. cc e) (λ e. cc e));
    clock_later = a.clock_later;
    write = write;
    sink_later = sink_later;
    link_ends = λ rose. absurd (cc (door.link_ends (omega (arith, a.doors, rose))));
    clock_ends = λ rose. absurd (cc (a.clock_ends rose));
    write_ends = write_ends;
  }
