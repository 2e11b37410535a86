-- One request of a cycle, by what its steps say.
use Rattle.std.proofs.Common.{◌≡◌, ◌⊎◌, inl, inr, ℕ, Bool, List, ◌++◌, take, length, Option, Some, None, Result, Ok, Err, refl, sym, ap, ◌∙◌, subst, arith, take_all}
use Rattle.std.specs.Option.{option_map}
use Rattle.adr_io.specs.Told.{Adds, AddsFront}
use Rattle.adr_law_journal.specs.Areas.{Started}
use Rattle.adr_model.specs.Store.{State}
use Rattle.adr_model.specs.Update.{Identifier}
use Rattle.adr_journal.specs.declared.keeper.Keeper.{Ghosts}
use Rattle.adr_controller.specs.Running.{Running}
use Rattle.adr_outside.specs.Traffic.{Traffic}
use Rattle.adr_frames.specs.Frames.{frame}
use Rattle.adr_pull.specs.declared.came.Came.{Came}
use Rattle.adr_pull.specs.declared.fault.PullFault.{PullFault}
use Rattle.adr_pull.specs.declared.fault.PullFault.TheVariants as faults
use Rattle.adr_pull.specs.Exchange.{HasSentFront, heard_in, moved}
use Rattle.adr_pull.specs.Fetch.{Course, BadPeer, Made, Point, ends_of, hears, line_of, made, request, said_in, sends, tells, turn}
use Rattle.adr_law_controller.proofs.Crashes.{Crashes, crash_by}
use Rattle.adr_law_controller.specs.Keeping.{Stands}
use Rattle.adr_pull.specs.Told.{Fails, FindsDue, FindsNear, HasDone, IsAsking, IsAt, IsBetween, IsEnd, IsTelling, ReactsSo, TakesTurn, Up}

-- what is sent doesn't hang on what comes
tells_sent : (name : List ℕ) (p : Point) (rest : List ℕ) (due : Option Made) → (tells name p rest due).0.sent ≡ p.sent
tells_sent name p rest None = refl
tells_sent name p rest (Some m) = refl

hears_sent : (name : List ℕ) (p : Point) (heard : Option (List ℕ × List ℕ)) → (hears name p heard).0.sent ≡ p.sent
hears_sent name p None = refl
hears_sent name p (Some h) = tells_sent name p h.1 (option_map (made p.stands) (said_in h.0))

all_between : (first more : List ℕ) → IsBetween first (first ++ more) (first ++ more)
all_between first more = (
  more,
  length more,
  refl,
  ap (λ (xs : List ℕ). first ++ xs) (sym (take_all (length more) more
      (omega arith))),
)

module _ {K : Type 0} (k : Ghosts K) (t : Traffic) (name : List ℕ) (partner : Identifier) (p : Point) where
  abbrev asked : List ℕ
  asked = frame (request p.stands.state partner)

  abbrev pub Next : Course
  Next = turn name partner p

  -- where the connection stands at the point
  abbrev pub Here : Traffic
  Here = record t { left = p.left; sent = p.sent }

  sent_next : Next.0.sent ≡ p.sent ++ asked
  sent_next = hears_sent name (sends p (request p.stands.state partner)) (heard_in p.left)

  -- a front of the request was sent
  asking : (c : Running K) (net lines : _) → Stands k p.stands c → HasSentFront Here asked net
      → lines ≡ Some p.written → IsAsking (Up k c) (HasDone t net lines) p Next.0
  asking c net lines node sent told = (
    node,
    (
      p.sent ++ take sent.1 asked,
      (asked, sent.1, sent_next, refl),
      record { left = sent.0; net = sent.2; lines = told },
    ),
  )

  -- and all of it
  asked_all : (c : Running K) (net : Option Traffic) (lines : Option (List ℕ)) (rest : List ℕ) → Stands k p.stands c
      → net ≡ Some (moved Here rest asked) → lines ≡ Some p.written → IsAsking (Up k c) (HasDone t net lines) p Next.0
  asked_all c net lines rest node is told = (
    node,
    (
      p.sent ++ asked,
      subst (λ (xs : List ℕ). IsBetween p.sent (p.sent ++ asked) xs) (sym sent_next) (all_between p.sent asked),
      record { left = rest; net = is; lines = told },
    ),
  )

  -- the request failed, or no whole frame came
  pub asked_err : (fault : PullFault) (c : Running K) (net : Option Traffic) (lines : Option (List ℕ)) → Stands k p.stands c
      → Fails Here (request p.stands.state partner) fault net → lines ≡ Some p.written → TakesTurn k t p Next
      (Err fault) c net lines
  asked_err faults.BadPeer c net lines node so told =
      let is : Next ≡ (sends p (request p.stands.state partner), Some BadPeer) = ap (hears name (sends p
      (request p.stands.state partner))) so.0 in
      subst (λ (x : Course). TakesTurn k t p x (Err faults.BadPeer) c net lines) (sym is)
      (refl, node, record { left = so.1.0; net = so.1.1; lines = told })
  asked_err faults.Link c net lines node so told = asking c net lines node so told
  asked_err faults.NoMemory c net lines node so told = inl (asking c net lines node so told)
  asked_err faults.Write c net lines node so told = absurd so
  asked_err faults.Disk c net lines node so told = absurd so
  asked_err faults.Refused c net lines node so told = absurd so
  asked_err faults.MoreWaiting c net lines node so told = absurd so

  -- a frame was heard
  module _ (bytes rest : List ℕ) (heard : heard_in p.left ≡ Some (bytes, rest)) where
    abbrev pub due : Option Made
    due = option_map (made p.stands) (said_in bytes)

    next_is : (d : Option Made) → due ≡ d → Next ≡ tells name (sends p (request p.stands.state partner)) rest d
    next_is d is = ap (hears name (sends p (request p.stands.state partner))) heard ∙ ap (tells name (sends p
        (request p.stands.state partner)) rest) is

    -- what a start finds meanwhile is near
    due_near : (d : Option Made) → due ≡ d → (x : Started State) → FindsDue p.stands d x → FindsNear p Next.0 x
    due_near None is x finds = inl finds
    due_near (Some m) is x finds = subst (λ (c : Course). FindsNear p c.0 x) (sym (next_is (Some m) is)) finds

    pub near : (x : Started State) → FindsDue p.stands due x → FindsNear p Next.0 x
    near = due_near due refl

    pub leaves_near : (old new : K) (xs : List ℕ) → xs ≡ bytes → Crashes k old new (FindsDue p.stands (option_map (made p.stands) (said_in xs)))
        → Crashes k old new (FindsNear p Next.0)
    leaves_near old new xs is leaves =
        let P : List ℕ → Type 0 = λ ys. Crashes k old new (FindsDue p.stands (option_map (made p.stands) (said_in ys))) in
        crash_by k old new (FindsDue p.stands due) (FindsNear p Next.0) near (subst P is leaves)

    module _ (net : Option Traffic) (came_in : net ≡ Some (moved Here rest asked)) where
      -- the frame wasn't due, or the node couldn't say
      pub reacts_err : (fault : PullFault) (c : Running K) (lines : Option (List ℕ)) → ReactsSo k p.stands due
          (Err fault) c → lines ≡ Some p.written → TakesTurn k t p Next (Err fault) c net lines
      reacts_err faults.BadPeer c lines so told =
          subst (λ (x : Course). TakesTurn k t p x (Err faults.BadPeer) c net lines) (sym (next_is None so.0))
          (refl, so.1, record { left = rest; net = came_in; lines = told })
      reacts_err faults.Disk c lines so told =
          subst (λ (x : Course). TakesTurn k t p x (Err faults.Disk) c net lines) (sym (next_is (Some so.0) so.1))
          (so.2, record { left = rest; net = came_in; lines = told })
      reacts_err faults.NoMemory c lines so told = inl (asked_all c net lines rest so came_in told)
      reacts_err faults.Write c lines so told = absurd so
      reacts_err faults.Link c lines so told = absurd so
      reacts_err faults.Refused c lines so told = absurd so
      reacts_err faults.MoreWaiting c lines so told = absurd so

      -- it was due
      module _ (m : Made) (is : due ≡ Some m) (came : Came) (same : came ≡ m.1) (c : Running K)
          (node : Stands k m.0 c) (before lines : Option (List ℕ)) (told : before ≡ Some p.written) where
        abbrev to : Course
        to = tells name (sends p (request p.stands.state partner)) rest (Some m)

        telling : AddsFront before lines (line_of name came) → IsTelling (Up k c) (HasDone t net lines) p Next.0
        telling front =
            let some = subst (λ (o : Option (List ℕ)). AddsFront o lines (line_of name came)) told front in
            let line = subst (λ (x : Came). lines ≡ Some (p.written ++ take some.0 (line_of name x))) same some.1 in
            subst (λ (x : Course). IsTelling (Up k c) (HasDone t net lines) p x.0) (sym (next_is (Some m) is)) (
              node,
              (
                p.written ++ take some.0 (line_of name m.1),
                (line_of name m.1, some.0, refl, refl),
                record { left = rest; net = came_in; lines = line },
              ),
            )

        pub told_err : (fault : PullFault) → (fault ≡ faults.Write) ⊎ (fault ≡ faults.NoMemory)
            → AddsFront before lines (line_of name came) → TakesTurn k t p Next (Err fault) c net lines
        told_err fault (inl so) front = subst (λ (x : PullFault). TakesTurn k t p Next (Err x) c net lines) (sym so)
            (telling front)
        told_err fault (inr so) front = subst (λ (x : PullFault). TakesTurn k t p Next (Err x) c net lines) (sym so)
            (inr (telling front))

        there : Adds before lines (line_of name m.1) → IsAt k t to.0 c net lines
        there adds = record {
          node = node;
          net = came_in;
          lines = subst (λ (o : Option (List ℕ)). Adds o lines (line_of name m.1)) told adds;
        }

        ended : (result : Result Bool PullFault) → Adds before lines (line_of name m.1) → IsEnd (ends_of m.1) result
            → TakesTurn k t p (tells name (sends p (request p.stands.state partner)) rest (Some m)) result c net lines
        ended (Ok over) adds end = (end, there adds)
        ended (Err faults.Refused) adds end = (end, there adds)
        ended (Err faults.Write) adds end = absurd end
        ended (Err faults.Disk) adds end = absurd end
        ended (Err faults.Link) adds end = absurd end
        ended (Err faults.NoMemory) adds end = absurd end
        ended (Err faults.MoreWaiting) adds end = absurd end
        ended (Err faults.BadPeer) adds end = absurd end

        pub told_so : (result : Result Bool PullFault) → Adds before lines (line_of name came) → IsEnd
            (ends_of came) result → TakesTurn k t p Next result c net lines
        told_so result adds end =
            subst (λ (x : Course). TakesTurn k t p x result c net lines) (sym (next_is (Some m) is))
            (ended result (subst (λ (x : Came). Adds before lines (line_of name x)) same adds) (subst (λ
            (x : Came). IsEnd (ends_of x) result) same end))
