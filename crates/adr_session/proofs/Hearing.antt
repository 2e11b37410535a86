-- One message of a connection is heard, or the connection ends before.
use Rattle.std.proofs.Common.{◌≡◌, inl, ℕ, List, [], drop, Option, Some, Ok, Err, IfSome, refl, sym, ap, subst, ◌∙◌}
use Rattle.std.proofs.lemmas.List.{append-nil}
use Rattle.std.specs.Global.{Vec}
use Rattle.adr_law_journal.proofs.Told.{at_told}
use Rattle.adr_journal.specs.declared.keeper.Keeper.{Ghosts}
use Rattle.adr_controller.specs.Running.{Running}
use Rattle.adr_outside.specs.Traffic.{Traffic}
use Rattle.adr_frames.specs.Frames.{Next, IsOver, IsBroken, IsFrame, next_in}
use Rattle.adr_frames.specs.declared.hearing.Heard.{Heard}
use Rattle.adr_frames.specs.declared.hearing.Heard.TheVariants.{Over, Broken, Frame}
use Rattle.adr_frames.specs.Hearing.{Hears, IsPartReceived}
use Rattle.adr_session.specs.declared.ending.End.TheVariants as ended
use Rattle.adr_session.specs.declared.ending.ServeFault.TheVariants as faults
use Rattle.adr_session.specs.Talk.{Ends, Hung, Malformed, Point, Stops, takes, turn}
use Rattle.adr_session.specs.Told.{HasHeard, HasSent, IsAt, IsBehind, TakesTurn}

module _ {K : Type 0} (k : Ghosts K) (t : Traffic) (p : Point) (c : Running K) (before after : Option Traffic) (clock : Option (List ℕ)) (at : IsAt k t p c before clock) where
  abbrev there : Traffic
  there = record t { left = p.left; sent = p.sent }

  still_sent : IsPartReceived before after → HasSent t p.sent after
  still_sent part =
      let received = at_told before (λ u. (n : ℕ) × (after ≡ Some (record u { left = drop n u.left }))) there at.net part in
      (drop received.0 p.left, received.1)

  -- nothing more of a client comes
  ends_here : (next : Next) (ends : Ends) → takes p next ≡ Stops ends → IfSome before (λ u. next_in u.left ≡ next) → IsPartReceived before after
      → (turn p ≡ Stops ends) × IsBehind k t p c after clock
  ends_here next ends stops comes part = (
    ap (takes p) (at_told before (λ u. next_in u.left ≡ next) there at.net comes) ∙ stops,
    record { stands = at.stands; net = still_sent part; clock = at.clock },
  )

  -- the peer has ended it
  pub heard_over :
      (heard : Heard) → heard ≡ Over → Hears heard before after → IsPartReceived before after
      → TakesTurn k t p (Ok (Some ended.Hung)) c after clock
  heard_over heard is hears part = ends_here IsOver Hung refl (subst (λ (h : Heard). Hears h before after) is hears) part

  -- no whole frame came
  pub heard_broken :
      (heard : Heard) → heard ≡ Broken → Hears heard before after → IsPartReceived before after
      → TakesTurn k t p (Ok (Some ended.Malformed)) c after clock
  heard_broken heard is hears part = ends_here IsBroken Malformed refl (subst (λ (h : Heard). Hears h before after) is hears) part

  -- a frame came
  pub heard_frame :
      (heard : Heard) (v : Vec ℕ) (bytes : List ℕ) → heard ≡ Frame v → bytes ≡ v.items → Hears heard before after → HasHeard k t p bytes c after clock
  heard_frame heard v bytes is same hears =
      let frame = subst (λ (h : Heard). Hears h before after) is hears in
      let found = at_told before (λ u. (rest : List ℕ) × (next_in u.left ≡ IsFrame v.items rest) × (after ≡ Some (record u { left = rest }))) there at.net frame in
      record {
        rest = found.0;
        next = found.1 ∙ ap (λ (b : List ℕ). IsFrame b found.0) (sym same);
        stands = at.stands;
        net = found.2;
        clock = at.clock;
      }

  -- a fault of the line came before its end
  pub cut_before : IsPartReceived before after → TakesTurn k t p (Ok (Some ended.Fault)) c after clock
  cut_before part = (
    p,
    record {
      near = inl refl;
      stands = at.stands;
      due = [];
      whole = sym (append-nil p.sent);
      count = 0;
      short = inl refl;
      net = subst (λ (sent : List ℕ). HasSent t sent after) (sym (append-nil p.sent)) (still_sent part);
      clock = at.clock;
    },
  )

  -- memory was wanting before its end
  pub wanting_before : IsPartReceived before after → TakesTurn k t p (Err faults.NoMemory) c after clock
  wanting_before part = (p, record { near = inl refl; stands = at.stands; net = still_sent part; clock = inl at.clock })
