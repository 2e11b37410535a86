-- What a call of a controller leaves that commits at most one change, and what it is answered.
use Rattle.std.proofs.Common.{◌≡◌, ◌⊎◌, inl, inr, ⊎_elim, ◌∙◌, refl, sym, ap, subst, ℕ, List, Bool, true, false, Option, Some, None, fold, if◌then◌else◌}
use Rattle.std.specs.Option.{option_map}
use Rattle.adr_io.specs.declared.Fault.TheVariants.{Failed as failed_call}
use Rattle.adr_call.specs.declared.outcome.Outcome.{Outcome}
use Rattle.adr_call.specs.declared.outcome.Outcome.TheVariants as outcomes
use Rattle.adr_call.specs.declared.refusal.Table.TheVariants.{Log}
use Rattle.adr_model.specs.Update.{Identifier}
use Rattle.adr_model.specs.Store.{State}
use Rattle.adr_model.specs.Change.{Change}
use Rattle.adr_model.specs.Lengths.{log_limit, change_fits}
use Rattle.adr_model.specs.Refused.{full}
use Rattle.adr_disk.specs.declared.memory.Plan.{Plan}
use Rattle.adr_model.specs.Replica.{Replica, Pending, Book, moved, moves_of_commit, commit_goes, outcome_after, Up, Down as stands_down, Failed as stands_failed}
use Rattle.adr_model.specs.World.{World, LastReply, Gone, Sent, commit, stays, nothing, not_sent, where_up, with_replica}
use Rattle.adr_model.specs.World.{committed as committed_in}
use Rattle.adr_law_journal.specs.Areas.{Found, found, Started}
use Rattle.adr_law_journal.specs.Replicas.{Has, read_found, safe_found, committed, standing_of}
use Rattle.adr_journal.specs.declared.keeper.Keeper.{Ghosts}
use Rattle.adr_controller.specs.Running.{Running, IsInOrder}
use Rattle.adr_controller.specs.Able.{AllFollow}
use Rattle.adr_controller.specs.Did.{Calls, Commits}
use Rattle.adr_run_keeper.specs.Goes.{GoesAs}
use Rattle.adr_controller.specs.declared.refusal.Hindrance.{Hindrance}
use Rattle.adr_controller.specs.declared.refusal.Hindrance.TheVariants.{Down, Failed, Full, DiskFault, NoMemory}
use Rattle.adr_run_replica.specs.Past.{Past, Ahead, after_commit}
use Rattle.adr_run_replica.specs.Planned.{GoesAsPlanned}
use Rattle.adr_run_replica.specs.Held.{found_or_none, standing_by, seen, IsHeld}
use Rattle.adr_run_replica.specs.Settled.{come, downed, left_by, of_fault, hindered_so}
use Rattle.adr_run_replica.specs.Led.{StandsIn, world_with, IsUndone}
use Rattle.adr_run_replica.proofs.Seen.{seen_so, held_so}
use Rattle.adr_run_replica.proofs.Went.{up_answers, fault_answers, none_kept, same_name, same_dsa}

-- ---- in a world

-- a controller that is as it was leaves its world so
pub same_world : (w : World) (r q : Replica) (past later : Past) → StandsIn w r past → q ≡ r → later ≡ past → w ≡ world_with w q later
same_world w r q past later stands is same =
    ap (λ b. record w { book = b }) stands.book ∙ ap (λ l. record w { book = past.book; last_replies = l }) stands.told
    ∙ ap (λ rs. record w { book = past.book; last_replies = past.last_replies; replicas = rs }) (sym stands.there)
    ∙ ap (λ x. world_with w x past) (sym is) ∙ ap (λ (p : Past). world_with w q p) (sym same)

-- a commit that the log has room for, and one that it hasn't
module _ (w : World) (r q : Replica) (past later : Past) (p : Pending) (o told : Outcome) where
  pub commit_made : StandsIn w r past → change_fits r.device.safe_log r.safe.store p.change ≡ true → q ≡ committed past.book r p → later ≡ (after_commit past r (Some p)).past
      → outcome_after (commit_goes r p) o ≡ told → commit w r p o ≡ (world_with w q later, told)
  commit_made stands fits is comes tells =
      let g = commit_goes r p in
      let gone : Book → List LastReply → Replica → Outcome → Gone = λ b l x t. (record w { book = b; last_replies = l; replicas = with_replica w.replicas x }, t) in
      let book_of : Book → Book = λ b. (fold moved (b, r) (moves_of_commit p g)).0 in
      ap (λ x. if x then committed_in w r p o else (w, full Log log_limit)) fits
      ∙ ap (λ b. gone (book_of b) w.last_replies (committed b r p) (outcome_after g o)) stands.book ∙ ap (λ l. gone (book_of past.book) l (committed past.book r p) (outcome_after g o)) stands.told
      ∙ ap (λ t. gone (book_of past.book) past.last_replies (committed past.book r p) t) tells
      ∙ ap (λ x. gone (book_of past.book) past.last_replies x told) (sym is) ∙ ap (λ (x : Past). gone x.book x.last_replies q told) (sym comes)

  pub commit_full : StandsIn w r past → change_fits r.device.safe_log r.safe.store p.change ≡ false → q ≡ r → later ≡ past → commit w r p o ≡ (world_with w q later, full Log log_limit)
  commit_full stands beyond is same =
      ap (λ x. if x then committed_in w r p o else (w, full Log log_limit)) beyond
      ∙ ap (λ x. let gone : Gone = (x, full Log log_limit) in gone) (same_world w r q past later stands is same)

-- ---- what a call came to

-- a call that was hindered, and is answered so: the controller was down or failed, or what it commits ended so
pub data Hindered (r q : Replica) (past later : Past) (po : Option Pending) (told : Outcome) : Type 0 where
  WasDown : r.standing ≡ stands_down → told ≡ outcomes.Down → q ≡ r → later ≡ past → Hindered r q past later po told
  WasFailed : r.standing ≡ stands_failed → told ≡ outcomes.Failed → q ≡ r → later ≡ past → Hindered r q past later po told
  Ended : (p : Pending) → r.standing ≡ Up → po ≡ Some p → ((w : World) (o : Outcome) → StandsIn w r past → commit w r p o ≡ (world_with w q later, told))
      → Hindered r q past later po told

-- by how it ended
pub record Came (is_held : Type 0) (r q : Replica) (past later : Past) (po : Option Pending) (state : Option State) (stopped : Bool) (how : Option Hindrance) : Type 0 where
  pub held : is_held
  pub given : later.given ≡ past.given
  pub was_up : how ≡ None → (r.standing ≡ Up) × (state ≡ Some r.safe)
  pub idle : how ≡ None → po ≡ None → IsUndone r past q later
  pub done : how ≡ None → (p : Pending) → po ≡ Some p → (w : World) (o : Outcome) → StandsIn w r past → commit w r p o ≡ (world_with w q later, o)
  pub hinders : (h : Hindrance) → how ≡ Some h → (told : Outcome) → hindered_so h stopped ≡ Some told → Hindered r q past later po told
  pub wanted : (h : Hindrance) → how ≡ Some h → h ≡ NoMemory → IsUndone r past q later

the_one : {A : Type 0} → A → Option A → A
the_one a None = a
the_one a (Some b) = b

pub some_same : {A : Type 0} (a b : A) → Some a ≡ Some b → a ≡ b
unfolding the_one
some_same a b is = ap (the_one a) is

-- of an option, whichever it is
pub by_option : {A : Type 0} (o : Option A) (X : Type 0) → (o ≡ None → X) → ((x : A) → o ≡ Some x → X) → X
by_option None X none some = none refl
by_option (Some x) X none some = some x refl

by_bool : (b : Bool) (X : Type 0) → (b ≡ true → X) → (b ≡ false → X) → X
by_bool true X on_true on_false = on_true refl
by_bool false X on_true on_false = on_false refl

-- of a call that was hindered it is open alone what it is answered, and what it leaves where it wanted memory
when_hindered : {is_held : Type 0} {r q : Replica} {past later : Past} {po : Option Pending} {state : Option State} {stopped : Bool} {h : Hindrance}
    → is_held → later.given ≡ past.given → ((told : Outcome) → hindered_so h stopped ≡ Some told → Hindered r q past later po told) → (h ≡ NoMemory → IsUndone r past q later)
    → Came is_held r q past later po state stopped (Some h)
when_hindered {is_held} {r} {q} {past} {later} {po} {state} {stopped} {h} held given hinders wanted = record {
  held = held;
  given = given;
  was_up = λ none. absurd (cc none);
  idle = λ none. absurd (cc none);
  done = λ none. absurd (cc none);
  hinders = λ k is told tells. hinders told (ap (λ x. hindered_so x stopped) (some_same h k is) ∙ tells);
  wanted = λ k is wants. wanted (some_same h k is ∙ wants);
}

-- ---- a controller whose disk may have stopped

module _ {K : Type 0} where
  pub downed_keeper : (b : Bool) (c : Running K) → c.keeper ≡ (downed b c).keeper
  downed_keeper true c = refl
  downed_keeper false c = refl

  pub downed_state : (b : Bool) (c : Running K) → c.state ≡ None → (downed b c).state ≡ None
  downed_state true c none = refl
  downed_state false c none = none

  downed_stands : (b : Bool) (c : Running K) → c.state ≡ None → c.down ≡ false → standing_by (downed b c).down (downed b c).state ≡ standing_of (Some failed_call) b stands_failed
  downed_stands true c none up = refl
  downed_stands false c none up = ap (λ d. standing_by d c.state) up ∙ ap (λ o. standing_by false o) none

-- ---- the call

module _ {K : Type 0} (k : Ghosts K) (read safe torn : K → Started State) (plan : K → Option Plan) (has_stopped : K → Bool)
    (name : List ℕ) (dsa : Identifier) (old : Running K) (kept : Option Pending) (held : IsHeld read safe torn plan has_stopped name dsa old kept) (order : IsInOrder k old)
    (law : GoesAsPlanned k read safe torn plan has_stopped) where
  abbrev r : Replica
  r = seen read safe plan name old kept

  -- a controller that is up
  pub record AtRest : Type 0 where
    pub in_memory : old.state ≡ Some r.safe
    pub at : k.is_at old.keeper (safe_found r)
    pub running : k.is_failed old.keeper ≡ false
    pub formed : k.is_formed r.safe
    pub one : read_found r ≡ safe_found r
    pub runs : has_stopped old.keeper ≡ false
    pub none : kept ≡ None
    pub up : r.standing ≡ Up

  pub at_rest : (s : State) → old.state ≡ Some s → AtRest
  at_rest s is =
      let up = order.up s is in
      let f = found s up.0.log in
      let three = law.keeps old.keeper f up.0.at up.0.running in
      let reads : read_found r ≡ f = ap found_or_none three.0 in
      let safes : safe_found r ≡ f = ap found_or_none three.1 in
      record {
        in_memory = is ∙ ap (λ (x : Found State). Some x.state) (sym safes);
        at = subst (k.is_at old.keeper) (sym safes) up.0.at;
        running = up.0.running;
        formed = subst (λ (x : Found State). k.is_formed x.state) (sym safes) up.0.formed;
        one = reads ∙ sym safes;
        runs = held.runs s is;
        none = held.none_kept s is;
        up = ap (λ o. standing_by old.down o) is ∙ ap (λ b. standing_by b (Some s)) up.1;
      }

  -- one that is as it was
  still_held : (c : Running K) (x : Option Pending) → c ≡ old → x ≡ kept → IsHeld read safe torn plan has_stopped name dsa c x
  still_held c x is same = subst (λ d. IsHeld read safe torn plan has_stopped name dsa d x) (sym is) (subst (λ y. IsHeld read safe torn plan has_stopped name dsa old y) (sym same) held)

  still_seen : (c : Running K) (x : Option Pending) → c ≡ old → x ≡ kept → seen read safe plan name c x ≡ r
  still_seen c x is same = ap (λ d. seen read safe plan name d x) is ∙ ap (λ y. seen read safe plan name old y) same

  module _ (past : Past) (changes : State → Option Change) (po : State → Option Pending)
      (same : (s : State) → option_map (λ (p : Pending). p.change) (po s) ≡ changes s) (all : AllFollow k changes) (mid : Running K) where
    abbrev ahead : Ahead
    ahead = after_commit past r (po r.safe)

    -- what the call leaves
    abbrev CameBy : Option Hindrance → Type 0
    CameBy how =
        let new = left_by has_stopped how mid in
        let x = come how kept ahead.kept in
        Came (IsHeld read safe torn plan has_stopped name dsa new x) r (seen read safe plan name new x) past (come how past ahead.past) (po r.safe) old.state (has_stopped new.keeper) how

    -- what a call leaves that was hindered before it touched the controller
    as_it_was : (h : Hindrance) → mid ≡ old
        → ((told : Outcome) → hindered_so h (has_stopped mid.keeper) ≡ Some told → Hindered r (seen read safe plan name mid kept) past past (po r.safe) told)
        → Came (IsHeld read safe torn plan has_stopped name dsa mid kept) r (seen read safe plan name mid kept) past past (po r.safe) old.state (has_stopped mid.keeper) (Some h)
    as_it_was h is hinders = when_hindered (still_held mid kept is refl) refl hinders (λ wants. (still_seen mid kept is refl, refl))

    running : (how : Option Hindrance) → Calls k changes old mid how → (how ≡ Some Down → ⊥) → (how ≡ Some Failed → ⊥) → AtRest
    running how calls up sound =
        by_option old.state AtRest
        (λ none. by_bool old.down AtRest (λ down. absurd (up (calls.down.1 down))) (λ not_down. absurd (sound (calls.failed.1 (not_down, none)))))
        (λ s is. at_rest s is)

    makes : (o : Option Pending) → po r.safe ≡ o → option_map (λ (p : Pending). p.change) o ≡ changes r.safe
    makes o is = ap (λ x. option_map (λ (p : Pending). p.change) x) (sym is) ∙ same r.safe

    module _ (p : Pending) (of : po r.safe ≡ Some p) (rest : AtRest) where
      abbrev left : Replica
      left = committed past.book r p

      ran : (how : Option Hindrance) → Calls k changes old mid how → Commits k r.safe p.change old mid how
      ran how calls = calls.commits r.safe p.change rest.in_memory (sym (makes (Some p) of))

      went_so : (how : Option Hindrance) → Calls k changes old mid how → GoesAs (Has read safe torn plan) has_stopped how r left mid.keeper
      went_so how calls =
          law.commits old.keeper mid.keeper p.change how past.book r p rest.at rest.running
          (all r.safe p.change rest.formed (sym (makes (Some p) of))).follows rest.runs rest.one held.has refl (ran how calls).ran

      kept_ahead : ahead.kept ≡ left.kept
      kept_ahead = ap (λ o. (after_commit past r o).kept) of

      past_ahead : ahead.past ≡ (after_commit past r (Some p)).past
      past_ahead = ap (λ o. (after_commit past r o).past) of

      dsas : (left.read.dsa ≡ dsa) × (left.safe.dsa ≡ dsa)
      dsas = same_dsa (moves_of_commit p (commit_goes r p)) past.book r dsa held.reads held.keeps

      named : name ≡ left.name
      named = sym (same_name (moves_of_commit p (commit_goes r p)) past.book r)

      done_so : Calls k changes old mid None → CameBy None
      done_so calls =
          let commits = ran None calls in
          let g = went_so None calls in
          let stands = ap (λ b. standing_by b mid.state) commits.still_up ∙ ap (λ o. standing_by false o) (commits.done refl) ∙ g.1 in
          let is = seen_so read safe torn plan name mid ahead.kept left g.0 named stands kept_ahead in
          record {
            held = held_so read safe torn plan has_stopped name dsa mid ahead.kept left is g.0
                (λ s there. (g.2, kept_ahead ∙ none_kept (commit_goes r p) past.book r p g.1)) held.is_id dsas.0 dsas.1;
            given = ap (λ (x : Past). x.given) past_ahead;
            was_up = λ _. (rest.up, rest.in_memory);
            idle = λ _ none. absurd (cc (of, none));
            done = λ _ x ofx w o stands. subst (λ y. commit w r y o ≡ (world_with w (seen read safe plan name mid ahead.kept) ahead.past, o)) (some_same p x (sym of ∙ ofx))
                (commit_made w r (seen read safe plan name mid ahead.kept) past ahead.past p o o stands (commits.within (inl refl) r.device.safe_log rest.at) is past_ahead (up_answers (commit_goes r p) o g.1));
            hinders = λ h none. absurd (cc none);
            wanted = λ h none. absurd (cc none);
          }

      fault_so : Calls k changes old mid (Some DiskFault) → CameBy (Some DiskFault)
      fault_so calls =
          let commits = ran (Some DiskFault) calls in
          let g = went_so (Some DiskFault) calls in
          let stopped = has_stopped mid.keeper in
          let new = downed stopped mid in
          let faulty = (commits.fault refl).0 in
          let has = subst (λ x. Has read safe torn plan x left) (downed_keeper stopped mid) g.0 in
          let is = seen_so read safe torn plan name new ahead.kept left has named (downed_stands stopped mid faulty commits.still_up ∙ g.1) kept_ahead in
          when_hindered
          (held_so read safe torn plan has_stopped name dsa new ahead.kept left is has (λ s there. absurd (cc (there, downed_state stopped mid faulty))) held.is_id dsas.0 dsas.1)
          (ap (λ (x : Past). x.given) past_ahead)
          (λ told tells. Ended p rest.up of
          (λ w o stands. commit_made w r (seen read safe plan name new ahead.kept) past ahead.past p o told stands (commits.within (inr refl) r.device.safe_log rest.at) is past_ahead
          (fault_answers (commit_goes r p) o stopped g.1 ∙ ap of_fault (ap has_stopped (downed_keeper stopped mid)) ∙ some_same (of_fault (has_stopped new.keeper)) told tells)))
          (λ wants. absurd (cc wants))

      full_so : Calls k changes old mid (Some Full) → CameBy (Some Full)
      full_so calls =
          let commits = ran (Some Full) calls in
          let is = commits.full refl in
          as_it_was Full is
          (λ told tells. Ended p rest.up of
          (λ w o stands. commit_full w r (seen read safe plan name mid kept) past past p o o stands (commits.beyond refl r.device.safe_log rest.at) (still_seen mid kept is refl) refl
          ∙ ap (λ t. (world_with w (seen read safe plan name mid kept) past, t)) (some_same (full Log log_limit) told tells)))

      short_so : Calls k changes old mid (Some NoMemory) → CameBy (Some NoMemory)
      short_so calls =
          let commits = ran (Some NoMemory) calls in
          let g = went_so (Some NoMemory) calls in
          let there = (commits.no_memory refl).0 ∙ rest.in_memory in
          let stands = ap (λ b. standing_by b mid.state) commits.still_up ∙ ap (λ o. standing_by false o) there ∙ sym rest.up in
          let is = seen_so read safe torn plan name mid kept r g.0 refl stands refl in
          when_hindered (held_so read safe torn plan has_stopped name dsa mid kept r is g.0 (λ s _. (g.1, rest.none)) held.is_id held.reads held.keeps) refl
          (λ told tells. absurd (cc tells)) (λ wants. (is, refl))

    -- nothing was to be committed, and memory may have been wanting
    none_so : po r.safe ≡ None → AtRest → Calls k changes old mid None → CameBy None
    none_so of rest calls =
        let is = calls.unchanged r.safe rest.in_memory (sym (makes None of)) in
        let keeps : ahead.kept ≡ kept = ap (λ o. (after_commit past r o).kept) of in
        let comes : ahead.past ≡ past = ap (λ o. (after_commit past r o).past) of in
        record {
          held = still_held mid ahead.kept is keeps;
          given = ap (λ (x : Past). x.given) comes;
          was_up = λ _. (rest.up, rest.in_memory);
          idle = λ _ _. (still_seen mid ahead.kept is keeps, comes);
          done = λ _ p ofp. absurd (cc (of, ofp));
          hinders = λ h none. absurd (cc none);
          wanted = λ h none. absurd (cc none);
        }

    short_none : po r.safe ≡ None → AtRest → Calls k changes old mid (Some NoMemory) → CameBy (Some NoMemory)
    short_none of rest calls =
        let is = calls.unchanged r.safe rest.in_memory (sym (makes None of)) in
        as_it_was NoMemory is (λ told tells. absurd (cc tells))

    -- it was down or failed
    down_so : Calls k changes old mid (Some Down) → CameBy (Some Down)
    down_so calls =
        let down = calls.down.0 refl in
        let none = by_option old.state (old.state ≡ None) (λ none. none) (λ s is. absurd (cc ((order.up s is).1, down))) in
        let is = calls.stays none in
        as_it_was Down is (λ told tells. WasDown (ap (λ b. standing_by b old.state) down) (sym (some_same outcomes.Down told tells)) (still_seen mid kept is refl) refl)

    failed_so : Calls k changes old mid (Some Failed) → CameBy (Some Failed)
    failed_so calls =
        let both = calls.failed.0 refl in
        let is = calls.stays both.1 in
        as_it_was Failed is
        (λ told tells. WasFailed (ap (λ b. standing_by b old.state) both.0 ∙ ap (λ o. standing_by false o) both.1) (sym (some_same outcomes.Failed told tells)) (still_seen mid kept is refl) refl)

    -- with nothing to commit it ends well, or memory is wanting
    not_idle : (how : Option Hindrance) (X : Type 0) → Calls k changes old mid how → AtRest → po r.safe ≡ None → (how ≡ None → ⊥) → (how ≡ Some NoMemory → ⊥) → X
    not_idle how X calls rest of some wants = absurd (⊎_elim some wants (calls.idle r.safe rest.in_memory (sym (makes None of))))

    pub came : (how : Option Hindrance) → Calls k changes old mid how → CameBy how
    came None calls =
        let rest = running None calls (λ is. cc is) (λ is. cc is) in
        by_option (po r.safe) (CameBy None) (λ of. none_so of rest calls) (λ p of. done_so p of rest calls)
    came (Some DiskFault) calls =
        let rest = running (Some DiskFault) calls (λ is. cc is) (λ is. cc is) in
        by_option (po r.safe) (CameBy (Some DiskFault)) (λ of. not_idle (Some DiskFault) (CameBy (Some DiskFault)) calls rest of (λ is. cc is) (λ is. cc is)) (λ p of. fault_so p of rest calls)
    came (Some Full) calls =
        let rest = running (Some Full) calls (λ is. cc is) (λ is. cc is) in
        by_option (po r.safe) (CameBy (Some Full)) (λ of. not_idle (Some Full) (CameBy (Some Full)) calls rest of (λ is. cc is) (λ is. cc is)) (λ p of. full_so p of rest calls)
    came (Some NoMemory) calls =
        let rest = running (Some NoMemory) calls (λ is. cc is) (λ is. cc is) in
        by_option (po r.safe) (CameBy (Some NoMemory)) (λ of. short_none of rest calls) (λ p of. short_so p of rest calls)
    came (Some Down) calls = down_so calls
    came (Some Failed) calls = failed_so calls

    -- the same, told of what the controller is seen as, and of what the call left
    pub came_so : (v : Replica) (past_then : Past) (kept_then : Option Pending) (how said : Option Hindrance) (new : Running K) (x : Option Pending) (later : Past) → r ≡ v
        → past_then ≡ (after_commit past v (po v.safe)).past → kept_then ≡ (after_commit past v (po v.safe)).kept
        → new ≡ left_by has_stopped how mid → x ≡ come how kept kept_then → later ≡ come how past past_then
        → how ≡ said → Calls k changes old mid said → Came (IsHeld read safe torn plan has_stopped name dsa new x) v (seen read safe plan name new x) past later (po v.safe) old.state (has_stopped new.keeper) how
    came_so v past_then kept_then how said new x later is aheadp aheadk newly keeps comes says calls =
        let Told : Replica → Running K → Option Pending → Past → Type 0 = λ v n y l. Came (IsHeld read safe torn plan has_stopped name dsa n y) v (seen read safe plan name n y) past l (po v.safe) old.state (has_stopped n.keeper) how in
        let kept_is : x ≡ come how kept ahead.kept = keeps ∙ ap (come how kept) (aheadk ∙ ap (λ v. (after_commit past v (po v.safe)).kept) (sym is)) in
        let past_is : later ≡ come how past ahead.past = comes ∙ ap (come how past) (aheadp ∙ ap (λ v. (after_commit past v (po v.safe)).past) (sym is)) in
        subst (λ v. Told v new x later) is
        (subst (λ n. Told r n x later) (sym newly)
        (subst (λ y. Told r (left_by has_stopped how mid) y later) (sym kept_is)
        (subst (λ l. Told r (left_by has_stopped how mid) (come how kept ahead.kept) l) (sym past_is) (came how (subst (λ h. Calls k changes old mid h) (sym says) calls)))))

-- ---- a call, told by what is known of it

-- what a controller that was held came to
abbrev pub CameTo : {K : Type 0} {read safe torn : K → Started State} {plan : K → Option Plan} {has_stopped : K → Bool} {name : List ℕ} {dsa : Identifier} {old : Running K} {kept : Option Pending}
    → IsHeld read safe torn plan has_stopped name dsa old kept → Replica → Past → (State → Option Pending) → Running K → Option Pending → Past → Option Hindrance → Type 0
CameTo {K} {read} {safe} {torn} {plan} {has_stopped} {name} {dsa} {old} {kept} held v past po new x later how =
    Came (IsHeld read safe torn plan has_stopped name dsa new x) v (seen read safe plan name new x) past later (po v.safe) old.state (has_stopped new.keeper) how

pub came_to : {K : Type 0} {k : Ghosts K} {read safe torn : K → Started State} {plan : K → Option Plan} {has_stopped : K → Bool} {name : List ℕ} {dsa : Identifier} {old mid new : Running K}
    {kept kept_then x : Option Pending} {v : Replica} {ahead later : Past} {how said : Option Hindrance} {changes : State → Option Change}
    → (held : IsHeld read safe torn plan has_stopped name dsa old kept) → IsInOrder k old → GoesAsPlanned k read safe torn plan has_stopped
    → (past : Past) (po : State → Option Pending) → ((s : State) → option_map (λ (p : Pending). p.change) (po s) ≡ changes s) → AllFollow k changes
    → seen read safe plan name old kept ≡ v → ahead ≡ (after_commit past v (po v.safe)).past → kept_then ≡ (after_commit past v (po v.safe)).kept
    → new ≡ left_by has_stopped how mid → x ≡ come how kept kept_then → later ≡ come how past ahead → how ≡ said → Calls k changes old mid said
    → CameTo held v past po new x later how
came_to {K} {k} {read} {safe} {torn} {plan} {has_stopped} {name} {dsa} {old} {mid} {new} {kept} {kept_then} {x} {v} {ahead} {later} {how} {said} {changes}
    held order law past po same all is aheadp aheadk newly keeps comes says calls =
    came_so k read safe torn plan has_stopped name dsa old kept held order law past changes po same all mid v ahead kept_then how said new x later is aheadp aheadk newly keeps comes says calls

-- ---- what is answered

pub gone_so : (w : World) (r q : Replica) (past later : Past) (po : Option Pending) (told : Outcome) (gone : Gone) → Hindered r q past later po told → StandsIn w r past
    → ((p : Pending) → r.standing ≡ Up → po ≡ Some p → (o : Outcome) × (gone ≡ commit w r p o)) → where_up (stays w) r.standing gone ≡ (world_with w q later, told)
gone_so w r q past later po told gone (WasDown down tells is same) stands by =
    ap (λ st. where_up (stays w) st gone) down ∙ ap (λ x. (x, outcomes.Down)) (same_world w r q past later stands is same) ∙ ap (λ t. (world_with w q later, t)) (sym tells)
gone_so w r q past later po told gone (WasFailed failed tells is same) stands by =
    ap (λ st. where_up (stays w) st gone) failed ∙ ap (λ x. (x, outcomes.Failed)) (same_world w r q past later stands is same) ∙ ap (λ t. (world_with w q later, t)) (sym tells)
gone_so w r q past later po told gone (Ended p up of ends) stands by =
    let made = by p up of in
    ap (λ st. where_up (stays w) st gone) up ∙ made.1 ∙ ends w made.0 stands

pub sent_so : {A : Type 0} (w : World) (r q : Replica) (past later : Past) (po : Option Pending) (told : Outcome) (sent : Sent A) → Hindered r q past later po told → StandsIn w r past
    → ((p : Pending) → r.standing ≡ Up → po ≡ Some p → (o : Outcome) × (sent ≡ not_sent (commit w r p o))) → where_up (nothing w) r.standing sent ≡ (world_with w q later, told, None)
sent_so w r q past later po told sent (WasDown down tells is same) stands by =
    ap (λ st. where_up (nothing w) st sent) down ∙ ap (λ x. nothing x outcomes.Down) (same_world w r q past later stands is same) ∙ ap (λ t. nothing (world_with w q later) t) (sym tells)
sent_so w r q past later po told sent (WasFailed failed tells is same) stands by =
    ap (λ st. where_up (nothing w) st sent) failed ∙ ap (λ x. nothing x outcomes.Failed) (same_world w r q past later stands is same) ∙ ap (λ t. nothing (world_with w q later) t) (sym tells)
sent_so w r q past later po told sent (Ended p up of ends) stands by =
    let made = by p up of in
    ap (λ st. where_up (nothing w) st sent) up ∙ made.1 ∙ ap not_sent (ends w made.0 stands)
