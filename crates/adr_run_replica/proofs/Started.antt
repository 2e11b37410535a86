-- What a start leaves of a controller.
use Rattle.std.proofs.Common.{◌≡◌, ◌∙◌, refl, sym, ap, subst, ℕ, List, Bool, true, false, Option, Some, None, fold}
use Rattle.adr_io.specs.declared.Fault.TheVariants.{Failed as failed_call}
use Rattle.adr_call.specs.declared.outcome.Outcome.{Outcome}
use Rattle.adr_call.specs.declared.outcome.Outcome.TheVariants as outcomes
use Rattle.adr_model.specs.Update.{Identifier}
use Rattle.adr_model.specs.Store.{State}
use Rattle.adr_disk.specs.declared.memory.Plan.{Plan}
use Rattle.adr_model.specs.Replica.{Replica, Pending, Book, Device, Move, moved, moves_of_start, standing_after, outcome_after, start_goes, device_after_start, Standing, Up, Failed}
use Rattle.adr_model.specs.World.{World, LastReply, Gone, after_moves, starts, with_replica}
use Rattle.adr_law_journal.specs.Areas.{Started}
use Rattle.adr_law_journal.specs.Replicas.{Has, started, standing_of}
use Rattle.adr_controller.specs.Running.{Running}
use Rattle.adr_run_replica.specs.Past.{Past, Ahead}
use Rattle.adr_run_replica.specs.Past.{after_moves as ahead_of}
use Rattle.adr_run_replica.specs.Held.{standing_by, seen, IsHeld}
use Rattle.adr_run_replica.specs.Settled.{downed, of_fault}
use Rattle.adr_run_replica.specs.Led.{StandsIn, world_with, IsDone, Leads, synced}
use Rattle.adr_run_replica.proofs.Seen.{seen_so, held_so}
use Rattle.adr_run_replica.proofs.Came.{downed_keeper, downed_state}
use Rattle.adr_run_replica.proofs.Went.{up_answers, fault_answers, none_kept_started, same_name, same_dsa}

-- moves in a world
pub moves_made : (w : World) (r q : Replica) (past later : Past) (moves : List Move) (standing : Standing) (device : Device) (o told : Outcome) → StandsIn w r past
    → q ≡ record (fold moved (past.book, r) moves).1 { standing = standing; device = device } → later ≡ (ahead_of past r moves).past → o ≡ told
    → after_moves w r moves standing device o ≡ (world_with w q later, told)
moves_made w r q past later moves standing device o told stands is comes tells =
    let gone : Book → List LastReply → Replica → Outcome → Gone = λ b l x t. (record w { book = b; last_replies = l; replicas = with_replica w.replicas x }, t) in
    let book_of : Book → Book = λ b. (fold moved (b, r) moves).0 in
    let left : Book → Replica = λ b. record (fold moved (b, r) moves).1 { standing = standing; device = device } in
    ap (λ b. gone (book_of b) w.last_replies (left b) o) stands.book ∙ ap (λ l. gone (book_of past.book) l (left past.book) o) stands.told
    ∙ ap (λ t. gone (book_of past.book) past.last_replies (left past.book) t) tells ∙ ap (λ x. gone (book_of past.book) past.last_replies x told) (sym is)
    ∙ ap (λ (x : Past). gone x.book x.last_replies q told) (sym comes)

-- a start of what isn't up
pub starts_so : (w : World) (r : Replica) (down : Bool) → r.standing ≡ standing_by down None
    → starts w r r.standing ≡ after_moves w r (moves_of_start (start_goes r)) (standing_after r.standing (start_goes r)) (device_after_start r) (outcome_after (start_goes r) outcomes.Ok)
starts_so w r true is = ap (λ st. starts w r st) is
starts_so w r false is = ap (λ st. starts w r st) is

module _ {K : Type 0} (read safe torn : K → Started State) (plan : K → Option Plan) (has_stopped : K → Bool)
    (name : List ℕ) (dsa : Identifier) (old : Running K) (kept : Option Pending) (held : IsHeld read safe torn plan has_stopped name dsa old kept) where
  abbrev r : Replica
  r = seen read safe plan name old kept

  -- ---- a start

  module _ (past : Past) (none : old.state ≡ None) where
    abbrev begun : Ahead
    begun = ahead_of past r (moves_of_start (start_goes r))

    abbrev behind : Replica
    behind = started past.book r

    start_named : name ≡ behind.name
    start_named = sym (same_name (moves_of_start (start_goes r)) past.book r)

    start_dsas : (behind.read.dsa ≡ dsa) × (behind.safe.dsa ≡ dsa)
    start_dsas = same_dsa (moves_of_start (start_goes r)) past.book r dsa held.reads held.keeps

    stood : r.standing ≡ standing_by old.down None
    stood = ap (λ o. standing_by old.down o) none

    pub not_up : r.standing ≡ Up → ⊥
    not_up up = by old.down (sym stood ∙ up)
      where
        by : (b : Bool) → standing_by b None ≡ Up → ⊥
        by true is = cc is
        by false is = cc is

    leads_so : (q : Replica) (later : Past) (told : Outcome) → q ≡ behind → later ≡ begun.past → outcome_after (start_goes r) outcomes.Ok ≡ told → Leads r past (λ w. starts w r r.standing) q later told
    leads_so q later told is comes tells w stands =
        starts_so w r old.down stood
        ∙ moves_made w r q past later (moves_of_start (start_goes r)) (standing_after r.standing (start_goes r)) (device_after_start r) (outcome_after (start_goes r) outcomes.Ok) told stands is comes tells

    -- it passed
    module _ (new : Running K) (s : State) (state : new.state ≡ Some s) (down : new.down ≡ false) (has : Has read safe torn plan new.keeper behind)
        (stands : Up ≡ standing_after r.standing (start_goes r)) (passed : Up ≡ standing_after Failed (start_goes r)) (runs : has_stopped new.keeper ≡ false) where
      pub started_seen : seen read safe plan name new begun.kept ≡ behind
      started_seen = seen_so read safe torn plan name new begun.kept behind has start_named (ap (λ b. standing_by b new.state) down ∙ ap (λ o. standing_by false o) state ∙ stands) refl

      pub started_held : IsHeld read safe torn plan has_stopped name dsa new begun.kept
      started_held =
          held_so read safe torn plan has_stopped name dsa new begun.kept behind started_seen has (λ s there. (runs, none_kept_started (start_goes r) past.book r passed)) held.is_id start_dsas.0 start_dsas.1

      pub started_leads : Leads r past (λ w. starts w r r.standing) (seen read safe plan name new begun.kept) begun.past outcomes.Ok
      started_leads = leads_so (seen read safe plan name new begun.kept) begun.past outcomes.Ok started_seen refl (up_answers (start_goes r) outcomes.Ok passed)

    -- a call of the disk failed
    module _ (mid : Running K) (state : mid.state ≡ None) (down : mid.down ≡ old.down) (has : Has read safe torn plan mid.keeper behind)
        (stands : standing_of (Some failed_call) (has_stopped mid.keeper) r.standing ≡ standing_after r.standing (start_goes r))
        (tells : standing_of (Some failed_call) (has_stopped mid.keeper) Failed ≡ standing_after Failed (start_goes r)) where
      abbrev new : Running K
      new = downed (has_stopped mid.keeper) mid

      now_stands : (b : Bool) → standing_by (downed b mid).down (downed b mid).state ≡ standing_of (Some failed_call) b r.standing
      now_stands true = refl
      now_stands false = ap (λ d. standing_by d mid.state) down ∙ ap (λ o. standing_by old.down o) state ∙ sym stood

      now_has : Has read safe torn plan new.keeper behind
      now_has = subst (λ x. Has read safe torn plan x behind) (downed_keeper (has_stopped mid.keeper) mid) has

      pub faulty_seen : seen read safe plan name new begun.kept ≡ behind
      faulty_seen = seen_so read safe torn plan name new begun.kept behind now_has start_named (now_stands (has_stopped mid.keeper) ∙ stands) refl

      pub faulty_held : IsHeld read safe torn plan has_stopped name dsa new begun.kept
      faulty_held =
          held_so read safe torn plan has_stopped name dsa new begun.kept behind faulty_seen now_has (λ s there. absurd (cc (there, downed_state (has_stopped mid.keeper) mid state))) held.is_id start_dsas.0 start_dsas.1

      pub faulty_leads : Leads r past (λ w. starts w r r.standing) (seen read safe plan name new begun.kept) begun.past (of_fault (has_stopped mid.keeper))
      faulty_leads = leads_so (seen read safe plan name new begun.kept) begun.past (of_fault (has_stopped mid.keeper)) faulty_seen refl (fault_answers (start_goes r) outcomes.Ok (has_stopped mid.keeper) tells)

    -- memory was wanting, behind the sync or before it
    module _ (new : Running K) (state : new.state ≡ None) (down : new.down ≡ old.down) where
      as_stood : standing_by new.down new.state ≡ r.standing
      as_stood = ap (λ b. standing_by b new.state) down ∙ ap (λ o. standing_by old.down o) state ∙ sym stood

      module _ (has : Has read safe torn plan new.keeper behind) where
        pub synced_seen : seen read safe plan name new begun.kept ≡ record behind { standing = r.standing }
        synced_seen =
            seen_so read safe torn plan name new begun.kept (record behind { standing = r.standing }) (record { is_read = has.is_read; is_safe = has.is_safe; is_torn = has.is_torn; is_plan = has.is_plan })
            start_named as_stood refl

        pub synced_held : IsHeld read safe torn plan has_stopped name dsa new begun.kept
        synced_held =
            held_so read safe torn plan has_stopped name dsa new begun.kept (record behind { standing = r.standing }) synced_seen
            (record { is_read = has.is_read; is_safe = has.is_safe; is_torn = has.is_torn; is_plan = has.is_plan }) (λ s there. absurd (cc (there, state))) held.is_id start_dsas.0 start_dsas.1

        pub synced_done : IsDone r past (λ w. synced w r) (seen read safe plan name new begun.kept) begun.past
        synced_done w stands =
            ap (λ (x : Gone). x.0)
            (moves_made w r (seen read safe plan name new begun.kept) past begun.past (moves_of_start (start_goes r)) r.standing (device_after_start r) outcomes.Ok outcomes.Ok stands synced_seen refl refl)

      module _ (has : Has read safe torn plan new.keeper r) where
        pub short_seen : seen read safe plan name new kept ≡ r
        short_seen = seen_so read safe torn plan name new kept r has refl as_stood refl

        pub short_held : IsHeld read safe torn plan has_stopped name dsa new kept
        short_held = held_so read safe torn plan has_stopped name dsa new kept r short_seen has (λ s there. absurd (cc (there, state))) held.is_id held.reads held.keeps
