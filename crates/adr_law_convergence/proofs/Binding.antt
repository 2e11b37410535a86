-- Messages and images that a sound world makes are sound, and may be bound to names.
use Rattle.std.proofs.Common.{◌≡◌, ◌≢◌, inr, ℕ, List, [], ◌∷◌, ◌++◌, ◌&&◌, ◌==◌, is_some, Bool, true, false, Option, Some, None, Result, Ok, Err, refl, ap, ◌∙◌, subst, if◌then◌else◌}
use Rattle.std.specs.BTreeMap.{is_at}
use Rattle.adr_values.specs.Order.{identifier_order}
use Rattle.adr_call.specs.declared.outcome.Outcome.{Outcome}
use Rattle.adr_call.specs.declared.outcome.Outcome.TheVariants as outcomes
use Rattle.adr_model.specs.Refused.{quarantined}
use Rattle.adr_call.specs.declared.refusal.ServeRefusal.{ServeRefusal}
use Rattle.adr_call.specs.declared.refusal.ServeRefusal.TheVariants as serves
use Rattle.adr_model.specs.Member.{Member, Each}
use Rattle.adr_model.specs.Update.{Identifier}
use Rattle.adr_model.specs.Place.{identifier}
use Rattle.adr_model.specs.Store.{PartnerMark, Store, no_mark, kept_of}
use Rattle.adr_model.specs.Serve.{Request, Reply, is_quarantined, ask, serve_refusal, reply_to, serve}
use Rattle.adr_model.specs.Collect.{backup}
use Rattle.adr_model.specs.Replica.{Replica}
use Rattle.adr_model.specs.World.{LastReply, Name, World, Snapshot, Sent, noted, bound, nothing, of_controller, asks, after_serve, served, serves_request, backed_up}
use Rattle.adr_model.specs.Sound.{IsSoundRequest, IsSoundReply, IsSoundStore, IsGiven, AreMarksGiven, IsTraced, IsTracedReply, IsSoundWorld}
use Rattle.adr_law_calls.proofs.Tables.{each_found}
use Rattle.adr_law_calls.proofs.Asked.{asked_is_sound}
use Rattle.adr_law_calls.proofs.GrantedSoundly.{served_is_sound, no_rollback}
use Rattle.adr_model.proofs.Members.{member_left}
use Rattle.adr_law_knowledge.proofs.Refusing.{answered}
use Rattle.adr_law_convergence.proofs.Beside.{still_traced, reply_still_traced, beside_sound}
use Rattle.adr_law_convergence.proofs.Traced.{reply_told}
use Rattle.adr_law_convergence.proofs.Found.{each_bound}
use Rattle.adr_law_convergence.proofs.Reached.{made_case, up_case, reached_case}

-- the world in which these last replies were made
abbrev pub telling : World → List LastReply → World
telling w told = record w { last_replies = told }

-- the world is as it was, but that a last reply may be noted, and what is made is so there
abbrev pub Makes : {A : Type 0} → World → (World → A → Type 0) → Sent A → Type 0
Makes w P t = (told : List LastReply) × Each (λ l. Member l told) w.last_replies × (t.0 ≡ telling w told) × ((x : _) → t.2 ≡ Some x → P (telling w told) x)

pub made_nothing : {A : Type 0} (w : World) (P : World → A → Type 0) (x : Outcome) → Makes w P (nothing w x)
made_nothing w P x = (w.last_replies, λ l m. m, refl, λ y e. absurd (cc))

-- the world is as it was, and what is made is so
abbrev pub MakesHere : {A : Type 0} → World → (A → Type 0) → Sent A → Type 0
MakesHere w P t = (t.0 ≡ w) × ((x : _) → t.2 ≡ Some x → P x)

pub made_none : {A : Type 0} (w : World) (P : A → Type 0) (x : Outcome) → MakesHere w P (nothing w x)
made_none w P x = (refl, λ y e. absurd (cc))

pub only_made : {A : Type 0} (P : A → Type 0) (x : A) → P x → (y : A) → Some x ≡ Some y → P y
only_made P x p y e = let s : x ≡ y = cc in subst P s p

-- what a partner is kept under is given, or nothing is kept
kept_given : (w : World) (s : Store) (partner : Identifier) → AreMarksGiven w s → IsGiven w (kept_of s partner).inv
kept_given w s partner given = each_found (λ (k : PartnerMark). IsGiven w k.inv) (is_at (identifier_order partner)) s.marks (record { inv = identifier 0; mark = no_mark }) (inr refl) given

abbrev pub IsRequest : World → Request → Type 0
IsRequest w q = IsSoundRequest w.book q × IsGiven w q.inv

abbrev pub IsReply : World → Reply → Type 0
IsReply w r = IsSoundReply w.book r × IsTracedReply w r

abbrev pub IsImage : World → Store → Type 0
IsImage w s = IsSoundStore w.book s × IsTraced w s

module _ (w : World) (sound : IsSoundWorld w) where
  pub asks_sound : (name partner : Name) (max version : ℕ) → Makes w IsRequest (asks w name partner max version)
  asks_sound name partner max version =
      made_case (Makes w IsRequest) w name (nothing w) none _ (λ r is. made_case (Makes w IsRequest) w partner (nothing w) none _ (λ p at. up_case (Makes w IsRequest) w name (nothing w) none r.standing _ (λ up.
      (w.last_replies, λ l m. m, refl, only_made (IsRequest w) (ask r.safe p.safe.dsa max version) (asked_is_sound w.book r.safe p.safe.dsa max version (sound.replicas r is.there).safe.store, kept_given w r.safe.store p.safe.dsa (sound.identifiers.stores r is.there).0.0)))))
    where
      none : (x : Outcome) → Makes w IsRequest (nothing w x)
      none x = made_nothing w IsRequest x

  module _ (r : Replica) (there : Member r w.replicas) where
    other_refusal : (x : ServeRefusal) → ((inv : Identifier) (mine shown : ℕ) → x ≢ serves.RolledBack inv mine shown) → Makes w IsReply (after_serve w r (Err x))
    other_refusal (serves.RolledBack inv mine shown) other = absurd (other inv mine shown refl)
    other_refusal _ other = (w.last_replies, λ l m. m, refl, λ y e. absurd (cc))

    still_there : (reply : Reply) → Each (λ (l : LastReply). Member l (noted w reply).last_replies) w.last_replies
    still_there reply l m = by (is_some reply.last && (reply.version == 2))
      where
        by : (b : Bool) → Member l (if b then w.last_replies ++ record { inv = reply.inv; time = w.time; usn = reply.to.seen } ∷ [] else w.last_replies)
        by true = member_left w.last_replies (record { inv = reply.inv; time = w.time; usn = reply.to.seen } ∷ []) l m
        by false = m

    serve_sound : (q : Request) → IsSoundRequest w.book q → Makes w IsReply (after_serve w r (serve r.safe q w.time))
    serve_sound q is = by (serve r.safe q w.time) refl
      where
        traced : IsTracedReply (noted w (reply_to r.safe q w.time)) (reply_to r.safe q w.time)
        traced = (sound.identifiers.invs_given r there, reply_told w r.safe q (sound.replicas r there).safe.formed (sound.identifiers.stores r there).0.1 _)

        by : (t : Result Reply ServeRefusal) → serve r.safe q w.time ≡ t → Makes w IsReply (after_serve w r t)
        by (Ok reply) e = (
          (noted w reply).last_replies,
          still_there reply,
          refl,
          only_made (IsReply (noted w reply)) reply (
            served_is_sound w.book r.safe q w.time reply sound.book (sound.replicas r there).safe is e,
            subst (λ (p : Reply). IsTracedReply (noted w p) p) (answered (serve_refusal r.safe q) (reply_to r.safe q w.time) reply e).1 traced,
          ),
        )
        by (Err x) e = other_refusal x (λ inv mine shown s. no_rollback w.book r.safe q w.time inv mine shown (sound.replicas r there).safe is (e ∙ ap Err s))

    served_sound : (o : Option Request) → ((q : Request) → o ≡ Some q → IsSoundRequest w.book q) → Makes w IsReply (served w r o)
    served_sound None all = made_nothing w IsReply outcomes.Absent
    served_sound (Some q) all = serve_sound q (all q refl)

  pub serves_sound : (name : Name) (o : Option Request) → ((q : Request) → o ≡ Some q → IsSoundRequest w.book q) → Makes w IsReply (serves_request w name o)
  serves_sound name o all = reached_case (Makes w IsReply) w name (nothing w) (made_nothing w IsReply) (λ r. served w r o) (λ r is up. served_sound r is.there o all)

  backed_up_sound : (r : Replica) → Member r w.replicas → Makes w IsImage (backed_up w (backup r.safe))
  backed_up_sound r there = by (is_quarantined r.safe.mode)
    where
      by : (b : Bool) → Makes w IsImage (backed_up w (if b then None else Some r.safe.store))
      by true = made_nothing w IsImage quarantined
      by false = (w.last_replies, λ l m. m, refl, only_made (IsImage w) r.safe.store ((sound.replicas r there).safe.store, (sound.identifiers.stores r there).0))

  pub backups_sound : (name : Name) → Makes w IsImage (of_controller w name (nothing w) (λ r. backed_up w (backup r.safe)))
  backups_sound name = reached_case (Makes w IsImage) w name (nothing w) (made_nothing w IsImage) (λ r. backed_up w (backup r.safe)) (λ r is up. backed_up_sound r is.there)

  -- ---- what is bound

  pub requests_are_sound : Each (λ (q : Name × Request). IsRequest w q.1) w.requests
  requests_are_sound q m = (sound.requests q m, sound.identifiers.requests q m)

  pub replies_are_sound : Each (λ (r : Name × Reply). IsReply w r.1) w.replies
  replies_are_sound r m = (sound.replies r m, sound.identifiers.replies r m)

  pub images_are_sound : Each (λ (i : Name × Store). IsImage w i.1) w.images
  images_are_sound i m = (sound.images i m, sound.identifiers.images i m)

  pub requested : (name : Name) (o : Option Request) → ((q : Request) → o ≡ Some q → IsRequest w q) → IsSoundWorld (record w { requests = bound w.requests name o })
  requested name o all = beside_sound w (record w { requests = bound w.requests name o }) (λ i m. m) (λ l m. m) sound (λ i m. m)
      (each_bound (IsRequest w) w.requests name o requests_are_sound all) replies_are_sound images_are_sound

  pub replied : (name : Name) (o : Option Reply) → ((r : Reply) → o ≡ Some r → IsReply w r) → IsSoundWorld (record w { replies = bound w.replies name o })
  replied name o all = beside_sound w (record w { replies = bound w.replies name o }) (λ i m. m) (λ l m. m) sound (λ i m. m)
      requests_are_sound (each_bound (IsReply w) w.replies name o replies_are_sound all) images_are_sound

  pub imaged : (name : Name) (o : Option Store) → ((s : Store) → o ≡ Some s → IsImage w s) → IsSoundWorld (record w { images = bound w.images name o })
  imaged name o all = beside_sound w (record w { images = bound w.images name o }) (λ i m. m) (λ l m. m) sound (λ i m. m)
      requests_are_sound replies_are_sound (each_bound (IsImage w) w.images name o images_are_sound all)

  -- only the time and the snapshots change
  pub aside : (time : ℕ) (snapshots : List (Name × Snapshot)) → IsSoundWorld (record w { time = time; snapshots = snapshots })
  aside time snapshots = beside_sound w (record w { time = time; snapshots = snapshots }) (λ i m. m) (λ l m. m) sound (λ i m. m) requests_are_sound replies_are_sound images_are_sound

  -- more last replies are noted
  pub telling_sound : (told : List LastReply) → Each (λ l. Member l told) w.last_replies → IsSoundWorld (telling w told)
  telling_sound told more = beside_sound w (telling w told) (λ i m. m) more sound (λ i m. m)
      requests_are_sound
      (λ r m. (sound.replies r m, reply_still_traced w (telling w told) (λ i n. n) more r.1 (sound.identifiers.replies r m)))
      (λ i m. (sound.images i m, still_traced w (telling w told) (λ j n. n) more i.1 (sound.identifiers.images i m)))
