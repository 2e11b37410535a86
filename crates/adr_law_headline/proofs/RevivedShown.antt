-- What a controller shows behind a revival that was answered by its USN.
use Rattle.std.proofs.Common.{◌≡◌, ◌≢◌, inl, inr, ℕ, List, Bool, cond, Option, Some, None, Result, Ok, Err, refl, sym, ap, ◌∙◌, subst, fold}
use Rattle.adr_call.specs.declared.answer.Answer.{Answer}
use Rattle.adr_call.specs.declared.event.Event.{Event}
use Rattle.adr_call.specs.declared.event.Event.TheVariants as events
use Rattle.adr_call.specs.declared.event.Use.TheVariants as uses
use Rattle.adr_call.specs.declared.outcome.Outcome.{Outcome}
use Rattle.adr_call.specs.declared.outcome.Outcome.TheVariants as outcomes
use Rattle.adr_call.specs.declared.refusal.Table.TheVariants.{Log}
use Rattle.adr_call.specs.declared.refusal.WriteRefusal.{WriteRefusal}
use Rattle.adr_disk.specs.declared.memory.Mishap.TheVariants.{Fails, Stops}
use Rattle.adr_model.specs.Member.{Member, Each}
use Rattle.adr_model.specs.Update.{Identifier}
use Rattle.adr_model.specs.Store.{Store}
use Rattle.adr_model.specs.Change.{Change}
use Rattle.adr_model.specs.Formed.{IsFormed, IsFormedStore}
use Rattle.adr_model.specs.Lengths.{log_limit, change_fits}
use Rattle.adr_model.specs.Refused.{write_refused, full}
use Rattle.adr_model.specs.Client.{done, written}
use Rattle.adr_model.specs.Replica.{Pending, ToWrite, Failed, Replica, moved, Went, Passed, Met, moves_of_commit, standing_after, outcome_after, commit_goes, device_after_commit}
use Rattle.adr_model.specs.World.{Name, World, Gone, stays, bound_at, with_replica, of_image, committed, after_call, does}
use Rattle.adr_model.specs.Write.{Write, Revive, write}
use Rattle.adr_law_convergence.proofs.Found.{bound_member, same_name_tests, still_there}
use Rattle.adr_law_convergence.proofs.Refusals.{is_plain, IsPlain, write_refused_plainly}
use Rattle.adr_law_convergence.proofs.Reached.{plain_reached, within_case}
use Rattle.adr_law_revived.proofs.Whole.{revived_shows}
use Rattle.adr_law_headline.specs.Revived.{ShowsAgain, RevivesShow}

plain_is_not : (o : Outcome) → IsPlain o → (usn : ℕ) → o ≢ outcomes.Usn usn
plain_is_not o plain usn e = let same : is_plain o ≡ is_plain (outcomes.Usn usn) = ap is_plain e in absurd (cc)

module _ (w : World) (states : Each (λ r. IsFormed r.safe) w.replicas) (images : Each (λ (i : Name × Store). IsFormedStore i.1) w.images)
    (name : Name) (guid : Identifier) (image : Name) (parent : Identifier) (text : List ℕ) where
  abbrev Shows : Gone → Type 0
  Shows g = (usn : ℕ) → g.1 ≡ outcomes.Usn usn → ShowsAgain w g.0 name guid image parent text

  plainly : (o : Outcome) → IsPlain o → Shows (stays w o)
  plainly o plain usn same = absurd (plain_is_not o plain usn same)

  module _ (store : Store) (bound : bound_at w.images image ≡ Some store) where
    formed_image : IsFormedStore store
    formed_image = bound_member IsFormedStore w.images image store images bound

    abbrev what : Write
    what = Revive store guid parent text

    module _ (r : Replica) (there : Member r w.replicas) (named : r.name ≡ name) where
      abbrev pending : Change → Pending
      pending c = record { call = ToWrite what w.time; change = c }

      abbrev behind : Change → Went → Replica
      behind c g = record (fold moved (w.book, r) (moves_of_commit (pending c) g)).1 { standing = standing_after Failed g; device = device_after_commit r (pending c) }

      -- the world after the device calls of the write
      abbrev gone : Change → Went → Gone
      gone c g = (
        record w { book = (fold moved (w.book, r) (moves_of_commit (pending c) g)).0; replicas = with_replica w.replicas (behind c g) },
        outcome_after g (outcomes.Usn c.usn),
      )

      in_its_place : (new : Replica) → new.name ≡ r.name → Member new (with_replica w.replicas new)
      in_its_place new same = subst (λ (b : Bool). Member (cond b new r) (with_replica w.replicas new)) (same_name_tests r.name new.name (sym same)) (still_there w.replicas new r there)

      shows_so : (c : Change) → write r.safe what w.time ≡ Ok c → (g : Went) → Shows (gone c g)
      shows_so c e (Passed left) usn same = record {
        store = store;
        bound = bound;
        before = r;
        there = there;
        named = named;
        after = behind c (Passed left);
        stands = in_its_place (behind c (Passed left)) refl;
        still = named;
        shows = revived_shows r.safe store guid parent text w.time c (states r there) formed_image e;
      }
      shows_so c e (Met place (Stops how)) usn same = absurd (cc)
      shows_so c e (Met place Fails) usn same = absurd (cc)

      wrote : (t : Result Change WriteRefusal) → write r.safe what w.time ≡ t → Shows (after_call w r (ToWrite what w.time) (written t))
      wrote (Err x) e = λ usn same. absurd (plain_is_not (write_refused x) (write_refused_plainly x) usn same)
      wrote (Ok c) e = within_case Shows w (change_fits r.device.safe_log r.safe.store c) (committed w r (pending c) (outcomes.Usn c.usn))
          (λ usn same. absurd (plain_is_not (full Log log_limit) refl usn same)) (shows_so c e (commit_goes r (pending c)))

    revives : Shows (does w name (ToWrite what w.time))
    revives = plain_reached Shows w name (stays w) plainly (λ r. after_call w r (ToWrite what w.time) (done r.safe (ToWrite what w.time)))
        (λ r called up. wrote r called.there called.name (write r.safe what w.time) refl)

  of_bound : (o : Option Store) → bound_at w.images image ≡ o → Shows (of_image w o (λ i. does w name (ToWrite (Revive i guid parent text) w.time)))
  of_bound None e = plainly outcomes.Absent refl
  of_bound (Some i) e = revives i e

  pub revival_shows : RevivesShow w (events.Uses name (uses.Revive guid parent text) image)
  revival_shows usn a (inl is) said = of_bound (bound_at w.images image) refl usn (ap (λ (b : Answer). b.outcome) (sym is) ∙ said)
  revival_shows usn a (inr none) said = absurd none

-- in a world whose states and images are formed
pub revivals_show : (w : World) (e : Event) → Each (λ r. IsFormed r.safe) w.replicas → Each (λ (i : Name × Store). IsFormedStore i.1) w.images → RevivesShow w e
revivals_show w (events.Uses name (uses.Revive guid parent text) image) states images = revival_shows w states images name guid image parent text
revivals_show w _ states images = tt
