-- Why a commit goes as planned.
use Rattle.std.proofs.Common.{◌≡◌, inl, inr, sym, subst, refl, Bool, false, Option, Some, None}
use Rattle.adr_model.specs.Change.{Change}
use Rattle.adr_model.specs.Replica.{Replica, Pending, Book}
use Rattle.adr_law_journal.specs.Replicas.{read_found, safe_found, committed}
use Rattle.adr_run_keeper.specs.Planned.{CommitsAs}
use Rattle.adr_journal.specs.declared.keeper.Keeper.{Ghosts}
use Rattle.adr_journal.specs.declared.keeper.KeeperRefusal.{KeeperRefusal}
use Rattle.adr_journal.specs.declared.keeper.KeeperRefusal.TheVariants as keeps
use Rattle.adr_controller.specs.declared.refusal.Hindrance.{Hindrance}
use Rattle.adr_controller.specs.declared.refusal.Hindrance.TheVariants.{Down, Failed, Full, DiskFault, NoMemory}
use Rattle.adr_controller.specs.Did.{Ran}
use Rattle.adr_run_keeper.specs.Goes.{GoesAs}

module _ {K : Type 0} (k : Ghosts K) (has : K → Replica → Type 0) (has_stopped : K → Bool)
    (prepares : (old new : K) (e : Option KeeperRefusal) (r : Replica) → has_stopped old ≡ false → has old r → k.prepares old e new
    → has new r × (has_stopped new ≡ false) × (e ≡ Some keeps.DiskFault → ⊥))
    (commits : (old new : K) (c : Change) (e : Option KeeperRefusal) (book : Book) (r : Replica) (p : Pending)
    → k.is_at old (safe_found r) → k.is_failed old ≡ false → k.is_prepared old r.safe c → k.can_follow r.safe c → has_stopped old ≡ false → read_found r ≡ safe_found r → has old r → p.change ≡ c
    → k.commits old c e new → CommitsAs has has_stopped e (committed book r p) new)
    (old new : K) (c : Change) (book : Book) (r : Replica) (p : Pending)
    (at : k.is_at old (safe_found r)) (follows : k.can_follow r.safe c) (up : has_stopped old ≡ false) (same : read_found r ≡ safe_found r) (h : has old r) (of_p : p.change ≡ c) where
  stays_so : new ≡ old → has new r × (has_stopped new ≡ false)
  stays_so is = (subst (λ x. has x r) (sym is) h, subst (λ x. has_stopped x ≡ false) (sym is) up)

  pub goes_so : (how : Option Hindrance) → Ran k old r.safe c how new → GoesAs has has_stopped how r (committed book r p) new
  goes_so None (ready, made, ran) =
      let was = prepares old ready None r up h made.prepared in
      commits ready new c None book r p (made.at (safe_found r) at) made.running made.is_prepared follows was.1 same was.0 of_p ran
  goes_so (Some DiskFault) (inl met) = absurd ((prepares old new (Some keeps.DiskFault) r up h met).2 refl)
  goes_so (Some DiskFault) (inr (ready, made, ran)) =
      let was = prepares old ready None r up h made.prepared in
      commits ready new c (Some keeps.DiskFault) book r p (made.at (safe_found r) at) made.running made.is_prepared follows was.1 same was.0 of_p ran
  goes_so (Some NoMemory) (inl is) = stays_so is
  goes_so (Some NoMemory) (inr (inl wanted)) = let was = prepares old new (Some keeps.NoMemory) r up h wanted in (was.0, was.1)
  goes_so (Some NoMemory) (inr (inr made)) = let was = prepares old new None r up h made in (was.0, was.1)
  goes_so (Some Full) is = stays_so is
  goes_so (Some Failed) is = stays_so is
  goes_so (Some Down) is = stays_so is
