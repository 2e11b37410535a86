-- What was collected stays covered by every line that may happen and keeps it so.
use Rattle.std.proofs.Common.{◌≡◌, ℕ, true, Some, sym, subst}
use Rattle.adr_values.specs.Vector.{at_most}
use Rattle.adr_call.specs.declared.outcome.Outcome.{Outcome}
use Rattle.adr_call.specs.declared.outcome.Outcome.TheVariants as outcomes
use Rattle.adr_call.specs.declared.event.Event.{Event}
use Rattle.adr_call.specs.declared.event.Event.TheVariants as events
use Rattle.adr_model.specs.Store.{Store}
use Rattle.adr_model.specs.Serve.{Request, Reply}
use Rattle.adr_model.specs.World.{Name, World, asks, serves_request, delivers, reported}
use Rattle.adr_model.specs.Cycles.{pulls, pull_version}
use Rattle.adr_model.specs.Step.{step}
use Rattle.adr_model.specs.Convergence.{MayHappen, IsStoreOf, IsPurgedCovered, KeepsCovered, StaysCovered}
use Rattle.adr_law_convergence.proofs.Exchanges.{IsKeptByCalls, pulls_so, goes_so, way_case}
use Rattle.adr_law_convergence.proofs.Covered.{grown_covers, purged_covered}
use Rattle.adr_law_convergence.proofs.CoveredSteps.{asked, serves_covered, delivers_covered, asked_covered, meets_covered, reports_covered, comes_covered, makes_covered, uses_covered}

-- ---- pulls

-- a request covers what was collected anywhere
abbrev pub CoversPurged : World → Request → Type 0
CoversPurged w q = (s : Store) → IsStoreOf w s → at_most s.purged q.vector ≡ true

-- the calls of a pull keep it so, by what holds of their answers
pub calls_covered : (P : Outcome → Type 0) → ((w : World) (name partner : Name) (max : ℕ) → P (asks w name partner max pull_version).1) → ((w : World) (name : Name) (q : Request) → CoversPurged w q → P (serves_request w name (Some q)).1)
    → ((w : World) (name : Name) (r : Reply) → P (delivers w name (Some r)).1) → P outcomes.More → IsKeptByCalls IsPurgedCovered CoversPurged (λ w r. Unit {0}) P
calls_covered P asking serving delivering more = record {
  asks = λ w name partner max covered. let makes = asked w covered name partner max pull_version in
      (subst IsPurgedCovered (sym makes.0) covered, (asking w name partner max, λ q e. subst (λ (v : World). CoversPurged v q) (sym makes.0) (λ s m. grown_covers w s.purged q.vector (purged_covered w covered s m) (makes.1 q e))));
  serves = λ w name q covered is. (serves_covered w covered name (Some q), (serving w name q is, λ r e. tt));
  delivers = λ w name r covered is. (delivers_covered w covered name (Some r), delivering w name r);
  more = more;
}

only_worlds : IsKeptByCalls IsPurgedCovered CoversPurged (λ w r. Unit {0}) (λ o. Unit {0})
only_worlds = calls_covered (λ o. Unit {0}) (λ w name partner max. tt) (λ w name q is. tt) (λ w name r. tt) tt

pulls_covered : (w : World) → IsPurgedCovered w → (dest source : Name) (max n : ℕ) → IsPurgedCovered (pulls n w dest source max).0
pulls_covered w covered dest source max n = (pulls_so IsPurgedCovered CoversPurged (λ v r. Unit {0}) (λ o. Unit {0}) only_worlds dest source max n w covered).0

-- ---- lines

event_covered : (w : World) (covered : IsPurgedCovered w) (e : Event) → MayHappen w e → KeepsCovered w e → (step w e).0.clean ≡ true → IsPurgedCovered (step w e).0
event_covered w covered (events.Time now) may keeps clean = record { stores = covered.stores; requests = covered.requests }
event_covered w covered (events.Comes name inv how) may keeps clean = comes_covered w covered name inv how keeps
event_covered w covered (events.Calls name what) may keeps clean = asked_covered w covered name what keeps
event_covered w covered (events.Uses name what bind) may keeps clean = uses_covered w covered name bind what clean
event_covered w covered (events.Binds name what bind) may keeps clean = makes_covered w covered name bind what
event_covered w covered (events.Asks name what) may keeps clean = reports_covered w covered name (λ r. reported w r.safe what)
event_covered w covered (events.Goes name what) may keeps clean = (goes_so IsPurgedCovered CoversPurged (λ v r. Unit {0}) (λ o. Unit {0}) only_worlds (λ n d e. tt) name what w covered).0
event_covered w covered (events.Meets name what) may keeps clean = meets_covered w covered name what

-- what was collected is still covered
pub stays_covered : StaysCovered
stays_covered w e sound may covered keeps v way = way_case IsPurgedCovered (λ (x : World). x.clean ≡ true → IsPurgedCovered x) w e covered (λ x name source max n is. pulls_covered x is name source max n) (λ x is clean. is) (event_covered w covered e may keeps) v way
