-- Refusals that don't come in a sound world.
use Rattle.std.proofs.Common.{◌≡◌, ◌≢◌, inl, List, refl, ap, ◌∙◌, ℕ, Bool, true, false, ◌||◌, ◌==◌, Option, Some, Err}
use Rattle.std.proofs.lemmas.Bool.{or_parts, not-true}
use Rattle.adr_values.specs.declared.stamp.Oid.{Oid}
use Rattle.adr_values.specs.Vector.{at_most}
use Rattle.adr_call.specs.declared.answer.Answer.{Answer}
use Rattle.adr_call.specs.declared.outcome.Outcome.{Outcome}
use Rattle.adr_call.specs.declared.outcome.Outcome.TheVariants as outcomes
use Rattle.adr_call.specs.declared.event.Event.{Event}
use Rattle.adr_call.specs.declared.refusal.ItemFault.{ItemFault}
use Rattle.adr_call.specs.declared.refusal.ServeRefusal.{ServeRefusal}
use Rattle.adr_call.specs.declared.refusal.ServeRefusal.TheVariants as serves
use Rattle.adr_call.specs.declared.refusal.TakeRefusal.{TakeRefusal}
use Rattle.adr_call.specs.declared.refusal.TakeRefusal.TheVariants as takes
use Rattle.adr_model.specs.Cycles.{pull_version}
use Rattle.adr_model.specs.Member.{Each}
use Rattle.adr_model.specs.Serve.{Request, Reply}
use Rattle.adr_model.specs.Refused.{serve_refused, take_refused}
use Rattle.adr_model.specs.World.{Name, World, bound_at, asks, serves_request, delivers}
use Rattle.adr_model.specs.Step.{step}
use Rattle.adr_model.specs.Sound.{IsSoundRequest, IsSoundReply, IsSoundWorld}
use Rattle.adr_model.specs.Convergence.{MayHappen, IsRefused, IsPurgedCovered, NoDamage, NeverTooOld}
use Rattle.adr_law_calls.proofs.GrantedSoundly.{no_rollback}
use Rattle.adr_law_calls.proofs.Refused.{no_rollback as reply_shows_no_rollback, no_broken_item, no_incomplete_item}
use Rattle.adr_law_convergence.proofs.Found.{bound_member}
use Rattle.adr_law_convergence.proofs.Refusals.{number, refused_by_number, is_grave, IsPlain}
use Rattle.adr_law_convergence.proofs.RefusalsServed.{is_for_age, not_too_old}
use Rattle.adr_law_convergence.proofs.RefusalsPlain.{asked}
use Rattle.adr_law_convergence.proofs.RefusalsSpared.{serves_so, takes_so, spared}
use Rattle.adr_law_convergence.proofs.Binding.{IsRequest, IsReply, only_made}
use Rattle.adr_law_convergence.proofs.Exchanges.{IsKeptByCalls, goes_so}
use Rattle.adr_law_convergence.proofs.Stepping.{calls_sound}
use Rattle.adr_law_convergence.proofs.CoveredEvents.{CoversPurged, calls_covered}

-- ---- numbers that no plain outcome has

abbrev IsFree : (ℕ → Bool) → Outcome → Type 0
IsFree test o = test (number o) ≡ false

plain_is_free : (test : ℕ → Bool) → test 0 ≡ false → ((n : ℕ) → is_grave n ≡ false → test n ≡ false) → (o : Outcome) → IsPlain o → IsFree test o
plain_is_free test zero grave (outcomes.Refused n label fields) plain = grave n (not-true (is_grave n) plain)
plain_is_free test zero grave _ plain = zero

free_is_not : (test : ℕ → Bool) (n : ℕ) (o : Outcome) → test n ≡ true → IsFree test o → IsRefused n o → ⊥
free_is_not test n o set free is = let same : test (number o) ≡ test n = ap test (refused_by_number n o is) in cc

-- ---- too old

abbrev is_age : ℕ → Bool
is_age n = n == 32

request_not_for_age : (x : ServeRefusal) → is_for_age x ≡ false → is_age (number (serve_refused x)) ≡ false
request_not_for_age (serves.TooOld inv purged has) e = absurd (cc)
request_not_for_age _ e = refl

reply_not_for_age : (x : TakeRefusal) → is_age (number (take_refused x)) ≡ false
reply_not_for_age takes.Quarantined = refl
reply_not_for_age _ = refl

age_is_grave : (o : Outcome) → IsPlain o → IsFree is_age o
age_is_grave = plain_is_free is_age refl (λ n plain. (or_parts (n == 32) ((n == 33) || ((n == 43) || (n == 44))) plain).0)

served_young : (w : World) (name : Name) (o : Option Request) → ((q : Request) → o ≡ Some q → CoversPurged w q) → IsFree is_age (serves_request w name o).1
served_young w name o covers = serves_so (IsFree is_age) age_is_grave w name o
    (λ r there q is x refused. request_not_for_age x (not_too_old r.safe q w.time x (covers q is r.safe.store (inl (r, there, inl refl))) refused))

taken_young : (w : World) (name : Name) (o : Option Reply) → IsFree is_age (delivers w name o).1
taken_young w name o = takes_so (IsFree is_age) age_is_grave w name o (λ r there p is x refused. reply_not_for_age x)

young_calls : IsKeptByCalls IsPurgedCovered CoversPurged (λ w r. Unit {0}) (IsFree is_age)
young_calls = calls_covered (IsFree is_age) (λ w name partner max. age_is_grave (asks w name partner max pull_version).1 (asked w name partner max pull_version)) (λ w name q covers. served_young w name (Some q) (only_made (CoversPurged w) q covers)) (λ w name r. taken_young w name (Some r)) refl

pub never_too_old : NeverTooOld
never_too_old w e sound may covered a m = free_is_not is_age 32 a.outcome refl
    (spared (IsFree is_age) age_is_grave w (λ usn. refl) (λ name request. served_young w name (bound_at w.requests request) (λ q is s of. bound_member (λ (p : Request). at_most s.purged p.vector ≡ true) w.requests request q (covered.requests s of) is))
    (λ name reply. taken_young w name (bound_at w.replies reply))
    (λ name what. (goes_so IsPurgedCovered CoversPurged (λ v r. Unit {0}) (IsFree is_age) young_calls (λ n d f. refl) name what w covered).1) (λ i n. (sound.images i n).formed) e may a m)

-- ---- damage

abbrev is_damage : ℕ → Bool
is_damage n = (n == 33) || ((n == 43) || (n == 44))

request_finds_none : (x : ServeRefusal) → ((inv : List ℕ) (mine shown : ℕ) → x ≢ serves.RolledBack inv mine shown) → is_damage (number (serve_refused x)) ≡ false
request_finds_none (serves.RolledBack inv mine shown) other = absurd (other inv mine shown refl)
request_finds_none _ other = refl

-- what a sound reply isn't refused for
pub record IsHarmless (x : TakeRefusal) : Type 0 where
  pub rollback : (inv : List ℕ) (mine shown : ℕ) → x ≢ takes.RolledBack inv mine shown
  pub broken : (place : ℕ) (cause : ItemFault) → x ≢ takes.BadItem place cause
  pub incomplete : (o : Oid) → x ≢ takes.Incomplete o

reply_finds_none : (x : TakeRefusal) → IsHarmless x → is_damage (number (take_refused x)) ≡ false
reply_finds_none (takes.RolledBack inv mine shown) other = absurd (other.rollback inv mine shown refl)
reply_finds_none (takes.BadItem place cause) other = absurd (other.broken place cause refl)
reply_finds_none (takes.Incomplete o) other = absurd (other.incomplete o refl)
reply_finds_none _ other = refl

damage_is_grave : (o : Outcome) → IsPlain o → IsFree is_damage o
damage_is_grave = plain_is_free is_damage refl (λ n plain. (or_parts (n == 32) ((n == 33) || ((n == 43) || (n == 44))) plain).1)

module _ (w : World) (sound : IsSoundWorld w) where
  served_harmless : (name : Name) (o : Option Request) → ((q : Request) → o ≡ Some q → IsSoundRequest w.book q) → IsFree is_damage (serves_request w name o).1
  served_harmless name o all = serves_so (IsFree is_damage) damage_is_grave w name o
      (λ r there q is x refused. request_finds_none x (λ inv mine shown same. no_rollback w.book r.safe q w.time inv mine shown (sound.replicas r there).safe (all q is) (refused ∙ ap Err same)))

  taken_harmless : (name : Name) (o : Option Reply) → ((p : Reply) → o ≡ Some p → IsSoundReply w.book p) → IsFree is_damage (delivers w name o).1
  taken_harmless name o all = takes_so (IsFree is_damage) damage_is_grave w name o (λ r there p is x refused. reply_finds_none x (record {
    rollback = λ inv mine shown same. reply_shows_no_rollback w.book r.safe p inv mine shown sound.book (sound.replicas r there).safe (all p is) (refused ∙ ap Err same);
    broken = λ place cause same. no_broken_item w.book r.safe p place cause sound.book (sound.replicas r there).safe (all p is) (refused ∙ ap Err same);
    incomplete = λ o same. no_incomplete_item w.book r.safe p o sound.book (sound.replicas r there).safe (all p is) (refused ∙ ap Err same);
  }))

harmless_calls : IsKeptByCalls IsSoundWorld IsRequest IsReply (IsFree is_damage)
harmless_calls = calls_sound (IsFree is_damage) (λ w name partner max sound. damage_is_grave (asks w name partner max pull_version).1 (asked w name partner max pull_version))
    (λ w name q sound is. served_harmless w sound name (Some q) (only_made (IsSoundRequest w.book) q is)) (λ w name r sound is. taken_harmless w sound name (Some r) (only_made (IsSoundReply w.book) r is)) refl

unharmed : (w : World) → IsSoundWorld w → (e : Event) → MayHappen w e → Each (λ (a : Answer). IsFree is_damage a.outcome) (step w e).1
unharmed w sound e may = spared (IsFree is_damage) damage_is_grave w (λ usn. refl)
    (λ name request. served_harmless w sound name (bound_at w.requests request) (λ q is. bound_member (IsSoundRequest w.book) w.requests request q sound.requests is))
    (λ name reply. taken_harmless w sound name (bound_at w.replies reply) (λ p is. bound_member (IsSoundReply w.book) w.replies reply p sound.replies is))
    (λ name what. (goes_so IsSoundWorld IsRequest IsReply (IsFree is_damage) harmless_calls (λ n d f. refl) name what w sound).1) (λ i m. (sound.images i m).formed) e may

pub no_damage : NoDamage
no_damage w e sound may = (
  λ a m. free_is_not is_damage 33 a.outcome refl (unharmed w sound e may a m),
  (λ a m. free_is_not is_damage 43 a.outcome refl (unharmed w sound e may a m), λ a m. free_is_not is_damage 44 a.outcome refl (unharmed w sound e may a m)),
)
