-- Which outcomes are plain: no write is acknowledged, and no refusal is one that never comes in a sound world.
use Rattle.std.proofs.Common.{◌≡◌, ℕ, Bool, true, false, not, ◌||◌, ◌==◌, refl, ap}
use Rattle.adr_values.specs.declared.refusal.SchemaRefusal.{SchemaRefusal}
use Rattle.adr_values.specs.declared.refusal.SchemaRefusal.TheVariants.{UnknownClass}
use Rattle.adr_call.specs.declared.outcome.Outcome.{Outcome}
use Rattle.adr_call.specs.declared.outcome.Outcome.TheVariants as outcomes
use Rattle.adr_call.specs.declared.report.Report.{Report}
use Rattle.adr_call.specs.declared.report.Report.TheVariants as reports
use Rattle.adr_call.specs.declared.refusal.WriteRefusal.{WriteRefusal}
use Rattle.adr_call.specs.declared.refusal.WriteRefusal.TheVariants as writes
use Rattle.adr_call.specs.declared.refusal.CollectRefusal.{CollectRefusal}
use Rattle.adr_call.specs.declared.refusal.CollectRefusal.TheVariants as collects
use Rattle.adr_call.specs.declared.refusal.UpgradeRefusal.{UpgradeRefusal}
use Rattle.adr_call.specs.declared.refusal.UpgradeRefusal.TheVariants as upgrades
use Rattle.adr_call.specs.declared.refusal.AdoptRefusal.{AdoptRefusal}
use Rattle.adr_call.specs.declared.refusal.AdoptRefusal.TheVariants as adopts
use Rattle.adr_model.specs.Store.{State}
use Rattle.adr_model.specs.Refused.{schema_refused, write_refused, collect_refused, adopt_refused, upgrade_refused}
use Rattle.adr_disk.specs.declared.memory.Mishap.TheVariants.{Fails, Stops}
use Rattle.adr_model.specs.Replica.{Went, Passed, Met, outcome_after}
use Rattle.adr_model.specs.World.{World, reported}
use Rattle.adr_model.specs.Convergence.{IsRefused}

-- the number of a refusal, or 0
abbrev pub number : Outcome → ℕ
number (outcomes.Refused n label fields) = n
number _ = 0

pub refused_by_number : (n : ℕ) (o : Outcome) → IsRefused n o → number o ≡ n
refused_by_number n o is = ap number is.2

-- the refusals of one that was put back or is too far behind, and of a broken or incomplete item
abbrev pub is_grave : ℕ → Bool
is_grave n = (n == 32) || ((n == 33) || ((n == 43) || (n == 44)))

abbrev pub is_plain : Outcome → Bool
is_plain (outcomes.Usn usn) = false
is_plain (outcomes.Refused n label fields) = not (is_grave n)
is_plain _ = true

abbrev pub IsPlain : Outcome → Type 0
IsPlain o = is_plain o ≡ true

schema_refused_plainly : (x : SchemaRefusal) → IsPlain (schema_refused x)
schema_refused_plainly UnknownClass = refl
schema_refused_plainly _ = refl

pub write_refused_plainly : (x : WriteRefusal) → IsPlain (write_refused x)
write_refused_plainly (writes.Schema x) = schema_refused_plainly x
write_refused_plainly _ = refl

pub collect_refused_plainly : (x : CollectRefusal) → IsPlain (collect_refused x)
collect_refused_plainly collects.Quarantined = refl
collect_refused_plainly _ = refl

pub upgrade_refused_plainly : (x : UpgradeRefusal) → IsPlain (upgrade_refused x)
upgrade_refused_plainly upgrades.Quarantined = refl
upgrade_refused_plainly _ = refl

pub adopt_refused_plainly : (x : AdoptRefusal) → IsPlain (adopt_refused x)
adopt_refused_plainly adopts.IdentifierUsed = refl
adopt_refused_plainly _ = refl

pub reported_plainly : (w : World) (s : State) (what : Report) → IsPlain (reported w s what)
reported_plainly w s reports.Directory = refl
reported_plainly w s _ = refl

-- how device calls go adds plain outcomes only
pub after_calls : (P : Outcome → Type 0) → ((o : Outcome) → IsPlain o → P o) → (o : Outcome) → P o → (g : Went) → P (outcome_after g o)
after_calls P plain o is (Passed left) = is
after_calls P plain o is (Met place (Stops how)) = plain outcomes.Stopped refl
after_calls P plain o is (Met place Fails) = plain outcomes.Disk refl
