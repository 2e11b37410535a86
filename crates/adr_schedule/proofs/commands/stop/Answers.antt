use Rattle.std.proofs.Common.{◌≡◌, ℕ, List, length, Option, Some, None, refl}
use Rattle.std.proofs.lemmas.Bool.{eq-eqb, ne_eqb}
use Rattle.adr_disk.specs.declared.memory.Crash.{Crash}
use Rattle.adr_call.specs.declared.event.Event.{Event}
use Rattle.adr_call.specs.declared.event.Event.TheVariants.{Meets}
use Rattle.adr_call.specs.declared.event.Meeting.TheVariants.{Stop, StopAfter}
use Rattle.adr_call.specs.declared.verb.Verb.TheVariants as verbs
use Rattle.adr_token.specs.Gives.{Reading, ◌>>=◌}
use Rattle.adr_token.specs.Words.{ended, name_at, unspaced}
use Rattle.adr_schedule.specs.Forms.{calls_at, crash_at, line_by}
use Rattle.adr_schedule.specs.Commands.{by_verb, stop_after, stopped}
use Rattle.adr_schedule.proofs.commands.stop.Goals as goal

-- what is read of a plan, and what is made of it
abbrev plan_of : ℕ → Crash × List ℕ → Reading (Option (ℕ × Crash))
plan_of calls how = Some (Some (calls, how.0), how.1)

abbrev plan_made : List ℕ → Option (ℕ × Crash) × List ℕ → Option Event
plan_made name plan = ended plan.1 (Meets name (stopped plan.0))

abbrev stop_made : List ℕ → ℕ → Crash × List ℕ → Option Event
stop_made name calls how = ended how.1 (Meets name (StopAfter calls how.0))

how_read : (name : List ℕ) (calls : ℕ) (how : Reading Crash) → ((how >>= plan_of calls) >>= plan_made name) ≡ (how >>= stop_made name calls)
how_read name calls None = refl
how_read name calls (Some how) = refl

plan_read : (name : List ℕ) (calls : Reading ℕ)
    → ((calls >>= λ calls. crash_at calls.1 >>= plan_of calls.0) >>= plan_made name) ≡ (calls >>= λ calls. crash_at calls.1 >>= stop_made name calls.0)
plan_read name None = refl
plan_read name (Some calls) = how_read name calls.0 (crash_at calls.1)

-- before the end of the line
planned : (bytes name rest : List ℕ) → name_at bytes ≡ Some (name, rest) → (length (unspaced rest) ≡ 0 → ⊥) → by_verb verbs.Stop bytes ≡ stop_after name rest
unfolding line_by stop_after
planned bytes name rest named more = rw (named, ne_eqb (length (unspaced rest)) 0 more) (plan_read name (calls_at rest))

-- at its end
at_once : (bytes name rest : List ℕ) → name_at bytes ≡ Some (name, rest) → length (unspaced rest) ≡ 0 → by_verb verbs.Stop bytes ≡ Some (Meets name Stop)
unfolding line_by
at_once bytes name rest named none = let ends = eq-eqb (length (unspaced rest)) 0 none in rw (named, ends, ends) refl

pub returns-then-not-is_ended : goal.returns-then-not-is_ended
returns-then-not-is_ended c =
    rw (planned c.args.line.now c.in_ok-name.name c.name.new.self c.in_ok-name.ensures.reading (λ none. let ended = c.is_ended.ensures.1 none in let more = c.if-not-is_ended.true in absurd (cc)))
    c.stop_after.ensures

pub returns : goal.returns
returns c = at_once c.args.line.now c.in_ok-name.name c.name.new.self c.in_ok-name.ensures.reading (c.is_ended.ensures.0 c.if-not-is_ended.false)
