-- What a text that was read gives.
use Rattle.std.proofs.Common.{◌≡◌, ◌⊎◌, inl, inr, ℕ, ◌+◌, ◌<◌, ◌≤◌, Bool, true, false, cond, List, [], length, take, drop, Option, Some, None, Result, Ok, Err, refl, sym, ap, ◌∙◌, subst, arith, take_all}
use Rattle.std.specs.Prelude.{IfSome, OnOk, OnErr, nat_lt}
use Rattle.std.proofs.lemmas.Bool.{cases_lt}
use Rattle.std.proofs.lemmas.Bool.Decides.{nat_tests}
use Rattle.std.proofs.lemmas.List.{length-take, drop_all}
use Rattle.adr_io.specs.Told.{Adds, AddsFront}
use Rattle.adr_io.specs.declared.Fault.{Fault}
use Rattle.adr_io.specs.declared.Fault.TheVariants.{Failed, NoMemory}
use Rattle.adr_answers.proofs.Due.{none_added}
use Rattle.adr_schedule.specs.declared.fault.Cause.TheVariants.{TooLong}
use Rattle.adr_schedule.specs.Limits.{text_limit}
use Rattle.adr_schedule.specs.Lines.{lines_of}
use Rattle.adr_schedule.specs.Seen.{nothing_seen}
use Rattle.adr_call.specs.declared.event.Event.{Event}
use Rattle.adr_schedule.specs.declared.fault.ScheduleFault.{ScheduleFault}
use Rattle.adr_schedule.specs.Events.{events_of, events_from, bad}
use Rattle.adr_schedule.proofs.ScheduleLaws.{read_texts, schedules_read, refused_texts, faults_refused}
use Rattle.adr_run_replay.specs.Outcome.{Gives, TextsGiveOne, ended}
use Rattle.adr_run_replay.specs.Walked.{outcome, outcome_of}

is_lt : (m n : ℕ) → m < n → nat_lt m n ≡ true
is_lt m n h = grind (arith, nat_tests)

-- one byte more than the limit is enough to tell that a text is too long
cut : {X : Type 0} (limit : ℕ) (text : List ℕ) (x : X) (f : List ℕ → X)
    → cond (nat_lt limit (length (take (limit + 1) text))) x (f (take (limit + 1) text)) ≡ cond (nat_lt limit (length text)) x (f text)
cut limit text x f =
    elim (cases_lt limit (length text)) [
      | inl h ↦ let size : length (take (limit + 1) text) ≡ limit + 1 = omega (arith, length-take (limit + 1) text) in
          rw (is_lt limit (length text) h, is_lt limit (length (take (limit + 1) text)) (omega arith)) refl
      | inr h ↦ let all : take (limit + 1) text ≡ text = take_all (limit + 1) text (omega arith) in rw all refl
    ]

-- the first bytes tell as much as all do
outcome_front : (text : List ℕ) → outcome (take (text_limit + 1) text) ≡ outcome text
unfolding outcome events_of
outcome_front text = ap outcome_of (cut text_limit text (bad 0 TooLong) (λ t. events_from nothing_seen 1 (lines_of t)))

-- what the bytes that were read give is what the text gives
at_text : (P : ℕ × List ℕ → Type 0) (left : Option (List ℕ)) (bytes : List ℕ) → IfSome left (λ text. bytes ≡ take (text_limit + 1) text) → P (outcome bytes) → IfSome left (λ text. P (outcome text))
at_text P None bytes read p = tt
at_text P (Some text) bytes read p = subst P (ap outcome read ∙ outcome_front text) p

-- a status that is no fault's is the one that was handed in, and the writes succeeded
no_fault : {P Q : Type 0} (r status : ℕ) (written : Result (Unit {0}) Fault) → r ≡ ended status written → (r ≡ 0) ⊎ (r ≡ 3) → OnOk written P → (r ≡ status → P → Q) → Q
no_fault r status (Ok done) is h p f = f is p
no_fault r status (Err Failed) is h p f = absurd (elim h [ inl e ↦ omega arith | inr e ↦ omega arith ])
no_fault r status (Err NoMemory) is h p f = absurd (elim h [ inl e ↦ omega arith | inr e ↦ omega arith ])

-- a fault's status comes from a write
a_fault : {P : Type 0} (r status : ℕ) (written : Result (Unit {0}) Fault) → r ≡ ended status written → (status ≡ 0) ⊎ (status ≡ 3) → (r ≡ 5) ⊎ (r ≡ 8) → OnErr written P → P
a_fault r status (Ok done) is plain h p = absurd (elim h [ inl e ↦ elim plain [ inl z ↦ omega arith | inr z ↦ omega arith ] | inr e ↦ elim plain [ inl z ↦ omega arith | inr z ↦ omega arith ] ])
a_fault r status (Err fault) is plain h p = p

pub told_status : (left : Option (List ℕ)) (bytes : List ℕ) (r status : ℕ) (written : Result (Unit {0}) Fault) → IfSome left (λ text. bytes ≡ take (text_limit + 1) text) → r ≡ ended status written
    → OnOk written (status ≡ (outcome bytes).0) → (r ≡ 0) ⊎ (r ≡ 3) → IfSome left (λ text. r ≡ (outcome text).0)
told_status left bytes r status written read is ok h =
    no_fault r status written is h ok (λ same s. at_text (λ x. r ≡ x.0) left bytes read (same ∙ s))

pub told_written : (left before after : Option (List ℕ)) (bytes : List ℕ) (r status : ℕ) (written : Result (Unit {0}) Fault) → IfSome left (λ text. bytes ≡ take (text_limit + 1) text) → r ≡ ended status written
    → OnOk written (Adds before after (outcome bytes).1) → (r ≡ 0) ⊎ (r ≡ 3) → IfSome left (λ text. Adds before after (outcome text).1)
told_written left before after bytes r status written read is ok h =
    no_fault r status written is h ok (λ same a. at_text (λ x. Adds before after x.1) left bytes read a)

pub told_front : (left before after : Option (List ℕ)) (bytes : List ℕ) (r status : ℕ) (written : Result (Unit {0}) Fault) → IfSome left (λ text. bytes ≡ take (text_limit + 1) text) → r ≡ ended status written
    → (status ≡ 0) ⊎ (status ≡ 3) → OnErr written (AddsFront before after (outcome bytes).1) → (r ≡ 5) ⊎ (r ≡ 8) → IfSome left (λ text. AddsFront before after (outcome text).1)
told_front left before after bytes r status written read is plain err h =
    at_text (λ x. AddsFront before after x.1) left bytes read (a_fault r status written is plain h err)

-- a text that is a schedule isn't too long
not_long : (b : Bool) (text : List ℕ) → nat_lt text_limit (length text) ≡ b → (outcome_of (cond b (bad 0 TooLong) (events_from nothing_seen 1 (lines_of text)))).0 ≡ 0 → length text ≤ text_limit + 1
not_long true text long zero = absurd (omega arith)
not_long false text short zero = grind (arith, nat_tests)

short_text : (text : List ℕ) → (outcome text).0 ≡ 0 → length text ≤ text_limit + 1
unfolding outcome events_of
short_text text zero = not_long (nat_lt text_limit (length text)) text refl zero

-- with 0 the source is at its end
pub told_end : (left after : Option (List ℕ)) (r : ℕ) → IfSome left (λ text. r ≡ (outcome text).0) → IfSome left (λ text. after ≡ Some (drop (text_limit + 1) text)) → r ≡ 0 → IfSome left (λ text. after ≡ Some [])
told_end None after r status rest zero = tt
told_end (Some text) after r status rest zero = rest ∙ ap Some (drop_all (text_limit + 1) text (short_text text (sym status ∙ zero)))

-- the walk finds what the grammar says
pub outcome_given : (text : List ℕ) → Gives text (outcome text).0 (outcome text).1
unfolding outcome
outcome_given text = by (events_of text) refl
  where
    by : (t : Result (List Event) ScheduleFault) → events_of text ≡ t → Gives text (outcome_of t).0 (outcome_of t).1
    by (Ok es) is = inl (es, read_texts text es is, refl, refl)
    by (Err fault) is = inr (fault, refused_texts text fault is, refl, refl)

-- and the grammar says nothing else
given_is : (text : List ℕ) (status : ℕ) (written : List ℕ) → Gives text status written → (status ≡ (outcome text).0) × (written ≡ (outcome text).1)
unfolding outcome
given_is text status written (inl t) =
    let e = sym (ap outcome_of (schedules_read text t.0 t.1)) in
    (t.2 ∙ ap (λ (x : ℕ × List ℕ). x.0) e, t.3 ∙ ap (λ (x : ℕ × List ℕ). x.1) e)
given_is text status written (inr t) =
    let e = sym (ap outcome_of (faults_refused text t.0 t.1)) in
    (t.2 ∙ ap (λ (x : ℕ × List ℕ). x.0) e, t.3 ∙ ap (λ (x : ℕ × List ℕ). x.1) e)

pub texts_give_one : TextsGiveOne
texts_give_one text = ((outcome text).0, (outcome text).1, outcome_given text, given_is text)

pub told_given : (left before after : Option (List ℕ)) (r : ℕ) → IfSome left (λ text. r ≡ (outcome text).0) → IfSome left (λ text. Adds before after (outcome text).1)
    → IfSome left (λ text. (given : List ℕ) × Gives text r given × Adds before after given)
told_given None before after r status written = tt
told_given (Some text) before after r status written =
    ((outcome text).1, subst (λ (n : ℕ). Gives text n (outcome text).1) (sym status) (outcome_given text), written)

pub told_given_front : (left before after : Option (List ℕ)) → IfSome left (λ text. AddsFront before after (outcome text).1)
    → IfSome left (λ text. (status : ℕ) × (given : List ℕ) × Gives text status given × AddsFront before after given)
told_given_front None before after front = tt
told_given_front (Some text) before after front = ((outcome text).0, (outcome text).1, outcome_given text, front)

-- where nothing was added, that is a front of what the text gives
pub nothing_told : (left told : Option (List ℕ)) → IfSome left (λ text. (status : ℕ) × (given : List ℕ) × Gives text status given × AddsFront told told given)
nothing_told None told = tt
nothing_told (Some text) told = ((outcome text).0, (outcome text).1, outcome_given text, none_added told (outcome text).1)
