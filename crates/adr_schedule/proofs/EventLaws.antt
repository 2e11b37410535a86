-- A line that spells an event says that event, and what a line said is spelled there.
use Rattle.std.proofs.Common.{◌≡◌, ℕ, true, List, [], Option, Some, None, refl, sym, ap, subst, ◌∙◌, inl, inr}
use Rattle.std.specs.Str.{bytes_eq}
use Rattle.adr_values.specs.Assignments.{Given}
use Rattle.adr_call.specs.declared.write.Write.TheVariants.{Add, Modify, Rename, Delete, Link, Unlink}
use Rattle.adr_call.specs.declared.report.Report.TheVariants.{Directory, Vector, Marks, Meta}
use Rattle.adr_call.specs.declared.event.Event.{Event}
use Rattle.adr_call.specs.declared.call.Call.TheVariants.{Write, Collect, Upgrade}
use Rattle.adr_call.specs.declared.event.Event.TheVariants.{Time, Comes, Calls, Uses, Binds, Asks, Goes, Meets}
use Rattle.adr_call.specs.declared.event.Coming.TheVariants.{Fresh, Installed, Restored}
use Rattle.adr_call.specs.declared.event.Use.TheVariants.{Deliver, Revive, Rollback}
use Rattle.adr_call.specs.declared.event.Made.TheVariants.{Ask, Serve, Backup, Snapshot}
use Rattle.adr_call.specs.declared.event.Exchange.TheVariants.{Pull, Cycle, Ring}
use Rattle.adr_call.specs.declared.event.Meeting.TheVariants.{Stop, Start, StopAfter, Fail}
use Rattle.adr_call.specs.Verbs.{verb_of, word_of}
use Rattle.adr_call.specs.declared.verb.Verb.{Verb}
use Rattle.adr_call.specs.declared.verb.Verb.TheVariants as verbs
use Rattle.adr_token.specs.Gives.{◌>>=◌}
use Rattle.adr_token.specs.Words.{unspaced, word_at}
use Rattle.adr_token.proofs.Lists.{found}
use Rattle.adr_token.proofs.WordLaws.{bind_some}
use Rattle.adr_schedule.specs.Sets.{rising}
use Rattle.adr_schedule.specs.Verbs.{verb_said, verbs as all_verbs}
use Rattle.adr_schedule.specs.Forms.{Read, line_by}
use Rattle.adr_schedule.specs.Commands.{by_verb, event_of, form_of}
use Rattle.adr_schedule.specs.Grammar.{Word, given_by, tokens_behind, version_words, IsNext, AreSpelled, HasLine, IsVersion, Spells, SpelledLinesAreRead, LinesSpellOneEvent, LinesWereSpelled}
use Rattle.adr_schedule.proofs.FormLaws.{IsVersionAt, Stand, form_read, form_was}
use Rattle.adr_schedule.proofs.VerbLaws.{verb_read}
use Rattle.adr_schedule.proofs.RisingLemmas.{rising_from}
use Rattle.adr_schedule.proofs.TokenLaws.{word_next}

-- behind the verb of an event its tokens stand, the sets in any order
abbrev IsBehind : List ℕ → Event → Type 0
IsBehind bytes event = HasLine event × ((order : List Given) × (rising order ≡ Some (given_by event)) × AreSpelled (tokens_behind order event) bytes)

-- what is read by the form of a verb
abbrev Parts : Verb → Type 0
Parts verb = Read (form_of verb).kinds

abbrev made_by : (verb : Verb) → Parts verb → Event
made_by verb parts = (form_of verb).make parts

abbrev StandBehind : (verb : Verb) → Parts verb → List ℕ → Type 0
StandBehind verb parts bytes = Stand (form_of verb).kinds parts bytes

-- ---- what was read is spelled

-- a version, at the end of the line
version_spelled : (version : ℕ) (bytes rest : List ℕ) → IsVersionAt version bytes rest → unspaced rest ≡ [] → IsVersion version × AreSpelled (version_words version) bytes
version_spelled version bytes rest (inl h) last =
    (inl h.0, subst (λ (n : ℕ). AreSpelled (version_words n) bytes) (sym h.0) (rest, h.1, last))
version_spelled version bytes rest (inr h) last =
    (inr h.0, subst (λ (n : ℕ). AreSpelled (version_words n) bytes) (sym h.0) h.1.0)

behind_was : (verb : Verb) (parts : Parts verb) (bytes : List ℕ) → StandBehind verb parts bytes → IsBehind bytes (made_by verb parts)
unfolding tokens_behind
behind_was verbs.Add v bytes h =
    let t = h.2.2.2.2 in
    let s = t.2.1.0 in
    (rising_from s.0 v.1.1.1.1.1.0 s.1, (s.0, s.1, (h.0, h.1, (h.2.0, h.2.1, (h.2.2.0, h.2.2.1, (h.2.2.2.0, h.2.2.2.1, (t.0, t.1, s.2)))))))
behind_was verbs.Modify v bytes h =
    let s = h.2.2.1 in
    ((rising_from s.1.0 v.1.1.0 s.1.1, s.0), (s.1.0, s.1.1, (h.0, h.1, (h.2.0, h.2.1, s.1.2))))
behind_was verbs.Ask v bytes h =
    let l = h.2.2 in
    let b = l.2 in
    let says = version_spelled v.1.1.1.1.0 b.0 b.2.0 b.2.1 b.2.2 in
    ((l.1.0, says.0), ([], refl, (h.0, h.1, (h.2.0, h.2.1, (l.0, l.1.1, (b.1.0, b.1.1, (b.0, b.1.2, says.1)))))))
behind_was verbs.Serve v bytes h =
    let b = h.2.2 in
    (tt, ([], refl, (h.0, h.1, (h.2.0, h.2.1, (b.1.0, b.1.1, (b.0, b.1.2, b.2))))))
behind_was verbs.Pull v bytes h = let l = h.2.2 in (l.1.0, ([], refl, (h.0, h.1, (h.2.0, h.2.1, (l.0, l.1.1, l.2)))))
behind_was verbs.Cycle v bytes h = let l = h.2.2 in (l.1.0, ([], refl, (h.0, h.1, (h.2.0, h.2.1, (l.0, l.1.1, l.2)))))
behind_was verbs.Ring v bytes h =
    let l = h.2 in
    let m = l.2.1 in
    ((h.1.0, l.1.0, m.0), ([], refl, (h.0, h.1.1, (l.0, l.1.1, m.1))))
behind_was verbs.Backup v bytes h = let b = h.2 in (tt, ([], refl, (h.0, h.1, (b.1.0, b.1.1, (b.0, b.1.2, b.2)))))
behind_was verbs.Snapshot v bytes h = let b = h.2 in (tt, ([], refl, (h.0, h.1, (b.1.0, b.1.1, (b.0, b.1.2, b.2)))))
behind_was verbs.Stop (name, (None, parts)) bytes h = (tt, ([], refl, (h.0, h.1, h.2.1.0)))
behind_was verbs.Stop (name, (Some plan, parts)) bytes h =
    let p = h.2.1 in
    let a = p.1.1 in
    (p.1.0, ([], refl, (h.0, h.1, (a.0, a.1, (p.0, a.2, (h.2.0, p.2, h.2.2))))))
behind_was verbs.Fail v bytes h =
    let c = h.2 in
    let a = c.1.1 in
    (c.1.0, ([], refl, (h.0, h.1, (a.0, a.1, (c.0, a.2, c.2)))))
behind_was verb v bytes h = (tt, ([], refl, h))

-- an event has the verb that it was read by
its_verb : (verb : Verb) (parts : Parts verb) → verb_of (made_by verb parts) ≡ verb
its_verb verbs.Stop (name, (None, parts)) = refl
its_verb verbs.Stop (name, (Some plan, parts)) = refl
its_verb verb parts = refl

verb_was : (verb : Verb) (line rest : List ℕ) → IsNext (Word (word_of verb)) line rest → (event : Event) → by_verb verb rest ≡ Some event → Spells line event
unfolding line_by
verb_was verb line rest next event h =
    let m = form_was (form_of verb).kinds (form_of verb).make rest event h in
    let b = behind_was verb m.parts rest m.stand in
    let said : IsNext (Word (word_of (verb_of (made_by verb m.parts)))) line rest = subst (λ (v : Verb). IsNext (Word (word_of v)) line rest) (sym (its_verb verb m.parts)) next in
    subst (Spells line) m.makes (b.0, (b.1.0, b.1.1, (rest, said, b.1.2)))

pub lines_spelled : LinesWereSpelled
unfolding event_of
lines_spelled line event h =
    let w = bind_some (word_at line) (λ word. verb_said word.0 >>= λ verb. by_verb verb word.1) event h in
    let v = bind_some (verb_said w.0.0) (λ verb. by_verb verb w.0.1) event w.2 in
    let said = found (λ (verb : Verb). bytes_eq w.0.0 (word_of verb)) (λ verb. true) all_verbs v.0 refl v.1 in
    verb_was v.0 line w.0.1 (word_next (word_of v.0) line w.0 w.1 said.0) event v.2

-- ---- what is spelled is read

-- the parts of an event stand behind its verb
record Stands (event : Event) (bytes : List ℕ) : Type 0 where
  parts : Parts (verb_of event)
  makes : made_by (verb_of event) parts ≡ event
  stand : StandBehind (verb_of event) parts bytes

-- a version's words at the end of the line
record Says (version : ℕ) (bytes : List ℕ) : Type 0 where
  rest : List ℕ
  says : IsVersionAt version bytes rest
  last : unspaced rest ≡ []

version_stands : (version : ℕ) (bytes : List ℕ) → IsVersion version → AreSpelled (version_words version) bytes → Says version bytes
version_stands version bytes (inl e) h =
    let w = subst (λ (n : ℕ). AreSpelled (version_words n) bytes) e h in
    record { rest = w.0; says = inl (e, w.1); last = w.2 }
version_stands version bytes (inr e) h =
    let none = subst (λ (n : ℕ). AreSpelled (version_words n) bytes) e h in
    record { rest = bytes; says = inr (e, (none, refl)); last = none }

behind_stands : (event : Event) (bytes : List ℕ) → IsBehind bytes event → Stands event bytes
unfolding tokens_behind
behind_stands (Time now) bytes h = record { parts = (now, tt); makes = refl; stand = h.1.2 }
behind_stands (Comes name inv (Fresh dsa)) bytes h = record { parts = (name, (dsa, (inv, tt))); makes = refl; stand = h.1.2 }
behind_stands (Comes name inv (Installed dsa image)) bytes h = record { parts = (name, (dsa, (image, (inv, tt)))); makes = refl; stand = h.1.2 }
behind_stands (Comes name inv (Restored image)) bytes h = record { parts = (name, (image, (inv, tt))); makes = refl; stand = h.1.2 }
behind_stands (Calls name (Write (Add guid class parent text values))) bytes h =
    let s = h.1.2 in
    let t = s.2.2.2.2 in
    record {
      parts = (name, (guid, (class, (parent, (text, (values, tt))))));
      makes = refl;
      stand = (s.0, s.1, (s.2.0, s.2.1, (s.2.2.0, s.2.2.1, (s.2.2.2.0, s.2.2.2.1, (t.0, t.1, ([], ((h.1.0, h.1.1, t.2), refl), refl))))));
    }
behind_stands (Calls name (Write (Modify guid values))) bytes h =
    let s = h.1.2 in
    record {
      parts = (name, (guid, (values, tt)));
      makes = refl;
      stand = (s.0, s.1, (s.2.0, s.2.1, ([], (h.0.1, (h.1.0, h.1.1, s.2.2), refl), refl)));
    }
behind_stands (Calls name (Write (Rename guid parent text))) bytes h = record { parts = (name, (guid, (parent, (text, tt)))); makes = refl; stand = h.1.2 }
behind_stands (Calls name (Write (Delete guid))) bytes h = record { parts = (name, (guid, tt)); makes = refl; stand = h.1.2 }
behind_stands (Calls name (Write (Link from attr to))) bytes h = record { parts = (name, (from, (attr, (to, tt)))); makes = refl; stand = h.1.2 }
behind_stands (Calls name (Write (Unlink from attr to))) bytes h = record { parts = (name, (from, (attr, (to, tt)))); makes = refl; stand = h.1.2 }
behind_stands (Calls name (Collect lifetime)) bytes h = record { parts = (name, (lifetime, tt)); makes = refl; stand = h.1.2 }
behind_stands (Calls name Upgrade) bytes h = record { parts = (name, tt); makes = refl; stand = h.1.2 }
behind_stands (Uses name Deliver bound) bytes h = record { parts = (name, (bound, tt)); makes = refl; stand = h.1.2 }
behind_stands (Uses name (Revive guid parent text) bound) bytes h = record { parts = (name, (guid, (bound, (parent, (text, tt))))); makes = refl; stand = h.1.2 }
behind_stands (Uses name Rollback bound) bytes h = record { parts = (name, (bound, tt)); makes = refl; stand = h.1.2 }
behind_stands (Binds name (Ask partner max version) bound) bytes h =
    let s = h.1.2 in
    let m = s.2.2 in
    let v = version_stands version m.2.2.0 h.0.1 m.2.2.2 in
    record {
      parts = (name, (partner, (max, (bound, (version, tt)))));
      makes = refl;
      stand = (s.0, s.1, (s.2.0, s.2.1, (m.0, (h.0.0, m.1), (m.2.2.0, (m.2.0, m.2.1, m.2.2.1), (v.rest, v.says, v.last)))));
    }
behind_stands (Binds name (Serve request) bound) bytes h =
    let s = h.1.2 in
    let b = s.2.2 in
    record { parts = (name, (request, (bound, tt))); makes = refl; stand = (s.0, s.1, (s.2.0, s.2.1, (b.2.0, (b.0, b.1, b.2.1), b.2.2))) }
behind_stands (Binds name Backup bound) bytes h =
    let s = h.1.2 in
    let b = s.2 in
    record { parts = (name, (bound, tt)); makes = refl; stand = (s.0, s.1, (b.2.0, (b.0, b.1, b.2.1), b.2.2)) }
behind_stands (Binds name Snapshot bound) bytes h =
    let s = h.1.2 in
    let b = s.2 in
    record { parts = (name, (bound, tt)); makes = refl; stand = (s.0, s.1, (b.2.0, (b.0, b.1, b.2.1), b.2.2)) }
behind_stands (Asks name Directory) bytes h = record { parts = (name, tt); makes = refl; stand = h.1.2 }
behind_stands (Asks name Vector) bytes h = record { parts = (name, tt); makes = refl; stand = h.1.2 }
behind_stands (Asks name Marks) bytes h = record { parts = (name, tt); makes = refl; stand = h.1.2 }
behind_stands (Asks name (Meta guid)) bytes h = record { parts = (name, (guid, tt)); makes = refl; stand = h.1.2 }
behind_stands (Goes name (Pull source max)) bytes h =
    let s = h.1.2 in
    record { parts = (name, (source, (max, tt))); makes = refl; stand = (s.0, s.1, (s.2.0, s.2.1, (s.2.2.0, (h.0, s.2.2.1), s.2.2.2))) }
behind_stands (Goes name (Cycle source max)) bytes h =
    let s = h.1.2 in
    record { parts = (name, (source, (max, tt))); makes = refl; stand = (s.0, s.1, (s.2.0, s.2.1, (s.2.2.0, (h.0, s.2.2.1), s.2.2.2))) }
behind_stands (Goes name (Ring others rounds max)) bytes h =
    let s = h.1.2 in
    record {
      parts = (rounds, (max, ((name, others), tt)));
      makes = refl;
      stand = (s.0, (h.0.0, s.1), (s.2.0, (h.0.1, s.2.1), ([], (h.0.2, s.2.2, refl), refl)));
    }
behind_stands (Meets name Stop) bytes h =
    let s = h.1.2 in
    record { parts = (name, (None, tt)); makes = refl; stand = (s.0, s.1, (s.0, (s.2, refl), s.2)) }
behind_stands (Meets name Start) bytes h = record { parts = (name, tt); makes = refl; stand = h.1.2 }
behind_stands (Meets name (StopAfter calls how)) bytes h =
    let s = h.1.2 in
    let a = s.2 in
    let c = a.2 in
    record { parts = (name, (Some (calls, how), tt)); makes = refl; stand = (s.0, s.1, (c.2.0, (c.0, (h.0, (a.0, a.1, c.1)), c.2.1), c.2.2)) }
behind_stands (Meets name (Fail calls)) bytes h =
    let s = h.1.2 in
    let a = s.2 in
    record { parts = (name, (calls, tt)); makes = refl; stand = (s.0, s.1, (a.2.0, (h.0, (a.0, a.1, a.2.1)), a.2.2)) }

-- what a line says, behind its verb
behind_read : (event : Event) (rest : List ℕ) → IsBehind rest event → by_verb (verb_of event) rest ≡ Some event
unfolding line_by
behind_read event rest h =
    let s = behind_stands event rest h in
    form_read (form_of (verb_of event)).kinds (form_of (verb_of event)).make s.parts rest s.stand ∙ ap Some s.makes

pub lines_read : SpelledLinesAreRead
lines_read line event h =
    verb_read (verb_of event) line h.1.2.0 h.1.2.1 ∙ behind_read event h.1.2.0 (h.0, (h.1.0, h.1.1, h.1.2.2))

same_event : (o : Option Event) (e f : Event) → o ≡ Some e → o ≡ Some f → e ≡ f
same_event o e f h k = cc

pub one_event : LinesSpellOneEvent
one_event line e f h k = same_event (event_of line) e f (lines_read line e h) (lines_read line f k)
