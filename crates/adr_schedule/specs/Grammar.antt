-- The grammar of a line: its tokens, and how each of them may be spelled.
use Rattle.std.specs.Prelude.{◌≡◌, ◌⊎◌, ℕ, ◌<◌, ◌≤◌, ◌^◌, ◌==◌, if◌then◌else◌, List, [], ◌∷◌, map, length, true, Some, codes}
use Rattle.std.specs.Fmt.{decimal}
use Rattle.std.specs.List.Sorted.{IsStrictlySortedBy}
use Rattle.std.specs.Ordering.{nat_cmp}
use Rattle.adr_values.specs.Assignments.{Given, attributes}
use Rattle.adr_values.specs.declared.content.Value.{Value as Item}
use Rattle.adr_call.specs.declared.write.Write.{Write as Written}
use Rattle.adr_call.specs.declared.write.Write.TheVariants.{Add, Modify, Rename, Delete, Link, Unlink}
use Rattle.adr_call.specs.declared.report.Report.{Report as Asked}
use Rattle.adr_call.specs.declared.report.Report.TheVariants as reports
use Rattle.adr_call.specs.declared.call.Call.{Call}
use Rattle.adr_call.specs.declared.call.Call.TheVariants.{Write, Collect, Upgrade}
use Rattle.adr_call.specs.declared.event.Event.{Event}
use Rattle.adr_call.specs.declared.event.Coming.{Coming}
use Rattle.adr_call.specs.declared.event.Use.{Use}
use Rattle.adr_call.specs.declared.event.Made.{Made}
use Rattle.adr_call.specs.declared.event.Exchange.{Exchange}
use Rattle.adr_call.specs.declared.event.Meeting.{Meeting}
use Rattle.adr_call.specs.declared.event.Event.TheVariants.{Time, Comes, Calls, Uses, Binds, Asks, Goes, Meets}
use Rattle.adr_call.specs.declared.event.Coming.TheVariants.{Fresh, Installed, Restored}
use Rattle.adr_call.specs.declared.event.Use.TheVariants.{Deliver, Revive, Rollback}
use Rattle.adr_call.specs.declared.event.Made.TheVariants.{Ask, Serve, Backup, Snapshot}
use Rattle.adr_call.specs.declared.event.Exchange.TheVariants.{Pull, Cycle, Ring}
use Rattle.adr_call.specs.declared.event.Meeting.TheVariants.{Stop, Start, StopAfter, Fail}
use Rattle.adr_call.specs.Verbs.{verb_of, word_of}
use Rattle.adr_token.specs.Words.{unspaced, is_name}
use Rattle.adr_token.specs.Laws.{Stands}
use Rattle.adr_token.specs.Spelled.{SpellsAttribute, SpellsClass, SpellsIdentifier, SpellsSet, SpellsText}
use Rattle.adr_schedule.specs.Limits.{ask_limit, plan_limit, rounds_limit}
use Rattle.adr_schedule.specs.Members.{with_names}
use Rattle.adr_schedule.specs.Crashes.{crash_word}
use Rattle.adr_schedule.specs.Sets.{rising}
use Rattle.adr_schedule.specs.Commands.{event_of}

-- a token of a line
pub data Token : Type 0 where
  Word : (word : List ℕ) → Token
  Name : (name : List ℕ) → Token
  Number : (number : ℕ) → Token
  Identifier : (id : List ℕ) → Token
  Class : (class : ℕ) → Token
  Attribute : (attr : ℕ) → Token
  Quoted : (text : List ℕ) → Token
  Set : (attr : ℕ) (values : List Item) → Token

-- each attribute with its values
abbrev pub sets : List Given → List Token
sets values = map (λ given. Set given.0 given.1) values

-- each name
abbrev pub named : List (List ℕ) → List Token
named names = map (λ name. Name name) names

-- what the sets of a write's line give
abbrev pub given_in : Written → List Given
given_in (Add guid class parent text values) = values
given_in (Modify guid values) = values
given_in _ = []

-- what the sets of a call's line give
abbrev pub given_for : Call → List Given
given_for (Write what) = given_in what
given_for _ = []

-- what the sets of an event's line give
abbrev pub given_by : Event → List Given
given_by (Calls name what) = given_for what
given_by _ = []

-- what a line has a controller write, the sets in this order
abbrev pub tokens_written : List Given → Written → List Token
tokens_written order (Add guid class parent text values) = Identifier guid ∷ Class class ∷ Identifier parent ∷ Quoted text ∷ sets order
tokens_written order (Modify guid values) = Identifier guid ∷ sets order
tokens_written order (Rename guid parent text) = Identifier guid ∷ Identifier parent ∷ Quoted text ∷ []
tokens_written order (Delete guid) = Identifier guid ∷ []
tokens_written order (Link from attr to) = Identifier from ∷ Attribute attr ∷ Identifier to ∷ []
tokens_written order (Unlink from attr to) = Identifier from ∷ Attribute attr ∷ Identifier to ∷ []

-- what a client has a controller do
abbrev pub tokens_called : List Given → Call → List Token
tokens_called order (Write what) = tokens_written order what
tokens_called order (Collect lifetime) = Number lifetime ∷ []
tokens_called order Upgrade = []

-- what a controller is asked for
abbrev pub tokens_asked : Asked → List Token
tokens_asked reports.Directory = []
tokens_asked reports.Vector = []
tokens_asked reports.Marks = []
tokens_asked (reports.Meta guid) = Identifier guid ∷ []

-- the word of a request's version; the second has none
abbrev pub version_words : ℕ → List Token
version_words version = if version == 1 then Word (codes "v1") ∷ [] else []

-- how a controller comes to be, or comes back
abbrev pub tokens_coming : List ℕ → Coming → List Token
tokens_coming inv (Fresh dsa) = Identifier dsa ∷ Identifier inv ∷ []
tokens_coming inv (Installed dsa image) = Identifier dsa ∷ Name image ∷ Identifier inv ∷ []
tokens_coming inv (Restored image) = Name image ∷ Identifier inv ∷ []

-- what is done with what is bound to a name
abbrev pub tokens_used : Use → List ℕ → List Token
tokens_used Deliver bound = Name bound ∷ []
tokens_used (Revive guid parent text) bound = Identifier guid ∷ Name bound ∷ Identifier parent ∷ Quoted text ∷ []
tokens_used Rollback bound = Name bound ∷ []

-- what is made and bound to a name
abbrev pub tokens_made : Made → List ℕ → List Token
tokens_made (Ask partner max version) bound = Name partner ∷ Number max ∷ Word (codes "as") ∷ Name bound ∷ version_words version
tokens_made (Serve request) bound = Name request ∷ Word (codes "as") ∷ Name bound ∷ []
tokens_made Backup bound = Word (codes "as") ∷ Name bound ∷ []
tokens_made Snapshot bound = Word (codes "as") ∷ Name bound ∷ []

-- how controllers pull; a ring has its numbers before its names
abbrev pub tokens_going : List ℕ → Exchange → List Token
tokens_going name (Pull source max) = Name name ∷ Name source ∷ Number max ∷ []
tokens_going name (Cycle source max) = Name name ∷ Name source ∷ Number max ∷ []
tokens_going name (Ring others rounds max) = Number rounds ∷ Number max ∷ Name name ∷ named others

-- what befalls a controller or its disk
abbrev pub tokens_met : Meeting → List Token
tokens_met Stop = []
tokens_met Start = []
tokens_met (StopAfter calls how) = Word (codes "after") ∷ Number calls ∷ Word (crash_word how) ∷ []
tokens_met (Fail calls) = Word (codes "after") ∷ Number calls ∷ []

-- what stands behind the verb in the line of an event, its sets in this order
unfoldable pub tokens_behind : List Given → Event → List Token
tokens_behind order (Time now) = Number now ∷ []
tokens_behind order (Comes name inv how) = Name name ∷ tokens_coming inv how
tokens_behind order (Calls name what) = Name name ∷ tokens_called order what
tokens_behind order (Uses name what bound) = Name name ∷ tokens_used what bound
tokens_behind order (Binds name what bound) = Name name ∷ tokens_made what bound
tokens_behind order (Asks name what) = Name name ∷ tokens_asked what
tokens_behind order (Goes name what) = tokens_going name what
tokens_behind order (Meets name what) = Name name ∷ tokens_met what

-- the tokens of the line of an event, its sets in this order
abbrev pub tokens_in : List Given → Event → List Token
tokens_in order event = Word (word_of (verb_of event)) ∷ tokens_behind order event

-- the tokens of the line of an event, its sets in rising order
abbrev pub tokens_of : Event → List Token
tokens_of event = tokens_in (given_by event) event

-- how a token may be spelled
abbrev pub IsSpelled : Token → List ℕ → Type 0
IsSpelled (Word word) bytes = bytes ≡ word
IsSpelled (Name name) bytes = (is_name name ≡ true) × (bytes ≡ name)
IsSpelled (Number number) bytes = (number < 2 ^ 64) × (bytes ≡ decimal number)
IsSpelled (Identifier id) bytes = SpellsIdentifier id bytes
IsSpelled (Class class) bytes = SpellsClass class bytes
IsSpelled (Attribute attr) bytes = SpellsAttribute attr bytes
IsSpelled (Quoted text) bytes = SpellsText text bytes
IsSpelled (Set attr values) bytes = SpellsSet attr values bytes

-- behind some spaces the token stands, and after it this is left: nothing, or what begins with a space
abbrev pub IsNext : Token → List ℕ → List ℕ → Type 0
IsNext token bytes rest = (spelled : List ℕ) × IsSpelled token spelled × Stands spelled bytes rest

-- these tokens, one after the other, and nothing else
abbrev pub AreSpelled : List Token → List ℕ → Type 0
AreSpelled [] bytes = unspaced bytes ≡ []
AreSpelled (token ∷ tokens) bytes = (rest : List ℕ) × IsNext token bytes rest × AreSpelled tokens rest

-- how many items are asked for
abbrev pub IsLimit : ℕ → Type 0
IsLimit limit = (1 ≤ limit) × (limit ≤ ask_limit)

-- the versions of requests
abbrev pub IsVersion : ℕ → Type 0
IsVersion version = (version ≡ 1) ⊎ (version ≡ 2)

-- how many rounds a ring has, and its names: two or more, at most as many as there may be controllers, none twice
abbrev pub AreRounds : ℕ → Type 0
AreRounds rounds = (1 ≤ rounds) × (rounds ≤ rounds_limit)

abbrev pub AreMembers : List ℕ → List (List ℕ) → Type 0
AreMembers name others = (0 < length others) × (with_names name [] others ≡ Some others)

-- each attribute is given once, in rising order
abbrev pub AreRising : List Given → Type 0
AreRising values = IsStrictlySortedBy nat_cmp (attributes values)

-- the values of a write are given so: each attribute once, in rising order, and where they are modified, one or more
abbrev pub AreGiven : Written → Type 0
AreGiven (Add guid class parent text values) = AreRising values
AreGiven (Modify guid values) = AreRising values × (0 < length values)
AreGiven _ = Unit {0}

-- what the tokens of a call don't say
abbrev pub HasCallLine : Call → Type 0
HasCallLine (Write what) = AreGiven what
HasCallLine (Collect lifetime) = Unit {0}
HasCallLine Upgrade = Unit {0}

-- how many items are asked for, and in which version
abbrev pub HasMadeLine : Made → Type 0
HasMadeLine (Ask partner max version) = IsLimit max × IsVersion version
HasMadeLine (Serve request) = Unit {0}
HasMadeLine Backup = Unit {0}
HasMadeLine Snapshot = Unit {0}

abbrev pub HasExchangeLine : List ℕ → Exchange → Type 0
HasExchangeLine name (Pull source max) = IsLimit max
HasExchangeLine name (Cycle source max) = IsLimit max
HasExchangeLine name (Ring others rounds max) = AreRounds rounds × IsLimit max × AreMembers name others

-- how many calls a plan lets pass
abbrev pub HasMeetingLine : Meeting → Type 0
HasMeetingLine Stop = Unit {0}
HasMeetingLine Start = Unit {0}
HasMeetingLine (StopAfter calls how) = calls ≤ plan_limit
HasMeetingLine (Fail calls) = calls ≤ plan_limit

-- what the tokens of an event don't say
abbrev pub HasLine : Event → Type 0
HasLine (Time now) = Unit {0}
HasLine (Comes name inv how) = Unit {0}
HasLine (Calls name what) = HasCallLine what
HasLine (Uses name what bound) = Unit {0}
HasLine (Binds name what bound) = HasMadeLine what
HasLine (Asks name what) = Unit {0}
HasLine (Goes name what) = HasExchangeLine name what
HasLine (Meets name what) = HasMeetingLine what

-- a line spells an event, which has one: the event's tokens stand in the line, its sets in any order
abbrev pub Spells : List ℕ → Event → Type 0
Spells line event = HasLine event × ((order : List Given) × (rising order ≡ Some (given_by event)) × AreSpelled (tokens_in order event) line)

-- each token has a spelling
abbrev pub HaveSpellings : List Token → Type 0
HaveSpellings [] = Unit {0}
HaveSpellings (token ∷ tokens) = ((bytes : List ℕ) × IsSpelled token bytes) × HaveSpellings tokens

-- an event that some line says
abbrev pub IsAllowed : Event → Type 0
IsAllowed event = HasLine event × HaveSpellings (tokens_of event)

abbrev pub SpelledLinesAreRead : Type 0
SpelledLinesAreRead = (line : List ℕ) (event : Event) → Spells line event → event_of line ≡ Some event

abbrev pub LinesWereSpelled : Type 0
LinesWereSpelled = (line : List ℕ) (event : Event) → event_of line ≡ Some event → Spells line event

-- an event is allowed that a line spells; its printed line does (`AllowedEventsHaveLines`)
abbrev pub SpelledEventsAreAllowed : Type 0
SpelledEventsAreAllowed = (line : List ℕ) (event : Event) → Spells line event → IsAllowed event

-- no line can be taken in two ways
abbrev pub LinesSpellOneEvent : Type 0
LinesSpellOneEvent = (line : List ℕ) (event other : Event) → Spells line event → Spells line other → event ≡ other
