-- Events that may follow one another are those of their printed form.
use Rattle.std.proofs.Common.{◌≡◌, ℕ, ◌+◌, ◌<◌, Bool, true, false, not, ◌&&◌, List, [], ◌∷◌, ◌++◌, map, length, Some, None, Ok, refl, sym, ap, ◌∙◌, inl, arith}
use Rattle.std.specs.Prelude.{◌==◌, if◌then◌else◌, nat_lt, codes}
use Rattle.std.specs.List.{list_all}
use Rattle.std.specs.List.Sorted.{IsStrictlySortedBy}
use Rattle.std.specs.Str.{is_utf8}
use Rattle.std.proofs.lemmas.Bool.{and_from, and_parts, le-ltb, lt-ltb, ltb-true, not-true}
use Rattle.std.proofs.lemmas.Str.{is_utf8-from_IsUtf8}
use Rattle.adr_disk.specs.declared.memory.Crash.TheVariants.{Kept, Lost, Torn}
use Rattle.adr_values.specs.Assignments.{Given}
use Rattle.adr_values.specs.declared.content.Value.{Value as Item}
use Rattle.adr_call.specs.declared.write.Write.{Write as Written}
use Rattle.adr_call.specs.declared.write.Write.TheVariants.{Add, Modify}
use Rattle.adr_call.specs.declared.call.Call.{Call}
use Rattle.adr_call.specs.declared.report.Report.{Report as Asked}
use Rattle.adr_call.specs.declared.report.Report.TheVariants.{Directory}
use Rattle.adr_call.specs.declared.event.Event.{Event}
use Rattle.adr_call.specs.declared.call.Call.TheVariants.{Write}
use Rattle.adr_call.specs.declared.event.Event.TheVariants.{Time, Comes, Calls, Uses, Binds, Asks, Goes, Meets}
use Rattle.adr_call.specs.declared.event.Coming.{Coming}
use Rattle.adr_call.specs.declared.event.Coming.TheVariants.{Fresh}
use Rattle.adr_call.specs.declared.event.Use.{Use}
use Rattle.adr_call.specs.declared.event.Use.TheVariants.{Deliver}
use Rattle.adr_call.specs.declared.event.Made.{Made}
use Rattle.adr_call.specs.declared.event.Made.TheVariants.{Ask}
use Rattle.adr_call.specs.declared.event.Exchange.{Exchange}
use Rattle.adr_call.specs.declared.event.Exchange.TheVariants.{Ring}
use Rattle.adr_call.specs.declared.event.Meeting.{Meeting}
use Rattle.adr_call.specs.declared.event.Meeting.TheVariants.{StopAfter}
use Rattle.adr_call.specs.Verbs.{verb_of, word_of}
use Rattle.adr_call.specs.declared.verb.Verb.{Verb}
use Rattle.adr_token.specs.Words.{unspaced}
use Rattle.adr_token.specs.Texts.{ends_word}
use Rattle.adr_token.specs.Spelled.{SpellsAttribute, SpellsClass, SpellsSet}
use Rattle.adr_token.specs.Spelling.{attribute_token, class_token, identifier_token, set_token, text_token}
use Rattle.adr_token.proofs.WordLaws.{are_graphic, graphic_starts, name_graphic, skips}
use Rattle.adr_token.proofs.DigitLaws.{digits_graphic}
use Rattle.adr_token.proofs.IdentifierLaws.{token_graphic}
use Rattle.adr_token.proofs.TextLaws.{token_is}
use Rattle.adr_token.proofs.ClassLaws.{attributes_graphic, attributes_token, classes_graphic, classes_token}
use Rattle.adr_token.proofs.SetLaws.{sets_token}
use Rattle.adr_token.proofs.SetBytes.{set_holds, set_starts}
use Rattle.adr_schedule.specs.Limits.{text_limit}
use Rattle.adr_schedule.specs.Lines.{is_line_feed, lines_of}
use Rattle.adr_schedule.specs.Commands.{event_of, is_passed}
use Rattle.adr_schedule.specs.Grammar.{Token, Word, Name, Number, Identifier, Class, Attribute, Quoted, Set, sets, named, given_by, tokens_asked, tokens_behind, tokens_called, tokens_coming, tokens_going, tokens_made, tokens_met, tokens_used, tokens_written, tokens_in, tokens_of, AreRising, AreSpelled, HasLine, HaveSpellings, IsAllowed, IsSpelled, Spells}
use Rattle.adr_schedule.specs.Seen.{Seen, nothing_seen, cause_after, seen_after, IsFollowing}
use Rattle.adr_schedule.specs.Events.{events_from, events_of, line_after}
use Rattle.adr_run_print.specs.Printed.{AllowedEventsHaveLines, EventsAreReadAgain, PrintedEventsAreRead, joined, line_of, printed, spaced, token_text}
use Rattle.adr_schedule.proofs.VerbLaws.{verb_says, verb_seen}
use Rattle.adr_schedule.proofs.EventLaws.{lines_read}
use Rattle.adr_schedule.proofs.RisingLemmas.{rising_stays}
use Rattle.adr_schedule.proofs.ScheduleLaws.{text_follows}
use Rattle.adr_run_print.proofs.PlainBytes.{IsPlain, field_plain, graphic_plain, is_feedless, nothing_plain, plain_append, text_plain}

-- a token as it is written: it has no line feed, it spells the token, and no space stands in front of it
record IsPrinted (token : Token) : Type 0 where
  plain : IsPlain (token_text token)
  spells : IsSpelled token (token_text token)
  starts : (rest : List ℕ) → unspaced (token_text token ++ rest) ≡ token_text token ++ rest

graphic_printed : (token : Token) → are_graphic (token_text token) ≡ true → 0 < length (token_text token) → IsSpelled token (token_text token) → IsPrinted token
graphic_printed token h l s = record { plain = graphic_plain (token_text token) h; spells = s; starts = λ rest. graphic_starts (token_text token) rest h l }

abbrev ArePrinted : List Token → Type 0
ArePrinted [] = Unit {0}
ArePrinted (token ∷ tokens) = IsPrinted token × ArePrinted tokens

identifier_long : (id : List ℕ) → 0 < length (identifier_token id)
unfolding identifier_token
identifier_long id = omega arith

text_starts : (text rest : List ℕ) → unspaced (text_token text ++ rest) ≡ text_token text ++ rest
text_starts text rest = ap unspaced (token_is text rest) ∙ sym (token_is text rest)

-- a word is seen
abbrev is_seen : Token → Bool
is_seen (Word word) = are_graphic word && nat_lt 0 (length word)
is_seen token = true

class_printed : (class : ℕ) → SpellsClass class (class_token class) → IsPrinted (Class class)
class_printed class s = let seen = classes_graphic class (class_token class) s in graphic_printed (Class class) seen.0 seen.1 s

attribute_printed : (attr : ℕ) → SpellsAttribute attr (attribute_token attr) → IsPrinted (Attribute attr)
attribute_printed attr s = let seen = attributes_graphic attr (attribute_token attr) s in graphic_printed (Attribute attr) seen.0 seen.1 s

set_printed : (attr : ℕ) (values : List Item) → SpellsSet attr values (set_token attr values) → IsPrinted (Set attr values)
set_printed attr values s = record { plain = set_holds IsPlain plain_append graphic_plain text_plain attr values (set_token attr values) s; spells = s; starts = λ rest. set_starts attr values (set_token attr values) rest s }

is_printed : (token : Token) (bytes : List ℕ) → is_seen token ≡ true → IsSpelled token bytes → IsPrinted token
is_printed (Word word) bytes k s = let w = and_parts (are_graphic word) (nat_lt 0 (length word)) k in graphic_printed (Word word) w.0 (ltb-true 0 (length word) w.1) refl
is_printed (Name name) bytes k s = let w = name_graphic name s.0 in graphic_printed (Name name) w.0 w.1 (s.0, refl)
is_printed (Number number) bytes k s = let w = digits_graphic false number s.0 in graphic_printed (Number number) w.0 w.1 (s.0, refl)
is_printed (Identifier id) bytes k s = graphic_printed (Identifier id) (token_graphic id) (identifier_long id) (s.0, inl refl)
is_printed (Class class) bytes k s = class_printed class (classes_token class bytes s)
is_printed (Attribute attr) bytes k s = attribute_printed attr (attributes_token attr bytes s)
is_printed (Quoted text) bytes k s = record { plain = text_plain text s.0; spells = (s.0, refl); starts = text_starts text }
is_printed (Set attr values) bytes k s = set_printed attr values (sets_token attr values bytes s)

are_printed : (tokens : List Token) → list_all is_seen tokens ≡ true → HaveSpellings tokens → ArePrinted tokens
are_printed [] k s = tt
are_printed (token ∷ tokens) k s =
    let parts = and_parts (is_seen token) (list_all is_seen tokens) k in
    (is_printed token s.0.0 parts.0 s.0.1, are_printed tokens parts.1 s.1)

sets_seen : (values : List Given) → list_all is_seen (sets values) ≡ true
sets_seen [] = refl
sets_seen (set ∷ values) = sets_seen values

names_seen : (names : List (List ℕ)) → list_all is_seen (named names) ≡ true
names_seen [] = refl
names_seen (name ∷ names) = names_seen names

-- names are written as they are
pub names_text : (names : List (List ℕ)) → map token_text (named names) ≡ names
names_text [] = refl
names_text (name ∷ names) = ap (λ (rest : List (List ℕ)). name ∷ rest) (names_text names)

-- what a report wants beside a name
asked_seen : (what : Asked) → list_all is_seen (tokens_asked what) ≡ true
asked_seen Directory = refl
asked_seen what = refl

-- the word of a version
version_seen : (first : Bool) → list_all is_seen (if first then Word (codes "v1") ∷ [] else []) ≡ true
version_seen true = refl
version_seen false = refl

coming_seen : (inv : List ℕ) (how : Coming) → list_all is_seen (tokens_coming inv how) ≡ true
coming_seen inv (Fresh dsa) = refl
coming_seen inv how = refl

write_seen : (order : List Given) (what : Written) → list_all is_seen (tokens_written order what) ≡ true
write_seen order (Add guid class parent text values) = sets_seen order
write_seen order (Modify guid values) = sets_seen order
write_seen order what = refl

call_seen : (order : List Given) (what : Call) → list_all is_seen (tokens_called order what) ≡ true
call_seen order (Write what) = write_seen order what
call_seen order what = refl

use_seen : (what : Use) (bound : List ℕ) → list_all is_seen (tokens_used what bound) ≡ true
use_seen Deliver bound = refl
use_seen what bound = refl

made_seen : (what : Made) (bound : List ℕ) → list_all is_seen (tokens_made what bound) ≡ true
made_seen (Ask partner max version) bound = version_seen (version == 1)
made_seen what bound = refl

going_seen : (name : List ℕ) (what : Exchange) → list_all is_seen (tokens_going name what) ≡ true
going_seen name (Ring others rounds max) = names_seen others
going_seen name what = refl

met_seen : (what : Meeting) → list_all is_seen (tokens_met what) ≡ true
met_seen (StopAfter calls Kept) = refl
met_seen (StopAfter calls Lost) = refl
met_seen (StopAfter calls Torn) = refl
met_seen what = refl

-- so are the words of an event
behind_seen : (order : List Given) (e : Event) → list_all is_seen (tokens_behind order e) ≡ true
unfolding tokens_behind
behind_seen order (Time now) = refl
behind_seen order (Comes name inv how) = coming_seen inv how
behind_seen order (Calls name what) = call_seen order what
behind_seen order (Uses name what bound) = use_seen what bound
behind_seen order (Binds name what bound) = made_seen what bound
behind_seen order (Asks name what) = asked_seen what
behind_seen order (Goes name what) = going_seen name what
behind_seen order (Meets name what) = met_seen what

verb_word_seen : (verb : Verb) → is_seen (Word (word_of verb)) ≡ true
verb_word_seen verb = let seen = verb_seen verb in and_from _ _ seen.0 (lt-ltb 0 (length (word_of verb)) seen.1)

words_seen : (order : List Given) (e : Event) → list_all is_seen (tokens_in order e) ≡ true
words_seen order e = and_from _ _ (verb_word_seen (verb_of e)) (behind_seen order e)

-- the tokens with a space between them are plain, and spell themselves
spaced_plain : (tokens : List Token) → ArePrinted tokens → IsPlain (spaced (map token_text tokens))
spaced_plain [] h = nothing_plain
spaced_plain (token ∷ tokens) h = field_plain (token_text token) (spaced (map token_text tokens)) h.0.plain (spaced_plain tokens h.1)

joined_plain : (tokens : List Token) → ArePrinted tokens → IsPlain (joined (map token_text tokens))
joined_plain [] h = nothing_plain
joined_plain (token ∷ tokens) h = plain_append (token_text token) (spaced (map token_text tokens)) h.0.plain (spaced_plain tokens h.1)

spaced_ends : (tokens : List (List ℕ)) → ends_word (spaced tokens) ≡ true
spaced_ends [] = refl
spaced_ends (token ∷ tokens) = refl

spaced_spelled : (tokens : List Token) → ArePrinted tokens → AreSpelled tokens (spaced (map token_text tokens))
spaced_spelled [] h = refl
spaced_spelled (token ∷ tokens) h =
    let rest = spaced (map token_text tokens) in
    (rest, (token_text token, h.0.spells, (skips (token_text token ++ rest) ∙ h.0.starts rest, spaced_ends (map token_text tokens))), spaced_spelled tokens h.1)

joined_spelled : (tokens : List Token) → ArePrinted tokens → AreSpelled tokens (joined (map token_text tokens))
joined_spelled [] h = refl
joined_spelled (token ∷ tokens) h =
    let rest = spaced (map token_text tokens) in
    (rest, (token_text token, h.0.spells, (h.0.starts rest, spaced_ends (map token_text tokens))), spaced_spelled tokens h.1)

-- an event that a line may say, with its tokens as they are written
record IsSaid (e : Event) : Type 0 where
  has_line : HasLine e
  printed : ArePrinted (tokens_of e)

said : (e : Event) → IsAllowed e → IsSaid e
said e h = record { has_line = h.0; printed = are_printed (tokens_of e) (words_seen (given_by e) e) h.1 }

given_rises : (e : Event) → HasLine e → AreRising (given_by e)
unfolding IsStrictlySortedBy
given_rises (Calls name (Write (Add guid class parent text values))) h = h
given_rises (Calls name (Write (Modify guid values))) h = h.0
given_rises e h = tt

said_spells : (e : Event) → IsSaid e → Spells (line_of e) e
unfolding line_of
said_spells e h = (h.has_line, (given_by e, rising_stays (given_by e) (given_rises e h.has_line), joined_spelled (tokens_of e) h.printed))

pub allowed_spells : AllowedEventsHaveLines
allowed_spells e h = said_spells e (said e h)

event_again : (e : Event) → IsSaid e → event_of (line_of e) ≡ Some e
event_again e h = lines_read (line_of e) e (said_spells e h)

line_plain : (e : Event) → IsSaid e → IsPlain (line_of e)
unfolding line_of
line_plain e h = joined_plain (tokens_of e) h.printed

-- it isn't passed over
line_says : (e : Event) → is_passed (line_of e) ≡ false
unfolding line_of
line_says e = verb_says (verb_of e) (spaced (map token_text (tokens_behind (given_by e) e)))

line_told : (seen : Seen) (e : Event) → IsSaid e → cause_after seen e ≡ None → line_after seen (line_of e) ≡ Ok (Some e)
line_told seen e h c =
    let utf8 : is_utf8 (line_of e) ≡ true = is_utf8-from_IsUtf8 (line_of e) (line_plain e h).utf8 in
    rw (line_says e, utf8, event_again e h, c) refl

-- the lines of the printed form
first_line : (bs rest : List ℕ) → is_feedless bs ≡ true → lines_of ((bs ++ codes "\n") ++ rest) ≡ bs ∷ lines_of rest
first_line [] rest h = refl
first_line (b ∷ bs) rest h =
    let p = and_parts (not (is_line_feed b)) (is_feedless bs) h in
    rw (not-true (is_line_feed b) p.0, first_line bs rest p.1) refl

printed_lines : (seen : Seen) (es : List Event) → IsFollowing seen es → lines_of (printed es) ≡ map line_of es
printed_lines seen [] h = refl
printed_lines seen (e ∷ es) h =
    first_line (line_of e) (printed es) (line_plain e (said e h.1)).feedless ∙ ap (λ (ls : List (List ℕ)). line_of e ∷ ls) (printed_lines (seen_after seen e) es h.2)

from_again : (seen : Seen) (k : ℕ) (es : List Event) → IsFollowing seen es → events_from seen k (map line_of es) ≡ Ok es
from_again seen k [] h = refl
from_again seen k (e ∷ es) h = rw (line_told seen e (said e h.1) h.0, from_again (seen_after seen e) (k + 1) es h.2) refl

pub printed_read : PrintedEventsAreRead
unfolding events_of
printed_read events follow small =
    rw (le-ltb text_limit (length (printed events)) small, printed_lines nothing_seen events follow) (from_again nothing_seen 1 events follow)

pub read_again : EventsAreReadAgain
read_again text events h small = printed_read events (text_follows text events h) small
