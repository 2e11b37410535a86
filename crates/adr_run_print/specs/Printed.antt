-- The text of some events: one space between tokens, and a line feed after every line.
use Rattle.std.specs.Prelude.{◌≡◌, ◌≤◌, ℕ, List, [], ◌∷◌, ◌++◌, length, map, flat_map, codes, Ok}
use Rattle.std.specs.Fmt.{decimal}
use Rattle.adr_values.specs.Assignments.{Given}
use Rattle.adr_call.specs.declared.event.Event.{Event}
use Rattle.adr_token.specs.Spelling.{attribute_token, class_token, identifier_token, set_token, text_token}
use Rattle.adr_run_print.specs.declared.printing.Token.{Token as Piece}
use Rattle.adr_run_print.specs.declared.printing.Token.TheVariants as pieces
use Rattle.adr_schedule.specs.Limits.{text_limit}
use Rattle.adr_schedule.specs.Grammar.{Token, Word, Name, Number, Identifier, Class, Attribute, Quoted, Set, sets, tokens_of, IsAllowed, Spells}
use Rattle.adr_schedule.specs.Seen.{nothing_seen, IsFollowing}
use Rattle.adr_schedule.specs.Events.{events_of}

-- a token as it is written: an identifier in its short form, if it has one
abbrev pub token_text : Token → List ℕ
token_text (Word word) = word
token_text (Name name) = name
token_text (Number number) = decimal number
token_text (Identifier id) = identifier_token id
token_text (Class class) = class_token class
token_text (Attribute attr) = attribute_token attr
token_text (Quoted text) = text_token text
token_text (Set attr values) = set_token attr values

-- the token that a printer writes
abbrev pub token_of : Piece → Token
token_of (pieces.Word word) = Word word.now
token_of (pieces.Name name) = Name name.now
token_of (pieces.Number number) = Number number
token_of (pieces.Identifier id) = Identifier id
token_of (pieces.Class class) = Class class
token_of (pieces.Attribute attr) = Attribute attr
token_of (pieces.Quoted text) = Quoted text.now

-- each token behind a space
abbrev pub spaced : List (List ℕ) → List ℕ
spaced tokens = flat_map (λ token. codes " " ++ token) tokens

-- tokens with a space between them
abbrev pub joined : List (List ℕ) → List ℕ
joined [] = []
joined (token ∷ tokens) = token ++ spaced tokens

-- each attribute with its values
abbrev pub set_tokens : List Given → List (List ℕ)
set_tokens values = map token_text (sets values)

unfoldable pub line_of : Event → List ℕ
line_of event = joined (map token_text (tokens_of event))

abbrev pub printed : List Event → List ℕ
printed events = flat_map (λ event. line_of event ++ codes "\n") events

-- an event that some line says is said by its printed line
abbrev pub AllowedEventsHaveLines : Type 0
AllowedEventsHaveLines = (event : Event) → IsAllowed event → Spells (line_of event) event

-- events that may follow one another are those of their printed form, where that isn't too long
abbrev pub PrintedEventsAreRead : Type 0
PrintedEventsAreRead = (events : List Event) → IsFollowing nothing_seen events → length (printed events) ≤ text_limit → events_of (printed events) ≡ Ok events

-- so are the events of any text
abbrev pub EventsAreReadAgain : Type 0
EventsAreReadAgain = (text : List ℕ) (events : List Event) → events_of text ≡ Ok events → length (printed events) ≤ text_limit
    → events_of (printed events) ≡ Ok events
