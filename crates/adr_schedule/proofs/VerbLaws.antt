-- The words of the verbs: a line may begin with each, and each that a text knows stands for its verb.
use Rattle.std.proofs.Common.{◌≡◌, ℕ, ◌<◌, Bool, true, false, not, ◌&&◌, List, [], ◌∷◌, ◌++◌, length, refl, arith}
use Rattle.std.specs.Prelude.{◌==◌}
use Rattle.std.proofs.lemmas.Bool.{and_parts, ne_eqb, not-true}
use Rattle.adr_call.specs.Verbs.{word_of}
use Rattle.adr_call.specs.declared.verb.Verb.{Verb}
use Rattle.adr_call.specs.declared.verb.Verb.TheVariants.{Controller}
use Rattle.adr_token.specs.Gives.{◌>>=◌}
use Rattle.adr_token.proofs.WordLaws.{are_graphic, graphic_word}
use Rattle.adr_schedule.specs.Verbs.{verb_said}
use Rattle.adr_schedule.specs.Commands.{by_verb, event_of, is_passed}
use Rattle.adr_schedule.specs.Grammar.{Word, IsNext}
use Rattle.adr_schedule.proofs.TokenLaws.{word_read}

-- a word that a line may begin with: it is seen, and begins with no semicolon
abbrev is_command : List ℕ → Bool
is_command [] = false
is_command (b ∷ bs) = are_graphic (b ∷ bs) && (not (b == 59) && not (b == 32))

abbrev IsItsWord : Verb → Type 0
IsItsWord verb = (is_command (word_of verb) ≡ true) × ((rest : List ℕ) → (verb_said (word_of verb) >>= λ said. by_verb said rest) ≡ by_verb verb rest)

-- by the words alone, whatever verbs there are
its_word : (verb : Verb) → IsItsWord verb
its_word Controller = (refl, λ rest. refl)
its_word verb = (refl, λ rest. refl)

command_seen : (word : List ℕ) → is_command word ≡ true → (are_graphic word ≡ true) × (0 < length word)
command_seen [] h = absurd (cc)
command_seen (b ∷ bs) h = ((and_parts (are_graphic (b ∷ bs)) (not (b == 59) && not (b == 32)) h).0, omega arith)

pub verb_seen : (verb : Verb) → (are_graphic (word_of verb) ≡ true) × (0 < length (word_of verb))
verb_seen verb = command_seen (word_of verb) (its_word verb).0

-- what a line says that begins with the word of a verb
pub verb_read : (verb : Verb) (line rest : List ℕ) → IsNext (Word (word_of verb)) line rest → event_of line ≡ by_verb verb rest
unfolding event_of
verb_read verb line rest next =
    let seen = verb_seen verb in
    rw (word_read (word_of verb) line rest (graphic_word (word_of verb) seen.0) seen.1 next) ((its_word verb).1 rest)

-- such a line isn't passed over
letter_first : (b : ℕ) (bs : List ℕ) → (b == 59) ≡ false → (b == 32) ≡ false → is_passed (b ∷ bs) ≡ false
letter_first b bs semicolon space =
    let some : (length (b ∷ bs) == 0) ≡ false = ne_eqb _ 0 (λ z. omega arith) in
    rw (semicolon, space, some) refl

command_says : (word rest : List ℕ) → is_command word ≡ true → is_passed (word ++ rest) ≡ false
command_says [] rest h = absurd (cc)
command_says (b ∷ bs) rest h =
    let first = and_parts (not (b == 59)) (not (b == 32)) (and_parts (are_graphic (b ∷ bs)) (not (b == 59) && not (b == 32)) h).1 in
    letter_first b (bs ++ rest) (not-true (b == 59) first.0) (not-true (b == 32) first.1)

pub verb_says : (verb : Verb) (rest : List ℕ) → is_passed (word_of verb ++ rest) ≡ false
verb_says verb rest = command_says (word_of verb) rest (its_word verb).0
