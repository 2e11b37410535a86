-- The lines of the schedule are allowed by the grammar.
use Rattle.std.proofs.Common.{◌≡◌, ℕ, ◌+◌, ◌%◌, ◌<◌, ◌^◌, Bool, true, false, List, [], ◌∷◌, ◌++◌, refl, inl, inr, arith}
use Rattle.std.specs.Prelude.{◌==◌, if◌then◌else◌, codes, pos}
use Rattle.std.specs.List.Sorted.{IsStrictlySortedBy}
use Rattle.std.specs.Ordering.{nat_cmp}
use Rattle.std.specs.Fmt.{decimal}
use Rattle.std.proofs.lemmas.Int.{ints}
use Rattle.adr_values.specs.declared.content.Value.TheVariants.{Text as Words, Number as Figures}
use Rattle.adr_call.specs.declared.write.Write.TheVariants.{Delete}
use Rattle.adr_call.specs.declared.call.Call.TheVariants as calls
use Rattle.adr_call.specs.declared.event.Event.TheVariants as kinds
use Rattle.adr_call.specs.declared.event.Coming.TheVariants as comings
use Rattle.adr_call.specs.declared.event.Made.TheVariants as mades
use Rattle.adr_call.specs.declared.event.Exchange.TheVariants as exchanges
use Rattle.adr_token.specs.Words.{is_name}
use Rattle.adr_token.specs.Texts.{is_text}
use Rattle.adr_token.specs.Spelling.{identifier_token, text_token, value_token}
use Rattle.adr_token.proofs.ByteLaws.{bytes_identifier}
use Rattle.adr_schedule.specs.Grammar.{Token, Word, Name, Number, Identifier, Class, Attribute, Quoted, Set, tokens_behind, IsSpelled, IsAllowed}
use Rattle.adr_run_exercise.specs.Generated.{controller, identifier, numbered, group_added, person_added, person_linked}
use Rattle.adr_run_exercise.proofs.Numerals.{IsSmall, letter_named, word_text}

abbrev HasSpelling : Token → Type 0
HasSpelling token = (bytes : List ℕ) × IsSpelled token bytes

word_spelled : (word : List ℕ) → HasSpelling (Word word)
word_spelled word = (word, refl)

name_spelled : (name : List ℕ) → is_name name ≡ true → HasSpelling (Name name)
name_spelled name is = (name, (is, refl))

number_spelled : (number : ℕ) → number < 2 ^ 64 → HasSpelling (Number number)
number_spelled number small = (decimal number, (small, refl))

identifier_spelled : (number : ℕ) → HasSpelling (Identifier (identifier number))
unfolding identifier
identifier_spelled number = (identifier_token (identifier number), (bytes_identifier number, inl refl))

class_spelled : (class : ℕ) → class < 2 ^ 16 → HasSpelling (Class class)
class_spelled class small = (codes "%" ++ decimal class, inr (small, refl))

attribute_spelled : (attr : ℕ) → attr < 2 ^ 16 → HasSpelling (Attribute attr)
attribute_spelled attr small = (codes "%" ++ decimal attr, inr (small, refl))

text_spelled : (text : List ℕ) → is_text text ≡ true → HasSpelling (Quoted text)
text_spelled text is = (text_token text, (is, refl))

number_set : (attr : ℕ) → attr < 2 ^ 16 → HasSpelling (Set attr (Figures (pos 2) ∷ []))
number_set attr small = (
  (codes "%" ++ decimal attr) ++ codes "=" ++ value_token (Figures (pos 2)),
  (codes "%" ++ decimal attr, value_token (Figures (pos 2)), inr (small, refl), (omega (arith, ints), refl), refl),
)

text_set : (attr : ℕ) (text : List ℕ) → attr < 2 ^ 16 → is_text text ≡ true → HasSpelling (Set attr (Words text ∷ []))
text_set attr text small is = (
  (codes "%" ++ decimal attr) ++ codes "=" ++ text_token text,
  (codes "%" ++ decimal attr, text_token text, inr (small, refl), (is, refl), refl),
)

one_rises : (attr : ℕ) → IsStrictlySortedBy nat_cmp (attr ∷ [])
unfolding IsStrictlySortedBy
one_rises attr = (tt, tt)

-- ---- names

pub controller_named : (h : ℕ) → is_name (controller h) ≡ true
unfolding controller
controller_named h = by (h == 0) (h == 1) (h == 2)
  where
    by : (a b c : Bool) → is_name (if a then codes "A" else if b then codes "B" else if c then codes "C" else codes "D") ≡ true
    by true b c = refl
    by false true c = refl
    by false false true = refl
    by false false false = refl

pub request_named : (k : ℕ) → IsSmall k → is_name (numbered (codes "q") k) ≡ true
unfolding numbered
request_named k small = letter_named 113 k refl small

pub reply_named : (k : ℕ) → IsSmall k → is_name (numbered (codes "r") k) ≡ true
unfolding numbered
reply_named k small = letter_named 114 k refl small

group_text : (g : ℕ) → IsSmall g → is_text (numbered (codes "Group ") g) ≡ true
unfolding numbered
group_text g small = word_text (codes "Group ") g refl (omega arith) small

person_text : (k : ℕ) → IsSmall k → is_text (numbered (codes "Person ") k) ≡ true
unfolding numbered
person_text k small = word_text (codes "Person ") k refl (omega arith) small

account_text : (k : ℕ) → IsSmall k → is_text (numbered (codes "p") k) ≡ true
unfolding numbered
account_text k small = word_text (codes "p") k refl (omega arith) small

-- ---- lines

pub time_allowed : (now : ℕ) → now < 2 ^ 64 → IsAllowed (kinds.Time now)
unfolding tokens_behind
time_allowed now small = (tt, (word_spelled _, (number_spelled now small, tt)))

pub controller_allowed : (name : List ℕ) (dsa inv : ℕ) → is_name name ≡ true → IsAllowed (kinds.Comes name (identifier inv) (comings.Fresh (identifier dsa)))
unfolding tokens_behind
controller_allowed name dsa inv is = (tt, (word_spelled _, (name_spelled name is, (identifier_spelled dsa, (identifier_spelled inv, tt)))))

pub cycle_allowed : (name source : List ℕ) → is_name name ≡ true → is_name source ≡ true → IsAllowed (kinds.Goes name (exchanges.Cycle source 50))
unfolding tokens_behind
cycle_allowed name source is was = ((omega arith, omega arith), (word_spelled _, (name_spelled name is, (name_spelled source was, (number_spelled 50 (omega arith), tt)))))

pub pull_allowed : (name source : List ℕ) → is_name name ≡ true → is_name source ≡ true → IsAllowed (kinds.Goes name (exchanges.Pull source 3))
unfolding tokens_behind
pull_allowed name source is was = ((omega arith, omega arith), (word_spelled _, (name_spelled name is, (name_spelled source was, (number_spelled 3 (omega arith), tt)))))

pub collect_allowed : (name : List ℕ) → is_name name ≡ true → IsAllowed (kinds.Calls name (calls.Collect 5000))
unfolding tokens_behind
collect_allowed name is = (tt, (word_spelled _, (name_spelled name is, (number_spelled 5000 (omega arith), tt))))

pub backup_allowed : (name bound : List ℕ) → is_name name ≡ true → is_name bound ≡ true → IsAllowed (kinds.Binds name mades.Backup bound)
unfolding tokens_behind
backup_allowed name bound is new = (tt, (word_spelled _, (name_spelled name is, (word_spelled _, (name_spelled bound new, tt)))))

pub restore_allowed : (name image : List ℕ) (inv : ℕ) → is_name name ≡ true → is_name image ≡ true → IsAllowed (kinds.Comes name (identifier inv) (comings.Restored image))
unfolding tokens_behind
restore_allowed name image inv is was = (tt, (word_spelled _, (name_spelled name is, (name_spelled image was, (identifier_spelled inv, tt)))))

pub ask_allowed : (name partner bound : List ℕ) → is_name name ≡ true → is_name partner ≡ true → is_name bound ≡ true → IsAllowed (kinds.Binds name (mades.Ask partner 3 2) bound)
unfolding tokens_behind
ask_allowed name partner bound is of new =
    (((omega arith, omega arith), inr refl), (word_spelled _, (name_spelled name is, (name_spelled partner of, (number_spelled 3 (omega arith), (word_spelled _, (name_spelled bound new, tt)))))))

pub serve_allowed : (name request bound : List ℕ) → is_name name ≡ true → is_name request ≡ true → is_name bound ≡ true → IsAllowed (kinds.Binds name (mades.Serve request) bound)
unfolding tokens_behind
serve_allowed name request bound is was new =
    (tt, (word_spelled _, (name_spelled name is, (name_spelled request was, (word_spelled _, (name_spelled bound new, tt))))))

pub delete_allowed : (name : List ℕ) (id : ℕ) → is_name name ≡ true → IsAllowed (kinds.Calls name (calls.Write (Delete (identifier id))))
unfolding tokens_behind
delete_allowed name id is = (tt, (word_spelled _, (name_spelled name is, (identifier_spelled id, tt))))

pub group_allowed : (g : ℕ) → IsSmall g → IsAllowed (group_added g)
unfolding tokens_behind group_added
group_allowed g small = (
  one_rises 19,
  (
    word_spelled _,
    (
      name_spelled (codes "A") refl,
      (
        identifier_spelled (0x100 + g),
        (
          class_spelled 6 (omega arith),
          (
            identifier_spelled 1,
            (text_spelled (numbered (codes "Group ") g) (group_text g small), (number_set 19 (omega arith), tt)),
          ),
        ),
      ),
    ),
  ),
)

pub person_allowed : (k : ℕ) → IsSmall k → IsAllowed (person_added k)
unfolding tokens_behind person_added
person_allowed k small = (
  one_rises 10,
  (
    word_spelled _,
    (
      name_spelled (controller (k % 4)) (controller_named (k % 4)),
      (
        identifier_spelled (0x1000 + k),
        (
          class_spelled 5 (omega arith),
          (
            identifier_spelled 1,
            (text_spelled (numbered (codes "Person ") k) (person_text k small), (text_set 10 (numbered (codes "p") k) (omega arith) (account_text k small), tt)),
          ),
        ),
      ),
    ),
  ),
)

pub link_allowed : (k : ℕ) → IsAllowed (person_linked k)
unfolding tokens_behind person_linked
link_allowed k =
    (tt, (word_spelled _, (name_spelled (controller (k % 4)) (controller_named (k % 4)), (identifier_spelled (0x100 + k % 10), (attribute_spelled 30 (omega arith), (identifier_spelled (0x1000 + k), tt))))))
