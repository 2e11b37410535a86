-- What `clap` makes of words that are no flags: each goes to the next argument of its command.
use Rattle.std.proofs.Common.{◌≡◌, ℕ, Bool, true, false, cond, ◌||◌, List, [], ◌∷◌, Option, Some, None, refl, sym, ap, ap₂, ◌∙◌}
use Rattle.std.specs.Prelude.{fold}
use Rattle.std.specs.List.{list_any}
use Rattle.std.specs.Str.{bytes_eq}
use Rattle.std.proofs.lemmas.Bool.{true≢false}
use Rattle.std.proofs.lemmas.Slice.Eq.{bytes_eq-Decides}
use Rattle.clap.specs.Lexer.{long_of, short_of, strip_byte}
use Rattle.clap.specs.Kinds.{Kinds, or_else}
use Rattle.clap.specs.Walk.{Held, Rule, Text, Waiting, Walk, arg_by_index, finished, idle, is_multiple, nothing_held, option, positional, settled, to_positional, value, walk, walk_from, walked, word_met, subcommand_or_other}
use Rattle.clap.specs.Simple.{Shape}
use Rattle.clap.specs.Faults.{check_fault, defaults_fault, level_fault, other_fault, settle_fault, step_fault, turn_fault, walk_fault, word_fault}
use Rattle.adr_words.specs.Asked.{is_flag}

pub no_or : (a b : Bool) → (a || b) ≡ false → (a ≡ false) × (b ≡ false)
no_or false false h = (refl, refl)
no_or false true h = absurd (true≢false h)
no_or true b h = absurd (true≢false h)

-- a word that is no flag, by the tests of the lexer
no_strip : (word : Text) → is_flag word ≡ false → strip_byte 45 word ≡ None
no_strip [] h = refl
no_strip (b ∷ bs) h = rw h refl

pub no_long : (word : Text) → is_flag word ≡ false → long_of word ≡ None
no_long word h = rw (no_strip word h) refl

pub no_short : (word : Text) → is_flag word ≡ false → short_of word ≡ None
no_short word h = rw (no_strip word h) refl

pub no_dashes : (word : Text) → is_flag word ≡ false → bytes_eq word (45 ∷ 45 ∷ []) ≡ false
no_dashes word h = go (bytes_eq word (45 ∷ 45 ∷ [])) refl
  where
    go : (t : Bool) → bytes_eq word (45 ∷ 45 ∷ []) ≡ t → t ≡ false
    go false e = refl
    go true e = absurd (true≢false (sym (ap is_flag ((bytes_eq-Decides word (45 ∷ 45 ∷ [])).0 e)) ∙ h))

-- what no subcommand is goes to an argument
abbrev pub IsOpen : Waiting → Type 0
IsOpen idle = Unit {0}
IsOpen (option id) = ⊥
IsOpen positional = Unit {0}

pub goes : (c : List Rule) (waiting : Waiting) (position : ℕ) (word : Text) (h : Held) → IsOpen waiting → is_flag word ≡ false
    → subcommand_or_other c None waiting position word h ≡ (h, value)
goes c idle position word h o e = rw (no_dashes word e, no_long word e, no_short word e) refl
goes c positional position word h o e = rw (no_dashes word e, no_long word e, no_short word e) refl
goes c (option id) position word h o e = absurd o

pub met : (c : List Rule) (t : Bool) (waiting : Waiting) (position : ℕ) (word : Text) (h : Held) → IsOpen waiting → is_flag word ≡ false
    → word_met c [] t waiting position word h ≡ (h, value)
met c true waiting position word h o e = refl
met c false idle position word h o e = goes c idle position word h o e
met c false positional position word h o e = goes c positional position word h o e
met c false (option id) position word h o e = absurd o

-- the walk over such words
abbrev pub placed : List Rule → Walk → Text → Walk
placed c w word = to_positional c (arg_by_index c w.position) word w w.held

abbrev IsGoing : Walk → Type 0
IsGoing w = (w.stopped ≡ None) × IsOpen w.waiting

step : (c : List Rule) (w : Walk) (word : Text) → IsGoing w → is_flag word ≡ false → walked c [] w word ≡ placed c w word
unfolding walked
step c w word g e = rw (g.0, met c w.is_trailing w.waiting w.position word w.held g.1 e) refl

goes_on : (c : List Rule) (w : Walk) (word : Text) → IsGoing w → IsGoing (placed c w word)
goes_on c w word g = go (arg_by_index c w.position)
  where
    open_at : (t : Bool) → IsOpen (cond t positional idle)
    open_at true = tt
    open_at false = tt

    go : (o : Option Rule) → IsGoing (to_positional c o word w w.held)
    go None = g
    go (Some a) = (refl, open_at (is_multiple a))

walks : (c : List Rule) (w : Walk) (words : List Text) → IsGoing w → list_any is_flag words ≡ false → fold (walked c []) w words ≡ fold (placed c) w words
walks c w [] g e = refl
walks c w (word ∷ words) g e =
    let parts = no_or (is_flag word) (list_any is_flag words) e in
    ap (λ (v : Walk). fold (walked c []) v words) (step c w word g parts.0) ∙ walks c (placed c w word) words (goes_on c w word g) parts.1

-- its faults
flag_fault : (s : Shape) (waiting : Waiting) (word : Text) (h : Held) → is_flag word ≡ false → other_fault s None word h ≡ []
flag_fault s waiting word h e = rw (no_dashes word e, no_long word e, no_short word e) refl

pub no_fault : (s : Shape) (t : Bool) (waiting : Waiting) (word : Text) (h : Held) → IsOpen waiting → is_flag word ≡ false → word_fault s [] t waiting word h ≡ []
no_fault s true waiting word h o e = refl
no_fault s false idle word h o e = flag_fault s idle word h e
no_fault s false positional word h o e = flag_fault s positional word h e
no_fault s false (option id) word h o e = absurd o

turn : (s : Shape) (w : Walk) (word : Text) → IsGoing w → is_flag word ≡ false → turn_fault s [] w word ≡ step_fault s w.position w.held value
turn s w word g e = rw (g.0, no_fault s w.is_trailing w.waiting word w.held g.1 e, met s.rules w.is_trailing w.waiting w.position word w.held g.1 e) refl

abbrev pub placed_fault : Shape → Walk → List Text → Kinds
placed_fault s w [] = []
placed_fault s w (word ∷ words) = or_else (step_fault s w.position w.held value) (placed_fault s (placed s.rules w word) words)

faults : (s : Shape) (w : Walk) (words : List Text) → IsGoing w → list_any is_flag words ≡ false → walk_fault s [] w words ≡ placed_fault s w words
unfolding walk_fault
faults s w [] g e = refl
faults s w (word ∷ words) g e =
    let parts = no_or (is_flag word) (list_any is_flag words) e in
    ap₂ or_else (turn s w word g parts.0)
    (ap (λ (v : Walk). walk_fault s [] v words) (step s.rules w word g parts.0) ∙ faults s (placed s.rules w word) words (goes_on s.rules w word g) parts.1)

-- one level of a parse
abbrev pub start : Walk
start = walk_from nothing_held

abbrev pub end_fault : Shape → Held → Kinds
end_fault s end =
    or_else (settle_fault s.rules s.args_override_self end) (or_else (defaults_fault (settled s.rules end).rows s.rules) (check_fault s (finished s.rules end) false))

abbrev pub placed_level : Shape → List Text → Kinds
placed_level s words = or_else (placed_fault s start words) (end_fault s (fold (placed s.rules) start words).held)

pub level_is : (s : Shape) (words : List Text) → list_any is_flag words ≡ false → level_fault s [] nothing_held words false [] ≡ placed_level s words
level_is s words e = ap₂ (λ (kinds : Kinds) (w : Walk). or_else kinds (end_fault s w.held)) (faults s start words (refl, tt) e) (walks s.rules start words (refl, tt) e)

pub rows_are : (s : Shape) (words : List Text) → list_any is_flag words ≡ false → finished s.rules (walk s.rules [] nothing_held words).held ≡ finished s.rules (fold (placed s.rules) start words).held
rows_are s words e = ap (λ (w : Walk). finished s.rules w.held) (walks s.rules start words (refl, tt) e)
