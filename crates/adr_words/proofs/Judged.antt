-- What the parser of the words makes of each line of them.
use Rattle.std.proofs.Common.{◌≡◌, ℕ, Bool, true, false, cond, ◌||◌, ◌&&◌, List, [], ◌∷◌, ◌++◌, map, Option, Some, None, option_map, refl, sym, ap, ap₂, subst, ◌∙◌, codes, ◌⊎◌, inl, inr, append-nil, append_assoc}
use Rattle.std.specs.Prelude.{fold, is_some}
use Rattle.std.specs.Option.{option_map_or}
use Rattle.std.specs.List.{find, list_any}
use Rattle.std.specs.Str.{bytes_eq}
use Rattle.std.proofs.lemmas.Bool.{eqb-true, true≢false}
use Rattle.std.proofs.lemmas.Slice.Eq.{bytes_eq-Decides}
use Rattle.clap.specs.declared.error.Error.{Error}
use Rattle.clap.specs.declared.parser.matches.ArgMatches.{ArgMatches}
use Rattle.clap.specs.Words.{HasMatchesOf, kind_of, subcommand_rows_of}
use Rattle.clap.specs.Kinds.{HasKind, Kinds, or_else}
use Rattle.clap.specs.Walk.{Names, Row, Rule, Text, Walk, answers_to, finished, first_of, idle, is_empty, nothing_held, rows_after, settled, subcommand_met, value, walk, walked}
use Rattle.clap.specs.Simple.{App, Shape, built_leaf, entered, inherited, is_simple, label_of, marked_built, rows_at, subcommand_of, with_leaf_noted}
use Rattle.clap.specs.Faults.{check_fault, defaults_fault, entered_fault, fault_of, is_simple_and_free, level_fault, settle_fault, step_fault, turn_fault, walk_fault}
use Rattle.clap.specs.declared.error.kind.ErrorKind.TheVariants as kind
use Rattle.clap.proofs.OnLiterals.{clap_on_literals}
use Rattle.adr_token.specs.Gives.{◌>>=◌}
use Rattle.adr_words.specs.Asked.{asked, asked_by, is_flag}
use Rattle.adr_words.specs.Commands.{COUNT, DSA, Entry, Form, Makes, N, NAME, PORT, command_of, commands, entry_of, made, number_within, value_of}
use Rattle.adr_words.specs.Parser.{id_of, leaf, parser, top}
use Rattle.adr_words.proofs.Bare.{level_is, no_dashes, no_long, no_or, no_short, placed, placed_level, rows_are, start}

-- a subcommand, built
abbrev ready : List ℕ → List Form → Shape
ready word forms = built_leaf (inherited (with_leaf_noted (marked_built top)) (leaf word (map id_of forms)))

abbrev pub same_count : List Form → List Text → Bool
same_count [] [] = true
same_count [] (w ∷ ws) = false
same_count (f ∷ fs) [] = false
same_count (f ∷ fs) (w ∷ ws) = same_count fs ws

-- the rows give each word for its argument
abbrev AreGiven : List Form → List Text → List Row → Type 0
AreGiven [] [] rows = Unit {0}
AreGiven [] (w ∷ ws) rows = ⊥
AreGiven (f ∷ fs) [] rows = ⊥
AreGiven (f ∷ fs) (w ∷ ws) rows = (first_of (id_of f) rows ≡ Some w) × AreGiven fs ws rows

-- there is no fault, and each word is given; or there is one, and there are more words or fewer
abbrev Judged : List Form → List Text → Kinds → List Row → Type 0
Judged forms words kinds rows = ((kinds ≡ []) × AreGiven forms words rows) ⊎ ((is_empty kinds ≡ false) × (same_count forms words ≡ false))

abbrev PlacedJudged : List Form → Type 0
PlacedJudged forms = (word : Text) (words : List Text)
    → Judged forms words (placed_level (ready word forms) words) (finished (ready word forms).rules (fold (placed (ready word forms).rules) start words).held)

none : PlacedJudged []
unfolding clap_on_literals
none word [] = inl (refl, tt)
none word (w ∷ ws) = inr (refl, refl)

n : PlacedJudged (N ∷ [])
unfolding clap_on_literals
n word [] = inr (refl, refl)
n word (u ∷ []) = inl (refl, (refl, tt))
n word (u ∷ t ∷ more) = inr (refl, refl)

name : PlacedJudged (NAME ∷ [])
unfolding clap_on_literals
name word [] = inr (refl, refl)
name word (u ∷ []) = inl (refl, (refl, tt))
name word (u ∷ t ∷ more) = inr (refl, refl)

port : PlacedJudged (PORT ∷ [])
unfolding clap_on_literals
port word [] = inr (refl, refl)
port word (u ∷ []) = inl (refl, (refl, tt))
port word (u ∷ t ∷ more) = inr (refl, refl)

name_dsa : PlacedJudged (NAME ∷ DSA ∷ [])
unfolding clap_on_literals
name_dsa word [] = inr (refl, refl)
name_dsa word (u ∷ []) = inr (refl, refl)
name_dsa word (u ∷ v ∷ []) = inl (refl, (refl, (refl, tt)))
name_dsa word (u ∷ v ∷ t ∷ more) = inr (refl, refl)

name_port : PlacedJudged (NAME ∷ PORT ∷ [])
unfolding clap_on_literals
name_port word [] = inr (refl, refl)
name_port word (u ∷ []) = inr (refl, refl)
name_port word (u ∷ v ∷ []) = inl (refl, (refl, (refl, tt)))
name_port word (u ∷ v ∷ t ∷ more) = inr (refl, refl)

name_port_count : PlacedJudged (NAME ∷ PORT ∷ COUNT ∷ [])
unfolding clap_on_literals
name_port_count word [] = inr (refl, refl)
name_port_count word (u ∷ []) = inr (refl, refl)
name_port_count word (u ∷ v ∷ []) = inr (refl, refl)
name_port_count word (u ∷ v ∷ w ∷ []) = inl (refl, (refl, (refl, (refl, tt))))
name_port_count word (u ∷ v ∷ w ∷ t ∷ more) = inr (refl, refl)

-- the same of a subcommand's level
abbrev LeafJudged : Entry → List Text → Type 0
LeafJudged e words =
    Judged e.forms words (level_fault (ready e.word e.forms) [] nothing_held words false []) (rows_after (ready e.word e.forms).rules [] words)

leaf_judged : (e : Entry) → PlacedJudged e.forms → (words : List Text) → list_any is_flag words ≡ false → LeafJudged e words
leaf_judged e placed_judged words bare =
    let s = ready e.word e.forms in
    subst (λ (kinds : Kinds). Judged e.forms words kinds (rows_after s.rules [] words)) (sym (level_is s words bare))
    (subst (λ (rows : List Row). Judged e.forms words (placed_level s words) rows) (sym (rows_are s words bare)) (placed_judged e.word words))

abbrev EachOf : (Entry → Type 0) → List Entry → Type 0
EachOf P [] = Unit {0}
EachOf P (e ∷ es) = P e × EachOf P es

found_by : (P : Entry → Type 0) (p : Entry → Bool) (x e : Entry) (o : Option Entry) (t : Bool) → p x ≡ t → P x → (o ≡ Some e → P e × (p e ≡ true)) → cond t (Some x) o ≡ Some e
    → P e × (p e ≡ true)
found_by P p x e o true is here more h = let same : x ≡ e = cc in (subst P same here, subst (λ (y : Entry). p y ≡ true) same is)
found_by P p x e o false is here more h = more h

found : (P : Entry → Type 0) (p : Entry → Bool) (es : List Entry) (e : Entry) → EachOf P es → find p es ≡ Some e → P e × (p e ≡ true)
found P p [] e each h = absurd (cc)
found P p (x ∷ xs) e each h = found_by P p x e (find p xs) (p x) refl each.0 (found P p xs e each.1) h

each_ready : EachOf (λ e. PlacedJudged e.forms) commands
each_ready = (none, (n, (name, (name, (name_dsa, (name, (name, (name, (name_port_count, (name_port, (port, tt)))))))))))

-- what is given makes what the words make
is_asked : (forms : List Form) (make : Makes forms) (words : List Text) (rows : List Row) → AreGiven forms words rows → asked_by forms make rows ≡ made forms make words
is_asked [] make [] rows g = refl
is_asked [] make (w ∷ ws) rows g = absurd g
is_asked (f ∷ fs) make [] rows g = absurd g
is_asked (f ∷ fs) make (w ∷ ws) rows g =
    ap (λ o. (o >>= value_of f) >>= λ v. asked_by fs (make v) rows) g.0 ∙ more (value_of f w) (λ v. is_asked fs (make v) ws rows g.1)
  where
    more : (o : Option _) → ((v : _) → asked_by fs (make v) rows ≡ made fs (make v) ws) → (o >>= λ v. asked_by fs (make v) rows) ≡ (o >>= λ v. made fs (make v) ws)
    more None h = refl
    more (Some v) h = h v

miscounted : (forms : List Form) (make : Makes forms) (words : List Text) → same_count forms words ≡ false → made forms make words ≡ None
miscounted [] make [] h = absurd (true≢false h)
miscounted [] make (w ∷ ws) h = refl
miscounted (f ∷ fs) make [] h = refl
miscounted (f ∷ fs) make (w ∷ ws) h = more (value_of f w) (λ v. miscounted fs (make v) ws h)
  where
    more : (o : Option _) → ((v : _) → made fs (make v) ws ≡ None) → (o >>= λ v. made fs (make v) ws) ≡ None
    more None e = refl
    more (Some v) e = e v

-- the first word names a command or none
abbrev label : Entry → Text × List Text
label e = (e.word, [])

abbrev shape : Entry → Shape
shape e = ready e.word e.forms

abbrev names : Names
names = map label commands

same_bytes : (a b : Text) → bytes_eq a b ≡ bytes_eq b a
same_bytes a b = go (bytes_eq a b) (bytes_eq b a) refl refl
  where
    go : (t u : Bool) → bytes_eq a b ≡ t → bytes_eq b a ≡ u → t ≡ u
    go true true h k = refl
    go false false h k = refl
    go true false h k = absurd (true≢false (sym ((bytes_eq-Decides b a).1 (sym ((bytes_eq-Decides a b).0 h))) ∙ k))
    go false true h k = absurd (true≢false (sym ((bytes_eq-Decides a b).1 (sym ((bytes_eq-Decides b a).0 k))) ∙ h))

answers : (word : Text) (e : Entry) → answers_to word (label e) ≡ bytes_eq word e.word
answers word e = or_no (bytes_eq e.word word) ∙ same_bytes e.word word
  where
    or_no : (t : Bool) → (t || false) ≡ t
    or_no true = refl
    or_no false = refl

find_in : {X : Type 0} (p : X → Bool) (q : Entry → Bool) (f : Entry → X) (es : List Entry) → ((e : Entry) → p (f e) ≡ q e) → find p (map f es) ≡ option_map f (find q es)
find_in p q f [] same = refl
find_in p q f (e ∷ es) same = rw (same e) (go (q e) (find_in p q f es same))
  where
    go : (t : Bool) → find p (map f es) ≡ option_map f (find q es) → cond t (Some (f e)) (find p (map f es)) ≡ option_map f (cond t (Some e) (find q es))
    go true h = refl
    go false h = h

named : (word : Text) → find (answers_to word) names ≡ option_map label (entry_of word)
named word = find_in (answers_to word) (λ e. bytes_eq word e.word) label commands (answers word)

shaped : (word : Text) → find (λ s. answers_to word (label_of s)) (map shape commands) ≡ option_map shape (entry_of word)
shaped word = find_in (λ s. answers_to word (label_of s)) (λ e. bytes_eq word e.word) shape commands (answers word)

-- a first word that names no command
no_name : (s : Shape) (all : Names) (word : Text) → subcommand_met all idle word ≡ None → is_flag word ≡ false → turn_fault s all start word ≡ step_fault s 1 nothing_held value
no_name s all word h e = rw (h, no_dashes word e, no_long word e, no_short word e) refl

-- and one that does: the words behind it are its own
abbrev stopped_at : Text → List Text → Walk
stopped_at name words = record start { stopped = Some (name, words) }

a_name : (s : Shape) (all : Names) (word name : Text) → subcommand_met all idle word ≡ Some name → s.disable_help_subcommand ≡ true → turn_fault s all start word ≡ []
a_name s all word name h off = rw (h, off) (go (bytes_eq name (codes "help")))
  where
    go : (t : Bool) → or_else (cond (t && false) (kind.DisplayHelp ∷ kind.InvalidSubcommand ∷ []) []) [] ≡ []
    go true = refl
    go false = refl

stops : (c : List Rule) (all : Names) (word name : Text) → subcommand_met all idle word ≡ Some name → walked c all start word ≡ stopped_at name []
unfolding walked
stops c all word name h = rw h refl

stays : (c : List Rule) (all : Names) (name : Text) (front words : List Text) → fold (walked c all) (stopped_at name front) words ≡ stopped_at name (front ++ words)
unfolding walked
stays c all name front [] = ap (stopped_at name) (sym (append-nil front))
stays c all name front (w ∷ ws) = stays c all name (front ++ w ∷ []) ws ∙ ap (stopped_at name) (append_assoc front (w ∷ []) ws)

no_more : (s : Shape) (all : Names) (name : Text) (front words : List Text) → walk_fault s all (stopped_at name front) words ≡ []
unfolding walked walk_fault
no_more s all id front [] = refl
no_more s all id front (w ∷ ws) = no_more s all id (front ++ w ∷ []) ws

-- the whole parser
abbrev ready_top : Shape
ready_top = record top { is_built = true }

abbrev ready_app : App
ready_app = record { top = ready_top; subs = map shape commands }

abbrev whole : Kinds → Walk → Kinds
whole kinds w =
    let has = is_some (entered ready_app w.stopped) in
    or_else kinds (or_else (entered_fault ready_app w.stopped)
    (or_else (settle_fault [] false w.held) (or_else (defaults_fault (settled [] w.held).rows []) (check_fault ready_top (finished [] w.held) has))))

fault_is : (words : List Text) → fault_of parser words ≡ whole (walk_fault ready_top names start words) (walk [] names nothing_held words)
unfolding parser
fault_is words = refl

subcommand_is : (words : List Text) → subcommand_of parser words ≡ entered ready_app (walk [] names nothing_held words).stopped
unfolding parser
subcommand_is words = refl

pub is_plain : is_simple_and_free parser ≡ true
unfolding parser
is_plain = refl

pub is_simple_app : is_simple parser ≡ true
unfolding parser
is_simple_app = refl

-- the verdict on a line: it has no fault and asks for its command, or it has one and is no command
abbrev Verdict : List Text → Kinds → Option (Text × List Row) → Type 0
Verdict words kinds rows = ((kinds ≡ []) × (asked rows ≡ command_of words)) ⊎ ((is_empty kinds ≡ false) × (command_of words ≡ None))

no_words : Verdict [] (fault_of parser []) (subcommand_of parser [])
unfolding parser clap_on_literals command_of
no_words = inr (refl, refl)

filled_first : (kinds next : Kinds) → is_empty kinds ≡ false → is_empty (or_else kinds next) ≡ false
filled_first [] next h = absurd (true≢false h)
filled_first (k ∷ ks) next h = h

stray : (word : Text) (words : List Text) → entry_of word ≡ None → is_flag word ≡ false → Verdict (word ∷ words) (fault_of parser (word ∷ words)) (subcommand_of parser (word ∷ words))
unfolding command_of walk_fault
stray word words h e =
    let unmet : subcommand_met names idle word ≡ None = ap (option_map (λ s. s.0)) (named word ∙ ap (option_map label) h) in
    let turn : turn_fault ready_top names start word ≡ kind.UnknownArgument ∷ kind.InvalidSubcommand ∷ [] = no_name ready_top names word unmet e in
    let first : is_empty (walk_fault ready_top names start (word ∷ words)) ≡ false =
    filled_first (turn_fault ready_top names start word) (walk_fault ready_top names (walked [] names start word) words) (ap is_empty turn) in
    inr (
      ap is_empty (fault_is (word ∷ words)) ∙ filled_first (walk_fault ready_top names start (word ∷ words)) _ first,
      ap (λ (o : Option Entry). o >>= λ e. made e.forms e.makes words) h,
    )

-- a command's own words
known : (word : Text) (words : List Text) (e : Entry) → entry_of word ≡ Some e → word ≡ e.word → LeafJudged e words
    → Verdict (word ∷ words) (fault_of parser (word ∷ words)) (subcommand_of parser (word ∷ words))
unfolding command_of walk_fault defaults_fault
known word words e h is judged =
    let is_met : subcommand_met names idle word ≡ Some word = ap (option_map (λ s. s.0)) (named word ∙ ap (option_map label) h) ∙ ap Some (sym is) in
    let walk_is : walk [] names nothing_held (word ∷ words) ≡ stopped_at word words =
    ap (λ (w : Walk). fold (walked [] names) w words) (stops [] names word word is_met) ∙ stays [] names word [] words in
    let clean : walk_fault ready_top names start (word ∷ words) ≡ [] =
    ap₂ or_else (a_name ready_top names word word is_met refl)
    (ap (λ (w : Walk). walk_fault ready_top names w words) (stops [] names word word is_met) ∙ no_more ready_top names word [] words) in
    let below : find (λ s. answers_to word (label_of s)) (map shape commands) ≡ Some (shape e) = shaped word ∙ ap (option_map shape) h in
    let level = level_fault (shape e) [] nothing_held words false [] in
    let rows = rows_after (shape e).rules [] words in
    let enters : entered ready_app (Some (word, words)) ≡ Some (e.word, rows) = ap (option_map (λ s. rows_at s words)) below in
    let fault : fault_of parser (word ∷ words) ≡ or_else level [] =
    fault_is (word ∷ words) ∙ ap₂ whole clean walk_is ∙ whole_at word words (Some (shape e)) below in
    let command : command_of (word ∷ words) ≡ made e.forms e.makes words = ap (λ (o : Option Entry). o >>= λ e. made e.forms e.makes words) h in
    let row_is : subcommand_of parser (word ∷ words) ≡ Some (e.word, rows) = subcommand_is (word ∷ words) ∙ ap (λ (w : Walk). entered ready_app w.stopped) walk_is ∙ enters in
    let asks : asked (subcommand_of parser (word ∷ words)) ≡ asked_by e.forms e.makes rows =
    ap asked row_is ∙ ap (λ (o : Option Entry). o >>= λ e. asked_by e.forms e.makes rows) (ap entry_of (sym is) ∙ h) in
    elim judged [
      | inl g ↦ inl (fault ∙ ap (λ (ks : Kinds). or_else ks []) g.0, asks ∙ is_asked e.forms e.makes words rows g.1 ∙ sym command)
      | inr b ↦ inr (ap is_empty fault ∙ filled_first level [] b.0, command ∙ miscounted e.forms e.makes words b.1)
    ]
  where
    whole_at : (word : Text) (words : List Text) (o : Option Shape) → find (λ s. answers_to word (label_of s)) (map shape commands) ≡ o
        → whole [] (stopped_at word words) ≡ option_map_or (λ s. or_else (level_fault s [] nothing_held words false []) []) o (kind.MissingSubcommand ∷ [])
    whole_at word words None h = rw h refl
    whole_at word words (Some s) h = rw h refl

pub verdict : (words : List Text) → list_any is_flag words ≡ false → Verdict words (fault_of parser words) (subcommand_of parser words)
verdict [] bare = no_words
verdict (word ∷ words) bare =
    let parts = no_or (is_flag word) (list_any is_flag words) bare in
    go (entry_of word) refl parts.0 parts.1
  where
    go : (o : Option Entry) → entry_of word ≡ o → is_flag word ≡ false → list_any is_flag words ≡ false
        → Verdict (word ∷ words) (fault_of parser (word ∷ words)) (subcommand_of parser (word ∷ words))
    go None h e rest = stray word words h e
    go (Some x) h e rest =
        let f = found (λ y. PlacedJudged y.forms) (λ y. bytes_eq word y.word) commands x each_ready h in
        known word words x h ((bytes_eq-Decides word x.word).0 f.1) (leaf_judged x f.0 words rest)

-- a word that begins with a hyphen is in no command
hyphen_number : (most : ℕ) (bs : Text) → number_within 1 most (45 ∷ bs) ≡ None
hyphen_number most [] = refl
hyphen_number most (b ∷ bs) = refl

no_flag_value : (form : Form) (word : Text) → is_flag word ≡ true → value_of form word ≡ None
no_flag_value form [] h = absurd (true≢false (sym h))
no_flag_value NAME (b ∷ bs) h = rw (eqb-true b 45 h) refl
no_flag_value DSA (b ∷ bs) h = rw (eqb-true b 45 h) refl
no_flag_value PORT (b ∷ bs) h = ap (λ x. number_within 1 65535 (x ∷ bs)) (eqb-true b 45 h) ∙ hyphen_number 65535 bs
no_flag_value COUNT (b ∷ bs) h = ap (λ x. number_within 1 1000 (x ∷ bs)) (eqb-true b 45 h) ∙ hyphen_number 1000 bs
no_flag_value N (b ∷ bs) h = ap (λ x. number_within 1 1000 (x ∷ bs)) (eqb-true b 45 h) ∙ hyphen_number 1000 bs

no_flag_made : (forms : List Form) (make : Makes forms) (words : List Text) → list_any is_flag words ≡ true → made forms make words ≡ None
no_flag_made forms make [] h = absurd (true≢false (sym h))
no_flag_made [] make (w ∷ ws) h = refl
no_flag_made (f ∷ fs) make (w ∷ ws) h = go (is_flag w) refl (λ e v. no_flag_made fs (make v) ws e)
  where
    more : (o : Option _) → ((v : _) → made fs (make v) ws ≡ None) → (o >>= λ v. made fs (make v) ws) ≡ None
    more None e = refl
    more (Some v) e = e v

    go : (t : Bool) → is_flag w ≡ t → (list_any is_flag ws ≡ true → (v : _) → made fs (make v) ws ≡ None) → (value_of f w >>= λ v. made fs (make v) ws) ≡ None
    go true e k = ap (λ o. o >>= λ v. made fs (make v) ws) (no_flag_value f w e)
    go false e k = more (value_of f w) (k (ap (λ t. t || list_any is_flag ws) (sym e) ∙ h))

each_unflagged : EachOf (λ e. is_flag e.word ≡ false) commands
each_unflagged = (refl, (refl, (refl, (refl, (refl, (refl, (refl, (refl, (refl, (refl, (refl, tt)))))))))))

pub no_flag_command : (words : List Text) → list_any is_flag words ≡ true → command_of words ≡ None
unfolding command_of
no_flag_command [] h = absurd (true≢false (sym h))
no_flag_command (word ∷ words) h = go (entry_of word) refl
  where
    flagged : (e : Entry) (t : Bool) → is_flag word ≡ t → word ≡ e.word → is_flag e.word ≡ false → made e.forms e.makes words ≡ None
    flagged e true is same un = absurd (true≢false (sym is ∙ ap is_flag same ∙ un))
    flagged e false is same un = no_flag_made e.forms e.makes words (ap (λ t. t || list_any is_flag words) (sym is) ∙ h)

    go : (o : Option Entry) → entry_of word ≡ o → (o >>= λ e. made e.forms e.makes words) ≡ None
    go None e = refl
    go (Some x) e =
        let f = found (λ y. is_flag y.word ≡ false) (λ y. bytes_eq word y.word) commands x each_unflagged e in
        flagged x (is_flag word) refl ((bytes_eq-Decides word x.word).0 f.1) f.0

-- what a parse that succeeds asks for, and what one that fails for another reason than memory tells
pub asked_right : (app : App) (words : List Text) (m : ArgMatches) → app ≡ parser → list_any is_flag words ≡ false
    → (is_simple_and_free app ≡ true → fault_of app words ≡ []) → HasMatchesOf app words m → asked (subcommand_rows_of m) ≡ command_of words
asked_right app words m is bare fails matches =
    let clean : fault_of parser words ≡ [] = subst (λ (a : App). is_simple_and_free a ≡ true → fault_of a words ≡ []) is fails is_plain in
    let rows : subcommand_rows_of m ≡ subcommand_of parser words = (subst (λ (a : App). HasMatchesOf a words m) is matches is_simple_app).1 in
    elim (verdict words bare) [
      | inl v ↦ ap asked rows ∙ v.1
      | inr v ↦ absurd (true≢false (sym (ap is_empty clean) ∙ v.0))
    ]

pub refused_right : (app : App) (words : List Text) (e : Error) → app ≡ parser → list_any is_flag words ≡ false
    → (is_simple_and_free app ≡ true → HasKind (fault_of app words) e) → (kind_of e ≡ kind.OutOfMemory → ⊥) → command_of words ≡ None
refused_right app words e is bare fails other =
    let has : HasKind (fault_of parser words) e = subst (λ (a : App). is_simple_and_free a ≡ true → HasKind (fault_of a words) e) is fails is_plain in
    elim (verdict words bare) [
      | inl v ↦ absurd (elim (subst (λ (kinds : Kinds). HasKind kinds e) v.0 has) [ inl k ↦ other k | inr k ↦ k ])
      | inr v ↦ v.1
    ]
