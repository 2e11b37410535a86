-- Rounds of a ring: some controllers pull whole cycles, each from the one before it, and then they are compared.
use Rattle.std.specs.Prelude.{ℕ, zero, suc, List, [], ◌∷◌, ◌++◌, Bool, true, false, not, ◌&&◌, ◌==◌, Option, Some, None, map, codes}
use Rattle.std.specs.List.{find, list_all}
use Rattle.std.specs.Option.{option_and_then}
use Rattle.std.specs.Cmp.Lexicographic.{pointwise}
use Rattle.std.specs.Str.{bytes_eq}
use Rattle.adr_values.specs.declared.content.Value.{Value as Item}
use Rattle.adr_values.specs.Values.{same_value}
use Rattle.adr_call.specs.declared.answer.Answer.{Answer}
use Rattle.adr_call.specs.declared.outcome.Outcome.{Outcome}
use Rattle.adr_call.specs.declared.outcome.Outcome.TheVariants as outcomes
use Rattle.adr_call.specs.declared.directory.Entry.{Entry}
use Rattle.adr_model.specs.Update.{Identifier}
use Rattle.adr_model.specs.Store.{State}
use Rattle.adr_model.specs.Replica.{Standing, Up, Down, Failed}
use Rattle.adr_model.specs.World.{World, Name, answer, replica_at, shown}
use Rattle.adr_model.specs.Cycles.{cycle}

-- ---- whole cycles

-- an answer of a pull that lets it go on: a message was made, or taken
abbrev pub is_fine : Outcome → Bool
is_fine outcomes.Ok = true
is_fine (outcomes.Served from to items rows last) = true
is_fine (outcomes.Took items wrote usn) = true
is_fine _ = false

-- why a cycle isn't whole, if it isn't: its answer that isn't ok
abbrev pub unfinished : List Answer → Option Answer
unfinished answers = find (λ a. not (is_fine a.outcome)) answers

-- a cycle that isn't whole ends what follows
abbrev pub or_else : Option Answer → World → (World → World × Option Answer) → World × Option Answer
or_else (Some a) v go = (v, Some a)
or_else None v go = go v

abbrev pub if_whole : World × List Answer → (World → World × Option Answer) → World × Option Answer
if_whole t go = or_else (unfinished t.1) t.0 go

-- who pulls, and from whom
abbrev pub Connection : Type 0
Connection = Name × Name

-- cycles one after the other, up to the first that isn't whole
abbrev pub cycles : List Connection → ℕ → World → World × Option Answer
cycles [] max w = (w, None)
cycles (c ∷ cs) max w = if_whole (cycle w c.0 c.1 max) (λ v. cycles cs max v)

-- ---- the ring

abbrev pub last_of : Name → List Name → Name
last_of first [] = first
last_of first (x ∷ xs) = last_of x xs

abbrev pub in_line : Name → List Name → List Connection
in_line before [] = []
in_line before (x ∷ xs) = (x, before) ∷ in_line x xs

-- the first pulls from the last one, and then each from the one before it
abbrev pub ring : Name → List Name → List Connection
ring first others = (first, last_of first others) ∷ in_line first others

abbrev pub times : ℕ → List Connection → List Connection
times zero cs = []
times (suc n) cs = cs ++ times n cs

-- ---- comparing

abbrev pub same_values : ℕ × List Item → ℕ × List Item → Bool
same_values v w = (v.0 == w.0) && pointwise same_value v.1 w.1

abbrev pub same_links : ℕ × List Identifier → ℕ × List Identifier → Bool
same_links l k = (l.0 == k.0) && pointwise bytes_eq l.1 k.1

abbrev pub same_entry : Entry → Entry → Bool
same_entry e f =
    bytes_eq e.guid f.guid && (e.class == f.class) && bytes_eq e.parent f.parent && bytes_eq e.name f.name
    && pointwise same_values e.values f.values && pointwise same_links e.links f.links

abbrev pub same_cursor : Identifier × ℕ → Identifier × ℕ → Bool
same_cursor c d = bytes_eq c.0 d.0 && (c.1 == d.1)

abbrev pub same_option : {A : Type 0} → (A → A → Bool) → Option A → Option A → Bool
same_option same (Some a) (Some b) = same a b
same_option same None None = true
same_option same _ _ = false

-- all are as the first one
abbrev pub all_alike : {A : Type 0} → (A → A → Bool) → List A → Bool
all_alike same [] = true
all_alike same (x ∷ xs) = list_all (same x) xs

-- what is told of a controller that is up
abbrev pub where_standing : {A : Type 0} → Standing → A → Option A
where_standing Up x = Some x
where_standing Down x = None
where_standing Failed x = None

abbrev pub told_of : {A : Type 0} → World → (State → A) → Name → Option A
told_of w tell name = option_and_then (λ r. where_standing r.standing (tell r.safe)) (replica_at w name)

-- what controllers show, and their vectors
abbrev pub show_alike : World → List Name → Bool
show_alike w names = all_alike (same_option (pointwise same_entry)) (map (told_of w (shown w)) names)

abbrev pub vectors_alike : World → List Name → Bool
vectors_alike w names = all_alike (same_option (pointwise same_cursor)) (map (told_of w (λ s. s.store.vector)) names)

-- what a ring is answered: an answer that isn't ok, or whether all are alike
abbrev pub compared : Name → List Name → ℕ → World → Option Answer → World × List Answer
compared first others rounds v (Some a) = (v, a ∷ [])
compared first others rounds v None = (v, answer (codes "ring") first (outcomes.Compared rounds (show_alike v (first ∷ others)) (vectors_alike v (first ∷ others))) ∷ [])

abbrev pub rings : World → Name → List Name → ℕ → ℕ → World × List Answer
rings w first others rounds max = let t = cycles (times rounds (ring first others)) max w in compared first others rounds t.0 t.1
