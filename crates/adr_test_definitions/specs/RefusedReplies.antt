-- Refused requests and replies, and the limits of versions and USNs.
use Rattle.std.specs.Prelude.{◌-◌, pos, ℕ, List, [], ◌∷◌, map, filter, not, Option, Some, None, codes}
use Rattle.adr_values.specs.declared.content.Value.TheVariants.{Text, Number}
use Rattle.adr_values.specs.declared.content.Content.TheVariants.{Values}
use Rattle.adr_values.specs.declared.refusal.SchemaRefusal.TheVariants.{BadValue}
use Rattle.adr_call.specs.declared.refusal.ItemFault.TheVariants.{Schema as BreaksSchema}
use Rattle.adr_call.specs.declared.refusal.ServeRefusal.{ServeRefusal}
use Rattle.adr_call.specs.declared.refusal.ServeRefusal.TheVariants as serves
use Rattle.adr_call.specs.declared.refusal.TakeRefusal.{TakeRefusal}
use Rattle.adr_call.specs.declared.refusal.TakeRefusal.TheVariants as takes
use Rattle.adr_call.specs.declared.refusal.WriteRefusal.{WriteRefusal}
use Rattle.adr_call.specs.declared.refusal.WriteRefusal.TheVariants as refused
use Rattle.adr_model.specs.Update.{name_attr}
use Rattle.adr_model.specs.Place.{identifier, root}
use Rattle.adr_model.specs.Store.{Held, State, with_row}
use Rattle.adr_model.specs.Change.{Item}
use Rattle.adr_model.specs.Serve.{Reply, ask, serve}
use Rattle.adr_model.specs.Write.{AddObject, Modify, write, row, usn_limit, version_limit}
use Rattle.adr_model.specs.Take.{take, is_of_attr}
use Rattle.adr_test_definitions.specs.Acting.{first, second, writes, adds, replies, mark}
use Rattle.adr_test_definitions.specs.Lifetimes.{refusal_in}
use Rattle.adr_test_definitions.specs.Runs.{object, stamped}

-- requests that are altered
abbrev pub refused_requests : List (Option ServeRefusal)
refused_requests =
    let q = ask second first.dsa 10 2 in
    refusal_in (serve second q 0)
    ∷ refusal_in (serve first (record q { schema = 2 }) 0)
    ∷ refusal_in (serve first (record q { mark = mark 1 2 3 }) 0)
    ∷ refusal_in (serve first q 0)
    ∷ []

abbrev pub refused_requests_told : List (Option ServeRefusal)
refused_requests_told =
    Some (serves.WrongController (identifier 176) (identifier 160))
    ∷ Some (serves.SchemaMismatch 1 2)
    ∷ Some (serves.BadMark 2 1 3)
    ∷ None
    ∷ []

-- an item without its object's name
abbrev pub unnamed : Item → Item
unnamed i = record i { rows = filter (λ u. not (is_of_attr name_attr u.key)) i.rows }

-- an item with one row more, which gives a number as the mail address
abbrev pub with_a_number : Item → Item
with_a_number i = record i { rows = row (object 16 161 1) (stamped 0 1 0 161 1) 13 (Values (Number (pos 7) ∷ [])) ∷ i.rows }

abbrev pub each_item : Reply → (Item → Item) → Reply
each_item r change = record r { items = map change r.items }

-- replies that are altered
abbrev pub refused_replies : List (Option TakeRefusal)
refused_replies =
    writes first 0 (AddObject (identifier 16) 5 root (codes "Ann") ((10, Text (codes "ann") ∷ []) ∷ [])) (λ a.
    replies (serve a (ask second a.dsa 10 2) 0) [] (λ (r : Reply).
    refusal_in (take second (record r { dest = identifier 192 }))
    ∷ refusal_in (take second (record r { schema = 2 }))
    ∷ refusal_in (take second (each_item r with_a_number))
    ∷ refusal_in (take second (each_item r unnamed))
    ∷ refusal_in (take second r)
    ∷ []))

abbrev pub refused_replies_told : List (Option TakeRefusal)
refused_replies_told =
    Some (takes.NotMine (identifier 192))
    ∷ Some (takes.SchemaMismatch 1 2)
    ∷ Some (takes.BadItem 0 (BreaksSchema (BadValue 13 0)))
    ∷ Some (takes.Incomplete (object 16 161 1))
    ∷ None
    ∷ []

-- a store as it is at a USN
abbrev pub at_usn : ℕ → State → State
at_usn usn s = record s { store = record s.store { usn = usn } }

-- one row more, of a version
abbrev pub at_version : ℕ → State → State
at_version version s =
    let last : Held = record { update = row (object 16 161 1) (stamped 0 version 0 161 1) 12 (Values (Text (codes "d") ∷ [])); local = 1 } in
    record s { store = record s.store { rows = with_row s.store.rows last } }

abbrev pub at_the_limits : List (Option WriteRefusal)
at_the_limits =
    adds first 0 16 (codes "x") (λ a.
    refusal_in (write (at_usn usn_limit a) (AddObject (identifier 17) 4 root (codes "y") []) 0)
    ∷ refusal_in (write (at_usn (usn_limit - 1) a) (AddObject (identifier 17) 4 root (codes "y") []) 0)
    ∷ refusal_in (write (at_version version_limit a) (Modify (identifier 16) ((12, Text (codes "e") ∷ []) ∷ [])) 0)
    ∷ refusal_in (write (at_version (version_limit - 1) a) (Modify (identifier 16) ((12, Text (codes "e") ∷ []) ∷ [])) 0)
    ∷ [])

abbrev pub at_the_limits_told : List (Option WriteRefusal)
at_the_limits_told = Some refused.UsnLimit ∷ None ∷ Some (refused.VersionLimit 12) ∷ None ∷ []
