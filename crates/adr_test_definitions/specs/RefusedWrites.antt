-- Refused writes.
use Rattle.std.specs.Prelude.{List, [], ◌∷◌, map, Option, Some, None, codes}
use Rattle.adr_values.specs.declared.content.Value.TheVariants.{Text}
use Rattle.adr_values.specs.declared.refusal.SchemaRefusal.TheVariants.{UnknownClass, UnknownAttribute, NotAllowed, MissingMust, BadValue, IsLink, NotLink, BadName}
use Rattle.adr_call.specs.declared.refusal.WriteRefusal.{WriteRefusal}
use Rattle.adr_call.specs.declared.refusal.WriteRefusal.TheVariants as refused
use Rattle.adr_model.specs.Place.{identifier, root}
use Rattle.adr_model.specs.Store.{State}
use Rattle.adr_model.specs.Write.{Write, AddObject, Modify, Rename, Delete, AddLink, RemoveLink, write}
use Rattle.adr_test_definitions.specs.Acting.{first, writes, account}
use Rattle.adr_test_definitions.specs.Lifetimes.{refusal_in}

-- a controller with a unit and a user in it
abbrev pub with_unit : {A : Type 0} → (State → A) → A
with_unit next =
    writes first 0 (AddObject (identifier 16) 3 root (codes "o") []) (λ a.
    writes a 0 (AddObject (identifier 17) 5 (identifier 16) (codes "u") (account (codes "u"))) next)

abbrev pub refusals : State → List Write → List (Option WriteRefusal)
refusals s ws = map (λ (w : Write). refusal_in (write s w 0)) ws

abbrev pub by_the_schema : List Write
by_the_schema =
    AddObject (identifier 18) 99 root (codes "n") []
    ∷ Modify (identifier 17) ((99, Text (codes "n") ∷ []) ∷ [])
    ∷ Modify (identifier 17) ((20, Text (codes "n") ∷ []) ∷ [])
    ∷ Modify (identifier 17) ((10, []) ∷ [])
    ∷ Modify (identifier 17) ((15, Text (codes "7") ∷ []) ∷ [])
    ∷ Modify (identifier 17) ((32, Text (codes "n") ∷ []) ∷ [])
    ∷ AddLink (identifier 17) 13 (identifier 16)
    ∷ AddObject (identifier 18) 4 (identifier 17) (codes "n") []
    ∷ AddObject (identifier 18) 4 root (codes " n") []
    ∷ []

abbrev pub by_the_schema_told : List (Option WriteRefusal)
by_the_schema_told =
    Some (refused.Schema UnknownClass)
    ∷ Some (refused.Schema (UnknownAttribute 99))
    ∷ Some (refused.Schema (NotAllowed 20))
    ∷ Some (refused.Schema (MissingMust 10))
    ∷ Some (refused.Schema (BadValue 15 0))
    ∷ Some (refused.Schema (IsLink 32))
    ∷ Some (refused.Schema (NotLink 13))
    ∷ Some refused.BadSuperior
    ∷ Some (refused.Schema (BadName 0))
    ∷ []

abbrev pub by_the_tree : List Write
by_the_tree =
    Delete (identifier 18)
    ∷ AddObject (identifier 18) 4 (identifier 19) (codes "n") []
    ∷ AddObject (identifier 18) 4 root (codes "lostandfound") []
    ∷ AddObject (identifier 18) 4 root (codes "O") []
    ∷ Rename (identifier 16) (identifier 17) (codes "o")
    ∷ Delete (identifier 16)
    ∷ Delete (identifier 2)
    ∷ AddObject (identifier 17) 4 root (codes "n") []
    ∷ RemoveLink (identifier 17) 32 (identifier 17)
    ∷ Rename (identifier 16) root (codes "O")
    ∷ []

abbrev pub by_the_tree_told : List (Option WriteRefusal)
by_the_tree_told =
    Some (refused.NoObject (identifier 18))
    ∷ Some (refused.NoParent (identifier 19))
    ∷ Some (refused.NameTaken (identifier 2))
    ∷ Some (refused.NameTaken (identifier 16))
    ∷ Some refused.WouldLoop
    ∷ Some (refused.HasChildren (identifier 17))
    ∷ Some (refused.Fixed (identifier 2))
    ∷ Some (refused.GuidThere (identifier 17))
    ∷ Some refused.LinkNotThere
    ∷ None
    ∷ []

-- a link that is there, and an object that died
abbrev pub twice : List (Option WriteRefusal)
twice =
    with_unit (λ a.
    writes a 0 (AddLink (identifier 17) 32 (identifier 17)) (λ b.
    writes b 0 (Delete (identifier 17)) (λ c.
    refusal_in (write b (AddLink (identifier 17) 32 (identifier 17)) 0) ∷ refusal_in (write c (Delete (identifier 17)) 0) ∷ [])))

abbrev pub twice_told : List (Option WriteRefusal)
twice_told = Some refused.LinkThere ∷ Some (refused.Deleted (identifier 17)) ∷ []
