-- Small runs, written out as updates with the directory that they define.
use Rattle.std.specs.Prelude.{true, false, pos, ℕ, List, [], ◌∷◌, ◌++◌, Bool, codes}
use Rattle.adr_values.specs.declared.stamp.Oid.{Oid}
use Rattle.adr_values.specs.declared.stamp.LinkStamp.{LinkStamp}
use Rattle.adr_values.specs.declared.content.Value.TheVariants.{Text, Number}
use Rattle.adr_values.specs.declared.content.Content.TheVariants.{Class, Name, Dead, Values}
use Rattle.adr_call.specs.declared.directory.Entry.{Entry}
use Rattle.adr_model.specs.Update.{Identifier, Update, LinkOf, IsPresent}
use Rattle.adr_model.specs.Place.{identifier, root, lost_and_found}
use Rattle.adr_model.specs.Write.{row}
use Rattle.adr_test_definitions.specs.Acting.{bare, container, user}

-- a stamp of a row, or of a link that was created at a time
abbrev pub stamped : ℕ → ℕ → ℕ → ℕ → ℕ → LinkStamp
stamped created version time inv usn =
    record { created = created; stamp = record { version = version; time = time; inv = identifier inv; usn = usn } }

abbrev pub object : ℕ → ℕ → ℕ → Oid
object guid inv usn = record { guid = identifier guid; birth = record { inv = identifier inv; usn = usn } }

abbrev pub link : ℕ → Oid → Oid → LinkStamp → Bool → Update
link attr from to stamp present = record { key = LinkOf (record { from = from; attr = attr; to = to }); stamp = stamp; said = IsPresent present }

-- the class and the name of a new object
abbrev pub class_and_name : Oid → LinkStamp → ℕ → List ℕ → Identifier → List Update
class_and_name o stamp class name parent = row o stamp 1 (Class class) ∷ row o stamp 2 (Name name parent) ∷ []

-- one user
abbrev pub one_user : List Update
one_user =
    class_and_name (object 16 161 1) (stamped 0 1 1000 161 1) 5 (codes "Ann") root
    ++ row (object 16 161 1) (stamped 0 1 1000 161 1) 10 (Values (Text (codes "ann") ∷ [])) ∷ []

abbrev pub one_user_shown : List Entry
one_user_shown = user 16 root (codes "Ann") (codes "ann") ∷ []

-- one name twice under the root, by two controllers at one time
abbrev pub name_twice : List Update
name_twice =
    class_and_name (object 16 161 1) (stamped 0 1 10 161 1) 4 (codes "x") root
    ++ class_and_name (object 17 177 1) (stamped 0 1 10 177 1) 4 (codes "X") root

abbrev pub name_twice_shown : List Entry
name_twice_shown = container 16 (codes "x\nCNF:00000000-0000-0000-0000-000000000010") ∷ container 17 (codes "X") ∷ []

-- a name that folds as that of LostAndFound
abbrev pub lost_name : List Update
lost_name = class_and_name (object 16 161 1) (stamped 0 1 10 161 1) 4 (codes "lostandfound") root

abbrev pub lost_name_shown : List Entry
lost_name_shown = container 16 (codes "lostandfound\nCNF:00000000-0000-0000-0000-000000000010") ∷ []

-- two objects that were moved under each other on two controllers
abbrev pub loop_of_two : List Update
loop_of_two =
    class_and_name (object 16 161 1) (stamped 0 1 10 161 1) 3 (codes "a") root
    ++ class_and_name (object 17 161 2) (stamped 0 1 10 161 2) 3 (codes "b") root
    ++ row (object 16 161 1) (stamped 0 2 20 161 3) 2 (Name (codes "a") (identifier 17))
    ∷ row (object 17 161 2) (stamped 0 2 21 177 3) 2 (Name (codes "b") (identifier 16))
    ∷ []

abbrev pub loop_of_two_shown : List Entry
loop_of_two_shown = bare 16 3 (identifier 17) (codes "a") ∷ bare 17 3 lost_and_found (codes "b") ∷ []

-- a child below an object that died
abbrev pub lost_parent : List Update
lost_parent =
    class_and_name (object 16 161 1) (stamped 0 1 10 161 1) 3 (codes "Sales") root
    ++ class_and_name (object 17 177 2) (stamped 0 1 10 177 2) 5 (codes "Ann") (identifier 16)
    ++ row (object 16 161 1) (stamped 0 1 10 161 2) 3 Dead
    ∷ row (object 17 177 2) (stamped 0 1 10 177 2) 10 (Values (Text (codes "ann") ∷ []))
    ∷ []

abbrev pub lost_parent_shown : List Entry
lost_parent_shown = user 17 lost_and_found (codes "Ann") (codes "ann") ∷ []

-- one GUID, born on two controllers
abbrev pub guid_twice : List Update
guid_twice =
    class_and_name (object 16 161 1) (stamped 0 1 20 161 1) 4 (codes "later") root
    ++ class_and_name (object 16 177 1) (stamped 0 1 10 177 1) 3 (codes "sooner") root

abbrev pub guid_twice_shown : List Entry
guid_twice_shown = container 16 (codes "later") ∷ []

-- a group with a member that was removed, one that is there, and one that died
abbrev pub a_group : List Update
a_group =
    class_and_name (object 16 160 1) (stamped 0 1 10 160 1) 6 (codes "g") root
    ++ class_and_name (object 17 160 2) (stamped 0 1 10 160 2) 4 (codes "u") root
    ++ class_and_name (object 18 160 3) (stamped 0 1 10 160 3) 4 (codes "v") root
    ++ class_and_name (object 19 160 4) (stamped 0 1 10 160 4) 4 (codes "w") root
    ++ row (object 16 160 1) (stamped 0 1 10 160 1) 19 (Values (Number (pos 2) ∷ []))
    ∷ row (object 19 160 4) (stamped 0 1 10 160 9) 3 Dead
    ∷ link 30 (object 16 160 1) (object 17 160 2) (stamped 10 1 10 160 5) true
    ∷ link 30 (object 16 160 1) (object 18 160 3) (stamped 10 1 10 160 6) true
    ∷ link 30 (object 16 160 1) (object 19 160 4) (stamped 10 1 10 160 7) true
    ∷ link 30 (object 16 160 1) (object 17 160 2) (stamped 10 2 10 176 8) false
    ∷ []

abbrev pub a_group_shown : List Entry
a_group_shown =
    record (bare 16 6 root (codes "g")) { values = (19, Number (pos 2) ∷ []) ∷ []; links = (30, identifier 18 ∷ []) ∷ [] }
    ∷ container 17 (codes "u")
    ∷ record (container 18 (codes "v")) { links = (31, identifier 16 ∷ []) ∷ [] }
    ∷ []
