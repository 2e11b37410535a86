-- Conflicts of two controllers: one name twice, a lost parent, a loop, and links that are written on both sides.
use Rattle.std.specs.Prelude.{true, pos, ℕ, List, [], ◌∷◌, Some, Ok, codes}
use Rattle.adr_values.specs.declared.content.Value.TheVariants.{Text, Number}
use Rattle.adr_call.specs.declared.directory.Entry.{Entry}
use Rattle.adr_model.specs.Update.{Identifier}
use Rattle.adr_model.specs.Place.{identifier, root, lost_and_found}
use Rattle.adr_model.specs.Store.{State}
use Rattle.adr_model.specs.Write.{AddObject, Modify, Rename, Delete, AddLink, RemoveLink}
use Rattle.adr_test_definitions.specs.Acting.{first, second, third, writes, adds, Pulled, pulls, shows, mark, bare, container, account, user}

-- two controllers pull from each other, the second one first
abbrev pub exchange : {A : Type 0} → State → State → (Pulled → Pulled → State → State → A) → A
exchange a b next = pulls b a 10 (λ p b. pulls a b 10 (λ q a. next p q a b))

abbrev pub one_name_twice : List Entry × List Entry
one_name_twice = adds first 10 16 (codes "x") (λ a. adds second 10 17 (codes "X") (λ b. exchange a b (λ p q a b. (shows a, shows b))))

abbrev pub one_name_twice_shown : List Entry
one_name_twice_shown = container 16 (codes "x\nCNF:00000000-0000-0000-0000-000000000010") ∷ container 17 (codes "X") ∷ []

abbrev pub unit : ℕ → Identifier → List ℕ → Entry
unit guid parent name = bare guid 3 parent name

-- a child that was added under an object that died elsewhere
abbrev pub lost_parent : Pulled × List Entry × List Entry
lost_parent =
    writes first 10 (AddObject (identifier 16) 3 root (codes "Sales") []) (λ a. pulls second a 10 (λ p b.
    writes a 10 (Delete (identifier 16)) (λ a. writes b 10 (AddObject (identifier 17) 5 (identifier 16) (codes "Ann") (account (codes "ann"))) (λ b.
    pulls a b 10 (λ q a. pulls b a 10 (λ r b. (r, shows a, shows b)))))))

abbrev pub lost_child : List Entry
lost_child = user 17 lost_and_found (codes "Ann") (codes "ann") ∷ []

abbrev pub lost_parent_told : Pulled × List Entry × List Entry
lost_parent_told = (Some ((mark 1 1 1, mark 3 3 3, 1, 1, true), Ok (1, 3)), lost_child, lost_child)

-- two objects that are moved under each other
abbrev pub moved_in_a_loop : List Entry × List Entry
moved_in_a_loop =
    writes first 10 (AddObject (identifier 16) 3 root (codes "a") []) (λ a. writes a 10 (AddObject (identifier 17) 3 root (codes "b") []) (λ a.
    pulls second a 10 (λ p b. writes a 20 (Rename (identifier 16) (identifier 17) (codes "a")) (λ a.
    writes b 21 (Rename (identifier 17) (identifier 16) (codes "b")) (λ b. exchange a b (λ q r a b. (shows a, shows b)))))))

abbrev pub moved_in_a_loop_shown : List Entry
moved_in_a_loop_shown = unit 16 (identifier 17) (codes "a") ∷ unit 17 lost_and_found (codes "b") ∷ []

-- one member is added here and another one removed there
abbrev pub two_members : Pulled × List Entry × List Entry
two_members =
    writes first 10 (AddObject (identifier 16) 6 root (codes "g") ((19, Number (pos 2) ∷ []) ∷ [])) (λ a.
    writes a 10 (AddObject (identifier 17) 5 root (codes "u") (account (codes "u"))) (λ a.
    writes a 10 (AddObject (identifier 18) 5 root (codes "v") (account (codes "v"))) (λ a.
    writes a 10 (AddLink (identifier 16) 30 (identifier 17)) (λ a. pulls second a 10 (λ p b.
    writes a 10 (AddLink (identifier 16) 30 (identifier 18)) (λ a. writes b 10 (RemoveLink (identifier 16) 30 (identifier 17)) (λ b.
    exchange a b (λ q r a b. (p, shows a, shows b)))))))))

abbrev pub person : ℕ → List ℕ → List (ℕ × List Identifier) → Entry
person guid name links = record (user guid root name name) { links = links }

abbrev pub one_member : List Entry
one_member =
    record { guid = identifier 16; class = 6; parent = root; name = codes "g"; values = (19, Number (pos 2) ∷ []) ∷ []; links = (30, identifier 18 ∷ []) ∷ [] }
    ∷ person 17 (codes "u") []
    ∷ person 18 (codes "v") ((31, identifier 16 ∷ []) ∷ [])
    ∷ []

abbrev pub two_members_told : Pulled × List Entry × List Entry
two_members_told = (Some ((mark 0 0 0, mark 4 4 4, 4, 10, true), Ok (4, 4)), one_member, one_member)

-- a dead object is sent by its class, its name and its death alone, and its links are gone
abbrev pub stripped_by_death : List Pulled × List Entry
stripped_by_death =
    writes first 10 (AddObject (identifier 16) 6 root (codes "g") ((19, Number (pos 2) ∷ []) ∷ [])) (λ a.
    writes a 10 (AddObject (identifier 17) 5 root (codes "u") (account (codes "u"))) (λ a.
    writes a 10 (AddLink (identifier 16) 30 (identifier 17)) (λ a. pulls second a 10 (λ p b.
    writes a 10 (Delete (identifier 17)) (λ a. pulls third a 10 (λ q c. pulls b a 10 (λ r b. pulls third b 10 (λ t d. (p ∷ q ∷ r ∷ t ∷ [], shows b)))))))))

abbrev pub stripped_by_death_told : List Pulled × List Entry
stripped_by_death_told = (
  Some ((mark 0 0 0, mark 3 3 3, 3, 7, true), Ok (3, 3))
      ∷ Some ((mark 0 0 0, mark 4 4 4, 2, 6, true), Ok (2, 2))
      ∷ Some ((mark 3 3 3, mark 4 4 4, 1, 1, true), Ok (1, 4))
      ∷ Some ((mark 0 0 0, mark 4 4 4, 2, 6, true), Ok (2, 2))
      ∷ [],
  record { guid = identifier 16; class = 6; parent = root; name = codes "g"; values = (19, Number (pos 2) ∷ []) ∷ []; links = [] } ∷ [],
)

-- one GUID is born twice: the one of the lesser stamp is hidden, and still learns what is written to it
abbrev pub born_twice : List Pulled × List Entry
born_twice =
    adds first 20 16 (codes "later") (λ a. adds second 10 16 (codes "sooner") (λ b. pulls a b 10 (λ p a.
    writes b 30 (Modify (identifier 16) ((12, Text (codes "d") ∷ []) ∷ [])) (λ b. pulls a b 10 (λ q a. (p ∷ q ∷ [], shows a))))))

abbrev pub born_twice_told : List Pulled × List Entry
born_twice_told = (
  Some ((mark 0 0 0, mark 1 1 1, 1, 2, true), Ok (1, 2))
      ∷ Some ((mark 1 1 1, mark 2 2 2, 1, 1, true), Ok (1, 3))
      ∷ [],
  container 16 (codes "later") ∷ [],
)
