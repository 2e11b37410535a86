-- Pulls: equal stamps, replies that are cut, repeated, reordered and older than a restore.
use Rattle.std.specs.Prelude.{true, false, ℕ, List, [], ◌∷◌, ◌++◌, Some, Ok, Err, codes}
use Rattle.adr_values.specs.declared.content.Value.TheVariants.{Text}
use Rattle.adr_call.specs.declared.directory.Entry.{Entry}
use Rattle.adr_call.specs.declared.refusal.TakeRefusal.TheVariants.{Stale, VectorBehind}
use Rattle.adr_model.specs.Place.{identifier, root}
use Rattle.adr_model.specs.Serve.{Reply, ask, serve}
use Rattle.adr_model.specs.Write.{AddObject, Modify}
use Rattle.adr_test_definitions.specs.Acting.{first, second, third, writes, adds, Got, Pulled, replies, delivers, pulls, shows, from_image, mark, account, user}

abbrev pub ann_with_mail : List ℕ → Entry
ann_with_mail mail = record (user 16 root (codes "Ann") (codes "ann")) { values = account (codes "ann") ++ (13, Text mail ∷ []) ∷ [] }

-- of two rows of equal version and time the one of the greater identifier wins, in both orders
abbrev pub equal_stamps : List Pulled × List Entry × List Entry
equal_stamps =
    writes first 10 (AddObject (identifier 16) 5 root (codes "Ann") (account (codes "ann"))) (λ a.
    pulls second a 10 (λ p b.
    writes a 10 (Modify (identifier 16) ((13, Text (codes "a") ∷ []) ∷ [])) (λ a.
    writes b 10 (Modify (identifier 16) ((13, Text (codes "b") ∷ []) ∷ [])) (λ b.
    pulls b a 10 (λ q b.
    pulls a b 10 (λ r a. (p ∷ q ∷ r ∷ [], shows a, shows b)))))))

abbrev pub equal_stamps_told : List Pulled × List Entry × List Entry
equal_stamps_told = (
  Some ((mark 0 0 0, mark 1 1 1, 1, 3, true), Ok (1, 1))
      ∷ Some ((mark 1 1 1, mark 2 2 2, 1, 1, true), Ok (0, 2))
      ∷ Some ((mark 0 0 0, mark 2 2 2, 1, 1, true), Ok (1, 3))
      ∷ [],
  ann_with_mail (codes "b") ∷ [],
  ann_with_mail (codes "b") ∷ [],
)

-- replies of one item: what is written meanwhile comes again in the end
abbrev pub cut : List Pulled
cut =
    adds first 0 16 (codes "x") (λ a. adds a 0 17 (codes "y") (λ a. adds a 0 18 (codes "z") (λ a.
    pulls second a 1 (λ p b.
    writes a 0 (Modify (identifier 16) ((12, Text (codes "d") ∷ []) ∷ [])) (λ a.
    pulls b a 1 (λ q b. pulls b a 1 (λ r b. pulls b a 1 (λ t b. p ∷ q ∷ r ∷ t ∷ []))))))))

abbrev pub cut_told : List Pulled
cut_told =
    Some ((mark 0 0 0, mark 1 0 3, 1, 2, false), Ok (1, 1))
    ∷ Some ((mark 1 0 3, mark 2 0 4, 1, 2, false), Ok (1, 2))
    ∷ Some ((mark 2 0 4, mark 3 0 4, 1, 2, false), Ok (1, 3))
    ∷ Some ((mark 3 0 4, mark 4 4 4, 1, 3, true), Ok (1, 4))
    ∷ []

-- a reply that is delivered twice
abbrev pub repeated : List Got
repeated =
    adds first 0 16 (codes "x") (λ a.
    replies (serve a (ask second a.dsa 10 2) 0) [] (λ (r : Reply). delivers second r (λ g b. delivers b r (λ h b. g ∷ h ∷ []))))

abbrev pub repeated_told : List Got
repeated_told = Ok (1, 1) ∷ Err (Stale (mark 1 1 1) (mark 0 0 0)) ∷ []

-- two replies to one state, delivered the later one first
abbrev pub reordered : List Got
reordered =
    adds first 0 16 (codes "x") (λ a. adds a 0 17 (codes "y") (λ a.
    replies (serve a (ask second a.dsa 1 2) 0) [] (λ (one : Reply).
    replies (serve a (ask second a.dsa 10 2) 0) [] (λ (all : Reply). delivers second all (λ g b. delivers b one (λ h b. g ∷ h ∷ []))))))

abbrev pub reordered_told : List Got
reordered_told = Ok (2, 2) ∷ Err (Stale (mark 2 2 2) (mark 0 0 0)) ∷ []

-- a reply that was asked for before a restore, by a controller that had seen more
abbrev pub older_than_restore : List Got
older_than_restore =
    adds first 0 16 (codes "x") (λ a. adds second 0 17 (codes "y") (λ b.
    replies (serve a (ask b a.dsa 10 2) 0) [] (λ (r : Reply). delivers (from_image second second.dsa (identifier 178)) r (λ g b. g ∷ []))))

abbrev pub older_than_restore_told : List Got
older_than_restore_told = Err (VectorBehind (identifier 177) 0 1) ∷ []

-- of two replies that end at one object and one property, the one that was made later is not the other
abbrev pub compared_by_seen : List Got
compared_by_seen =
    adds first 0 16 (codes "x") (λ a. adds a 0 17 (codes "y") (λ a.
    pulls third a 10 (λ p c. pulls second c 1 (λ q b.
    replies (serve a (ask b a.dsa 1 2) 0) [] (λ (r1 : Reply). adds a 0 18 (codes "z") (λ a2.
    replies (serve a2 (ask b a.dsa 1 2) 0) [] (λ (r2 : Reply). delivers b r1 (λ g after1.
    replies (serve a2 (ask after1 a.dsa 1 2) 0) [] (λ (r3 : Reply).
    delivers (from_image b b.dsa (identifier 178)) r2 (λ h again. delivers again r3 (λ k last. g ∷ h ∷ k ∷ [])))))))))))

abbrev pub compared_by_seen_told : List Got
compared_by_seen_told = Ok (0, 1) ∷ Ok (0, 1) ∷ Err (Stale (mark 1 0 3) (mark 1 0 2)) ∷ []
