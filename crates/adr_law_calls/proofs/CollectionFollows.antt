-- A collection takes a USN where it removes anything, and so follows in its log.
use Rattle.std.proofs.Common.{◌≡◌, ◌⊎◌, inl, inr, ⊎_elim, ℕ, suc, ◌+◌, List, [], ◌∷◌, length, Ok, refl, ap, arith, if◌then◌else◌}
use Rattle.std.proofs.lemmas.Bool.{lt-ltb}
use Rattle.adr_values.specs.declared.stamp.Oid.{Oid}
use Rattle.adr_model.specs.Member.{Member}
use Rattle.adr_model.specs.Update.{Update}
use Rattle.adr_model.specs.Store.{State}
use Rattle.adr_model.specs.Change.{Change}
use Rattle.adr_model.specs.LocalLog.{Follows}
use Rattle.adr_law_knowledge.proofs.Refusing.{answered}
use Rattle.adr_model.specs.Collect.{deaths_to_collect, collection, collect_refusal, collect}

pub collect_is_collection : (s : State) (now lifetime : ℕ) (c : Change) → collect s now lifetime ≡ Ok c → collection s (deaths_to_collect s now lifetime) ≡ c
collect_is_collection s now lifetime c e =
    (answered (collect_refusal s (collection s (deaths_to_collect s now lifetime))) (collection s (deaths_to_collect s now lifetime)) c e).1

-- nothing is removed and no USN is taken, or something is and one is
pub usn_of_collection : (s : State) (ds : List (Oid × Update)) → ((ds ≡ []) × ((collection s ds).usn ≡ s.store.usn)) ⊎ (((d : Oid × Update) × Member d ds) × ((collection s ds).usn ≡ s.store.usn + 1))
usn_of_collection s [] = inl (refl, omega arith)
usn_of_collection s (d ∷ ds) = inr ((d, inl refl), ap (λ b. s.store.usn + (if b then 1 else 0)) (lt-ltb 0 (suc (length ds)) (omega arith)))

pub collection_follows : (last : ℕ) (s : State) (ds : List (Oid × Update)) → s.store.usn ≡ last → Follows last (collection s ds)
collection_follows last s ds same = record {
  rises = ⊎_elim (λ t. omega (arith, t.1, same)) (λ t. omega (arith, t.1, same)) (usn_of_collection s ds);
  above = λ x m. absurd m;
  within = λ x m. absurd m;
  idle = λ le. ⊎_elim
      (λ t. (refl, ap (λ es. (collection s es).removed) t.0))
      (λ t. absurd (omega (arith, t.1, same, le)))
      (usn_of_collection s ds);
}
