-- Where the next area stands.
use Rattle.std.proofs.Common.{◌≡◌, inl, inr, ⊎_elim, ℕ, ◌+◌, ◌≤◌, ◌<◌, Bool, true, false, sym, ◌∙◌, arith}
use Rattle.std.specs.Prelude.{nat_lt, ◌||◌, not}
use Rattle.std.proofs.lemmas.Bool.{cases_lt, lt-ltb}
use Rattle.adr_model.specs.Store.{Store}
use Rattle.adr_model.specs.Change.{Change}
use Rattle.adr_model.specs.Lengths.{Log, area_version, first_area, image_length, is_due, checkpointed}
use Rattle.adr_law_journal.specs.Areas.{IsFree, other_log}
use Rattle.adr_law_journal.proofs.Counts.{enough, too_few}

-- it is free there
pub free_place : (log : Log) (s : Store) (n : ℕ) → n ≡ 7 + image_length s → IsFree log (checkpointed log s).place n
free_place log s n is = ⊎_elim
    (λ (short : log.place < first_area + 7 + image_length s). inl (too_few (first_area + 7 + image_length s) log.place first_area log.log_end short))
    (λ (room : first_area + 7 + image_length s ≤ log.place).
    let at : (checkpointed log s).place ≡ first_area = enough (first_area + 7 + image_length s) log.place first_area log.log_end room in
    inr (omega (arith, at), omega (arith, at, is, room)))
    (cases_lt log.place (first_area + 7 + image_length s))

-- and it becomes the next log
pub next_area : (log : Log) (s : Store) (n : ℕ) → n ≡ 6 + image_length s → other_log log (checkpointed log s).place area_version n ≡ checkpointed log s
next_area log s n is =
    let place = (checkpointed log s).place in
    let first_is : place + n ≡ place + 6 + image_length s = omega (arith, is) in
    let end_is : place + n + 1 ≡ place + 7 + image_length s = omega (arith, is) in
    λ i. record { second = not log.second; place = place; version = area_version; first = first_is i; log_end = end_is i }

-- where none is due, the log is of the version that is written
pub written_now : (log : Log) (c : Change) → is_due log c ≡ false → log.version ≤ area_version → log.version ≡ area_version
written_now log c undue le = ⊎_elim
    (λ (lt : log.version < area_version). absurd (cc (sym (lt-ltb log.version area_version lt) ∙ second_of _ (nat_lt log.version area_version) undue)))
    (λ (ge : area_version ≤ log.version). omega (arith, le, ge))
    (cases_lt log.version area_version)
  where
    second_of : (a b : Bool) → (a || b) ≡ false → b ≡ false
    second_of true b is = absurd (cc is)
    second_of false b is = is
