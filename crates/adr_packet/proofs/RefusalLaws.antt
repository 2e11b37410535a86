-- A refusal is spelled in one way.
use Rattle.std.proofs.Common.{◌≡◌, ℕ, true, eqb, List, ◌++◌, Ok, refl, sym, ap, subst, ◌∙◌, arith}
use Rattle.std.specs.Prelude.{MatchBool}
use Rattle.std.proofs.lemmas.Bool.{eqb-true}
use Rattle.adr_call.specs.declared.refusal.ServeRefusal.TheVariants.{Quarantined, WrongController, BadMark, RolledBack, SchemaMismatch, TooOld}
use Rattle.adr_wire.specs.Fields.{id_at, id, u8_at, u8, u32_at, u32, u64_at, u64}
use Rattle.adr_wire.specs.Ranges.{IsId, IsU8, IsU32, IsU64}
use Rattle.adr_wire.specs.Reading.{as_at, then_at}
use Rattle.adr_wire.specs.Spelling.{AreBytes, IsSpelling}
use Rattle.adr_wire.proofs.Combining.{MadeOf, made, in_range_too, passed, pair, followed, either, never, nothing}
use Rattle.adr_wire.proofs.FieldLaws.{id_spelled, u8_spelled, u32_spelled, u64_spelled}
use Rattle.adr_packet.specs.declared.refusal.Refusal.{Refusal}
use Rattle.adr_packet.specs.declared.refusal.Refusal.TheVariants.{Serve, LogFull}
use Rattle.adr_packet.specs.Refusals.{magic, log_table, shown_at, marked_at, table_at, told_at, refusal_at, decoded_refusal, number_of, told, fields, refusal_bytes, IsRefusal}
use Rattle.adr_wire.proofs.HeadedLaws.{first_again, first_only}

abbrev IsShown : List ℕ × (ℕ × ℕ) → Type 0
IsShown p = IsId p.0 × (IsU64 p.1.0 × IsU64 p.1.1)

abbrev shown : List ℕ × (ℕ × ℕ) → List ℕ
shown p = id p.0 ++ (u64 p.1.0 ++ u64 p.1.1)

shown_spelled : IsSpelling IsShown shown shown_at
shown_spelled = pair IsId id id_at id_spelled _ _ _ (pair IsU64 u64 u64_at u64_spelled IsU64 u64 u64_at u64_spelled)

abbrev IsMarked : ℕ × (ℕ × ℕ) → Type 0
IsMarked p = IsU64 p.0 × (IsU64 p.1.0 × IsU64 p.1.1)

abbrev marked : ℕ × (ℕ × ℕ) → List ℕ
marked p = u64 p.0 ++ (u64 p.1.0 ++ u64 p.1.1)

marked_spelled : IsSpelling IsMarked marked marked_at
marked_spelled = pair IsU64 u64 u64_at u64_spelled _ _ _ (pair IsU64 u64 u64_at u64_spelled IsU64 u64 u64_at u64_spelled)

abbrev IsFull : ℕ × ℕ → Type 0
IsFull p = (IsU8 p.0 × (eqb p.0 log_table ≡ true)) × IsU64 p.1

abbrev full : ℕ × ℕ → List ℕ
full p = u8 p.0 ++ u64 p.1

full_spelled : IsSpelling IsFull full (then_at table_at (λ _. u64_at))
full_spelled =
    pair (λ n. IsU8 n × (eqb n log_table ≡ true)) u8 table_at (passed IsU8 u8 u8_at u8_spelled (λ n. eqb n log_table)) IsU64 u64 u64_at u64_spelled

-- ---- what stands behind each number

abbrev IsWrong : List ℕ × List ℕ → Type 0
IsWrong p = IsId p.0 × IsId p.1

abbrev wrong : List ℕ × List ℕ → List ℕ
wrong p = id p.0 ++ id p.1

abbrev AreSchemas : ℕ × ℕ → Type 0
AreSchemas p = IsU32 p.0 × IsU32 p.1

abbrev schemas : ℕ × ℕ → List ℕ
schemas p = u32 p.0 ++ u32 p.1

-- what a refusal of a number says
abbrev Says : ℕ → Refusal → Type 0
Says number r =
    MatchBool (eqb number 23) (r ≡ Serve Quarantined)
    (MatchBool (eqb number 30) (MadeOf IsWrong wrong (λ p. Serve (WrongController p.0 p.1)) told r)
    (MatchBool (eqb number 31) (MadeOf AreSchemas schemas (λ p. Serve (SchemaMismatch p.0 p.1)) told r)
    (MatchBool (eqb number 32) (MadeOf IsShown shown (λ p. Serve (TooOld p.0 p.1.0 p.1.1)) told r)
    (MatchBool (eqb number 33) (MadeOf IsShown shown (λ p. Serve (RolledBack p.0 p.1.0 p.1.1)) told r)
    (MatchBool (eqb number 34) (MadeOf IsMarked marked (λ p. Serve (BadMark p.0 p.1.0 p.1.1)) told r)
    (MatchBool (eqb number 22) (MadeOf IsFull full (λ p. LogFull p.1) told r) ⊥))))))

says : (r : Refusal) → IsRefusal r → Says (number_of r) r
says (Serve Quarantined) q = refl
says (Serve (WrongController mine asked)) q = ((mine, asked), refl, q, refl)
says (Serve (SchemaMismatch mine theirs)) q = ((mine, theirs), refl, q, refl)
says (Serve (TooOld inv purged has)) q = ((inv, (purged, has)), refl, q, refl)
says (Serve (RolledBack inv mine shown)) q = ((inv, (mine, shown)), refl, q, refl)
says (Serve (BadMark prop obj seen)) q = ((prop, (obj, seen)), refl, q, refl)
says (LogFull limit) q = ((log_table, limit), refl, ((omega arith, refl), q), refl)

module _ (place number : ℕ) where
  abbrev OfNumber : Refusal → Type 0
  OfNumber r = IsRefusal r × (number_of r ≡ number)

  out : (n : ℕ) → number ≡ n → (r : Refusal) → OfNumber r → Says n r
  out n e r q = subst (λ (k : ℕ). Says k r) (q.1 ∙ e) (says r q.0)

  of_nothing : number ≡ 23 → IsSpelling OfNumber told (λ rest. Ok (Serve Quarantined, rest))
  of_nothing e = nothing OfNumber told (Serve Quarantined) (tt, sym e) refl (out 23 e)

  of_wrong : number ≡ 30 → IsSpelling OfNumber told (as_at (λ p. Serve (WrongController p.0 p.1)) (then_at id_at (λ _. id_at)))
  of_wrong e = made IsWrong wrong (then_at id_at (λ _. id_at)) (pair IsId id id_at id_spelled IsId id id_at id_spelled) (λ p. Serve (WrongController p.0 p.1)) OfNumber told (out 30 e) (λ p q fits. ((q, sym e), refl))

  of_schema : number ≡ 31 → IsSpelling OfNumber told (as_at (λ p. Serve (SchemaMismatch p.0 p.1)) (then_at u32_at (λ _. u32_at)))
  of_schema e = made AreSchemas schemas (then_at u32_at (λ _. u32_at)) (pair IsU32 u32 u32_at u32_spelled IsU32 u32 u32_at u32_spelled) (λ p. Serve (SchemaMismatch p.0 p.1)) OfNumber told (out 31 e) (λ p q fits. ((q, sym e), refl))

  of_old : number ≡ 32 → IsSpelling OfNumber told (as_at (λ p. Serve (TooOld p.0 p.1.0 p.1.1)) shown_at)
  of_old e = made IsShown shown shown_at shown_spelled (λ p. Serve (TooOld p.0 p.1.0 p.1.1)) OfNumber told (out 32 e) (λ p q fits. ((q, sym e), refl))

  of_rolled : number ≡ 33 → IsSpelling OfNumber told (as_at (λ p. Serve (RolledBack p.0 p.1.0 p.1.1)) shown_at)
  of_rolled e = made IsShown shown shown_at shown_spelled (λ p. Serve (RolledBack p.0 p.1.0 p.1.1)) OfNumber told (out 33 e) (λ p q fits. ((q, sym e), refl))

  of_mark : number ≡ 34 → IsSpelling OfNumber told (as_at (λ p. Serve (BadMark p.0 p.1.0 p.1.1)) marked_at)
  of_mark e = made IsMarked marked marked_at marked_spelled (λ p. Serve (BadMark p.0 p.1.0 p.1.1)) OfNumber told (out 34 e) (λ p q fits. ((q, sym e), refl))

  of_full : number ≡ 22 → IsSpelling OfNumber told (as_at (λ p. LogFull p.1) (then_at table_at (λ _. u64_at)))
  of_full e = made IsFull full (then_at table_at (λ _. u64_at)) full_spelled (λ p. LogFull p.1) OfNumber told (out 22 e) (λ p q fits. ((q.1, sym e), ap (λ (n : ℕ). u8 n ++ u64 p.1) (sym (eqb-true p.0 log_table q.0.1))))

  of_number : IsSpelling OfNumber told (told_at place number)
  of_number =
      either OfNumber told (eqb number 23) _ _ (λ e. of_nothing (eqb-true number 23 e)) (λ n1.
      either OfNumber told (eqb number 30) _ _ (λ e. of_wrong (eqb-true number 30 e)) (λ n2.
      either OfNumber told (eqb number 31) _ _ (λ e. of_schema (eqb-true number 31 e)) (λ n3.
      either OfNumber told (eqb number 32) _ _ (λ e. of_old (eqb-true number 32 e)) (λ n4.
      either OfNumber told (eqb number 33) _ _ (λ e. of_rolled (eqb-true number 33 e)) (λ n5.
      either OfNumber told (eqb number 34) _ _ (λ e. of_mark (eqb-true number 34 e)) (λ n6.
      either OfNumber told (eqb number 22) _ _ (λ e. of_full (eqb-true number 22 e)) (λ n7.
      never OfNumber told place (λ r q. rw (n1, n2, n3, n4, n5, n6, n7) at (out number refl r q)))))))))

small : (r : Refusal) → IsU8 (number_of r)
small (Serve Quarantined) = omega arith
small (Serve (WrongController mine asked)) = omega arith
small (Serve (SchemaMismatch mine theirs)) = omega arith
small (Serve (TooOld inv purged has)) = omega arith
small (Serve (RolledBack inv mine shown)) = omega arith
small (Serve (BadMark prop obj seen)) = omega arith
small (LogFull limit) = omega arith

refusal_spelled : IsSpelling IsRefusal fields refusal_at
unfolding refusal_at
refusal_spelled =
    in_range_too (λ r. IsU8 (number_of r) × IsRefusal r) fields refusal_at
    (followed IsU8 u8 u8_at u8_spelled number_of IsRefusal told told_at (λ place number h. of_number place number))
    IsRefusal (λ r h. (small r, h)) (λ r h. h.1)

pub refusal_again : (r : Refusal) → IsRefusal r → decoded_refusal (refusal_bytes r) ≡ Ok r
refusal_again r p = first_again magic refl IsRefusal fields refusal_at refusal_spelled r p

pub refusal_only : (bytes : List ℕ) (r : Refusal) → AreBytes bytes → decoded_refusal bytes ≡ Ok r → IsRefusal r × (bytes ≡ refusal_bytes r)
refusal_only bytes r fits e = first_only magic refl IsRefusal fields refusal_at refusal_spelled bytes r fits e
