-- The sets of a line are read as the values that they give, and what was read is spelled there.
use Rattle.std.proofs.Common.{◌≡◌, ℕ, zero, suc, ◌+◌, ◌<◌, ◌≤◌, Bool, true, false, cond, List, [], ◌∷◌, ◌++◌, length, Option, Some, refl, ap, ◌∙◌, length-append, length-drop, arith}
use Rattle.std.specs.Prelude.{◌==◌, codes}
use Rattle.std.proofs.lemmas.Bool.{eqb-true, ne_eqb}
use Rattle.std.proofs.lemmas.List.{nil_from_length}
use Rattle.adr_values.specs.Assignments.{Given}
use Rattle.adr_values.specs.declared.content.Value.{Value as Item}
use Rattle.adr_token.specs.Gives.{◌>>=◌}
use Rattle.adr_token.specs.Spelled.{SpellsSet}
use Rattle.adr_token.specs.Values.{set_at}
use Rattle.adr_token.specs.Words.{ended, unspaced}
use Rattle.adr_token.proofs.WordLaws.{bind_some, if_some}
use Rattle.adr_schedule.specs.Sets.{sets_at, sets_within, with_set, with_sets}
use Rattle.adr_schedule.specs.Grammar.{sets, AreSpelled, IsNext, Set}
use Rattle.adr_schedule.proofs.TokenLaws.{set_next, set_read}

pub none_left : (bytes : List ℕ) → (length (unspaced bytes) == 0) ≡ true → unspaced bytes ≡ []
none_left bytes h = nil_from_length (unspaced bytes) (eqb-true _ 0 h)

-- a set has a byte
set_long : (attr : ℕ) (values : List Item) (token : List ℕ) → SpellsSet attr values token → 0 < length token
set_long attr values token s =
    let size : length token ≡ length (s.0 ++ codes "=") + length s.1 = ap length s.4 ∙ length-append (s.0 ++ codes "=") s.1 in
    omega (arith, length-append s.0 (codes "="))

-- where it stands the line goes on, and behind it less is left
record GoesOn (bytes rest : List ℕ) : Type 0 where
  more : (length (unspaced bytes) == 0) ≡ false
  shorter : length rest < length bytes

goes_on : (attr : ℕ) (values : List Item) (bytes rest : List ℕ) → IsNext (Set attr values) bytes rest → GoesOn bytes rest
goes_on attr values bytes rest next =
    let long = set_long attr values next.0 next.1 in
    let size : length (unspaced bytes) ≡ length next.0 + length rest = ap length next.2.0 ∙ length-append next.0 rest in
    let within : length (unspaced bytes) ≤ length bytes = simp length-drop (omega arith) in
    record { more = ne_eqb (length (unspaced bytes)) 0 (λ none. omega arith); shorter = omega arith }

-- ---- what was read is spelled

-- some sets of a line that give these values behind others
pub record Were (given values : List Given) (bytes : List ℕ) : Type 0 where
  pub order : List Given
  pub give : with_sets given order ≡ Some values
  pub spelled : AreSpelled (sets order) bytes

none_were : (given values : List Given) (bytes : List ℕ) → ended bytes given ≡ Some values → Were given values bytes
none_were given values bytes h =
    let last = if_some (length (unspaced bytes) == 0) given values h in
    record { order = []; give = ap Some last.1; spelled = none_left bytes last.0 }

were_by : (most : ℕ) (given values : List Given) (bytes : List ℕ) (t : Bool) → (length (unspaced bytes) == 0) ≡ t
    → cond t (Some given) (set_at bytes >>= λ set. with_set given set.0 >>= λ more. sets_within most more set.1) ≡ Some values
    → ((more : List Given) (rest : List ℕ) → sets_within most more rest ≡ Some values → Were more values rest) → Were given values bytes
were_by most given values bytes true at h go = record { order = []; give = h; spelled = none_left bytes at }
were_by most given values bytes false at h go =
    let s = bind_some (set_at bytes) (λ set. with_set given set.0 >>= λ more. sets_within most more set.1) values h in
    let w = bind_some (with_set given s.0.0) (λ more. sets_within most more s.0.1) values s.2 in
    let m = go w.0 s.0.1 w.2 in
    record {
      order = s.0.0 ∷ m.order;
      give = ap (λ (o : Option (List Given)). o >>= λ more. with_sets more m.order) w.1 ∙ m.give;
      spelled = (s.0.1, set_next bytes s.0 s.1, m.spelled);
    }

within_were : (most : ℕ) (given values : List Given) (bytes : List ℕ) → sets_within most given bytes ≡ Some values → Were given values bytes
within_were zero given values bytes h = none_were given values bytes h
within_were (suc most) given values bytes h =
    were_by most given values bytes (length (unspaced bytes) == 0) refl h (λ more rest g. within_were most more values rest g)

pub sets_were : (bytes : List ℕ) (values : List Given) → sets_at bytes ≡ Some values → Were [] values bytes
unfolding sets_at
sets_were bytes values h = within_were (length bytes) [] values bytes h

-- ---- what is spelled is read

within_read : (most : ℕ) (given values order : List Given) (bytes : List ℕ) → length bytes ≤ most → with_sets given order ≡ Some values → AreSpelled (sets order) bytes
    → sets_within most given bytes ≡ Some values
within_read zero given values [] bytes small w s = rw s w
within_read (suc most) given values [] bytes small w s = rw s w
within_read zero given values (set ∷ order) bytes small w s =
    let on = goes_on set.0 set.1 bytes s.0 s.1 in absurd (omega (arith, on.shorter))
within_read (suc most) given values (set ∷ order) bytes small w s =
    let t = bind_some (with_set given set) (λ more. with_sets more order) values w in
    let on = goes_on set.0 set.1 bytes s.0 s.1 in
    rw (on.more, set_read set.0 set.1 bytes s.0 s.1, t.1) (within_read most t.0 values order s.0 (omega (arith, on.shorter)) t.2 s.2)

pub sets_read : (values order : List Given) (bytes : List ℕ) → with_sets [] order ≡ Some values → AreSpelled (sets order) bytes → sets_at bytes ≡ Some values
unfolding sets_at
sets_read values order bytes w s = within_read (length bytes) [] values order bytes (omega arith) w s

-- ---- one set after another

-- what is left to read of a line gives what the line gives
pub record Reads (given : List Given) (bytes : List ℕ) (all : Option (List Given)) : Type 0 where
  pub most : ℕ
  pub enough : length bytes ≤ most
  pub same : sets_within most given bytes ≡ all

-- before the end the next set tells
on_by : (most : ℕ) (given : List Given) (bytes : List ℕ) (all : Option (List Given)) → length bytes ≤ most → (length (unspaced bytes) ≡ 0 → ⊥) → sets_within most given bytes ≡ all
    → (fewer : ℕ) × (length bytes ≤ suc fewer) × ((set_at bytes >>= λ set. with_set given set.0 >>= λ more. sets_within fewer more set.1) ≡ all)
on_by zero given bytes all small more same = let within : length (unspaced bytes) ≤ length bytes = simp length-drop (omega arith) in absurd (more (omega arith))
on_by (suc most) given bytes all small more same = (most, small, rw (ne_eqb (length (unspaced bytes)) 0 more) at same)

pub set_shorter : (bytes rest : List ℕ) (set : Given) → set_at bytes ≡ Some (set, rest) → length rest < length bytes
set_shorter bytes rest set at = (goes_on set.0 set.1 bytes rest (set_next bytes (set, rest) at)).shorter

pub reads_on : (given more : List Given) (bytes rest : List ℕ) (set : Given) (all : Option (List Given)) → Reads given bytes all → (length (unspaced bytes) ≡ 0 → ⊥)
    → set_at bytes ≡ Some (set, rest) → with_set given set ≡ Some more → Reads more rest all
reads_on given more bytes rest set all r left at is =
    let on = on_by r.most given bytes all r.enough left r.same in
    let shorter = set_shorter bytes rest set at in
    record { most = on.0; enough = omega (arith, on.1); same = rw (at, is) at on.2 }
