-- The names of a line are read as they stand, and what was read is spelled there.
use Rattle.std.proofs.Common.{◌≡◌, ℕ, zero, suc, ◌+◌, ◌<◌, ◌≤◌, Bool, true, false, cond, List, [], ◌∷◌, ◌++◌, length, Option, Some, refl, ap, ◌∙◌, sym, subst, length-append, length-drop, append-nil, arith}
use Rattle.std.specs.Prelude.{◌==◌, nat_le, ◌||◌}
use Rattle.std.specs.Str.{bytes_eq}
use Rattle.std.proofs.lemmas.Bool.{ne_eqb}
use Rattle.adr_token.specs.Gives.{◌>>=◌}
use Rattle.adr_token.specs.Words.{ended, unspaced, name_at, is_name}
use Rattle.adr_token.proofs.WordLaws.{bind_some, if_some}
use Rattle.adr_schedule.specs.Limits.{controller_limit}
use Rattle.adr_schedule.specs.Members.{is_member, with_name, with_names, names_within, names_at}
use Rattle.adr_schedule.specs.Grammar.{named, AreSpelled, IsNext, Name}
use Rattle.adr_schedule.proofs.LineSets.{none_left}
use Rattle.adr_schedule.proofs.RisingLemmas.{unless_some}
use Rattle.adr_schedule.proofs.TokenLaws.{name_next, name_read}

-- a name has a byte
name_long : (name : List ℕ) → is_name name ≡ true → 0 < length name
name_long [] h = absurd (cc)
name_long (b ∷ bs) h = omega arith

-- where it stands the line goes on, and behind it less is left
record GoesOn (bytes rest : List ℕ) : Type 0 where
  more : (length (unspaced bytes) == 0) ≡ false
  shorter : length rest < length bytes

goes_on : (name bytes rest : List ℕ) → IsNext (Name name) bytes rest → GoesOn bytes rest
goes_on name bytes rest next =
    let long = name_long name next.1.0 in
    let same : length next.0 ≡ length name = ap length next.1.1 in
    let size : length (unspaced bytes) ≡ length next.0 + length rest = ap length next.2.0 ∙ length-append next.0 rest in
    let within : length (unspaced bytes) ≤ length bytes = simp length-drop (omega arith) in
    record { more = ne_eqb (length (unspaced bytes)) 0 (λ none. omega arith); shorter = omega arith }

-- ---- what was read is spelled

-- some names of a line that make these of others
pub record Were (first : List ℕ) (names all : List (List ℕ)) (bytes : List ℕ) : Type 0 where
  pub order : List (List ℕ)
  pub give : with_names first names order ≡ Some all
  pub spelled : AreSpelled (named order) bytes

none_were : (first : List ℕ) (names all : List (List ℕ)) (bytes : List ℕ) → ended bytes names ≡ Some all → Were first names all bytes
none_were first names all bytes h =
    let last = if_some (length (unspaced bytes) == 0) names all h in
    record { order = []; give = ap Some last.1; spelled = none_left bytes last.0 }

were_by : (most : ℕ) (first : List ℕ) (names all : List (List ℕ)) (bytes : List ℕ) (t : Bool) → (length (unspaced bytes) == 0) ≡ t
    → cond t (Some names) (name_at bytes >>= λ name. with_name first names name.0 >>= λ more. names_within most first more name.1) ≡ Some all
    → ((more : List (List ℕ)) (rest : List ℕ) → names_within most first more rest ≡ Some all → Were first more all rest) → Were first names all bytes
were_by most first names all bytes true at h go = record { order = []; give = h; spelled = none_left bytes at }
were_by most first names all bytes false at h go =
    let s = bind_some (name_at bytes) (λ name. with_name first names name.0 >>= λ more. names_within most first more name.1) all h in
    let w = bind_some (with_name first names s.0.0) (λ more. names_within most first more s.0.1) all s.2 in
    let m = go w.0 s.0.1 w.2 in
    record {
      order = s.0.0 ∷ m.order;
      give = ap (λ (o : Option (List (List ℕ))). o >>= λ more. with_names first more m.order) w.1 ∙ m.give;
      spelled = (s.0.1, name_next bytes s.0 s.1, m.spelled);
    }

within_were : (most : ℕ) (first : List ℕ) (names all : List (List ℕ)) (bytes : List ℕ) → names_within most first names bytes ≡ Some all → Were first names all bytes
within_were zero first names all bytes h = none_were first names all bytes h
within_were (suc most) first names all bytes h =
    were_by most first names all bytes (length (unspaced bytes) == 0) refl h (λ more rest g. within_were most first more all rest g)

-- names that are added stand behind the others
one_added : (first name : List ℕ) (names more : List (List ℕ)) → with_name first names name ≡ Some more → more ≡ names ++ name ∷ []
one_added first name names more h = sym (unless_some (bytes_eq first name || is_member names name || nat_le controller_limit (length names + 1)) (names ++ name ∷ []) more h).1

assoc : (xs ys zs : List (List ℕ)) → (xs ++ ys) ++ zs ≡ xs ++ (ys ++ zs)
assoc [] ys zs = refl
assoc (x ∷ xs) ys zs = ap (λ (t : List (List ℕ)). x ∷ t) (assoc xs ys zs)

pub all_added : (first : List ℕ) (names order all : List (List ℕ)) → with_names first names order ≡ Some all → all ≡ names ++ order
all_added first names [] all h = let same : names ≡ all = cc in sym same ∙ sym (append-nil names)
all_added first names (name ∷ order) all h =
    let t = bind_some (with_name first names name) (λ more. with_names first more order) all h in
    all_added first t.0 order all t.2 ∙ (ap (λ (xs : List (List ℕ)). xs ++ order) (one_added first name names t.0 t.1) ∙ assoc names (name ∷ []) order)

-- the names that were read are those that are spelled, and differ
pub names_were : (first bytes : List ℕ) (names : List (List ℕ)) → names_at first bytes ≡ Some names → (with_names first [] names ≡ Some names) × AreSpelled (named names) bytes
unfolding names_at
names_were first bytes names h =
    let w = within_were (length bytes) first [] names bytes h in
    let same : names ≡ w.order = all_added first [] w.order names w.give in
    (subst (λ (xs : List (List ℕ)). with_names first [] xs ≡ Some names) (sym same) w.give, subst (λ (xs : List (List ℕ)). AreSpelled (named xs) bytes) (sym same) w.spelled)

-- ---- what is spelled is read

within_read : (most : ℕ) (first : List ℕ) (names all order : List (List ℕ)) (bytes : List ℕ) → length bytes ≤ most → with_names first names order ≡ Some all → AreSpelled (named order) bytes
    → names_within most first names bytes ≡ Some all
within_read zero first names all [] bytes small w s = rw s w
within_read (suc most) first names all [] bytes small w s = rw s w
within_read zero first names all (name ∷ order) bytes small w s =
    let on = goes_on name bytes s.0 s.1 in absurd (omega (arith, on.shorter))
within_read (suc most) first names all (name ∷ order) bytes small w s =
    let t = bind_some (with_name first names name) (λ more. with_names first more order) all w in
    let on = goes_on name bytes s.0 s.1 in
    rw (on.more, name_read name bytes s.0 s.1, t.1) (within_read most first t.0 all order s.0 (omega (arith, on.shorter)) t.2 s.2)

pub names_read : (first bytes : List ℕ) (names : List (List ℕ)) → with_names first [] names ≡ Some names → AreSpelled (named names) bytes → names_at first bytes ≡ Some names
unfolding names_at
names_read first bytes names w s = within_read (length bytes) first [] names names bytes (omega arith) w s

-- ---- one name after another

-- what is left to read of a line makes what the line makes
pub record Reads (first : List ℕ) (names : List (List ℕ)) (bytes : List ℕ) (all : Option (List (List ℕ))) : Type 0 where
  pub most : ℕ
  pub enough : length bytes ≤ most
  pub same : names_within most first names bytes ≡ all

-- before the end the next name tells
on_by : (most : ℕ) (first : List ℕ) (names : List (List ℕ)) (bytes : List ℕ) (all : Option (List (List ℕ))) → length bytes ≤ most → (length (unspaced bytes) ≡ 0 → ⊥) → names_within most first names bytes ≡ all
    → (fewer : ℕ) × (length bytes ≤ suc fewer) × ((name_at bytes >>= λ name. with_name first names name.0 >>= λ more. names_within fewer first more name.1) ≡ all)
on_by zero first names bytes all small more same = let within : length (unspaced bytes) ≤ length bytes = simp length-drop (omega arith) in absurd (more (omega arith))
on_by (suc most) first names bytes all small more same = (most, small, rw (ne_eqb (length (unspaced bytes)) 0 more) at same)

pub name_shorter : (bytes rest name : List ℕ) → name_at bytes ≡ Some (name, rest) → length rest < length bytes
name_shorter bytes rest name at = (goes_on name bytes rest (name_next bytes (name, rest) at)).shorter

pub reads_on : (first : List ℕ) (names more : List (List ℕ)) (bytes rest name : List ℕ) (all : Option (List (List ℕ))) → Reads first names bytes all → (length (unspaced bytes) ≡ 0 → ⊥)
    → name_at bytes ≡ Some (name, rest) → with_name first names name ≡ Some more → Reads first more rest all
reads_on first names more bytes rest name all r left at is =
    let on = on_by r.most first names bytes all r.enough left r.same in
    let shorter = name_shorter bytes rest name at in
    record { most = on.0; enough = omega (arith, on.1); same = rw (at, is) at on.2 }
