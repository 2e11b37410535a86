-- Who is found by a name after a controller was put in place of another one, or came.
use Rattle.std.proofs.Common.{◌≡◌, ◌≢◌, List, [], ◌∷◌, ◌++◌, Bool, true, false, cond, Option, Some, refl, sym, ap, ◌∙◌, subst}
use Rattle.std.specs.List.{find}
use Rattle.std.specs.Str.{bytes_eq}
use Rattle.std.proofs.lemmas.Slice.Eq.{bytes_eq-Decides}
use Rattle.adr_model.specs.Store.{State}
use Rattle.adr_model.specs.Replica.{Replica}
use Rattle.adr_model.specs.World.{Name, World, replica_at, with_replica}
use Rattle.adr_model.proofs.Members.{found_member}
use Rattle.adr_law_rollback.specs.ShutOff.{RestsAs, RestsIn}

pub named : (a b : Name) → bytes_eq a b ≡ true → a ≡ b
named a b h = (bytes_eq-Decides a b).0 h

pub named_tests : (a b : Name) → a ≡ b → bytes_eq a b ≡ true
named_tests a b e = (bytes_eq-Decides a b).1 e

pub others_differ : (a b : Name) → a ≢ b → bytes_eq a b ≡ false
others_differ a b differ = by (bytes_eq a b) refl
  where
    by : (c : Bool) → bytes_eq a b ≡ c → c ≡ false
    by true is = absurd (differ (named a b is))
    by false is = refl

-- two names are one or they differ
pub name_case : (P : Type 0) (a b : Name) → (a ≡ b → P) → (a ≢ b → P) → P
name_case P a b same differ = by (bytes_eq a b) refl
  where
    by : (c : Bool) → bytes_eq a b ≡ c → P
    by true is = same (named a b is)
    by false is = differ (λ e. let t : bytes_eq a b ≡ true = named_tests a b e in absurd (cc))

abbrev pub FoundAmong : List Replica → Name → Replica → Type 0
FoundAmong rs name r = find (λ (x : Replica). bytes_eq x.name name) rs ≡ Some r

-- who is found has the name
pub found_named : (rs : List Replica) (name : Name) (r : Replica) → FoundAmong rs name r → r.name ≡ name
found_named rs name r h = named r.name name (found_member (λ (x : Replica). bytes_eq x.name name) rs r h).1

-- who is found among controllers of which one was put in place, by whether it was the first
module _ (x new : Replica) (xs : List Replica) (name : Name) where
  abbrev rest : Option Replica
  rest = find (λ (y : Replica). bytes_eq y.name name) (with_replica xs new)

  here : (b : Bool) → bytes_eq x.name new.name ≡ b → cond (bytes_eq (cond (bytes_eq x.name new.name) new x).name name) (Some (cond (bytes_eq x.name new.name) new x)) rest
      ≡ cond (bytes_eq (cond b new x).name name) (Some (cond b new x)) rest
  here b e = ap (λ c. cond (bytes_eq (cond c new x).name name) (Some (cond c new x)) rest) e

-- the first of the name is replaced by a new one of that name
pub replaced : (rs : List Replica) (new r : Replica) (name : Name) → new.name ≡ name → FoundAmong rs name r → FoundAmong (with_replica rs new) name new
replaced [] new r name is h = absurd (cc)
replaced (x ∷ xs) new r name is h = by (bytes_eq x.name name) refl h (λ f. replaced xs new r name is f)
  where
    by : (b : Bool) → bytes_eq x.name name ≡ b → cond b (Some x) (find (λ (y : Replica). bytes_eq y.name name) xs) ≡ Some r
        → (FoundAmong xs name r → FoundAmong (with_replica xs new) name new)
        → FoundAmong (with_replica (x ∷ xs) new) name new
    by true e f next = here x new xs name true (ap (bytes_eq x.name) is ∙ e) ∙ ap (λ b. cond b (Some new) (rest x new xs name)) (named_tests new.name name is)
    by false e f next = here x new xs name false (ap (bytes_eq x.name) is ∙ e) ∙ (ap (λ b. cond b (Some x) (rest x new xs name)) e ∙ next f)

-- who is found stays so where another one is replaced
pub spared : (rs : List Replica) (new r : Replica) (name : Name) → new.name ≢ name → FoundAmong rs name r → FoundAmong (with_replica rs new) name r
spared [] new r name differ h = absurd (cc)
spared (x ∷ xs) new r name differ h = by (bytes_eq x.name new.name) refl (bytes_eq x.name name) refl h (λ f. spared xs new r name differ f)
  where
    by : (c : Bool) → bytes_eq x.name new.name ≡ c → (b : Bool) → bytes_eq x.name name ≡ b → cond b (Some x) (find (λ (y : Replica). bytes_eq y.name name) xs) ≡ Some r
        → (FoundAmong xs name r → FoundAmong (with_replica xs new) name r) → FoundAmong (with_replica (x ∷ xs) new) name r
    by true d true e f next = absurd (differ (sym (named x.name new.name d) ∙ named x.name name e))
    by true d false e f next = here x new xs name true d ∙ (ap (λ b. cond b (Some new) (rest x new xs name)) (others_differ new.name name differ) ∙ next f)
    by false d true e f next = here x new xs name false d ∙ (ap (λ b. cond b (Some x) (rest x new xs name)) e ∙ f)
    by false d false e f next = here x new xs name false d ∙ (ap (λ b. cond b (Some x) (rest x new xs name)) e ∙ next f)

-- and where others come behind
pub first_stays : (rs more : List Replica) (r : Replica) (name : Name) → FoundAmong rs name r → FoundAmong (rs ++ more) name r
first_stays [] more r name h = absurd (cc)
first_stays (x ∷ xs) more r name h = by (bytes_eq x.name name) h (λ f. first_stays xs more r name f)
  where
    by : (b : Bool) → cond b (Some x) (find (λ (y : Replica). bytes_eq y.name name) xs) ≡ Some r → (FoundAmong xs name r → FoundAmong (xs ++ more) name r)
        → cond b (Some x) (find (λ (y : Replica). bytes_eq y.name name) (xs ++ more)) ≡ Some r
    by true f next = f
    by false f next = next f

-- who is found by the name of one that rests is that one
pub rests_too : (s : State) (w : World) (name : Name) (r : Replica) → RestsIn s w name → replica_at w name ≡ Some r → RestsAs s r
rests_too s w name r (q, found, rests) h = let same : q ≡ r = cc in subst (RestsAs s) same rests
