-- Controllers at their places.
use Rattle.std.proofs.Common.{◌≡◌, ◌≢◌, ◌∙◌, ◌⊎◌, ◌++◌, refl, sym, ap, subst, inl, inr, ℕ, zero, suc, ◌<◌, List, [], ◌∷◌, Bool, true, false, cond, drop, length, slice_set, if◌then◌else◌, Some, arith}
use Rattle.std.specs.Prelude.{slice_get, slice_index_or}
use Rattle.std.specs.List.{find}
use Rattle.std.specs.Str.{bytes_eq}
use Rattle.std.proofs.lemmas.Option.{slice_get_read}
use Rattle.adr_model.specs.Member.{Member, Each}
use Rattle.adr_model.specs.Replica.{Replica}
use Rattle.adr_model.specs.World.{Name, with_replica}
use Rattle.adr_model.proofs.Members.{member_of_either}
use Rattle.adr_law_convergence.proofs.Found.{same_name, same_name_tests}
use Rattle.adr_run_world.specs.Run.{AreApart}

-- what is read at a place
pub at_place : (rs : List Replica) (i : ℕ) (r : Replica) → i < length rs → r ≡ slice_index_or rs i r → slice_get rs i ≡ Some r
at_place rs i r lt is = slice_get_read rs (length rs) i r refl lt is

-- at a place within there is somebody
pub somebody_at : (rs : List Replica) (i : ℕ) → i < length rs → (r : Replica) × (slice_get rs i ≡ Some r)
somebody_at [] i lt = absurd (omega (arith, lt))
somebody_at (q ∷ qs) zero lt = (q, refl)
somebody_at (q ∷ qs) (suc i) lt = somebody_at qs i (omega (arith, lt))

-- who is at a place is a member
pub there_at : (rs : List Replica) (i : ℕ) (r : Replica) → slice_get rs i ≡ Some r → Member r rs
there_at [] i r at = absurd (cc)
there_at (q ∷ qs) zero r at = let is : q ≡ r = cc in inl (sym is)
there_at (q ∷ qs) (suc i) r at = inr (there_at qs i r at)

-- no other controller has the name
others_stay : (rs : List Replica) (r : Replica) → Each (λ (q : Replica). r.name ≢ q.name) rs → with_replica rs r ≡ rs
others_stay [] r other = refl
others_stay (q ∷ qs) r other = by (bytes_eq q.name r.name) refl (others_stay qs r (λ e m. other e (inr m)))
  where
    by : (b : Bool) → bytes_eq q.name r.name ≡ b → with_replica qs r ≡ qs → cond b r q ∷ with_replica qs r ≡ q ∷ qs
    by true is rest = absurd (other q (inl refl) (sym (same_name q.name r.name is)))
    by false is rest = ap (λ rs. q ∷ rs) rest

-- what the controller at a place became is that of the one controller of its name
pub placed : (rs : List Replica) (i : ℕ) (r new : Replica) → AreApart rs → slice_get rs i ≡ Some r → new.name ≡ r.name → slice_set rs i new ≡ with_replica rs new
placed [] i r new apart at named = absurd (cc)
placed (q ∷ qs) zero r new apart at named = let is : q ≡ r = cc in
    let same : q.name ≡ new.name = ap (λ (x : Replica). x.name) is ∙ sym named in
    sym (
    ap (λ b. cond b new q ∷ with_replica qs new) (same_name_tests q.name new.name same)
    ∙ ap (λ rs. new ∷ rs) (others_stay qs new (subst (λ n. Each (λ (e : Replica). n ≢ e.name) qs) same apart.0))
    )
placed (q ∷ qs) (suc i) r new apart at named = ap (λ rs. q ∷ rs) (placed qs i r new apart.1 at named)
    ∙ ap (λ b. cond b new q ∷ with_replica qs new) (sym (differs (bytes_eq q.name new.name) refl))
  where
    differs : (b : Bool) → bytes_eq q.name new.name ≡ b → bytes_eq q.name new.name ≡ false
    differs true is = absurd (apart.0 r (there_at qs i r at) (same_name q.name new.name is ∙ named))
    differs false is = is

-- who stays at a place changes nothing
pub unplaced : (rs : List Replica) (i : ℕ) (r : Replica) → slice_get rs i ≡ Some r → slice_set rs i r ≡ rs
unplaced [] i r at = absurd (cc)
unplaced (q ∷ qs) zero r at = let is : q ≡ r = cc in ap (λ x. x ∷ qs) (sym is)
unplaced (q ∷ qs) (suc i) r at = ap (λ rs. q ∷ rs) (unplaced qs i r at)

-- what holds of each, and of the one that comes to a place, still does
each_still : (P : Replica → Type 0) (rs : List Replica) (i : ℕ) (r : Replica) → Each P rs → P r → Each P (slice_set rs i r)
each_still P [] i r all new = all
each_still P (q ∷ qs) zero r all new = here
  where
    here : Each P (r ∷ qs)
    here x (inl e) = subst P (sym e) new
    here x (inr m) = all x (inr m)
each_still P (q ∷ qs) (suc i) r all new = both (each_still P qs i r (λ y n. all y (inr n)) new)
  where
    both : Each P (slice_set qs i r) → Each P (q ∷ slice_set qs i r)
    both rest x (inl e) = all x (inl e)
    both rest x (inr m) = rest x m

-- names stay apart
pub apart_still : (rs : List Replica) (i : ℕ) (r new : Replica) → AreApart rs → slice_get rs i ≡ Some r → new.name ≡ r.name → AreApart (slice_set rs i new)
apart_still [] i r new apart at named = tt
apart_still (q ∷ qs) zero r new apart at named = let is : q ≡ r = cc in
    (subst (λ n. Each (λ (e : Replica). n ≢ e.name) qs) (ap (λ (x : Replica). x.name) is ∙ sym named) apart.0, apart.1)
apart_still (q ∷ qs) (suc i) r new apart at named =
    (each_still (λ (e : Replica). q.name ≢ e.name) qs i new apart.0 (λ same. apart.0 r (there_at qs i r at) (same ∙ named)), apart_still qs i r new apart.1 at named)

-- one more controller, of a new name
pub apart_more : (rs : List Replica) (r : Replica) → AreApart rs → Each (λ (q : Replica). q.name ≢ r.name) rs → AreApart (rs ++ r ∷ [])
apart_more [] r apart new = ((λ q m. absurd m), tt)
apart_more (q ∷ qs) r apart new = (both, apart_more qs r apart.1 (λ e m. new e (inr m)))
  where
    both : Each (λ (e : Replica). q.name ≢ e.name) (qs ++ r ∷ [])
    both e m = by (member_of_either qs (r ∷ []) e m)
      where
        by : Member e qs ⊎ Member e (r ∷ []) → q.name ≢ e.name
        by (inl n) = apart.0 e n
        by (inr (inl same)) = λ n. new q (inl refl) (n ∙ ap (λ (y : Replica). y.name) same)
        by (inr (inr n)) = absurd n

-- the controller at a place has the name, and nobody before it
pub found_here : (rs : List Replica) (i : ℕ) (r : Replica) (name : Name) → slice_get rs i ≡ Some r → bytes_eq r.name name ≡ true
    → find (λ (q : Replica). bytes_eq q.name name) (drop i rs) ≡ slice_get rs i
found_here [] i r name at test = absurd (cc)
found_here (q ∷ qs) zero r name at test = let is : q ≡ r = cc in
    let here : bytes_eq q.name name ≡ true = ap (λ (e : Replica). bytes_eq e.name name) is ∙ test in
    ap (λ b. if b then Some q else find (λ (e : Replica). bytes_eq e.name name) qs) here
found_here (q ∷ qs) (suc i) r name at test = found_here qs i r name at test
