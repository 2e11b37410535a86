-- Two looks at the same bytes, and what a weaker reading gives too.
use Rattle.std.proofs.Common.{◌≡◌, ℕ, zero, suc, Bool, true, false, cond, List, ◌∷◌, ◌++◌, Ok, Err, refl, ap, ◌∙◌}
use Rattle.adr_wire.specs.Reading.{Rest, Read, Reading, ◌>>=◌, as_at, passing_at, where_at, then_at, gathered_at}
use Rattle.adr_wire.specs.Spelling.{behind, IsSpelling}
use Rattle.adr_wire.specs.Gathering.{is_refused_at, sooner, GivesToo}
use Rattle.adr_wire.proofs.Combining.{from, bind_ok, passed_ok}

-- ---- two looks at the same bytes

pub refused_not : {A B : Type 0} (place : ℕ) (r : Read B) (y : B × Rest) (b : Read A) → r ≡ Ok y → cond (is_refused_at place r) (Err place) b ≡ b
refused_not place (Ok x) y b e = refl
refused_not place (Err p) y b e = absurd (cc)

through : {A B : Type 0} (place : ℕ) (r : Read B) (b : Read A) (z : A × Rest) → cond (is_refused_at place r) (Err place) b ≡ Ok z → b ≡ Ok z
through {A} {B} place r b z = by (is_refused_at place r)
  where
    by : (t : Bool) → cond t (Err place) b ≡ Ok z → b ≡ Ok z
    by true e = absurd (cc)
    by false e = e

-- where a look sees nothing in what can be read
pub looked : {A B : Type 0} (P : A → Type 0) (s : A → List ℕ) (look : Reading B) (a : Reading A) → IsSpelling P s a
    → ((rest : Rest) (y : A × Rest) → a rest ≡ Ok y → (z : B × Rest) × (look rest ≡ Ok z))
    → IsSpelling P s (sooner look a)
looked P s look a law sees = record {
  again = λ place x bytes q.
      let e = law.again place x bytes q in
      let z = sees (from place (s x ++ bytes)) (x, behind place (s x) bytes) e in
      refused_not place (look (from place (s x ++ bytes))) z.0 (a (from place (s x ++ bytes))) z.1 ∙ e;
  only = λ place bytes x rest fits e. law.only place bytes x rest fits (through place (look (from place bytes)) (a (from place bytes)) (x, rest) e);
}

-- ---- what a weaker reading gives too

pub gives_same : {A : Type 0} (a : Reading A) → GivesToo a a
gives_same a rest y e = e

pub gives_passed : {A : Type 0} (fault : ℕ) (test : A → Bool) (a b : Reading A) → GivesToo a b → GivesToo (passing_at fault test a) (passing_at fault test b)
gives_passed {A} fault test a b gives rest y e =
    let one = bind_ok (a rest) (λ x. cond (test x.0) (Ok x) (Err fault)) y e in
    ap (λ (r : Read A). r >>= λ x. cond (test x.0) (Ok x) (Err fault)) (gives rest one.0 one.1) ∙ one.2

pub gives_tested : {A : Type 0} (test more : A → Bool) (a b : Reading A) → ((x : A) → test x ≡ true → more x ≡ true) → GivesToo a b → GivesToo (where_at test a) (where_at more b)
gives_tested {A} test more a b weaker gives rest y e =
    let one = bind_ok (a rest) (λ x. cond (test x.0) (Ok x) (Err rest.place)) y e in
    let g = passed_ok (test one.0.0) rest.place one.0 y one.2 in
    ap (λ (r : Read A). r >>= λ x. cond (more x.0) (Ok x) (Err rest.place)) (gives rest one.0 one.1)
    ∙ ap (λ (t : Bool). cond t (Ok one.0) (Err rest.place)) (weaker one.0.0 g.0)
    ∙ ap (λ (x : A × Rest). Ok x) g.1

pub gives_as : {A B : Type 0} (f : A → B) (a b : Reading A) → GivesToo a b → GivesToo (as_at f a) (as_at f b)
gives_as {A} f a b gives rest y e =
    let one = bind_ok (a rest) (λ x. Ok (f x.0, x.1)) y e in
    ap (λ (r : Read A). r >>= λ x. Ok (f x.0, x.1)) (gives rest one.0 one.1) ∙ one.2

pub gives_then : {A B : Type 0} (a a2 : Reading A) (b b2 : A → Reading B) → GivesToo a a2 → ((x : A) → GivesToo (b x) (b2 x)) → GivesToo (then_at a b) (then_at a2 b2)
gives_then {A} {B} a a2 b b2 one two rest y e =
    let first = bind_ok (a rest) (λ x. b x.0 x.1 >>= λ z. Ok ((x.0, z.0), z.1)) y e in
    let second = bind_ok (b first.0.0 first.0.1) (λ z. Ok ((first.0.0, z.0), z.1)) y first.2 in
    ap (λ (r : Read A). r >>= λ x. b2 x.0 x.1 >>= λ z. Ok ((x.0, z.0), z.1)) (one rest first.0 first.1)
    ∙ ap (λ (r : Read B). r >>= λ z. Ok ((first.0.0, z.0), z.1)) (two first.0.0 first.0.1 second.0 second.1)
    ∙ second.2

pub gives_all : {S E : Type 0} (step : S → E → S) (a b : S → Reading E) → ((known : S) → GivesToo (a known) (b known)) → (n : ℕ) (known : S) → GivesToo (gathered_at step a n known) (gathered_at step b n known)
gives_all step a b gives zero known rest y e = e
gives_all {S} {E} step a b gives (suc n) known rest y e =
    let first = bind_ok (a known rest) (λ x. gathered_at step a n (step known x.0) x.1 >>= λ z. Ok (x.0 ∷ z.0, z.1)) y e in
    let second = bind_ok (gathered_at step a n (step known first.0.0) first.0.1) (λ z. Ok (first.0.0 ∷ z.0, z.1)) y first.2 in
    ap (λ (r : Read E). r >>= λ x. gathered_at step b n (step known x.0) x.1 >>= λ z. Ok (x.0 ∷ z.0, z.1)) (gives known rest first.0 first.1)
    ∙ ap (λ (r : Read (List E)). r >>= λ z. Ok (first.0.0 ∷ z.0, z.1)) (gives_all step a b gives n (step known first.0.0) first.0.1 second.0 second.1)
    ∙ second.2
