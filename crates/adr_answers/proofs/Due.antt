-- Bytes written piece by piece are a front of all that is due.
use Rattle.std.proofs.Common.{◌≡◌, ℕ, ◌+◌, ◌≤◌, List, [], ◌++◌, length, take, min, Option, Some, None, sym, ap, ◌∙◌, refl, subst, arith, append_assoc}
use Rattle.std.specs.Prelude.{IfSome}
use Rattle.std.proofs.Math.Seq.{take-append-add}
use Rattle.std.proofs.lemmas.List.{append-nil, take-append-le, take_min}
use Rattle.adr_io.specs.Told.{Adds, AddsFront}

-- of all bytes, some were added so far, and these are due
abbrev pub Remains : Option (List ℕ) → Option (List ℕ) → List ℕ → List ℕ → Type 0
Remains None now all due = Unit {0}
Remains (Some written) now all due = (done : List ℕ) × (now ≡ Some (written ++ done)) × (done ++ due ≡ all)

pub all_remains : (first : Option (List ℕ)) (all : List ℕ) → Remains first first all all
all_remains None all = tt
all_remains (Some written) all = ([], ap Some (sym (append-nil written)), refl)

pub rest_remains : (first now : Option (List ℕ)) (all added rest : List ℕ) → Adds first now added → added ++ rest ≡ all → Remains first now all rest
rest_remains None now all added rest h is = tt
rest_remains (Some written) now all added rest h is = (added, h, is)

pub less_remains : (first now next : Option (List ℕ)) (all piece rest : List ℕ) → Remains first now all (piece ++ rest) → Adds now next piece → Remains first next all rest
less_remains None now next all piece rest h added = tt
less_remains (Some written) now next all piece rest h added =
    let here : next ≡ Some (written ++ h.0 ++ piece) = subst (λ (o : Option (List ℕ)). IfSome o (λ w. next ≡ Some (w ++ piece))) h.1 added in
    (h.0 ++ piece, here ∙ ap Some (append_assoc written h.0 piece), append_assoc h.0 piece rest ∙ h.2)

pub none_remains : (first now : Option (List ℕ)) (all : List ℕ) → Remains first now all [] → Adds first now all
none_remains None now all h = tt
none_remains (Some written) now all h = h.1 ∙ ap (λ (xs : List ℕ). Some (written ++ xs)) (sym (append-nil h.0) ∙ h.2)

-- bytes, and then others
pub adds_more : (first now next : Option (List ℕ)) (xs ys : List ℕ) → Adds first now xs → Adds now next ys → Adds first next (xs ++ ys)
adds_more first now next xs ys before more =
    none_remains first next (xs ++ ys) (less_remains first now next (xs ++ ys) ys [] (rest_remains first now (xs ++ ys) xs (ys ++ []) before (ap (λ (zs : List ℕ). xs ++ zs) (append-nil ys))) more)

-- a front of a piece is a front of what it begins
front_of : (done piece rest : List ℕ) (n : ℕ) → done ++ take n piece ≡ take (length done + min n (length piece)) (done ++ (piece ++ rest))
front_of done piece rest n =
    let small : min n (length piece) ≤ length piece = omega arith in
    ap (λ (xs : List ℕ). done ++ xs) (sym (take_min n piece) ∙ sym (take-append-le (min n (length piece)) piece rest small))
    ∙ sym (take-append-add done (piece ++ rest) (min n (length piece)))

pub front_remains : (first now next : Option (List ℕ)) (all piece rest : List ℕ) → Remains first now all (piece ++ rest) → AddsFront now next piece → AddsFront first next all
front_remains None now next all piece rest h added = tt
front_remains (Some written) now next all piece rest h added =
    let here : (n : ℕ) × (next ≡ Some (written ++ h.0 ++ take n piece)) = subst (λ (o : Option (List ℕ)). IfSome o (λ w. (n : ℕ) × (next ≡ Some (w ++ take n piece)))) h.1 added in (
      length h.0 + min here.0 (length piece),
      here.1 ∙ ap Some (append_assoc written h.0 (take here.0 piece) ∙ ap (λ (xs : List ℕ). written ++ xs) (front_of h.0 piece rest here.0 ∙ ap (λ (xs : List ℕ). take (length h.0 + min here.0 (length piece)) xs) h.2)),
    )

pub adds_none : (first : Option (List ℕ)) → Adds first first []
adds_none None = tt
adds_none (Some written) = ap Some (sym (append-nil written))

-- nothing more was added
pub none_added : (first : Option (List ℕ)) (bytes : List ℕ) → AddsFront first first bytes
none_added None bytes = tt
none_added (Some written) bytes = (0, ap Some (sym (append-nil written)))

pub front_so_far : (first now : Option (List ℕ)) (all due : List ℕ) → Remains first now all due → AddsFront first now all
front_so_far first now all due h = front_remains first now now all [] due h (none_added now [])

-- what was added is a front of itself
pub all_added : (first now : Option (List ℕ)) (bytes : List ℕ) → Adds first now bytes → AddsFront first now bytes
all_added first now bytes added = front_so_far first now bytes [] (rest_remains first now bytes bytes [] added (append-nil bytes))
