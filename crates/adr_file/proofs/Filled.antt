-- A buffer that is filled read by read.
use Rattle.std.proofs.Common.{◌≡◌, ℕ, ◌+◌, ◌-◌, ◌≤◌, List, ◌++◌, length, take, drop, Option, refl, sym, ap, ◌∙◌, arith, length-append, length-take}
use Rattle.std.specs.Option.{ForSome}
use Rattle.std.proofs.Math.Seq.{take-add}
use Rattle.std.proofs.lemmas.List.{drop-drop, take_at, drop_at, take-append-le}
use Rattle.adr_file.specs.Device.{bytes_of, ReadsAt}

-- so many bytes from a place on stand in the buffer's front
pub record IsFront (bytes : List ℕ) (at : ℕ) (buffer : List ℕ) (n : ℕ) : Type 0 where
  pub enough : n ≤ length bytes - at
  pub read : take n buffer ≡ take n (drop at bytes)

abbrev pub IsFilled : Option (Option (List ℕ)) → ℕ → List ℕ → ℕ → Type 0
IsFilled told at buffer n = ForSome told (λ there. IsFront (bytes_of there) at buffer n)

pub front_none : (bytes : List ℕ) (at : ℕ) (buffer : List ℕ) → IsFront bytes at buffer 0
front_none bytes at buffer = record { enough = omega arith; read = refl }

-- a read behind it
pub front_more : (bytes : List ℕ) (at place : ℕ) (buffer piece rest : List ℕ) (n m : ℕ) → IsFront bytes at buffer n → n ≤ length buffer → m ≤ length piece → place ≡ at + n → ReadsAt bytes place piece m → IsFront bytes at (take n buffer ++ (piece ++ rest)) (n + m)
front_more bytes at place buffer piece rest n m front within some is reads = record {
  enough = omega (arith, front.enough, reads.enough);
  read =
      take_behind (take n buffer) (piece ++ rest) n m (length-take n buffer ∙ omega arith)
      ∙ ap (λ (xs : List ℕ). take n buffer ++ xs) (take-append-le m piece rest some)
      ∙ ap (λ (xs : List ℕ). xs ++ take m piece) front.read
      ∙ ap (λ (xs : List ℕ). take n (drop at bytes) ++ xs) (reads.read ∙ ap (take m) (ap (λ (k : ℕ). drop k bytes) is ∙ sym (drop-drop n at bytes)))
      ∙ sym (take-add n m (drop at bytes));
}
  where
    take_behind : (xs ys : List ℕ) (n m : ℕ) → length xs ≡ n → take (n + m) (xs ++ ys) ≡ xs ++ take m ys
    take_behind xs ys n m len =
        take-add n m (xs ++ ys) ∙ ap (λ (zs : List ℕ). zs ++ take m (drop n (xs ++ ys))) (take_at xs ys n len) ∙ ap (λ (zs : List ℕ). xs ++ take m zs) (drop_at xs ys n len)

pub bound_more : (xs ys zs : List ℕ) (n m : ℕ) → n ≤ length xs → m ≤ length ys → n + m ≤ length (take n xs ++ (ys ++ zs))
bound_more xs ys zs n m front back = omega (arith, length-append (take n xs) (ys ++ zs), length-append ys zs, length-take n xs)
