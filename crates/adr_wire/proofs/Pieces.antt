-- A piece is spelled in one way.
use Rattle.std.proofs.Common.{◌≡◌, ℕ, eqb, refl, sym, subst, ◌∙◌, arith}
use Rattle.std.specs.Prelude.{MatchBool}
use Rattle.std.proofs.lemmas.Bool.{eqb-true}
use Rattle.adr_wire.specs.Composites.{object_at, object, link_at, link}
use Rattle.adr_wire.specs.Spelling.{IsSpelling}
use Rattle.adr_wire.specs.Ranges.{IsU8, IsObject, IsLink}
use Rattle.adr_wire.specs.Pieces.{Piece, OfRows, OfLink, piece_of, piece_at, kind_of_piece, told_of_piece, piece, IsPiece}
use Rattle.adr_wire.proofs.Combining.{MadeOf, made, either, never}
use Rattle.adr_wire.proofs.CompositeLaws.{kinded, object_spelled, link_spelled}

-- what a piece of a kind says
abbrev Says : ℕ → Piece → Type 0
Says kind p =
    MatchBool (eqb kind 1) (MadeOf IsObject object OfRows told_of_piece p)
    (MatchBool (eqb kind 2) (MadeOf IsLink link OfLink told_of_piece p) ⊥)

says : (p : Piece) → IsPiece p → Says (kind_of_piece p) p
says (OfRows o) q = (o, refl, q, refl)
says (OfLink l) q = (l, refl, q, refl)

module _ (place kind : ℕ) where
  abbrev OfKind : Piece → Type 0
  OfKind p = IsPiece p × (kind_of_piece p ≡ kind)

  out : (k : ℕ) → kind ≡ k → (p : Piece) → OfKind p → Says k p
  out k e p q = subst (λ (n : ℕ). Says n p) (q.1 ∙ e) (says p q.0)

  of_kind : IsSpelling OfKind told_of_piece (piece_of place kind)
  of_kind =
      either OfKind told_of_piece (eqb kind 1) _ _
      (λ e. let is = eqb-true kind 1 e in made IsObject object object_at object_spelled OfRows OfKind told_of_piece (out 1 is) (λ o p fits. ((p, sym is), refl))) (λ n1.
      either OfKind told_of_piece (eqb kind 2) _ _
      (λ e. let is = eqb-true kind 2 e in made IsLink link link_at link_spelled OfLink OfKind told_of_piece (out 2 is) (λ l p fits. ((p, sym is), refl))) (λ n2.
      never OfKind told_of_piece place (λ p q. rw (n1, n2) at (out kind refl p q))))

small : (p : Piece) → IsU8 (kind_of_piece p)
small (OfRows o) = omega arith
small (OfLink l) = omega arith

pub piece_spelled : IsSpelling IsPiece piece piece_at
unfolding piece_at
piece_spelled = kinded kind_of_piece IsPiece told_of_piece piece_of small of_kind
