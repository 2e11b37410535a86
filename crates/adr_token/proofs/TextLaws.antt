-- A text is read again, and what is read was spelled so.
use Rattle.std.proofs.Common.{◌≡◌, ℕ, true, ◌&&◌, cond, List, [], ◌∷◌, ◌++◌, flat_map, Some, None, refl, sym, ap, subst, ◌∙◌, append_assoc}
use Rattle.std.specs.Prelude.{◌==◌}
use Rattle.std.proofs.lemmas.Bool.{and_parts, eqb-true}
use Rattle.adr_token.specs.declared.texts.Place.TheVariants.{Plain}
use Rattle.adr_token.specs.Gives.{◌>>=◌}
use Rattle.adr_token.specs.Words.{strip_byte}
use Rattle.adr_token.specs.Texts.{ends_word, is_text, quoted, text_at}
use Rattle.adr_token.specs.Spelling.{escaped, text_token}
use Rattle.adr_token.specs.Laws.{TextsAreReadAgain, TextsWereSpelled}
use Rattle.adr_token.proofs.QuoteLaws.{reads_back, was_spelled}
use Rattle.adr_token.proofs.WordLaws.{bind_some, if_some}

pub token_is : (text rest : List ℕ) → text_token text ++ rest ≡ 34 ∷ (flat_map escaped text ++ 34 ∷ rest)
unfolding text_token
token_is text rest = ap (λ (bs : List ℕ). 34 ∷ bs) (append_assoc (flat_map escaped text) (34 ∷ []) rest)

pub texts_again : TextsAreReadAgain
unfolding text_at
texts_again text rest h e = rw (token_is text rest, reads_back text rest, e, h) refl

pub strip_byte_was : (byte : ℕ) (bytes rest : List ℕ) → strip_byte byte bytes ≡ Some rest → bytes ≡ byte ∷ rest
strip_byte_was byte [] rest h = absurd (cc)
strip_byte_was byte (b ∷ bs) rest h =
    let t = if_some (b == byte) bs rest h in
    rw (eqb-true b byte t.0, t.1) refl

pub texts_spelled : TextsWereSpelled
unfolding text_at
texts_spelled bytes text rest h =
    let s = bind_some (strip_byte 34 bytes) (λ inside. quoted Plain inside >>= λ t. cond (ends_word t.1 && is_text t.0) (Some t) None) (text, rest) h in
    let q = bind_some (quoted Plain s.0) (λ t. cond (ends_word t.1 && is_text t.0) (Some t) None) (text, rest) s.2 in
    let t = if_some (ends_word q.0.1 && is_text q.0.0) q.0 (text, rest) q.2 in
    let both = and_parts (ends_word q.0.1) (is_text q.0.0) t.0 in
    let value : q.0.0 ≡ text = ap (λ (x : List ℕ × List ℕ). x.0) t.1 in
    let left : q.0.1 ≡ rest = ap (λ (x : List ℕ × List ℕ). x.1) t.1 in (
      subst (λ (x : List ℕ). is_text x ≡ true) value both.1,
      strip_byte_was 34 bytes s.0 s.1 ∙ ap (λ (bs : List ℕ). 34 ∷ bs) (was_spelled s.0 text rest (q.1 ∙ ap Some t.1)) ∙ sym (token_is text rest),
      subst (λ (x : List ℕ). ends_word x ≡ true) left both.0,
    )
