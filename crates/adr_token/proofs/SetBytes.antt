-- What holds of bytes that are seen, of texts in quotes and of what is put together of such holds of a set.
use Rattle.std.proofs.Common.{◌≡◌, ◌⊎◌, ℕ, true, List, [], ◌∷◌, ◌++◌, refl, sym, ap, subst, ◌∙◌, inl, inr, append_assoc}
use Rattle.std.specs.Prelude.{codes}
use Rattle.adr_values.specs.declared.content.Value.{Value as Item}
use Rattle.adr_values.specs.declared.content.Value.TheVariants.{Text}
use Rattle.adr_token.specs.Words.{unspaced}
use Rattle.adr_token.specs.Texts.{is_text}
use Rattle.adr_token.specs.Spelling.{text_token}
use Rattle.adr_token.specs.Spelled.{SpellsSet, SpellsText, SpellsValue, SpellsValues}
use Rattle.adr_token.proofs.ClassLaws.{attributes_graphic}
use Rattle.adr_token.proofs.ValueLaws.{IsRead, value_form}
use Rattle.adr_token.proofs.WordLaws.{are_graphic, bare_graphic, graphic_starts}

module _ (P : List ℕ → Type 0) (append : (xs ys : List ℕ) → P xs → P ys → P (xs ++ ys))
    (graphic : (bs : List ℕ) → are_graphic bs ≡ true → P bs) (text : (t : List ℕ) → is_text t ≡ true → P (text_token t)) where
  value_by : (value : Item) (token : List ℕ) → ((t : List ℕ) × (value ≡ Text t) × SpellsText t token) ⊎ IsRead value token → P token
  value_by value token (inl s) = subst P (sym s.2.1) (text s.0 s.2.0)
  value_by value token (inr r) = graphic token (bare_graphic token r.0)

  pub value_holds : (value : Item) (token : List ℕ) → SpellsValue value token → P token
  value_holds value token s = value_by value token (value_form value token s)

  pub values_hold : (values : List Item) (token : List ℕ) → SpellsValues values token → P token
  values_hold [] token s = subst P (sym s) (graphic [] refl)
  values_hold (value ∷ []) token s = value_holds value token s
  values_hold (value ∷ next ∷ values) token s =
      subst P (sym s.4) (append (s.0 ++ codes ",") s.1 (append s.0 (codes ",") (value_holds value s.0 s.2) (graphic (codes ",") refl)) (values_hold (next ∷ values) s.1 s.3))

  pub set_holds : (attr : ℕ) (values : List Item) (token : List ℕ) → SpellsSet attr values token → P token
  set_holds attr values token s =
      subst P (sym s.4) (append (s.0 ++ codes "=") s.1 (append s.0 (codes "=") (graphic s.0 (attributes_graphic attr s.0 s.2).0) (graphic (codes "=") refl)) (values_hold values s.1 s.3))

-- no space stands in front of a set
pub set_starts : (attr : ℕ) (values : List Item) (token rest : List ℕ) → SpellsSet attr values token → unspaced (token ++ rest) ≡ token ++ rest
set_starts attr values token rest s =
    let seen = attributes_graphic attr s.0 s.2 in
    let same : token ++ rest ≡ s.0 ++ (codes "=" ++ (s.1 ++ rest)) =
    ap (λ (bs : List ℕ). bs ++ rest) s.4 ∙ append_assoc (s.0 ++ codes "=") s.1 rest ∙ append_assoc s.0 (codes "=") (s.1 ++ rest) in
    ap unspaced same ∙ graphic_starts s.0 (codes "=" ++ (s.1 ++ rest)) seen.0 seen.1 ∙ sym same
