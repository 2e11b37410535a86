-- Images are read again.
use Rattle.std.proofs.Common.{◌≡◌, ℕ, List, Ok, Err, sym, ap, subst, ◌∙◌}
use Rattle.adr_wire.specs.declared.refusal.DecodeRefusal.{DecodeRefusal}
use Rattle.adr_model.specs.Formed.{IsFormedStore}
use Rattle.adr_model.specs.Store.{Store}
use Rattle.adr_image.specs.Stored.{IsSpelled, decoded, image}
use Rattle.adr_image.proofs.Placed.{image_read}
use Rattle.adr_restore.specs.Said.{or_empty, said_by}

module _ (bytes : List ℕ) (s : Store) (is : bytes ≡ image s) (formed : IsFormedStore s) (spelled : IsSpelled s) where
  pub read_again : decoded bytes ≡ Ok s
  read_again = ap decoded is ∙ image_read s formed spelled

  pub said_again : said_by bytes ≡ s
  said_again = ap or_empty read_again

  pub is_image : IsFormedStore (said_by bytes) × IsSpelled (said_by bytes) × (bytes ≡ image (said_by bytes))
  is_image = (subst IsFormedStore (sym said_again) formed, subst IsSpelled (sym said_again) spelled, is ∙ ap (λ (t : Store). image t) (sym said_again))

  pub one_store : (t : Store) → decoded bytes ≡ Ok t → t ≡ s
  one_store t e = ap or_empty (sym e ∙ read_again)

  pub never_refused : (why : DecodeRefusal) → decoded bytes ≡ Err why → ⊥
  never_refused why e = let clash : Err why ≡ Ok s = sym e ∙ read_again in absurd (cc)
