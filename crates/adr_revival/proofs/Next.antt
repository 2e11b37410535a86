-- Rows of links under one number after the other.
use Rattle.std.proofs.Common.{◌≡◌, ◌<◌, ◌+◌, ℕ, suc, List, [], ◌∷◌, ◌++◌, get_or, drop, length, refl, sym, ap, ◌∙◌, append_assoc}
use Rattle.std.proofs.lemmas.List.{drop_more}
use Rattle.adr_values.specs.declared.stamp.LinkKey.{LinkKey}
use Rattle.adr_model.specs.Change.{Written}
use Rattle.adr_model.specs.Store.{State}
use Rattle.adr_model.specs.Write.{link_row, new_links}

module _ (s : State) (now : ℕ) where
  pub length_links : (usn : ℕ) (ls : List LinkKey) → length (new_links s now usn ls) ≡ length ls
  length_links usn [] = refl
  length_links usn (l ∷ ls) = ap suc (length_links (usn + 1) ls)

  -- one link more
  pub next_written : (ls : List LinkKey) (i : ℕ) (l : LinkKey) → i < length ls → l ≡ get_or ls i l → (usn : ℕ) (ws next whole : List Written) → next ≡ ws ++ link_row s now usn l ∷ []
      → ws ++ new_links s now usn (drop i ls) ≡ whole → next ++ new_links s now (usn + 1) (drop (i + 1) ls) ≡ whole
  next_written ls i l within is usn ws next whole grown so_far =
      ap (λ ys. ys ++ new_links s now (usn + 1) (drop (i + 1) ls)) (grown ∙ ap (λ k. ws ++ link_row s now usn k ∷ []) is)
      ∙ (append_assoc ws (link_row s now usn (get_or ls i l) ∷ []) (new_links s now (usn + 1) (drop (i + 1) ls))
      ∙ (sym (ap (λ ks. ws ++ new_links s now usn ks) (drop_more ls i l within)) ∙ so_far))

-- one is left less
pub one_less_left : (ls : List LinkKey) (i : ℕ) (l : LinkKey) → i < length ls → length (drop i ls) ≡ suc (length (drop (i + 1) ls))
one_less_left ls i l within = ap length (drop_more ls i l within)
