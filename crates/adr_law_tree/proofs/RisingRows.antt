-- Rows that rise by their keys all win.
use Rattle.std.proofs.Common.{◌≡◌, List, [], ◌∷◌, Some, refl, ap, ◌∙◌, subst, map, filter_map}
use Rattle.std.specs.List.Sorted.{IsStrictlySortedBy}
use Rattle.std.specs.Ordering.{is_eq}
use Rattle.std.proofs.lemmas.Cmp.{tied_itself}
use Rattle.adr_model.specs.Member.{Member}
use Rattle.adr_model.specs.Update.{Key, Update, key_order}
use Rattle.adr_model.specs.Winner.{winner, winners}
use Rattle.adr_model.specs.Store.{Held, updates_of}
use Rattle.adr_model.specs.Formed.{AreRising}
use Rattle.adr_model.proofs.Keys.{equal_order, exact_keys, keys_total, winner_found}
use Rattle.adr_model.proofs.Members.{filter_map_keys}
use Rattle.adr_law_tree.proofs.Rising.{one_of_each, keys_that_rise}

abbrev pub key : Update → Key
key u = u.key

pub rising_updates : (rows : List Held) → AreRising rows → IsStrictlySortedBy key_order (map key (updates_of rows))
rising_updates rows s = subst (IsStrictlySortedBy key_order) (same rows) s
  where
    same : (hs : List Held) → map (λ (h : Held). h.update.key) hs ≡ map key (updates_of hs)
    same [] = refl
    same (h ∷ hs) = ap (λ ks. h.update.key ∷ ks) (same hs)

pub rising_win : (us : List Update) → IsStrictlySortedBy key_order (map key us) → winners us ≡ us
rising_win us s = ap (filter_map (winner us)) (keys_that_rise key_order keys_total exact_keys (map key us) s) ∙ filter_map_keys key (winner us) us wins
  where
    wins : (u : Update) → Member u us → winner us u.key ≡ Some u
    wins u m = winner_found us u m (ap is_eq (tied_itself keys_total u.key))
        (λ v n same. one_of_each key_order key keys_total us s v n u m (exact_keys v.key u.key (equal_order (key_order v.key u.key) same)))
