-- Rows that are read from one hint to the next.
use Rattle.std.proofs.Common.{◌≡◌, inl, inr, refl, sym, ap, ◌∙◌, subst, List, [], ◌∷◌, Bool, true, Option, Some, None, filter, filter_map, map}
use Rattle.std.specs.List.{cons_option}
use Rattle.std.specs.Ordering.{is_eq}
use Rattle.std.specs.declared.cmp.Ordering.{Ordering}
use Rattle.std.specs.declared.cmp.Ordering.TheVariants.{Less}
use Rattle.std.proofs.lemmas.Cmp.{tied_itself}
use Rattle.adr_model.specs.Member.{Member}
use Rattle.adr_model.specs.Update.{Key, key_order, same_key}
use Rattle.adr_model.specs.Store.{Held, row_held}
use Rattle.adr_model.specs.Formed.{AreRising}
use Rattle.adr_model.proofs.Keys.{exact_keys, keys_total}
use Rattle.adr_model.proofs.Members.{found_member, in_filter, in_filter_map, member_mapped, of_filter, of_filter_map}
use Rattle.adr_law_knowledge.specs.Rises.{Rises}
use Rattle.adr_law_knowledge.proofs.Counting.{rises_from}
use Rattle.adr_law_knowledge.proofs.Lists.{filter_rises, not_both_ways, same_members_one_list}
use Rattle.adr_model.proofs.Keys.{equal_order}
use Rattle.adr_table.proofs.Queries.{one_of_key}

-- rows in the order of their keys
abbrev pub row_order : Held → Held → Ordering
row_order x y = key_order x.update.key y.update.key

pub rows_rise : (rows : List Held) → AreRising rows → Rises row_order rows
rows_rise rows rising = by rows (rises_from key_order (map (λ (h : Held). h.update.key) rows) rising)
  where
    by : (xs : List Held) → Rises key_order (map (λ (h : Held). h.update.key) xs) → Rises row_order xs
    by [] r = tt
    by (x ∷ xs) r = ((λ y m. r.0 y.update.key (member_mapped (λ (h : Held). h.update.key) xs y m)), by xs r.1)

-- a row among rising ones is that of its key
pub held_is : (rows : List Held) → AreRising rows → (h : Held) → Member h rows → row_held rows h.update.key ≡ Some h
held_is rows rising h m =
    by (row_held rows h.update.key) refl
    (subst (Member h) (one_of_key h.update.key rows rising)
    (in_filter (λ x. same_key x.update.key h.update.key) rows h m (ap is_eq (tied_itself keys_total h.update.key))))
  where
    by : (r : Option Held) → row_held rows h.update.key ≡ r → Member h (cons_option r []) → row_held rows h.update.key ≡ Some h
    by None is n = absurd n
    by (Some g) is (inl e) = is ∙ ap Some (sym e)
    by (Some g) is (inr n) = absurd n

-- and the row of a key is among them
pub is_held : (rows : List Held) (k : Key) (h : Held) → row_held rows k ≡ Some h → Member h rows × (h.update.key ≡ k)
is_held rows k h is =
    let t = found_member (λ x. same_key x.update.key k) rows h is in (t.0, exact_keys h.update.key k (equal_order (key_order h.update.key k) t.1))

module _ {B : Type 0} (R : B → B → Ordering) (row : B → Option Held) (test : Held → Bool) (rows : List Held) where
  -- a later hint has a later row
  abbrev pub InTurn : Type 0
  InTurn = (b c : B) (h g : Held) → row b ≡ Some h → row c ≡ Some g → R b c ≡ Less → row_order h g ≡ Less

  read_rises : InTurn → (bs : List B) → Rises R bs → Rises row_order (filter_map row bs)
  read_rises turn [] r = tt
  read_rises turn (b ∷ bs) r = by (row b) refl (read_rises turn bs r.1)
    where
      by : (o : Option Held) → row b ≡ o → Rises row_order (filter_map row bs) → Rises row_order (cons_option o (filter_map row bs))
      by None is later = later
      by (Some h) is later = ((λ g m. let t = of_filter_map row bs g m in turn b t.0 h g is t.2 (r.0 t.0 t.1)), later)

  -- the rows of all hints are those that pass a test, where each of these has its hint
  pub all_read : (bs : List B) → Rises R bs → AreRising rows → InTurn
      → ((b : B) (h : Held) → row b ≡ Some h → Member h rows × (test h ≡ true))
      → ((h : Held) → Member h rows → test h ≡ true → (b : B) × Member b bs × (row b ≡ Some h))
      → filter_map row bs ≡ filter test rows
  all_read bs r rising turn own there =
      same_members_one_list row_order (λ x y. not_both_ways key_order keys_total exact_keys x.update.key y.update.key) (filter_map row bs) (filter test rows)
      (read_rises turn bs r)
      (filter_rises row_order test rows (rows_rise rows rising))
      (λ h m. let t = of_filter_map row bs h m in let is = own t.0 h t.2 in in_filter test rows h is.0 is.1)
      (λ h m. let t = of_filter test rows h m in let b = there h t.0 t.1 in in_filter_map row bs b.0 h b.1 b.2)
