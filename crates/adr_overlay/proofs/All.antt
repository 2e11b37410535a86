-- What holds of all rows that are told.
use Rattle.std.proofs.Common.{◌≡◌, List, [], ◌∷◌, ◌++◌, Bool, true, false, cond, not, ◌&&◌, ◌||◌, refl, sym, ap, ◌∙◌, Option, Some, None, is_some, is_none, filter}
use Rattle.std.specs.List.{list_all}
use Rattle.std.specs.Ordering.{is_eq, match_ordering}
use Rattle.std.specs.declared.cmp.Ordering.{Ordering}
use Rattle.std.specs.declared.cmp.Ordering.TheVariants.{Less, Equal, Greater}
use Rattle.std.proofs.lemmas.List.Folds.{list_all-append}
use Rattle.adr_values.specs.declared.stamp.Oid.{Oid}
use Rattle.adr_model.specs.Update.{Key, key_order, same_key}
use Rattle.adr_model.specs.Store.{Held, row_held, is_row_of, with_row}
use Rattle.adr_model.specs.Formed.{AreRising}
use Rattle.adr_model.proofs.Keys.{exact_keys}
use Rattle.adr_law_knowledge.proofs.RisingHeld.{IsBelow, head_below, tail_rising, below_all, below_same, fewer_rise}
use Rattle.adr_overlay.specs.Overlay.{is_stripped, is_left, laid, told}
use Rattle.adr_overlay.proofs.Telling.{laid_rises}

all_same : (p q : Held → Bool) (rows : List Held) → ((h : Held) → p h ≡ q h) → list_all p rows ≡ list_all q rows
all_same p q [] e = refl
all_same p q (x ∷ xs) e = ap (λ b. b && list_all p xs) (e x) ∙ ap (λ b. q x && b) (all_same p q xs e)

pub all_filter : (p q : Held → Bool) (rows : List Held) → list_all p (filter q rows) ≡ list_all (λ h. not (q h) || p h) rows
all_filter p q [] = refl
all_filter p q (x ∷ xs) = by (q x) (all_filter p q xs)
  where
    by : (b : Bool) → list_all p (filter q xs) ≡ list_all (λ h. not (q h) || p h) xs → list_all p (cond b (x ∷ filter q xs) (filter q xs)) ≡ (not b || p x) && list_all (λ h. not (q h) || p h) xs
    by true later = ap (λ b. p x && b) later
    by false later = later

-- of rows behind a key none is of it
all_behind : (p : Held → Bool) (k : Key) (rows : List Held) → IsBelow k rows → list_all (λ h. same_key k h.update.key || p h) rows ≡ list_all p rows
all_behind p k [] b = refl
all_behind p k (x ∷ xs) b = ap (λ o. (is_eq o || p x) && list_all (λ h. same_key k h.update.key || p h) xs) b.0 ∙ ap (λ t. p x && t) (all_behind p k xs b.1)

-- all rows after one was laid among them: that one, and the others that aren't of its key
all_with_row : (p : Held → Bool) (rows : List Held) (h : Held) → AreRising rows → list_all p (with_row rows h) ≡ p h && list_all (λ x. same_key h.update.key x.update.key || p x) rows
all_with_row p [] h r = refl
all_with_row p (x ∷ xs) h r = by (key_order h.update.key x.update.key) refl (all_with_row p xs h (tail_rising x xs r))
  where
    others : List Held → Bool
    others ys = list_all (λ y. same_key h.update.key y.update.key || p y) ys

    swapped : (a b c : Bool) → a && (b && c) ≡ b && (a && c)
    swapped true b c = refl
    swapped false true c = refl
    swapped false false c = refl

    by : (o : Ordering) → key_order h.update.key x.update.key ≡ o → list_all p (with_row xs h) ≡ p h && others xs
        → list_all p (match_ordering o (h ∷ x ∷ xs) (h ∷ xs) (x ∷ with_row xs h)) ≡ p h && ((is_eq (key_order h.update.key x.update.key) || p x) && others xs)
    by Less is later =
        ap (λ b. p h && (p x && b)) (sym (all_behind p h.update.key xs (below_all h.update.key x.update.key xs is (head_below x xs r))))
        ∙ ap (λ o. p h && ((is_eq o || p x) && others xs)) (sym is)
    by Equal is later =
        ap (λ b. p h && b) (sym (all_behind p h.update.key xs (below_same h.update.key x.update.key xs (exact_keys h.update.key x.update.key is) (head_below x xs r))))
        ∙ ap (λ o. p h && ((is_eq o || p x) && others xs)) (sym is)
    by Greater is later =
        ap (λ b. p x && b) later ∙ swapped (p x) (p h) (others xs)
        ∙ ap (λ o. p h && ((is_eq o || p x) && others xs)) (sym is)

either_way : (b : Bool) → b || true ≡ true
either_way true = refl
either_way false = refl

-- all rows that are laid, and of the base those of other keys
all_laid : (p : Held → Bool) (over base : List Held) → AreRising over → AreRising base
    → list_all p (laid over base) ≡ list_all p over && list_all (λ h. is_some (row_held over h.update.key) || p h) base
all_laid p [] base s r = refl
all_laid p (x ∷ xs) base s r =
    all_with_row p (laid xs base) x (laid_rises xs base r)
    ∙ ap (λ b. p x && b) (all_laid (λ h. same_key x.update.key h.update.key || p h) xs base (tail_rising x xs s) r)
    ∙ ap (λ b. p x && (b && list_all (λ h. is_some (row_held xs h.update.key) || (same_key x.update.key h.update.key || p h)) base)) (all_behind p x.update.key xs (head_below x xs s))
    ∙ ap (λ b. p x && (list_all p xs && b)) (all_same (λ h. is_some (row_held xs h.update.key) || (same_key x.update.key h.update.key || p h)) (λ h. is_some (row_held (x ∷ xs) h.update.key) || p h) base (λ h. by (same_key x.update.key h.update.key) (row_held xs h.update.key) (p h)))
    ∙ grouped (p x) (list_all p xs) (list_all (λ h. is_some (row_held (x ∷ xs) h.update.key) || p h) base)
  where
    by : (b : Bool) (o : Option Held) (c : Bool) → is_some o || (b || c) ≡ is_some (cond b (Some x) o) || c
    by true o c = either_way (is_some o)
    by false o c = refl

    grouped : (a b c : Bool) → a && (b && c) ≡ (a && b) && c
    grouped true b c = refl
    grouped false b c = refl

-- rows of an object: those over the base, and those of the base that are left
pub all_of_told : (p : Held → Bool) (o : Oid) (over base : List Held) → AreRising over → AreRising base
    → list_all p (filter (λ h. is_row_of o h.update.key) over ++ filter (λ h. is_left over h.update.key) (filter (λ h. is_row_of o h.update.key) base))
    ≡ list_all (λ h. not (is_row_of o h.update.key) || p h) (told over base)
all_of_told p o over base s r =
    list_all-append p (filter of over) (filter left (filter of base))
    ∙ ap (λ b. b && list_all p (filter left (filter of base))) (all_filter p of over)
    ∙ ap (λ b. list_all of_it over && b) (all_filter p left (filter of base) ∙ all_filter (λ h. not (left h) || p h) of base ∙ all_same _ _ base (λ h. turn (of h) (is_stripped over h.update.key) (row_held over h.update.key) (p h)) ∙ sym (all_filter (λ h. is_some (row_held over h.update.key) || of_it h) (λ h. not (is_stripped over h.update.key)) base))
    ∙ sym (all_laid of_it over (filter (λ h. not (is_stripped over h.update.key)) base) s (fewer_rise (λ k. not (is_stripped over k)) base r))
  where
    of : Held → Bool
    of h = is_row_of o h.update.key

    left : Held → Bool
    left h = is_left over h.update.key

    of_it : Held → Bool
    of_it h = not (is_row_of o h.update.key) || p h

    turn : (q s : Bool) (r : Option Held) (b : Bool) → not q || (not (not s && is_none r) || b) ≡ not (not s) || (is_some r || (not q || b))
    turn false true r b = refl
    turn false false r b = sym (either_way (is_some r))
    turn true true r b = refl
    turn true false None b = refl
    turn true false (Some x) b = refl
