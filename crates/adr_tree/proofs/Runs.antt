-- Hints of one run, from one to the next.
use Rattle.std.proofs.Common.{◌≡◌, refl, sym, ap, ◌∙◌, subst, ℕ, List, [], ◌∷◌, Bool, true, false, not, ◌&&◌, ◌||◌, Option, Some, None, filter}
use Rattle.std.specs.List.{AllByRecursion, list_any}
use Rattle.std.specs.List.Sorted.{IsStrictlySortedBy}
use Rattle.std.specs.Option.{option_cmp}
use Rattle.std.specs.BTreeMap.{is_at}
use Rattle.std.specs.BTreeMap.Range.{IsLeBy, range_contains}
use Rattle.std.specs.Ordering.{is_eq, is_gt, is_le, nat_cmp, ordering_reverse, ordering_then}
use Rattle.std.specs.Cmp.{IsTotalOrder}
use Rattle.std.specs.declared.ops.Bound.TheVariants.{Included, Unbounded}
use Rattle.std.specs.declared.cmp.Ordering.{Ordering}
use Rattle.std.specs.declared.cmp.Ordering.TheVariants.{Less, Equal, Greater}
use Rattle.std.proofs.lemmas.Cmp.{on_total, tied_itself}
use Rattle.std.proofs.lemmas.List.Kept.{IsStrictlySortedBy-filter}
use Rattle.std.proofs.lemmas.Map.Keys.{sorted_head, sorted_tail}
use Rattle.std.proofs.lemmas.Map.Views.{any-filter_same}
use Rattle.std.proofs.lemmas.Map.Lookups.{CmpEqualImpliesEq, exact_pairs, exact_unsigned, exact_bytes}
use Rattle.adr_values.specs.Order.{identifier_order}
use Rattle.adr_model.specs.Update.{Identifier}
use Rattle.adr_model.proofs.Keys.{equal_order}
use Rattle.adr_update.proofs.Starts.{from_all}
use Rattle.adr_tree.specs.declared.hints.Hint.{Hint}
use Rattle.adr_tree.specs.Hints.{hint_order, is_in_run}
use Rattle.adr_tree.specs.contracts.hints.HintOrd.TheImpl.Laws.{total-law}

pub hints_total : IsTotalOrder hint_order
hints_total = total-law

exact_options : {K : Type 0} (R : K → K → Ordering) → CmpEqualImpliesEq R → CmpEqualImpliesEq (option_cmp R)
exact_options R exact None None h = refl
exact_options R exact None (Some y) h = cc
exact_options R exact (Some x) None h = cc
exact_options R exact (Some x) (Some y) h = ap Some (exact x y h)

pub exact_hints : CmpEqualImpliesEq hint_order
exact_hints a b h =
    ap (λ (p : Identifier × (Option ℕ × Option Identifier)). let q : Hint = record { parent = p.0; number = p.1.0; guid = p.1.1 } in q)
    (exact_pairs _ _ exact_bytes (exact_pairs _ _ (exact_options nat_cmp exact_unsigned) (exact_options identifier_order exact_bytes))
    (a.parent, (a.number, a.guid)) (b.parent, (b.number, b.guid)) h)

pub told_apart : (q h : Hint) → is_at (hint_order q) h ≡ true → q ≡ h
told_apart q h at = exact_hints q h (equal_order (hint_order q h) at)

pub itself_at : (h : Hint) → is_at (hint_order h) h ≡ true
itself_at h = ap is_eq (tied_itself hints_total h)

-- ---- runs

-- a hint without its GUID
abbrev bare : Hint → Hint
bare h = record { parent = h.parent; number = h.number; guid = None }

runs_total : IsTotalOrder (λ (a b : Hint). hint_order (bare a) (bare b))
runs_total = on_total bare hints_total

in_bare : (a b : Hint) → is_in_run a b ≡ is_eq (hint_order (bare a) (bare b))
in_bare a b = by (identifier_order a.parent b.parent) (option_cmp nat_cmp a.number b.number)
  where
    by : (o p : Ordering) → (is_eq o && is_eq p) ≡ is_eq (ordering_then o (ordering_then p Equal))
    by Less p = refl
    by Equal Less = refl
    by Equal Equal = refl
    by Equal Greater = refl
    by Greater p = refl

bare_le : (a b : Hint) → IsLeBy hint_order a b → is_gt (hint_order (bare a) (bare b)) ≡ false
bare_le a b h = by (identifier_order a.parent b.parent) (option_cmp nat_cmp a.number b.number) (option_cmp identifier_order a.guid b.guid) h
  where
    by : (o p q : Ordering) → is_gt (ordering_then o (ordering_then p q)) ≡ false → is_gt (ordering_then o (ordering_then p Equal)) ≡ false
    by Less p q h = refl
    by Equal Less q h = refl
    by Equal Equal q h = refl
    by Equal Greater q h = h
    by Greater p q h = h

-- what lies between the start and a hint of its run is of the run
pub between : (start h q : Hint) → IsLeBy hint_order start h → IsLeBy hint_order h q → is_in_run start q ≡ true → is_in_run start h ≡ true
between start h q from upto in_run =
    in_bare start h
    ∙ ap is_eq (by (hint_order (bare start) (bare h)) (hint_order (bare h) (bare q)) (same ∙ runs_total.antisymm q h) (bare_le start h from) (bare_le h q upto))
  where
    same : hint_order (bare start) (bare h) ≡ hint_order (bare q) (bare h)
    same = runs_total.congr start q h (equal_order (hint_order (bare start) (bare q)) (sym (in_bare start q) ∙ in_run))

    by : (o p : Ordering) → o ≡ ordering_reverse p → is_gt o ≡ false → is_gt p ≡ false → o ≡ Equal
    by Less Less e g h = cc
    by Less Equal e g h = cc
    by Less Greater e g h = cc
    by Equal p e g h = refl
    by Greater p e g h = cc

-- hints of a run that lie from its start on, in order
abbrev pub Run : Hint → List Hint → Type 0
Run start left = IsStrictlySortedBy hint_order left × AllByRecursion (λ h. IsLeBy hint_order start h) left

pub onward : (start h : Hint) (hs left : List Hint) → left ≡ h ∷ hs → Run start left → Run start hs
onward start h hs left is run = let t = subst (Run start) is run in (sorted_tail hint_order h hs t.0, t.1.1)

less_le : (o : Ordering) → o ≡ Less → is_gt o ≡ false
less_le Less e = refl
less_le Equal e = cc
less_le Greater e = cc

-- at the first hint that isn't of the run none is left
none_later : (start h q : Hint) → IsLeBy hint_order start h → is_in_run start h ≡ false → is_in_run start q ≡ true → (hs : List Hint) → AllByRecursion (λ k. hint_order h k ≡ Less) hs → list_any (is_at (hint_order q)) hs ≡ false
none_later start h q from other in_run [] below = refl
none_later start h q from other in_run (k ∷ ks) below = by (is_at (hint_order q) k) refl (none_later start h q from other in_run ks below.1)
  where
    by : (b : Bool) → is_at (hint_order q) k ≡ b → list_any (is_at (hint_order q)) ks ≡ false → (b || list_any (is_at (hint_order q)) ks) ≡ false
    by true at rest =
        let upto : IsLeBy hint_order h q = subst (IsLeBy hint_order h) (sym (told_apart q k at)) (less_le (hint_order h k) below.0) in
        let no : false ≡ true = sym other ∙ between start h q from upto in_run in cc
    by false at rest = rest

pub stopped : (start h : Hint) (hs left : List Hint) → left ≡ h ∷ hs → Run start left → is_in_run start h ≡ false → (q : Hint) → is_in_run start q ≡ true → list_any (is_at (hint_order q)) left ≡ false
stopped start h hs left is run other q in_run =
    let t = subst (Run start) is run in
    ap (list_any (is_at (hint_order q))) is ∙ by (is_at (hint_order q) h) refl (none_later start h q t.1.0 other in_run hs (sorted_head hint_order h hs t.0))
  where
    by : (b : Bool) → is_at (hint_order q) h ≡ b → list_any (is_at (hint_order q)) hs ≡ false → (b || list_any (is_at (hint_order q)) hs) ≡ false
    by true at rest = let no : false ≡ true = sym other ∙ ap (is_in_run start) (sym (told_apart q h at)) ∙ in_run in cc
    by false at rest = rest

-- a hint that is left is the first one or one behind it, which is greater
pub first_or_later : (start h : Hint) (hs left : List Hint) → left ≡ h ∷ hs → (q : Hint) → list_any (is_at (hint_order q)) left ≡ true → is_at (hint_order q) h ≡ false → list_any (is_at (hint_order q)) hs ≡ true
first_or_later start h hs left is q any other =
    sym (ap (λ b. b || list_any (is_at (hint_order q)) hs) other) ∙ sym (ap (list_any (is_at (hint_order q))) is) ∙ any

greater_later : (h q : Hint) (hs : List Hint) → AllByRecursion (λ k. hint_order h k ≡ Less) hs → list_any (is_at (hint_order q)) hs ≡ true → hint_order h q ≡ Less
greater_later h q [] below any = cc
greater_later h q (k ∷ ks) below any = by (is_at (hint_order q) k) refl any (greater_later h q ks below.1)
  where
    by : (b : Bool) → is_at (hint_order q) k ≡ b → (b || list_any (is_at (hint_order q)) ks) ≡ true → (list_any (is_at (hint_order q)) ks ≡ true → hint_order h q ≡ Less) → hint_order h q ≡ Less
    by true at any rest = subst (λ r. hint_order h r ≡ Less) (sym (told_apart q k at)) below.0
    by false at any rest = rest any

pub behind : (start h : Hint) (hs left : List Hint) → left ≡ h ∷ hs → Run start left → (q : Hint) → list_any (is_at (hint_order q)) hs ≡ true → hint_order h q ≡ Less
behind start h hs left is run q any = greater_later h q hs (sorted_head hint_order h hs (subst (Run start) is run).0) any

-- ---- the hints from the start of a run on

pub begins : (start : Hint) (hs left : List Hint) → left ≡ filter (range_contains hint_order (Included start) Unbounded) hs → IsStrictlySortedBy hint_order hs → Run start left
begins start hs left is sorted =
    subst (Run start) (sym is) (IsStrictlySortedBy-filter hint_order (range_contains hint_order (Included start) Unbounded) hs sorted, from_all hint_order start hs)

-- a hint of the run is not before its start
pub from_start : (start q : Hint) → start.guid ≡ None → is_in_run start q ≡ true → range_contains hint_order (Included start) Unbounded q ≡ true
from_start start q bare_start in_run = by (identifier_order start.parent q.parent) (option_cmp nat_cmp start.number q.number) start.guid q.guid bare_start in_run
  where
    by : (o p : Ordering) (a b : Option Identifier) → a ≡ None → (is_eq o && is_eq p) ≡ true → (is_le (ordering_then o (ordering_then p (option_cmp identifier_order a b))) && not false) ≡ true
    by Less p a b e h = refl
    by Equal Less a b e h = refl
    by Equal Equal None None e h = refl
    by Equal Equal None (Some g) e h = refl
    by Equal Equal (Some f) b e h = cc
    by Equal Greater a b e h = cc
    by Greater p a b e h = cc

pub left_of_run : (start : Hint) → start.guid ≡ None → (hs left : List Hint) → left ≡ filter (range_contains hint_order (Included start) Unbounded) hs
    → (q : Hint) → is_in_run start q ≡ true → list_any (is_at (hint_order q)) hs ≡ true → list_any (is_at (hint_order q)) left ≡ true
left_of_run start bare_start hs left is q in_run any =
    subst (λ xs. list_any (is_at (hint_order q)) xs ≡ true) (sym is)
    (any-filter_same (is_at (hint_order q)) (range_contains hint_order (Included start) Unbounded) true
    (λ b at. subst (λ r. range_contains hint_order (Included start) Unbounded r ≡ true) (told_apart q b at) (from_start start q bare_start in_run)) hs ∙ any)

-- in a run the order is that of the GUIDs
pub guid_less : (start h q : Hint) → is_in_run start h ≡ true → is_in_run start q ≡ true → hint_order h q ≡ Less → option_cmp identifier_order h.guid q.guid ≡ Less
guid_less start h q in_h in_q less = by (identifier_order h.parent q.parent) (option_cmp nat_cmp h.number q.number) (option_cmp identifier_order h.guid q.guid) same less
  where
    same : hint_order (bare h) (bare q) ≡ Equal
    same =
        sym (runs_total.congr start h q (equal_order (hint_order (bare start) (bare h)) (sym (in_bare start h) ∙ in_h)))
        ∙ equal_order (hint_order (bare start) (bare q)) (sym (in_bare start q) ∙ in_q)

    by : (o p r : Ordering) → ordering_then o (ordering_then p Equal) ≡ Equal → ordering_then o (ordering_then p r) ≡ Less → r ≡ Less
    by Less p r e l = cc
    by Equal Less r e l = cc
    by Equal Equal r e l = l
    by Equal Greater r e l = cc
    by Greater p r e l = cc
