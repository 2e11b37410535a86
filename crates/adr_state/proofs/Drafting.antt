-- Drafts, when a row is written and when an object is removed, and the edits to which they come.
use Rattle.std.proofs.Common.{◌≡◌, ◌<◌, ◌+◌, inl, inr, ℕ, length, get_or, take, Bool, true, false, cond, List, [], ◌∷◌, Option, Some, None, refl, sym, ap, ◌∙◌, subst, map, fold}
use Rattle.std.specs.Prelude.{if◌then◌else◌, nat_lt, not, unwrap_or}
use Rattle.std.specs.Option.{IfSome, MatchOption}
use Rattle.std.specs.List.{AllByRecursion}
use Rattle.std.specs.Ordering.{is_eq, ordering_reverse}
use Rattle.std.specs.declared.cmp.Ordering.TheVariants.{Less}
use Rattle.std.specs.Map.{lookup, keys_of}
use Rattle.std.specs.BTreeMap.{BTreeMap, get, is_at, IsOrdered, Updates}
use Rattle.std.specs.List.Sorted.{IsStrictlySortedBy}
use Rattle.std.proofs.lemmas.Cmp.{nat_list_cmp_total}
use Rattle.std.proofs.lemmas.List.{take_more}
use Rattle.std.proofs.lemmas.List.Sums.{fold-append}
use Rattle.std.proofs.lemmas.Map.Keys.{sorted_head, sorted_tail}
use Rattle.std.proofs.lemmas.Map.Entries.{lookup_head, lookup_tail}
use Rattle.adr_values.specs.Order.{identifier_order}
use Rattle.adr_values.specs.declared.stamp.Oid.{Oid}
use Rattle.adr_model.specs.Member.{Each}
use Rattle.adr_model.specs.Update.{Identifier, Key, RowOf, LinkOf, deleted_attr, same_identifier}
use Rattle.adr_model.specs.Store.{Held, updates_of, with_row}
use Rattle.adr_model.specs.Change.{put, without_object}
use Rattle.adr_model.specs.Formed.{AreRising}
use Rattle.adr_model.specs.Place.{Node, node_at}
use Rattle.adr_model.specs.Write.{is_of_guid, nodes_held}
use Rattle.adr_model.proofs.Members.{found_member, mapped_member}
use Rattle.adr_law_tree.proofs.Fuel.{same_guid, itself}
use Rattle.adr_tree.specs.Edits.{AreOwn, edited}
use Rattle.adr_tree.specs.declared.edit.Edit.{Edit}
use Rattle.adr_state.specs.Core.{is_core, core_object, core_of}
use Rattle.adr_state.specs.Drafts.{AreDrafts, IsDraft, DoRise, edit_of}
use Rattle.adr_state.proofs.Core.{core_put, core_of_other, core_of_value, core_without, core_without_other, core_rises, core_decides}

abbrev Drafts : Type 0
Drafts = BTreeMap Identifier (List Held)

-- ---- one step

-- the draft of a GUID is what the GUID has
drafted : (rows seen : List Held) (old : Drafts) (g : Identifier) (draft : List Held) → AreDrafts rows seen old → IsDraft rows old g draft → draft ≡ core_of g seen
drafted rows seen old g draft are is = is ∙ by (get identifier_order old g) (are g)
  where
    by : (o : Option (List Held)) → MatchOption o (core_of g seen ≡ core_of g rows) (λ d. d ≡ core_of g seen) → unwrap_or o (core_of g rows) ≡ core_of g seen
    by None e = sym e
    by (Some d) e = e

step : (rows seen seen' : List Held) (old new : Drafts) (g : Identifier) (draft after : List Held) → AreDrafts rows seen old → IsDraft rows old g draft
    → Updates identifier_order old new g (Some after) → (draft ≡ core_of g seen → after ≡ core_of g seen')
    → ((h : Identifier) → same_identifier g h ≡ false → core_of h seen' ≡ core_of h seen) → AreDrafts rows seen' new
step rows seen seen' old new g draft after are is up here there h = by (same_identifier g h) refl
  where
    mine : g ≡ h → after ≡ core_of h seen'
    mine e = here (drafted rows seen old g draft are is) ∙ ap (λ k. core_of k seen') e

    by : (b : Bool) → same_identifier g h ≡ b → MatchOption (get identifier_order new h) (core_of h seen' ≡ core_of h rows) (λ d. d ≡ core_of h seen')
    by true e = let f : get identifier_order new h ≡ Some after = up.0 h ∙ ap (λ b. cond b (Some after) (get identifier_order old h)) e in rw f (mine (same_guid g h e))
    by false e =
        let f : get identifier_order new h ≡ get identifier_order old h = up.0 h ∙ ap (λ b. cond b (Some after) (get identifier_order old h)) e in
        rw (f, there h e) (are h)

-- nothing that decides changes
pub same_drafts : (rows seen seen' : List Held) (drafts : Drafts) → ((h : Identifier) → core_of h seen' ≡ core_of h seen) → AreDrafts rows seen drafts → AreDrafts rows seen' drafts
same_drafts rows seen seen' drafts same are h = rw (same h) (are h)

-- the key of a reserved row
is_reserved : (k : Key) (o : Oid) → core_object k ≡ Some o → (attr : ℕ) × (k ≡ RowOf o attr) × (is_core k ≡ true)
is_reserved (RowOf p attr) o e = by (nat_lt deleted_attr attr) refl e
  where
    by : (b : Bool) → nat_lt deleted_attr attr ≡ b → (if b then None else Some p) ≡ Some o → (a : ℕ) × (RowOf p attr ≡ RowOf o a) × (not (nat_lt deleted_attr attr) ≡ true)
    by true is e = absurd (cc)
    by false is e = let f : p ≡ o = cc in (attr, ap (λ q. RowOf q attr) f, ap not is)
is_reserved (LinkOf l) o e = absurd (cc)

not_reserved : (k : Key) → core_object k ≡ None → is_core k ≡ false
not_reserved (RowOf p attr) e = by (nat_lt deleted_attr attr) e
  where
    by : (b : Bool) → (if b then None else Some p) ≡ None → not b ≡ false
    by true e = refl
    by false e = absurd (cc)
not_reserved (LinkOf l) e = refl

-- a reserved row is written
pub row_drafted : (rows seen : List Held) (old new : Drafts) (o : Oid) (draft after : List Held) (h : Held)
    → AreRising seen → AreDrafts rows seen old → core_object h.update.key ≡ Some o → IsDraft rows old o.guid draft
    → after ≡ with_row draft h → Updates identifier_order old new o.guid (Some after) → AreDrafts rows (put seen h) new
row_drafted rows seen old new o draft after h r are of is left up =
    let t = is_reserved h.update.key o of in
    step rows seen (put seen h) old new o.guid draft after are is up
    (λ e. left ∙ ap (λ d. with_row d h) e ∙ sym (core_put o.guid seen h r (ap (is_of_guid o.guid) t.1 ∙ itself o.guid) t.2))
    (λ g other. core_of_other g seen h (ap (is_of_guid g) t.1 ∙ other))

-- another row of an object is written, or a link
pub value_drafted : (rows seen : List Held) (drafts : Drafts) (h : Held) → AreRising seen → AreDrafts rows seen drafts → core_object h.update.key ≡ None → AreDrafts rows (put seen h) drafts
value_drafted rows seen drafts h r are value = same_drafts rows seen (put seen h) drafts (λ g. core_of_value g seen h r (not_reserved h.update.key value)) are

-- an object is removed
pub object_removed : (rows seen : List Held) (old new : Drafts) (o : Oid) (draft after : List Held) → AreDrafts rows seen old → IsDraft rows old o.guid draft
    → after ≡ without_object draft o → Updates identifier_order old new o.guid (Some after) → AreDrafts rows (without_object seen o) new
object_removed rows seen old new o draft after are is left up =
    step rows seen (without_object seen o) old new o.guid draft after are is up
    (λ e. left ∙ ap (λ d. without_object d o) e ∙ sym (core_without o.guid seen o))
    (λ g other. core_without_other g seen o other)

-- one element more of a fold
pub folded_more : {A B : Type 0} (f : B → A → B) (b : B) (xs : List A) (i : ℕ) (x : A) → i < length xs → x ≡ get_or xs i x → fold f b (take (i + 1) xs) ≡ f (fold f b (take i xs)) x
folded_more f b xs i x within is = ap (fold f b) (take_more xs i x within) ∙ fold-append f b (take i xs) (get_or xs i x ∷ []) ∙ ap (f (fold f b (take i xs))) (sym is)

-- ---- drafts as a list

below_each : (k : Identifier) (es : List (Identifier × List Held)) → AllByRecursion (λ l. identifier_order k l ≡ Less) (keys_of es) → Each (λ (e : Identifier × List Held). identifier_order k e.0 ≡ Less) es
below_each k [] all e m = absurd m
below_each k (x ∷ xs) all e (inl p) = subst (λ (z : Identifier × List Held). identifier_order k z.0 ≡ Less) (sym p) all.0
below_each k (x ∷ xs) all e (inr m) = below_each k xs all.1 e m

entry_found : (es : List (Identifier × List Held)) → IsStrictlySortedBy identifier_order (keys_of es) → Each (λ (e : Identifier × List Held). lookup (is_at (identifier_order e.0)) es ≡ Some e.1) es
entry_found [] s e m = absurd m
entry_found (x ∷ xs) s e (inl p) =
    subst (λ (z : Identifier × List Held). lookup (is_at (identifier_order z.0)) (x ∷ xs) ≡ Some z.1) (sym p) (lookup_head (is_at (identifier_order x.0)) x xs (itself x.0))
entry_found (x ∷ xs) s e (inr m) =
    lookup_tail (is_at (identifier_order e.0)) x xs (ap is_eq (nat_list_cmp_total.antisymm e.0 x.0 ∙ ap ordering_reverse (below_each x.0 xs (sorted_head identifier_order x.0 (keys_of xs) s) e m)))
    ∙ entry_found xs (sorted_tail identifier_order x.0 (keys_of xs) s) e m

module _ (rows seen : List Held) (drafts : Drafts) (ordered : IsOrdered identifier_order drafts) (risen : AreRising seen) (are : AreDrafts rows seen drafts) where
  abbrev nodes_seen : List Node
  nodes_seen = nodes_held (updates_of seen)

  each_drafted : Each (λ (e : Identifier × List Held). e.1 ≡ core_of e.0 seen) drafts.entries
  each_drafted e m =
      subst (λ o. MatchOption o (core_of e.0 seen ≡ core_of e.0 rows) (λ d. d ≡ core_of e.0 seen)) (entry_found drafts.entries ordered e m) (are e.0)

  pub drafts_rise : DoRise drafts.entries
  drafts_rise e m = subst AreRising (sym (each_drafted e m)) (core_rises e.0 seen risen)

  -- each edit brings the node that its GUID comes to have
  brings : Each (λ (e : Identifier × List Held). (edit_of e).node ≡ node_at nodes_seen e.0) drafts.entries
  brings e m = ap (λ d. node_at (nodes_held (updates_of d)) e.0) (each_drafted e m) ∙ core_decides e.0 seen risen

  module _ (g : Identifier) where
    abbrev Bring : List (Identifier × List Held) → Type 0
    Bring es = Each (λ (e : Identifier × List Held). (edit_of e).node ≡ node_at nodes_seen e.0) es

    right_at : (e : Identifier × List Held) → (edit_of e).node ≡ node_at nodes_seen e.0 → same_identifier e.0 g ≡ true → (edit_of e).node ≡ node_at nodes_seen g
    right_at e is same = is ∙ ap (node_at nodes_seen) (same_guid e.0 g same)

    -- a node that is right stays
    stays_right : (es : List (Identifier × List Held)) → Bring es → (first : Option Node) → first ≡ node_at nodes_seen g → edited (map edit_of es) g first ≡ node_at nodes_seen g
    stays_right [] all first is = is
    stays_right (e ∷ es) all first is = stays_right es (λ x m. all x (inr m)) _ (by (same_identifier e.0 g) refl)
      where
        by : (b : Bool) → same_identifier e.0 g ≡ b → (if b then (edit_of e).node else first) ≡ node_at nodes_seen g
        by true same = right_at e (all e (inl refl)) same
        by false other = is

    gets_right : (es : List (Identifier × List Held)) → Bring es → (first : Option Node) (draft : List Held) → lookup (is_at (identifier_order g)) es ≡ Some draft → edited (map edit_of es) g first ≡ node_at nodes_seen g
    gets_right [] all first draft found = cc
    gets_right (e ∷ es) all first draft found = by (is_at (identifier_order g) e.0) refl found (λ n f. gets_right es (λ x m. all x (inr m)) n draft f)
      where
        by : (b : Bool) → is_at (identifier_order g) e.0 ≡ b → cond b (Some e.1) (lookup (is_at (identifier_order g)) es) ≡ Some draft
            → ((n : Option Node) → lookup (is_at (identifier_order g)) es ≡ Some draft → edited (map edit_of es) g n ≡ node_at nodes_seen g)
            → edited (map edit_of es) g (if same_identifier e.0 g then (edit_of e).node else first) ≡ node_at nodes_seen g
        by true same f rest =
            let own : same_identifier e.0 g ≡ true = subst (λ h. same_identifier e.0 h ≡ true) (sym (same_guid g e.0 same)) (itself e.0) in
            stays_right es (λ x m. all x (inr m)) _ (ap (λ b. if b then (edit_of e).node else first) own ∙ right_at e (all e (inl refl)) own)
        by false other f rest = rest _ f

    pub edits_meet : AreRising rows → edited (map edit_of drafts.entries) g (node_at (nodes_held (updates_of rows)) g) ≡ node_at nodes_seen g
    edits_meet r = by (get identifier_order drafts g) refl (are g)
      where
        by : (o : Option (List Held)) → get identifier_order drafts g ≡ o → MatchOption o (core_of g seen ≡ core_of g rows) (λ d. d ≡ core_of g seen)
            → edited (map edit_of drafts.entries) g (node_at (nodes_held (updates_of rows)) g) ≡ node_at nodes_seen g
        by None e same = stays_right drafts.entries brings _ (sym (core_decides g rows r) ∙ ap (λ d. node_at (nodes_held (updates_of d)) g) (sym same) ∙ core_decides g seen risen)
        by (Some d) e same = gets_right drafts.entries brings _ d e

-- each edit's node is of its GUID
own_node : (g : Identifier) (nodes : List Node) (o : Option Node) → node_at nodes g ≡ o → IfSome o (λ n. n.object.guid ≡ g)
own_node g nodes None e = tt
own_node g nodes (Some n) e = same_guid n.object.guid g (found_member (λ m. same_identifier m.object.guid g) nodes n e).1

pub edits_own : (es : List (Identifier × List Held)) → AreOwn (map edit_of es)
edits_own es edit m =
    let t = mapped_member edit_of es edit m in
    subst (λ (x : Edit). IfSome x.node (λ n. n.object.guid ≡ x.guid)) (sym t.2) (own_node t.0.0 (nodes_held (updates_of t.0.1)) (edit_of t.0).node refl)
