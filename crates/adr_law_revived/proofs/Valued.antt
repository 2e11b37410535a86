-- Behind a revival each other object shows the values that it showed, and the new one those of the image.
use Rattle.std.proofs.Common.{◌≡◌, inl, inr, ⊎_elim, ℕ, List, [], ◌∷◌, refl, sym, ap, ◌∙◌, subst, None, true, false, Bool, Some}
use Rattle.std.specs.List.{AllByRecursion}
use Rattle.std.specs.List.Sorted.{IsStrictlySortedBy}
use Rattle.std.specs.Ordering.{nat_cmp}
use Rattle.std.specs.declared.cmp.Ordering.{Ordering}
use Rattle.std.specs.declared.cmp.Ordering.TheVariants.{Less, Equal}
use Rattle.std.proofs.lemmas.Cmp.{nat_cmp_total, tied_itself}
use Rattle.adr_values.specs.declared.stamp.Oid.{Oid}
use Rattle.adr_values.specs.Assignments.{Given, attributes}
use Rattle.adr_values.specs.Table.{Table}
use Rattle.adr_model.specs.Member.{Member, Each}
use Rattle.adr_model.specs.Update.{Update, RowOf, Identifier, same_identifier, Holds}
use Rattle.adr_model.specs.Live.{live_rows}
use Rattle.adr_model.specs.Place.{Node, node_at}
use Rattle.adr_model.specs.Directory.{values_at}
use Rattle.adr_model.specs.Store.{State, updates_of, Store}
use Rattle.adr_model.specs.Change.{Change, after}
use Rattle.adr_model.specs.Formed.{AreFormedRows, IsFormedStore, IsFormed}
use Rattle.adr_model.specs.Given.{AreInOrder}
use Rattle.adr_model.specs.Write.{nodes_held, Revive, new_object, first_stamp, row, entry_in, items_written, own_change, write_refusal, revive_refusal}
use Rattle.adr_law_knowledge.specs.Rises.{Rises}
use Rattle.adr_law_knowledge.proofs.Lists.{same_members_one_list}
use Rattle.adr_law_calls.proofs.Shown.{IsShown, shown, row_is_shown}
use Rattle.adr_law_calls.proofs.Reviving.{absent, of_new}
use Rattle.adr_values.specs.declared.content.Content.TheVariants.{Class, Name, Values}
use Rattle.adr_values.specs.Numbered.{numbered}
use Rattle.adr_call.specs.declared.directory.Entry.{Entry}
use Rattle.adr_model.proofs.Members.{mapped_member, member_mapped}
use Rattle.adr_law_knowledge.proofs.Refusing.{answered}
use Rattle.adr_law_calls.proofs.Rising.{one_update}
use Rattle.adr_law_tree.specs.Breaker.{AreMore}
use Rattle.adr_law_tree.specs.InOrder.{AreInOrder as AreNodesInOrder}
use Rattle.adr_law_tree.proofs.Fuel.{same_guid, itself}
use Rattle.adr_law_tree.proofs.InOrder.{order_law}
use Rattle.adr_law_tree.proofs.RisingRows.{rising_updates}
use Rattle.adr_law_tree.proofs.Names.{at_member, member_at}
use Rattle.adr_law_calls.proofs.Relinked.{live_values_rise, shown_in_order, some_values_shown}
use Rattle.adr_law_revived.specs.Revived.{nodes_in, revived_node, values_shown, ValuesAreThose}
use Rattle.adr_law_revived.proofs.Revival.{revival}
use Rattle.adr_law_revived.proofs.Behind.{object_row, held_stays, new_stays}
use Rattle.adr_law_revived.proofs.Newly.{one_more}
use Rattle.adr_law_revived.proofs.Placed.{formed_behind}

-- ---- lists of values in order

abbrev by_attr : Given → Given → Ordering
by_attr g h = nat_cmp g.0 h.0

rise_so : (gs : List Given) → AreInOrder gs → Rises by_attr gs
unfolding IsStrictlySortedBy
rise_so [] s = tt
rise_so (g ∷ gs) s = (each gs s.0, rise_so gs s.1)
  where
    each : (hs : List Given) → AllByRecursion (λ b. nat_cmp g.0 b ≡ Less) (attributes hs) → Each (λ h. by_attr g h ≡ Less) hs
    each [] all h m = absurd m
    each (k ∷ hs) all h (inl e) = ap (λ (x : Given). nat_cmp g.0 x.0) e ∙ all.0
    each (k ∷ hs) all h (inr m) = each hs all.1 h m

pub same_values : (gs hs : List Given) → AreInOrder gs → AreInOrder hs → Each (λ g. Member g hs) gs → Each (λ g. Member g gs) hs → gs ≡ hs
same_values gs hs r s to back = same_members_one_list by_attr one_way gs hs (rise_so gs r) (rise_so hs s) to back
  where
    one_way : (x y : Given) → by_attr x y ≡ Less → by_attr y x ≡ Less → ⊥
    one_way x y p q = let twice : nat_cmp x.0 x.0 ≡ Less = nat_cmp_total.trans x.0 y.0 x.0 p q in let tie : nat_cmp x.0 x.0 ≡ Equal = tied_itself nat_cmp_total x.0 in cc

-- ---- what an object shows by the same rows

module _ (table other : Table) (rows others : List Update) (formed : AreFormedRows table rows) (also : AreFormedRows other others)
    (one : Each (λ u. Each (λ v. u.key ≡ v.key → u ≡ v) rows) rows) (too : Each (λ u. Each (λ v. u.key ≡ v.key → u ≡ v) others) others)
    (n m : Node) (here : Member n (nodes_held rows)) (there : Member m (nodes_held others)) (same : n.object ≡ m.object)
    (to : (u : Update) → Member u rows → (attr : ℕ) → u.key ≡ RowOf n.object attr → Member u others) where
  pub shows_too : Each (λ g. Member g (values_at (live_rows others) m.object)) (values_at (live_rows rows) n.object)
  shows_too g k = by g (shown table rows formed one n here g k) refl
    where
      by : (h : Given) → IsShown table rows formed one n here h → h ≡ g → Member g (values_at (live_rows others) m.object)
      by (attr, []) is e = absurd (is.some refl)
      by (attr, v ∷ vs) is e = subst (λ x. Member x (values_at (live_rows others) m.object)) e
          (row_is_shown other others also too m there is.row (to is.row is.there attr is.key) attr (is.key ∙ ap (λ o. RowOf o attr) same) v vs is.said)

-- ---- a revival

not_none : (n : Node) → Some n ≡ None → ⊥
not_none n e = absurd (cc)

pub not_either : (b : Bool) → b ≡ true → b ≡ false → ⊥
not_either b e f = absurd (cc)

module _ (s : State) (formed : IsFormed s) (image : Store) (guid parent : Identifier) (text : List ℕ) (given : IsFormedStore image) (none : revive_refusal s image guid parent text ≡ None) (now : ℕ) where
  open (revival s formed image guid parent text given none now) use {held, o, new_rows, behind}

  abbrev rows : List Update
  rows = updates_of behind.store.rows

  module _ (p : Oid) where
    of_held : (p ≡ o → ⊥) → (u : Update) → Member u rows → (attr : ℕ) → u.key ≡ RowOf p attr → Member u held
    of_held other u m attr key = ⊎_elim
        (λ new. let k = of_new s formed image guid parent text given none now u new in let same : RowOf p attr ≡ RowOf o k.0 = sym key ∙ k.1 in let is : p ≡ o = cc in absurd (other is))
        (λ old. old)
        (object_row s formed image guid parent text given none now u m p attr key)

    stays_held : (u : Update) → Member u held → (attr : ℕ) → u.key ≡ RowOf p attr → Member u rows
    stays_held u m attr key = held_stays s formed image guid parent text given none now u m

  module _ (then : IsFormed behind) (are : AreMore (nodes_in s) (revived_node s image guid parent text now) (nodes_in behind)) where
    abbrev table : Table
    table = numbered s.store.schema

    before_order : AreNodesInOrder (nodes_in s)
    before_order = order_law held (rising_updates s.store.rows formed.store.rising)

    behind_order : AreNodesInOrder (nodes_in behind)
    behind_order = order_law rows (rising_updates behind.store.rows then.store.rising)

    node_before : (n : Node) → Member n (nodes_in s) → node_at (nodes_in s) n.object.guid ≡ Some n
    node_before = at_member (nodes_in s) before_order

    -- a live object from before is of another GUID, and lives on
    pub other_guid : Each (λ n. same_identifier n.object.guid guid ≡ false) (nodes_in s)
    other_guid n m = by (same_identifier n.object.guid guid) refl
      where
        by : (b : Bool) → same_identifier n.object.guid guid ≡ b → b ≡ false
        by false e = refl
        by true e = let same : Some n ≡ None = sym (node_before n m) ∙ (ap (node_at (nodes_in s)) (same_guid n.object.guid guid e) ∙ are.new) in absurd (not_none n same)

    pub other_object : Each (λ n. n.object ≡ o → ⊥) (nodes_in s)
    other_object n m e = not_either (same_identifier n.object.guid guid) (ap (λ (p : Oid). same_identifier p.guid guid) e ∙ itself guid) (other_guid n m)

    pub lives_on : Each (λ n. Member n (nodes_in behind)) (nodes_in s)
    lives_on n m = member_at (nodes_in behind) n.object.guid n (are.other n.object.guid (other_guid n m) ∙ node_before n m)

    pub others_values : Each (λ n. values_shown behind n.object ≡ values_shown s n.object) (nodes_in s)
    others_values n m = same_values (values_shown behind n.object) (values_shown s n.object) (live_values_rise rows n.object) (live_values_rise held n.object)
        (shows_too table table rows held then.store.rows formed.store.rows (one_update behind.store.rows then.store.rising) (one_update s.store.rows formed.store.rising) n n (lives_on n m) m refl (of_held n.object (other_object n m)))
        (shows_too table table held rows formed.store.rows then.store.rows (one_update s.store.rows formed.store.rising) (one_update behind.store.rows then.store.rising) n n m (lives_on n m) refl (stays_held n.object))

    abbrev node : Node
    node = revived_node s image guid parent text now

    abbrev entry : Entry
    entry = entry_in image guid

    abbrev value_row : Given → Update
    value_row g = row o (first_stamp s now) g.0 (Values g.1)

    pub node_there : Member node (nodes_in behind)
    node_there = member_at (nodes_in behind) guid node are.here

    one_behind : Each (λ u. Each (λ v. u.key ≡ v.key → u ≡ v) rows) rows
    one_behind = one_update behind.store.rows then.store.rising

    pub new_values : values_shown behind o ≡ entry.values
    new_values = same_values (values_shown behind o) entry.values (live_values_rise rows o) (shown_in_order image guid)
        (λ g m. of_row g (shown table rows then.store.rows one_behind node node_there g m)) back
      where
        is_given : (g : Given) (u : Update) → u.key ≡ RowOf o g.0 → u.said ≡ Holds (Values g.1) → Member u new_rows → Member g entry.values
        is_given g u key said (inl e) = let no : Holds (Class entry.class) ≡ Holds (Values g.1) = sym (ap (λ (v : Update). v.said) e) ∙ said in absurd (cc)
        is_given g u key said (inr (inl e)) = let no : Holds (Name text parent) ≡ Holds (Values g.1) = sym (ap (λ (v : Update). v.said) e) ∙ said in absurd (cc)
        is_given g u key said (inr (inr m)) =
            let h = mapped_member (λ (a : Given). row (new_object s guid) (first_stamp s now) a.0 (Values a.1)) entry.values u m in
            let keys : RowOf o h.0.0 ≡ RowOf o g.0 = sym (ap (λ (v : Update). v.key) h.2) ∙ key in
            let saids : Holds (Values h.0.1) ≡ Holds (Values g.1) = sym (ap (λ (v : Update). v.said) h.2) ∙ said in
            let attr : h.0.0 ≡ g.0 = cc in
            let values : h.0.1 ≡ g.1 = cc in
            subst (λ x. Member x entry.values) (λ i. (attr i, values i)) h.1

        of_row : (g : Given) → IsShown table rows then.store.rows one_behind node node_there g → Member g entry.values
        of_row g r = ⊎_elim (λ new. is_given g r.row r.key r.said new)
            (λ old. absurd (absent s formed image guid parent text given none (r.row, g.0, old, r.key)))
            (object_row s formed image guid parent text given none now r.row r.there o g.0 r.key)

        there : (g : Given) → Member g entry.values → Member (value_row g) rows
        there g m = new_stays s formed image guid parent text given none now (value_row g)
            (inr (inr (member_mapped (λ (a : Given). row (new_object s guid) (first_stamp s now) a.0 (Values a.1)) entry.values g m)))

        by : (g : Given) → Member g entry.values → (g.1 ≡ [] → ⊥) → Member g (values_shown behind o)
        by (attr, []) m some = absurd (some refl)
        by (attr, v ∷ vs) m some = row_is_shown table rows then.store.rows one_behind node node_there (value_row (attr, v ∷ vs)) (there (attr, v ∷ vs) m) attr refl v vs refl

        back : Each (λ g. Member g (values_shown behind o)) entry.values
        back g m = by g m (some_values_shown image guid g m)

pub values_are_those : ValuesAreThose
values_are_those s image guid parent text now c formed given e =
    let a = answered (write_refusal s (Revive image guid parent text)) (own_change s (items_written s (Revive image guid parent text) now)) c e in
    let are = one_more s image guid parent text now c formed given e in
    subst (λ (d : Change). AreMore (nodes_in s) (revived_node s image guid parent text now) (nodes_in (after s d))
    → (values_shown (after s d) (new_object s guid) ≡ (entry_in image guid).values) × Each (λ n. values_shown (after s d) n.object ≡ values_shown s n.object) (nodes_in s)) a.1
    (λ is. (new_values s formed image guid parent text given a.0 now (formed_behind s formed image guid parent text given a.0 now) is, others_values s formed image guid parent text given a.0 now (formed_behind s formed image guid parent text given a.0 now) is)) are
