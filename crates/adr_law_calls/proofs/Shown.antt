-- What a formed store shows of an object: a class that there is, values that its class may hold, of each attribute once, and all that it
-- must have. And the same by a schema that allows no less.
use Rattle.std.proofs.Common.{◌≡◌, ◌≢◌, inl, inr, ℕ, zero, suc, ◌<◌, List, [], ◌∷◌, Bool, true, false, ◌&&◌, Option, Some, None, IsSome, is_none, unwrap_or, refl, sym, ap, ◌∙◌, subst, if◌then◌else◌, arith}
use Rattle.std.specs.List.{list_all}
use Rattle.adr_values.specs.declared.stamp.Oid.{Oid}
use Rattle.adr_values.specs.declared.content.Value.{Value as Datum}
use Rattle.adr_values.specs.declared.content.Content.TheVariants.{Class, Name, Dead, Values}
use Rattle.adr_values.specs.Table.{Table, class_at, must_of, has}
use Rattle.adr_values.specs.Allowed.{IsAllowed, MayBeHeld}
use Rattle.adr_values.specs.Assignments.{Given}
use Rattle.adr_values.specs.Extends.{Extends}
use Rattle.adr_call.specs.declared.directory.Entry.{Entry}
use Rattle.adr_model.specs.Member.{Member, Each}
use Rattle.adr_model.specs.Update.{Identifier, Key, RowOf, LinkOf, Said, Holds, IsPresent, Update, ends, same_identifier, same_object, class_attr, deleted_attr}
use Rattle.adr_model.specs.Winner.{winners}
use Rattle.adr_model.specs.Live.{live, is_among, live_rows}
use Rattle.adr_model.specs.Place.{Node, node_of}
use Rattle.adr_model.specs.Directory.{with_values, values_in, values_at, entry_of, directory}
use Rattle.adr_model.specs.Reflects.{HoldsObject}
use Rattle.adr_model.specs.Store.{Store, updates_of}
use Rattle.adr_model.specs.Write.{nodes_held, no_entry, shown_in, entry_in}
use Rattle.adr_model.specs.Formed.{KeepsSchema, IsObjectFormed, AreFormedRows}
use Rattle.adr_model.proofs.Members.{in_filter, of_filter, found_member, mapped_member, of_filter_map, in_filter_map}
use Rattle.adr_model.proofs.Keys.{winner_found, objects_tell}
use Rattle.adr_model.proofs.Nodes.{IsNodeOf, is_node_of}
use Rattle.adr_law_knowledge.proofs.Comparing.{keys_tell, same_as_itself, objects_same}
use Rattle.adr_law_knowledge.proofs.Winners.{in_winners}
use Rattle.adr_law_calls.proofs.More.{allowed_more}
use Rattle.adr_law_calls.specs.MayWrites.{IsLive}
use Rattle.adr_law_calls.proofs.Nodes.{of_live_rows, node_is_live}

-- values that an object of a class comes with
pub record MayComeWith (table : Table) (class : ℕ) (values : List Given) : Type 0 where
  pub known : IsSome (class_at table class)
  pub held : Each (λ (g : Given). MayBeHeld table class g.0 g.1) values
  pub one : Each (λ (g : Given). Each (λ (h : Given). g.0 ≡ h.0 → g ≡ h) values) values
  pub whole : (attr : ℕ) → has (must_of table class) attr ≡ true → (g : Given) × Member g values × (g.0 ≡ attr)

-- ---- by a schema that allows no less

module _ (t u : Table) (more : Extends t u) where
  pub comes_with_more : (class : ℕ) (values : List Given) → MayComeWith t class values → MayComeWith u class values
  comes_with_more class values may = record {
    known = more.known class may.known;
    held = λ g m. record { allowed = allowed_more t u more class g.0 g.1 (may.held g m).allowed; filled = λ must. (may.held g m).filled (ap (λ ns. has ns g.0) (sym (more.must class may.known)) ∙ must) };
    one = may.one;
    whole = λ attr must. may.whole attr (ap (λ ns. has ns attr) (sym (more.must class may.known)) ∙ must);
  }

-- ---- what is shown

module _ (table : Table) (rows : List Update) (formed : AreFormedRows table rows) (one : Each (λ u. Each (λ v. u.key ≡ v.key → u ≡ v) rows) rows) (n : Node) (is : Member n (nodes_held rows)) where
  abbrev o : Oid
  o = n.object

  alive : IsLive rows o n.class
  alive = node_is_live table rows formed one n is

  held : HoldsObject rows o
  held = (alive.of_class.0, class_attr, alive.of_class.1, alive.of_class.2)

  keeps : KeepsSchema table rows o n.class
  keeps = by (formed.objects o held)
    where
      by : IsObjectFormed table rows o → KeepsSchema table rows o n.class
      by (inl dead) = absurd (alive.alive (dead.dead.0, dead.dead.1, dead.dead.2))
      by (inr living) = living.1 n.class alive.of_class

  -- a row with values is no reserved one
  says_values : (u : Update) → Member u rows → (attr : ℕ) → u.key ≡ RowOf o attr → (vs : List Datum) → u.said ≡ Holds (Values vs) → deleted_attr < attr
  says_values u m zero e vs said = absurd (formed.none o u m e)
  says_values u m (suc zero) e vs said =
      let same : u ≡ alive.of_class.0 = one u m alive.of_class.0 alive.of_class.1 (e ∙ sym alive.of_class.2) in
      let says : Holds (Values vs) ≡ Holds (Class n.class) = sym said ∙ ap (λ (v : Update). v.said) same ∙ alive.of_class.3 in
      absurd (cc)
  says_values u m (suc (suc zero)) e vs said =
      let name = (formed.named o held).of_name in
      let same : u ≡ name.0 = one u m name.0 name.1 (e ∙ sym name.2) in
      let says : Holds (Values vs) ≡ Holds (Name (formed.named o held).text (formed.named o held).parent) = sym said ∙ ap (λ (v : Update). v.said) same ∙ name.3 in
      absurd (cc)
  says_values u m (suc (suc (suc zero))) e vs said = absurd (alive.alive (u, m, e))
  says_values u m (suc (suc (suc (suc k)))) e vs said = omega arith

  -- a value that is shown is that of a row, and is there
  pub record IsShown (g : Given) : Type 0 where
    pub row : Update
    pub there : Member row rows
    pub key : row.key ≡ RowOf o g.0
    pub said : row.said ≡ Holds (Values g.1)
    pub some : g.1 ≢ []

  given_of : (u : Update) → Member u rows → (attr : ℕ) (vs : List Datum) (g : Given) → u.key ≡ RowOf o attr → u.said ≡ Holds (Values vs) → with_values attr vs ≡ Some g → IsShown g
  given_of u m attr [] g key said e = absurd (cc)
  given_of u m attr (v ∷ vs) g key said e =
      let same : (attr, v ∷ vs) ≡ g = cc in
      record { row = u; there = m; key = key ∙ ap (λ (h : Given). RowOf o h.0) same; said = said ∙ ap (λ (h : Given). Holds (Values h.1)) same; some = λ none. let f : v ∷ vs ≡ [] = ap (λ (h : Given). h.1) same ∙ none in cc }

  shown_by : (u : Update) → Member u rows → (g : Given) → (k : Key) → u.key ≡ k → (s : Said) → u.said ≡ s → values_in o k s ≡ Some g → IsShown g
  shown_by u m g (RowOf p attr) key (Holds (Values vs)) said e = by (same_object p o) refl e
    where
      by : (b : Bool) → same_object p o ≡ b → (if b then with_values attr vs else None) ≡ Some g → IsShown g
      by true same h = given_of u m attr vs g (key ∙ ap (λ q. RowOf q attr) (objects_tell p o same)) said h
      by false same h = absurd (cc)
  shown_by u m g (RowOf p attr) key (Holds (Class class)) said e = absurd (cc)
  shown_by u m g (RowOf p attr) key (Holds (Name text parent)) said e = absurd (cc)
  shown_by u m g (RowOf p attr) key (Holds Dead) said e = absurd (cc)
  shown_by u m g (RowOf p attr) key (IsPresent b) said e = absurd (cc)
  shown_by u m g (LinkOf l) key said same e = absurd (cc)

  abbrev values : List Given
  values = values_at (live_rows rows) o

  pub shown : (g : Given) → Member g values → IsShown g
  shown g m = let u = of_filter_map (λ (v : Update). values_in o v.key v.said) (live_rows rows) g m in
      shown_by u.0 (of_live_rows rows u.0 u.1).0 g u.0.key refl u.0.said refl u.2

  -- each row of the object is among the live ones
  among : is_among (live rows) o ≡ true
  among = by u.0 u.1 (is_node_of (live_rows rows) u.0.key u.0.said n u.2)
    where
      u : (u : Update) × Member u (live_rows rows) × (node_of (live_rows rows) u.key u.said ≡ Some n)
      u = of_filter_map (λ (v : Update). node_of (live_rows rows) v.key v.said) (live_rows rows) n is

      first : (b : Bool) → (b && true) ≡ true → b ≡ true
      first true e = refl
      first false e = e

      by : (v : Update) → Member v (live_rows rows) → IsNodeOf v.key v.said n → is_among (live rows) o ≡ true
      by v m (attr, key, said) =
          let t : list_all (is_among (live rows)) (ends v.key) ≡ true = (of_filter (λ (x : Update). list_all (is_among (live rows)) (ends x.key)) (winners rows) v m).1 in
          first (is_among (live rows) o) (subst (λ k. list_all (is_among (live rows)) (ends k) ≡ true) key t)

  row_lives : (u : Update) → Member u rows → (attr : ℕ) → u.key ≡ RowOf o attr → Member u (live_rows rows)
  row_lives u m attr key = in_filter (λ (x : Update). list_all (is_among (live rows)) (ends x.key)) (winners rows) u
      (in_winners rows u (winner_found rows u m (same_as_itself u.key) (λ v k same. one v k u m (keys_tell v.key u.key same))))
      (subst (λ k. list_all (is_among (live rows)) (ends k) ≡ true) (sym key) (ap (λ b. b && true) among))

  pub row_is_shown : (u : Update) → Member u rows → (attr : ℕ) → u.key ≡ RowOf o attr → (v : Datum) (vs : List Datum) → u.said ≡ Holds (Values (v ∷ vs)) → Member (attr, v ∷ vs) values
  row_is_shown u m attr key v vs said = in_filter_map (λ (x : Update). values_in o x.key x.said) (live_rows rows) u (attr, v ∷ vs) (row_lives u m attr key)
      (ap (λ k. values_in o k u.said) key ∙ (ap (λ s. values_in o (RowOf o attr) s) said ∙ ap (λ b. if b then Some (attr, v ∷ vs) else None) (objects_same o o refl)))

  pub shown_comes : MayComeWith table n.class values
  shown_comes = record {
    known = keeps.known;
    held = λ g m. held_so g (shown g m);
    one = λ g m h k e. one_so g h (shown g m) (shown h k) e;
    whole = λ attr must. let r = keeps.whole attr must in ((attr, r.3.0 ∷ r.3.1), row_is_shown r.0 r.1 attr r.2 r.3.0 r.3.1 r.3.2, refl);
  }
    where
      held_so : (g : Given) → IsShown g → MayBeHeld table n.class g.0 g.1
      held_so g s =
          let a = keeps.allowed g.0 (says_values s.row s.there g.0 s.key g.1 s.said) s.row s.there s.key in
          let same : Holds (Values a.0) ≡ Holds (Values g.1) = sym a.1 ∙ s.said in
          let values : a.0 ≡ g.1 = cc in
          record { allowed = subst (λ (vs : List Datum). IsAllowed table n.class g.0 vs) values a.2; filled = λ must. s.some }

      one_so : (g h : Given) → IsShown g → IsShown h → g.0 ≡ h.0 → g ≡ h
      one_so g h s t e =
          let row : s.row ≡ t.row = one s.row s.there t.row t.there (s.key ∙ (ap (λ attr. RowOf o attr) e ∙ sym t.key)) in
          let said : Holds (Values g.1) ≡ Holds (Values h.1) = sym s.said ∙ (ap (λ (u : Update). u.said) row ∙ t.said) in
          let values : g.1 ≡ h.1 = cc in
          λ i. (e i, values i)

-- the entry that an image shows of a GUID comes with what its class wants
pub entry_comes : (table : Table) (image : Store) (guid : Identifier) → AreFormedRows table (updates_of image.rows) → Each (λ u. Each (λ v. u.key ≡ v.key → u ≡ v) (updates_of image.rows)) (updates_of image.rows)
    → is_none (shown_in image guid) ≡ false → MayComeWith table (entry_in image guid).class (entry_in image guid).values
entry_comes table image guid formed one there = by (shown_in image guid) refl there
  where
    all : List Node
    all = nodes_held (updates_of image.rows)

    of_entry : (e : Entry) → Member e (directory (updates_of image.rows)) → MayComeWith table e.class e.values
    of_entry e m =
        let n = mapped_member (entry_of (live_rows (updates_of image.rows)) all) all e m in
        subst (λ (x : Entry). MayComeWith table x.class x.values) (sym n.2) (shown_comes table (updates_of image.rows) formed one n.0 n.1)

    by : (f : Option Entry) → shown_in image guid ≡ f → is_none f ≡ false → MayComeWith table (entry_in image guid).class (entry_in image guid).values
    by None is none = absurd (cc)
    by (Some e) is some =
        let m = (found_member (λ (x : Entry). same_identifier x.guid guid) (directory (updates_of image.rows)) e is).0 in
        subst (λ (x : Entry). MayComeWith table x.class x.values) (sym (found e is)) (of_entry e m)
      where
        found : (e : Entry) → shown_in image guid ≡ Some e → entry_in image guid ≡ e
        found e is = ap (λ (f : Option Entry). unwrap_or f (no_entry guid)) is
