-- The rows of a live object, and the links at it, give what it shows among all live rows.
use Rattle.std.proofs.Common.{◌≡◌, ℕ, List, [], ◌∷◌, ◌++◌, Bool, true, false, cond, ◌&&◌, Option, None, refl, sym, ap, ap₂, ◌∙◌, subst, map, filter, filter_map}
use Rattle.std.specs.Prelude.{if◌then◌else◌}
use Rattle.std.specs.List.{list_all, flat_map, cons_option}
use Rattle.std.specs.List.Sorted.{IsStrictlySortedBy}
use Rattle.adr_values.specs.declared.stamp.Oid.{Oid}
use Rattle.adr_values.specs.declared.content.Value.{Value as Item}
use Rattle.adr_values.specs.declared.content.Content.TheVariants.{Class, Name, Dead, Values}
use Rattle.adr_model.specs.Update.{Identifier, Key, RowOf, LinkOf, Said, Holds, IsPresent, Update, ends, key_order, same_object}
use Rattle.adr_model.specs.Live.{live, is_among, live_rows}
use Rattle.adr_model.specs.Place.{Node}
use Rattle.adr_model.specs.Directory.{back_link, gathered, link_ends, links_at, one_where, values_at, values_in, with_values}
use Rattle.adr_model.specs.Formed.{AreRising}
use Rattle.adr_model.specs.Store.{Held, is_row_of, updates_of}
use Rattle.adr_model.specs.Write.{nodes_held}
use Rattle.adr_model.proofs.Keys.{objects_tell}
use Rattle.adr_update.specs.Sought.{is_link_from, is_link_to}
use Rattle.adr_law_tree.proofs.RisingRows.{rising_updates, rising_win}
use Rattle.adr_view.specs.BackLinks.{has_back_link, have_back_links}
use Rattle.adr_view.specs.Ends.{back_end, forward_end, is_live}
use Rattle.adr_view.specs.Named.{AreNamed}
use Rattle.adr_view.proofs.Gathered.{gathered_alike}
use Rattle.adr_view.proofs.LiveObjects.{lives, same_live}

-- ---- lists that are filtered first

module _ {A B : Type 0} (f : A → Option B) where
  tested : (p : A → Bool) (xs : List A) → filter_map f (filter p xs) ≡ filter_map (λ x. cond (p x) (f x) None) xs
  tested p [] = refl
  tested p (x ∷ xs) = by (p x) (tested p xs)
    where
      by : (b : Bool) → filter_map f (filter p xs) ≡ filter_map (λ x. cond (p x) (f x) None) xs → filter_map f (cond b (x ∷ filter p xs) (filter p xs)) ≡ cons_option (cond b (f x) None) (filter_map (λ x. cond (p x) (f x) None) xs)
      by true rest = ap (cons_option (f x)) rest
      by false rest = rest

filter_maps_alike : {A B : Type 0} (f g : A → Option B) → ((x : A) → f x ≡ g x) → (xs : List A) → filter_map f xs ≡ filter_map g xs
filter_maps_alike f g same [] = refl
filter_maps_alike f g same (x ∷ xs) = ap₂ cons_option (same x) (filter_maps_alike f g same xs)

module _ {A B : Type 0} (f : A → List B) where
  flat_tested : (p : A → Bool) (xs : List A) → flat_map f (filter p xs) ≡ flat_map (λ x. cond (p x) (f x) []) xs
  flat_tested p [] = refl
  flat_tested p (x ∷ xs) = by (p x) (flat_tested p xs)
    where
      by : (b : Bool) → flat_map f (filter p xs) ≡ flat_map (λ x. cond (p x) (f x) []) xs → flat_map f (cond b (x ∷ filter p xs) (filter p xs)) ≡ cond b (f x) [] ++ flat_map (λ x. cond (p x) (f x) []) xs
      by true rest = ap (λ ys. f x ++ ys) rest
      by false rest = rest

flat_maps_alike : {A B : Type 0} (f g : A → List B) → ((x : A) → f x ≡ g x) → (xs : List A) → flat_map f xs ≡ flat_map g xs
flat_maps_alike f g same [] = refl
flat_maps_alike f g same (x ∷ xs) = ap₂ (λ ys zs. ys ++ zs) (same x) (flat_maps_alike f g same xs)

-- ---- held rows by their updates

updates_kept : (p : Key → Bool) (hs : List Held) → updates_of (filter (λ (h : Held). p h.update.key) hs) ≡ filter (λ (u : Update). p u.key) (updates_of hs)
updates_kept p [] = refl
updates_kept p (h ∷ hs) = by (p h.update.key) (updates_kept p hs)
  where
    by : (b : Bool) → updates_of (filter (λ (h : Held). p h.update.key) hs) ≡ filter (λ (u : Update). p u.key) (updates_of hs)
        → updates_of (cond b (h ∷ filter (λ (h : Held). p h.update.key) hs) (filter (λ (h : Held). p h.update.key) hs)) ≡ cond b (h.update ∷ filter (λ (u : Update). p u.key) (updates_of hs)) (filter (λ (u : Update). p u.key) (updates_of hs))
    by true rest = ap (λ us. h.update ∷ us) rest
    by false rest = rest

flat_updates : (f : Key → Said → List (ℕ × Identifier)) (hs : List Held) → flat_map (λ (h : Held). f h.update.key h.update.said) hs ≡ flat_map (λ (u : Update). f u.key u.said) (updates_of hs)
flat_updates f [] = refl
flat_updates f (h ∷ hs) = ap (λ es. f h.update.key h.update.said ++ es) (flat_updates f hs)

flat_kept : (f : Key → Said → List (ℕ × Identifier)) (p : Key → Bool) (hs : List Held)
    → flat_map (λ (h : Held). f h.update.key h.update.said) (filter (λ (h : Held). p h.update.key) hs) ≡ flat_map (λ (u : Update). cond (p u.key) (f u.key u.said) []) (updates_of hs)
flat_kept f p hs =
    flat_updates f (filter (λ (h : Held). p h.update.key) hs)
    ∙ (ap (flat_map (λ (u : Update). f u.key u.said)) (updates_kept p hs) ∙ flat_tested (λ (u : Update). f u.key u.said) (λ (u : Update). p u.key) (updates_of hs))

-- links have numbers for their back links among fewer rows, too
pub fewer_linked : (p : Key → Bool) (hs : List Held) → have_back_links (updates_of hs) ≡ true → have_back_links (updates_of (filter (λ (h : Held). p h.update.key) hs)) ≡ true
fewer_linked p [] all = refl
fewer_linked p (h ∷ hs) all = by (p h.update.key) (has_back_link h.update.key) refl all (fewer_linked p hs)
  where
    by : (b c : Bool) → has_back_link h.update.key ≡ c → (c && have_back_links (updates_of hs)) ≡ true
        → (have_back_links (updates_of hs) ≡ true → have_back_links (updates_of (filter (λ (h : Held). p h.update.key) hs)) ≡ true)
        → have_back_links (updates_of (cond b (h ∷ filter (λ (h : Held). p h.update.key) hs) (filter (λ (h : Held). p h.update.key) hs))) ≡ true
    by b false is h' rest = cc
    by true true is h' rest = ap (λ c. c && have_back_links (updates_of (filter (λ (h : Held). p h.update.key) hs))) is ∙ rest h'
    by false true is h' rest = rest h'

-- ---- values

none_either : {A : Type 0} (b : Bool) → cond {A = Option A} b None None ≡ None
none_either true = refl
none_either false = refl

module _ (us : List Update) (rising : IsStrictlySortedBy key_order (map (λ (u : Update). u.key) us)) (o : Oid) (alive : is_among (live us) o ≡ true) where
  abbrev is_kept : Update → Bool
  is_kept u = list_all (is_among (live us)) (ends u.key)

  live_are : live_rows us ≡ filter is_kept us
  live_are = ap (filter is_kept) (rising_win us rising)

  alive_too : (p : Oid) → same_object p o ≡ true → is_among (live us) p ≡ true
  alive_too p same = subst (λ q. is_among (live us) q ≡ true) (sym (objects_tell p o same)) alive

  own_row : (p : Oid) (attr : ℕ) (said : Said) → cond (same_object p o) (values_in o (RowOf p attr) said) None ≡ cond (is_among (live us) p && true) (values_in o (RowOf p attr) said) None
  own_row p attr said = by (same_object p o) refl
    where
      of_other : (said : Said) → same_object p o ≡ false → values_in o (RowOf p attr) said ≡ None
      of_other (Holds (Values vs)) is = ap (λ b. if b then with_values attr vs else None) is
      of_other (Holds (Class class)) is = refl
      of_other (Holds (Name text parent)) is = refl
      of_other (Holds Dead) is = refl
      of_other (IsPresent b) is = refl

      by : (b : Bool) → same_object p o ≡ b → cond b (values_in o (RowOf p attr) said) None ≡ cond (is_among (live us) p && true) (values_in o (RowOf p attr) said) None
      by true is = sym (ap (λ b. cond (b && true) (values_in o (RowOf p attr) said) None) (alive_too p is))
      by false is = sym (ap (cond (is_among (live us) p && true) (values_in o (RowOf p attr) said)) refl ∙ (ap (λ (v : Option (ℕ × List Item)). cond (is_among (live us) p && true) v None) (of_other said is) ∙ none_either (is_among (live us) p && true)))

  each_value : (k : Key) (said : Said) → cond (is_row_of o k) (values_in o k said) None ≡ cond (list_all (is_among (live us)) (ends k)) (values_in o k said) None
  each_value (LinkOf l) said = sym (none_either (list_all (is_among (live us)) (ends (LinkOf l))))
  each_value (RowOf p attr) said = own_row p attr said

  values_alike : values_at (filter (λ (u : Update). is_row_of o u.key) us) o ≡ values_at (live_rows us) o
  values_alike =
      tested (λ (u : Update). values_in o u.key u.said) (λ (u : Update). is_row_of o u.key) us
      ∙ (filter_maps_alike _ _ (λ (u : Update). each_value u.key u.said) us
      ∙ (sym (tested (λ (u : Update). values_in o u.key u.said) is_kept us) ∙ ap (λ (vs : List Update). values_at vs o) (sym live_are)))

  -- ---- links

  module _ (named : AreNamed us) where
    abbrev all : List Node
    all = nodes_held us

    abbrev forward : Key → Said → List (ℕ × Identifier)
    forward k said = cond (is_link_from o k) (forward_end all k said) []

    abbrev back : Key → Said → List (ℕ × Identifier)
    back k said = cond (is_link_to o k) (back_end all k said) []

    nil_either : (b : Bool) → cond {A = List (ℕ × Identifier)} b [] [] ≡ []
    nil_either true = refl
    nil_either false = refl

    nothing : (b c d : Bool) → cond {A = List (ℕ × Identifier)} b [] [] ≡ cond c [] [] ++ cond d [] []
    nothing b true true = nil_either b
    nothing b true false = nil_either b
    nothing b false true = nil_either b
    nothing b false false = nil_either b

    both_ends : (f t a b : Bool) (x y : ℕ × Identifier) → (f ≡ true → a ≡ true) → (t ≡ true → b ≡ true)
        → cond (a && (b && true)) (one_where f x (one_where t y [])) [] ≡ cond f (one_where b x []) [] ++ cond t (one_where a y []) []
    both_ends true true true true x y l m = refl
    both_ends true true true false x y l m = let e : false ≡ true = m refl in cc
    both_ends true true false b x y l m = let e : false ≡ true = l refl in cc
    both_ends true false true true x y l m = refl
    both_ends true false true false x y l m = refl
    both_ends true false false b x y l m = let e : false ≡ true = l refl in cc
    both_ends false true true true x y l m = refl
    both_ends false true false true x y l m = refl
    both_ends false true true false x y l m = let e : false ≡ true = m refl in cc
    both_ends false true false false x y l m = let e : false ≡ true = m refl in cc
    both_ends false false true true x y l m = refl
    both_ends false false true false x y l m = refl
    both_ends false false false b x y l m = refl

    each_link : (k : Key) (said : Said) → cond (list_all (is_among (live us)) (ends k)) (link_ends o k said) [] ≡ forward k said ++ back k said
    each_link (RowOf p attr) said = nil_either (list_all (is_among (live us)) (ends (RowOf p attr)))
    each_link (LinkOf l) (Holds content) = nothing (list_all (is_among (live us)) (ends (LinkOf l))) (same_object l.from o) (same_object l.to o)
    each_link (LinkOf l) (IsPresent false) = nothing (list_all (is_among (live us)) (ends (LinkOf l))) (same_object l.from o) (same_object l.to o)
    each_link (LinkOf l) (IsPresent true) =
        ap₂ (λ a b. cond (a && (b && true)) (link_ends o (LinkOf l) (IsPresent true)) []) (same_live us rising named l.from) (same_live us rising named l.to)
        ∙ both_ends (same_object l.from o) (same_object l.to o) (is_live all l.from) (is_live all l.to) (l.attr, l.to.guid) (back_link l.attr, l.from.guid)
        (λ e. sym (same_live us rising named l.from) ∙ alive_too l.from e) (λ e. sym (same_live us rising named l.to) ∙ alive_too l.to e)

    links_alike : gathered (flat_map (λ (u : Update). forward u.key u.said) us ++ flat_map (λ (u : Update). back u.key u.said) us) ≡ links_at (live_rows us) o
    links_alike =
        sym (gathered_alike (λ (u : Update). forward u.key u.said) (λ (u : Update). back u.key u.said) us)
        ∙ ap gathered
        (sym (flat_maps_alike _ _ (λ (u : Update). each_link u.key u.said) us)
        ∙ (sym (flat_tested (λ (u : Update). link_ends o u.key u.said) is_kept us) ∙ ap (flat_map (λ (u : Update). link_ends o u.key u.said)) (sym live_are)))

module _ (rows : List Held) (rising : AreRising rows) (o : Oid) (alive : is_live (nodes_held (updates_of rows)) o ≡ true) where
  pub own_values : (own : List Held) → own ≡ filter (λ (h : Held). is_row_of o h.update.key) rows → values_at (updates_of own) o ≡ values_at (live_rows (updates_of rows)) o
  own_values own is =
      ap (λ (hs : List Held). values_at (updates_of hs) o) is
      ∙ (ap (λ (us : List Update). values_at us o) (updates_kept (is_row_of o) rows) ∙ values_alike (updates_of rows) (rising_updates rows rising) o (lives (updates_of rows) o alive))

  pub own_links : AreNamed (updates_of rows) → (from to : List Held) → from ≡ filter (λ (h : Held). is_link_from o h.update.key) rows → to ≡ filter (λ (h : Held). is_link_to o h.update.key) rows
      → gathered (flat_map (λ (h : Held). forward_end (nodes_held (updates_of rows)) h.update.key h.update.said) from ++ flat_map (λ (h : Held). back_end (nodes_held (updates_of rows)) h.update.key h.update.said) to) ≡ links_at (live_rows (updates_of rows)) o
  own_links named from to is_from is_to =
      let all = nodes_held (updates_of rows) in
      ap₂ (λ (fs ts : List Held). gathered (flat_map (λ (h : Held). forward_end all h.update.key h.update.said) fs ++ flat_map (λ (h : Held). back_end all h.update.key h.update.said) ts)) is_from is_to
      ∙ (ap₂ (λ es fs. gathered (es ++ fs)) (flat_kept (forward_end all) (is_link_from o) rows) (flat_kept (back_end all) (is_link_to o) rows)
      ∙ links_alike (updates_of rows) (rising_updates rows rising) o (lives (updates_of rows) o alive) named)
