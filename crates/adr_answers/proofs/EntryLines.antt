-- An entry's line tells the entry, whatever follows it.
use Rattle.std.proofs.Common.{◌≡◌, ℕ, ◌<◌, ◌^◌, true, false, List, [], ◌∷◌, ◌++◌, flat_map, refl, sym, ap, subst, ◌∙◌, arith, append_assoc}
use Rattle.std.specs.Prelude.{codes, All}
use Rattle.std.proofs.lemmas.Bool.{both_ways}
use Rattle.std.proofs.lemmas.List.{append_cancel_left}
use Rattle.std.proofs.lemmas.List.Elements.{All-head}
use Rattle.adr_values.specs.declared.content.Value.{Value as Item}
use Rattle.adr_values.specs.Schemas.{newest}
use Rattle.adr_values.specs.Table.{is_link, kind_at}
use Rattle.adr_call.specs.declared.directory.Entry.{Entry}
use Rattle.adr_token.specs.Laws.{IsIdentifier}
use Rattle.adr_token.specs.Spelling.{identifier_token, class_token, attribute_token, set_token, text_token, values_token}
use Rattle.adr_answers.specs.Line.{listed, values_text, links_text, entry_line}
use Rattle.adr_answers.specs.Printable.{ArePrintableValues, ArePrintableLinks, IsPrintableEntry}
use Rattle.adr_answers.proofs.Prefixes.{ends, lists_divide}
use Rattle.adr_answers.proofs.Tokens.{identifiers_divide, texts_divide}
use Rattle.adr_answers.proofs.Names.{attributes_divide, classes_divide, link_small}
use Rattle.adr_answers.proofs.Values.{identifiers_listed_divide, is_seen, values_divide}

-- an attribute and what is said of it, behind a space
said : ℕ → List ℕ → List ℕ
said attr x = 32 ∷ (attribute_token attr ++ 61 ∷ x)

sets_divide : (m n : ℕ) (x y r s : List ℕ) → m < 2 ^ 64 → n < 2 ^ 64 → said m x ++ r ≡ said n y ++ s → (m ≡ n) × (x ++ r ≡ y ++ s)
unfolding said
sets_divide m n x y r s hm hn e =
    let inside : (attribute_token m ++ 61 ∷ x) ++ r ≡ (attribute_token n ++ 61 ∷ y) ++ s = cc in
    let d = attributes_divide m n (61 ∷ (x ++ r)) (61 ∷ (y ++ s)) hm hn refl refl
    (sym (append_assoc (attribute_token m) (61 ∷ x) r) ∙ inside ∙ append_assoc (attribute_token n) (61 ∷ y) s) in
    let left : 61 ∷ (x ++ r) ≡ 61 ∷ (y ++ s) = d.1 in
    let rest : x ++ r ≡ y ++ s = cc in
    (d.0, rest)

values_said : (v : ℕ × List Item) → values_text v ≡ said v.0 (values_token v.1)
unfolding values_text set_token said
values_said v = ap (λ (x : List ℕ). 32 ∷ x) (append_assoc (attribute_token v.0) (61 ∷ []) (values_token v.1))

links_said : (l : ℕ × List (List ℕ)) → links_text l ≡ said l.0 (listed l.1)
unfolding links_text said
links_said l = ap (λ (x : List ℕ). 32 ∷ x) (append_assoc (attribute_token l.0) (61 ∷ []) (listed l.1))

-- what follows an attribute
Stops : List ℕ → Type 0
Stops r = ends is_seen r ≡ true

one_values : (v w : ℕ × List Item) (r s : List ℕ) → ArePrintableValues v → ArePrintableValues w → Stops r → Stops s → values_text v ++ r ≡ values_text w ++ s → (v ≡ w) × (r ≡ s)
unfolding Stops
one_values v w r s hv hw er es e =
    let d = sets_divide v.0 w.0 (values_token v.1) (values_token w.1) r s hv.attribute hw.attribute
    (ap (λ (x : List ℕ). x ++ r) (sym (values_said v)) ∙ e ∙ ap (λ (x : List ℕ). x ++ s) (values_said w)) in
    let more = values_divide v.1 w.1 r s hv.values hw.values er es d.1 in
    (λ i. (d.0 i, more.0 i), more.1)

one_links : (k l : ℕ × List (List ℕ)) (r s : List ℕ) → ArePrintableLinks k → ArePrintableLinks l → Stops r → Stops s → links_text k ++ r ≡ links_text l ++ s → (k ≡ l) × (r ≡ s)
unfolding Stops
one_links k l r s hk hl er es e =
    let d = sets_divide k.0 l.0 (listed k.1) (listed l.1) r s (link_small k.0 hk.link) (link_small l.0 hl.link)
    (ap (λ (x : List ℕ). x ++ r) (sym (links_said k)) ∙ e ∙ ap (λ (x : List ℕ). x ++ s) (links_said l)) in
    let more = identifiers_listed_divide k.1 l.1 r s hk.ends hl.ends er es d.1 in
    (λ i. (d.0 i, more.0 i), more.1)

-- links end at the line feed
Feeds : List ℕ → Type 0
Feeds r = (x : List ℕ) × (r ≡ 10 ∷ x)

feed_stops : (r : List ℕ) → Feeds r → Stops r
unfolding Feeds Stops
feed_stops r h = subst (λ (y : List ℕ). ends is_seen y ≡ true) (sym h.1) refl

space_feed : (x y : List ℕ) → 32 ∷ x ≡ 10 ∷ y → ⊥
space_feed x y e =
    let first : ◌≡◌ {A = ℕ} 32 10 = cc in
    omega arith

said_apart : (attr : ℕ) (x r s : List ℕ) → Feeds s → said attr x ++ r ≡ s → ⊥
unfolding Feeds said
said_apart attr x r s h e = space_feed ((attribute_token attr ++ 61 ∷ x) ++ r) h.0 (e ∙ h.1)

links_go : (ls : List (ℕ × List (List ℕ))) (r : List ℕ) → Feeds r → Stops (flat_map links_text ls ++ r)
unfolding Stops links_text
links_go [] r h = feed_stops r h
links_go (l ∷ ls) r h = refl

links_divide : (ks ls : List (ℕ × List (List ℕ))) (r s : List ℕ) → All ArePrintableLinks ks → All ArePrintableLinks ls → Feeds r → Feeds s
    → flat_map links_text ks ++ r ≡ flat_map links_text ls ++ s → (ks ≡ ls) × (r ≡ s)
links_divide = lists_divide links_text ArePrintableLinks Stops Feeds one_links links_go
    (λ l r s hl er es e. said_apart l.0 (listed l.1) r s es (ap (λ (x : List ℕ). x ++ r) (sym (links_said l)) ∙ e))

-- values end where links or the line feed begin: no attribute of values stands there
record Closes (r : List ℕ) : Type 0 where
  stops : Stops r
  closed : (attr : ℕ) (x y : List ℕ) → is_link (kind_at newest attr) ≡ false → attr < 2 ^ 64 → said attr x ++ y ≡ r → ⊥

values_go : (vs : List (ℕ × List Item)) (r : List ℕ) → Closes r → Stops (flat_map values_text vs ++ r)
unfolding Stops values_text
values_go [] r h = h.stops
values_go (v ∷ vs) r h = refl

values_list_divide : (vs ws : List (ℕ × List Item)) (r s : List ℕ) → All ArePrintableValues vs → All ArePrintableValues ws → Closes r → Closes s
    → flat_map values_text vs ++ r ≡ flat_map values_text ws ++ s → (vs ≡ ws) × (r ≡ s)
values_list_divide = lists_divide values_text ArePrintableValues Stops Closes one_values values_go
    (λ v r s hv er es e. es.closed v.0 (values_token v.1) r hv.no_link hv.attribute (ap (λ (x : List ℕ). x ++ r) (sym (values_said v)) ∙ e))

link_closed : (attr : ℕ) (x y r : List ℕ) (l : ℕ × List (List ℕ)) → ArePrintableLinks l → is_link (kind_at newest attr) ≡ false → attr < 2 ^ 64 → said attr x ++ y ≡ links_text l ++ r → ⊥
link_closed attr x y r l hl other small e =
    let d = sets_divide attr l.0 x (listed l.1) y r small (link_small l.0 hl.link) (e ∙ ap (λ (z : List ℕ). z ++ r) (links_said l)) in
    both_ways (is_link (kind_at newest l.0)) (subst (λ n. is_link (kind_at newest n) ≡ false) d.0 other) hl.link

links_close : (ls : List (ℕ × List (List ℕ))) (r : List ℕ) → All ArePrintableLinks ls → Feeds r → Closes (flat_map links_text ls ++ r)
links_close [] r hl h = record { stops = feed_stops r h; closed = λ attr x y other small e. said_apart attr x y r h e }
links_close (l ∷ ls) r hl h = record {
  stops = links_go (l ∷ ls) r h;
  closed = λ attr x y other small e.
      link_closed attr x y (flat_map links_text ls ++ r) l (All-head ArePrintableLinks l ls hl) other small (e ∙ append_assoc (links_text l) (flat_map links_text ls) r);
}

-- an entry in its pieces
head_text : List ℕ → ℕ → List ℕ → List ℕ
head_text g c x = codes "  " ++ (identifier_token g ++ (32 ∷ (class_token c ++ x)))

place_text : List ℕ → List ℕ → List ℕ → List ℕ
place_text p n x = codes " parent=" ++ (identifier_token p ++ (codes " name=" ++ (text_token n ++ x)))

rest_text : List (ℕ × List Item) → List (ℕ × List (List ℕ)) → List ℕ → List ℕ
rest_text vs ls x = flat_map values_text vs ++ (flat_map links_text ls ++ (10 ∷ x))

head_divide : (g h : List ℕ) (c d : ℕ) (x y : List ℕ) → IsIdentifier g → IsIdentifier h → c < 2 ^ 64 → d < 2 ^ 64 → head_text g c (32 ∷ x) ≡ head_text h d (32 ∷ y) → (g ≡ h) × (c ≡ d) × (32 ∷ x ≡ 32 ∷ y)
unfolding head_text
head_divide g h c d x y hg hh hc hd e =
    let inside : identifier_token g ++ (32 ∷ (class_token c ++ (32 ∷ x))) ≡ identifier_token h ++ (32 ∷ (class_token d ++ (32 ∷ y))) = append_cancel_left (codes "  ") _ _ e in
    let first = identifiers_divide g h (32 ∷ (class_token c ++ (32 ∷ x))) (32 ∷ (class_token d ++ (32 ∷ y))) hg hh refl refl inside in
    let left : class_token c ++ (32 ∷ x) ≡ class_token d ++ (32 ∷ y) = append_cancel_left (codes " ") _ _ first.1 in
    let class = classes_divide c d (32 ∷ x) (32 ∷ y) hc hd refl refl left in
    (first.0, class.0, class.1)

place_divide : (p q m n x y : List ℕ) → IsIdentifier p → IsIdentifier q → place_text p m x ≡ place_text q n y → (p ≡ q) × (m ≡ n) × (x ≡ y)
unfolding place_text
place_divide p q m n x y hp hq e =
    let inside : identifier_token p ++ (codes " name=" ++ (text_token m ++ x)) ≡ identifier_token q ++ (codes " name=" ++ (text_token n ++ y)) = append_cancel_left (codes " parent=") _ _ e in
    let first = identifiers_divide p q (codes " name=" ++ (text_token m ++ x)) (codes " name=" ++ (text_token n ++ y)) hp hq refl refl inside in
    let left : text_token m ++ x ≡ text_token n ++ y = append_cancel_left (codes " name=") _ _ first.1 in
    let name = texts_divide m n x y left in
    (first.0, name.0, name.1)

rest_divide : (vs ws : List (ℕ × List Item)) (ks ls : List (ℕ × List (List ℕ))) (r s : List ℕ)
    → All ArePrintableValues vs → All ArePrintableValues ws → All ArePrintableLinks ks → All ArePrintableLinks ls → rest_text vs ks r ≡ rest_text ws ls s → (vs ≡ ws) × (ks ≡ ls) × (r ≡ s)
unfolding Feeds rest_text
rest_divide vs ws ks ls r s hv hw hk hl e =
    let values = values_list_divide vs ws (flat_map links_text ks ++ (10 ∷ r)) (flat_map links_text ls ++ (10 ∷ s)) hv hw
    (links_close ks (10 ∷ r) hk (r, refl)) (links_close ls (10 ∷ s) hl (s, refl)) e in
    let links = links_divide ks ls (10 ∷ r) (10 ∷ s) hk hl (r, refl) (s, refl) values.1 in
    let feed : 10 ∷ r ≡ 10 ∷ s = links.1 in
    let left : r ≡ s = cc in
    (values.0, links.0, left)

flat : (a g b c d p k n v l f r : List ℕ) → ((a ++ g ++ b ++ c) ++ (d ++ p ++ k ++ n) ++ v ++ l ++ f) ++ r ≡ a ++ (g ++ (b ++ (c ++ (d ++ (p ++ (k ++ (n ++ (v ++ (l ++ (f ++ r))))))))))
flat a g b c d p k n v l f r = simp append_assoc

entry_is : (e : Entry) (r : List ℕ) → entry_line e ++ r ≡ head_text e.guid e.class (place_text e.parent e.name (rest_text e.values e.links r))
unfolding entry_line head_text place_text rest_text
entry_is e r = flat (codes "  ") (identifier_token e.guid) (codes " ") (class_token e.class) (codes " parent=") (identifier_token e.parent) (codes " name=") (text_token e.name)
    (flat_map values_text e.values) (flat_map links_text e.links) (codes "\n") r

pieces_divide : (e f : Entry) (r s : List ℕ) → IsPrintableEntry e → IsPrintableEntry f
    → head_text e.guid e.class (place_text e.parent e.name (rest_text e.values e.links r)) ≡ head_text f.guid f.class (place_text f.parent f.name (rest_text f.values f.links s)) → (e ≡ f) × (r ≡ s)
unfolding place_text
pieces_divide e f r s he hf h =
    let first = head_divide e.guid f.guid e.class f.class _ _ he.guid hf.guid he.class hf.class h in
    let place = place_divide e.parent f.parent e.name f.name (rest_text e.values e.links r) (rest_text f.values f.links s) he.parent hf.parent first.2 in
    let rest = rest_divide e.values f.values e.links f.links r s he.values hf.values he.links hf.links place.2 in
    (λ i. record { guid = first.0 i; class = first.1 i; parent = place.0 i; name = place.1 i; values = rest.0 i; links = rest.1 i }, rest.2)

pub entry_divide : (e f : Entry) (r s : List ℕ) → IsPrintableEntry e → IsPrintableEntry f → entry_line e ++ r ≡ entry_line f ++ s → (e ≡ f) × (r ≡ s)
entry_divide e f r s he hf h = pieces_divide e f r s he hf (sym (entry_is e r) ∙ h ∙ entry_is f s)

-- no entry is written by nothing
some_first : (x : List ℕ) → 32 ∷ x ≡ [] → ⊥
some_first x e = absurd (cc)

pub entry_some : (e : Entry) (r : List ℕ) → entry_line e ++ r ≡ [] → ⊥
unfolding head_text
entry_some e r h = some_first _ (sym (entry_is e r) ∙ h)
