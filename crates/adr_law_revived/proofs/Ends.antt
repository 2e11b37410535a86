-- What a link row shows at one of its ends, and which rows are live by the objects that are.
use Rattle.std.proofs.Common.{◌≡◌, ◌⊎◌, inl, inr, ⊎_elim, ℕ, List, [], Bool, true, false, refl, sym, ap, subst}
use Rattle.std.specs.List.{list_all}
use Rattle.adr_values.specs.declared.stamp.Oid.{Oid}
use Rattle.adr_values.specs.declared.stamp.LinkKey.{LinkKey}
use Rattle.adr_values.specs.Table.{Table}
use Rattle.adr_model.specs.Member.{Member, Each}
use Rattle.adr_model.specs.Update.{Identifier, Key, RowOf, LinkOf, Said, Holds, IsPresent, Update, ends, class_attr, same_object}
use Rattle.adr_model.specs.Winner.{winners}
use Rattle.adr_model.specs.Live.{standing, live, is_among, live_rows}
use Rattle.adr_model.specs.Place.{Node, node_of}
use Rattle.adr_model.specs.Directory.{back_link, one_where, link_ends}
use Rattle.adr_model.specs.Formed.{AreFormedRows}
use Rattle.adr_model.specs.Write.{nodes_held}
use Rattle.adr_model.proofs.Members.{in_filter, of_filter, of_filter_map, some_passes, all_pass, each_passes}
use Rattle.adr_model.proofs.Keys.{winner_found, objects_tell}
use Rattle.adr_model.proofs.Nodes.{IsNodeOf, is_node_of}
use Rattle.adr_law_knowledge.proofs.Comparing.{keys_tell, same_as_itself}
use Rattle.adr_law_knowledge.proofs.Standing.{of_standing}
use Rattle.adr_law_knowledge.proofs.Winners.{in_winners}
use Rattle.adr_law_revived.proofs.Living.{node_there}

-- ---- what a row shows

-- a link that is present, of the object at one end; what is shown is the other one
pub record IsShownBy (o : Oid) (k : Key) (said : Said) (e : ℕ × Identifier) : Type 0 where
  pub link : LinkKey
  pub key : k ≡ LinkOf link
  pub present : said ≡ IsPresent true
  pub other : Oid
  pub is_other : e.1 ≡ other.guid
  pub at : ((link.from ≡ o) × (link.to ≡ other)) ⊎ ((link.to ≡ o) × (link.from ≡ other))

one_of : {A : Type 0} (b : Bool) (x : A) (xs : List A) (e : A) → Member e (one_where b x xs) → ((b ≡ true) × (e ≡ x)) ⊎ Member e xs
one_of true x xs e (inl is) = inl (refl, is)
one_of true x xs e (inr m) = inr m
one_of false x xs e m = inr m

pub shown_by : (o : Oid) (k : Key) (said : Said) (e : ℕ × Identifier) → Member e (link_ends o k said) → IsShownBy o k said e
shown_by o (RowOf p attr) said e m = absurd m
shown_by o (LinkOf l) (Holds content) e m = absurd m
shown_by o (LinkOf l) (IsPresent false) e m = absurd m
shown_by o (LinkOf l) (IsPresent true) e m =
    ⊎_elim to_it (λ n. ⊎_elim from_it (λ none. absurd none) (one_of (same_object l.to o) (back_link l.attr, l.from.guid) [] e n))
    (one_of (same_object l.from o) (l.attr, l.to.guid) (one_where (same_object l.to o) (back_link l.attr, l.from.guid) []) e m)
  where
    to_it : (same_object l.from o ≡ true) × (e ≡ (l.attr, l.to.guid)) → IsShownBy o (LinkOf l) (IsPresent true) e
    to_it (same, is) = record { link = l; key = refl; present = refl; other = l.to; is_other = ap (λ (x : ℕ × Identifier). x.1) is; at = inl (objects_tell l.from o same, refl) }

    from_it : (same_object l.to o ≡ true) × (e ≡ (back_link l.attr, l.from.guid)) → IsShownBy o (LinkOf l) (IsPresent true) e
    from_it (same, is) = record { link = l; key = refl; present = refl; other = l.from; is_other = ap (λ (x : ℕ × Identifier). x.1) is; at = inr (objects_tell l.to o same, refl) }

-- the object and the other end are the ends
pub own_end : (o : Oid) (k : Key) (said : Said) (e : ℕ × Identifier) (by : IsShownBy o k said e) → Member o (ends k)
own_end o k said e by = subst (λ (x : Key). Member o (ends x)) (sym by.key) (⊎_elim (λ at. inl (sym at.0)) (λ at. inr (inl (sym at.0))) by.at)

pub other_end_there : (o : Oid) (k : Key) (said : Said) (e : ℕ × Identifier) (by : IsShownBy o k said e) → Member by.other (ends k)
other_end_there o k said e by = subst (λ (x : Key). Member by.other (ends x)) (sym by.key) (⊎_elim (λ at. inr (inl (sym at.1))) (λ at. inl (sym at.1)) by.at)

-- ---- which rows are live

module _ (us : List Update) where
  -- an object that is live
  abbrev pub Lives : Oid → Type 0
  Lives o = (n : Node) × Member n (nodes_held us) × (n.object ≡ o)

  is_live : (o : Oid) → Lives o → is_among (live us) o ≡ true
  is_live o (n, m, same) =
      let u = of_filter_map (λ (v : Update). node_of (live_rows us) v.key v.said) (live_rows us) n m in
      by u.0 (of_filter (λ (v : Update). list_all (is_among (live us)) (ends v.key)) (winners us) u.0 u.1).1 (is_node_of (live_rows us) u.0.key u.0.said n u.2)
    where
      by : (u : Update) → list_all (is_among (live us)) (ends u.key) ≡ true → IsNodeOf u.key u.said n → is_among (live us) o ≡ true
      by u all (attr, is, said) = each_passes (is_among (live us)) (ends u.key) all o (subst (λ (k : Key). Member o (ends k)) (sym is) (inl (sym same)))

  module _ (one : Each (λ u. Each (λ v. u.key ≡ v.key → u ≡ v) us) us) where
    -- a row is live where its ends are
    pub row_lives : (u : Update) → Member u us → Each Lives (ends u.key) → Member u (live_rows us)
    row_lives u m alive = in_filter (λ (x : Update). list_all (is_among (live us)) (ends x.key)) (winners us) u
        (in_winners us u (winner_found us u m (same_as_itself u.key) (λ v k same. one v k u m (keys_tell v.key u.key same))))
        (all_pass (is_among (live us)) (ends u.key) (λ o n. is_live o (alive o n)))

    module _ (table : Table) (formed : AreFormedRows table us) where
      lives_so : (o : Oid) → is_among (live us) o ≡ true → Lives o
      lives_so o among =
          let p = some_passes (λ (q : Oid). same_object q o) (live us) among in
          let b = of_standing us o (subst (λ (q : Oid). Member q (standing us)) (objects_tell p.0 o p.2) (of_filter _ (standing us) p.0 p.1).0) in
          let n = formed.named o (b.birth, class_attr, b.born, b.is_birth) in
          (record { object = o; class = n.class; text = n.text; parent = n.parent; stamp = n.of_name.0.stamp }, node_there us one o among n.of_class.0 n.of_name.0 n.class n.text n.parent n.of_class.1 n.of_class.2 n.of_class.3 n.of_name.1 n.of_name.2 n.of_name.3, refl)

      pub ends_live : (u : Update) → Member u (live_rows us) → Each Lives (ends u.key)
      ends_live u m o n = lives_so o
          (each_passes (is_among (live us)) (ends u.key) (of_filter (λ (v : Update). list_all (is_among (live us)) (ends v.key)) (winners us) u m).1 o n)
