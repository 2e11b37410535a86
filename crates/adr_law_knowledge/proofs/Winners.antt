-- What the winner at a key is, and which updates win.
use Rattle.std.proofs.Common.{◌≡◌, inl, inr, ⊎_elim, List, [], ◌∷◌, Bool, true, false, cond, Option, Some, None, refl, sym, ap, ◌∙◌, subst, map}
use Rattle.std.specs.declared.cmp.Ordering.{Ordering}
use Rattle.adr_model.specs.Member.{Member, Each}
use Rattle.adr_model.specs.Update.{Key, Update, same_key, key_order, is_older}
use Rattle.adr_model.specs.Winner.{or_younger, younger, winner, winners, keys_of}
use Rattle.adr_model.proofs.Keys.{exact_keys, keys_total}
use Rattle.adr_model.proofs.Members.{member_mapped, of_filter_map, in_filter_map}
use Rattle.adr_model.specs.Sound.{HasOneContent}
use Rattle.adr_law_knowledge.specs.Rises.{Rises}
use Rattle.adr_law_knowledge.proofs.Comparing.{keys_tell, same_where_equal, not_older_trans, not_older_self, older_one_way, neither_older}
use Rattle.adr_law_knowledge.proofs.Lists.{filter_map_rises, sorted_rises, in_sorted}

abbrev pub Won : List Update → Key → Option Update → Type 0
Won us key None = Each (λ v. v.key ≡ key → ⊥) us
Won us key (Some u) = Member u us × (u.key ≡ key) × Each (λ v. v.key ≡ key → is_older u v ≡ false) us

-- an update of the key before others
won_with : (u : Update) (us : List Update) (key : Key) (o : Option Update) → u.key ≡ key → Won us key o → Won (u ∷ us) key (younger u o)
won_with u us key None is none =
    (inl refl, is, λ v m e. ⊎_elim (λ (same : v ≡ u). subst (λ w. is_older u w ≡ false) (sym same) (not_older_self u)) (λ n. absurd (none v n e)) m)
won_with u us key (Some w) is best = by (is_older u w) refl
  where
    Best : Update → Type 0
    Best x = Each (λ v. v.key ≡ key → is_older x v ≡ false) (u ∷ us)

    other : is_older u w ≡ true → Best w
    other older v m e = ⊎_elim (λ (same : v ≡ u). subst (λ x. is_older w x ≡ false) (sym same) (older_one_way u w older)) (λ n. best.2 v n e) m

    this : is_older u w ≡ false → Best u
    this newer v m e = ⊎_elim (λ (same : v ≡ u). subst (λ x. is_older u x ≡ false) (sym same) (not_older_self u)) (λ n. not_older_trans u w v newer (best.2 v n e)) m

    by : (b : Bool) → is_older u w ≡ b → Won (u ∷ us) key (cond b (Some w) (Some u))
    by true older = (inr best.0, best.1, other older)
    by false newer = (inl refl, is, this newer)

-- an update of another key before others
won_without : (u : Update) (us : List Update) (key : Key) (o : Option Update) → (u.key ≡ key → ⊥) → Won us key o → Won (u ∷ us) key o
won_without u us key None other none = λ v m e. ⊎_elim (λ (same : v ≡ u). other (ap (λ (x : Update). x.key) (sym same) ∙ e)) (λ n. none v n e) m
won_without u us key (Some w) other best =
    (inr best.0, best.1, λ v m e. ⊎_elim (λ (same : v ≡ u). absurd (other (ap (λ (x : Update). x.key) (sym same) ∙ e))) (λ n. best.2 v n e) m)

pub won : (us : List Update) (key : Key) → Won us key (winner us key)
won [] key = λ v m e. m
won (u ∷ us) key = by (same_key u.key key) refl (won us key)
  where
    by : (b : Bool) → same_key u.key key ≡ b → Won us key (winner us key) → Won (u ∷ us) key (or_younger b u (winner us key))
    by true is rest = won_with u us key (winner us key) (keys_tell u.key key is) rest
    by false is rest = won_without u us key (winner us key) (λ e. let t : same_key u.key key ≡ true = same_where_equal u.key key e in absurd (cc)) rest

pub is_won : (us : List Update) (key : Key) (o : Option Update) → winner us key ≡ o → Won us key o
is_won us key o e = subst (λ p. Won us key p) e (won us key)

pub none_won : (us : List Update) (key : Key) → Each (λ v. v.key ≡ key → ⊥) us → winner us key ≡ None
none_won us key none = by (winner us key) refl
  where
    by : (o : Option Update) → winner us key ≡ o → o ≡ None
    by None e = refl
    by (Some w) e = let t = is_won us key (Some w) e in absurd (none w t.0 t.1)

-- of one key and one stamp there is one update
pub one_of_stamp : (issued : List Update) (u v : Update) → HasOneContent issued → Member u issued → Member v issued → u.key ≡ v.key → is_older u v ≡ false → is_older v u ≡ false → u ≡ v
one_of_stamp issued u v one m n e p q = let same = neither_older u v p q in one u m v n e (ap (λ s. s.stamp.inv) same) (ap (λ s. s.stamp.usn) same)

pub winner_is : (issued us : List Update) (u : Update) → HasOneContent issued → Each (λ v. Member v issued) us → Member u us
    → Each (λ v. v.key ≡ u.key → is_older u v ≡ false) us → winner us u.key ≡ Some u
winner_is issued us u one within m best = by (winner us u.key) refl
  where
    by : (o : Option Update) → winner us u.key ≡ o → o ≡ Some u
    by None e = absurd (is_won us u.key None e u m refl)
    by (Some w) e = let t = is_won us u.key (Some w) e in
        ap Some (one_of_stamp issued w u one (within w t.0) (within u m) t.1 (t.2 u m refl) (best w t.0 t.1))

-- the winners
pub of_winners : (us : List Update) (u : Update) → Member u (winners us) → winner us u.key ≡ Some u
of_winners us u m = let t = of_filter_map (winner us) (keys_of us) u m in
    subst (λ k. winner us k ≡ Some u) (sym (is_won us t.0 (Some u) t.2).1) t.2

pub in_winners : (us : List Update) (u : Update) → winner us u.key ≡ Some u → Member u (winners us)
in_winners us u e = in_filter_map (winner us) (keys_of us) u.key u (in_sorted key_order keys_total exact_keys (map (λ (v : Update). v.key) us) [] u.key (member_mapped (λ (v : Update). v.key) us u (is_won us u.key (Some u) e).0)) e

abbrev pub by_key : Update → Update → Ordering
by_key u v = key_order u.key v.key

pub winners_rise : (us : List Update) → Rises by_key (winners us)
winners_rise us =
    filter_map_rises key_order (winner us) (λ (u : Update). u.key) (λ k u e. (is_won us k (Some u) e).1) (keys_of us)
    (sorted_rises key_order keys_total exact_keys (map (λ (v : Update). v.key) us) [] tt)
