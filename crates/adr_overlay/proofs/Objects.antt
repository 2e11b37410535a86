-- What rows of an object of which nothing is held make of what is told and of the counts, where they are put at once.
use Rattle.std.proofs.Common.{◌≡◌, ℕ, ◌+◌, List, [], ◌∷◌, Bool, true, false, cond, ◌&&◌, ◌||◌, refl, sym, ap, ◌∙◌, subst, fold, map, take, drop, length, Option, Some, None, is_none, is_some, arith, eqb, eqb-true}
use Rattle.std.specs.List.{list_all}
use Rattle.std.proofs.lemmas.List.{map-append, take-append-drop}
use Rattle.std.proofs.lemmas.List.Sums.{fold-append}
use Rattle.adr_values.specs.declared.stamp.Oid.{Oid}
use Rattle.adr_model.specs.Change.{killed_by, put}
use Rattle.adr_model.specs.Formed.{AreRising}
use Rattle.adr_model.specs.Live.{objects_of}
use Rattle.adr_model.specs.Store.{Held, holds_object, is_row_of, row_held, updates_of}
use Rattle.adr_model.specs.Take.{has_row, is_of_attr}
use Rattle.adr_model.specs.Update.{Key, RowOf, LinkOf, Update, class_attr, same_key}
use Rattle.adr_model.specs.Write.{is_link_row, links_in}
use Rattle.adr_model.proofs.Keys.{objects_tell}
use Rattle.adr_law_knowledge.proofs.RisingHeld.{put_rises}
use Rattle.adr_shelves.specs.Shelves.{held_at, is_life_of}
use Rattle.adr_overlay.specs.Overlay.{IsCounted, is_birth_row, links_lost, one, told}
use Rattle.adr_overlay.proofs.Births.{links_after, objects_after}
use Rattle.adr_overlay.proofs.Holding.{none_held}
use Rattle.adr_overlay.proofs.Looked.{held_put, left_at}
use Rattle.adr_overlay.proofs.Rising.{one_key, same_itself}
use Rattle.adr_overlay.proofs.Telling.{holds_told, told_after, told_rises}

pub all_rise : (hs rows : List Held) → AreRising rows → AreRising (fold put rows hs)
all_rise [] rows r = r
all_rise (h ∷ hs) rows r = all_rise hs (put rows h) (put_rises rows h r)

pub told_all : (hs over base : List Held) → AreRising over → AreRising base → told (fold put over hs) base ≡ fold put (told over base) hs
told_all [] over base s r = refl
told_all (h ∷ hs) over base s r = told_all hs (put over h) base (put_rises over h s) r ∙ ap (λ rows. fold put rows hs) (told_after over base h s r)

-- where the first ones are put, and then the others
pub put_in_turn : (local n : ℕ) (us rest : List Update) (rows mid new : List Held) → mid ≡ fold put rows (map (held_at local) (take n us)) → rest ≡ drop n us → new ≡ fold put mid (map (held_at local) rest)
    → new ≡ fold put rows (map (held_at local) us)
put_in_turn local n us rest rows mid new first is then =
    then
    ∙ ap (λ us'. fold put mid (map (held_at local) us')) is
    ∙ ap (λ hs. fold put hs (map (held_at local) (drop n us))) first
    ∙ sym (fold-append put rows (map (held_at local) (take n us)) (map (held_at local) (drop n us)))
    ∙ ap (fold put rows) (sym (map-append (held_at local) (take n us) (drop n us)) ∙ ap (map (held_at local)) (take-append-drop n us))

-- ---- one row

both : (a b : Bool) → a && b ≡ true → (a ≡ true) × (b ≡ true)
both true b e = (refl, e)
both false b e = cc

none_is : {A : Type 0} (x : Option A) → is_none x ≡ true → x ≡ None
none_is None e = refl
none_is (Some x) e = cc

-- the key of such a row
pub record IsLife (o : Oid) (k : Key) : Type 0 where
  pub of : is_row_of o k ≡ true
  pub kills : killed_by k ≡ None

life_of : (o : Oid) (u : Update) (us : List Update) → list_all (is_life_of o) (u ∷ us) ≡ true → IsLife o u.key × (list_all (is_life_of o) us ≡ true)
life_of o u us own =
    let parts = both (is_life_of o u) (list_all (is_life_of o) us) own in
    let here = both (is_row_of o u.key) (is_none (killed_by u.key)) parts.0 in
    (record { of = here.0; kills = none_is (killed_by u.key) here.1 }, parts.1)

-- another row of the object than its class row
other_row : (o : Oid) (a : ℕ) → eqb a class_attr ≡ false → same_key (RowOf o a) (RowOf o class_attr) ≡ false
other_row o a apart = by (same_key (RowOf o a) (RowOf o class_attr)) refl
  where
    attr_in : Key → ℕ
    attr_in (RowOf p b) = b
    attr_in (LinkOf l) = 0

    by : (b : Bool) → same_key (RowOf o a) (RowOf o class_attr) ≡ b → b ≡ false
    by false e = refl
    by true e =
        let same : a ≡ class_attr = ap attr_in (one_key (RowOf o a) (RowOf o class_attr) e) in
        let no : true ≡ false = sym (ap (λ n. eqb n class_attr) same) ∙ apart in cc

-- the first class row is one more object, and no other row is
one_row : (rows : List Held) (h : Held) (o : Oid) (k : Key) → h.update.key ≡ k → IsLife o k → (more : Bool)
    → one (is_birth_row k && is_none (row_held rows k)) + one (more && is_none (row_held (put rows h) (RowOf o class_attr)))
    ≡ one ((is_of_attr class_attr k || more) && is_none (row_held rows (RowOf o class_attr)))
one_row rows h o (LinkOf l) of life more = let no : false ≡ true = life.of in cc
one_row rows h o (RowOf p a) of life more = subst (λ q. Goal q) (sym (objects_tell p o life.of)) (by (eqb a class_attr) refl)
  where
    Goal : Oid → Type 0
    Goal q = one (is_birth_row (RowOf q a) && is_none (row_held rows (RowOf q a))) + one (more && is_none (row_held (put rows h) (RowOf o class_attr)))
        ≡ one ((is_of_attr class_attr (RowOf q a) || more) && is_none (row_held rows (RowOf o class_attr)))

    own : h.update.key ≡ RowOf o a
    own = of ∙ ap (λ q. RowOf q a) (objects_tell p o life.of)

    now : row_held (put rows h) (RowOf o class_attr) ≡ cond (same_key (RowOf o a) (RowOf o class_attr)) (Some h) (row_held rows (RowOf o class_attr))
    now = held_put rows h (RowOf o class_attr)
        ∙ ap (λ d. left_at d (RowOf o class_attr) (cond (same_key h.update.key (RowOf o class_attr)) (Some h) (row_held rows (RowOf o class_attr)))) (ap killed_by of ∙ life.kills)
        ∙ ap (λ j. cond (same_key j (RowOf o class_attr)) (Some h) (row_held rows (RowOf o class_attr))) own

    nothing : (b : Bool) → one (b && false) ≡ 0
    nothing true = refl
    nothing false = refl

    by : (b : Bool) → eqb a class_attr ≡ b → Goal o
    by true is =
        let class : a ≡ class_attr = eqb-true a class_attr is in
        let held : row_held (put rows h) (RowOf o class_attr) ≡ Some h =
        now ∙ ap (λ n. cond (same_key (RowOf o n) (RowOf o class_attr)) (Some h) (row_held rows (RowOf o class_attr))) class
        ∙ ap (λ b. cond b (Some h) (row_held rows (RowOf o class_attr))) (same_itself (RowOf o class_attr)) in
        omega (
          arith,
          ap (λ n. one (is_birth_row (RowOf o n) && is_none (row_held rows (RowOf o n)))) class,
          ap (λ n. one ((is_of_attr class_attr (RowOf o n) || more) && is_none (row_held rows (RowOf o class_attr)))) class,
          ap (λ x. one (more && is_none x)) held,
          nothing more,
        )
    by false apart =
        let same : row_held (put rows h) (RowOf o class_attr) ≡ row_held rows (RowOf o class_attr) =
        now ∙ ap (λ b. cond b (Some h) (row_held rows (RowOf o class_attr))) (other_row o a apart) in
        omega (
          arith,
          ap (λ b. one (is_birth b && is_none (row_held rows (RowOf o a)))) apart,
          ap (λ b. one ((b || more) && is_none (row_held rows (RowOf o class_attr)))) apart,
          ap (λ x. one (more && is_none x)) same,
        )
      where
        is_birth : Bool → Bool
        is_birth b = is_some (cond b (Some o) None)

-- ---- all rows

objects_all : (o : Oid) (local : ℕ) (us : List Update) (rows : List Held) → AreRising rows → list_all (is_life_of o) us ≡ true
    → length (objects_of (updates_of (fold put rows (map (held_at local) us))))
    ≡ length (objects_of (updates_of rows)) + one (has_row class_attr us && is_none (row_held rows (RowOf o class_attr)))
objects_all o local [] rows r own = omega arith
objects_all o local (u ∷ us) rows r own =
    let life = life_of o u us own in
    omega (
      arith,
      objects_all o local us (put rows (held_at local u)) (put_rises rows (held_at local u) r) life.1,
      objects_after rows (held_at local u) r,
      one_row rows (held_at local u) o u.key refl life.0 (has_row class_attr us),
    )

links_all : (o : Oid) (local : ℕ) (us : List Update) (rows : List Held) → AreRising rows → list_all (is_life_of o) us ≡ true
    → links_in (fold put rows (map (held_at local) us)) ≡ links_in rows
links_all o local [] rows r own = refl
links_all o local (u ∷ us) rows r own =
    let life = life_of o u us own in
    let h = held_at local u in
    omega (
      arith,
      links_all o local us (put rows h) (put_rises rows h r) life.1,
      links_after rows h r,
      ap (λ d. links_lost d rows) life.0.kills,
      no_link u.key life.0.of,
    )
  where
    no_link : (k : Key) → is_row_of o k ≡ true → one (is_link_row k && is_none (row_held rows k)) ≡ 0
    no_link (RowOf p a) e = refl
    no_link (LinkOf l) e = cc

-- of an object of which nothing is told nothing is over the base
pub unheld_over : (over base : List Held) (o : Oid) → holds_object (told over base) o ≡ false → holds_object over o ≡ false
unheld_over over base o none = by (holds_object over o) (sym (holds_told over base o) ∙ none)
  where
    by : (b : Bool) → b || holds_object base o ≡ false → b ≡ false
    by true e = cc
    by false e = refl

-- rows of an object of which nothing is held, put over the base, with the counts of what is told then
module _ (over base rows new : List Held) (o : Oid) (local : ℕ) (us : List Update) (is : told over base ≡ rows) (s : AreRising over) (r : AreRising base)
    (put_there : new ≡ fold put over (map (held_at local) us)) where
  pub told_object : told new base ≡ fold put rows (map (held_at local) us)
  told_object =
      ap (λ os. told os base) put_there ∙ told_all (map (held_at local) us) over base s r ∙ ap (λ os. fold put os (map (held_at local) us)) is

  pub counted_object : list_all (is_life_of o) us ≡ true → holds_object rows o ≡ false → (objects links : ℕ)
      → objects ≡ length (objects_of (updates_of rows)) + one (has_row class_attr us) → links ≡ links_in rows → IsCounted new base objects links
  counted_object own unheld objects links a b =
      let rise : AreRising rows = subst AreRising is (told_rises over base r) in
      record {
        over_rises = subst AreRising (sym put_there) (all_rise (map (held_at local) us) over s);
        base_rises = r;
        objects = omega (
          arith,
          a,
          objects_all o local us rows rise own,
          ap (λ x. one (has_row class_attr us && is_none x)) (none_held rows o class_attr unheld),
          whole (has_row class_attr us),
          ap (λ os. length (objects_of (updates_of os))) told_object,
        );
        links = b ∙ sym (links_all o local us rows rise own) ∙ ap links_in (sym told_object);
      }
    where
      whole : (b : Bool) → one (b && true) ≡ one b
      whole true = refl
      whole false = refl
