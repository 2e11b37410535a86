-- Where the last cycles are whole the four are level behind the deletions, stay so where they collect, and show the same at the end.
use Rattle.std.proofs.Common.{◌≡◌, ◌<◌, ◌^◌, inl, inr, ℕ, List, [], ◌∷◌, ◌++◌, Bool, true, map, append_assoc, refl, sym, ap, ◌∙◌, subst, arith}
use Rattle.std.specs.Prelude.{codes}
use Rattle.adr_call.specs.declared.event.Event.{Event}
use Rattle.adr_model.specs.Member.{Member, Each}
use Rattle.adr_model.specs.Update.{Update}
use Rattle.adr_model.specs.World.{Name, World, empty_world}
use Rattle.adr_model.specs.Step.{after_lines}
use Rattle.adr_model.specs.Rings.{Connection, ring, show_alike}
use Rattle.adr_model.specs.Sound.{IsSoundWorld}
use Rattle.adr_model.specs.Convergence.{behind, MayAllHappen}
use Rattle.adr_model.proofs.Members.{member_left}
use Rattle.adr_law_convergence.proofs.Converging.{runs_stay_clean}
use Rattle.adr_law_convergence.proofs.Lines.{runs_are_sound}
use Rattle.adr_law_headline.proofs.Following.{following_may}
use Rattle.adr_law_convergence.specs.Rounds.{Exchange, connection, line_of, AreWhole, AreAmong, behind_exchanges, in_turn, IsRound, AreConnected, HaveOneVector}
use Rattle.adr_law_convergence.proofs.Hearing.{rings_are_connected}
use Rattle.adr_law_convergence.proofs.Rounds.{rounds_converge}
use Rattle.adr_law_convergence.proofs.Directories.{seen_by}
use Rattle.adr_law_convergence.proofs.Runs.{sound_behind, issued_behind, settled_behind, AreSettled}
use Rattle.adr_law_convergence.proofs.Telling.{IsUp, pulled_is_up, directories_alike}
use Rattle.adr_run_exercise.specs.Generated.{beginning, round, rounds, groups, persons, deletions, collections, schedule}
use Rattle.adr_run_exercise.specs.Laws.{SchedulesFollow}
use Rattle.adr_run_exercise.specs.Summary.{four_names, summary}
use Rattle.adr_run_exercised.specs.Exercised.{pulls_from, four_pull, six_rounds, until_deleted, until_collected, LastRoundsMakeEqual}
use Rattle.adr_run_exercised.proofs.Collecting.{AreCollecting, AreLevelBehind, collections_keep_level}
use Rattle.adr_run_exercised.proofs.Level.{AreLevel, level_behind, level_show_the_same}
use Rattle.adr_run_exercised.proofs.Mild.{AreMild, mild_append, beginning_mild, rounds_mild, collections_mild, from_groups, from_groups_mild, nothing_put_back, lines_both, may_before}
use Rattle.adr_run_exercised.proofs.Settled.{IsThere, seen_is_issued, settled_are_level}

-- ---- the rounds of the four

abbrev pub others : List Name
others = codes "B" ∷ codes "C" ∷ codes "D" ∷ []

abbrev pub over : List Connection
over = ring (codes "A") others

pub is_round : IsRound over four_pull
is_round = record { each = each; only = only }
  where
    each : Each (λ c. (x : Exchange) × Member x four_pull × (connection x ≡ c)) over
    each c (inl e) = (pulls_from (codes "A") (codes "D"), inr (inr (inr (inl refl))), sym e)
    each c (inr (inl e)) = (pulls_from (codes "B") (codes "A"), inl refl, sym e)
    each c (inr (inr (inl e))) = (pulls_from (codes "C") (codes "B"), inr (inl refl), sym e)
    each c (inr (inr (inr (inl e)))) = (pulls_from (codes "D") (codes "C"), inr (inr (inl refl)), sym e)
    each c (inr (inr (inr (inr m)))) = absurd m

    only : Each (λ x. Member (connection x) over) four_pull
    only x (inl e) = inr (inl (ap connection e))
    only x (inr (inl e)) = inr (inr (inl (ap connection e)))
    only x (inr (inr (inl e))) = inr (inr (inr (inl (ap connection e))))
    only x (inr (inr (inr (inl e)))) = inl (ap connection e)
    only x (inr (inr (inr (inr m)))) = absurd m

-- each of the six is the round of the four
pub each_of_six : (P : List Exchange → Type 0) → P four_pull → Each P six_rounds
each_of_six P four r (inl e) = subst P (sym e) four
each_of_six P four r (inr (inl e)) = subst P (sym e) four
each_of_six P four r (inr (inr (inl e))) = subst P (sym e) four
each_of_six P four r (inr (inr (inr (inl e)))) = subst P (sym e) four
each_of_six P four r (inr (inr (inr (inr (inl e))))) = subst P (sym e) four
each_of_six P four r (inr (inr (inr (inr (inr (inl e)))))) = subst P (sym e) four
each_of_six P four r (inr (inr (inr (inr (inr (inr m)))))) = absurd m

pub six_are_rounds : Each (IsRound over) six_rounds
six_are_rounds = each_of_six (IsRound over) is_round

pub connected : AreConnected over four_names
connected = rings_are_connected (codes "A") others

pub are_among : AreAmong four_names four_pull
are_among x m named = (connected.among (connection x) (is_round.only x m)).1

-- each of the four pulls
each_pulls : Each (λ x. (source : Name) × Member (pulls_from x source) four_pull) four_names
each_pulls x (inl e) = (codes "D", inr (inr (inr (inl (ap (λ n. pulls_from n (codes "D")) e)))))
each_pulls x (inr (inl e)) = (codes "A", inl (ap (λ n. pulls_from n (codes "A")) e))
each_pulls x (inr (inr (inl e))) = (codes "B", inr (inl (ap (λ n. pulls_from n (codes "B")) e)))
each_pulls x (inr (inr (inr (inl e)))) = (codes "C", inr (inr (inl (ap (λ n. pulls_from n (codes "C")) e))))
each_pulls x (inr (inr (inr (inr m)))) = absurd m

-- the lines of rounds are these exchanges
pub one_round_is : rounds 1 ≡ map line_of four_pull
unfolding rounds round
one_round_is = refl

pub six_rounds_are : rounds 6 ≡ map line_of (in_turn six_rounds)
unfolding rounds round
six_rounds_are = refl

collect_only : AreCollecting collections
unfolding collections
collect_only = (tt, (tt, (tt, (tt, (tt, tt)))))

-- ---- the lines up to the deletions

pub parts_until_deleted : (n : ℕ) → until_deleted n ≡ beginning ++ from_groups n
parts_until_deleted n =
    let to_groups = beginning ++ groups in
    let to_round = to_groups ++ rounds 1 in
    let to_persons = to_round ++ persons n in
    append_assoc to_persons (rounds 6) (deletions n)
    ∙ (append_assoc to_round (persons n) (rounds 6 ++ deletions n)
    ∙ (append_assoc to_groups (rounds 1) (persons n ++ (rounds 6 ++ deletions n))
    ∙ append_assoc beginning groups (rounds 1 ++ (persons n ++ (rounds 6 ++ deletions n)))))

pub until_deleted_mild : (collects : Bool) (n : ℕ) → AreMild collects (until_deleted n)
until_deleted_mild collects n = subst (AreMild collects) (sym (parts_until_deleted n)) (mild_append collects beginning (from_groups n) (beginning_mild collects) (from_groups_mild collects n))

pub until_collected_mild : (n : ℕ) → AreMild true (until_collected n)
until_collected_mild n = mild_append true (until_deleted n ++ rounds 6) collections (mild_append true (until_deleted n) (rounds 6) (until_deleted_mild true n) (rounds_mild true 6)) collections_mild

-- a run of mild lines that may happen leaves a sound world
mild_run_sound : (es : List Event) → AreMild true es → MayAllHappen empty_world es → IsSoundWorld (behind es)
mild_run_sound es mild may = (runs_are_sound es may).sound (runs_stay_clean es (nothing_put_back true es mild))

module _ (follow : SchedulesFollow) (n : ℕ) (few : n < 2 ^ 64) where
  may_collect : MayAllHappen empty_world (until_collected n)
  may_collect = may_before (until_collected n) (rounds 1) empty_world (following_may (schedule n) (follow n few))

  pub collected_sound : IsSoundWorld (behind (until_collected n))
  collected_sound = mild_run_sound (until_collected n) (until_collected_mild n) may_collect

  abbrev deleted : World
  deleted = behind (until_deleted n)

  pub deleted_sound : IsSoundWorld deleted
  deleted_sound = mild_run_sound (until_deleted n) (until_deleted_mild true n)
      (may_before (until_deleted n) (rounds 6) empty_world (may_before (until_deleted n ++ rounds 6) collections empty_world may_collect))

  -- behind six rounds, and behind the collections
  abbrev spread : World
  spread = behind_exchanges deleted (in_turn six_rounds)

  abbrev collected : World
  collected = after_lines spread collections

  abbrev end : World
  end = behind_exchanges collected four_pull

  pub spread_is : behind (until_deleted n ++ rounds 6) ≡ spread
  spread_is = lines_both (until_deleted n) (rounds 6) empty_world ∙ ap (after_lines deleted) six_rounds_are

  pub collected_is : behind (until_collected n) ≡ collected
  collected_is = lines_both (until_deleted n ++ rounds 6) collections empty_world ∙ ap (λ (v : World). after_lines v collections) spread_is

  end_is : behind (schedule n) ≡ end
  end_is = lines_both (until_collected n) (rounds 1) empty_world ∙ (ap (λ (v : World). after_lines v (rounds 1)) collected_is ∙ ap (after_lines collected) one_round_is)

  -- where the cycles behind the deletions are whole
  module _ (spreading : AreWhole deleted (in_turn six_rounds)) where
    pub spread_sound : IsSoundWorld spread
    spread_sound = sound_behind (in_turn six_rounds) deleted deleted_sound spreading

    pub one_vector : HaveOneVector four_names spread
    one_vector = (rounds_converge deleted four_names over six_rounds deleted_sound connected six_are_rounds spreading).1 (omega arith)

    settled : AreSettled over spread
    settled = settled_behind deleted four_names over six_rounds deleted_sound connected.among six_are_rounds spreading (omega arith)

    pub there : Each (IsThere spread) four_names
    there x m = let p = each_pulls x m in
        let up = pulled_is_up (in_turn six_rounds) deleted deleted_sound spreading (pulls_from x p.0) (member_left four_pull (in_turn (four_pull ∷ four_pull ∷ four_pull ∷ four_pull ∷ four_pull ∷ [])) (pulls_from x p.0) p.1) in
        (up.0, up.1, up.2)

    abbrev all : List Update
    all = seen_by four_names spread

    spread_level : AreLevel spread.book.issued all four_names spread
    spread_level = settled_are_level spread spread_sound four_names over connected.among settled one_vector there connected

    behind_collections : AreLevelBehind all four_names spread collected
    behind_collections = collections_keep_level all four_names collections spread spread_sound collect_only spread_level

    -- and the last ones too
    module _ (whole : AreWhole collected four_pull) where
      end_sound : IsSoundWorld end
      end_sound = sound_behind four_pull collected behind_collections.sound whole

      end_issued : end.book.issued ≡ collected.book.issued
      end_issued = issued_behind four_pull collected behind_collections.sound whole

      end_level : AreLevel end.book.issued all four_names end
      end_level = subst (λ us. AreLevel us all four_names end) (sym end_issued) (level_behind all four_names four_pull collected behind_collections.sound whole are_among behind_collections.level)

      within : Each (λ u. Member u end.book.issued) all
      within u m = subst (λ us. Member u us) (sym (end_issued ∙ behind_collections.issued)) (seen_is_issued four_names spread u m)

      up : Each (λ x. IsUp end x) four_names
      up x m = let p = each_pulls x m in pulled_is_up four_pull collected behind_collections.sound whole (pulls_from x p.0) p.1

      pub end_alike : show_alike (behind (schedule n)) four_names ≡ true
      end_alike = subst (λ (v : World). show_alike v four_names ≡ true) (sym end_is)
          (directories_alike end end_sound (codes "A") others up (level_show_the_same all four_names end end_sound within end_level))

pub last_rounds_make_equal : SchedulesFollow → LastRoundsMakeEqual
unfolding summary
last_rounds_make_equal follow n few ends = end_alike follow n few ends.deleted (subst (λ (v : World). AreWhole v four_pull) (collected_is follow n few) ends.collected)
