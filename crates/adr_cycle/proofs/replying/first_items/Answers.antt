use Rattle.std.proofs.Common.{◌≡◌, ◌∙◌, ℕ, List, [], ◌∷◌, ◌-◌, ◌++◌, ◌==◌, min, sym, ap, subst, le_refl, append-nil, arith}
use Rattle.std.proofs.lemmas.List.Sums.{fold-append}
use Rattle.std.proofs.lemmas.Bool.{eq-eqb, or_left, or_right}
use Rattle.adr_model.specs.Change.{Item}
use Rattle.adr_model.specs.Serve.{byte_limit, candidates, first_items, item_length}
use Rattle.adr_values.specs.Vector.{Cursors}
use Rattle.adr_values.specs.declared.mark.Mark.{Mark}
use Rattle.adr_model.specs.Store.{Held}
use Rattle.adr_table.specs.Lasts.{Last}
use Rattle.adr_cycle.specs.Candidates.{AreBehind, number_after}
use Rattle.adr_cycle.proofs.Choosing.{candidates_rise}
use Rattle.adr_cycle.proofs.Cutting.{last_number, stopped, taken}
use Rattle.adr_cycle.proofs.Numbered.{all_behind, behind, none_behind, one_behind}
use Rattle.adr_cycle.proofs.replying.first_items.Goals.{then-loop-most-test+else-bytes-gt0, else-loop-most-test, then-loop-most-test+then-bytes-gt0+in_ok-local+in_default}
use Rattle.adr_cycle.proofs.replying.first_items.Goals as goal

pub loop-most-init : goal.loop-most-init
loop-most-init c =
    let all = candidates c.args.rows.now c.args.from c.args.asked.now in
    record {
      above = le_refl c.args.from.obj;
      whole =
          ap (λ xs. xs ++ first_items c.args.most byte_limit (behind c.args.from.obj all)) c.new-sent.ensures.items
          ∙ ap (first_items c.args.most byte_limit) (all_behind c.args.from.obj c.args.from.obj all (le_refl c.args.from.obj) (candidates_rise c.args.rows.now c.args.from c.args.asked.now));
      left = c.requires;
      end = sym (ap (last_number c.args.from.obj) c.new-sent.ensures.items);
    }

pub loop-most-preserved : goal.loop-most-preserved
loop-most-preserved c =
    let all = candidates c.args.rows.now c.args.from c.args.asked.now in
    let l = c.loop-most in
    let got = sym c.in_ok-local.ensures.next ∙ c.in-Some.is in
    let one = one_behind c.args.from.obj l.last all _ (candidates_rise c.args.rows.now c.args.from c.args.asked.now) got in
    let len = c.item_length_within-bytes.ensures ∙ ap (λ i. min l.bytes (item_length i)) c.in_ok-item.ensures in
    record {
      above = omega (arith, l.invariant.above, one.0);
      whole =
          ap (λ xs. xs ++ first_items (l.most - 1) (l.bytes - c.item_length_within-bytes.result) (behind c.in-Some.local all))
          (c.in_ok-push.ensures.items ∙ ap (λ i. l.sent.items ++ (c.in-Some.local, i) ∷ []) c.in_ok-item.ensures)
          ∙ taken l.sent.items l.most l.bytes c.item_length_within-bytes.result (c.in-Some.local, c.in-Some.candidate) (behind c.in-Some.local all) c.loop-most-test.true c.if-bytes-gt0.true len
          ∙ ap (λ xs. l.sent.items ++ first_items l.most l.bytes xs) (sym one.1)
          ∙ l.invariant.whole;
      left = subst (λ o. AreBehind c.args.rows.now c.args.from c.args.asked.now (number_after l.last o) c.next_candidate.new.walk) c.in-Some.is c.in_ok-local.ensures.left;
      end = sym (ap (last_number c.args.from.obj) c.in_ok-push.ensures.items ∙ fold-append (λ n (c : ℕ × Item). c.0) c.args.from.obj l.sent.items _);
    }

-- nothing more is taken
closed : (sent rest all : List (ℕ × Item)) → rest ≡ [] → sent ++ rest ≡ all → sent ≡ all
closed sent rest all none whole = sym (append-nil sent) ∙ sym (ap (λ xs. sent ++ xs) none) ∙ whole

pub returns-clause-sent : goal.returns-clause-sent
returns-clause-sent c =
    let all = candidates c.args.rows.now c.args.from c.args.asked.now in
    let l = c.loop-most in
    elim c.loop-most-test.branch [
      | then-loop-most-test+else-bytes-gt0 w ↦ closed l.sent.items _ _ (stopped l.most l.bytes (behind l.last all) (or_right (l.most == 0) (l.bytes == 0) (eq-eqb l.bytes 0 (omega (arith, w.if-bytes-gt0.false))))) l.invariant.whole
      | else-loop-most-test w ↦ closed l.sent.items _ _ (stopped l.most l.bytes (behind l.last all) (or_left (l.most == 0) (l.bytes == 0) (eq-eqb l.most 0 (omega (arith, w.loop-most-test.false))))) l.invariant.whole
      | then-loop-most-test+then-bytes-gt0+in_ok-local+in_default w ↦ closed l.sent.items _ _ (ap (first_items l.most l.bytes) (none_behind l.last all (sym w.in_ok-local.ensures.next ∙ w.in_default.is))) l.invariant.whole
    ]

left_at : (rows : List Held) (from : Mark) (asked : Cursors) (new old : List Last) (end last : ℕ) → last ≡ end → new ≡ old → AreBehind rows from asked last old → AreBehind rows from asked end new
left_at rows from asked new old end last number same behind = subst (λ n. AreBehind rows from asked n new) number (subst (AreBehind rows from asked last) (sym same) behind)

pub returns-clause-left : goal.returns-clause-left
returns-clause-left c =
    let l = c.loop-most in
    let rows = c.args.rows.now in
    let from = c.args.from in
    let asked = c.args.asked.now in
    elim c.loop-most-test.branch [
      | then-loop-most-test+else-bytes-gt0 w ↦ left_at rows from asked _ l.walk _ _ l.invariant.end w.walk-is l.invariant.left
      | else-loop-most-test w ↦ left_at rows from asked _ l.walk _ _ l.invariant.end w.walk-is l.invariant.left
      | then-loop-most-test+then-bytes-gt0+in_ok-local+in_default w ↦
          left_at rows from asked _ w.next_candidate.new.walk _ _ l.invariant.end w.walk-is
          (subst (λ o. AreBehind rows from asked (number_after l.last o) w.next_candidate.new.walk) w.in_default.is w.in_ok-local.ensures.left)
    ]
