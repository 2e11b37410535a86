use Rattle.std.proofs.Common.{◌≡◌, ◌+◌, ◌<◌, ℕ, List, [], ◌∷◌, ◌++◌, flat_map, length, get_or, take, ap, sym, subst, ◌∙◌, append_assoc, append-nil}
use Rattle.std.proofs.lemmas.Grind.{flat_map-append}
use Rattle.std.proofs.lemmas.List.{map-append, take_more}
use Rattle.adr_values.specs.Dated.{with_moments}
use Rattle.adr_values.specs.Vector.{Cursors, at}
use Rattle.adr_values.proofs.Walks.{Agrees, agrees_first, agrees_here, agrees_behind}
use Rattle.adr_answers.specs.Line.{dated_line}
use Rattle.adr_answers.proofs.knowledge.push_dated.Goals as goal

-- one cursor more
dated_more : (times cs : Cursors) (i : ℕ) (c : List ℕ × ℕ) → i < length cs → c ≡ get_or cs i c
    → flat_map dated_line (with_moments times (take i cs)) ++ dated_line (c, at times c.0) ≡ flat_map dated_line (with_moments times (take (i + 1) cs))
dated_more times cs i c lt is =
    ap (λ (bytes : List ℕ). flat_map dated_line (with_moments times (take i cs)) ++ bytes) (sym (append-nil (dated_line (c, at times c.0))))
    ∙ sym (flat_map-append dated_line (with_moments times (take i cs)) ((c, at times c.0) ∷ []))
    ∙ ap (flat_map dated_line) (sym (map-append (λ (d : List ℕ × ℕ). (d, at times d.0)) (take i cs) (c ∷ [])))
    ∙ ap (λ (some : Cursors). flat_map dated_line (with_moments times some)) (ap (λ (d : List ℕ × ℕ). take i cs ++ d ∷ []) is ∙ sym (take_more cs i c lt))

pub loop-cursor-init : goal.loop-cursor-init
loop-cursor-init c = record {
  written = sym (append-nil c.args.out.now.items);
  walked = subst (λ (walk : Cursors). Agrees walk c.args.times.now c.args.cursors.now) (sym c.walk-moments.ensures) (agrees_first c.args.times.now c.args.cursors.now);
}

pub loop-cursor-preserved : goal.loop-cursor-preserved
loop-cursor-preserved c =
    let cs = c.args.cursors.now in
    let i = c.loop-cursor.cursor-index in
    let here = c.cursor-item.result in
    let so_far = flat_map dated_line (with_moments c.args.times.now (take i cs)) in
    let moment : c.at.result ≡ at c.args.times.now here.0 = c.at.ensures.here ∙ agrees_here c.loop-cursor.moments c.args.times.now cs i here c.loop-cursor-test.true c.cursor-item.is c.loop-cursor.invariant.walked in
    record {
      written =
          c.in_ok-push_one_dated.ensures
          ∙ ap (λ (n : ℕ). c.loop-cursor.out.items ++ dated_line (here, n)) moment
          ∙ ap (λ (bytes : List ℕ). bytes ++ dated_line (here, at c.args.times.now here.0)) c.loop-cursor.invariant.written
          ∙ append_assoc c.args.out.now.items so_far (dated_line (here, at c.args.times.now here.0))
          ∙ ap (λ (bytes : List ℕ). c.args.out.now.items ++ bytes) (dated_more c.args.times.now cs i here c.loop-cursor-test.true c.cursor-item.is);
      walked = agrees_behind c.loop-cursor.moments c.args.times.now cs i here c.loop-cursor-test.true c.cursor-item.is c.loop-cursor.invariant.walked c.at.new.self c.requires.rising c.at.ensures.above;
    }
