use Rattle.std.proofs.Common.{◌≡◌, ◌+◌, ◌++◌, ℕ, List, Some, drop, length, sym, ap, subst, ◌∙◌, arith, Bor}
use Rattle.std.specs.Prelude.{All}
use Rattle.std.proofs.lemmas.List.{drop-drop, length-drop}
use Rattle.std.proofs.lemmas.List.Elements.{All-drop}
use Rattle.adr_model.specs.Store.{Held}
use Rattle.adr_update.specs.Referents.{referents}
use Rattle.adr_update.proofs.Referred.{length_referents}
use Rattle.adr_image.specs.Written.{HaveFewRows, IsShortSaid, first_object, next_object, own_rows}
use Rattle.adr_image.proofs.Writing.{few_behind, goes, ends, falls, referents_drop, rest_is}
use Rattle.adr_image.proofs.encoding.write_objects.Goals as goal

pub objects-smaller : goal.objects-smaller
objects-smaller c =
    let n = c.objects.done in
    let xs = c.args.rows.now in
    let o = c.in-Some.object in
    let rest = referents (drop n xs) in
    let first : first_object rest ≡ Some o = ap (λ (ys : List (Bor Held)). first_object (referents ys)) (sym (rest_is n xs)) ∙ sym c.in-Some.ensures in
    let own = c.in_ok-done.ensures.own ∙ ap (λ (ys : List (Bor Held)). own_rows o (referents ys)) (rest_is n xs) in
    let fewer = falls rest o first in
    omega (arith, fewer, own, length-drop (own_rows o rest) rest, length_referents (drop n xs), length-drop n xs)

pub objects-preserved : goal.objects-preserved
objects-preserved c =
    let n = c.objects.done in
    let xs = c.args.rows.now in
    let o = c.in-Some.object in
    let m = c.in_ok-done.field-0 in
    let rest = referents (drop n xs) in
    let first : first_object rest ≡ Some o = ap (λ (ys : List (Bor Held)). first_object (referents ys)) (sym (rest_is n xs)) ∙ sym c.in-Some.ensures in
    let own = c.in_ok-done.ensures.own ∙ ap (λ (ys : List (Bor Held)). own_rows o (referents ys)) (rest_is n xs) in
    let behind : referents (drop (n + m) xs) ≡ drop (own_rows o rest) rest = ap referents (sym (drop-drop m n xs)) ∙ referents_drop m (drop n xs) ∙ ap (λ (k : ℕ). drop k rest) own in
    let written = c.in_ok-done.ensures.written ∙ ap (λ (ys : List (Bor Held)). c.objects.writer ++ next_object o (referents ys)) (rest_is n xs) in
    record {
      within = (let here = ap (λ (ys : List (Bor Held)). length ys) (rest_is n xs) in omega (arith, c.in_ok-done.ensures.within, here, length-drop n xs, c.objects.invariant.within));
      few = subst HaveFewRows (sym behind) (few_behind (own_rows o rest) rest c.objects.invariant.few);
      short = subst (All (λ (h : Bor Held). IsShortSaid h.now.update.said)) (drop-drop m n xs) (All-drop (λ (h : Bor Held). IsShortSaid h.now.update.said) m (drop n xs) c.objects.invariant.short);
      way = λ os ls tidy e. goes os ls c.args.writer.now c.objects.writer c.write_next_object.new.writer rest (referents (drop (n + m) xs)) o first written behind (c.objects.invariant.way os ls tidy e);
    }

pub returns-clause-written : goal.returns-clause-written
returns-clause-written c = λ os ls tidy e.
    ends os ls c.args.writer.now c.objects.writer (referents (drop c.objects.done c.args.rows.now))
    (ap (λ (ys : List (Bor Held)). first_object (referents ys)) (sym (rest_is c.objects.done c.args.rows.now)) ∙ sym c.in_default.ensures)
    (c.objects.invariant.way os ls tidy e)
