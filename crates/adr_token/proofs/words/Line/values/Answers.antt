use Rattle.std.proofs.Common.{◌≡◌, ◌+◌, ◌<◌, ◌≤◌, List, ◌++◌, ◌∷◌, [], length, Some, None, true, false, sym, ap, ◌∙◌, arith, length-append}
use Rattle.adr_values.specs.declared.content.Value.{Value as Item}
use Rattle.adr_token.specs.Words.{strip_byte}
use Rattle.adr_token.specs.Texts.{ends_word}
use Rattle.adr_token.specs.Values.{values_at}
use Rattle.adr_token.proofs.ValuesLemmas.{comma_shorter, last_read, one_read, shorter}
use Rattle.adr_token.proofs.words.Line.values.Goals as goal

pub values-smaller : goal.values-smaller
values-smaller c =
    let value = shorter c.values.self c.value.new.self c.in_ok-value.field-0 c.in_ok-value.ensures in
    let comma = comma_shorter c.rest-in-values.result.now c.in-Some.more.now c.in-Some.ensures in
    let rest : length c.rest-in-values.result.now ≡ length c.value.new.self = ap length c.rest-in-values.ensures in
    let more : length c.go_on.new.self ≡ length c.in-Some.more.now = ap length c.go_on.ensures in
    let smaller : length c.go_on.new.self < length c.values.self = omega arith in
    smaller

pub values-preserved : goal.values-preserved
values-preserved c =
    let front = c.values.values.items in
    let comma : strip_byte 44 c.value.new.self ≡ Some c.in-Some.more.now = ap (strip_byte 44) (sym c.rest-in-values.ensures) ∙ c.in-Some.ensures in
    let value = shorter c.values.self c.value.new.self c.in_ok-value.field-0 c.in_ok-value.ensures in
    let less = comma_shorter c.value.new.self c.in-Some.more.now comma in
    let fewer = c.values.invariant.fewer in
    let pushed : length (front ++ c.in_ok-value.field-0 ∷ []) ≡ length front + 1 = length-append front (c.in_ok-value.field-0 ∷ []) in
    let room : length c.in-Some.more.now + length (front ++ c.in_ok-value.field-0 ∷ []) ≤ length c.args.self.now = omega arith in
    rw (c.in_ok-push.ensures.items, c.go_on.ensures) (record {
      fewer = room;
      same =
          one_read (length c.args.self.now) c.values.self c.value.new.self c.in-Some.more.now front c.in_ok-value.field-0 c.in_ok-value.ensures comma fewer
          ∙ c.values.invariant.same;
    })

pub returns-then-ends_word-2-clause-values : goal.returns-then-ends_word-2-clause-values
unfolding values_at
returns-then-ends_word-2-clause-values c =
    let start : ends_word c.args.self.now ≡ false = cc in
    let none : strip_byte 44 c.value.new.self ≡ None = ap (strip_byte 44) (sym c.rest-in-values.ensures) ∙ c.in-None.ensures in
    let ends : ends_word c.value.new.self ≡ true = cc in
    let fewer = c.values.invariant.fewer in
    rw start (
    sym c.values.invariant.same
    ∙ last_read (length c.args.self.now) c.values.self c.value.new.self c.values.values.items c.in_ok-value.field-0 c.in_ok-value.ensures none ends fewer
    ∙ ap (λ (vs : List Item). Some (vs, c.value.new.self)) (sym c.in_ok-push.ensures.items)
    )
