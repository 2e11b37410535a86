-- Values that are read one after the other.
use Rattle.std.proofs.Common.{◌≡◌, ℕ, suc, ◌+◌, ◌-◌, ◌<◌, ◌≤◌, true, List, [], ◌∷◌, ◌++◌, length, Some, None, refl, ap, ◌∙◌, arith, length-append}
use Rattle.adr_values.specs.declared.content.Value.{Value as Item}
use Rattle.adr_token.specs.Words.{strip_byte}
use Rattle.adr_token.specs.Texts.{ends_word}
use Rattle.adr_token.specs.Values.{value_at, values_within}
use Rattle.adr_token.proofs.TextLaws.{strip_byte_was}
use Rattle.adr_token.proofs.TextLemmas.{onto, onto_push}
use Rattle.adr_token.proofs.ValueLaws.{value_begins, value_was}

-- a value takes a byte
pub shorter : (bytes after : List ℕ) (value : Item) → value_at bytes ≡ Some (value, after) → length after < length bytes
shorter bytes after value h =
    let was = value_was bytes value after h in
    let some : 0 < length was.0 = (value_begins value was.0 after was.1).0 in
    let long : length bytes ≡ length was.0 + length after = ap length was.2 ∙ length-append was.0 after in
    omega arith

-- so does a comma
pub comma_shorter : (after more : List ℕ) → strip_byte 44 after ≡ Some more → length more < length after
comma_shorter after more h = let long : length after ≡ suc (length more) = ap length (strip_byte_was 44 after more h) in omega arith

left_over : (n : ℕ) (bytes : List ℕ) (front : List Item) (value : Item) → 0 < length bytes → length bytes + length front ≤ n → n - length front ≡ suc (n - length (front ++ value ∷ []))
left_over n bytes front value some l = let long : length (front ++ value ∷ []) ≡ length front + 1 = length-append front (value ∷ []) in omega arith

-- a value before a comma goes to those that were read
pub one_read : (n : ℕ) (bytes after more : List ℕ) (front : List Item) (value : Item) → value_at bytes ≡ Some (value, after) → strip_byte 44 after ≡ Some more → length bytes + length front ≤ n
    → onto (front ++ value ∷ []) (values_within (n - length (front ++ value ∷ [])) more) ≡ onto front (values_within (n - length front) bytes)
one_read n bytes after more front value h c l =
    let fewer = shorter bytes after value h in
    let left : n - length front ≡ suc (n - length (front ++ value ∷ [])) = left_over n bytes front value (omega arith) l in
    rw (left, h, c) (onto_push front value (values_within (n - length (front ++ value ∷ [])) more))

-- a value that ends its word is the last
pub last_read : (n : ℕ) (bytes after : List ℕ) (front : List Item) (value : Item) → value_at bytes ≡ Some (value, after) → strip_byte 44 after ≡ None → ends_word after ≡ true → length bytes + length front ≤ n
    → onto front (values_within (n - length front) bytes) ≡ Some (front ++ value ∷ [], after)
last_read n bytes after front value h c e l =
    let fewer = shorter bytes after value h in
    let left : n - length front ≡ suc (n - length (front ++ value ∷ [])) = left_over n bytes front value (omega arith) l in
    rw (left, h, c, e) refl
