-- The tokens of the text of data whose numbers are whole and within 63 bits.
use Rattle.std.proofs.Common.{◌≡◌, ◌<◌, ◌^◌, ℤ, pos, negsuc, refl, sym, ap, subst, ◌∙◌}
use Rattle.std.specs.Fmt.{signed_decimal}
use Rattle.std.specs.Int.Signed.{mag}
use Rattle.json.specs.Lex.{tokens}
use Rattle.json.specs.Print.{IsNumber}
use Rattle.json.specs.Tree.{json_tokens, HasNumbers, ItemsHaveNumbers, MembersHaveNumbers}
use Rattle.json.proofs.Printed.Decimals.{IsNumber-signed_decimal}
use Rattle.json.proofs.Printed.Tokens.{tokens-print}
use Rattle.json.proofs.Printed.Trees.{ArePrintable-json_tokens}
use Rattle.serde_json.specs.Data.{Num, Data, null, boolean, number, string, array, object, Items, no_items, item, Members, no_members, member}
use Rattle.serde_json.specs.Find.{of_integer}
use Rattle.serde_json.specs.Written.{compact_text, number_text, outline, items_outline, members_outline}
use Rattle.serde_json.proofs.Texts.{print-outline}
use Rattle.adr_json.proofs.Numbers.{AllNumbers, AllOfItems, AllOfMembers}

-- a number of 63 bits and a sign
abbrev pub IsSmall : Num → Type 0
IsSmall n = (z : ℤ) × (n ≡ of_integer z) × (mag z < 2 ^ 63)

of_integer_text : (z : ℤ) → number_text (of_integer z) ≡ signed_decimal z
of_integer_text (pos n) = refl
of_integer_text (negsuc n) = refl

small_text : (n : Num) (h : IsSmall n) → number_text n ≡ signed_decimal h.0
small_text n h = ap number_text h.1 ∙ of_integer_text h.0

small_number : (n : Num) → IsSmall n → IsNumber (number_text n)
small_number n h = subst IsNumber (sym (small_text n h)) (IsNumber-signed_decimal h.0 h.2)

-- the numbers of the JSON are numbers
mutual
  numbers : (d : Data) → AllNumbers IsSmall d → HasNumbers (outline d)
  numbers null h = tt
  numbers (boolean b) h = tt
  numbers (number n) h = small_number n h
  numbers (string s) h = tt
  numbers (array ds) h = numbers_in_items ds h
  numbers (object ms) h = numbers_in_members ms h

  numbers_in_items : (ds : Items) → AllOfItems IsSmall ds → ItemsHaveNumbers (items_outline ds)
  numbers_in_items no_items h = tt
  numbers_in_items (item d ds) h = (numbers d h.0, numbers_in_items ds h.1)

  numbers_in_members : (ms : Members) → AllOfMembers IsSmall ms → MembersHaveNumbers (members_outline ms)
  numbers_in_members no_members h = tt
  numbers_in_members (member k d ms) h = (numbers d h.0, numbers_in_members ms h.1)

-- what is read of the text, token by token
pub lexed : (d : Data) → AllNumbers IsSmall d → tokens (compact_text d) ≡ json_tokens (outline d)
lexed d h = ap tokens (sym (print-outline d)) ∙ tokens-print (json_tokens (outline d)) (ArePrintable-json_tokens (outline d) (numbers d h))
