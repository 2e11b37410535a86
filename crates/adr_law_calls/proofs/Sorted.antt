-- Rows that rise by their keys, and some of them.
use Rattle.std.proofs.Common.{◌≡◌, List, Bool, true, false, cond, map, filter}
use Rattle.std.specs.List.Sorted.{IsStrictlySortedBy}
use Rattle.adr_model.specs.Member.{Each}
use Rattle.adr_model.specs.Update.{Key, Update, key_order, deleted_attr}
use Rattle.adr_model.specs.Take.{is_reserved_row, has_row, left_by_death}
use Rattle.adr_model.proofs.Keys.{keys_total}
use Rattle.adr_law_knowledge.proofs.Counting.{rises_from, one_of_each, filtered_rise as some_rise}

abbrev pub keys : List Update → List Key
keys us = map (λ (u : Update). u.key) us

pub filtered_rise : (test : Update → Bool) (us : List Update) → IsStrictlySortedBy key_order (keys us)
    → IsStrictlySortedBy key_order (keys (filter test us))
filtered_rise test us rising = some_rise key_order (λ (u : Update). u.key) test us rising

pub left_rise : (us : List Update) → IsStrictlySortedBy key_order (keys us)
    → IsStrictlySortedBy key_order (keys (left_by_death us))
left_rise us rising = by (has_row deleted_attr us)
  where
    by : (b : Bool)
        → IsStrictlySortedBy key_order (keys (cond b (filter (λ (u : Update). is_reserved_row u.key) us) us))
    by true = filtered_rise (λ (u : Update). is_reserved_row u.key) us rising
    by false = rising

pub one_of_key : (us : List Update) → IsStrictlySortedBy key_order (keys us)
    → Each (λ u. Each (λ v. u.key ≡ v.key → u ≡ v) us) us
one_of_key us rising = one_of_each key_order keys_total (λ (u : Update). u.key) us
    (rises_from key_order (keys us) rising)
