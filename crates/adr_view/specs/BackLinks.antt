-- The back link of a forward link has the number after it, which has to be one.
use Rattle.std.specs.Prelude.{List, Bool, true, nat_lt}
use Rattle.std.specs.List.{list_all}
use Rattle.adr_model.specs.Update.{Key, RowOf, LinkOf, Update}

-- there is a number after that of a link's attribute
abbrev pub has_back_link : Key → Bool
has_back_link (RowOf o attr) = true
has_back_link (LinkOf l) = nat_lt l.attr 65535

abbrev pub have_back_links : List Update → Bool
have_back_links us = list_all (λ u. has_back_link u.key) us
