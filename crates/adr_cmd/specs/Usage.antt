-- What is written where the words are no command.
use Rattle.std.specs.Prelude.{ℕ, List, codes}

unfoldable pub usage_line : List ℕ
usage_line = codes "usage: adrep replay | exercise N | create NAME | install NAME | restore NAME DSA | backup NAME | show NAME | export NAME | serve NAME PORT COUNT | pull NAME PORT | send PORT\n"
