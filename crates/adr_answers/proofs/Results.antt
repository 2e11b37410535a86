-- What is said of an `Err` alone.
use Rattle.std.specs.Prelude.{Result, Ok, Err, OnErr}

pub on_err : {X Y P : Type 0} (r : Result X Y) → P → OnErr r P
on_err (Ok x) p = tt
on_err (Err e) p = p
