-- A schema as its number stands for it.
use Rattle.std.specs.Prelude.{ℕ, nat_le, if◌then◌else◌}
use Rattle.adr_values.specs.Table.{Table}
use Rattle.adr_values.specs.Schemas.{schema_1, schema_2}

-- the schema of a number that there is; a greater number never allows less
abbrev pub numbered : ℕ → Table
numbered number = if nat_le number 1 then schema_1 else schema_2
