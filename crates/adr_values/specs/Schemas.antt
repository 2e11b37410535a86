-- The schemas that there are.
use Rattle.std.specs.Prelude.{ℕ, List, [], ◌∷◌, ◌==◌, if◌then◌else◌, Option, Some, None, codes, pos, negsuc}
use Rattle.adr_values.specs.declared.table.Kind.{Kind}
use Rattle.adr_values.specs.declared.table.Kind.TheVariants.{Reserved, Plain, Forward, Back}
use Rattle.adr_values.specs.declared.table.Syntax.TheVariants.{Text, Number, Flag, Octets, Ref}
use Rattle.adr_values.specs.Table.{Class, Attribute, Table}

abbrev class : ℕ → List ℕ → List ℕ → List ℕ → List ℕ → Class
class number name must may superiors = record {
  number = number;
  name = name;
  must = must;
  may = may;
  superiors = superiors;
}

abbrev attribute : ℕ → List ℕ → Kind → Attribute
attribute number name kind = record { number = number; name = name; kind = kind }

-- the attributes of both schemas, ahead of more: those with values, and those of links
abbrev first_attributes : List Attribute → List Attribute
first_attributes more =
    attribute 1 (codes "class") Reserved
    ∷ attribute 2 (codes "name") Reserved
    ∷ attribute 3 (codes "deleted") Reserved
    ∷ attribute 10 (codes "sAMAccountName") (Plain (Text 1 20) 1)
    ∷ attribute 11 (codes "displayName") (Plain (Text 1 256) 1)
    ∷ attribute 12 (codes "description") (Plain (Text 1 256) 8)
    ∷ attribute 13 (codes "mail") (Plain (Text 1 256) 1)
    ∷ attribute 14 (codes "telephoneNumber") (Plain (Text 1 64) 8)
    ∷ attribute 15 (codes "employeeNumber") (Plain (Number (pos 0) (pos 999999999)) 1)
    ∷ attribute 16 (codes "disabled") (Plain Flag 1)
    ∷ attribute 17 (codes "thumbprint") (Plain (Octets 1 64) 4)
    ∷ attribute 18 (codes "seeAlso") (Plain Ref 8)
    ∷ attribute 19 (codes "groupType") (Plain (Number (negsuc 2147483647) (pos 2147483647)) 1)
    ∷ attribute 20 (codes "location") (Plain (Text 1 128) 1)
    ∷ more

abbrev first_links : List Attribute → List Attribute
first_links more =
    attribute 30 (codes "member") (Forward 31)
    ∷ attribute 31 (codes "memberOf") (Back 30)
    ∷ attribute 32 (codes "manager") (Forward 33)
    ∷ attribute 33 (codes "directReports") (Back 32)
    ∷ more

-- schema 1; as a superior the root is 1
unfoldable pub schema_1 : Table
schema_1 = record {
  number = 1;
  classes =
      class 3 (codes "organizationalUnit") [] (12 ∷ 18 ∷ 20 ∷ 32 ∷ []) (1 ∷ 3 ∷ [])
      ∷ class 4 (codes "container") [] (12 ∷ []) (1 ∷ 3 ∷ 4 ∷ [])
      ∷ class 5 (codes "user") (10 ∷ []) (11 ∷ 12 ∷ 13 ∷ 14 ∷ 15 ∷ 16 ∷ 17 ∷ 18 ∷ 32 ∷ []) (1 ∷ 3 ∷ 4 ∷ [])
      ∷ class 6 (codes "group") (19 ∷ []) (10 ∷ 12 ∷ 13 ∷ 18 ∷ 30 ∷ []) (1 ∷ 3 ∷ 4 ∷ [])
      ∷ class 7 (codes "computer") (10 ∷ []) (12 ∷ 16 ∷ 17 ∷ 20 ∷ []) (1 ∷ 3 ∷ 4 ∷ [])
      ∷ [];
  attributes = first_attributes (first_links []);
}

-- schema 2: all of schema 1, one class more, and some attributes more
unfoldable pub schema_2 : Table
schema_2 = record {
  number = 2;
  classes =
      class 3 (codes "organizationalUnit") [] (12 ∷ 18 ∷ 20 ∷ 32 ∷ 34 ∷ []) (1 ∷ 3 ∷ [])
      ∷ class 4 (codes "container") [] (12 ∷ []) (1 ∷ 3 ∷ 4 ∷ [])
      ∷ class 5 (codes "user") (10 ∷ []) (11 ∷ 12 ∷ 13 ∷ 14 ∷ 15 ∷ 16 ∷ 17 ∷ 18 ∷ 21 ∷ 22 ∷ 23 ∷ 32 ∷ []) (1 ∷ 3 ∷ 4 ∷ [])
      ∷ class 6 (codes "group") (19 ∷ []) (10 ∷ 12 ∷ 13 ∷ 18 ∷ 30 ∷ 34 ∷ []) (1 ∷ 3 ∷ 4 ∷ [])
      ∷ class 7 (codes "computer") (10 ∷ []) (12 ∷ 16 ∷ 17 ∷ 20 ∷ 34 ∷ []) (1 ∷ 3 ∷ 4 ∷ [])
      ∷ class 8 (codes "contact") [] (11 ∷ 12 ∷ 13 ∷ 14 ∷ 18 ∷ 21 ∷ 32 ∷ []) (1 ∷ 3 ∷ 4 ∷ [])
      ∷ [];
  attributes = first_attributes
      (attribute 21 (codes "title") (Plain (Text 1 128) 1)
      ∷ attribute 22 (codes "department") (Plain (Text 1 64) 1)
      ∷ attribute 23 (codes "accountExpires") (Plain (Number (pos 0) (pos 9223372036854775807)) 1)
      ∷ first_links
      (attribute 34 (codes "managedBy") (Forward 35)
      ∷ attribute 35 (codes "managedObjects") (Back 34)
      ∷ []));
}

-- the schema of a number
abbrev pub schema_table : ℕ → Option Table
schema_table number = if number == 1 then Some schema_1 else if number == 2 then Some schema_2 else None

-- the newest schema, by which links are paired, whatever schema a controller has
abbrev pub newest : Table
newest = schema_2

-- the schema that texts know: names are read and written by it, whatever schema a controller has
abbrev pub spoken : Table
spoken = schema_2
