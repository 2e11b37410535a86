-- Small directories, and their texts.
use Rattle.std.specs.Prelude.{ℕ, List, [], ◌∷◌, ◌++◌, codes, true, negsuc}
use Rattle.std.specs.Int.{w128, to_be_bytes}
use Rattle.adr_values.specs.declared.content.Value.TheVariants.{Text, Number, Flag, Octets, Ref}
use Rattle.adr_call.specs.declared.directory.Entry.{Entry}

-- the identifier of a number
abbrev pub numbered : ℕ → List ℕ
numbered n = to_be_bytes w128 n

-- a container under the root
abbrev pub one_container : List Entry
one_container = record { guid = numbered 16; class = 4; parent = numbered 1; name = codes "x"; values = []; links = [] } ∷ []

abbrev pub one_container_text : List ℕ
one_container_text =
    codes "[{\"class\":\"container\",\"guid\":\"00000000-0000-0000-0000-000000000010\",\"links\":{},\"name\":\"x\","
    ++ codes "\"parent\":\"00000000-0000-0000-0000-000000000001\",\"values\":{}}]"

-- a user with a value of each syntax, a link, and a class and an attribute that have no name; names go by their bytes, not by their numbers
abbrev pub two_objects : List Entry
two_objects =
    record {
      guid = numbered 17;
      class = 5;
      parent = numbered 1;
      name = codes "a\"b";
      values = (10, Text (codes "ann") ∷ []) ∷ (12, Text (codes "x") ∷ Text (codes "y") ∷ []) ∷ (15, Number (negsuc 6) ∷ []) ∷ (16, Flag true ∷ [])
          ∷ (17, Octets (10 ∷ 255 ∷ []) ∷ []) ∷ (18, Ref (numbered 16) ∷ []) ∷ (40, []) ∷ [];
      links = (31, numbered 18 ∷ []) ∷ [];
    }
    ∷ record { guid = numbered 18; class = 99; parent = numbered 16; name = codes "y"; values = []; links = (30, numbered 17 ∷ []) ∷ [] } ∷ []

abbrev pub two_objects_text : List ℕ
two_objects_text =
    codes "[{\"class\":\"user\",\"guid\":\"00000000-0000-0000-0000-000000000011\","
    ++ codes "\"links\":{\"memberOf\":[\"00000000-0000-0000-0000-000000000012\"]},"
    ++ codes "\"name\":\"a\\\"b\",\"parent\":\"00000000-0000-0000-0000-000000000001\","
    ++ codes "\"values\":{\"%40\":[],\"description\":[\"x\",\"y\"],\"disabled\":[true],\"employeeNumber\":[-7],"
    ++ codes "\"sAMAccountName\":[\"ann\"],\"seeAlso\":[\"00000000-0000-0000-0000-000000000010\"],\"thumbprint\":[\"0aff\"]}},"
    ++ codes "{\"class\":\"%99\",\"guid\":\"00000000-0000-0000-0000-000000000012\","
    ++ codes "\"links\":{\"member\":[\"00000000-0000-0000-0000-000000000011\"]},"
    ++ codes "\"name\":\"y\",\"parent\":\"00000000-0000-0000-0000-000000000010\",\"values\":{}}]"
