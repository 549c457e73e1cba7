-- An object that is read member by member.
use Rattle.std.proofs.Common.{◌≡◌, ◌∙◌, refl, ap, ℕ, ◌-◌, ◌<◌, List, ◌∷◌, length, Option, Some, None, option_map, arith}
use Rattle.json.specs.Json.{Json, members, parse_map, read_key, value}
use Rattle.json.specs.Json as json
use Rattle.json.specs.Token.{Token}
use Rattle.json.proofs.Grammar.{members_end, members_more, read_key-shorter, value-begin_object, value_is}
use Rattle.serde_json.specs.Data.{Data, Members, no_members, object, put, string}
use Rattle.serde_json.specs.Read.{converted, of_json, of_members}
use Rattle.tree_reader.specs.Said.{IsOpen}
use Rattle.tree_reader.proofs.Members.{gave}

abbrev whole : Members → json.Members → Option Data
whole found ms = option_map object (of_members ms found)

-- an object of its members
object_of : (reading : Option (json.Members × List Token)) → converted of_json (parse_map json.object reading) ≡ converted (whole no_members) reading
object_of None = refl
object_of (Some read) = refl

pub opened : (depth : ℕ) (before now : List Token) → 0 < depth → before ≡ Token.begin_object ∷ now → IsOpen depth before no_members now
opened depth before now some is = record {
  turns = length now;
  enough = omega arith;
  shorter = omega (arith, ap length is);
  same = ap (λ ts. converted of_json (value depth ts)) is ∙ ap (converted of_json) (value-begin_object depth now some) ∙ object_of (members (value (depth - 1)) (length now) now);
}

-- one member more
added : (name : List ℕ) (inside : Json) (given : Data) (old : Members) → of_json inside ≡ Some given → (others : Option (json.Members × List Token))
    → converted (whole old) (parse_map (json.member name inside) others) ≡ converted (whole (put name given old)) others
added name inside given old is None = refl
added name inside given old is (Some others) = rw is refl

pub more : (depth : ℕ) (before now named rest : List Token) (found : Members) (name : List ℕ) (given : Data)
    → IsOpen depth before found now → read_key now ≡ Some (Some name, named)
    → converted of_json (value (depth - 1) named) ≡ Some (given, rest) → length rest < length named
    → IsOpen depth before (put name given found) rest
more depth before now named rest found name given begun key read less =
    let r = gave of_json (value (depth - 1) named) given rest read in
    let lesser = read_key-shorter now (Some name) named key in
    let enough = begun.enough in
    let some : 0 < begun.turns = omega (arith, enough, lesser) in
    record {
      turns = begun.turns - 1;
      enough = omega (arith, enough, lesser, less);
      shorter = omega (arith, lesser, less, begun.shorter);
      same = begun.same ∙ ap (converted (whole found)) (members_more (value (depth - 1)) begun.turns name now named rest r.item some key r.read_is) ∙ added name r.item given found r.is _;
    }

pub ended : (depth : ℕ) (before now rest : List Token) (found : Members) → IsOpen depth before found now → read_key now ≡ Some (None, rest)
    → converted of_json (value depth before) ≡ Some (object found, rest)
ended depth before now rest found begun end =
    begun.same ∙ ap (converted (whole found)) (members_end (value (depth - 1)) begun.turns now rest begun.enough end)

-- ---- a text

pub text_read : (depth : ℕ) (here rest : List Token) (text : List ℕ) → here ≡ Token.string text ∷ rest
    → converted of_json (value depth here) ≡ Some (string text, rest)
text_read depth here rest text is = ap (converted of_json) (ap (value depth) is ∙ value_is depth (Token.string text ∷ rest))
