-- An array that is read item by item.
use Rattle.std.proofs.Common.{◌≡◌, ◌∙◌, refl, sym, ap, ℕ, ◌+◌, ◌-◌, ◌<◌, ◌≤◌, List, [], ◌∷◌, ◌++◌, length, Option, Some, None, option_map, arith}
use Rattle.json.specs.Json.{Json, after_end_array, items, parse_map, value}
use Rattle.json.specs.Json as json
use Rattle.json.specs.Token.{Token}
use Rattle.json.proofs.Grammar.{items_end, items_more, value-begin_array}
use Rattle.serde_json.specs.Data.{Data, Items, no_items, item, array}
use Rattle.serde_json.specs.Read.{converted, of_items, of_json}
use Rattle.tree_json.specs.Elements.{listed_items}
use Rattle.tree_reader.proofs.Members.{gave}

-- items behind those of a list
abbrev pub joined : List Data → Items → Items
joined [] rest = rest
joined (given ∷ list) rest = item given (joined list rest)

abbrev pub behind : List Data → json.Items → Option Data
behind list js = option_map (λ rest. array (joined list rest)) (of_items js)

one_behind : (list : List Data) (given : Data) (rest : Items) → joined (list ++ given ∷ []) rest ≡ joined list (item given rest)
one_behind [] given rest = refl
one_behind (first ∷ list) given rest = ap (item first) (one_behind list given rest)

pub listed_joined : (list : List Data) → listed_items (joined list no_items) ≡ list
listed_joined [] = refl
listed_joined (given ∷ list) = ap (◌∷◌ given) (listed_joined list)

-- an array that began at some tokens: these items were found, and the rest goes on here
pub record IsOpenArray (depth : ℕ) (before : List Token) (list : List Data) (now : List Token) : Type 0 where
  pub turns : ℕ
  pub enough : length now ≤ turns
  pub shorter : length now < length before
  pub same : converted of_json (value (depth + 1) before) ≡ converted (behind list) (items (value depth) turns now)

array_of : (reading : Option (json.Items × List Token)) → converted of_json (parse_map json.array reading) ≡ converted (behind []) reading
array_of None = refl
array_of (Some read) = refl

pub array_opened : (depth : ℕ) (before now : List Token) → before ≡ Token.begin_array ∷ now → IsOpenArray depth before [] now
array_opened depth before now is =
    let some : 0 < depth + 1 = omega arith in
    let less : depth + 1 - 1 ≡ depth = omega arith in
    record {
      turns = length now;
      enough = omega arith;
      shorter = omega (arith, ap length is);
      same =
          ap (λ ts. converted of_json (value (depth + 1) ts)) is
          ∙ ap (converted of_json) (value-begin_array (depth + 1) now some ∙ ap (λ d. parse_map json.array (items (value d) (length now) now)) less)
          ∙ array_of (items (value depth) (length now) now);
    }

-- one more among those behind a list
found_one : (list : List Data) (given : Data) (rest : List Token) (others : Option Items)
    → option_map {U = Data × List Token} (λ b. (b, rest)) (option_map (λ more. array (joined list more)) (option_map (item given) others))
    ≡ option_map (λ b. (b, rest)) (option_map (λ more. array (joined (list ++ given ∷ []) more)) others)
found_one list given rest None = refl
found_one list given rest (Some others) = ap (λ all. Some (array all, rest)) (sym (one_behind list given others))

added_item : (list : List Data) (inside : Json) (given : Data) → of_json inside ≡ Some given → (others : Option (json.Items × List Token))
    → converted (behind list) (parse_map (json.item inside) others) ≡ converted (behind (list ++ given ∷ [])) others
added_item list inside given is None = refl
added_item list inside given is (Some others) = rw is (found_one list given others.1 (of_items others.0))

pub array_more : (depth : ℕ) (before now rest : List Token) (list : List Data) (given : Data)
    → IsOpenArray depth before list now → after_end_array now ≡ None
    → converted of_json (value depth now) ≡ Some (given, rest) → length rest < length now
    → IsOpenArray depth before (list ++ given ∷ []) rest
array_more depth before now rest list given begun goes_on read less =
    let r = gave of_json (value depth now) given rest read in
    let enough = begun.enough in
    let some : 0 < begun.turns = omega (arith, enough, less) in
    record {
      turns = begun.turns - 1;
      enough = omega (arith, enough, less);
      shorter = omega (arith, less, begun.shorter);
      same = begun.same ∙ ap (converted (behind list)) (items_more (value depth) begun.turns now rest r.item some goes_on r.read_is) ∙ added_item list r.item given r.is _;
    }

pub array_ended : (depth : ℕ) (before now rest : List Token) (list : List Data) → IsOpenArray depth before list now
    → after_end_array now ≡ Some rest → converted of_json (value (depth + 1) before) ≡ Some (array (joined list no_items), rest)
array_ended depth before now rest list begun end =
    begun.same ∙ ap (converted (behind list)) (items_end (value depth) begun.turns now rest begun.enough end)
