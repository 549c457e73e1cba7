-- Members that are read one after another, and the object that they are.
use Rattle.std.proofs.Common.{◌≡◌, ◌∙◌, refl, ap, ℕ, ◌-◌, ◌<◌, ◌≤◌, List, [], length, Option, Some, None, option_map}
use Rattle.std.proofs.lemmas.Option.{none-some, same_Some}
use Rattle.json.specs.Json.{Json, Parse, members, parse_map, read_key}
use Rattle.json.specs.Json as json
use Rattle.json.specs.Lex.{tokens}
use Rattle.json.specs.Token.{Token}
use Rattle.json.proofs.Grammar.{members_end, members_more}
use Rattle.serde_json.specs.Data.{Data, Members, no_members, object, put}
use Rattle.serde_json.specs.Read.{converted, of_json, of_members, read}

-- a reading that gave something: what the grammar read, and what that is
pub record Gave {A B : Type 0} (f : A → Option B) (reading : Option (A × List Token)) (given : B) (rest : List Token) : Type 0 where
  pub item : A
  pub read_is : reading ≡ Some (item, rest)
  pub is : f item ≡ Some given

module _ {A B : Type 0} (f : A → Option B) where
  pub gave : (reading : Option (A × List Token)) (given : B) (rest : List Token) → converted f reading ≡ Some (given, rest) → Gave f reading given rest
  gave None given rest e = absurd (none-some _ e)
  gave (Some shown) given rest e = by (f shown.0) refl e
    where
      by : (found : Option B) → f shown.0 ≡ found → option_map {U = B × List Token} (λ b. (b, shown.1)) found ≡ Some (given, rest) → Gave f (Some shown) given rest
      by None is e = absurd (none-some _ e)
      by (Some b) is e =
          let both = same_Some (b, shown.1) (given, rest) e in
          record {
            item = shown.0;
            read_is = ap (λ p. Some (shown.0, p.1)) both;
            is = is ∙ ap (λ p. Some p.0) both;
          }

-- one member more
added : (name : List ℕ) (inside : Json) (given : Data) (old : Members) → of_json inside ≡ Some given → (others : Option (json.Members × List Token))
    → converted (λ ms. of_members ms old) (parse_map (json.member name inside) others) ≡ converted (λ ms. of_members ms (put name given old)) others
added name inside given old is None = refl
added name inside given old is (Some others) = rw is

module _ (value : Parse Json) (old : Members) where
  pub one_read : (turns : ℕ) (name : List ℕ) (ts named rest : List Token) (given : Data) → 0 < turns → read_key ts ≡ Some (Some name, named)
      → converted of_json (value named) ≡ Some (given, rest)
      → converted (λ ms. of_members ms old) (members value turns ts) ≡ converted (λ ms. of_members ms (put name given old)) (members value (turns - 1) rest)
  one_read turns name ts named rest given some key e =
      let r = gave of_json (value named) given rest e in
      ap (converted (λ ms. of_members ms old)) (members_more value turns name ts named rest r.item some key r.read_is) ∙ added name r.item given old r.is _

  pub all_read : (turns : ℕ) (ts rest : List Token) → length ts ≤ turns → read_key ts ≡ Some (None, rest)
      → converted (λ ms. of_members ms old) (members value turns ts) ≡ Some (old, rest)
  all_read turns ts rest enough end = ap (converted (λ ms. of_members ms old)) (members_end value turns ts rest enough end)

-- the members of an object, and the object
pub of_object : (inside : Option (json.Members × List Token)) (given : Members) (rest : List Token)
    → converted (λ ms. of_members ms no_members) inside ≡ Some (given, rest) → converted of_json (parse_map json.object inside) ≡ Some (object given, rest)
of_object inside given rest e =
    let r = gave (λ ms. of_members ms no_members) inside given rest e in
    ap (λ i. converted of_json (parse_map json.object i)) r.read_is ∙ ap (λ o. option_map (λ d. (d, rest)) (option_map object o)) r.is

-- a text of which nothing is left
pub whole_text : (text : List ℕ) (given : Data) → converted of_json (json.value 127 (tokens text)) ≡ Some (given, []) → read text ≡ Some given
whole_text text given e =
    let r = gave of_json (json.value 127 (tokens text)) given [] e in
    rw (r.read_is) r.is
