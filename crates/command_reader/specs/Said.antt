-- What a line says, as its tokens come.
use Rattle.std.specs.Prelude.{◌≡◌, ◌∷◌, ◌<◌, ℕ, List, length, Option, Some, None, codes, option_map}
use Rattle.json.specs.Json.{read_key}
use Rattle.json.specs.Token.{Token}
use Rattle.serde_json.specs.Data.{Data, null, number, string, object, Members, no_members, unsigned}
use Rattle.serde_json.specs.Read.{max_depth, number_of}
use Rattle.tree_reader.specs.Said.{IsOpen, perhaps}
use Rattle.command_reader.specs.declared.keys.Key.{Key}
use Rattle.command_reader.specs.declared.keys.Key.TheVariants as keys
use Rattle.command_reader.specs.declared.keys.Op.{Op}
use Rattle.command_reader.specs.declared.keys.Op.TheVariants as ops
use Rattle.command_reader.specs.declared.said.Said.{Said}

-- ---- the words

-- the name of a key; the end has none
abbrev pub text_of : Key → Option (List ℕ)
text_of keys.Op = Some (codes "op")
text_of keys.Node = Some (codes "node")
text_of keys.Name = Some (codes "name")
text_of keys.Text = Some (codes "text")
text_of keys.Value = Some (codes "value")
text_of keys.End = None

-- what stands under `op`
abbrev pub word_of : Op → List ℕ
word_of ops.Show = codes "show"
word_of ops.Text = codes "text"
word_of ops.Attr = codes "attr"
word_of ops.Remove = codes "remove"

-- ---- a line as an object

-- what stands under `value`: a text, or null
abbrev pub text_or_null : Option (List ℕ) → Data
text_or_null None = null
text_or_null (Some text) = string text

-- the members of a line that says this, in the order of their keys
abbrev pub members_of : Option (List ℕ) → Option ℕ → Option Op → Option (List ℕ)
    → Option (Option (List ℕ)) → Members
members_of name node op text value =
    perhaps (codes "name") (option_map string name)
    (perhaps (codes "node") (option_map (λ n. number (unsigned n)) node)
    (perhaps (codes "op") (option_map (λ o. string (word_of o)) op)
    (perhaps (codes "text") (option_map string text)
    (perhaps (codes "value") (option_map text_or_null value) no_members))))

abbrev pub members_said : Said → Members
members_said said = members_of said.name said.node said.op said.text said.value

-- its value
abbrev pub line_of : Said → Data
line_of said = object (members_said said)

-- ---- what comes next

-- digits come next that are this number
pub record SaysNumber (before : List Token) (n : ℕ) (after : List Token) : Type 0 where
  pub digits : List ℕ
  pub next : before ≡ Token.number digits ∷ after
  pub is : number_of digits ≡ Some (unsigned n)

-- the token of a text, or of null
abbrev pub token_for : Option (List ℕ) → Token
token_for None = Token.null
token_for (Some text) = Token.string text

-- the member of a key isn't there yet
abbrev pub IsUnsaid : Key → Said → Type 0
IsUnsaid keys.Op said = said.op ≡ None
IsUnsaid keys.Node said = said.node ≡ None
IsUnsaid keys.Name said = said.name ≡ None
IsUnsaid keys.Text said = said.text ≡ None
IsUnsaid keys.Value said = said.value ≡ None
IsUnsaid keys.End said = Unit {0}

-- one member more, whose key is read: a line of which so much was said says more now
pub record SaysMore (key : Key) (here : List Token) (old : Said) (rest : List Token)
    (new : Said) : Type 0 where
  pub shorter : length rest < length here
  pub goes : (before ahead : List Token) → IsOpen max_depth before (members_said old) ahead
      → read_key ahead ≡ Some (text_of key, here)
      → IsOpen max_depth before (members_said new) rest
