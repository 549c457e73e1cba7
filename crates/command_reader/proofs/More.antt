-- One member more of a line, key by key.
use Rattle.std.proofs.Common.{◌≡◌, ◌∙◌, sym, ap, subst, ℕ, ◌∷◌, ◌-◌, ◌<◌, List, length, Bool, true, false, is_some, Option, None, Some, codes, arith}
use Rattle.std.specs.Prelude.{IfSome}
use Rattle.json.specs.Json.{value}
use Rattle.json.specs.Token.{Token}
use Rattle.json.proofs.Grammar.{value_is}
use Rattle.serde_json.specs.Data.{Data, number, put, string, unsigned}
use Rattle.serde_json.specs.Read.{converted, max_depth, of_json}
use Rattle.std.proofs.Common.{option_map}
use Rattle.tree_reader.specs.Said.{IsOpen}
use Rattle.tree_reader.proofs.Open.{more, text_read}
use Rattle.command_reader.specs.Said.{SaysMore, SaysNumber, members_said, text_of, text_or_null, token_for, word_of}
use Rattle.command_reader.specs.declared.keys.Key.{Key}
use Rattle.command_reader.specs.declared.keys.Op.{Op}
use Rattle.command_reader.specs.declared.said.Said.{Said}
use Rattle.command_reader.proofs.Puts.{put_name, put_node, put_op, put_text, put_value}

abbrev Holds : Bool → Type 0
Holds true = Unit {0}
Holds false = ⊥

-- what is read behind the key goes in
module _ (key : Key) (here rest : List Token) (old new : Said) (named : List ℕ) (item : Data) where
  one_more : text_of key ≡ Some named → converted of_json (value (max_depth - 1) here) ≡ Some (item, rest)
      → length rest < length here → put named item (members_said old) ≡ members_said new → SaysMore key here old rest new
  one_more is read less same = record {
    shorter = less;
    goes = λ before ahead begun key_is.
        subst (λ all. IsOpen max_depth before all rest) same
        (more max_depth before ahead here rest (members_said old) named item begun (key_is ∙ ap (λ k. Some (k, here)) is) read less);
  }

-- a number, and a text or null
number_read : (depth : ℕ) (here rest : List Token) (n : ℕ) → SaysNumber here n rest → converted of_json (value depth here) ≡ Some (number (unsigned n), rest)
number_read depth here rest n says =
    ap (converted of_json) (ap (value depth) says.next ∙ value_is depth (Token.number says.digits ∷ rest))
    ∙ ap (λ found. option_map {U = Data × List Token} (λ d. (d, rest)) (option_map number found)) says.is

given_read : (depth : ℕ) (here rest : List Token) (given : Option (List ℕ)) → here ≡ token_for given ∷ rest → converted of_json (value depth here) ≡ Some (text_or_null given, rest)
given_read depth here rest None is = ap (converted of_json) (ap (value depth) is ∙ value_is depth (Token.null ∷ rest))
given_read depth here rest (Some text) is = text_read depth here rest text is

module _ (here rest : List Token) (old : Said) (key : Key) where
  pub op_more : (op : Option Op) → text_of key ≡ Some (codes "op") → old.op ≡ None
      → IfSome op (λ op. here ≡ Token.string (word_of op) ∷ rest) → is_some op ≡ true
      → SaysMore key here old rest (record { op = op; node = old.node; name = old.name; text = old.text; value = old.value })
  op_more None is none read given = absurd (subst Holds (sym given) tt)
  op_more (Some op) is none read given =
      one_more key here rest old (record { op = Some op; node = old.node; name = old.name; text = old.text; value = old.value }) (codes "op") (string (word_of op)) is
      (text_read (max_depth - 1) here rest (word_of op) read) (omega (arith, ap length read)) (rw none (put_op old.name old.node old.op old.text old.value op))

  pub node_more : (node : Option ℕ) → text_of key ≡ Some (codes "node") → old.node ≡ None
      → IfSome node (λ n. SaysNumber here n rest) → is_some node ≡ true
      → SaysMore key here old rest (record { op = old.op; node = node; name = old.name; text = old.text; value = old.value })
  node_more None is none read given = absurd (subst Holds (sym given) tt)
  node_more (Some node) is none read given =
      one_more key here rest old (record { op = old.op; node = Some node; name = old.name; text = old.text; value = old.value }) (codes "node") (number (unsigned node)) is
      (number_read (max_depth - 1) here rest node read) (omega (arith, ap length read.next)) (rw none (put_node old.name old.node old.op old.text old.value node))

  pub name_more : (name : Option (List ℕ)) → text_of key ≡ Some (codes "name") → old.name ≡ None
      → IfSome name (λ text. here ≡ Token.string text ∷ rest) → is_some name ≡ true
      → SaysMore key here old rest (record { op = old.op; node = old.node; name = name; text = old.text; value = old.value })
  name_more None is none read given = absurd (subst Holds (sym given) tt)
  name_more (Some name) is none read given =
      one_more key here rest old (record { op = old.op; node = old.node; name = Some name; text = old.text; value = old.value }) (codes "name") (string name) is
      (text_read (max_depth - 1) here rest name read) (omega (arith, ap length read)) (rw none (put_name old.name old.node old.op old.text old.value name))

  pub text_more : (text : Option (List ℕ)) → text_of key ≡ Some (codes "text") → old.text ≡ None
      → IfSome text (λ text. here ≡ Token.string text ∷ rest) → is_some text ≡ true
      → SaysMore key here old rest (record { op = old.op; node = old.node; name = old.name; text = text; value = old.value })
  text_more None is none read given = absurd (subst Holds (sym given) tt)
  text_more (Some text) is none read given =
      one_more key here rest old (record { op = old.op; node = old.node; name = old.name; text = Some text; value = old.value }) (codes "text") (string text) is
      (text_read (max_depth - 1) here rest text read) (omega (arith, ap length read)) (rw none (put_text old.name old.node old.op old.text old.value text))

  pub value_more : (value : Option (Option (List ℕ))) → text_of key ≡ Some (codes "value") → old.value ≡ None
      → IfSome value (λ given. here ≡ token_for given ∷ rest) → is_some value ≡ true
      → SaysMore key here old rest (record { op = old.op; node = old.node; name = old.name; text = old.text; value = value })
  value_more None is none read given = absurd (subst Holds (sym given) tt)
  value_more (Some value) is none read given =
      one_more key here rest old (record { op = old.op; node = old.node; name = old.name; text = old.text; value = Some value }) (codes "value") (text_or_null value) is
      (given_read (max_depth - 1) here rest value read) (omega (arith, ap length read)) (rw none (put_value old.name old.node old.op old.text old.value value))
