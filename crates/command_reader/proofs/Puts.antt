-- The members of a line, one more put in.
use Rattle.std.proofs.Common.{◌≡◌, ◌∙◌, refl, ap, ℕ, List, Option, None, Some, codes, option_map, Less, Greater, nat_cmp}
use Rattle.std.specs.Cmp.Lexicographic.{slice_cmp}
use Rattle.serde_json.specs.Data.{Data, number, string, Members, no_members, member, put, unsigned}
use Rattle.tree_reader.specs.Said.{perhaps}
use Rattle.command_reader.specs.Said.{members_of, text_or_null, word_of}
use Rattle.command_reader.specs.declared.keys.Op.{Op}

module _ (key other : List ℕ) (given : Data) where
  -- behind a key that is less
  behind : (there : Option Data) (rest : Members) → slice_cmp nat_cmp key other ≡ Greater
      → put key given (perhaps other there rest) ≡ perhaps other there (put key given rest)
  behind None rest more = refl
  behind (Some there) rest more = rw more refl

  -- ahead of a key that is greater
  ahead : (there : Option Data) (rest : Members) → slice_cmp nat_cmp key other ≡ Less
      → put key given rest ≡ member key given rest
      → put key given (perhaps other there rest) ≡ member key given (perhaps other there rest)
  ahead None rest less first = first
  ahead (Some there) rest less first = rw less refl

module _ (name : Option (List ℕ)) (node : Option ℕ) (op : Option Op) (text : Option (List ℕ)) (value : Option (Option (List ℕ))) where
  abbrev a_name : Members → Members
  a_name = perhaps (codes "name") (option_map string name)

  abbrev a_node : Members → Members
  a_node = perhaps (codes "node") (option_map (λ n. number (unsigned n)) node)

  abbrev an_op : Members → Members
  an_op = perhaps (codes "op") (option_map (λ o. string (word_of o)) op)

  abbrev a_text : Members → Members
  a_text = perhaps (codes "text") (option_map string text)

  abbrev a_value : Members
  a_value = perhaps (codes "value") (option_map text_or_null value) no_members

  pub put_name : (given : List ℕ) → put (codes "name") (string given) (members_of None node op text value) ≡ members_of (Some given) node op text value
  put_name given =
      ahead (codes "name") (codes "node") (string given) (option_map (λ n. number (unsigned n)) node) (an_op (a_text a_value)) refl
      (ahead (codes "name") (codes "op") (string given) (option_map (λ o. string (word_of o)) op) (a_text a_value) refl
      (ahead (codes "name") (codes "text") (string given) (option_map string text) a_value refl
      (ahead (codes "name") (codes "value") (string given) (option_map text_or_null value) no_members refl refl)))

  pub put_node : (given : ℕ) → put (codes "node") (number (unsigned given)) (members_of name None op text value) ≡ members_of name (Some given) op text value
  put_node given =
      behind (codes "node") (codes "name") (number (unsigned given)) (option_map string name) (an_op (a_text a_value)) refl
      ∙ ap a_name
      (ahead (codes "node") (codes "op") (number (unsigned given)) (option_map (λ o. string (word_of o)) op) (a_text a_value) refl
      (ahead (codes "node") (codes "text") (number (unsigned given)) (option_map string text) a_value refl
      (ahead (codes "node") (codes "value") (number (unsigned given)) (option_map text_or_null value) no_members refl refl)))

  pub put_op : (given : Op) → put (codes "op") (string (word_of given)) (members_of name node None text value) ≡ members_of name node (Some given) text value
  put_op given =
      behind (codes "op") (codes "name") (string (word_of given)) (option_map string name) (a_node (a_text a_value)) refl
      ∙ ap a_name
      (behind (codes "op") (codes "node") (string (word_of given)) (option_map (λ n. number (unsigned n)) node) (a_text a_value) refl
      ∙ ap a_node
      (ahead (codes "op") (codes "text") (string (word_of given)) (option_map string text) a_value refl
      (ahead (codes "op") (codes "value") (string (word_of given)) (option_map text_or_null value) no_members refl refl)))

  pub put_text : (given : List ℕ) → put (codes "text") (string given) (members_of name node op None value) ≡ members_of name node op (Some given) value
  put_text given =
      behind (codes "text") (codes "name") (string given) (option_map string name) (a_node (an_op a_value)) refl
      ∙ ap a_name
      (behind (codes "text") (codes "node") (string given) (option_map (λ n. number (unsigned n)) node) (an_op a_value) refl
      ∙ ap a_node
      (behind (codes "text") (codes "op") (string given) (option_map (λ o. string (word_of o)) op) a_value refl
      ∙ ap an_op
      (ahead (codes "text") (codes "value") (string given) (option_map text_or_null value) no_members refl refl)))

  pub put_value : (given : Option (List ℕ)) → put (codes "value") (text_or_null given) (members_of name node op text None) ≡ members_of name node op text (Some given)
  put_value given =
      behind (codes "value") (codes "name") (text_or_null given) (option_map string name) (a_node (an_op (a_text no_members))) refl
      ∙ ap a_name
      (behind (codes "value") (codes "node") (text_or_null given) (option_map (λ n. number (unsigned n)) node) (an_op (a_text no_members)) refl
      ∙ ap a_node
      (behind (codes "value") (codes "op") (text_or_null given) (option_map (λ o. string (word_of o)) op) (a_text no_members) refl
      ∙ ap an_op
      (behind (codes "value") (codes "text") (text_or_null given) (option_map string text) no_members refl)))
