-- The command of a line that says no more than its word wants.
use Rattle.std.proofs.Common.{◌≡◌, refl, ℕ, List, Option, None, Some}
use Rattle.std.specs.Prelude.{unwrap_or}
use Rattle.serde_json.specs.Data.{object}
use Rattle.tree_edits.specs.Commands.{as_id, command_of, has_only, id_in, op_in, op_of, text_at, value_in}
use Rattle.tree_edits.specs.declared.command.Command.TheVariants.{Show, Change}
use Rattle.tree_edits.specs.declared.edit.Edit.TheVariants.{Text, Attr, Remove}
use Rattle.command_reader.specs.Said.{line_of, members_of}
use Rattle.command_reader.specs.declared.keys.Op.TheVariants as ops
use Rattle.command_reader.specs.declared.said.Said.{Said}

a_show : command_of (object (members_of None None (Some ops.Show) None None)) ≡ Some Show
unfolding command_of op_in op_of has_only
a_show = refl

a_text : (id : ℕ) (text : List ℕ) → command_of (object (members_of None (Some id) (Some ops.Text) (Some text) None)) ≡ Some (Change (Text (as_id id) text))
unfolding command_of op_in op_of has_only id_in text_at
a_text id text = refl

a_removal : (id : ℕ) → command_of (object (members_of None (Some id) (Some ops.Remove) None None)) ≡ Some (Change (Remove (as_id id)))
unfolding command_of op_in op_of has_only id_in
a_removal id = refl

an_attribute : (id : ℕ) (name : List ℕ) (value : Option (Option (List ℕ)))
    → command_of (object (members_of (Some name) (Some id) (Some ops.Attr) None value)) ≡ Some (Change (Attr (as_id id) name (unwrap_or value None)))
unfolding command_of op_in op_of has_only id_in text_at value_in
an_attribute id name None = refl
an_attribute id name (Some None) = refl
an_attribute id name (Some (Some text)) = refl

module _ (said : Said) where
  pub show_meant : said.op ≡ Some ops.Show → said.node ≡ None → said.name ≡ None → said.text ≡ None → said.value ≡ None
      → command_of (line_of said) ≡ Some Show
  show_meant op node name text value = rw (op, node, name, text, value) a_show

  pub text_meant : (id : ℕ) (given : List ℕ) → said.op ≡ Some ops.Text → said.node ≡ Some id → said.name ≡ None → said.text ≡ Some given
      → said.value ≡ None → command_of (line_of said) ≡ Some (Change (Text (as_id id) given))
  text_meant id given op node name text value = rw (op, node, name, text, value) (a_text id given)

  pub removal_meant : (id : ℕ) → said.op ≡ Some ops.Remove → said.node ≡ Some id → said.name ≡ None → said.text ≡ None → said.value ≡ None
      → command_of (line_of said) ≡ Some (Change (Remove (as_id id)))
  removal_meant id op node name text value = rw (op, node, name, text, value) (a_removal id)

  pub attribute_meant : (id : ℕ) (given : List ℕ) → said.op ≡ Some ops.Attr → said.node ≡ Some id → said.name ≡ Some given → said.text ≡ None
      → command_of (line_of said) ≡ Some (Change (Attr (as_id id) given (unwrap_or said.value None)))
  attribute_meant id given op node name text = rw (op, node, name, text) (an_attribute id given said.value)
