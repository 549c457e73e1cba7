-- Worked runs: the definitions of the program, computed from the bytes of the files and the words.
use Rattle.std.proofs.Common.{◌≡◌, ◌∙◌, ap, ℕ, pos, List, [], ◌∷◌, ◌++◌, codes, Some, None, refl, subst, lit≤, Bool, true, false}
use Rattle.std.specs.Prelude.{⊤, Ok, Err, if◌then◌else◌}
use Rattle.std.specs.Fmt.{digits}
use Rattle.std.specs.Str.{bytes_eq, IsUtf8}
use Rattle.std.proofs.lemmas.Str.{is_utf8-from_IsUtf8}
use Rattle.serde_json.specs.Read.{read}
use Rattle.doc_io.specs.Causes.{Files}
use Rattle.metrics_file.specs.Words.{value_of_digits, numeral_of, number_of, number_in, natural_in, code_of, letter_in, name_in as glyph_name_in}
use Rattle.font_metrics.specs.Names.{is_name as is_glyph_name}
use Rattle.metrics_file.specs.Lines.{keyword_of}
use Rattle.metrics_file.specs.Reading.{words_of, is_foreign, after, after_first, finished, metrics_of}
use Rattle.font_metrics.specs.Metrics.{MetricsValue, NamedGlyph}
use Rattle.font_metrics.specs.Tables.{no_tables}
use Rattle.tree_json.proofs.OnLiterals.{tree_json_on_literals}
use Rattle.math_tree.specs.Trees.{TreeValue, Listed, listed}
use Rattle.math_tree.specs.declared.kind.Kind.{Kind}
use Rattle.math_tree.specs.declared.kind.Kind.TheVariants.{Math, Mn}
use Rattle.math_tree.specs.declared.node.Node.{Node}
use Rattle.math_tree.specs.declared.node.Node.TheViews.{roll-Node}
use Rattle.math_tree.specs.declared.node.Node.TheOpen.{Node-F}
use Rattle.std.specs.Option.{option_and_then}
use Rattle.math_tree.specs.Forms.{is_white_space}
use Rattle.tree_edits.specs.Commands.{command_in, command_of, element_in, has_only, id_in, index_in, op_in, op_of, text_at, value_in}
use Rattle.tree_edits.specs.Edits.{edited, first_refusal, refusal_of}
use Rattle.tree_edits.specs.declared.command.Command.TheVariants.{Change}
use Rattle.tree_edits.specs.declared.edit.Edit.{Edit as EditOfTree}
use Rattle.tree_edits.specs.declared.edit.Edit.TheVariants.{Remove}
use Rattle.tree_edits.specs.declared.edit.EditRefusal.TheVariants.{RootFixed}
use Rattle.tree_edits.proofs.Frames.{listed_out}
use Rattle.line_replies.specs.Sessions.{SessionValue}
use Rattle.doc_io.specs.LineReader.{is_short}
use Rattle.script_answers.specs.Script.{within, is_within}
use Rattle.line_replies.specs.Replies.{after_line, by_session, is_edited_in_range, replies, reply_by, reply_to, reply_to_command, reply_to_edit, text_of_reply, told_of}
use Rattle.line_replies.specs.declared.reply.Cause.TheVariants.{NoCommand, Unmade}
use Rattle.line_replies.specs.declared.reply.Reply.TheVariants.{Nothing, Refused}
use Rattle.line_replies.specs.EditSteps.{TakesForEdit, TakesForLine, accepted_by, accepted_in, unless_refused}
use Rattle.command_words.specs.Command.{asked_by}
use Rattle.script_answers.specs.Responders.{TakesForLines}
use Rattle.commands.specs.Answer.{output_of, output}
use Rattle.input_files.specs.Files.{metrics_in, tree_of_json, tree_in}
use Rattle.commands.proofs.Loading.{tree_short}
use Rattle.commands.proofs.Answering.{refused_by_metrics}
use Rattle.commands.proofs.RepliesLaws.{unchanged}
use Rattle.input_files.specs.declared.status.Status.TheVariants.{Usage, Metrics as MetricsStatus}
use Rattle.input_files.specs.declared.refusal.Refusal.TheVariants.{Metrics, Tree, TreeJson}

-- what the definitions are computed by, from literals
unfoldable on_literals : ⊤
unfolding
    tree_json_on_literals digits
    value_of_digits numeral_of number_of number_in natural_in code_of letter_in is_glyph_name glyph_name_in
    keyword_of words_of is_foreign after after_first finished metrics_of
    metrics_in
on_literals = tt

-- and the lines of a script
unfoldable lines_on_literals : ⊤
unfolding tree_json_on_literals id_in index_in text_at value_in element_in op_of op_in has_only command_of
lines_on_literals = tt

-- ---- a metrics file and a tree file

abbrev metrics_file : List ℕ
metrics_file =
    codes "mathlay-metrics 1\nupem 1024\nline 900 300\nxheight 512\n"
    ++ codes "glyph missing 512 600 0\nglyph one 512 680 0\nchar 0031 one\n"

abbrev glyph_named : List ℕ → ℕ → NamedGlyph
glyph_named name ink =
    record { name = name; glyph = record { advance = pos 512; ink_ascent = pos ink; ink_descent = pos 0; italic = pos 0; accent = None } }

abbrev font : MetricsValue
font = record {
  version = 1;
  upem = 1024;
  line_ascent = 900;
  line_descent = 300;
  x_height = 512;
  overlap = None;
  constants = [];
  glyphs = glyph_named (codes "missing") 600 ∷ glyph_named (codes "one") 680 ∷ [];
  characters = (0x31, 1) ∷ [];
  tables = no_tables;
  operators = [];
}

metrics_of_file : metrics_in metrics_file ≡ Ok font
unfolding on_literals
metrics_of_file = refl

-- an element's own layer, over children
abbrev layer : ℕ → List ℕ → Kind → List ℕ → List Node → Node-F Node
layer id name kind text children =
    record { head = record { id = record { 0 = id }; name = name; kind = kind; attributes = []; text = text }; children = children }

abbrev number_node : List ℕ → Node
number_node text = roll-Node (layer 2 (codes "mn") Mn text [])

abbrev math_over : List Node → Node
math_over children = roll-Node (layer 1 (codes "math") Math [] children)

-- ---- refused trees

another_root : tree_of_json (read (codes "{\"name\":\"mi\"}")) ≡ Err (Tree (record { element = 1; kind = 3 }))
unfolding on_literals
another_root = refl

cut_tree : tree_of_json (read (codes "{\"name\":\"ma")) ≡ Err TreeJson
unfolding on_literals
cut_tree = refl

-- ---- whole outputs

-- a metrics file `m` and a tree file `t`
abbrev files : List ℕ → Files
files tree name =
    if bytes_eq name (codes "m") then Some metrics_file
    else if bytes_eq name (codes "t") then Some tree
    else None

abbrev one : List ℕ
one = codes "{\"name\":\"math\",\"children\":[{\"name\":\"mn\",\"text\":\"1\"}]}"

abbrev tree_value : TreeValue
tree_value = record { root = math_over (number_node (codes "1") ∷ []); next_id = 3 }

tree_of_text : tree_of_json (read one) ≡ Ok tree_value
unfolding on_literals
tree_of_text = refl

tree_of_one : tree_in one ≡ Ok tree_value
unfolding lib.Utf8.encode
tree_of_one =
    tree_short one (lit≤ tt)
    ∙ ap (λ text. tree_of_json (if text then read one else None)) (is_utf8-from_IsUtf8 one (one, (refl, refl)))
    ∙ tree_of_text

tree_is_no_metrics : metrics_in one ≡ Err (Metrics (record { line = 1; kind = 2 }))
unfolding on_literals
tree_is_no_metrics = refl

output_of_no_metrics : output (asked_by (codes "check" ∷ codes "t" ∷ codes "t" ∷ [])) (files one)
    ≡ record { bytes = codes "metrics 1 2\n"; status = MetricsStatus }
unfolding digits
output_of_no_metrics = ap output_of (refused_by_metrics _ (files one) _ tree_is_no_metrics)

output_of_two_words : output (asked_by (codes "layout" ∷ codes "m" ∷ [])) (files one)
    ≡ record {
      bytes = codes "usage: mathlay layout METRICS TREE | edit METRICS TREE SCRIPT | check METRICS TREE | gen METRICS SEED COUNT | paint METRICS TREE | hit METRICS TREE X Y | select METRICS TREE ID ID | history DEPTH METRICS TREE SCRIPT\n";
      status = Usage;
    }
output_of_two_words = refl

-- ---- the lines of a script that are answered

-- where two are answered, the third is too many
two_of_three : within 2 (codes "a" ∷ [] ∷ codes "b" ∷ []) ≡ codes "a" ∷ [] ∷ []
unfolding within is_short
two_of_three = refl

too_many_lines : is_within 2 (codes "a" ∷ [] ∷ codes "b" ∷ []) ≡ false
unfolding is_within is_short
too_many_lines = refl

as_many_lines : is_within 3 (codes "a" ∷ [] ∷ codes "b" ∷ []) ≡ true
unfolding is_within is_short
as_many_lines = refl

-- ---- replies

abbrev session : SessionValue
session = record { tree = tree_value; metrics = font }

-- the command of a line is that of its text
read_line : (line : List ℕ) → IsUtf8 line → command_in line ≡ option_and_then command_of (read line)
read_line line text = ap (λ (b : Bool). option_and_then command_of (if b then read line else None)) (is_utf8-from_IsUtf8 line text)

-- tab, space and form feed
white_line : reply_to session (9 ∷ 32 ∷ 12 ∷ []) ≡ Nothing
unfolding reply_to tree_json_on_literals
white_line = refl

abbrev move : List ℕ
move = codes "{\"op\":\"move\"}"

no_move : reply_to session move ≡ Refused NoCommand
unfolding reply_to lines_on_literals lib.Utf8.encode
no_move = ap (reply_to_command session) (read_line move (move, (refl, refl)))

move_told : told_of session move ≡ codes "refused line\n"
unfolding text_of_reply
move_told = ap (text_of_reply font) no_move

-- the elements of the tree
listing : listed 1 tree_value.root
    ≡ record { level = 1; head = (layer 1 (codes "math") Math [] []).head; children = 1 }
    ∷ record { level = 2; head = (layer 2 (codes "mn") Mn (codes "1") []).head; children = 0 }
    ∷ []
listing =
    listed_out 1 (layer 1 (codes "math") Math [] []).head (number_node (codes "1") ∷ [])
    ∙ ap (λ below. record { level = 1; head = (layer 1 (codes "math") Math [] []).head; children = 1 } ∷ below ++ [])
    (listed_out 2 (layer 2 (codes "mn") Mn (codes "1") []).head [])

root_stays : (after : List Listed) (next : ℕ) → first_refusal (listed 1 tree_value.root) after next (Remove (record { 0 = 1 })) ≡ Some RootFixed
unfolding tree_json_on_literals
root_stays after next = ap (λ elements. first_refusal elements after next (Remove (record { 0 = 1 }))) listing

removed_root : reply_to_edit session (Remove (record { 0 = 1 })) ≡ Refused (Unmade RootFixed)
unfolding refusal_of
removed_root = ap (λ reason. reply_by reason (is_edited_in_range session (Remove (record { 0 = 1 })))) (root_stays (listed 1 (edited tree_value (Remove (record { 0 = 1 }))).root) (edited tree_value (Remove (record { 0 = 1 }))).next_id)

-- an edit that is accepted, where its layout can be stored, and what is answered then
accepted_line : (edit : EditOfTree) (line : List ℕ) → is_white_space line ≡ false → command_in line ≡ Some (Change edit)
    → refusal_of tree_value edit ≡ None → is_edited_in_range session edit ≡ true → told_of session line ≡ codes "ok\n"
unfolding reply_to text_of_reply
accepted_line edit line black is free fits =
    ap (λ (white : Bool). text_of_reply font (if white then Nothing else reply_to_command session (command_in line))) black
    ∙ ap (λ command. text_of_reply font (reply_to_command session command)) is
    ∙ (λ i. text_of_reply font (reply_by (free i) (fits i)))

abbrev remove : List ℕ
remove = codes "{\"op\":\"remove\",\"node\":1}"

remove_told : told_of session remove ≡ codes "refused root\n"
unfolding reply_to text_of_reply lines_on_literals lib.Utf8.encode
remove_told =
    ap (λ command. text_of_reply font (reply_to_command session command)) (read_line remove (remove, (refl, refl)))
    ∙ ap (text_of_reply font) removed_root

white_stays : after_line session (9 ∷ []) ≡ session
unfolding after_line tree_json_on_literals
white_stays = refl

move_stays : after_line session move ≡ session
move_stays = unchanged session move (λ e. let other = no_move in cc)

-- a line of white space, a line that is no command, and an edit that is refused
three_replies : replies session ((9 ∷ []) ∷ move ∷ remove ∷ []) ≡ codes "refused line\nrefused root\n"
unfolding reply_to text_of_reply tree_json_on_literals
three_replies =
    ap (λ s. told_of s move ++ (told_of (after_line s move) remove ++ [])) white_stays
    ∙ ap (λ s. told_of session move ++ (told_of s remove ++ [])) move_stays
    ∙ (λ i. move_told i ++ (remove_told i ++ []))

-- ---- steps

-- an edit that is accepted is the one whose steps are counted
accepted_edit : (edit : EditOfTree) (line : List ℕ) → is_white_space line ≡ false → command_in line ≡ Some (Change edit)
    → refusal_of tree_value edit ≡ None → accepted_in session line ≡ Some edit
unfolding accepted_in
accepted_edit edit line black is free =
    ap (λ (white : Bool). if white then None else accepted_by session (command_in line)) black
    ∙ ap (accepted_by session) is
    ∙ ap (λ reason. unless_refused reason edit) free

white_accepts_none : accepted_in session (9 ∷ []) ≡ None
unfolding accepted_in tree_json_on_literals
white_accepts_none = refl

move_accepts_none : accepted_in session move ≡ None
unfolding accepted_in lines_on_literals lib.Utf8.encode
move_accepts_none = ap (accepted_by session) (read_line move (move, (refl, refl)))

remove_accepts_none : accepted_in session remove ≡ None
unfolding accepted_in refusal_of lines_on_literals lib.Utf8.encode
remove_accepts_none =
    ap (accepted_by session) (read_line remove (remove, (refl, refl)))
    ∙ ap (λ reason. unless_refused reason (Remove (record { 0 = 1 })))
    (root_stays (listed 1 (edited tree_value (Remove (record { 0 = 1 }))).root) (edited tree_value (Remove (record { 0 = 1 }))).next_id)

-- a line that asks for no edit that is accepted takes no step
takes_none : (line : List ℕ) → accepted_in session line ≡ None → (from to : ℕ) → TakesForLine session line from to → to ≡ from
takes_none line none from to steps = subst (λ edit. TakesForEdit session edit from to) none steps

-- nor do the three lines above
three_take_none : (from to : ℕ) → TakesForLines by_session TakesForLine session ((9 ∷ []) ∷ move ∷ remove ∷ []) from to → to ≡ from
three_take_none from to (white, first, (moved, second, (removed, third, same))) =
    let at_move : TakesForLine session move white moved = subst (λ s. TakesForLine s move white moved) white_stays second in
    let after_move : after_line (after_line session (9 ∷ [])) move ≡ session = ap (λ s. after_line s move) white_stays ∙ move_stays in
    let at_remove : TakesForLine session remove moved removed = subst (λ s. TakesForLine s remove moved removed) after_move third in
    same ∙ takes_none remove remove_accepts_none moved removed at_remove
    ∙ takes_none move move_accepts_none white moved at_move
    ∙ takes_none (9 ∷ []) white_accepts_none from white first
