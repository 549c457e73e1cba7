-- What is asked of the page of a tree, and what is answered.
use Rattle.std.specs.Prelude.{◌≡◌, ℕ, ℤ, List, length, nat_lt, if◌then◌else◌, Option, Some, None, Result, Ok, Err}
use Rattle.std.specs.List.{All}
use Rattle.fixed_units.specs.Boxes.{IsStored}
use Rattle.font_metrics.specs.Metrics.{MetricsValue}
use Rattle.math_tree.specs.declared.node.Node.{Node}
use Rattle.paint_list.specs.Paints.{IsOfFont, most_paints, painted}
use Rattle.paint_list.specs.Svg.{svg_of}
use Rattle.hit_test.specs.Elements.{flow_tree, inside_in}
use Rattle.hit_test.specs.Hits.{hit_of}
use Rattle.hit_test.specs.Selecting.{missing_id, selected_areas}
use Rattle.hit_test.specs.declared.areas.Area.{Area}
use Rattle.edit_session.specs.Session.{SessionValue, page, root_box}
use Rattle.queries.specs.Lines.{hit_line, lines_of_areas}
use Rattle.queries.specs.declared.answers.Answer.{Answer}
use Rattle.queries.specs.declared.answers.Answer.TheVariants.{Picture, Hit as Found, Areas}
use Rattle.page_queries.specs.declared.query.Query.{Query}
use Rattle.page_queries.specs.declared.query.Query.TheVariants.{Paint, Hit, Select}
use Rattle.page_queries.specs.declared.query.QueryRefusal.{QueryRefusal}
use Rattle.page_queries.specs.declared.query.QueryRefusal.TheVariants.{NoNode, TooMany, Memory}

-- the elements of the tree that are in flow
abbrev pub flow_of : SessionValue → Node
flow_of session = flow_tree session.tree.root

-- the SVG of the page in the root's box, unless it is too much
unfoldable pub painted_page : SessionValue → Result (List ℕ) QueryRefusal
painted_page session =
    if nat_lt most_paints (length (painted session.metrics (page session))) then Err TooMany
    else Ok (svg_of session.metrics (root_box session) (painted session.metrics (page session)))

-- which element a point lies in
abbrev pub hit_on : SessionValue → ℤ → ℤ → Result (List ℕ) QueryRefusal
hit_on session x y = Ok (hit_line (hit_of (inside_in (flow_of session)) x y (page session)))

abbrev pub unless_missing : Option ℕ → List Area → Result (List ℕ) QueryRefusal
unless_missing None areas = Ok (lines_of_areas areas)
unless_missing (Some id) areas = Err (NoNode record { 0 = id })

-- the areas to mark, unless an element isn't there
abbrev pub selected_on : SessionValue → ℕ → ℕ → Result (List ℕ) QueryRefusal
selected_on session first second =
    unless_missing (missing_id first second (flow_of session))
    (selected_areas first second (flow_of session) (page session))

-- the bytes of an answer, or why there is none
abbrev pub answer_to : Query → SessionValue → Result (List ℕ) QueryRefusal
answer_to Paint session = painted_page session
answer_to (Hit x y) session = hit_on session x y
answer_to (Select first second) session = selected_on session first.0 second.0

-- ---- what was found

abbrev pub bytes_of : MetricsValue → Answer → List ℕ
bytes_of m (Picture frame paints) = svg_of m frame paints
bytes_of m (Found id) = hit_line id
bytes_of m (Areas areas) = lines_of_areas areas

-- an answer that can be written: its glyphs are those of the font
abbrev pub IsWritable : MetricsValue → Answer → Type 0
IsWritable m (Picture frame paints) = IsStored frame × All (IsOfFont m) paints
IsWritable m (Found id) = Unit {0}
IsWritable m (Areas areas) = Unit {0}

-- when there is no answer for this reason; want of memory has no cause here
abbrev pub IsCause : Result (List ℕ) QueryRefusal → QueryRefusal → Type 0
IsCause wanted (NoNode id) = wanted ≡ Err (NoNode id)
IsCause wanted TooMany = wanted ≡ Err TooMany
IsCause wanted Memory = Unit {0}
