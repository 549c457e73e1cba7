-- What was found on a page, as the definitions say it.
use Rattle.std.proofs.Common.{◌≡◌, ◌∙◌, refl, sym, ap, subst, ℕ, ◌<◌, ◌≤◌, Bool, true, false, cond, nat_lt, List, length, Option, Some, None}
use Rattle.std.specs.Prelude.{if◌then◌else◌, Result, Ok, Err}
use Rattle.std.proofs.lemmas.Bool.{le-ltb, lt-ltb}
use Rattle.math_tree.specs.declared.node.NodeId.{NodeId}
use Rattle.paint_list.specs.Paints.{most_paints, painted}
use Rattle.paint_list.specs.Svg.{svg_of}
use Rattle.paint_list.specs.declared.paints.Paint.{Paint}
use Rattle.hit_test.specs.Selecting.{missing_id}
use Rattle.hit_test.specs.declared.areas.Area.{Area}
use Rattle.edit_session.specs.Session.{SessionValue, page, root_box}
use Rattle.queries.specs.Lines.{lines_of_areas}
use Rattle.queries.specs.Queries.{painted_page, unless_missing}
use Rattle.page_queries.specs.declared.query.QueryRefusal.{QueryRefusal}
use Rattle.page_queries.specs.declared.query.QueryRefusal.TheVariants.{NoNode, TooMany}

-- the paint list of a session's page
abbrev pub paints_of_page : SessionValue → List Paint
paints_of_page session = painted session.metrics (page session)

pub few_painted : (session : SessionValue) → length (paints_of_page session) ≤ most_paints
    → painted_page session ≡ Ok (svg_of session.metrics (root_box session) (paints_of_page session))
unfolding painted_page
few_painted session few =
    ap (λ (b : Bool). if b then Err TooMany else Ok (svg_of session.metrics (root_box session) (paints_of_page session)))
    (le-ltb most_paints (length (paints_of_page session)) few)

pub many_painted : (session : SessionValue) → most_paints < length (paints_of_page session) → painted_page session ≡ Err TooMany
unfolding painted_page
many_painted session many =
    ap (λ (b : Bool). if b then Err TooMany else Ok (svg_of session.metrics (root_box session) (paints_of_page session)))
    (lt-ltb most_paints (length (paints_of_page session)) many)

-- both elements are there, or the first that isn't is told
pub both_there : (missing : Option ℕ) (areas : List Area) → missing ≡ None → unless_missing missing areas ≡ Ok (lines_of_areas areas)
both_there missing areas none = ap (λ m. unless_missing m areas) none

pub one_missing : (missing : Option ℕ) (areas : List Area) (id : NodeId) → missing ≡ Some id.0 → unless_missing missing areas ≡ Err (NoNode id)
one_missing missing areas id some = ap (λ m. unless_missing m areas) some
