-- What was looked up of an element, key by key.
use Rattle.std.specs.Prelude.{◌≡◌, codes}
use Rattle.std.specs.Option.{option_map}
use Rattle.serde_json.specs.Find.{get}
use Rattle.serde_json.specs.View.{view, items_view}
use Rattle.tree_json.specs.Elements.{name_in, kind_in, text_in, children_in}
use Rattle.tree_json.specs.declared.element.Keys.{Keys}

-- it is what its value says
pub record IsSaid (keys : Keys) : Type 0 where
  pub name : keys.name.now ≡ name_in (view keys.value.now)
  pub kind : keys.kind ≡ kind_in (view keys.value.now)
  pub attributes : option_map (λ attributes. view attributes.now) keys.attributes
      ≡ get (codes "attributes") (view keys.value.now)
  pub text : option_map (λ text. text.now) keys.text ≡ text_in (view keys.value.now)
  pub children : option_map (λ children. items_view children.now) keys.children
      ≡ children_in (view keys.value.now)
