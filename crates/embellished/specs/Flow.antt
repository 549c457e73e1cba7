-- Which children of an element are in flow.
use Rattle.std.specs.Prelude.{Bool, not, ◌&&◌, if◌then◌else◌, List, [], filter, take}
use Rattle.std.specs.List.{list_all}
use Rattle.math_tree.specs.declared.kind.Kind.{Kind}
use Rattle.embellished.specs.Kinds.{is_annotation, is_prescripts_mark, is_multiscripts, shows_its_first, shows_none}

-- whether a child that may be in flow is: no annotation, and no mark of a valid `mmultiscripts`
abbrev pub may_show : Kind → Kind → Bool
may_show laid kid = not (is_annotation kid) && not (is_multiscripts laid && is_prescripts_mark kid)

-- those of the children that may be in flow
abbrev pub shown_by : {A : Type 0} → (A → Kind) → Kind → List A → List A
shown_by kind_of laid kids = filter (λ kid. may_show laid (kind_of kid)) kids

-- whether kinds alone tell that each child is in flow: the element shows all its children, has no
-- prescripts, and none of its children is an annotation. Where it is false, each may be in flow
-- still, as of an element that shows its first child alone and has one.
abbrev pub shows_each : {A : Type 0} → (A → Kind) → Kind → List A → Bool
shows_each kind_of laid kids = not (shows_none laid)
    && not (shows_its_first laid)
    && not (is_multiscripts laid)
    && list_all (λ kid. may_show laid (kind_of kid)) kids

-- the children in flow of an element that is laid out as this kind; `kind_of` says how a child is
unfoldable pub flow_by : {A : Type 0} → (A → Kind) → Kind → List A → List A
flow_by kind_of laid kids =
    if shows_none laid then []
    else if shows_its_first laid then shown_by kind_of laid (take 1 kids)
    else shown_by kind_of laid kids
