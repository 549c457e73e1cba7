use Rattle.std.proofs.Common.{◌≡◌, ◌-◌, ◌≤◌, max, take, drop, map}
use Rattle.hit_test.specs.Elements.{children_of, flow_tree, id_of}
use Rattle.hit_test.proofs.chosen.chosen.Given as goal

-- the ids of the children so far
abbrev pub invariant-loop-index : goal.invariant-loop-index
invariant-loop-index l =
    record {
      ids : map (λ id. id.0) l.ids
          ≡ map id_of (take (l.index - l.found.span.from) (drop l.found.span.from (children_of (flow_tree l.found.node.now))));
      low : l.index ≤ max l.found.span.from l.found.span.to;
    }
