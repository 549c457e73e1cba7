use Rattle.std.proofs.Common.{rules, tests, ◌∙◌, Bool, string_bytes}
use Rattle.std.proofs.lemmas.Iterator.Consumers.{YieldsList-from_rest}
use Rattle.std.proofs.lemmas.Iterator.Search.{all_from_yields_List}
use Rattle.serde_json.specs.View.{view}
use Rattle.tree_json.specs.Elements.{is_attribute}
use Rattle.tree_json.proofs.Members.{Entry, all_attributes}
use Rattle.tree_json.proofs.check.are_attributes.Goals as goal

pub returns : goal.returns
returns c =
    let road = YieldsList-from_rest c.args.members.now.entries c.iter.ensures.rest in
    let right : Entry → Bool = λ entry. is_attribute (string_bytes entry.0) (view entry.1) in
    let all = all_from_yields_List right _ _ c.all.result c.all.ensures.ran road (λ x b q k. search (rules, tests)) in
    all ∙ all_attributes c.args.members.now.entries
