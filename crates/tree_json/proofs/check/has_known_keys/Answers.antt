use Rattle.std.proofs.Common.{rules, tests, ◌∙◌, Bool, String, Global, string_bytes}
use Rattle.std.proofs.lemmas.Iterator.Consumers.{YieldsList-from_rest}
use Rattle.std.proofs.lemmas.Iterator.Search.{all_from_yields_List}
use Rattle.std.specs.BTreeMap.{keys}
use Rattle.tree_json.specs.Elements.{is_element_key}
use Rattle.tree_json.proofs.Members.{known_keys}
use Rattle.tree_json.proofs.check.has_known_keys.Goals as goal

pub returns-in-Object : goal.returns-in-Object
returns-in-Object c =
    let road = YieldsList-from_rest (keys c.in-Object.members) c.keys.ensures.rest in
    let known : String Global → Bool = λ key. is_element_key (string_bytes key) in
    let all = all_from_yields_List known _ _ c.all.result c.all.ensures.ran road (λ x b q k. search (rules, tests)) in
    rw (c.in-Object.is) (all ∙ known_keys c.in-Object.members)
