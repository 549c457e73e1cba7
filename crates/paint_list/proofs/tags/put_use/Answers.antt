use Rattle.std.proofs.Common.{◌≡◌, ◌∙◌, subst, rules, codes, ◌++◌, to_z, of_z, w64}
use Rattle.doc_io.specs.Pieces.{Puts}
use Rattle.paint_list.specs.Svg.{use_end}
use Rattle.paint_list.proofs.tags.put_use.Goals as goal

pub returns : goal.returns
returns g c =
    let told = g.O.Sink.told in
    let x : to_z w64 (of_z w64 c.args.x) ≡ c.args.x = search rules in
    let y : to_z w64 (of_z w64 c.args.y) ≡ c.args.y = search rules in
    let size : to_z w64 (of_z w64 c.args.size) ≡ c.args.size = search rules in
    let behind = c.as_str.ensures ∙ c.use_end-behind.ensures ∙ (λ i. use_end (x i) (y i) (size i)) in
    subst (λ text. Puts (told c.args.out.now) (told c.put_around.new.out) c.args.piece.now c.put_around.new.piece text c.put_around.result)
    (λ i. codes "<use href=\"#" ++ (c.args.name.now ++ behind i)) c.put_around.ensures
