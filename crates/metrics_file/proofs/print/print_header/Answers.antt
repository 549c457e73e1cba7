use Rattle.std.proofs.Common.{◌≡◌, ◌++◌, List, ℕ, append_assoc}
use Rattle.std.proofs.lemmas.Result.{on_ok_weaker}
use Rattle.metrics_file.proofs.print.print_header.Goals as goal

-- text behind text
behind : (l a b c d x y z w v : List ℕ) (all : List ℕ) → a ≡ l ++ x → b ≡ a ++ y → c ≡ b ++ z → d ≡ c ++ w → all ≡ d ++ v
    → all ≡ l ++ (x ++ (y ++ (z ++ (w ++ v))))
behind l a b c d x y z w v all ha hb hc hd h = rw (h, hd, hc, hb, ha) (simp append_assoc)

pub returns : goal.returns
returns c =
    let version = rw (c.from-version.ensures, c.version.ensures) at c.in_ok-add_line.ensures in
    let upem = rw c.upem.ensures at c.in_ok-add_line-2.ensures in
    let line = rw (c.line-ascent.ensures.ascent, c.line-ascent.ensures.descent) at c.in_ok-add_line-3.ensures in
    let height = rw c.x_height.ensures at c.in_ok-add_line-4.ensures in
    on_ok_weaker c.print_overlap.result
    (λ last. behind c.args.lines.now c.add_line.new.self c.add_line-2.new.self c.add_line-3.new.self c.add_line-4.new.self _ _ _ _ _ c.print_overlap.new.lines version upem line
    height (rw c.given_overlap.ensures at last))
    c.print_overlap.ensures
