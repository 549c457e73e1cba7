use Rattle.std.proofs.Common.{◌≡◌, ◌∙◌, ℕ, ◌+◌, ◌-◌, ◌++◌, List, take, drop, sym, ap, arith}
use Rattle.std.proofs.lemmas.List.{append_assoc}
use Rattle.std.proofs.lemmas.List.Edits.{split_between}
use Rattle.std.specs.List.{between, copy_within}
use Rattle.box_pool.proofs.compact.slide.Goals as goal

-- a part that is copied to where it is changes nothing
in_place : {X : Type 0} (xs : List X) (start count : ℕ) → xs ≡ copy_within xs start (start + count) start
in_place xs start count =
    let end : start + count ≡ start + (start + count - start) = omega arith in
    split_between xs start (start + count) (omega arith)
    ∙ sym (append_assoc (take start xs) (between start (start + count) xs) (drop (start + count) xs))
    ∙ ap (λ (n : ℕ). take start xs ++ take (start + count - start) (drop start xs) ++ drop n xs) end

pub returns-then-to-run : goal.returns-then-to-run
returns-then-to-run c =
    let cells = c.args.cells.now in
    let run = c.args.run in
    let to : run.start ≡ c.args.to = omega arith in
    in_place cells run.start run.count ∙ ap (copy_within cells run.start (run.start + run.count)) to
