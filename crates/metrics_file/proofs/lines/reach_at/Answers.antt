use Rattle.std.proofs.Common.{◌≡◌, ◌∙◌, ap, sym, subst, refl, ℕ, zero, suc, ◌≤◌, ◌<◌, List, [], ◌∷◌, length, get_or, slice_get, is_some, IfSome, Some, None, Ok, Bor, SFits, w32, to_z-of_z, rules, arith}
use Rattle.font_metrics.specs.Faults.{◌>>=◌}
use Rattle.metrics_file.specs.Lines.{lent, reach_if_given}
use Rattle.font_metrics.proofs.Steps.{failed}
use Rattle.metrics_file.proofs.lines.reach_at.Goals as goal
use borrow.Author.Tests.{ltb-true, ltb-false}

-- the word at a place, and none past the last
word : (ws : List (Bor (List ℕ))) (n : ℕ) (d : Bor (List ℕ)) → n < length ws → slice_get (lent ws) n ≡ Some (get_or ws n d).now
word [] n d h = absurd (omega arith)
word (w ∷ ws) zero d h = refl
word (w ∷ ws) (suc n) d h = word ws n d (omega arith)

no_word : (ws : List (Bor (List ℕ))) (n : ℕ) → length ws ≤ n → slice_get (lent ws) n ≡ None
no_word [] n h = refl
no_word (w ∷ ws) zero h = absurd (omega arith)
no_word (w ∷ ws) (suc n) h = no_word ws n (omega arith)

pub returns-in-None : goal.returns-in-None
returns-in-None c =
    let words = c.args.words.now in
    let past = ltb-false c.args.place (length words) (sym c.get.ensures.lookup.0 ∙ ap is_some c.in-None.is) in
    ap reach_if_given (sym (no_word words c.args.place past))

pub returns-in_err-reach-in-Some : goal.returns-in_err-reach-in-Some
returns-in_err-reach-in-Some c =
    let words = c.args.words.now in
    let given = c.in-Some.field-0.now in
    let within = ltb-true c.args.place (length words) (sym c.get.ensures.lookup.0 ∙ ap is_some c.in-Some.is) in
    let same = subst (λ o. IfSome o (λ x. x.now ≡ get_or words c.args.place x.now)) c.in-Some.is c.get.ensures.lookup.1 in
    failed c.from_residual.result c.in_err-reach-in-Some.field-0.0 c.from_residual.ensures.1
    ∙ ap (λ step. step >>= λ reach. Ok (Some reach)) (sym c.in_err-reach-in-Some.was ∙ c.reach.ensures)
    ∙ ap reach_if_given (sym (word words c.args.place given within ∙ ap (λ w. Some w.now) (sym same)))

pub returns-in_ok-reach-in-Some : goal.returns-in_ok-reach-in-Some
returns-in_ok-reach-in-Some c =
    let words = c.args.words.now in
    let given = c.in-Some.field-0.now in
    let within = ltb-true c.args.place (length words) (sym c.get.ensures.lookup.0 ∙ ap is_some c.in-Some.is) in
    let same = subst (λ o. IfSome o (λ x. x.now ≡ get_or words c.args.place x.now)) c.in-Some.is c.get.ensures.lookup.1 in
    let fits : SFits w32 c.in_ok-reach-in-Some.field-0 = search rules in
    simp to_z-of_z
    (ap (λ step. step >>= λ reach. Ok (Some reach)) (sym c.in_ok-reach-in-Some.was ∙ c.reach.ensures)
    ∙ ap reach_if_given (sym (word words c.args.place given within ∙ ap (λ w. Some w.now) (sym same))))
