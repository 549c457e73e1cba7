-- What a wave asks, one child after the other, and how often a child is asked.
use Rattle.std.proofs.Common.{◌≡◌, ◌∙◌, refl, sym, ap, ℕ, suc, add-one, ◌+◌, ◌<◌, arith, List, [], ◌∷◌, ◌++◌, append_assoc, length, get_or, take, add-zero, Option}
use Rattle.std.proofs.lemmas.List.{append-nil, length-take-le}
use Rattle.std.proofs.Math.Seq.{take-suc}
use Rattle.fixed_units.specs.declared.pull.Pull.{Pull}
use Rattle.row_stretch.specs.declared.asking.Plan.{Plan}
use Rattle.row_stretch.specs.declared.parts.Ask.{Ask}
use Rattle.row_stretch.specs.declared.parts.KidPull.{KidPull}
use Rattle.row_stretch.specs.Questions.{planned, ask_of, asks_from}

-- ---- one child more
pub asks_from-none : (p : ℕ) (plan : Plan) → asks_from p plan [] ≡ []
unfolding asks_from
asks_from-none p plan = refl

asks_from-append : (p : ℕ) (plan : Plan) (xs ys : List KidPull)
    → asks_from p plan (xs ++ ys) ≡ asks_from p plan xs ++ asks_from (p + length xs) plan ys
unfolding asks_from
asks_from-append p plan [] ys = rw add-zero refl
asks_from-append p plan (x ∷ xs) ys =
    let e : p + 1 + length xs ≡ p + suc (length xs) = omega arith in
    ap (λ rest. ask_of p (planned plan x) ++ rest) (asks_from-append (p + 1) plan xs ys ∙ ap (λ (n : ℕ). asks_from (p + 1) plan xs ++ asks_from n plan ys) e)
    ∙ sym (append_assoc (ask_of p (planned plan x)) (asks_from (p + 1) plan xs) (asks_from (p + suc (length xs)) plan ys))

asks_from-one : (p : ℕ) (plan : Plan) (x : KidPull) → asks_from p plan (x ∷ []) ≡ ask_of p (planned plan x)
unfolding asks_from
asks_from-one p plan x = append-nil (ask_of p (planned plan x))

asks_from-add_one : (p : ℕ) (plan : Plan) (kids : List KidPull) (i : ℕ) (d : KidPull) → i < length kids
    → asks_from p plan (take (i + 1) kids) ≡ asks_from p plan (take i kids) ++ ask_of (p + i) (planned plan (get_or kids i d))
asks_from-add_one p plan kids i d l =
    let more : take (i + 1) kids ≡ take i kids ++ (get_or kids i d ∷ []) = rw add-one (take-suc kids i d l) in
    let long : length (take i kids) ≡ i = length-take-le i kids (omega arith) in
    ap (asks_from p plan) more ∙ asks_from-append p plan (take i kids) (get_or kids i d ∷ [])
    ∙ ap (λ (n : ℕ). asks_from p plan (take i kids) ++ asks_from (p + n) plan (get_or kids i d ∷ [])) long
    ∙ ap (λ rest. asks_from p plan (take i kids) ++ rest) (asks_from-one (p + i) plan (get_or kids i d))

-- a question more, or none
pub one_more : (p : ℕ) (plan : Plan) (kids : List KidPull) (i : ℕ) (d : KidPull) (start before after : List Ask) (next : ℕ) (pull : Option Pull)
    → i < length kids → before ≡ start ++ asks_from p plan (take i kids) → next ≡ p + i → pull ≡ planned plan (get_or kids i d)
    → after ≡ before ++ ask_of next pull → after ≡ start ++ asks_from p plan (take (i + 1) kids)
one_more p plan kids i d start before after next pull l so_far place is added =
    added ∙ (λ k. so_far k ++ ask_of (place k) (is k))
    ∙ append_assoc start (asks_from p plan (take i kids)) (ask_of (p + i) (planned plan (get_or kids i d)))
    ∙ ap (λ asks. start ++ asks) (sym (asks_from-add_one p plan kids i d l))
