-- Known bytes and counts over several calls: laws for whoever makes the calls.
use Rattle.std.proofs.Common.{◌≡◌, ℕ, ◌+◌, ◌-◌, List, [], ◌++◌, length, take, drop, ap, sym, ◌∙◌, subst, arith, append_assoc, append-nil, Option, Some, None}
use Rattle.std.proofs.Math.Seq.{take-add}
use Rattle.std.proofs.lemmas.Grind.{common_steps}
use Rattle.std.specs.Io.KnownBytes.{Appends, Consumes, Keeps}

-- and bytes that were kept had nothing appended
pub appends_kept : (a b : Option (List ℕ)) → Keeps a b → Appends a b []
appends_kept None b h = tt
appends_kept (Some a) None h = absurd h
appends_kept (Some a) (Some b) h = h ∙ sym (append-nil a)

-- nothing that is appended keeps them
pub kept_of_nothing : (a b : Option (List ℕ)) → Appends a b [] → Keeps a b
kept_of_nothing None b h = tt
kept_of_nothing (Some a) None h = absurd h
kept_of_nothing (Some a) (Some b) h = h ∙ append-nil a

-- two pieces one after another
pub appends_both : (a b c : Option (List ℕ)) (xs ys : List ℕ) → Appends a b xs → Appends b c ys →
    Appends a c (xs ++ ys)
appends_both None b c xs ys h k = tt
appends_both (Some a) None c xs ys h k = absurd h
appends_both (Some a) (Some b) None xs ys h k = absurd k
appends_both (Some a) (Some b) (Some c) xs ys h k = k ∙ ap (λ l. l ++ ys) h ∙ append_assoc a xs ys

-- a front of a piece, and then a front of its rest
pub appends_fronts : (a b c : Option (List ℕ)) (xs : List ℕ) (m n : ℕ) → Appends a b (take m xs) →
    Appends b c (take n (drop m xs)) → Appends a c (take (m + n) xs)
appends_fronts a b c xs m n h k = subst (Appends a c) (sym (take-add m n xs)) (appends_both a b c (take m xs) (take n (drop m xs)) h k)

-- the rest of a piece, as `&xs[m..]` has it
take_rest : (xs : List ℕ) (m : ℕ) → take (length xs - m) (drop m xs) ≡ drop m xs
take_rest xs m = grind (arith, common_steps)

-- a front of a piece, and then a front of `&xs[m..]`
pub appends_slice : (a b c : Option (List ℕ)) (xs : List ℕ) (m n : ℕ) → Appends a b (take m xs) →
    Appends b c (take n (take (length xs - m) (drop m xs))) → Appends a c (take (m + n) xs)
appends_slice a b c xs m n h k = appends_fronts a b c xs m n h (subst (λ ys. Appends b c (take n ys)) (take_rest xs m) k)

-- two fronts taken one after another
pub consumes_both : (a b c : Option (List ℕ)) (xs ys : List ℕ) → Consumes a b xs → Consumes b c ys →
    Consumes a c (xs ++ ys)
consumes_both None b c xs ys h k = tt
consumes_both (Some a) None c xs ys h k = absurd h
consumes_both (Some a) (Some b) None xs ys h k = absurd k
consumes_both (Some a) (Some b) (Some c) xs ys h k = h ∙ ap (λ l. xs ++ l) k ∙ sym (append_assoc xs ys c)
