use Rattle.std.proofs.Common.{None, ◌≡◌, ◌∙◌, sym, refl, ℕ, ◌≤◌, ◌<◌, List, [], ◌∷◌, length, get_or, Bor, arith}
use Rattle.metrics_file.specs.Lines.{lent}
use Rattle.metrics_file.specs.Reading.{first_of, version_in}
use Rattle.metrics_file.proofs.reader.version_in.Goals as goal

-- two words
words : (ws : List (Bor (List ℕ))) (d : Bor (List ℕ)) → 2 ≤ length ws → length ws < 3
    → version_in (lent ws) ≡ first_of (get_or ws 0 d).now (get_or ws 1 d).now
words [] d h k = absurd (omega arith)
words (a ∷ []) d h k = absurd (omega arith)
words (a ∷ b ∷ []) d h k = refl
words (a ∷ b ∷ c ∷ ws) d h k = absurd (omega arith)

-- fewer words
fewer : (ws : List (Bor (List ℕ))) → length ws < 2 → version_in (lent ws) ≡ None
fewer [] h = refl
fewer (a ∷ []) h = refl
fewer (a ∷ b ∷ ws) h = absurd (omega arith)

-- more words
more : (ws : List (Bor (List ℕ))) → 3 ≤ length ws → version_in (lent ws) ≡ None
more [] h = absurd (omega arith)
more (a ∷ []) h = absurd (omega arith)
more (a ∷ b ∷ []) h = absurd (omega arith)
more (a ∷ b ∷ c ∷ ws) h = refl

pub returns-in-len2 : goal.returns-in-len2
returns-in-len2 c = c.first_of.ensures ∙ sym (words c.args.words.now _ c.in-len2.len_at_least c.in-len2.len_below)

pub returns-in_default : goal.returns-in_default
returns-in_default c = sym (fewer c.args.words.now c.in_default.len_below)

pub returns-in_default-2 : goal.returns-in_default-2
returns-in_default-2 c = sym (more c.args.words.now c.in_default.len_at_least)
