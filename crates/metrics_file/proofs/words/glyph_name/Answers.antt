use Rattle.std.proofs.Common.{◌≡◌, ◌∙◌, ap, sym, Bor, List, ℕ, Result, Ok, Err, true, not}
use Rattle.std.specs.Result.{MatchResult}
use Rattle.std.specs.Str.{IsUtf8}
use Rattle.font_metrics.specs.declared.fault.LineFault.TheVariants.{WrongWord}
use Rattle.font_metrics.specs.Faults.{Step, step_map, fault_if, ◌>>=◌}
use Rattle.font_metrics.specs.Names.{is_name}
use Rattle.metrics_file.specs.Words.{name_in}
use Rattle.metrics_file.proofs.Names.{name_is_text}
use Rattle.metrics_file.proofs.words.glyph_name.Goals as goal

-- bytes that are text are read
read : {E : Type 0} (P Q : E → Type 0) (r : Result (Bor (List ℕ)) E) (given : Step (Bor (List ℕ))) (word : List ℕ) → IsUtf8 word
    → MatchResult r (λ s. (s.now ≡ word) × IsUtf8 word) (λ e. (IsUtf8 word → ⊥) × P e)
    → MatchResult r (λ s. given ≡ Ok s) Q → step_map (λ s. s.now) given ≡ Ok word
read P Q (Ok s) given word is h k = ap (step_map (λ s. s.now)) k ∙ ap (λ t. Ok t) h.0
read P Q (Err e) given word is h k = absurd (h.0 is)

pub returns-then-is_name : goal.returns-then-is_name
unfolding name_in
returns-then-is_name c =
    let word = c.args.word.now in
    let named : is_name word ≡ true = sym c.is_name.ensures ∙ c.if-is_name.true in
    read _ _ c.from_utf8.result c.map_err.result word (name_is_text word named) c.from_utf8.ensures.cases c.map_err.ensures.cases
    ∙ ap (λ b. fault_if (not b) WrongWord >>= λ form. Ok word) (sym named)
