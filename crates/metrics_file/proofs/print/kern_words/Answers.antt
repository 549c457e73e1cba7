use Rattle.std.proofs.Common.{◌≡◌, ◌∙◌, ap, sym, ℕ, ℤ, pos, ◌+◌, ◌<◌, List, [], ◌∷◌, ◌++◌, length, get_or, map, flat_map, take, append_assoc, SFits, w32, w64, to_z, of_z, to_z-of_z, rules}
use Rattle.std.proofs.lemmas.List.{map_push, take_more}
use Rattle.std.proofs.lemmas.List.Concat.{flat_map-append}
use Rattle.std.specs.Fmt.{signed_decimal}
use Rattle.font_metrics.specs.declared.kern.KernStep.{KernStep}
use Rattle.metrics_file.specs.declared.printed.Word.{Word}
use Rattle.metrics_file.specs.declared.printed.Word.TheVariants.{Number}
use Rattle.font_metrics.specs.Slot.{Words}
use Rattle.font_metrics.specs.Texts.{corner_text}
use Rattle.font_metrics.specs.Tables.{step_words}
use Rattle.metrics_file.specs.Print.{word_text}
use Rattle.metrics_file.proofs.Printing.{wide-back}
use Rattle.metrics_file.proofs.print.kern_words.Goals as goal

-- the words of one step more
grown : (old between new : List Word) (front : Words) (steps : List KernStep) (i : ℕ) (d : KernStep) (h v : ℤ) → i < length steps
    → between ≡ old ++ Number h ∷ [] → new ≡ between ++ Number v ∷ [] → h ≡ (get_or steps i d).height → v ≡ (get_or steps i d).value
    → map word_text old ≡ front ++ flat_map step_words (take i steps)
    → map word_text new ≡ front ++ flat_map step_words (take (i + 1) steps)
grown old between new front steps i d h v l b n height value inv =
    let before = flat_map step_words (take i steps) in
    ap (map word_text) n ∙ map_push word_text between (Number v)
    ∙ ap (λ (t : Words). t ++ signed_decimal v ∷ []) (ap (map word_text) b ∙ map_push word_text old (Number h))
    ∙ ap (λ (t : Words). (t ++ signed_decimal h ∷ []) ++ signed_decimal v ∷ []) inv
    ∙ append_assoc (front ++ before) (signed_decimal h ∷ []) (signed_decimal v ∷ [])
    ∙ append_assoc front before (signed_decimal h ∷ signed_decimal v ∷ [])
    ∙ (λ j. front ++ (before ++ (signed_decimal (height j) ∷ signed_decimal (value j) ∷ [])))
    ∙ sym (ap (λ (t : Words). front ++ t)
    (ap (flat_map step_words) (take_more steps i d l) ∙ flat_map-append step_words (take i steps) (get_or steps i d ∷ [])))

pub loop-step-preserved : goal.loop-step-preserved
loop-step-preserved c =
    let steps = c.as_slice-step-items.result.now in
    let i = c.loop-step.step-index in
    let d : KernStep = record { height = pos 0; value = pos 0 } in
    let low : SFits w32 (get_or steps i d).height = search rules in
    let high : SFits w32 (get_or steps i d).value = search rules in
    let height : to_z w64 (of_z w64 c.from-in-loop-step.result) ≡ (get_or steps i d).height =
    ap (λ (z : ℤ). to_z w64 (of_z w64 z)) (c.from-in-loop-step.ensures ∙ to_z-of_z low) ∙ wide-back low in
    let value : to_z w64 (of_z w64 c.from-in-loop-step-2.result) ≡ (get_or steps i d).value =
    ap (λ (z : ℤ). to_z w64 (of_z w64 z)) (c.from-in-loop-step-2.ensures ∙ to_z-of_z high) ∙ wide-back high in
    grown c.loop-step.words.items c.push-in-loop-step.new.self.items c.push-in-loop-step-2.new.self.items
    (c.args.base_name.now ∷ corner_text c.args.corner ∷ signed_decimal c.args.kern.now.lowest ∷ []) steps i d _ _ c.loop-step-test.true
    (c.in_ok-push-4.ensures {u = tt}).items (c.in_ok-push-5.ensures {u = tt}).items height value c.loop-step.invariant
