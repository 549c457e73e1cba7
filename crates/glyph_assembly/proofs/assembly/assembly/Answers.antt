use Rattle.std.proofs.Common.{rules, ℤ, List, ◌≡◌, ◌∙◌, ap, sym, subst, arith, ◌≤◌, ◌^◌, lit<, IfSome, w64, pos, FitsSigned}
use Rattle.std.proofs.lemmas.Int.{ints, to_z-of_z, to_z_pos}
use Rattle.fixed_units.specs.Numbers.{IsWithin}
use Rattle.font_metrics.proofs.Scaling.{back64, within64, size_in}
use Rattle.font_metrics.specs.Metrics.{MetricsValue}
use Rattle.font_metrics.specs.declared.growth.Part.{Part}
use Rattle.op_dictionary.specs.declared.operator.Axis.{Axis}
use Rattle.glyph_assembly.specs.declared.shapes.Shape.TheVariants.{Built}
use Rattle.glyph_assembly.specs.declared.shapes.Shaped.{Shaped}
use Rattle.glyph_assembly.specs.declared.sums.Sums.{Sums}
use Rattle.glyph_assembly.specs.Counts.{pieces, length_of, IsLeastCount, least_count, greatest_overlap}
use Rattle.glyph_assembly.specs.Pieces.{widest_overlap, built_frame}
use Rattle.glyph_assembly.specs.Shaping.{assembly_of}
use Rattle.glyph_assembly.proofs.GreatestOverlap.{IsOverlap, overlap_is, overlap_within, length_in}
use Rattle.glyph_assembly.proofs.Rows.{joined}
use Rattle.glyph_assembly.proofs.assembly.assembly.Goals as goal
use Rattle.glyph_assembly.proofs.assembly.assembly.Goals.{After-least_count-count, After-widest_overlap-widest, After-greatest_overlap-overlap}

-- the assembly over its sums
abbrev at : MetricsValue → List Part → Axis → ℤ → ℤ → Sums → Shaped
at m parts axis t z s =
    let count = least_count s t in
    let overlap = greatest_overlap s t count (widest_overlap m z count parts) in
    record { shape = Built (pos count) (pos overlap); frame = built_frame axis m parts (length_of s count overlap) z }

least : (c : After-least_count-count) → IsLeastCount c.args.sums.now c.args.target c.least_count-count.result
least c = subst (λ t. IsLeastCount c.args.sums.now t c.least_count-count.result) (back64 c.requires.target_in (lit< tt)) c.least_count-count.ensures.least

widest_is : (c : After-widest_overlap-widest)
    → c.widest_overlap-widest.result ≡ widest_overlap c.args.metrics.now c.args.size c.least_count-count.result c.args.parts.now
widest_is c =
    let back = back64 (size_in c.args.size c.requires.size_low c.requires.size_high) (lit< tt) in
    c.widest_overlap-widest.ensures.value ∙ ap (λ z. widest_overlap c.args.metrics.now z c.least_count-count.result c.args.parts.now) back

pub greatest_overlap-overlap-requires-clause-joined : goal.greatest_overlap-overlap-requires-clause-joined
greatest_overlap-overlap-requires-clause-joined c =
    let count = c.least_count-count.result in
    let widest = widest_is (goal.at.greatest_overlap-overlap-requires-clause-joined c).After-widest_overlap-widest in
    subst (λ w. IfSome w (λ _. 2 ≤ pieces c.args.sums.now count)) (sym widest)
    (subst (λ s. IfSome (widest_overlap c.args.metrics.now c.args.size count c.args.parts.now) (λ _. 2 ≤ pieces s count)) (sym c.requires.sums)
    (joined c.args.metrics.now c.args.size count c.args.parts.now))

overlap : (c : After-greatest_overlap-overlap)
    → c.greatest_overlap-overlap.result ≡ greatest_overlap c.args.sums.now c.args.target c.least_count-count.result c.widest_overlap-widest.result
overlap c =
    c.greatest_overlap-overlap.ensures
    ∙ ap (λ t. greatest_overlap c.args.sums.now t c.least_count-count.result c.widest_overlap-widest.result) (back64 c.requires.target_in (lit< tt))

small_overlap : (c : After-greatest_overlap-overlap) → c.greatest_overlap-overlap.result ≤ 2 ^ 32
small_overlap c =
    let count = least (goal.at.After-greatest_overlap-overlap c).After-least_count-count in
    subst (λ o. o ≤ 2 ^ 32) (sym (overlap c))
    (overlap_within (2 ^ 32) c.args.sums.now c.args.target c.least_count-count.result c.widest_overlap-widest.result count.enough
    c.requires.small.overlap c.widest_overlap-widest.ensures.within)

pub length-extent-requires-clause-overlap_in : goal.length-extent-requires-clause-overlap_in
length-extent-requires-clause-overlap_in c = small_overlap c

extent_in : (c : After-greatest_overlap-overlap) → IsWithin (2 ^ 41) (length_of c.args.sums.now c.least_count-count.result c.greatest_overlap-overlap.result)
extent_in c =
    let s = c.args.sums.now in
    let count = least (goal.at.After-greatest_overlap-overlap c).After-least_count-count in
    let is = subst (IsOverlap s c.args.target c.least_count-count.result) (sym (overlap c))
    (overlap_is s c.args.target c.least_count-count.result c.widest_overlap-widest.result count.enough) in
    length_in s c.args.target c.least_count-count.result c.greatest_overlap-overlap.result c.requires.small c.requires.grows c.requires.target_in count is

pub length-extent-requires-clause-within : goal.length-extent-requires-clause-within
length-extent-requires-clause-within c = extent_in (goal.at.length-extent-requires-clause-within c).After-greatest_overlap-overlap

pub built_frame-requires-clause-extent_in : goal.built_frame-requires-clause-extent_in
built_frame-requires-clause-extent_in c =
    within64 (subst (IsWithin (2 ^ 41)) (sym c.length-extent.ensures) (extent_in (goal.at.built_frame-requires-clause-extent_in c).After-greatest_overlap-overlap)) (lit< tt)

pub overflow_cast-result-2 : goal.overflow_cast-result-2
overflow_cast-result-2 c = let l = small_overlap (goal.at.overflow_cast-result-2 c).After-greatest_overlap-overlap in omega (arith, ints)

pub returns-clause-value : goal.returns-clause-value
unfolding assembly_of
returns-clause-value c =
    let m = c.args.metrics.now in
    let s = c.args.sums.now in
    let t = c.args.target in
    let z = c.args.size in
    let parts = c.args.parts.now in
    let axis = c.args.axis in
    let n = c.least_count-count.result in
    let o = c.greatest_overlap-overlap.result in
    let small = small_overlap (goal.at.returns-clause-value c).After-greatest_overlap-overlap in
    let back = back64 (size_in z c.requires.size_low c.requires.size_high) (lit< tt) in
    let fits : FitsSigned w64 c.length-extent.result = search rules in
    let extent = to_z-of_z w64 c.length-extent.result fits ∙ c.length-extent.ensures in
    let count : n ≡ least_count s t = c.least_count-count.ensures.value ∙ ap (least_count s) (back64 c.requires.target_in (lit< tt)) in
    let widest = widest_is (goal.at.returns-clause-value c).After-widest_overlap-widest ∙ ap (λ k. widest_overlap m z k parts) count in
    let over : o ≡ greatest_overlap s t (least_count s t) (widest_overlap m z (least_count s t) parts) =
    overlap (goal.at.returns-clause-value c).After-greatest_overlap-overlap ∙ (λ i. greatest_overlap s t (count i) (widest i)) in
    (λ i. record {
      shape = Built (to_z_pos w64 n (omega (arith, c.least_count-count.ensures.within)) i) (to_z_pos w64 o (omega (arith, small)) i);
      frame = (c.built_frame.ensures.value ∙ (λ k. built_frame axis m parts (extent k) (back k))) i;
    })
    ∙ (λ i. record { shape = Built (pos (count i)) (pos (over i)); frame = built_frame axis m parts (length_of s (count i) (over i)) z })
    ∙ ap (at m parts axis t z) c.requires.sums
