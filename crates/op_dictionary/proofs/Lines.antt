-- The operator lines, and the maps that are kept beside them.
use Rattle.std.proofs.Common.{◌≡◌, ◌&&◌, Bool, true, false, cond, List, [], ◌∷◌, ◌++◌, Option, Some, None, is_some, refl, subst, ap, sym, ◌∙◌, arith}
use Rattle.std.specs.Cmp.{IsEquivalence}
use Rattle.std.specs.List.{All, IsDistinct}
use Rattle.std.specs.Map.{lookup}
use Rattle.std.specs.Option.{option_or}
use Rattle.std.proofs.lemmas.List.Elements.{All-push}
use Rattle.std.proofs.lemmas.Map.Keys.{IsDistinct-push}
use Rattle.op_dictionary.specs.declared.extra.Extra.TheInside.{Inside}
use Rattle.op_dictionary.specs.declared.extra.OperatorLine.{OperatorLine}
use Rattle.op_dictionary.specs.declared.extra.Pair.{Pair}
use Rattle.op_dictionary.specs.declared.operator.Category.{Category}
use Rattle.op_dictionary.specs.declared.text.OpText.{OpText}
use Rattle.op_dictionary.specs.Pairs.{same_text, same_form, IsLineText}
use Rattle.op_dictionary.specs.Dictionary.{line_of, is_named, line_category, line_axis, same_pair, AreDistinct}
use Rattle.op_dictionary.specs.Kept.{same_key, Axes, AddsAxis, IsKept}
use Rattle.op_dictionary.proofs.Found.{found-push, found-any, is_some-option_map}
use Rattle.op_dictionary.proofs.Same.{same_pairs, same_keys}

-- ---- a map after one more entry

none-from_is_some : {X : Type 0} (o : Option X) → is_some o ≡ false → o ≡ None
none-from_is_some None h = refl
none-from_is_some (Some x) h = cc

or_none : {X : Type 0} (o : Option X) → option_or o None ≡ o
or_none None = refl
or_none (Some x) = refl

module _ {K X : Type 0} {e : K → K → Bool} (laws : IsEquivalence e) (old : List (K × X)) (key : K) (x : X) where
  -- what is found under a key is found under one that is the same
  found_alike : (q : K) → e key q ≡ true → lookup (e q) old ≡ lookup (e key) old
  found_alike q h = sym (λ i. lookup (λ k. laws.congr key q k h i) old)

  -- another key finds nothing more
  other_key : (q : K) → e key q ≡ false → option_or (lookup (e q) old) (cond (e q key) (Some x) None) ≡ lookup (e q) old
  other_key q h =
      ap (λ b. option_or (lookup (e q) old) (cond b (Some x) None)) (laws.symm q key ∙ h)
      ∙ or_none (lookup (e q) old)

  -- under a new key
  pub put-new : (new : List (K × X)) → is_some (lookup (e key) old) ≡ false
      → ((q : K) → lookup (e q) new ≡ cond (e key q) (Some x) (lookup (e q) old))
      → (q : K) → lookup (e q) new ≡ option_or (lookup (e q) old) (cond (e q key) (Some x) None)
  put-new new absent put q = put q ∙ by (e key q) refl
    where
      by : (b : Bool) → e key q ≡ b
          → cond b (Some x) (lookup (e q) old) ≡ option_or (lookup (e q) old) (cond (e q key) (Some x) None)
      by true h =
          let none = found_alike q h ∙ none-from_is_some (lookup (e key) old) absent in
          sym (λ i. option_or (none i) (cond ((laws.symm q key ∙ h) i) (Some x) None))
      by false h = sym (other_key q h)

-- ---- one more line

abbrev pair_of : OperatorLine → Pair
pair_of line = record { text = line.text; form = line.form }

-- the categories of pairs stay those of the lines
pub categories-after : (old new : List (Pair × Category)) (lines : List OperatorLine) (line : OperatorLine)
    → ((pair : Pair) → lookup (same_key pair) old ≡ line_category lines pair.text pair.form)
    → is_named lines line.text line.form ≡ false
    → ((pair : Pair) → lookup (same_key pair) new
    ≡ cond (same_key (pair_of line) pair) (Some line.category) (lookup (same_key pair) old))
    → (pair : Pair) → lookup (same_key pair) new ≡ line_category (lines ++ line ∷ []) pair.text pair.form
categories-after old new lines line kept free put pair =
    put-new same_keys old (pair_of line) line.category new
    (ap is_some (kept (pair_of line)) ∙ is_some-option_map (λ l. l.category) (line_of lines line.text line.form) ∙ free)
    put pair
    ∙ ap (λ o. option_or o (cond (same_key pair (pair_of line)) (Some line.category) None)) (kept pair)
    ∙ sym (found-push (λ l. l.category) (λ l. same_text pair.text l.text && same_form pair.form l.form) lines line)

-- the axes of texts stay those of their first lines
pub axes-after : (old new : Axes) (lines : List OperatorLine) (line : OperatorLine)
    → ((text : OpText) → lookup (same_text text) old ≡ line_axis lines text)
    → AddsAxis old new line
    → (text : OpText) → lookup (same_text text) new ≡ line_axis (lines ++ line ∷ []) text
axes-after old new lines line kept adds text =
    adds.added text
    ∙ ap (λ o. option_or o (cond (same_text text line.text) (Some line.axis) None)) (kept text)
    ∙ sym (found-push (λ l. l.axis) (λ l. same_text text l.text) lines line)

-- lines stay distinct where the pair is new
pub distinct-after : (lines : List OperatorLine) (line : OperatorLine) → AreDistinct lines
    → is_named lines line.text line.form ≡ false → AreDistinct (lines ++ line ∷ [])
distinct-after lines line distinct free =
    IsDistinct-push same_pairs lines line distinct (sym (found-any (same_pair line) lines) ∙ free)

-- ---- what is kept

-- of no line
pub kept-none : (extra : Inside) → extra.lines.items ≡ [] → extra.categories.entries ≡ [] → extra.axes.entries ≡ []
    → IsKept extra
unfolding IsDistinct
kept-none extra lines categories axes = record {
  categories = λ pair.
      ap (lookup (same_key pair)) categories ∙ sym (ap (λ l. line_category l pair.text pair.form) lines);
  axes = λ text. ap (lookup (same_text text)) axes ∙ sym (ap (λ l. line_axis l text) lines);
  distinct = subst AreDistinct (sym lines) tt;
  texts = subst (All (λ line. IsLineText line.text)) (sym lines) (λ i line at. absurd (omega (arith, at)));
}

-- of the same lines, by maps in which the same is found
pub kept-same : (extra other : Inside) → IsKept extra → other.lines.items ≡ extra.lines.items
    → ((pair : Pair) → lookup (same_key pair) other.categories.entries ≡ lookup (same_key pair) extra.categories.entries)
    → other.axes.entries ≡ extra.axes.entries → IsKept other
kept-same extra other kept lines categories axes = record {
  categories = λ pair.
      categories pair ∙ kept.categories pair ∙ sym (ap (λ l. line_category l pair.text pair.form) lines);
  axes = λ text. ap (lookup (same_text text)) axes ∙ kept.axes text ∙ sym (ap (λ l. line_axis l text) lines);
  distinct = subst AreDistinct (sym lines) kept.distinct;
  texts = subst (All (λ line. IsLineText line.text)) (sym lines) kept.texts;
}

-- of one more line, under a new pair
pub kept-more : (extra other : Inside) (line : OperatorLine) → IsKept extra → IsLineText line.text
    → is_named extra.lines.items line.text line.form ≡ false
    → other.lines.items ≡ extra.lines.items ++ line ∷ []
    → ((pair : Pair) → lookup (same_key pair) other.categories.entries
    ≡ cond (same_key (pair_of line) pair) (Some line.category) (lookup (same_key pair) extra.categories.entries))
    → AddsAxis extra.axes.entries other.axes.entries line → IsKept other
kept-more extra other line kept text free lines categories axes = record {
  categories = λ pair.
      categories-after extra.categories.entries other.categories.entries extra.lines.items line kept.categories free
      categories pair
      ∙ sym (ap (λ l. line_category l pair.text pair.form) lines);
  axes = λ text.
      axes-after extra.axes.entries other.axes.entries extra.lines.items line kept.axes axes text
      ∙ sym (ap (λ l. line_axis l text) lines);
  distinct = subst AreDistinct (sym lines) (distinct-after extra.lines.items line kept.distinct free);
  texts = subst (All (λ line. IsLineText line.text)) (sym lines)
      (All-push (λ line. IsLineText line.text) extra.lines.items line kept.texts text);
}
