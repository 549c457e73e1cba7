-- Printed lines, one after another.
use Rattle.std.proofs.Common.{◌≡◌, ◌∙◌, ap, refl, sym, subst, ℕ, ◌≤◌, ◌<◌, ◌+◌, ℤ, Bool, true, false, List, [], ◌∷◌, ◌++◌, length, map, All, is_some, None, nat_cmp, arith, append_assoc, append-nil, bytes_eq}
use Rattle.std.specs.List.{list_all, IsDistinct, AllByRecursion}
use Rattle.std.specs.List.Sorted.{IsStrictlySortedBy}
use Rattle.std.specs.Map.{keys_of}
use Rattle.std.proofs.lemmas.Bool.{and_from}
use Rattle.std.proofs.lemmas.List.{map-append, length-append}
use Rattle.std.proofs.lemmas.List.Elements.{recursion_from_All}
use Rattle.op_dictionary.specs.declared.extra.OperatorLine.{OperatorLine}
use Rattle.op_dictionary.specs.Dictionary.{is_named, line_of, same_pair, AreDistinct}
use Rattle.font_metrics.specs.Slot.{Words}
use Rattle.font_metrics.specs.Metrics.{NamedGlyph, ByGlyph, items_of, with_item}
use Rattle.metrics_file.specs.Print.{constant_words, glyph_words, character_words, operator_words}
use Rattle.font_metrics.specs.Whole.{Given}
use Rattle.font_metrics.specs.Taken.{IsGlyph, IsConstant, IsCharacter, IsOperatorText, names_of, most_glyphs}
use Rattle.metrics_file.proofs.ReadBack.Feeds.{are_words}
use Rattle.metrics_file.proofs.ReadBack.Fields.{AreNamed}
use Rattle.metrics_file.proofs.ReadBack.Joined.{is_word}
use Rattle.metrics_file.proofs.ReadBack.Names.{at-middle, distinct-before, place_of_name-new}
use Rattle.op_dictionary.proofs.Same.{same_pairs}
use Rattle.font_metrics.proofs.Filled.{AreBelow, sorted-middle, insert-above, lookup-above, with_items, items_of-with_items, with_item-more}
use Rattle.metrics_file.proofs.ReadBack.Taking.{Takes, takes-to, constant-taken, glyph-taken, character-taken, operator-taken}

-- these lines in turn take what was given to this
abbrev pub Follows : Given → List Words → Given → Type 0
Follows given [] end = given ≡ end
Follows given (words ∷ ws) end = (next : Given) × Takes given words next × Follows next ws end

pub follows-append : (given between end : Given) (ws more : List Words) → Follows given ws between
    → Follows between more end
    → Follows given (ws ++ more) end
follows-append given between end [] more h k = rw h k
follows-append given between end (words ∷ ws) more (next, takes, h) k =
    (next, takes, follows-append next between end ws more h k)

pub follows-to : (given end other : Given) (ws : List Words) → end ≡ other → Follows given ws end
    → Follows given ws other
follows-to given end other ws same h = subst (λ (g : Given). Follows given ws g) same h

pub follows-words : (given end : Given) (ws : List Words) → Follows given ws end → are_words ws ≡ true
follows-words given end [] h = refl
follows-words given end (words ∷ ws) (next, takes, h) =
    and_from (list_all is_word words) (are_words ws) takes.0 (follows-words next end ws h)

-- ---- a line for each item of a list

-- what is given behind the items so far goes on with each further one
follows-rest : {X : Type 0} (words : X → Words) (state : List X → Given) (before rest : List X)
    → ((front : List X) (x : X) (back : List X) → front ++ x ∷ back ≡ before ++ rest
    → Takes (state front) (words x) (state (front ++ x ∷ [])))
    → Follows (state before) (map words rest) (state (before ++ rest))
follows-rest words state before [] step = ap state (sym (append-nil before))
follows-rest {X} words state before (x ∷ rest) step =
    let again = append_assoc before (x ∷ []) rest in (
      state (before ++ x ∷ []),
      step before x rest refl,
      follows-to (state (before ++ x ∷ [])) (state ((before ++ x ∷ []) ++ rest)) (state (before ++ x ∷ rest))
          (map words rest) (ap state again)
          (follows-rest words state (before ++ x ∷ []) rest (λ front y back e. step front y back (e ∙ again))),
    )

pub follows-each : {X : Type 0} (words : X → Words) (state : List X → Given) (xs : List X)
    → ((front : List X) (x : X) (back : List X) → front ++ x ∷ back ≡ xs
    → Takes (state front) (words x) (state (front ++ x ∷ [])))
    → Follows (state []) (map words xs) (state xs)
follows-each words state xs step = follows-rest words state [] xs step

-- ---- an item between others

pub all-middle : {X : Type 0} (P : X → Type 0) (xs front : List X) (x : X) (back : List X)
    → front ++ x ∷ back ≡ xs → All P xs
    → P x
all-middle P xs front x back e h =
    at-middle P front x back (recursion_from_All P (front ++ x ∷ back) (rw e h))

pub length-front : {X : Type 0} (xs front : List X) (x : X) (back : List X) → front ++ x ∷ back ≡ xs
    → length front < length xs
length-front xs front x back e =
    let whole : length xs ≡ length front + length (x ∷ back) = ap length (sym e) ∙ length-append front (x ∷ back) in
    omega arith

-- what stands before an item of a list without repeats
distinct-middle : {X K : Type 0} (key : X → K) (test : K → K → Bool) (xs front : List X) (x : X) (back : List X)
    → front ++ x ∷ back ≡ xs → IsDistinct test (map key xs)
    → AllByRecursion (λ k. test k (key x) ≡ false) (map key front)
distinct-middle {X} {K} key test xs front x back same h =
    distinct-before test (map key front) (key x) (map key back)
    (subst (λ (keys : List K). IsDistinct test keys)
    (ap (map key) (sym same) ∙ map-append key front (x ∷ back)) h)

-- ---- constants, glyphs, characters

pub constants-follow : (given : Given) (constants : List (ℕ × ℤ)) → All IsConstant constants
    → IsStrictlySortedBy nat_cmp (keys_of constants)
    → Follows (record given { constants = [] }) (map constant_words constants)
    (record given { constants = constants })
constants-follow given constants h sorted =
    follows-each constant_words (λ front. record given { constants = front }) constants
    (λ front c back e.
    let below = sorted-middle constants front c back e sorted in
    let had = record given { constants = front } in
    takes-to had (constant_words c) _ _
    (ap (λ t. record given { constants = t }) (insert-above front c.0 c.1 below))
    (constant-taken had c (all-middle IsConstant constants front c back e h) (lookup-above front c.0 below)))

pub glyphs-follow : (given : Given) (glyphs : List NamedGlyph) → All IsGlyph glyphs
    → IsDistinct bytes_eq (names_of glyphs) → length glyphs ≤ most_glyphs
    → Follows (record given { glyphs = [] }) (map glyph_words glyphs) (record given { glyphs = glyphs })
glyphs-follow given glyphs h distinct few =
    follows-each glyph_words (λ front. record given { glyphs = front }) glyphs
    (λ front g back e.
    let room = length-front glyphs front g back e in
    glyph-taken (record given { glyphs = front }) g (all-middle IsGlyph glyphs front g back e h)
    (place_of_name-new front g.name (distinct-middle (λ g. g.name) bytes_eq glyphs front g back e distinct))
    (omega (arith, room)))

pub characters-follow : (given : Given) (characters : List (ℕ × ℕ)) → AreNamed given.glyphs
    → All (IsCharacter (length given.glyphs)) characters → IsStrictlySortedBy nat_cmp (keys_of characters)
    → Follows (record given { characters = [] }) (map (character_words given.glyphs) characters)
    (record given { characters = characters })
characters-follow given characters n h sorted =
    follows-each (character_words given.glyphs) (λ front. record given { characters = front }) characters
    (λ front c back e.
    let below = sorted-middle characters front c back e sorted in
    let had = record given { characters = front } in
    takes-to had (character_words given.glyphs c) _ _
    (ap (λ t. record given { characters = t }) (insert-above front c.0 c.1 below))
    (character-taken had c n (all-middle (IsCharacter (length given.glyphs)) characters front c back e h)
    (lookup-above front c.0 below)))

-- ---- operators

not-named : (lines : List OperatorLine) (line : OperatorLine)
    → AllByRecursion (λ other. same_pair other line ≡ false) lines
    → line_of lines line.text line.form ≡ None
not-named [] line h = refl
not-named (other ∷ lines) line h = rw (same_pairs.symm line other ∙ h.0, not-named lines line h.1) refl

operator-new : (lines front : List OperatorLine) (line : OperatorLine) (back : List OperatorLine)
    → front ++ line ∷ back ≡ lines → AreDistinct lines
    → is_named front line.text line.form ≡ false
operator-new lines front line back e distinct =
    ap is_some (not-named front line (distinct-before same_pair front line back (rw e distinct)))

pub operators-follow : (given : Given) (operators : List OperatorLine)
    → All (λ line. IsOperatorText line.text) operators → AreDistinct operators
    → Follows (record given { operators = [] }) (map operator_words operators)
    (record given { operators = operators })
operators-follow given operators h distinct =
    follows-each operator_words (λ front. record given { operators = front }) operators
    (λ front line back e.
    operator-taken (record given { operators = front }) line
    (all-middle (λ line. IsOperatorText line.text) operators front line back e h)
    (operator-new operators front line back e distinct))

-- ---- the items of one place

-- they go into a table behind all other places, where a line for an item adds it there
pub items-follow : {X : Type 0} (put : ByGlyph X → Given) (words : X → Words) (most : ℕ) (Is : X → Type 0)
    (table : ByGlyph X) (place : ℕ) (items : List X)
    → AreBelow place table
    → ((had : ByGlyph X) (x : X) → Is x → length (items_of had place) < most
    → Takes (put had) (words x) (put (with_item had place x)))
    → All Is items → length items ≤ most
    → Follows (put table) (map words items) (put (with_items table place items))
items-follow put words most Is table place items below adds h few =
    follows-each words (λ front. put (with_items table place front)) items
    (λ front x back e.
    let had = items_of-with_items table place front below in
    let room = length-front items front x back e in
    let free : length (items_of (with_items table place front) place) < most = rw had (omega (arith, room)) in
    takes-to (put (with_items table place front)) (words x) _ _ (ap put (with_item-more table place front x below))
    (adds (with_items table place front) x (all-middle Is items front x back e h) free))
