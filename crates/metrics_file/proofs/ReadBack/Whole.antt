-- Reading the print of metrics gives the same metrics.
use Rattle.std.proofs.Common.{◌≡◌, ◌∙◌, ap, sym, refl, subst, ℕ, zero, suc, ◌≤◌, ◌+◌, true, List, [], ◌∷◌, ◌++◌, length, map, flat_map, codes, Option, Some, None, IfSome, IsSome, Ok, arith, zero-add}
use Rattle.std.specs.Fmt.{digits}
use Rattle.std.specs.List.{join_with_byte, list_all, range_with_len}
use Rattle.std.proofs.lemmas.Bool.{and_from}
use Rattle.font_metrics.specs.Faults.{step_map}
use Rattle.font_metrics.specs.Slot.{Words}
use Rattle.font_metrics.specs.Metrics.{MetricsValue, place_of_name}
use Rattle.metrics_file.specs.Print.{version_words, upem_words, line_words, x_height_words, overlap_lines, constant_words, glyph_words, character_words, growth_lines, operator_words, line_text, print_of, PrintReadsBack}
use Rattle.metrics_file.specs.Reading.{lines_of, nothing, is_foreign, words_of, after, after_first, kept, given_from, given_by, fault_or, first_fault_behind, finished, numbered, metrics_or, metrics_of}
use Rattle.font_metrics.specs.Whole.{Given, needed_of, metrics_with}
use Rattle.font_metrics.specs.Tables.{no_tables}
use Rattle.font_metrics.specs.Taken.{IsTaken, IsVersion}
use Rattle.metrics_file.proofs.Forward.{given_from-push}
use Rattle.metrics_file.proofs.ReadBack.Feeds.{are_words, lines-printed}
use Rattle.metrics_file.proofs.ReadBack.Fields.{AreNamed}
use Rattle.metrics_file.proofs.ReadBack.Following.{Follows, follows-append, follows-to, follows-words, constants-follow, glyphs-follow, characters-follow, operators-follow}
use Rattle.metrics_file.proofs.ReadBack.Growing.{AreKnown, grown, grown_to, grows-from, tables-below-zero, tables-below-all}
use Rattle.metrics_file.proofs.ReadBack.Joined.{is_word}
use Rattle.metrics_file.proofs.ReadBack.Printed.{decimal-word}
use Rattle.metrics_file.proofs.ReadBack.Taking.{upem-taken, line-taken, x_height-taken, overlap-taken}

-- ---- lines that follow one another are read without a fault

-- the lines of these words
abbrev joined : List Words → List (List ℕ)
joined ws = map (join_with_byte 32) ws

follows-given : (given end : Given) (ws : List Words) → Follows given ws end → given_from given (joined ws) ≡ end
follows-given given end [] h = h
follows-given given end (words ∷ ws) (next, takes, h) =
    ap (λ step. given_from (kept given step) (joined ws)) takes.1 ∙ follows-given next end ws h

follows-faultless : (first : List ℕ) (before : List (List ℕ)) (given end : Given) (ws : List Words)
    → given_by (first ∷ before) ≡ given → Follows given ws end
    → first_fault_behind (first ∷ before) (joined ws) ≡ None
follows-faultless first before given end [] e h = refl
follows-faultless first before given end (words ∷ ws) e (next, takes, h) =
    let line = join_with_byte 32 words in
    let step : after (given_by (first ∷ before)) line ≡ Ok next = ap (λ g. after g line) e ∙ takes.1 in
    let more : given_by (first ∷ (before ++ line ∷ [])) ≡ next =
    given_from-push (kept (nothing 1) (after_first first)) before line ∙ ap (kept (given_by (first ∷ before))) step in
    rw step (follows-faultless first (before ++ line ∷ []) next end ws more h)

read-whole : (first : List ℕ) (ws : List Words) (given : Given) (m : MetricsValue) → after_first first ≡ Ok (nothing m.version)
    → Follows (nothing m.version) ws given → finished given ≡ Ok m
    → metrics_or (first_fault_behind [] (first ∷ joined ws)) (first ∷ joined ws) ≡ Ok m
read-whole first ws given m start h whole =
    let begins : given_by (first ∷ []) ≡ nothing m.version = ap (kept (nothing 1)) start in
    let all : given_by (first ∷ joined ws) ≡ given =
    ap (λ g. given_from g (joined ws)) begins ∙ follows-given (nothing m.version) given ws h in
    let faultless : first_fault_behind (first ∷ []) (joined ws) ≡ None = follows-faultless first [] (nothing m.version) given ws begins h in
    ap (λ s. metrics_or (fault_or 1 s (first_fault_behind (first ∷ []) (joined ws))) (first ∷ joined ws)) start
    ∙ ap (λ o. metrics_or o (first ∷ joined ws)) faultless
    ∙ ap (λ g. numbered (length (first ∷ joined ws) + 1) (finished g)) all
    ∙ ap (numbered (length (first ∷ joined ws) + 1)) whole

version-taken : (version : ℕ) → IsVersion version
    → after_first (join_with_byte 32 (version_words version)) ≡ Ok (nothing version)
unfolding after_first is_foreign words_of digits
version-taken zero h = absurd (let low = h.low in omega (arith, low))
version-taken (suc zero) h = refl
version-taken (suc (suc zero)) h = refl
version-taken (suc (suc (suc n))) h = absurd (let high = h.high in omega (arith, high))

-- ---- the printed lines follow one another

-- what all lines of a print give
abbrev given_for : MetricsValue → Given
given_for m = record {
  version = m.version;
  upem = Some m.upem;
  line = Some (m.line_ascent, m.line_descent);
  x_height = Some m.x_height;
  overlap = m.overlap;
  constants = m.constants;
  glyphs = m.glyphs;
  characters = m.characters;
  tables = m.tables;
  operators = m.operators;
}

numbers-follow : (m : MetricsValue) → IsTaken m
    → Follows (nothing m.version) (upem_words m.upem ∷ line_words m.line_ascent m.line_descent ∷ x_height_words m.x_height ∷ [])
    (record (nothing m.version) {
      upem = Some m.upem;
      line = Some (m.line_ascent, m.line_descent);
      x_height = Some m.x_height;
    })
numbers-follow m h =
    let one = record (nothing m.version) { upem = Some m.upem } in
    let two = record one { line = Some (m.line_ascent, m.line_descent) } in (
      one,
      upem-taken (nothing m.version) m.upem h.upem_low h.upem_high refl,
      (
        two,
        line-taken one m.line_ascent m.line_descent h.line_ascent h.line_descent refl,
        (record two { x_height = Some m.x_height }, x_height-taken two m.x_height h.x_height refl, refl),
      ),
    )

overlap-follows : (given : Given) (overlap : Option ℕ) → IfSome overlap (λ n. n ≤ 65535)
    → Follows (record given { overlap = None }) (overlap_lines overlap) (record given { overlap = overlap })
overlap-follows given None h = refl
overlap-follows given (Some least) h =
    (record given { overlap = Some least }, overlap-taken (record given { overlap = None }) least h refl, refl)

are-named : (m : MetricsValue) → IsTaken m → AreNamed m.glyphs
are-named m h = record { distinct = h.names; names = λ place low. (h.glyphs place _ low).name }

growth-none : (given : Given) (m : MetricsValue) → grown given m no_tables ≡ grown_to given m 0
growth-none given m = ap (grown given m) (sym (tables-below-zero m.tables))

growth-all : (given : Given) (m : MetricsValue) → IsTaken m
    → grown_to given m (length m.glyphs) ≡ grown given m m.tables
growth-all given m h = ap (grown given m) (tables-below-all (length m.glyphs) m.tables h.tables)

growth-follows : (given : Given) (m : MetricsValue) → IsTaken m → given.version ≡ m.version
    → Follows (grown given m no_tables)
    (flat_map (growth_lines m) (range_with_len 0 (length m.glyphs)))
    (grown given m m.tables)
growth-follows given m h same =
    let count = length m.glyphs in
    let known = subst (λ v. AreKnown v m.tables) (sym same) h.known in
    let grows = grows-from given m 0 count (are-named m h) h.tables known (omega arith) in
    rw (growth-none given m)
    (follows-to (grown_to given m 0) (grown_to given m (0 + count)) _ _
    (ap (grown_to given m) (zero-add count) ∙ growth-all given m h) grows)

-- the lines of a print behind the first
abbrev lines_after_first : MetricsValue → List Words
lines_after_first m =
    (upem_words m.upem ∷ line_words m.line_ascent m.line_descent ∷ x_height_words m.x_height ∷ [])
    ++ overlap_lines m.overlap
    ++ map constant_words m.constants
    ++ map glyph_words m.glyphs
    ++ map (character_words m.glyphs) m.characters
    ++ flat_map (growth_lines m) (range_with_len 0 (length m.glyphs))
    ++ map operator_words m.operators

printed-follows : (m : MetricsValue) → IsTaken m → Follows (nothing m.version) (lines_after_first m) (given_for m)
printed-follows m h =
    let numbers = record (nothing m.version) {
      upem = Some m.upem;
      line = Some (m.line_ascent, m.line_descent);
      x_height = Some m.x_height;
    } in
    let overlap = record numbers { overlap = m.overlap } in
    let constants = record overlap { constants = m.constants } in
    let glyphs = record constants { glyphs = m.glyphs } in
    let characters = record glyphs { characters = m.characters } in
    let growth = grown characters m m.tables in
    let glyph_by_glyph = flat_map (growth_lines m) (range_with_len 0 (length m.glyphs)) in
    let first = upem_words m.upem ∷ line_words m.line_ascent m.line_descent ∷ x_height_words m.x_height ∷ [] in
    let front = first ++ overlap_lines m.overlap in
    let through_constants = front ++ map constant_words m.constants in
    let through_glyphs = through_constants ++ map glyph_words m.glyphs in
    let through_characters = through_glyphs ++ map (character_words m.glyphs) m.characters in
    follows-append (nothing m.version) growth (given_for m) (through_characters ++ glyph_by_glyph)
    (map operator_words m.operators)
    (follows-append (nothing m.version) characters growth through_characters glyph_by_glyph
    (follows-append (nothing m.version) glyphs characters through_glyphs (map (character_words m.glyphs) m.characters)
    (follows-append (nothing m.version) constants glyphs through_constants (map glyph_words m.glyphs)
    (follows-append (nothing m.version) overlap constants front (map constant_words m.constants)
    (follows-append (nothing m.version) numbers overlap first (overlap_lines m.overlap) (numbers-follow m h)
    (overlap-follows numbers m.overlap h.overlap))
    (constants-follow overlap m.constants h.constants h.constants_ordered))
    (glyphs-follow constants m.glyphs h.glyphs h.names h.count))
    (characters-follow glyphs m.characters (are-named m h) h.characters h.characters_ordered))
    (growth-follows characters m h refl))
    (operators-follow growth m.operators h.operators h.operators_distinct)

-- ---- the theorem

whole-given : (m : MetricsValue) (missing : Option ℕ) → IsSome missing
    → step_map (λ needs. metrics_with needs (given_for m))
    (needed_of (Some m.upem) (Some (m.line_ascent, m.line_descent)) (Some m.x_height) missing)
    ≡ Ok m
whole-given m None h = cc
whole-given m (Some place) h = refl

finished-given : (m : MetricsValue) → IsTaken m → finished (given_for m) ≡ Ok m
unfolding finished
finished-given m h = whole-given m (place_of_name m.glyphs (codes "missing")) h.missing

pub print_reads_back : PrintReadsBack
unfolding metrics_of print_of
print_reads_back m h =
    let ws = version_words m.version ∷ lines_after_first m in
    let follows = printed-follows m h in
    let version : list_all is_word (version_words m.version) ≡ true =
    rw (decimal-word m.version (let high = h.version.high in omega (arith, high))) refl in
    let words : are_words ws ≡ true =
    and_from (list_all is_word (version_words m.version)) (are_words (lines_after_first m)) version
    (follows-words (nothing m.version) (given_for m) (lines_after_first m) follows) in
    let cut : lines_of (flat_map line_text ws) ≡ joined ws = lines-printed ws words in
    rw cut
    (read-whole (join_with_byte 32 (version_words m.version)) (lines_after_first m) (given_for m) m (version-taken m.version h.version) follows
    (finished-given m h))
