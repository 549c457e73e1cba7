-- The laws of metrics files.
use Rattle.std.proofs.Common.{◌≡◌, ◌∙◌, sym, ap, refl, subst, ℕ, ◌+◌, ◌<◌, Bool, true, false, not, List, [], ◌∷◌, ◌++◌, length, codes, Option, Some, None, is_some, Result, Ok, Err, position, drop, take, arith, lit<, inl, inr, ◌⊎◌, if◌then◌else◌}
use Rattle.std.specs.Str.Lines.{lines, strip_carriage_return}
use Rattle.font_metrics.specs.declared.constants.ConstName.{ConstName}
use Rattle.font_metrics.specs.declared.constants.ConstName.TheVariants.{ScriptPercentScaleDown}
use Rattle.font_metrics.specs.declared.fault.LineFault.{LineFault}
use Rattle.font_metrics.specs.declared.fault.LineFault.TheVariants.{ForeignByte, NoUpem, NoLine, NoXHeight, NoMissing}
use Rattle.font_metrics.specs.declared.given.Needed.{Needed}
use Rattle.font_metrics.specs.declared.table.Table.{Table}
use Rattle.font_metrics.specs.Constants.{place_of_constant}
use Rattle.font_metrics.specs.Faults.{Step, ◌>>=◌, step_map, fault_if}
use Rattle.metrics_file.specs.Laws.{upem_said, line_said, x_height_said, glyph_said, said, listed, allowed_behind, words_say, line_says, Say, SayAll, AreSaid, MetricsLaw, IsFirstFault, lacking, EndsWithout, FaultLaw, TakenLaw, ConstantLaw}
use Rattle.font_metrics.specs.Slot.{Words}
use Rattle.metrics_file.specs.Lines.{Item, keyword_of, known_in, item_in}
use Rattle.font_metrics.specs.Metrics.{MetricsValue, place_of_name, items_of}
use Rattle.metrics_file.specs.Reading.{Fault, fault_at, nothing, allowed, put, is_foreign, is_comment, first_in, words_of, after_words, after, after_first, finished, numbered, lines_of, metrics_of}
use Rattle.font_metrics.specs.Whole.{Given, needed_of, needed, metrics_with, IsGiven}
use Rattle.font_metrics.specs.Tables.{entries}
use Rattle.font_metrics.specs.Taken.{IsTaken}
use Rattle.metrics_file.proofs.Cuts.{is_feed, last_line, next_line}
use Rattle.font_metrics.proofs.Finish.{needs_are, taken_of}
use Rattle.metrics_file.proofs.Forward.{continued, from_line, from_first}
use Rattle.metrics_file.proofs.LookBack.{Grows, grows-append, IsSaid, is_said_by, some_is_said, allowed-same}
use Rattle.metrics_file.proofs.Ranges.{after_keeps, first_version, nothing_given}
use Rattle.metrics_file.proofs.ReadBack.Choices.{place_of_text-constant}
use Rattle.font_metrics.proofs.Steps.{same_Ok, had, mapped}

-- ---- what a line gives is what it says

abbrev put_all : Given → List Item → Given
put_all g [] = g
put_all g (item ∷ items) = put_all (put g item) items

words-same : (version : ℕ) (items : List Item) (g : Given) (words : Words) → IsSaid version items g
    → after_words g words ≡ (words_say version items words >>= λ more. Ok (put_all g more))
words-same version items g [] h = refl
words-same version items g (word ∷ fields) h =
    (λ i. item_in (h.glyphs i) (known_in (h.version i) (keyword_of word)) fields >>= λ item. allowed g item >>= λ free. Ok (put g item))
    ∙ by (item_in (said glyph_said items) (known_in version (keyword_of word)) fields)
  where
    by_free : (item : Item) (s : Step (Unit {0}))
        → (s >>= λ free. Ok (put g item)) ≡ ((s >>= λ free. Ok (item ∷ [])) >>= λ more. Ok (put_all g more))
    by_free item (Err fault) = refl
    by_free item (Ok u) = refl

    by : (s : Step Item)
        → (s >>= λ item. allowed g item >>= λ free. Ok (put g item))
        ≡ ((s >>= λ item. allowed_behind items item >>= λ free. Ok (item ∷ [])) >>= λ more. Ok (put_all g more))
    by (Err fault) = refl
    by (Ok item) =
        ap (λ (s : Step (Unit {0})). s >>= λ free. Ok (put g item)) (allowed-same version items g item h)
        ∙ by_free item (allowed_behind items item)

line-same : (version : ℕ) (items : List Item) (g : Given) (line : List ℕ) → IsSaid version items g
    → after g line ≡ (line_says version items line >>= λ more. Ok (put_all g more))
unfolding after
line-same version items g line h =
    by (fault_if (is_foreign line) ForeignByte) (is_comment line) (words-same version items g (words_of line) h)
  where
    by : (s : Step (Unit {0})) (b : Bool)
        → after_words g (words_of line) ≡ (words_say version items (words_of line) >>= λ more. Ok (put_all g more))
        → (s >>= λ plain. if b then Ok g else after_words g (words_of line))
        ≡ ((s >>= λ plain. if b then Ok [] else words_say version items (words_of line)) >>= λ more. Ok (put_all g more))
    by (Err fault) b e = refl
    by (Ok u) true e = refl
    by (Ok u) false e = e

words-grow : (version : ℕ) (items : List Item) (g : Given) (words : Words) (more : List Item) → IsSaid version items g
    → words_say version items words ≡ Ok more → Grows g more (put_all g more)
words-grow version items g [] more h e = subst (λ (m : List Item). Grows g m (put_all g m)) (same_Ok [] more e) refl
words-grow version items g (word ∷ fields) more h e =
    let i = had (item_in (said glyph_said items) (known_in version (keyword_of word)) fields) _ more e in
    let f = had (allowed_behind items i.0) _ more i.2 in
    subst (λ (m : List Item). Grows g m (put_all g m)) (same_Ok (i.0 ∷ []) more f.2)
    (allowed-same version items g i.0 h ∙ f.1, refl)

line-grow : (version : ℕ) (items : List Item) (g : Given) (line : List ℕ) (more : List Item) → IsSaid version items g
    → line_says version items line ≡ Ok more → Grows g more (put_all g more)
line-grow version items g line more h e =
    let plain = had (fault_if (is_foreign line) ForeignByte) _ more e in
    by (is_comment line) plain.2
  where
    by : (b : Bool) → (if b then Ok [] else words_say version items (words_of line)) ≡ Ok more → Grows g more (put_all g more)
    by true k = subst (λ (m : List Item). Grows g m (put_all g m)) (same_Ok [] more k) refl
    by false k = words-grow version items g (words_of line) more h k

-- ---- the first line

first_cut : (bytes : List ℕ) → (first : List ℕ) × (rest : List (List ℕ)) × (lines_of bytes ≡ first ∷ rest)
first_cut bytes = by (position is_feed bytes) refl
  where
    by : (o : Option ℕ) → position is_feed bytes ≡ o
        → (first : List ℕ) × (rest : List (List ℕ)) × (lines_of bytes ≡ first ∷ rest)
    by None e = (bytes, lines [], last_line bytes e)
    by (Some i) e = (strip_carriage_return (take i bytes), lines (drop (i + 1) bytes), next_line bytes i e)

first-same : (line : List ℕ) → after_first line ≡ (first_in line >>= λ version. Ok (nothing version))
unfolding after_first
first-same line = refl

-- a file by its first line and the others
from_start : (bytes first : List ℕ) (rest : List (List ℕ)) → lines_of bytes ≡ first ∷ rest
    → metrics_of bytes ≡ continued 1 (first_in first >>= λ version. Ok (nothing version)) (λ next. from_line 1 next rest)
from_start bytes first rest h =
    from_first bytes first rest h ∙ ap (λ s. continued 1 s (λ next. from_line 1 next rest)) (first-same first)

-- ---- a file that gives metrics

abbrev Read : Type 0
Read = Result MetricsValue Fault

no_metrics : {A : Type 0} (f : Fault) (m : MetricsValue) → ◌≡◌ {A = Read} (Err f) (Ok m) → A
no_metrics f m h = let none : ⊥ = cc in absurd none

no_fault : {A : Type 0} (f : Fault) (m : MetricsValue) → ◌≡◌ {A = Read} (Ok m) (Err f) → A
no_fault f m h = let none : ⊥ = cc in absurd none

same_metrics : (m n : MetricsValue) → ◌≡◌ {A = Read} (Ok m) (Ok n) → m ≡ n
same_metrics m n h = cc

same_fault : (f g : Fault) → ◌≡◌ {A = Read} (Err f) (Err g) → f ≡ g
same_fault f g h = cc

ended : (number : ℕ) (s : Step MetricsValue) (m : MetricsValue) → numbered number s ≡ Ok m → s ≡ Ok m
ended number (Ok n) m h = ap (λ m. Ok m) (same_metrics n m h)
ended number (Err fault) m h = no_metrics (fault_at number fault) m h

tables-said : (n : Needed) (g : Given) (t : Table) (place : ℕ)
    → items_of (entries t (metrics_with n g).tables) place ≡ items_of (entries t g.tables) place
tables-said n g t place = refl

are_said : (version : ℕ) (items : List Item) (g : Given) (n : Needed) → IsSaid version items g → needed g ≡ Ok n
    → AreSaid items (metrics_with n g)
are_said version items g n is e =
    let there = needs_are g n e in
    record {
      upem = ap listed (sym there.upem) ∙ is.upem;
      line = ap listed (sym there.line) ∙ is.line;
      x_height = ap listed (sym there.x_height) ∙ is.x_height;
      overlap = is.overlap;
      constants = is.constants;
      glyphs = is.glyphs;
      characters = is.characters;
      tables = λ t place. tables-said n g t place ∙ is.tables t place;
      operators = is.operators;
    }

finished_with : (g : Given) (m : MetricsValue) → finished g ≡ Ok m
    → (n : Needed) × (needed g ≡ Ok n) × (metrics_with n g ≡ m)
unfolding finished
finished_with g m h = mapped (λ n. metrics_with n g) (needed g) m h

lines-said : (version number : ℕ) (g : Given) (items : List Item) (rest : List (List ℕ)) (m : MetricsValue)
    → Grows (nothing version) items g → from_line number g rest ≡ Ok m
    → (all : List Item) × Say version items rest all × AreSaid all m × (m.version ≡ version)
lines-said version number g items [] m h e =
    let n = finished_with g m (ended (number + 1) (finished g) m e) in
    let is = is_said_by version items g h in
    (items, refl, subst (AreSaid items) n.2 (are_said version items g n.0 is n.1), ap (λ (m : MetricsValue). m.version) (sym n.2) ∙ is.version)
lines-said version number g items (line ∷ rest) m h e =
    let is = is_said_by version items g h in
    by (line_says version items line) refl
    (ap (λ s. continued (number + 1) s (λ next. from_line (number + 1) next rest)) (sym (line-same version items g line is)) ∙ e)
    (λ more k. lines-said version (number + 1) (put_all g more) (items ++ more) rest m (grows-append (nothing version) g (put_all g more) items more h (line-grow version items g line more is k)))
  where
    by : (s : Step (List Item)) → line_says version items line ≡ s
        → continued (number + 1) (s >>= λ more. Ok (put_all g more)) (λ next. from_line (number + 1) next rest) ≡ Ok m
        → ((more : List Item) → line_says version items line ≡ Ok more → from_line (number + 1) (put_all g more) rest ≡ Ok m
        → (all : List Item) × Say version (items ++ more) rest all × AreSaid all m × (m.version ≡ version))
        → (all : List Item) × Say version items (line ∷ rest) all × AreSaid all m × (m.version ≡ version)
    by (Err fault) k e go = no_metrics (fault_at (number + 1) fault) m e
    by (Ok more) k e go = let all = go more k e in (all.0, (more, k, all.1), all.2, all.3)

pub metrics_are_said : MetricsLaw
metrics_are_said bytes m e =
    let cut = first_cut bytes in
    by cut.0 cut.1 cut.2 (first_in cut.0) refl (sym (from_start bytes cut.0 cut.1 cut.2) ∙ e)
  where
    by : (first : List ℕ) (rest : List (List ℕ)) → lines_of bytes ≡ first ∷ rest
        → (s : Step ℕ) → first_in first ≡ s
        → continued 1 (s >>= λ version. Ok (nothing version)) (λ next. from_line 1 next rest) ≡ Ok m
        → (items : List Item) × SayAll m.version (lines_of bytes) items × AreSaid items m
    by first rest cut (Err fault) k e = no_metrics (fault_at 1 fault) m e
    by first rest cut (Ok version) k e =
        let all = lines-said version 1 (nothing version) [] rest m refl e in (
          all.0,
          subst (λ (l : List (List ℕ)). SayAll m.version l all.0) (sym cut)
              (subst (λ v. SayAll v (first ∷ rest) all.0) (sym all.3) (k, all.1)),
          all.2,
        )

-- ---- the fault of a file

record FaultBehind (version number : ℕ) (items : List Item) (rest : List (List ℕ)) (f : Fault) : Type 0 where
  before : List (List ℕ)
  line : List ℕ
  after : List (List ℕ)
  all : List Item
  cut : rest ≡ before ++ line ∷ after
  faultless : Say version items before all
  fault : line_says version all line ≡ Err f.fault
  told : f.line ≡ number + length before + 1

record EndBehind (version number : ℕ) (items : List Item) (rest : List (List ℕ)) (f : Fault) : Type 0 where
  all : List Item
  faultless : Say version items rest all
  fault : lacking all ≡ Err f.fault
  told : f.line ≡ number + length rest + 1

same_Err : {X : Type 0} (a b : LineFault) → ◌≡◌ {A = Step X} (Err a) (Err b) → a ≡ b
same_Err a b h = cc

no_Err : {X A : Type 0} (x : X) (b : LineFault) → ◌≡◌ {A = Step X} (Ok x) (Err b) → A
no_Err x b h = let none : ⊥ = cc in absurd none

lacks : (u : Option ℕ) (l : Option (ℕ × ℕ)) (x p : Option ℕ) (fault : LineFault) → needed_of u l x p ≡ Err fault
    → (fault_if (not (is_some u)) NoUpem >>= λ a. fault_if (not (is_some l)) NoLine >>= λ b.
    fault_if (not (is_some x)) NoXHeight >>= λ c. fault_if (not (is_some p)) NoMissing) ≡ Err fault
lacks None l x p fault h = ap (λ f. Err f) (same_Err NoUpem fault h)
lacks (Some u) None x p fault h = ap (λ f. Err f) (same_Err NoLine fault h)
lacks (Some u) (Some l) None p fault h = ap (λ f. Err f) (same_Err NoXHeight fault h)
lacks (Some u) (Some l) (Some x) None fault h = ap (λ f. Err f) (same_Err NoMissing fault h)
lacks (Some u) (Some l) (Some x) (Some p) fault h = no_Err _ fault h

lacking-same : (version : ℕ) (items : List Item) (g : Given) (fault : LineFault) → IsSaid version items g → needed g ≡ Err fault
    → lacking items ≡ Err fault
lacking-same version items g fault is h =
    let u = some_is_said g.upem (said upem_said items) is.upem in
    let l = some_is_said g.line (said line_said items) is.line in
    let x = some_is_said g.x_height (said x_height_said items) is.x_height in
    (λ i. fault_if (not (sym u i)) NoUpem >>= λ a. fault_if (not (sym l i)) NoLine >>= λ b.
    fault_if (not (sym x i)) NoXHeight >>= λ c.
    fault_if (not (is_some (place_of_name (sym is.glyphs i) (codes "missing")))) NoMissing)
    ∙ lacks g.upem g.line g.x_height (place_of_name g.glyphs (codes "missing")) fault h

finished_without : (g : Given) (number : ℕ) (f : Fault) → numbered number (finished g) ≡ Err f
    → (fault : LineFault) × (needed g ≡ Err fault) × (fault_at number fault ≡ f)
unfolding finished
finished_without g number f h = by (needed g) refl h
  where
    by : (s : Step Needed) → needed g ≡ s
        → numbered number (step_map (λ n. metrics_with n g) s) ≡ Err f
        → (fault : LineFault) × (needed g ≡ Err fault) × (fault_at number fault ≡ f)
    by (Ok n) e k = no_fault f (metrics_with n g) k
    by (Err fault) e k = (fault, e, same_fault (fault_at number fault) f k)

lines-fault : (version number : ℕ) (g : Given) (items : List Item) (rest : List (List ℕ)) (f : Fault)
    → Grows (nothing version) items g → from_line number g rest ≡ Err f
    → FaultBehind version number items rest f ⊎ EndBehind version number items rest f
lines-fault version number g items [] f h e =
    let n = finished_without g (number + 1) f e in
    inr (record {
      all = items;
      faultless = refl;
      fault = lacking-same version items g n.0 (is_said_by version items g h) n.1 ∙ ap (λ (f : Fault). Err f.fault) n.2;
      told = let at : f.line ≡ number + 1 = ap (λ (f : Fault). f.line) (sym n.2) in omega (arith, at);
    })
lines-fault version number g items (line ∷ rest) f h e =
    let is = is_said_by version items g h in
    by (line_says version items line) refl
    (ap (λ s. continued (number + 1) s (λ next. from_line (number + 1) next rest)) (sym (line-same version items g line is)) ∙ e)
    (λ more k. lines-fault version (number + 1) (put_all g more) (items ++ more) rest f (grows-append (nothing version) g (put_all g more) items more h (line-grow version items g line more is k)))
  where
    further : (more : List Item) → line_says version items line ≡ Ok more
        → FaultBehind version (number + 1) (items ++ more) rest f ⊎ EndBehind version (number + 1) (items ++ more) rest f
        → FaultBehind version number items (line ∷ rest) f ⊎ EndBehind version number items (line ∷ rest) f
    further more k (inl r) =
        inl (record {
          before = line ∷ r.before;
          line = r.line;
          after = r.after;
          all = r.all;
          cut = ap (λ l. line ∷ l) r.cut;
          faultless = (more, k, r.faultless);
          fault = r.fault;
          told = let at = r.told in omega (arith, at);
        })
    further more k (inr r) =
        inr (record {
          all = r.all;
          faultless = (more, k, r.faultless);
          fault = r.fault;
          told = let at = r.told in omega (arith, at);
        })

    by : (s : Step (List Item)) → line_says version items line ≡ s
        → continued (number + 1) (s >>= λ more. Ok (put_all g more)) (λ next. from_line (number + 1) next rest) ≡ Err f
        → ((more : List Item) → line_says version items line ≡ Ok more → from_line (number + 1) (put_all g more) rest ≡ Err f
        → FaultBehind version (number + 1) (items ++ more) rest f ⊎ EndBehind version (number + 1) (items ++ more) rest f)
        → FaultBehind version number items (line ∷ rest) f ⊎ EndBehind version number items (line ∷ rest) f
    by (Err fault) k e go =
        let same = same_fault (fault_at (number + 1) fault) f e in
        inl (record {
          before = [];
          line = line;
          after = rest;
          all = items;
          cut = refl;
          faultless = refl;
          fault = k ∙ ap (λ (f : Fault). Err f.fault) same;
          told = let at : f.line ≡ number + 1 = ap (λ (f : Fault). f.line) (sym same) in omega (arith, at);
        })
    by (Ok more) k e go = further more k (go more k e)

pub fault_is_first : FaultLaw
fault_is_first bytes f e =
    let cut = first_cut bytes in
    by cut.0 cut.1 cut.2 (first_in cut.0) refl (sym (from_start bytes cut.0 cut.1 cut.2) ∙ e)
  where
    further : (first : List ℕ) (rest : List (List ℕ)) (version : ℕ) → lines_of bytes ≡ first ∷ rest → first_in first ≡ Ok version
        → FaultBehind version 1 [] rest f ⊎ EndBehind version 1 [] rest f
        → IsFirstFault (lines_of bytes) f ⊎ EndsWithout (lines_of bytes) f
    further first rest version cut k (inl r) =
        inl (record {
          version = version;
          before = first ∷ r.before;
          line = r.line;
          after = r.after;
          items = r.all;
          cut = cut ∙ ap (λ l. first ∷ l) r.cut;
          faultless = (k, r.faultless);
          fault = r.fault;
          number = let at = r.told in omega (arith, at);
        })
    further first rest version cut k (inr r) =
        inr (record {
          version = version;
          items = r.all;
          faultless = subst (λ (l : List (List ℕ)). SayAll version l r.all) (sym cut) (k, r.faultless);
          fault = r.fault;
          number =
              let at = r.told in
              let size : length (lines_of bytes) ≡ length (first ∷ rest) = ap length cut in
              omega (arith, at, size);
        })

    by : (first : List ℕ) (rest : List (List ℕ)) → lines_of bytes ≡ first ∷ rest
        → (s : Step ℕ) → first_in first ≡ s
        → continued 1 (s >>= λ version. Ok (nothing version)) (λ next. from_line 1 next rest) ≡ Err f
        → IsFirstFault (lines_of bytes) f ⊎ EndsWithout (lines_of bytes) f
    by first rest cut (Err fault) k e =
        let same = same_fault (fault_at 1 fault) f e in
        inl (record {
          version = 1;
          before = [];
          line = first;
          after = rest;
          items = [];
          cut = cut;
          faultless = refl;
          fault = k ∙ ap (λ (f : Fault). Err f.fault) same;
          number = ap (λ (f : Fault). f.line) (sym same);
        })
    by first rest cut (Ok version) k e =
        further first rest version cut k (lines-fault version 1 (nothing version) [] rest f refl e)

-- ---- what is given lies in its ranges

lines-taken : (number : ℕ) (g : Given) (rest : List (List ℕ)) (m : MetricsValue) → IsGiven g
    → from_line number g rest ≡ Ok m → IsTaken m
lines-taken number g [] m h e =
    let n = finished_with g m (ended (number + 1) (finished g) m e) in
    subst IsTaken n.2 (taken_of g n.0 h n.1)
lines-taken number g (line ∷ rest) m h e =
    by (after g line) refl e (λ next k. lines-taken (number + 1) next rest m (after_keeps g line next h k))
  where
    by : (s : Step Given) → after g line ≡ s
        → continued (number + 1) s (λ next. from_line (number + 1) next rest) ≡ Ok m
        → ((next : Given) → after g line ≡ Ok next → from_line (number + 1) next rest ≡ Ok m → IsTaken m) → IsTaken m
    by (Err fault) k e go = no_metrics (fault_at (number + 1) fault) m e
    by (Ok next) k e go = go next k e

pub what_is_given_is_taken : TakenLaw
what_is_given_is_taken bytes m e =
    let cut = first_cut bytes in
    by cut.1 (first_in cut.0) refl (sym (from_start bytes cut.0 cut.1 cut.2) ∙ e)
  where
    by : (rest : List (List ℕ)) (s : Step ℕ) → first_in (first_cut bytes).0 ≡ s
        → continued 1 (s >>= λ version. Ok (nothing version)) (λ next. from_line 1 next rest) ≡ Ok m → IsTaken m
    by rest (Err fault) k e = no_metrics (fault_at 1 fault) m e
    by rest (Ok version) k e = lines-taken 1 (nothing version) rest m (nothing_given version (first_version (first_cut bytes).0 version k)) e

-- ---- constants

place_small : (name : ConstName) → place_of_constant name < 56
place_small ScriptPercentScaleDown = lit< tt
place_small name = lit< tt

pub name_is_read : ConstantLaw
name_is_read name = place_of_text-constant (place_of_constant name) (place_small name)
