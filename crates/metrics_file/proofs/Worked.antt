-- Worked files: the definitions, computed.
use Rattle.std.proofs.Common.{◌≡◌, ℕ, pos, negsuc, List, [], ◌∷◌, ◌++◌, codes, None, Ok, Err, refl}
use Rattle.font_metrics.specs.declared.fault.LineFault.TheVariants.{ForeignByte, WrongFirstLine, UnknownWord, FieldCount, NotANumber, OutOfRange, WrongWord, NotNamed, Repeated, NotRising, NoUpem, NoMissing}
use Rattle.metrics_file.specs.Words.{value_of_digits, numeral_of, number_of, number_in, natural_in, code_of, letter_in, name_in, operator_text_in, extender_in, corner_in}
use Rattle.font_metrics.specs.Names.{is_name}
use Rattle.font_metrics.specs.Constants.{place_of_text}
use Rattle.metrics_file.specs.Lines.{keyword_of}
use Rattle.font_metrics.specs.Metrics.{MetricsValue}
use Rattle.font_metrics.specs.Tables.{no_kerns, no_tables}
use Rattle.metrics_file.specs.Reading.{fault_at, words_of, is_foreign, after, after_first, finished, metrics_of}

-- metrics that say little: each file here says more
abbrev pub bare : MetricsValue
bare = record {
  version = 1;
  upem = 1024;
  line_ascent = 900;
  line_descent = 300;
  x_height = 512;
  overlap = None;
  constants = [];
  glyphs = [];
  characters = [];
  tables = no_tables;
  operators = [];
}

-- lines with their line feeds
abbrev feed : List ℕ
feed = 10 ∷ []

abbrev header : List ℕ
header = codes "mathlay-metrics 1" ++ feed ++ codes "# small" ++ feed ++ codes "upem 1024" ++ 13 ∷ feed ++ codes "line 900 300" ++ feed ++ codes "xheight 512" ++ feed

abbrev missing_line : List ℕ
missing_line = codes "glyph  missing 512 600 0" ++ feed

abbrev header_2 : List ℕ
header_2 = codes "mathlay-metrics 2" ++ feed ++ codes "upem 1024" ++ feed ++ codes "line 900 300" ++ feed ++ codes "xheight 512" ++ feed

an-empty-file : metrics_of [] ≡ Err (fault_at 1 WrongFirstLine)
unfolding metrics_of after_first is_foreign words_of
an-empty-file = refl

a-small-file : metrics_of (header ++ missing_line) ≡ Ok (record bare {
  glyphs = record { name = codes "missing"; glyph = record { advance = pos 512; ink_ascent = pos 600; ink_descent = pos 0; italic = pos 0; accent = None } } ∷ [];
})
unfolding metrics_of after_first after finished is_foreign words_of keyword_of value_of_digits numeral_of number_of number_in natural_in is_name name_in
a-small-file = refl

nothing-given : metrics_of (codes "mathlay-metrics 1") ≡ Err (fault_at 2 NoUpem)
unfolding metrics_of after_first after finished is_foreign words_of keyword_of
nothing-given = refl

-- ---- a fault of each kind, in the line behind these

abbrev line_behind : List ℕ → List ℕ
line_behind line = header ++ missing_line ++ line

a-control-byte : metrics_of (line_behind (codes "upem" ++ 1 ∷ [])) ≡ Err (fault_at 7 ForeignByte)
unfolding metrics_of after_first after finished is_foreign words_of keyword_of value_of_digits numeral_of number_of number_in natural_in code_of letter_in is_name name_in extender_in place_of_text
a-control-byte = refl

an-unknown-word : metrics_of (line_behind (codes "Upem 1024")) ≡ Err (fault_at 7 UnknownWord)
unfolding metrics_of after_first after finished is_foreign words_of keyword_of value_of_digits numeral_of number_of number_in natural_in code_of letter_in is_name name_in extender_in place_of_text
an-unknown-word = refl

a-field-too-many : metrics_of (line_behind (codes "overlap 1 2")) ≡ Err (fault_at 7 FieldCount)
unfolding metrics_of after_first after finished is_foreign words_of keyword_of value_of_digits numeral_of number_of number_in natural_in code_of letter_in is_name name_in extender_in place_of_text
a-field-too-many = refl

seven-digits : metrics_of (line_behind (codes "overlap 0000001")) ≡ Err (fault_at 7 NotANumber)
unfolding metrics_of after_first after finished is_foreign words_of keyword_of value_of_digits numeral_of number_of number_in natural_in code_of letter_in is_name name_in extender_in place_of_text
seven-digits = refl

a-surrogate : metrics_of (line_behind (codes "char D800 missing")) ≡ Err (fault_at 7 OutOfRange)
unfolding metrics_of after_first after finished is_foreign words_of keyword_of value_of_digits numeral_of number_of number_in natural_in code_of letter_in is_name name_in extender_in place_of_text
a-surrogate = refl

a-lower-case-role : metrics_of (line_behind (codes "vassembly missing missing fix 0 0 0")) ≡ Err (fault_at 7 WrongWord)
unfolding metrics_of after_first after finished is_foreign words_of keyword_of value_of_digits numeral_of number_of number_in natural_in code_of letter_in is_name name_in extender_in place_of_text
a-lower-case-role = refl

an-unnamed-glyph : metrics_of (line_behind (codes "char 0031 one")) ≡ Err (fault_at 7 NotNamed)
unfolding metrics_of after_first after finished is_foreign words_of keyword_of value_of_digits numeral_of number_of number_in natural_in code_of letter_in is_name name_in extender_in place_of_text
an-unnamed-glyph = refl

an-unknown-constant : metrics_of (line_behind (codes "const axisHeight 0")) ≡ Err (fault_at 7 NotNamed)
unfolding metrics_of after_first after finished is_foreign words_of keyword_of value_of_digits numeral_of number_of number_in natural_in code_of letter_in is_name name_in extender_in place_of_text
an-unknown-constant = refl

a-second-glyph-of-a-name : metrics_of (line_behind (codes "glyph missing 0 0 0")) ≡ Err (fault_at 7 Repeated)
unfolding metrics_of after_first after finished is_foreign words_of keyword_of value_of_digits numeral_of number_of number_in natural_in code_of letter_in is_name name_in extender_in place_of_text
a-second-glyph-of-a-name = refl

-- ---- kerns

a-kern-in-version-1 : metrics_of (line_behind (codes "kern missing TR -40")) ≡ Err (fault_at 7 UnknownWord)
unfolding metrics_of after_first after finished is_foreign words_of keyword_of value_of_digits numeral_of number_of number_in natural_in is_name name_in
a-kern-in-version-1 = refl

kern_behind : List ℕ → List ℕ
kern_behind line = header_2 ++ missing_line ++ line

a-kern : metrics_of (kern_behind (codes "kern missing TR -40 400 -20")) ≡ Ok (record bare {
  version = 2;
  glyphs = record { name = codes "missing"; glyph = record { advance = pos 512; ink_ascent = pos 600; ink_descent = pos 0; italic = pos 0; accent = None } } ∷ [];
  tables = record no_tables {
    kerns = record no_kerns { top_right = (0, record { lowest = negsuc 39; steps = record { height = pos 400; value = negsuc 19 } ∷ [] } ∷ []) ∷ [] };
  };
})
unfolding kern_behind metrics_of after_first after finished is_foreign words_of keyword_of value_of_digits numeral_of number_of number_in natural_in is_name name_in corner_in
a-kern = refl

a-height-without-value : metrics_of (kern_behind (codes "kern missing TR -40 400")) ≡ Err (fault_at 6 FieldCount)
unfolding kern_behind metrics_of after_first after finished is_foreign words_of keyword_of value_of_digits numeral_of number_of number_in natural_in is_name name_in corner_in
a-height-without-value = refl

an-unknown-corner : metrics_of (kern_behind (codes "kern missing tr 1")) ≡ Err (fault_at 6 WrongWord)
unfolding kern_behind metrics_of after_first after finished is_foreign words_of keyword_of value_of_digits numeral_of number_of number_in natural_in is_name name_in corner_in
an-unknown-corner = refl

a-second-kern : metrics_of (kern_behind (codes "kern missing BL 1" ++ feed ++ codes "kern missing BL 2 4 5 4 6")) ≡ Err (fault_at 7 Repeated)
unfolding kern_behind metrics_of after_first after finished is_foreign words_of keyword_of value_of_digits numeral_of number_of number_in natural_in is_name name_in corner_in
a-second-kern = refl

heights-that-stay : metrics_of (kern_behind (codes "kern missing BL 1 4 5 4 6")) ≡ Err (fault_at 6 NotRising)
unfolding kern_behind metrics_of after_first after finished is_foreign words_of keyword_of value_of_digits numeral_of number_of number_in natural_in is_name name_in corner_in
heights-that-stay = refl

a-third-version : metrics_of (codes "mathlay-metrics 3") ≡ Err (fault_at 1 WrongFirstLine)
unfolding metrics_of after_first is_foreign words_of
a-third-version = refl

a-pair-too-long : operator_text_in (codes "1D44E+0338") ≡ Err OutOfRange
unfolding operator_text_in code_of numeral_of value_of_digits
a-pair-too-long = refl

without-missing : metrics_of header ≡ Err (fault_at 6 NoMissing)
unfolding metrics_of after_first after finished is_foreign words_of keyword_of value_of_digits numeral_of number_of number_in natural_in is_name name_in
without-missing = refl
