-- The map of the glyphs of a file, by what contracts see of it.
use Rattle.std.proofs.Common.{◌≡◌, ℕ, ◌+◌, Bool, cond, not, nat_lt, List, [], ◌∷◌, ◌++◌, map, length, position, Option, Some, None, refl, ap, sym, ◌∙◌, String, string_bytes}
use Rattle.std.specs.declared.alloc.Global.{Global}
use Rattle.std.specs.declared.hash.FoldHasher.{FoldHasher}
use Rattle.std.specs.declared.hash.BuildHasherDefault.{BuildHasherDefault}
use Rattle.std.specs.List.{prefix_len}
use Rattle.std.specs.Map.{keys_of}
use Rattle.std.specs.Str.{bytes_eq}
use Rattle.std.specs.String.{string_eq}
use Rattle.std.proofs.lemmas.List.{length-map, map-append}
use Rattle.indexmap.specs.IndexMap.{IndexMap, insert_entry}
use Rattle.indexmap.proofs.CallerLemmas.{insert_entry-new}
use Rattle.indexmap.proofs.MapLemmas.{Missing-position}
use Rattle.font_metrics.specs.declared.glyph.Measures.{Measures}
use Rattle.font_metrics.specs.Kept.{glyph_of_measures}
use Rattle.font_metrics.specs.Metrics.{place_of_name}
use Rattle.metrics_file.specs.NamedGlyphs.{named_glyphs}

prefix_len-map : {X Y : Type 0} (p : Y → Bool) (f : X → Y) (xs : List X)
    → prefix_len p (map f xs) ≡ prefix_len (λ x. p (f x)) xs
prefix_len-map p f [] = refl
prefix_len-map p f (x ∷ xs) = ap (λ n. cond (p (f x)) (1 + n) 0) (prefix_len-map p f xs)

-- the first place of what is shown of the items
position-map : {X Y : Type 0} (p : Y → Bool) (f : X → Y) (xs : List X)
    → position p (map f xs) ≡ position (λ x. p (f x)) xs
position-map p f xs =
    let h = prefix_len-map (λ y. not (p y)) f xs in
    let k : length (map f xs) ≡ length xs = length-map xs f in
    λ i. cond (nat_lt (h i) (k i)) (Some (h i)) None

-- the place of a name is that of its key
pub key_place : (name : List ℕ) (es : List (String Global × Measures))
    → position (λ k. bytes_eq name (string_bytes k)) (keys_of es) ≡ place_of_name (named_glyphs es) name
key_place name es =
    position-map (λ k. bytes_eq name (string_bytes k)) (λ e. e.0) es
    ∙ sym (position-map (λ g. bytes_eq name g.name) (λ e. record { name = string_bytes e.0; glyph = glyph_of_measures e.1 }) es)

-- a glyph under a new name goes last
pub named_insert : (m : IndexMap (String Global) Measures (BuildHasherDefault FoldHasher)) (k : String Global) (v : Measures)
    → place_of_name (named_glyphs m.entries) (string_bytes k) ≡ None
    → named_glyphs (insert_entry string_eq m.entries k v) ≡ named_glyphs m.entries ++ record { name = string_bytes k; glyph = glyph_of_measures v } ∷ []
named_insert m k v h =
    ap named_glyphs (insert_entry-new string_eq m k v (Missing-position (string_eq k) m.entries (key_place (string_bytes k) m.entries ∙ h)).value)
    ∙ map-append _ m.entries ((k, v) ∷ [])
