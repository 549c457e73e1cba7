-- Files put in one after another, and what is found in them.
use Rattle.std.proofs.Common.{◌≡◌, ℕ, ◌+◌, ◌<◌, List, [], ◌∷◌, ◌++◌, length, take, get_or, suc, zero, cond, Option, Some, None, IsSome, ap, refl, sym, ◌∙◌, arith}
use Rattle.std.proofs.lemmas.Grind.{take_at_read}
use Rattle.std.specs.Option.{ForSome, option_map}
use Rattle.std.proofs.lemmas.Map.Text.{is_eq-slice_cmp}
use Rattle.std.specs.Cmp.Lexicographic.{nat_list_cmp_total}
use Rattle.std.specs.FinMap.{empty, get, insert, get-insert}
use Rattle.std.specs.List.{slice_get}
use Rattle.std.specs.Str.{bytes_eq}
use Rattle.doc_io.specs.MemoryInputs.{FileMap, bytes_at, put_in}
use Rattle.doc_io.specs.declared.memory_inputs.Named.{Named}

-- the last file is put in last
pub put_in-push : (files : FileMap) (earlier : List Named) (file : Named) →
    put_in files (earlier ++ file ∷ []) ≡ insert (put_in files earlier) file.name file.bytes
put_in-push files [] file = refl
put_in-push files (first ∷ earlier) file = put_in-push (insert files first.name first.bytes) earlier file

-- the newest of some files has the name, or it is among the earlier ones
pub get-put_in-push : (files : FileMap) (earlier : List Named) (file : Named) (name : List ℕ) →
    get (put_in files (earlier ++ file ∷ [])) name ≡ cond (bytes_eq name file.name) (Some file.bytes) (get (put_in files earlier) name)
get-put_in-push files earlier file name =
    ap (λ m. get m name) (put_in-push files earlier file)
    ∙ get-insert nat_list_cmp_total (put_in files earlier) file.name file.bytes name
    ∙ ap (λ b. cond b (Some file.bytes) (get (put_in files earlier) name)) (is_eq-slice_cmp name file.name)

-- one file more from the back: it has the name, or the name is looked for before it
pub get-put_in-take : (files : List Named) (p q : ℕ) (name : List ℕ) (file : Named) → q ≡ p + 1 →
    p < length files → file ≡ get_or files p file →
    get (put_in empty (take q files)) name ≡ cond (bytes_eq name file.name) (Some file.bytes) (get (put_in empty (take p files)) name)
get-put_in-take files p q name file next within read =
    ap (λ n. get (put_in empty (take n files)) name) next
    ∙ ap (λ l. get (put_in empty l) name) ((take_at_read files p file within).1 ∙ ap (λ f. take p files ++ f ∷ []) (sym read))
    ∙ get-put_in-push empty (take p files) file name

-- what stands within a list stays when one more is added
slice_get-push : (files : List Named) (file : Named) (index : ℕ) → index < length files →
    slice_get (files ++ file ∷ []) index ≡ slice_get files index
slice_get-push [] file index within = absurd (omega arith)
slice_get-push (first ∷ files) file zero within = refl
slice_get-push (first ∷ files) file (suc index) within = slice_get-push files file index (omega arith)

-- so a file that is added behind a place leaves what stands at the place
pub bytes_at-push : (files : List Named) (file : Named) (place : Option ℕ) →
    ForSome place (λ index. index < length files) →
    bytes_at (files ++ file ∷ []) place ≡ bytes_at files place
bytes_at-push files file None within = refl
bytes_at-push files file (Some index) within = ap (option_map (λ f. f.bytes)) (slice_get-push files file index (within index refl))

-- within a list stands some file
pub bytes_within : (files : List Named) (index : ℕ) → index < length files →
    IsSome (bytes_at files (Some index))
bytes_within [] index within = absurd (omega arith)
bytes_within (file ∷ files) zero within = refl
bytes_within (file ∷ files) (suc index) within = bytes_within files index (omega arith)
