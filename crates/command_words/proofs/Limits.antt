-- What words ask for is within its limits.
use Rattle.std.proofs.Common.{◌≡◌, ◌≤◌, refl, subst, ℕ, List, [], ◌∷◌, Bool, true, false, ◌&&◌, Option, Some, None}
use Rattle.std.specs.Prelude.{codes, if◌then◌else◌}
use Rattle.std.specs.Option.{option_and_then, option_map}
use Rattle.std.specs.Str.{bytes_eq}
use Rattle.std.proofs.lemmas.Bool.{and_parts, leb-true}
use Rattle.std.proofs.lemmas.Option.{same_Some}
use Rattle.page_queries.specs.declared.query.Query.{Query}
use Rattle.page_queries.specs.declared.query.Query.TheVariants.{Paint}
use Rattle.command_words.specs.Command.{Asked, Job, OverTree, Generates, Work, LaysOut, Edits, Checks, Asks, Remembers, IsInLimits, IsWorkInLimits, asked_by, generation_of, job_named, query_named, remembering, work_named}
use Rattle.command_words.specs.Numerals.{count_in, depth_in, if_depth, is_depth, most_undone, number_in, seed_in}

-- a depth
abbrev IsDepth : ℕ → Type 0
IsDepth n = (1 ≤ n) × (n ≤ most_undone)

within : (m n : ℕ) (fits : Bool) → is_depth m ≡ fits → (if fits then Some m else None) ≡ Some n → IsDepth n
within m n false fits is = absurd cc
within m n true fits is =
    let parts = and_parts _ _ fits in
    subst IsDepth (same_Some m n is) (leb-true 1 m parts.0, leb-true m most_undone parts.1)

depth_within : (word : List ℕ) (n : ℕ) → depth_in word ≡ Some n → IsDepth n
depth_within word n is = by (number_in 4 word) is
  where
    by : (number : Option ℕ) → option_and_then if_depth number ≡ Some n → IsDepth n
    by None is = absurd cc
    by (Some m) is = within m n (is_depth m) refl is

-- the other work has none
work_within : (word : List ℕ) (others : List (List ℕ)) (work : Work) → work_named word others ≡ Some work → IsWorkInLimits work
work_within word [] work is = by (bytes_eq word (codes "layout")) (bytes_eq word (codes "check")) (bytes_eq word (codes "paint")) is
  where
    by : (lays checks paints : Bool) → (if lays then Some LaysOut else if checks then Some Checks else if paints then Some (Asks Paint) else None) ≡ Some work → IsWorkInLimits work
    by true checks paints is = subst IsWorkInLimits (same_Some LaysOut work is) tt
    by false true paints is = subst IsWorkInLimits (same_Some Checks work is) tt
    by false false true is = subst IsWorkInLimits (same_Some (Asks Paint) work is) tt
    by false false false is = absurd cc
work_within word (script ∷ []) work is = by (bytes_eq word (codes "edit")) is
  where
    by : (edits : Bool) → (if edits then Some (Edits script) else None) ≡ Some work → IsWorkInLimits work
    by true is = subst IsWorkInLimits (same_Some (Edits script) work is) tt
    by false is = absurd cc
work_within word (first ∷ second ∷ []) work is = asked (query_named word first second) is
  where
    asked : (query : Option Query) → option_map Asks query ≡ Some work → IsWorkInLimits work
    asked None is = absurd cc
    asked (Some query) is = subst IsWorkInLimits (same_Some (Asks query) work is) tt
work_within word (first ∷ second ∷ third ∷ others) work is = absurd cc

generation_within : (seed : List ℕ) (others : List (List ℕ)) (job : Job) → generation_of seed others ≡ Some job → IsInLimits job
generation_within seed [] job is = absurd cc
generation_within seed (count ∷ []) job is = by (seed_in seed) (count_in count) is
  where
    by : (s n : Option ℕ) → option_and_then (λ s. option_map (λ n. Generates s n) n) s ≡ Some job → IsInLimits job
    by None n is = absurd cc
    by (Some s) None is = absurd cc
    by (Some s) (Some n) is = subst IsInLimits (same_Some (Generates s n) job is) tt
generation_within seed (count ∷ more ∷ others) job is = absurd cc

job_within : (word next : List ℕ) (others : List (List ℕ)) (job : Job) → job_named word next others ≡ Some job → IsInLimits job
job_within word next others job is = by (bytes_eq word (codes "gen")) is
  where
    over : (work : Option Work) → work_named word others ≡ work → option_map (λ work. OverTree work next) work ≡ Some job → IsInLimits job
    over None named is = absurd cc
    over (Some work) named is = subst IsInLimits (same_Some (OverTree work next) job is) (work_within word others work named)

    by : (gen : Bool) → (if gen then generation_of next others else option_map (λ work. OverTree work next) (work_named word others)) ≡ Some job → IsInLimits job
    by true is = generation_within next others job is
    by false is = over (work_named word others) refl is

remembering_within : (depth metrics : List ℕ) (others : List (List ℕ)) (asked : Asked) → remembering depth metrics others ≡ Some asked → IsInLimits asked.job
remembering_within depth metrics [] asked is = absurd cc
remembering_within depth metrics (tree ∷ []) asked is = absurd cc
remembering_within depth metrics (tree ∷ script ∷ []) asked is = by (depth_in depth) refl is
  where
    by : (n : Option ℕ) → depth_in depth ≡ n
        → option_map (λ n. record { job = OverTree (Remembers n script) tree; metrics = metrics }) n ≡ Some asked → IsInLimits asked.job
    by None read is = absurd cc
    by (Some n) read is =
        subst (λ (a : Asked). IsInLimits a.job) (same_Some (record { job = OverTree (Remembers n script) tree; metrics = metrics }) asked is)
        (depth_within depth n read)
remembering_within depth metrics (tree ∷ script ∷ more ∷ others) asked is = absurd cc

pub asked_within : (words : List (List ℕ)) (asked : Asked) → asked_by words ≡ Some asked → IsInLimits asked.job
asked_within [] asked is = absurd cc
asked_within (command ∷ []) asked is = absurd cc
asked_within (command ∷ metrics ∷ []) asked is = absurd cc
asked_within (command ∷ metrics ∷ next ∷ others) asked is = by (bytes_eq command (codes "history")) is
  where
    with_job : (job : Option Job) → job_named command next others ≡ job
        → option_map (λ job. record { job = job; metrics = metrics }) job ≡ Some asked → IsInLimits asked.job
    with_job None named is = absurd cc
    with_job (Some job) named is =
        subst (λ (a : Asked). IsInLimits a.job) (same_Some (record { job = job; metrics = metrics }) asked is) (job_within command next others job named)

    by : (history : Bool) → (if history then remembering metrics next others
        else option_map (λ job. record { job = job; metrics = metrics }) (job_named command next others)) ≡ Some asked → IsInLimits asked.job
    by true is = remembering_within metrics next others asked is
    by false is = with_job (job_named command next others) refl is
