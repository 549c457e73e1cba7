-- What the runs of a pool give at each id after a call, for the crates above.
use Rattle.std.proofs.Common.{◌≡◌, ℕ, zero, suc, ◌<◌, ◌∙◌, Bool, true, false, cond, List, [], ◌∷◌, ◌++◌, length, get_or, eqb, refl, sym, ap, subst, Option, Some, None, map, ⊎_elim, ◌||◌, eq-eqb, eqb-true, arith}
use Rattle.std.specs.List.{filter, list_any, IsDistinct, All}
use Rattle.std.specs.Map.{lookup, keys_of}
use Rattle.std.specs.Option.{IsSome, is_some}
use Rattle.std.specs.Cmp.{nat_eq_equiv}
use Rattle.std.proofs.lemmas.Bool.{cases_eq}
use Rattle.std.proofs.lemmas.Bool.Decides.{eqb_tells}
use Rattle.std.proofs.lemmas.List.{length-map}
use Rattle.std.proofs.lemmas.List.Elements.{All-push}
use Rattle.std.proofs.lemmas.Map.Entries.{lookup-filter-keys, length-keys_of}
use Rattle.std.proofs.lemmas.Map.Made.{length-from_same_keys, is_some-lookup, IsDistinct-keys_filter}
use Rattle.box_pool.specs.declared.cell.Cell.{Cell}
use Rattle.box_pool.specs.declared.pool.RunId.{RunId}
use Rattle.box_pool.specs.Region.{Region, cells_at, AllLive, kept_of}
use Rattle.box_pool.specs.Runs.{is_listed}

-- `put` gives the piece under its id
pub lookup_put_same : (runs : List (ℕ × List Cell)) (id : ℕ) (piece : List Cell) → lookup (eqb id) runs ≡ None → lookup (eqb id) (runs ++ (id, piece) ∷ []) ≡ Some piece
lookup_put_same [] id piece none = ap (λ (b : Bool). cond b (Some piece) None) (eq-eqb id id refl)
lookup_put_same ((other, own) ∷ runs) id piece none =
    ⊎_elim
    (λ (same : (eqb id other ≡ true) × (id ≡ other)). let P : Bool → Type 0 = λ b. cond b (Some own) (lookup (eqb id) runs) ≡ None in let not : Some own ≡ None = subst P same.0 none in cc)
    (λ (differs : (eqb id other ≡ false) × (id ≡ other → ⊥)).
    let P : Bool → Type 0 = λ b. cond b (Some own) (lookup (eqb id) runs) ≡ None in
    let rest : lookup (eqb id) runs ≡ None = subst P differs.0 none in
    ap (λ (b : Bool). cond b (Some own) (lookup (eqb id) (runs ++ (id, piece) ∷ []))) differs.0 ∙ lookup_put_same runs id piece rest)
    (eqb_tells id other)

-- and leaves every other id
pub lookup_put_other : (runs : List (ℕ × List Cell)) (id at : ℕ) (piece : List Cell) → (at ≡ id → ⊥) → lookup (eqb at) (runs ++ (id, piece) ∷ []) ≡ lookup (eqb at) runs
lookup_put_other [] id at piece differs =
    ⊎_elim
    (λ (same : (eqb at id ≡ true) × (at ≡ id)). absurd (differs same.1))
    (λ (no : (eqb at id ≡ false) × (at ≡ id → ⊥)). ap (λ (b : Bool). cond b (Some piece) None) no.0)
    (eqb_tells at id)
lookup_put_other ((other, own) ∷ runs) id at piece differs =
    ap (λ (rest : Option (List Cell)). cond (eqb at other) (Some own) rest) (lookup_put_other runs id at piece differs)

-- `sweep` keeps the cells of a listed id, and drops every other
pub lookup_swept : (runs : List (ℕ × List Cell)) (keep : List RunId) (at : ℕ) → lookup (eqb at) (filter (λ run. is_listed keep run.0) runs) ≡ cond (is_listed keep at) (lookup (eqb at) runs) None
lookup_swept runs keep at =
    lookup-filter-keys (eqb at) (is_listed keep) (is_listed keep at) (λ k same. ap (is_listed keep) (sym (eqb-true at k same))) runs

-- ---- how many runs a sweep keeps

listed_in_ids : (keep : List RunId) (q : ℕ) → list_any (eqb q) (map (λ (run : RunId). run.0) keep) ≡ is_listed keep q
listed_in_ids [] q = refl
listed_in_ids (run ∷ keep) q =
    ap (λ (b : Bool). b || list_any (eqb q) (map (λ (r : RunId). r.0) keep)) (nat_eq_equiv.symm q run.0)
    ∙ ap (λ (b : Bool). eqb run.0 q || b) (listed_in_ids keep q)

listed_live : (runs : List (ℕ × List Cell)) (keep : List RunId) (q : ℕ) → All (λ run. IsSome (lookup (eqb run.0) runs)) keep → is_listed keep q ≡ true → is_some (lookup (eqb q) runs) ≡ true
listed_live runs [] q live listed = cc
listed_live runs (run ∷ keep) q live listed =
    ⊎_elim
    (λ (same : (eqb run.0 q ≡ true) × (run.0 ≡ q)).
    let P : ℕ → Type 0 = λ x. is_some (lookup (eqb x) runs) ≡ true in
    subst P same.1 (live 0 run (omega arith)))
    (λ (no : (eqb run.0 q ≡ false) × (run.0 ≡ q → ⊥)).
    let Q : Bool → Type 0 = λ b. (b || is_listed keep q) ≡ true in
    listed_live runs keep q (λ k d here. live (suc k) d (omega arith)) (subst Q no.0 listed))
    (eqb_tells run.0 q)

member_same : (listed : Bool) (found : Option (List Cell)) → (listed ≡ true → is_some found ≡ true) → is_some (cond listed found None) ≡ listed
member_same true found some = some refl
member_same false found some = refl

-- where the listed ids differ and are live, a sweep keeps as many runs as are listed
pub swept_count : (runs : List (ℕ × List Cell)) (keep : List RunId) → IsDistinct eqb (keys_of runs) → IsDistinct eqb (map (λ (run : RunId). run.0) keep) → All (λ run. IsSome (lookup (eqb run.0) runs)) keep → length (filter (λ run. is_listed keep run.0) runs) ≡ length keep
swept_count runs keep distinct differ live =
    let kept : List (ℕ × List Cell) = filter (λ run. is_listed keep run.0) runs in
    sym (length-keys_of kept)
    ∙ (length-from_same_keys nat_eq_equiv (keys_of kept) (map (λ (run : RunId). run.0) keep) (IsDistinct-keys_filter eqb (λ run. is_listed keep run.0) runs distinct) differ
    (λ q. sym (is_some-lookup (eqb q) kept)
    ∙ (ap (λ (o : Option (List Cell)). is_some o) (lookup_swept runs keep q)
    ∙ (member_same (is_listed keep q) (lookup (eqb q) runs) (listed_live runs keep q live)
    ∙ sym (listed_in_ids keep q))))
    ∙ length-map keep (λ (run : RunId). run.0))

-- ---- live ids

-- what was found before a put is still found
still_some : (runs : List (ℕ × List Cell)) (id at : ℕ) (piece : List Cell) → lookup (eqb id) runs ≡ None → IsSome (lookup (eqb at) runs) → IsSome (lookup (eqb at) (runs ++ (id, piece) ∷ []))
still_some runs id at piece none some =
    ⊎_elim
    (λ (same : at ≡ id).
    let P : ℕ → Type 0 = λ x. is_some (lookup (eqb x) (runs ++ (id, piece) ∷ [])) ≡ true in
    subst P (sym same) (ap (λ (o : Option (List Cell)). is_some o) (lookup_put_same runs id piece none)))
    (λ (differs : at ≡ id → ⊥). ap (λ (o : Option (List Cell)). is_some o) (lookup_put_other runs id at piece differs) ∙ some)
    (cases_eq at id)

-- after a put all ids that were live are, and the new one with them
pub live_after_put : (before after : Region) (ids : List RunId) (run : RunId) (piece : List Cell) → cells_at before run.0 ≡ None
    → after.runs ≡ before.runs ++ (run.0, piece) ∷ [] → AllLive before ids → AllLive after ids × AllLive after (ids ++ run ∷ [])
live_after_put before after ids run piece none put live =
    let all : AllLive after ids = λ k d here.
    let P : List (ℕ × List Cell) → Type 0 = λ runs. is_some (lookup (eqb (get_or ids k d).0) runs) ≡ true in
    subst P (sym put) (still_some before.runs run.0 (get_or ids k d).0 piece none (live k d here)) in
    let Q : List (ℕ × List Cell) → Type 0 = λ runs. is_some (lookup (eqb run.0) runs) ≡ true in
    (all, All-push (λ r. IsSome (cells_at after r.0)) ids run all (subst Q (sym put) (ap (λ (o : Option (List Cell)). is_some o) (lookup_put_same before.runs run.0 piece none))))

-- where the runs are the same, so are the live ids
pub live_alike : (before after : Region) (ids : List RunId) → after.runs ≡ before.runs → AllLive before ids → AllLive after ids
live_alike before after ids same live = λ k d here.
    let P : List (ℕ × List Cell) → Type 0 = λ runs. is_some (lookup (eqb (get_or ids k d).0) runs) ≡ true in
    subst P (sym same) (live k d here)

-- an id of a list is listed
listed_at : (keep : List RunId) (k : ℕ) (d : RunId) → k < length keep → is_listed keep (get_or keep k d).0 ≡ true
listed_at [] k d here = absurd (omega arith)
listed_at (run ∷ keep) zero d here = ap (λ (b : Bool). b || is_listed keep run.0) (eq-eqb run.0 run.0 refl)
listed_at (run ∷ keep) (suc k) d here =
    ap (λ (b : Bool). eqb run.0 (get_or keep k d).0 || b) (listed_at keep k d (omega arith)) ∙ or_true (eqb run.0 (get_or keep k d).0)
  where
    or_true : (b : Bool) → (b || true) ≡ true
    or_true true = refl
    or_true false = refl

-- what a sweep keeps is live
pub live_after_sweep : (before after : Region) (keep : List RunId) → after.runs ≡ kept_of keep before.runs → AllLive before keep → AllLive after keep
live_after_sweep before after keep swept live = λ k d here.
    let id = (get_or keep k d).0 in
    let P : List (ℕ × List Cell) → Type 0 = λ runs. is_some (lookup (eqb id) runs) ≡ true in
    subst P (sym swept)
    (ap (λ (o : Option (List Cell)). is_some o) (lookup_swept before.runs keep id)
    ∙ ap (λ (b : Bool). is_some (cond b (lookup (eqb id) before.runs) None)) (listed_at keep k d here)
    ∙ live k d here)
