-- What the calls of a pool keep.
use Rattle.std.proofs.Common.{◌≡◌, ℕ, ◌+◌, ◌-◌, ◌<◌, ◌≤◌, ◌∙◌, Bool, true, false, cond, List, [], ◌∷◌, ◌++◌, length, take, drop, set, get_or, eqb, refl, sym, ap, subst, suc, arith, length-take, ⊎_elim, Option, Some, None, Vec, Global, Result, Ok, Err}
use Rattle.std.specs.List.{filter, All, IsDistinct}
use Rattle.std.specs.Option.{IsSome, is_some}
use Rattle.std.specs.Result.{OnErr}
use Rattle.std.specs.Map.{lookup, keys_of}
use Rattle.std.proofs.lemmas.Map.Keys.{IsDistinct-from_apart, apart_from_distinct}
use Rattle.std.specs.Vec.{with_items}
use Rattle.std.proofs.lemmas.List.{get_or-set_same, get_or-take, take-take, take_more, map_push, length-set, length-take-le, length-map, with_items_is, get_or_read}
use Rattle.std.proofs.lemmas.Bool.Decides.{eqb_tells}
use Rattle.box_pool.specs.declared.cell.Cell.{Cell}
use Rattle.box_pool.specs.declared.place.Place.{Place}
use Rattle.box_pool.specs.declared.place.Extent.{Extent}
use Rattle.box_pool.specs.declared.pool.RunId.{RunId}
use Rattle.box_pool.specs.Runs.{cell_count, place_at, run_at, runs_at, Follows, is_marked, is_listed}
use Rattle.box_pool.specs.Region.{IsWhole, Region, checkpoint_of}
use Rattle.box_pool.proofs.Places.{Lacks, runs_at-set, Follows-set, Follows-le, SameWithin, SameWithin-front, runs_at-same, Follows-push, cell_count-Follows}
use Rattle.box_pool.proofs.Sweeping.{lacks_before, distinct_permuted}
use Rattle.std.specs.List.Sorted.{IsPermutation}
use Rattle.std.proofs.lemmas.List.Sorted.{All-permutation, length_permutation}

-- ---- looking up

pub all_tail : (P : ℕ → Type 0) (id : ℕ) (ids : List ℕ) → All P (id ∷ ids) → All P ids
all_tail P id ids all k d here = all (suc k) d (omega arith)

pub lookup_below : (places : List Place) (cells : List Cell) (n id : ℕ) (ids : List ℕ) → All (λ other. other < n) ids → IsSome (lookup (eqb id) (runs_at places cells ids)) → id < n
lookup_below places cells n id [] all some = cc
lookup_below places cells n id (other ∷ ids) all some =
    ⊎_elim
    (λ (same : (eqb id other ≡ true) × (id ≡ other)). let low = all 0 0 (omega arith) in omega (arith, low, same.1))
    (λ (differs : (eqb id other ≡ false) × (id ≡ other → ⊥)).
    let P : Bool → Type 0 = λ b. is_some (cond b (Some (run_at places cells other).1) (lookup (eqb id) (runs_at places cells ids))) ≡ true in
    lookup_below places cells n id ids (all_tail (λ other. other < n) other ids all) (subst P differs.0 some))
    (eqb_tells id other)

-- a live run lies within the used cells, and its cells are found at its place
pub lookup_run : (places : List Place) (cells : List Cell) (from id : ℕ) (ids : List ℕ) (to : ℕ) → Follows places from ids to → IsSome (lookup (eqb id) (runs_at places cells ids)) → (lookup (eqb id) (runs_at places cells ids) ≡ Some (run_at places cells id).1) × ((place_at places id).start + (place_at places id).count ≤ to)
lookup_run places cells from id [] to follows some = absurd cc
lookup_run places cells from id (other ∷ ids) to follows some =
    let own = (run_at places cells other).1 in
    let rest = lookup (eqb id) (runs_at places cells ids) in
    let le = Follows-le places (from + (place_at places other).count) ids to follows.1 in
    let start : (place_at places other).start ≡ from = follows.0 in
    let Goal : Bool → Type 0 = λ b. (cond b (Some own) rest ≡ Some (run_at places cells id).1) × ((place_at places id).start + (place_at places id).count ≤ to) in
    ⊎_elim
    (λ (same : (eqb id other ≡ true) × (id ≡ other)).
    let At : ℕ → Type 0 = λ x. (Some own ≡ Some (run_at places cells x).1) × ((place_at places x).start + (place_at places x).count ≤ to) in
    subst Goal (sym same.0) (subst At (sym same.1) (refl, omega (arith, start, le))))
    (λ (differs : (eqb id other ≡ false) × (id ≡ other → ⊥)).
    let P : Bool → Type 0 = λ b. is_some (cond b (Some own) rest) ≡ true in
    subst Goal (sym differs.0) (lookup_run places cells (from + (place_at places other).count) id ids to follows.1 (subst P differs.0 some)))
    (eqb_tells id other)

pub lookup_lacks : (places : List Place) (cells : List Cell) (id : ℕ) (ids : List ℕ) → Lacks id ids → lookup (eqb id) (runs_at places cells ids) ≡ None
lookup_lacks places cells id [] lacks = refl
lookup_lacks places cells id (other ∷ ids) lacks =
    let own = (run_at places cells other).1 in
    let rest = lookup (eqb id) (runs_at places cells ids) in
    ⊎_elim
    (λ (same : (eqb id other ≡ true) × (id ≡ other)). absurd (lacks.0 (sym same.1)))
    (λ (differs : (eqb id other ≡ false) × (id ≡ other → ⊥)).
    ap (λ (b : Bool). cond b (Some own) rest) differs.0 ∙ lookup_lacks places cells id ids lacks.1)
    (eqb_tells id other)

-- ---- growing

-- two lists of places agree on these ids
abbrev pub Agree : List Place → List Place → List ℕ → Type 0
Agree places others [] = Unit {0}
Agree places others (id ∷ ids) = (place_at others id ≡ place_at places id) × Agree places others ids

pub Agree-below : (places others : List Place) (ids : List ℕ) → All (λ id. id < length places) ids → take (length places) others ≡ places → Agree places others ids
Agree-below places others [] all kept = tt
Agree-below places others (id ∷ ids) all kept =
    let below : id < length places = all 0 0 (omega arith) in (
      sym (get_or-take (length places) others id _ below) ∙ ap (λ (ps : List Place). place_at ps id) kept,
      Agree-below places others ids (all_tail (λ id. id < length places) id ids all) kept,
    )

pub runs_at-agree : (places others : List Place) (cells : List Cell) (ids : List ℕ) → Agree places others ids → runs_at others cells ids ≡ runs_at places cells ids
runs_at-agree places others cells [] agree = refl
runs_at-agree places others cells (id ∷ ids) agree =
    ap (λ (at : Place). (id, take at.count (drop at.start cells)) ∷ runs_at others cells ids) agree.0
    ∙ ap (λ (runs : List (ℕ × List Cell)). run_at places cells id ∷ runs) (runs_at-agree places others cells ids agree.1)

pub Follows-agree : (places others : List Place) (from : ℕ) (ids : List ℕ) (to : ℕ) → Agree places others ids → Follows places from ids to → Follows others from ids to
Follows-agree places others from [] to agree follows = follows
Follows-agree places others from (id ∷ ids) to agree follows =
    let Rest : Place → Type 0 = λ at. Follows others (from + at.count) ids to in (
      ap (λ (at : Place). at.start) agree.0 ∙ follows.0,
      subst Rest (sym agree.0) (Follows-agree places others (from + (place_at places id).count) ids to agree.1 follows.1),
    )

pub take_kept : {X : Type 0} (xs ys : List X) (n : ℕ) → n ≤ length xs → take (length xs) ys ≡ xs → take n ys ≡ take n xs
take_kept xs ys n le kept = sym (take-take n (length xs) ys le) ∙ ap (take n) kept

pub all_take : (P : ℕ → Type 0) (n : ℕ) (ids : List ℕ) → n ≤ length ids → All P ids → All P (take n ids)
all_take P n ids le all k d here =
    let size = length-take n ids in
    let below : k < n = omega (arith, size, here) in
    subst P (sym (get_or-take n ids k d below)) (all k d (omega arith))

-- runs that stay where they are
pub record Stay (cells cells' : List Cell) (places places' : List Place) (order order' : List ℕ) (extent : Extent) : Type 0 where
  pub follows : Follows places' 0 (take extent.live order') extent.used
  pub runs : runs_at places' cells' (take extent.live order') ≡ runs_at places cells (take extent.live order)

pub stay_grown : (cells cells' : List Cell) (places places' : List Place) (order order' : List ℕ) (extent : Extent) → extent.live ≤ length order → extent.used ≤ length cells → length order ≤ length places → All (λ id. id < length order) order → take (length cells) cells' ≡ cells → take (length places) places' ≡ places → take (length order) order' ≡ order → Follows places 0 (take extent.live order) extent.used → Stay cells cells' places places' order order' extent
stay_grown cells cells' places places' order order' extent live used placed below kept_cells kept_places kept_order follows =
    let ids = take extent.live order in
    let same : take extent.live order' ≡ ids = take_kept order order' extent.live live kept_order in
    let all : All (λ id. id < length places) ids = all_take (λ id. id < length places) extent.live order live (λ k d here. let h = below k d here in omega (arith, h, placed)) in
    let agree = Agree-below places places' ids all kept_places in
    let within : SameWithin 0 extent.used cells cells' = SameWithin-front 0 extent.used cells cells' (take_kept cells cells' extent.used used kept_cells) in
    let F : List ℕ → Type 0 = λ xs. Follows places' 0 xs extent.used in
    record {
      follows = subst F (sym same) (Follows-agree places places' 0 ids extent.used agree follows);
      runs = ap (runs_at places' cells') same ∙ (runs_at-agree places places' cells' ids agree ∙ runs_at-same places cells cells' 0 ids extent.used follows within);
    }

pub whole_grown : (cells cells' : List Cell) (places places' : List Place) (order order' : List ℕ) (marks marks' : List Bool) (held checkpoint : Extent) (cell_room cell_room' run_room run_room' : ℕ) → IsWhole cells places order marks held checkpoint cell_room run_room
    → take (length cells) cells' ≡ cells → take (length places) places' ≡ places → take (length order) order' ≡ order
    → IsDistinct eqb order' → All (λ id. id < length order') order' → length order' ≤ length places' → length order' ≤ length marks'
    → cell_room ≤ cell_room' → run_room ≤ run_room' → cell_room' ≤ length cells' → run_room' ≤ length order'
    → IsWhole cells' places' order' marks' held checkpoint cell_room' run_room'
whole_grown cells cells' places places' order order' marks marks' held checkpoint cell_room cell_room' run_room run_room' whole kc kp ko distinct below placed marked cr rr cf rf =
    let open_live = whole.live in let open_used = whole.used in let open_runs = whole.runs_fit in let open_cells = whole.cells_fit in
    let ml = whole.checkpoint_live in let mu = whole.checkpoint_used in
    let now = stay_grown cells cells' places places' order order' held (omega arith) (omega arith) whole.placed whole.below kc kp ko whole.follows in
    let then = stay_grown cells cells' places places' order order' checkpoint (omega arith) (omega arith) whole.placed whole.below kc kp ko whole.checkpoint_follows in
    record {
      distinct = distinct;
      below = below;
      placed = placed;
      marked = marked;
      live = omega arith;
      used = omega arith;
      runs_fit = rf;
      cells_fit = cf;
      follows = now.follows;
      checkpoint_live = ml;
      checkpoint_used = mu;
      checkpoint_follows = then.follows;
    }

pub runs_grown : (cells cells' : List Cell) (places places' : List Place) (order order' : List ℕ) (marks : List Bool) (held checkpoint : Extent) (cell_room run_room : ℕ) → IsWhole cells places order marks held checkpoint cell_room run_room
    → take (length cells) cells' ≡ cells → take (length places) places' ≡ places → take (length order) order' ≡ order
    → (runs_at places' cells' (take held.live order') ≡ runs_at places cells (take held.live order)) × (runs_at places' cells' (take checkpoint.live order') ≡ runs_at places cells (take checkpoint.live order))
runs_grown cells cells' places places' order order' marks held checkpoint cell_room run_room whole kc kp ko =
    let open_live = whole.live in let open_used = whole.used in let open_runs = whole.runs_fit in let open_cells = whole.cells_fit in
    let ml = whole.checkpoint_live in let mu = whole.checkpoint_used in
    let now = stay_grown cells cells' places places' order order' held (omega arith) (omega arith) whole.placed whole.below kc kp ko whole.follows in
    let then = stay_grown cells cells' places places' order order' checkpoint (omega arith) (omega arith) whole.placed whole.below kc kp ko whole.checkpoint_follows in
    (now.runs, then.runs)

-- ---- counting

pub live_counted : (cells : List Cell) (places : List Place) (order : List ℕ) (marks : List Bool) (held checkpoint : Extent) (cell_room run_room : ℕ) → IsWhole cells places order marks held checkpoint cell_room run_room → length (runs_at places cells (take held.live order)) ≡ held.live
live_counted cells places order marks held checkpoint cell_room run_room whole =
    let a = whole.live in let b = whole.runs_fit in
    length-map (take held.live order) (run_at places cells) ∙ length-take-le held.live order (omega arith)

pub cells_counted : (cells : List Cell) (places : List Place) (order : List ℕ) (marks : List Bool) (held checkpoint : Extent) (cell_room run_room : ℕ) → IsWhole cells places order marks held checkpoint cell_room run_room → cell_count (runs_at places cells (take held.live order)) ≡ held.used
cells_counted cells places order marks held checkpoint cell_room run_room whole =
    let a = whole.used in let b = whole.cells_fit in
    let sum = cell_count-Follows places cells 0 (take held.live order) held.used whole.follows (omega arith) in
    omega (arith, sum)

pub keys_are : (places : List Place) (cells : List Cell) (ids : List ℕ) → keys_of (runs_at places cells ids) ≡ ids
keys_are places cells [] = refl
keys_are places cells (id ∷ ids) = ap (λ (xs : List ℕ). id ∷ xs) (keys_are places cells ids)

pub ids_differ : (cells : List Cell) (places : List Place) (order : List ℕ) (marks : List Bool) (held checkpoint : Extent) (cell_room run_room : ℕ) → IsWhole cells places order marks held checkpoint cell_room run_room → IsDistinct eqb (keys_of (runs_at places cells (take held.live order)))
ids_differ cells places order marks held checkpoint cell_room run_room whole =
    let size = length-take held.live order in
    let a = whole.live in let b = whole.runs_fit in
    let Distinct : List ℕ → Type 0 = λ ids. IsDistinct eqb ids in
    let Differ : ℕ → ℕ → Type 0 = λ x y. eqb x y ≡ false in
    subst Distinct (sym (keys_are places cells (take held.live order))) (IsDistinct-from_apart eqb (take held.live order) (λ i j d less here.
    let below : j < held.live = omega (arith, size, here) in
    let before : i < held.live = omega arith in
    let Left : ℕ → Type 0 = λ x. eqb x (get_or (take held.live order) j d) ≡ false in
    let Right : ℕ → Type 0 = λ y. eqb (get_or order i d) y ≡ false in
    subst Left (sym (get_or-take held.live order i d before)) (subst Right (sym (get_or-take held.live order j d below)) (apart_from_distinct eqb order i j d whole.distinct less (omega arith)))))

-- ---- putting

pub record Written (cells cells' : List Cell) (at : ℕ) (piece : List Cell) : Type 0 where
  pub before : take at cells' ≡ take at cells
  pub there : take (length piece) (drop at cells') ≡ piece

-- what `put` writes at an id that is not live
abbrev pub new_place : Extent → List Cell → Place
new_place held piece = record { start = held.used; count = length piece }

abbrev pub new_held : Extent → List Cell → Extent
new_held held piece = record { live = held.live + 1; used = held.used + length piece }

pub whole_put : (cells cells' : List Cell) (places : List Place) (order : List ℕ) (marks : List Bool) (held checkpoint : Extent) (cell_room run_room : ℕ) (piece : List Cell)
    → IsWhole cells places order marks held checkpoint cell_room run_room → length cells' ≡ length cells → held.used + length piece ≤ cell_room → held.live < run_room
    → IsWhole cells' (set places (get_or order held.live 0) (new_place held piece)) order marks (new_held held piece) checkpoint cell_room run_room
whole_put cells cells' places order marks held checkpoint cell_room run_room piece whole size room below =
    let a = whole.live in let b = whole.runs_fit in let m = whole.checkpoint_live in let mu = whole.checkpoint_used in let p = whole.placed in let cf = whole.cells_fit in
    let id : ℕ = get_or order held.live 0 in
    let here : held.live < length order = omega arith in
    let id_below : id < length places = let h = whole.below held.live 0 here in omega (arith, h) in
    let new : Place = new_place held piece in
    let lacks = lacks_before order held.live held.live whole.distinct here (omega arith) in
    let lacks_then = lacks_before order held.live checkpoint.live whole.distinct here m in
    let own : place_at (set places id new) id ≡ new = get_or-set_same places id new _ id_below in
    let pushed = Follows-push (set places id new) 0 (take held.live order) held.used id (Follows-set places id new 0 (take held.live order) held.used lacks whole.follows) (ap (λ (p : Place). p.start) own) in
    let C : Place → Type 0 = λ p. Follows (set places id new) 0 (take held.live order ++ id ∷ []) (held.used + p.count) in
    let F : List ℕ → Type 0 = λ ids. Follows (set places id new) 0 ids (held.used + length piece) in
    let more : take (held.live + 1) order ≡ take held.live order ++ id ∷ [] = take_more order held.live 0 here in
    record {
      distinct = whole.distinct;
      below = whole.below;
      placed = let s = length-set places id new in omega (arith, s);
      marked = whole.marked;
      live = omega arith;
      used = room;
      runs_fit = whole.runs_fit;
      cells_fit = omega arith;
      follows = subst F (sym more) (subst C own pushed);
      checkpoint_live = omega arith;
      checkpoint_used = omega arith;
      checkpoint_follows = Follows-set places id new 0 (take checkpoint.live order) checkpoint.used lacks_then whole.checkpoint_follows;
    }

pub runs_put : (cells cells' : List Cell) (places : List Place) (order : List ℕ) (marks : List Bool) (held checkpoint : Extent) (cell_room run_room : ℕ) (piece : List Cell)
    → IsWhole cells places order marks held checkpoint cell_room run_room → Written cells cells' held.used piece → held.live < run_room
    → (runs_at (set places (get_or order held.live 0) (new_place held piece)) cells' (take (held.live + 1) order) ≡ runs_at places cells (take held.live order) ++ (get_or order held.live 0, piece) ∷ [])
    × (runs_at (set places (get_or order held.live 0) (new_place held piece)) cells' (take checkpoint.live order) ≡ runs_at places cells (take checkpoint.live order))
    × (lookup (eqb (get_or order held.live 0)) (runs_at places cells (take held.live order)) ≡ None)
runs_put cells cells' places order marks held checkpoint cell_room run_room piece whole written below =
    let a = whole.live in let b = whole.runs_fit in let m = whole.checkpoint_live in let mu = whole.checkpoint_used in let p = whole.placed in
    let id : ℕ = get_or order held.live 0 in
    let here : held.live < length order = omega arith in
    let id_below : id < length places = let h = whole.below held.live 0 here in omega (arith, h) in
    let new : Place = new_place held piece in
    let places' : List Place = set places id new in
    let ids : List ℕ = take held.live order in
    let lacks = lacks_before order held.live held.live whole.distinct here (omega arith) in
    let lacks_then = lacks_before order held.live checkpoint.live whole.distinct here m in
    let own : place_at places' id ≡ new = get_or-set_same places id new _ id_below in
    let more : take (held.live + 1) order ≡ ids ++ id ∷ [] = take_more order held.live 0 here in
    let within : SameWithin 0 held.used cells cells' = SameWithin-front 0 held.used cells cells' written.before in
    let within_then : SameWithin 0 checkpoint.used cells cells' = λ k n l h. within k n l (omega (arith, h)) in
    let front : runs_at places' cells' ids ≡ runs_at places cells ids = runs_at-set places cells' id new ids lacks ∙ runs_at-same places cells cells' 0 ids held.used whole.follows within in
    let own_run : run_at places' cells' id ≡ (id, piece) = ap (λ (p : Place). (id, take p.count (drop p.start cells'))) own ∙ ap (λ (cs : List Cell). (id, cs)) written.there in (
      ap (runs_at places' cells') more ∙ (map_push (run_at places' cells') ids id ∙ (ap (λ (rs : List (ℕ × List Cell)). rs ++ run_at places' cells' id ∷ []) front ∙ ap (λ (r : ℕ × List Cell). runs_at places cells ids ++ r ∷ []) own_run)),
      runs_at-set places cells' id new (take checkpoint.live order) lacks_then ∙ runs_at-same places cells cells' 0 (take checkpoint.live order) checkpoint.used whole.checkpoint_follows within_then,
      lookup_lacks places cells id ids lacks,
    )

-- ---- sweeping

pub whole_swept : (cells cells' : List Cell) (places places' : List Place) (order order' : List ℕ) (marks marks' : List Bool) (held checkpoint kept : Extent) (cell_room run_room : ℕ)
    → IsWhole cells places order marks held checkpoint cell_room run_room → length cells' ≡ length cells → length places' ≡ length places → length marks' ≡ length marks
    → IsPermutation order order' → kept.live ≤ held.live → kept.used ≤ held.used → Follows places' 0 (take kept.live order') kept.used
    → IsWhole cells' places' order' marks' kept kept cell_room run_room
whole_swept cells cells' places places' order order' marks marks' held checkpoint kept cell_room run_room whole sc sp sm permuted live used follows =
    let a = whole.live in let b = whole.runs_fit in let u = whole.used in let cf = whole.cells_fit in let p = whole.placed in let m = whole.marked in
    let same = length_permutation order order' permuted in
    let below = All-permutation (λ id. id < length order) order order' permuted whole.below in
    record {
      distinct = distinct_permuted order order' permuted whole.distinct;
      below = λ k d here. let h = below k d here in omega (arith, h, same);
      placed = omega (arith, same);
      marked = omega (arith, same);
      live = omega arith;
      used = omega arith;
      runs_fit = omega (arith, same);
      cells_fit = omega arith;
      follows = follows;
      checkpoint_live = omega arith;
      checkpoint_used = omega arith;
      checkpoint_follows = follows;
    }

pub filter_marked : (places : List Place) (cells : List Cell) (marks : List Bool) (keep : List RunId) → ((id : ℕ) → id < length marks → get_or marks id false ≡ is_listed keep id) → (ids : List ℕ) → All (λ id. id < length marks) ids → filter (is_marked marks) (runs_at places cells ids) ≡ filter (λ run. is_listed keep run.0) (runs_at places cells ids)
filter_marked places cells marks keep same [] all = refl
filter_marked places cells marks keep same (id ∷ ids) all =
    let rest = filter_marked places cells marks keep same ids (all_tail (λ id. id < length marks) id ids all) in
    let run = run_at places cells id in
    let here = same id (all 0 0 (omega arith)) in
    ap (λ (rs : List (ℕ × List Cell)). cond (get_or marks id false) (run ∷ rs) rs) rest
    ∙ ap (λ (b : Bool). cond b (run ∷ filter (λ run. is_listed keep run.0) (runs_at places cells ids)) (filter (λ run. is_listed keep run.0) (runs_at places cells ids))) here

-- ---- what contracts see

pub region_same : (runs runs' : List (ℕ × List Cell)) (checkpoint checkpoint' : Option (List (ℕ × List Cell))) (cell_room cell_room' run_room run_room' : ℕ) → runs ≡ runs' → checkpoint ≡ checkpoint' → cell_room ≡ cell_room' → run_room ≡ run_room'
    → (let a : Region = record { runs = runs; checkpoint = checkpoint; cell_room = cell_room; run_room = run_room } in a) ≡ (let b : Region = record { runs = runs'; checkpoint = checkpoint'; cell_room = cell_room'; run_room = run_room' } in b)
region_same runs runs' checkpoint checkpoint' cell_room cell_room' run_room run_room' r k c n = cc

-- without a checkpoint there is none, whatever the runs at the last one were
pub idle : (begun : Bool) (before after : List (ℕ × List Cell)) → checkpoint_of begun before ≡ None → checkpoint_of begun after ≡ checkpoint_of begun before
idle true before after e = absurd cc
idle false before after e = refl

-- the runs that a checkpoint has
pub at_checkpoint : (begun : Bool) (runs before : List (ℕ × List Cell)) → checkpoint_of begun runs ≡ Some before → runs ≡ before
at_checkpoint true runs before e = cc
at_checkpoint false runs before e = absurd cc

pub whole_empty : (order : List ℕ) (cells : List Cell) (places : List Place) (marks : List Bool) → order ≡ [] → IsWhole cells places order marks (record { live = 0; used = 0 }) (record { live = 0; used = 0 }) 0 0
unfolding IsDistinct
whole_empty order cells places marks none =
    let P : List ℕ → Type 0 = λ ids. IsWhole cells places ids marks (record { live = 0; used = 0 }) (record { live = 0; used = 0 }) 0 0 in
    subst P (sym none) (record {
      distinct = tt;
      below = λ k d here. absurd (omega (arith, here));
      placed = omega arith;
      marked = omega arith;
      live = omega arith;
      used = omega arith;
      runs_fit = omega arith;
      cells_fit = omega arith;
      follows = refl;
      checkpoint_live = omega arith;
      checkpoint_used = omega arith;
      checkpoint_follows = refl;
    })

pub runs_at-is : (places places' : List Place) (cells cells' : List Cell) (ids ids' : List ℕ) → places ≡ places' → cells ≡ cells' → ids ≡ ids' → runs_at places cells ids ≡ runs_at places' cells' ids'
runs_at-is places places' cells cells' ids ids' e f g =
    ap (λ (p : List Place). runs_at p cells ids) e ∙ (ap (λ (c : List Cell). runs_at places' c ids) f ∙ ap (runs_at places' cells') g)

pub whole_is : (cells cells' : List Cell) (places places' : List Place) (order order' : List ℕ) (marks marks' : List Bool) (held checkpoint : Extent) (cell_room run_room : ℕ) → cells' ≡ cells → places' ≡ places → order' ≡ order → marks' ≡ marks → IsWhole cells places order marks held checkpoint cell_room run_room → IsWhole cells' places' order' marks' held checkpoint cell_room run_room
whole_is cells cells' places places' order order' marks marks' held checkpoint cell_room run_room c p o m whole =
    let A : List Cell → Type 0 = λ x. IsWhole x places order marks held checkpoint cell_room run_room in
    let B : List Place → Type 0 = λ x. IsWhole cells' x order marks held checkpoint cell_room run_room in
    let C : List ℕ → Type 0 = λ x. IsWhole cells' places' x marks held checkpoint cell_room run_room in
    let D : List Bool → Type 0 = λ x. IsWhole cells' places' order' x held checkpoint cell_room run_room in
    subst D (sym m) (subst C (sym o) (subst B (sym p) (subst A (sym c) whole)))

-- a Vec whose items were written through a slice
pub refilled : {X : Type 0} (v : Vec X Global) (new shown : List X) → shown ≡ v.items → length shown ≡ v.len → length new ≡ length shown → ((with_items v new).items ≡ new) × (length new ≡ length v.items)
refilled v new shown same size kept = (with_items_is v new (kept ∙ size), kept ∙ ap length same)

-- what `get` finds
pub found_run : (cells : List Cell) (places : List Place) (order : List ℕ) (marks : List Bool) (held checkpoint : Extent) (cell_room run_room id : ℕ) (place : Place) → IsWhole cells places order marks held checkpoint cell_room run_room → IsSome (lookup (eqb id) (runs_at places cells (take held.live order))) → place ≡ get_or places id place
    → (id < length places) × (place.start + place.count ≤ length cells) × (lookup (eqb id) (runs_at places cells (take held.live order)) ≡ Some (take (place.start + place.count - place.start) (drop place.start cells)))
found_run cells places order marks held checkpoint cell_room run_room id place whole live read =
    let a = whole.live in let b = whole.runs_fit in let p = whole.placed in let u = whole.used in let cf = whole.cells_fit in
    let low : id < length order = lookup_below places cells (length order) id (take held.live order) (all_take (λ id. id < length order) held.live order (omega arith) whole.below) live in
    let below : id < length places = omega arith in
    let is : place ≡ place_at places id = get_or_read places id place below read _ in
    let found = lookup_run places cells 0 id (take held.live order) held.used whole.follows live in
    let Fits : Place → Type 0 = λ x. x.start + x.count ≤ held.used in
    let Found : Place → Type 0 = λ x. lookup (eqb id) (runs_at places cells (take held.live order)) ≡ Some (take x.count (drop x.start cells)) in
    let Cut : ℕ → Type 0 = λ n. lookup (eqb id) (runs_at places cells (take held.live order)) ≡ Some (take n (drop place.start cells)) in
    let fits = subst Fits (sym is) found.1 in
    let n : place.count ≡ place.start + place.count - place.start = omega arith in
    (below, omega (arith, fits), subst Cut n (subst Found (sym is) found.0))

pub on_err : {T E : Type 0} (r : Result T E) (P : Type 0) → P → OnErr r P
on_err (Ok x) P holds = tt
on_err (Err e) P holds = holds
