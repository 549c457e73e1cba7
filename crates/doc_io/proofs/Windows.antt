-- The bytes between two places of a room: moved down, added to and cut at their front.
use Rattle.std.proofs.Common.{◌≡◌, ℕ, ◌+◌, ◌-◌, ◌<◌, ◌≤◌, List, ◌++◌, length, take, drop, ap, sym, refl, subst, ◌∙◌, arith, length-append, length-take, length-drop, append-nil, Option, Some, None}
use Rattle.std.specs.Prelude.{Result, Ok, Err, IsErr}
use Rattle.std.proofs.Math.Seq.{take-add}
use Rattle.std.proofs.lemmas.List.{drop-drop, drop-take, length-take-le, take-take, take_at}
use Rattle.std.proofs.lemmas.Grind.{common_steps}
use Rattle.doc_io.specs.Causes.{InputsTold}
use Rattle.doc_io.specs.Held.{ReadsBehind, ReadsOn, window}

-- the other way round
cut_window : (start end : ℕ) (room : List ℕ) → start ≤ end → window start end room ≡ drop start (take end room)
cut_window start end room ordered =
    let whole : start + (end - start) ≡ end = omega (arith, ordered) in
    sym (drop-take start (end - start) room) ∙ ap (λ n. drop start (take n room)) whole

-- what stands behind it doesn't matter
pub window_front : (start end : ℕ) (room room' : List ℕ) → start ≤ end → take end room' ≡ take end room
    → window start end room' ≡ window start end room
window_front start end room room' ordered same =
    cut_window start end room' ordered ∙ ap (drop start) same ∙ sym (cut_window start end room ordered)

-- up to a place further on
pub window_more : (start end n : ℕ) (room : List ℕ) → start ≤ end
    → window start (end + n) room ≡ window start end room ++ take n (drop end room)
window_more start end n room ordered =
    let both : end + n - start ≡ (end - start) + n = omega (arith, ordered) in
    let whole : start + (end - start) ≡ end = omega (arith, ordered) in
    ap (λ k. take k (drop start room)) both
    ∙ take-add (end - start) n (drop start room)
    ∙ ap (λ l. window start end room ++ take n l) (drop-drop (end - start) start room ∙ ap (λ k. drop k room) whole)

-- from a place further on
pub window_less : (start end count : ℕ) (room : List ℕ) → start + count ≤ end
    → window (start + count) end room ≡ drop count (window start end room)
window_less start end count room within =
    let whole : count + (end - (start + count)) ≡ end - start = omega (arith, within) in
    ap (take (end - (start + count))) (sym (drop-drop count start room))
    ∙ sym (drop-take count (end - (start + count)) (drop start room))
    ∙ ap (λ k. drop count (take k (drop start room))) whole

module _ {E F : Type 0} (before after : InputsTold) (room room' held : List ℕ) (start end : ℕ) (ordered : start ≤ end)
    (is : window start end room ≡ held) where
  -- a read that gave so many bytes
  pub reads_on : (n : ℕ) → end ≤ length room → ReadsBehind {E = E} before after room room' end (Ok n)
      → ReadsOn {E = F} before after held (window start (end + n) room') (Ok n)
  reads_on n small r = record {
    files = r.files;
    faults = r.faults;
    missing = r.missing;
    bytes = (
      take n (drop end room'),
      window_more start end n room' ordered ∙ ap (λ l. l ++ take n (drop end room')) (window_front start end room room' ordered r.front ∙ is),
      size,
      r.bytes.1,
      r.bytes.2,
    );
    failed = tt;
  }
    where
      size : length (take n (drop end room')) ≡ n
      size = omega (arith, length-take n (drop end room'), length-drop end room', r.same, r.bytes.0)

  -- a read that failed
  pub reads_not : (e : E) (result : Result ℕ F) → IsErr result → ReadsBehind before after room room' end (Err e)
      → ReadsOn before after held (window start end room') result
  reads_not e (Ok n) failed r = absurd (let no = failed in cc)
  reads_not e (Err f) failed r = record {
    files = r.files;
    faults = r.faults;
    missing = r.missing;
    bytes = (window_front start end room room' ordered r.front ∙ is, r.bytes);
    failed = r.failed;
  }

-- without a front of what is held
pub window_cut : (start end count : ℕ) (room held : List ℕ) → start ≤ end → end ≤ length room → window start end room ≡ held
    → count ≤ length held → window (start + count) end room ≡ drop count held
window_cut start end count room held ordered small is short =
    let size : length (window start end room) ≡ end - start = omega (arith, length-take (end - start) (drop start room), length-drop start room, small) in
    window_less start end count room (omega (arith, ap length is, size, short, ordered)) ∙ ap (drop count) is
