use Rattle.std.proofs.Common.{◌≡◌, ◌-◌, ◌<◌, length, take, true, false, cond, Some, ap, sym, ◌∙◌, refl, arith}
use Rattle.std.proofs.lemmas.Option.{slice_get_read}
use Rattle.std.specs.FinMap.{empty, get, get-empty}
use Rattle.std.specs.Option.{option_map}
use Rattle.std.specs.Str.{bytes_eq}
use Rattle.doc_io.specs.MemoryInputs.{name_cmp, put_in}
use Rattle.doc_io.proofs.MemoryFiles.{get-put_in-take}
use Rattle.doc_io.proofs.memory_inputs.newest.Goals as goal

pub returns-then-eq-clause-bytes : goal.returns-then-eq-clause-bytes
returns-then-eq-clause-bytes c =
    let place = c.loop-place.place - 1 in
    let file = c.index-files-place.result in
    let within : place < length c.args.files.now = omega arith in
    let same : bytes_eq c.args.name.now file.name ≡ true = cc in
    let step = get-put_in-take c.args.files.now place c.loop-place.place c.args.name.now file (omega arith) within c.index-files-place.is in
    ap (option_map (λ f. f.bytes)) (slice_get_read c.args.files.now _ place file refl within c.index-files-place.is)
    ∙ sym (c.loop-place.invariant.before ∙ step ∙ ap (λ b. cond b (Some file.bytes) (get (put_in empty (take place c.args.files.now)) c.args.name.now)) same)

pub loop-place-preserved : goal.loop-place-preserved
loop-place-preserved c =
    let place = c.loop-place.place - 1 in
    let file = c.index-files-place.result in
    let other : bytes_eq c.args.name.now file.name ≡ false = cc in
    let step = get-put_in-take c.args.files.now place c.loop-place.place c.args.name.now file (omega arith) (omega arith) c.index-files-place.is in
    record {
      within = omega arith;
      before = c.loop-place.invariant.before ∙ step ∙ ap (λ b. cond b (Some file.bytes) (get (put_in empty (take place c.args.files.now)) c.args.name.now)) other;
    }

pub returns-clause-bytes : goal.returns-clause-bytes
returns-clause-bytes c =
    let none : c.loop-place.place ≡ 0 = omega arith in
    sym (c.loop-place.invariant.before ∙ ap (λ n. get (put_in empty (take n c.args.files.now)) c.args.name.now) none ∙ get-empty name_cmp c.args.name.now)
