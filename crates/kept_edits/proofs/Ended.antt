-- How an edit ends.
use Rattle.std.proofs.Common.{◌∙◌, ap, []}
use Rattle.splices.specs.Splicing.{inverse, site_of}
use Rattle.kept_results.specs.Ends.{sealed, settled}
use Rattle.kept_results.specs.Kept.{HoldsOne}
use Rattle.kept_results.proofs.Sealing.{seal_law}
use Rattle.kept_results.proofs.Whole.{kept_law}
use Rattle.kept_edits.specs.Changed.{taken_from, undone_memo}
use Rattle.kept_edits.specs.Endings.{AcceptedLaw, EntriesStayLaw, RefusedLaw}
use Rattle.kept_edits.proofs.Backwards.{back_law}
use Rattle.kept_edits.proofs.Needing.{stays_law}

pub accepted_law : AcceptedLaw
accepted_law m edited root before after from to passes kept =
    let s = seal_law m edited after passes.agrees in
    let one : HoldsOne [] (sealed after) root = record { entry = settled kept.entry; held = s.stays [] kept.entry kept.has; in_context = kept.in_context } in
    (record { ready = record { agrees = s.agrees; plain = s.plain }; unmarked = s.unmarked; kept = one }, kept_law m edited (sealed after) root s.agrees one)

pub refused_law : RefusedLaw
refused_law m edited root memo after splice path known room from to done unmarked fits plain passes =
    ap (undone_memo (inverse (site_of splice) (taken_from splice path memo) room) path) (passes.same ∙ plain)
    ∙ back_law memo splice path known room unmarked fits

pub entries_stay_law : EntriesStayLaw
entries_stay_law m edited root memo after change other path known from to done before behind entry fits same passes came held =
    (seal_law m edited after passes.agrees).stays behind entry
    (passes.keeps.at behind entry (stays_law m memo change other path known before behind entry fits same came held))
