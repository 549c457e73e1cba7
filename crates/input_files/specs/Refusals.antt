-- What a refusal tells the user, and which refusal stands for those of the crates below.
use Rattle.std.specs.Prelude.{ℕ, List, [], ◌∷◌, codes}
use Rattle.std.specs.Fmt.{decimal}
use Rattle.doc_io.specs.Lines.{line}
use Rattle.doc_io.specs.declared.whole.ReadRefusal.{ReadRefusal}
use Rattle.doc_io.specs.declared.whole.ReadRefusal.TheVariants as reading
use Rattle.fixed_units.specs.declared.refusal.LayRefusal.{LayRefusal}
use Rattle.fixed_units.specs.declared.refusal.LayRefusal.TheVariants as layout
use Rattle.metrics_file.specs.declared.refusal.MetricsRefusal.{MetricsRefusal}
use Rattle.metrics_file.specs.declared.refusal.MetricsRefusal.TheVariants as metrics
use Rattle.tree_json.specs.declared.refusal.TreeRefusal.{TreeRefusal}
use Rattle.tree_json.specs.declared.refusal.TreeRefusal.TheVariants as tree
use Rattle.page_queries.specs.declared.query.QueryRefusal.{QueryRefusal}
use Rattle.page_queries.specs.declared.query.QueryRefusal.TheVariants as query
use Rattle.input_files.specs.declared.status.Status.{Status}
use Rattle.input_files.specs.declared.status.Status.TheVariants as status
use Rattle.input_files.specs.declared.refusal.Refusal.{Refusal}
use Rattle.input_files.specs.declared.refusal.Refusal.TheVariants.{MetricsLong, Metrics, TreeLong, TreeJson, Tree, Range, NoNode, PaintMany, ReadFault, Memory}

-- the line of a fault: where it is, and the number of its kind
abbrev pub fault_line : List ℕ → ℕ → ℕ → List ℕ
fault_line file place kind = line file (decimal place ∷ decimal kind ∷ [])

-- the one line that is written
abbrev pub line_of : Refusal → List ℕ
line_of MetricsLong = codes "metrics long\n"
line_of (Metrics fault) = fault_line (codes "metrics") fault.line fault.kind
line_of TreeLong = codes "tree long\n"
line_of TreeJson = codes "tree json\n"
line_of (Tree fault) = fault_line (codes "tree") fault.element fault.kind
line_of Range = codes "range\n"
line_of (NoNode id) = line (codes "node") (decimal id.0 ∷ [])
line_of PaintMany = codes "paint many\n"
line_of ReadFault = []
line_of Memory = []

-- the status with which the run ends
abbrev pub status_of : Refusal → Status
status_of MetricsLong = status.Metrics
status_of (Metrics fault) = status.Metrics
status_of TreeLong = status.Tree
status_of TreeJson = status.Tree
status_of (Tree fault) = status.Tree
status_of Range = status.Range
status_of (NoNode id) = status.Node
status_of PaintMany = status.Paint
status_of ReadFault = status.ReadFault
status_of Memory = status.Memory

-- a file that wasn't read whole, where `long` stands for one that is too long
abbrev pub of_reading : ReadRefusal → Refusal → Refusal
of_reading reading.ReadFault long = ReadFault
of_reading reading.TooLong long = long
of_reading reading.Memory long = Memory

abbrev pub of_metrics : MetricsRefusal → Refusal
of_metrics (metrics.Fault fault) = Metrics fault
of_metrics metrics.Memory = Memory

abbrev pub of_tree : TreeRefusal → Refusal
of_tree (tree.Fault fault) = Tree fault
of_tree tree.Memory = Memory

abbrev pub of_query : QueryRefusal → Refusal
of_query (query.NoNode id) = NoNode id
of_query query.TooMany = PaintMany
of_query query.Memory = Memory

abbrev pub of_layout : LayRefusal → Refusal
of_layout layout.Range = Range
of_layout layout.Memory = Memory
