-- The text of a row is read as the row.
use Rattle.std.proofs.Common.{◌≡◌, refl, codes, Option, Some}
use Rattle.serde_json.specs.Data.{Data}
use Rattle.serde_json.specs.Read.{read}
use Rattle.serde_json.proofs.OnLiterals.{serde_json_on_literals}
use Rattle.seeded_edits.specs.Document.{row_value}

row_reads : read (codes "{\"name\": \"mrow\", \"children\": [\n    {\"name\": \"mi\", \"text\": \"x\"},\n    {\"name\": \"mo\", \"text\": \"+\"},\n    {\"name\": \"mfrac\", \"children\": [{\"name\": \"mn\", \"text\": \"1\"}, {\"name\": \"mn\", \"text\": \"2\"}]},\n    {\"name\": \"mo\", \"text\": \"-\"},\n    {\"name\": \"msup\", \"children\": [{\"name\": \"mi\", \"text\": \"b\"}, {\"name\": \"mn\", \"text\": \"2\"}]},\n    {\"name\": \"mo\", \"text\": \"(\"},\n    {\"name\": \"mn\", \"text\": \"4\"},\n    {\"name\": \"mo\", \"text\": \")\"}\n]}") ≡ Some row_value
unfolding serde_json_on_literals
row_reads = refl

same : (read : Option Data) (one other : Data) → read ≡ Some one → read ≡ Some other → other ≡ one
same read one other first second = cc

pub the_row : (row : Data) → read (codes "{\"name\": \"mrow\", \"children\": [\n    {\"name\": \"mi\", \"text\": \"x\"},\n    {\"name\": \"mo\", \"text\": \"+\"},\n    {\"name\": \"mfrac\", \"children\": [{\"name\": \"mn\", \"text\": \"1\"}, {\"name\": \"mn\", \"text\": \"2\"}]},\n    {\"name\": \"mo\", \"text\": \"-\"},\n    {\"name\": \"msup\", \"children\": [{\"name\": \"mi\", \"text\": \"b\"}, {\"name\": \"mn\", \"text\": \"2\"}]},\n    {\"name\": \"mo\", \"text\": \"(\"},\n    {\"name\": \"mn\", \"text\": \"4\"},\n    {\"name\": \"mo\", \"text\": \")\"}\n]}") ≡ Some row → row ≡ row_value
the_row row read = same _ row_value row row_reads read
