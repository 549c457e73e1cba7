-- What reading answers.
use Rattle.std.specs.Prelude.{◌≡◌, ℕ, List, [], ◌∷◌, Result, Ok, Err}
use Rattle.font_metrics.specs.declared.given.Needed.{Needed}
use Rattle.metrics_file.specs.declared.refusal.LineRefusal.{LineRefusal}
use Rattle.metrics_file.specs.declared.refusal.LineRefusal.TheVariants.{Fault as FaultyLine, Memory as NoMemory}
use Rattle.metrics_file.specs.declared.refusal.MetricsFault.{MetricsFault}
use Rattle.metrics_file.specs.declared.refusal.MetricsRefusal.{MetricsRefusal}
use Rattle.metrics_file.specs.declared.refusal.MetricsRefusal.TheVariants.{Fault as Faulty, Memory}
use Rattle.font_metrics.specs.Faults.{Step, number_of_fault}
use Rattle.font_metrics.specs.Metrics.{MetricsValue}
use Rattle.metrics_file.specs.Reading.{Fault, fault_at, after_first}
use Rattle.font_metrics.specs.Whole.{Given, needed, metrics_with, IsGiven}

-- a fault as it is told: the line's number and the number of the fault's kind
abbrev pub told : Fault → MetricsFault
told f = record { line = f.line; kind = number_of_fault f.fault }

-- Ok exactly with what the file says, and Fault exactly with its first fault
abbrev pub Reads : {X : Type 0} → Result X Fault → Result X MetricsRefusal → Type 0
Reads said (Ok read) = said ≡ Ok read
Reads said (Err (Faulty fault)) = (f : Fault) × (said ≡ Err f) × (told f ≡ fault)
Reads said (Err Memory) = Unit {0}

-- ---- of the lines behind the first

-- the first of these lines gives this
abbrev pub Begins : List (List ℕ) → Given → Type 0
Begins [] given = ⊥
Begins (first ∷ lines) given = after_first first ≡ Ok given

-- a file says the metrics of what all its lines have given
pub record EndsWith (said : Result MetricsValue Fault) (new : Given) (n : Needed) : Type 0 where
  pub given : IsGiven new
  pub needs : needed new ≡ Ok n
  pub metrics : said ≡ Ok (metrics_with n new)

-- what is given at the end of a file and what metrics need of it, or exactly the file's first fault
abbrev pub Ends : Result MetricsValue Fault → Given → Result Needed MetricsRefusal → Type 0
Ends said new (Ok needs) = EndsWith said new needs
Ends said new (Err refusal) = Reads {X = MetricsValue} said (Err refusal)

-- ---- of one line

-- what is given then, or exactly the first fault of the line
abbrev pub Takes : {X : Type 0} → Step X → X → Result (Unit {0}) LineRefusal → Type 0
Takes step new (Ok done) = step ≡ Ok new
Takes step new (Err (FaultyLine fault)) = step ≡ Err fault
Takes step new (Err NoMemory) = Unit {0}

-- what a step gives, or exactly its fault
abbrev pub Gives : {X : Type 0} → Step X → Result X LineRefusal → Type 0
Gives step (Ok x) = step ≡ Ok x
Gives step (Err (FaultyLine fault)) = step ≡ Err fault
Gives step (Err NoMemory) = Unit {0}

-- a line's refusal as that of its file
abbrev pub refusal_at : ℕ → LineRefusal → MetricsRefusal
refusal_at line (FaultyLine fault) = Faulty (told (fault_at line fault))
refusal_at line NoMemory = Memory
