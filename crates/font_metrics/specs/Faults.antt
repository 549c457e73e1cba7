-- The faults of a metrics file, and steps that give a value or the first fault.
use Rattle.std.specs.Prelude.{ℕ, Bool, true, false, Option, Some, None, Result, Ok, Err}
use Rattle.font_metrics.specs.declared.fault.LineFault.{LineFault}
use Rattle.font_metrics.specs.declared.fault.LineFault.TheVariants.{ForeignByte, WrongFirstLine, UnknownWord, FieldCount, NotANumber, OutOfRange, WrongWord, NotNamed, Repeated, TooMany, NotRising, NoUpem, NoLine, NoXHeight, NoMissing}

-- a value, or the first fault that was met
abbrev pub Step : Type 0 → Type 0
Step X = Result X LineFault

-- the second step, where the first gave a value
infixl 10 ◌>>=◌
abbrev pub ◌>>=◌ : {X Y : Type 0} → Step X → (X → Step Y) → Step Y
Ok x >>= next = next x
Err fault >>= next = Err fault

-- a step's value, seen another way
abbrev pub step_map : {X Y : Type 0} → (X → Y) → Step X → Step Y
step_map f (Ok x) = Ok (f x)
step_map f (Err fault) = Err fault

-- both values, or the first fault
abbrev pub both : {X Y : Type 0} → Step X → Step Y → Step (X × Y)
both first second = do
  x ← first
  y ← second
  Ok (x, y)

-- what is there, or a fault
abbrev pub or_fault : {X : Type 0} → LineFault → Option X → Step X
or_fault fault None = Err fault
or_fault fault (Some x) = Ok x

-- a fault where the test holds
abbrev pub fault_if : Bool → LineFault → Step (Unit {0})
fault_if true fault = Err fault
fault_if false fault = Ok tt

-- the number under which a user is told of a fault; the faults of a line are looked for in this
-- order
abbrev pub number_of_fault : LineFault → ℕ
number_of_fault ForeignByte = 1
number_of_fault WrongFirstLine = 2
number_of_fault UnknownWord = 3
number_of_fault FieldCount = 4
number_of_fault NotANumber = 5
number_of_fault OutOfRange = 6
number_of_fault WrongWord = 7
number_of_fault NotNamed = 8
number_of_fault Repeated = 9
number_of_fault TooMany = 10
number_of_fault NotRising = 15
number_of_fault NoUpem = 11
number_of_fault NoLine = 12
number_of_fault NoXHeight = 13
number_of_fault NoMissing = 14
