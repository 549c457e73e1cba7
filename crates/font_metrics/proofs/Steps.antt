-- Steps that gave a value.
use Rattle.std.specs.Result.{IsErrAnd}
use Rattle.std.proofs.Common.{◌≡◌, ap, Bool, true, false, not, Option, Some, None, Ok, Err, refl}
use Rattle.font_metrics.specs.declared.fault.LineFault.{LineFault}
use Rattle.font_metrics.specs.Faults.{Step, ◌>>=◌, step_map, or_fault, fault_if}

pub same_Ok : {X : Type 0} (x y : X) → ◌≡◌ {A = Step X} (Ok x) (Ok y) → x ≡ y
same_Ok x y h = cc

-- a fault is no value
pub no_value : {X A : Type 0} (fault : LineFault) (y : X) → ◌≡◌ {A = Step X} (Err fault) (Ok y) → A
no_value fault y h = let none : ⊥ = cc in absurd none

-- a step that gave something had something
pub had : {X Y : Type 0} (s : Step X) (f : X → Step Y) (y : Y) → (s >>= f) ≡ Ok y
    → (x : X) × (s ≡ Ok x) × (f x ≡ Ok y)
had (Ok x) f y h = (x, refl, h)
had (Err fault) f y h = no_value fault y h

pub free : (b : Bool) (fault : LineFault) (u : Unit {0}) → fault_if b fault ≡ Ok u → b ≡ false
free true fault u h = no_value fault u h
free false fault u h = refl

pub found : {X : Type 0} (o : Option X) (fault : LineFault) (x : X) → or_fault fault o ≡ Ok x → o ≡ Some x
found None fault x h = no_value fault x h
found (Some y) fault x h = let e = same_Ok y x h in λ i. Some (e i)

pub holds : (b : Bool) (fault : LineFault) (u : Unit {0}) → fault_if (not b) fault ≡ Ok u → b ≡ true
holds true fault u h = refl
holds false fault u h = no_value fault u h

-- a fault that is handed on
pub failed : {X : Type 0} (s : Step X) (fault : LineFault) → IsErrAnd s (λ e. e ≡ fault) → s ≡ Err fault
failed (Ok x) fault h = absurd h
failed (Err e) fault h = ap (λ f. Err f) h

-- a step's value that is seen another way
pub mapped : {X Y : Type 0} (f : X → Y) (s : Step X) (y : Y) → step_map f s ≡ Ok y
    → (x : X) × (s ≡ Ok x) × (f x ≡ y)
mapped f (Ok x) y h = (x, refl, same_Ok (f x) y h)
mapped f (Err fault) y h = no_value fault y h
