-- Lines that are taken or refused, by what their steps give.
use Rattle.std.specs.Result.{IsErrAnd}
use Rattle.std.proofs.Common.{◌≡◌, ap, sym, subst, Bool, true, false, Result, Ok, Err}
use Rattle.font_metrics.specs.declared.fault.LineFault.{LineFault}
use Rattle.metrics_file.specs.declared.refusal.LineRefusal.{LineRefusal}
use Rattle.metrics_file.specs.declared.refusal.LineRefusal.TheVariants.{Fault as FaultyLine, Memory as NoMemory}
use Rattle.font_metrics.specs.Faults.{Step, ◌>>=◌, fault_if}
use Rattle.metrics_file.specs.Reads.{Gives, Takes}
use Rattle.font_metrics.proofs.Steps.{same_Ok, no_value}

-- a fault that is handed on as a refusal
pub refused : {X : Type 0} (s : Step X) (fault : LineFault) (new : X) (r : Result (Unit {0}) LineRefusal) → s ≡ Err fault
    → IsErrAnd r (λ e. e ≡ FaultyLine fault) → Takes s new r
refused s fault new (Ok done) h k = absurd k
refused s fault new (Err e) h k = subst (λ e. Takes s new (Err e)) (sym k) h

-- so is one of the fields
pub refused_by : {X Y : Type 0} (s : Step X) (refusal : LineRefusal) (next : X → Step Y) (new : Y)
    (r : Result (Unit {0}) LineRefusal) → Gives {X = X} s (Err refusal) → IsErrAnd r (λ e. e ≡ refusal)
    → Takes (s >>= next) new r
refused_by {X} {Y} s refusal next new (Ok done) h k = absurd k
refused_by {X} {Y} s refusal next new (Err e) h k = subst (λ e. Takes (s >>= next) new (Err e)) (sym k) (by refusal h)
  where
    by : (refusal : LineRefusal) → Gives {X = X} s (Err refusal) → Takes (s >>= next) new (Err refusal)
    by (FaultyLine fault) h = ap (λ s. s >>= next) h
    by NoMemory h = tt

-- a kern that is taken is taken into the tables
pub kern_taken : {X Y : Type 0} (full bad : Bool) (first second : LineFault) (part new : X) (f : X → Y)
    (r : Result (Unit {0}) LineRefusal)
    → Takes (fault_if full first >>= λ free. fault_if bad second >>= λ sound. Ok part) new r
    → Takes ((fault_if full first >>= λ free. fault_if bad second) >>= λ free. Ok (f part)) (f new) r
kern_taken true bad first second part new f (Ok done) h = no_value first new h
kern_taken true bad first second part new f (Err (FaultyLine e)) h = cc
kern_taken true bad first second part new f (Err NoMemory) h = tt
kern_taken false true first second part new f (Ok done) h = no_value second new h
kern_taken false true first second part new f (Err (FaultyLine e)) h = cc
kern_taken false true first second part new f (Err NoMemory) h = tt
kern_taken false false first second part new f (Ok done) h = let e = same_Ok part new h in λ i. Ok (f (e i))
kern_taken false false first second part new f (Err (FaultyLine e)) h = no_value e part (sym h)
kern_taken false false first second part new f (Err NoMemory) h = tt

-- what is taken where there is room is taken into what it is a part of
pub taken : {X Y : Type 0} (full : Bool) (fault : LineFault) (part new : X) (f : X → Y) (r : Result (Unit {0}) LineRefusal)
    → Takes (fault_if full fault >>= λ free. Ok part) new r
    → Takes ((fault_if full fault >>= λ free. Ok (tt {0})) >>= λ free. Ok (f part)) (f new) r
taken true fault part new f (Ok done) h = no_value fault new h
taken true fault part new f (Err (FaultyLine e)) h = cc
taken true fault part new f (Err NoMemory) h = tt
taken false fault part new f (Ok done) h = let e = same_Ok part new h in λ i. Ok (f (e i))
taken false fault part new f (Err (FaultyLine e)) h = no_value e part (sym h)
taken false fault part new f (Err NoMemory) h = tt
