-- Kerns that are read or refused, by what their steps give.
use Rattle.std.specs.Result.{IsErrAnd}
use Rattle.std.proofs.Common.{◌≡◌, sym, subst, ℕ, ℤ, List, Result, Ok, Err}
use Rattle.font_metrics.specs.declared.corner.Corner.{Corner}
use Rattle.font_metrics.specs.declared.fault.LineFault.{LineFault}
use Rattle.font_metrics.specs.declared.kern.Kern.{Kern}
use Rattle.font_metrics.specs.declared.kern.KernStep.{KernStep}
use Rattle.metrics_file.specs.declared.refusal.LineRefusal.{LineRefusal}
use Rattle.metrics_file.specs.declared.refusal.LineRefusal.TheVariants.{Fault as FaultyLine}
use Rattle.font_metrics.specs.Faults.{Step, ◌>>=◌, both}
use Rattle.metrics_file.specs.Reads.{Gives}
use Rattle.font_metrics.proofs.Steps.{no_value}

-- a fault that is handed on is what a step gives
pub given_fault : {X : Type 0} (s : Step X) (fault : LineFault) (r : Result X LineRefusal) → s ≡ Err fault
    → IsErrAnd r (λ e. e ≡ FaultyLine fault) → Gives s r
given_fault s fault (Ok x) h k = absurd k
given_fault s fault (Err e) h k = subst (λ e. Gives s (Err e)) (sym k) h

-- ---- the fields of a kern, from left to right
abbrev pub fields : Step ℕ → Step Corner → Step ℤ → Step (List KernStep) → Step (Corner × (ℕ × Kern))
fields place corner lowest steps = do
  base ← place
  at ← corner
  value ← lowest
  more ← steps
  Ok (at, (base, record { lowest = value; steps = more }))

pub fields_fail : (place : Step ℕ) (corner : Step Corner) (lowest : Step ℤ) (steps : Step (List KernStep)) (fault : LineFault)
    → both place (both corner lowest) ≡ Err fault → fields place corner lowest steps ≡ Err fault
fields_fail (Ok p) (Ok c) (Ok l) steps fault h = no_value fault (p, (c, l)) (sym h)
fields_fail (Ok p) (Ok c) (Err e) steps fault h = cc
fields_fail (Ok p) (Err e) l steps fault h = cc
fields_fail (Err e) c l steps fault h = cc
