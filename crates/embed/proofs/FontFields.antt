-- The machine value of a handle of metrics, and what it owns. Assumes `Logic`.
use Rattle.std.proofs.Common.{◌≡◌, ℕ, List, [], ◌∷◌, ◌++◌, refl, subst}
use mathlib.Core.Bool.{◌&&◌, true}
use lib.Dec.{T}
use seplogic.Ra.Ura.{Ura}
use mir.Syntax.{ty_ptr}
use mir.Raw.{raw as bare}
use mir.Val.{Val, vstruct, vcons, vnil, of_list, has_ty, WT}
use base.Logic.{ent, never, via, fst∗, snd∗, guard, guard_i}
use types.Logic.{Logic, sem}
use types.Kit.{Item, Goal, Seq, Step, step, ‵, given, ◌$◌, drop, fsplit, fjoin, fpick, fpack, feq_i, feq_l, use1, learn}
use contract.Monad.{fact_use}
use denote.RattleType.{Valss}
use denote.Builtin.{RawPtr}
use denote.Memory.{lone}
use denote.RawPtr.{Ptr, block_ptr, null_ptr, ptr_val, in_a_block, rawptr_Lawful, Testable}
use denote.Steps.{nothing}
use denote.Struct.Struct.{within}
use denote.Struct.Owning.{shape}
use Rattle.std.specs.Ptr.{points_to}
use Rattle.std.proofs.ResultValues.{and_tt}
use Rattle.std.specs.Box.Ownership.{box_owns}
use Rattle.std.specs.declared.alloc.Global.{Global}
use Rattle.std.specs.declared.option.Option.{Option}
use Rattle.std.specs.declared.option.Option.TheVariants.{None, Some}
use Rattle.std.proofs.GlobalToken.{dealloc_token-Testable}
use Rattle.embed.specs.Owned.{font_owns, may_free}
use Rattle.font_metrics.specs.Metrics.{MetricsValue}
use Rattle.font_metrics.specs.contracts.metrics.Metrics.{the_row as R}
use Rattle.embed.specs.contracts.font.Font as font

abbrev pub word : Ptr → Val
word p = vstruct (vcons (ptr_val p) vnil)

module _ {M : Type 1} {𝓤 : Ura M} (𝓛 : Logic 𝓤) where
  pub word_good : (p : Ptr) → T (has_ty ty_ptr (ptr_val p) && true) × WT (word p)
  word_good p = let g = ((rawptr_Lawful 𝓛).typed p (ptr_val p ∷ []) refl).0 in (and_tt (has_ty ty_ptr (ptr_val p)) g.0, (g.1, tt))

  pub tested : (a : Global) (p : Ptr) (x : MetricsValue) → ent 𝓤 (sem 𝓛 (box_owns may_free R p x)) (guard 𝓤 (Testable p) (sem 𝓛 (box_owns may_free R p x)))
  tested a p x =
      let τ = bare (lone R.mir) in
      fact_use 𝓤 (Testable p) (via 𝓤 (sem 𝓛 (may_free τ p)) (snd∗ 𝓤 (sem 𝓛 (points_to R p x)) (sem 𝓛 (may_free τ p))) (dealloc_token-Testable 𝓛 a τ p)) (guard_i 𝓤 (Testable p) (sem 𝓛 (box_owns may_free R p x)))

module _ {M : Type 1} {𝓤 : Ura M} {𝓛 : Logic 𝓤} {K : Type 0} {Γ : List (Item 𝓤)} {G : Goal 𝓤 𝓛.H} where
  pub font_out : K → (d : font.the_row.Denot) (vs : List Val)
      → (vs ≡ word d.at ∷ [] → Seq K 𝓛 (‵ (font_owns d.at d.kept) ∷ Γ) G) → Seq K 𝓛 (‵ (font.the_row.own_val d vs) ∷ Γ) G
  font_out t d vs k =
      fsplit t $ fpick t (λ vss. fsplit t $ feq_l t (λ ev. fsplit t $ feq_l t (λ ep. drop t $ k
      (subst (λ (ps : List Val). vs ≡ vstruct (of_list (ps ++ [])) ∷ []) ep ev))))

  pub font_in : K → (p : Ptr) (k : Option MetricsValue)
      → Step K 𝓛 (‵ (font.the_row.own_val (record { at = p; kept = k }) (word p ∷ [])) ∷ Γ) G (‵ (font_owns p k) ∷ Γ) G
  font_in t p k = step (λ s.
      nothing t $ feq_i t (List Val) (ptr_val p ∷ []) (ptr_val p ∷ []) refl $ fjoin t $ feq_i t (List Val) (word p ∷ []) (word p ∷ []) refl $ fjoin t $
      fpack t (Valss (RawPtr ∷ [])) (within (shape font.the_type) (p, tt) (word p ∷ [])) (ptr_val p ∷ [], tt) $ fjoin t $ s)

  -- a handle is null and keeps nothing, or points to the metrics that it keeps and may be compared with null
  pub opened : K → (a : Global) (p : Ptr) (k : Option MetricsValue) → (p ≡ null_ptr → k ≡ None → Seq K 𝓛 Γ G)
      → ((b o : ℕ) (x : MetricsValue) → p ≡ block_ptr b o → k ≡ Some x → Testable (block_ptr b o) → Seq K 𝓛 (‵ (box_owns may_free R (block_ptr b o) x) ∷ Γ) G)
      → Seq K 𝓛 (‵ (font_owns p k) ∷ Γ) G
  opened t a p None none one = feq_l t (λ e. none e refl)
  opened t a p (Some x) none one =
      in_a_block t p (λ (q : Ptr). box_owns may_free R q x) (fst∗ 𝓤 (never 𝓤) (sem 𝓛 (may_free (bare (lone R.mir)) null_ptr))) (λ b o e.
      use1 𝓛 (given (Testable (block_ptr b o)) (‵ (box_owns may_free R (block_ptr b o) x))) (tested 𝓛 a (block_ptr b o) x) $ learn t (λ may. one b o x e refl may))
