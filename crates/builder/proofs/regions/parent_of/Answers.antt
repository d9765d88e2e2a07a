use mathlib.Core.Path.{refl, sym, ap, ap₂, ◌∙◌}
use Rattle.std.specs.Option.{option_to_list}
use mathlib.Core.Bool.{cond}
use mathlib.Core.List.{List, [], ◌∷◌}
use mathlib.Core.Logic.{⊎_elim}
use Prim.Native.Nat.{ℕ}
use lib.ListN.{get_or}
use Rattle.graph.specs.Regions.{contains, smaller, parent_below}
use Rattle.std.proofs.Common.{Option}
use Rattle.builder.proofs.DraftLaws.{drafted_at}
use Rattle.builder.proofs.RegionLaws.{parent_in_law, parent_out}
use native.Mathlib.Omega.{arith}
use borrow.Author.Rules.{rules}
use Rattle.builder.proofs.regions.parent_of.Goals as goal

pub loop-k-init : goal.loop-k-init
unfolding parent_below
loop-k-init c = (search rules, search rules, λ m e d. refl)

pub loop-k-preserved : goal.loop-k-preserved
loop-k-preserved c = let r = c.args.r in
    let k = c.loop-k.k in
    let here = c.contains.ensures in
    ⊎_elim (λ w. (
      search rules,
      omega (arith, w.nearer-parent.ensures.within, ap (λ (p : Option ℕ). get_or (option_to_list p) 0 0) w.parent-is),
      λ m e d.
          let is = here m e ∙ ap₂ (contains m) (drafted_at d k (omega arith)) (drafted_at d r (omega arith)) in
          ap option_to_list w.parent-is ∙ w.nearer-parent.ensures.nearer m e (λ i h. drafted_at d i (omega arith)) ∙ ap (λ (l : List ℕ). cond (smaller m l k) (k ∷ []) l) (c.loop-k.invariant.2 m e d) ∙ sym (parent_in_law m r k (sym is ∙ w.if-contains.true)),
    )) (λ w. (
      search rules,
      omega (arith, ap (λ (p : Option ℕ). get_or (option_to_list p) 0 0) w.parent-is),
      λ m e d.
          let is = here m e ∙ ap₂ (contains m) (drafted_at d k (omega arith)) (drafted_at d r (omega arith)) in
          ap option_to_list w.parent-is ∙ c.loop-k.invariant.2 m e d ∙ sym (parent_out m r k (sym is ∙ w.if-contains.false)),
    )) c.if-contains.branch-raw
