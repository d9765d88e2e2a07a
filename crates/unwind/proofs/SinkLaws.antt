-- A sink of hops, block after block.
--     over, quiet, step            blocks with no hops, and a block with some
--     room_left, room_behind       room for all is room for those up to a block, and some more
use mathlib.Core.Path.{◌≡◌, sym, ap, ◌∙◌, subst}
use mathlib.Core.List.{List, [], ◌++◌, append-nil, append_assoc}
use Prim.Native.Nat.{ℕ, ◌+◌, ◌-◌, ◌≤◌, ◌<◌}
use native.Mathlib.Omega.{arith}
use Rattle.graph.specs.Fold.{flat}
use Rattle.graph.proofs.FoldLaws.{flat-more}
use Rattle.addition.specs.Ways.{Hop}
use Rattle.unwind.proofs.AllHops.{flat_split}
use Rattle.unwind.proofs.MemberLaws.{flat_quiet}

module _ (holds : ℕ → List Hop → Type 0) (higher : (b d : ℕ) (hs : List Hop) → b ≤ d → holds b hs → holds d hs) (f : ℕ → List Hop) where
  pub over : (b d : ℕ) → b ≤ d → ((c : ℕ) → b ≤ c → c < d → f c ≡ []) → holds b (flat f b) → holds d (flat f d)
  over b d h none p = subst (holds d) (sym (flat_quiet f b d h none)) (higher b d (flat f b) h p)

  pub quiet : (b : ℕ) → f b ≡ [] → holds b (flat f b) → holds (b + 1) (flat f (b + 1))
  quiet b e p = subst (holds (b + 1)) (sym (flat-more f b ∙ ap (λ (t : List Hop). flat f b ++ t) e ∙ append-nil (flat f b))) (higher b (b + 1) (flat f b) (omega arith) p)

  pub step : (b : ℕ) {own : List Hop} → own ≡ f b → holds (b + 1) (flat f b ++ own) → holds (b + 1) (flat f (b + 1))
  step b e p = subst (holds (b + 1)) (ap (λ (t : List Hop). flat f b ++ t) e ∙ sym (flat-more f b)) p

pub room_left : (fits : List Hop → Type 0) (f : ℕ → List Hop) (b n : ℕ) {own : List Hop} (more : List Hop) → own ≡ f b → b < n → fits (flat f n ++ more) → (rest : List Hop) × fits ((flat f b ++ own) ++ rest)
room_left fits f b n {own} more e h p =
    let rest = flat (λ j. f (b + 1 + j)) (n - (b + 1)) in
    let size : b + 1 + (n - (b + 1)) ≡ n = omega arith in
    let all = sym (ap (flat f) size) ∙ flat_split f (b + 1) (n - (b + 1)) in
    let first : flat f (b + 1) ≡ flat f b ++ own = flat-more f b ∙ ap (λ (t : List Hop). flat f b ++ t) (sym e) in
    (rest ++ more, subst fits (ap (λ (t : List Hop). t ++ more) (all ∙ ap (λ (t : List Hop). t ++ rest) first) ∙ append_assoc (flat f b ++ own) rest more) p)

pub room_behind : (fits : List Hop → Type 0) (f : ℕ → List Hop) (b n : ℕ) (hs : List Hop) {own : List Hop} (more : List Hop) → own ≡ f b → b < n → fits (hs ++ flat f n ++ more) → (rest : List Hop) × fits (hs ++ flat f b ++ own ++ rest)
room_behind fits f b n hs {own} more e h p =
    let r = room_left (λ (t : List Hop). fits (hs ++ t)) f b n more e h (subst fits (append_assoc hs (flat f n) more) p) in
    (r.0, subst fits (sym (ap (λ (t : List Hop). t ++ r.0) (append_assoc hs (flat f b) own) ∙ append_assoc hs (flat f b ++ own) r.0)) r.1)
