-- Checks that are made in order.
--     checks-more, checks_stop     one check more, where nothing was refused before it
--     then_left, then_right        what is clear in a row is clear by itself; unless_clear, field_clear, byte_clear likewise
--     checks_each                  so is each of n checks
--     not_clear                    what is refused is not clear
--     place_next                   the place of the next record
--     product                      a product of two numbers of 32 bits
-- Assumes nothing.
use mathlib.Core.Bool.{Bool, true, false, cond}
use mathlib.Core.Path.{◌≡◌, refl}
use mathlib.Core.Logic.{⊎_elim}
use mathlib.Core.List.{List}
use Prim.Native.Nat.{ℕ, zero, suc, ◌+◌, ◌*◌, ◌<◌, ◌≤◌}
use native.Mathlib.Nat.{le_trans, mul-le-mul_left, mul-le-mul_right, mul-suc, eq-or-lt_of_le, le_of_suc-le-suc}
use native.Mathlib.Numerals.{add-one}
use native.Mathlib.Omega.{arith}
use borrow.Author.Tests.{leb-true}
use lib.Dec.{leb}
use lib.ListN.{length}
use Rattle.image.specs.Little.{le1}
use Rattle.image.specs.Form.{bad, field, byte}
use Rattle.image.specs.Refusal.{Refusal, refusal, Check, clear, refused, ◌then◌, unless, checks}

module _ (f : ℕ → Check) where
  pub checks-more : (n : ℕ) → checks f n ≡ clear → checks f (n + 1) ≡ f n
  unfolding checks
  checks-more n h = rw (add-one n, h)

  pub checks_stop : (n m : ℕ) (r : Refusal) → n < m → checks f n ≡ clear → f n ≡ refused r → checks f m ≡ refused r
  unfolding checks
  checks_stop n zero r lt h e = absurd (omega arith)
  checks_stop n (suc m) r lt h e =
      ⊎_elim (λ same. rw (rw same at h) (rw same at e))
      (λ less. rw (checks_stop n m r less h e))
      (eq-or-lt_of_le (le_of_suc-le-suc lt))

pub then_left : (a b : Check) → (a then b) ≡ clear → a ≡ clear
then_left clear b h = refl
then_left (refused r) b h = h

pub then_right : (a b : Check) → (a then b) ≡ clear → b ≡ clear
then_right clear b h = h
then_right (refused r) b h = absurd (let z : ◌≡◌ {A = ℕ} 0 1 = cc in omega arith)

pub unless_clear : (good : Bool) (r : Refusal) → unless good r ≡ clear → good ≡ true
unless_clear true r h = refl
unless_clear false r h = absurd (let z : ◌≡◌ {A = ℕ} 0 1 = cc in omega arith)

pub checks_each : (f : ℕ → Check) (n i : ℕ) → checks f n ≡ clear → i < n → f i ≡ clear
unfolding checks
checks_each f zero i h lt = absurd (omega arith)
checks_each f (suc n) i h lt =
    ⊎_elim (λ same. rw same (then_right (checks f n) (f n) h))
    (λ less. checks_each f n i (then_left (checks f n) (f n) h) less)
    (eq-or-lt_of_le (le_of_suc-le-suc lt))

pub field_clear : (l : List ℕ) (at w : ℕ) (good : Bool) → field l at w good ≡ clear → good ≡ true
unfolding field
field_clear l at w good h = go (leb (at + w) (length l)) h
  where
    go : (there : Bool) → cond there (bad at good) (refused (refusal 1 (length l) 0)) ≡ clear → good ≡ true
    go true e = unless_clear good (refusal 1 at 0) e
    go false e = absurd (let z : ◌≡◌ {A = ℕ} 0 1 = cc in omega arith)

pub byte_clear : (l : List ℕ) (at most : ℕ) → byte l at most ≡ clear → le1 l at ≤ most
byte_clear l at most h = leb-true (le1 l at) most (field_clear l at 1 (leb (le1 l at) most) h)

pub place_next : (base w i at : ℕ) → at ≡ base + w * i → at + w ≡ base + w * (i + 1)
place_next base w i at e = rw (add-one i, mul-suc w i) (omega arith)

pub product : (a b : ℕ) → a < 4294967296 → b < 4294967296 → a * b ≤ 18446744065119617025
product a b ha hb =
    let p : a ≤ 4294967295 = omega arith in
    let q : b ≤ 4294967295 = omega arith in
    le_trans (mul-le-mul_left a q) (mul-le-mul_right 4294967295 p)

pub not_clear : {c : Check} {r : Refusal} → c ≡ refused r → c ≡ clear → ⊥
not_clear e f = let z : ◌≡◌ {A = ℕ} 0 1 = cc in omega arith
