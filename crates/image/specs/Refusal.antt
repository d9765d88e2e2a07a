-- 'Each refusal is the number with two values; unused ones are 0.'
use Rattle.std.specs.Prelude.{Bool, cond, ℕ, zero, suc}

pub record Refusal : Type 0 where
  pub number : ℕ
  pub first : ℕ
  pub second : ℕ

abbrev pub refusal : ℕ → ℕ → ℕ → Refusal
refusal n a b = record { number = n; first = a; second = b }

-- What is found first by checks that are made in order: nothing to refuse, or a refusal.
pub data Check : Type 0 where
  clear : Check
  refused : Refusal → Check

infixl 20 ◌then◌
abbrev pub ◌then◌ : Check → Check → Check
clear then c = c
refused r then c = refused r

-- refused unless the test holds
abbrev pub unless : Bool → Refusal → Check
unless good r = cond good clear (refused r)

-- the first refusal among those of 0, 1, .. below n
unfoldable pub checks : (ℕ → Check) → ℕ → Check
checks f zero = clear
checks f (suc n) = checks f n then f n
