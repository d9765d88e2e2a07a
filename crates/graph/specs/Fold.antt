-- Lists and tests by counting: the last index stands outermost, as a loop that counts up meets it. Then a few of lists.
use Rattle.std.specs.Prelude.{Bool, true, false, ◌&&◌, ◌||◌, List, [], ◌∷◌, ◌++◌, ℕ, zero, suc, ◌+◌, eqb}
use Rattle.image.specs.Refusal.{Check, clear, ◌then◌}
unfoldable pub use Rattle.image.specs.Refusal.{checks}

-- f 0, f 1, .. below n, one behind the other
unfoldable pub flat : {A : Type 0} → (ℕ → List A) → ℕ → List A
flat f zero = []
flat f (suc n) = flat f n ++ f n

-- f holds of some number below n, and of each
unfoldable pub some : (ℕ → Bool) → ℕ → Bool
some f zero = false
some f (suc n) = some f n || f n

unfoldable pub all : (ℕ → Bool) → ℕ → Bool
all f zero = true
all f (suc n) = all f n && f n

-- of how many numbers below n f holds
unfoldable pub count : (ℕ → Bool) → ℕ → ℕ
count f zero = zero
count f (suc n) = one (f n) + count f n
  where
    one : Bool → ℕ
    one true = 1
    one false = 0

-- f 0 + f 1 + .. below n
unfoldable pub sum : (ℕ → ℕ) → ℕ → ℕ
sum f zero = zero
sum f (suc n) = sum f n + f n

-- a stands in a list
unfoldable pub among : List ℕ → ℕ → Bool
among [] a = false
among (b ∷ l) a = eqb b a || among l a

-- the first refusal among those of a list's members
unfoldable pub check_each : (ℕ → Check) → List ℕ → Check
check_each f [] = clear
check_each f (a ∷ l) = f a then check_each f l
