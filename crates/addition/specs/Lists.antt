-- Lists as the addition uses them.
use Rattle.std.specs.Prelude.{Bool, true, false, cond, List, [], ◌∷◌, ◌++◌, ℕ, zero, suc, eqb}
use Rattle.std.proofs.Math.Option.{Option, none, some}

-- the elements of which f holds, in their order
unfoldable pub keep : {A : Type 0} → (A → Bool) → List A → List A
keep f [] = []
keep f (x ∷ l) = cond (f x) (x ∷ keep f l) (keep f l)

-- f of each element, one behind the other
unfoldable pub joined : {A B : Type 0} → (A → List B) → List A → List B
joined f [] = []
joined f (x ∷ l) = f x ++ joined f l

-- 0, 1, .. below n
unfoldable pub upto : ℕ → List ℕ
upto zero = []
upto (suc n) = upto n ++ (n ∷ [])

-- how many stand before x
unfoldable pub rank : ℕ → List ℕ → ℕ
rank x [] = 0
rank x (y ∷ l) = cond (eqb x y) 0 (suc (rank x l))

-- the first element
unfoldable pub head : {A : Type 0} → List A → Option A
head [] = none
head (x ∷ l) = some x

unfoldable pub is_empty : {A : Type 0} → List A → Bool
is_empty [] = true
is_empty (x ∷ l) = false
