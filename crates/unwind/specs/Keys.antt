-- Keys of a group of paths: the calls before the next funclet, and the funclet. What the search for the next one answers.
use Rattle.std.specs.Prelude.{◌≡◌, Bool, true, false, cond, not, List, [], ◌∷◌, ◌++◌, map, length, Option, Some, None}
use Rattle.std.proofs.Math.Option as maybe
use Rattle.std.proofs.Math.Option.{none, some}
use Prim.Native.Nat.{ℕ, ◌+◌, ◌-◌, ◌≤◌, ◌<◌, compare, Ordering}
use Rattle.image.specs.Image.{RouteImage}
use Rattle.image.specs.Deal.{UnwindStep, funclet, call, UnwindPath}
use Rattle.graph.specs.Fold.{flat}
use Rattle.unwind.specs.declared.tries.paths.Group.{Group}
use Rattle.unwind.specs.declared.tries.keys.Key.{Key}
use Rattle.addition.specs.Lists.{joined}
use Rattle.addition.specs.Order.{Tagged, tagged, compare_tagged}
use Rattle.addition.specs.Trie.{cut, group_on}
use Rattle.unwind.specs.Nodes.{step_in, tags_in}
use Rattle.unwind.specs.Interning.{after, nearest, steps_in, left_at, paths_of}

-- the steps that a key stands for
abbrev pub key_steps : Tagged ℕ → List UnwindStep
key_steps k = map call k.calls ++ funclet k.what ∷ []

abbrev pub list_of : {A : Type 0} → maybe.Option A → List A
list_of none = []
list_of (some x) = x ∷ []

-- the keys of paths, in their order
unfoldable pub keys_of : List UnwindPath → List (Tagged ℕ)
keys_of ps = joined (λ p. group_on (cut p.steps)) ps

abbrev pub KeySmall : Option Key → Type 0
KeySmall (Some k) = k.step + k.calls ≤ 512
KeySmall None = Unit {0}

-- q is the one path that a key tells of
abbrev pub KeyAt : ℕ → Option Key → Type 0
KeyAt q (Some k) = (k.first ≡ q) × (k.last ≡ q)
KeyAt q None = Unit {0}

-- whether a key says that none comes after it
abbrev pub is_final : Option Key → Bool
is_final (Some k) = not k.more
is_final None = false

-- a key that another comes after
abbrev pub followed_by : Key → Key
followed_by k = record { step = k.step; calls = k.calls; first = k.first; last = k.last; more = true }

-- the one of a later path's key and another that comes next, with the paths that have it; `late` says whether the path's key
-- comes after the last one that was met, as the other does
abbrev pub merged_on : Ordering → Bool → Key → Key → Key
merged_on Ordering.lt late k b = cond late (followed_by k) b
merged_on Ordering.eq late k b = record { step = b.step; calls = b.calls; first = b.first; last = k.last; more = b.more }
merged_on Ordering.gt late k b = followed_by b

module _ (m : RouteImage) where
  unfoldable pub key_in : Key → Tagged ℕ
  key_in k = tagged (tags_in m k.step k.calls) (step_in m (k.step + k.calls)).value

  unfoldable pub key_of : Option Key → maybe.Option (Tagged ℕ)
  key_of (Some k) = some (key_in k)
  key_of None = none

  -- the key's steps stand among all, behind those that the group's paths begin with
  pub record Stands (g : Group) (k : Key) : Type 0 where
    pub within : k.step + k.calls < length m.steps
    pub behind : g.depth ≤ k.step
    pub begins : steps_in m (k.step - g.depth) g.depth ≡ steps_in m g.from g.depth
    pub steps : steps_in m k.step (k.calls + 1) ≡ key_steps (key_in k)

  abbrev pub KeyIn : Group → Option Key → Type 0
  KeyIn g (Some k) = Stands g k
  KeyIn g None = Unit {0}

  -- of that, only that they stand among all
  abbrev pub KeyWithin : Option Key → Type 0
  KeyWithin (Some k) = k.step + k.calls < length m.steps
  KeyWithin None = Unit {0}

  -- none of a list comes after a key that says so
  abbrev pub Final : List (Tagged ℕ) → Option Key → Type 0
  Final l r = is_final r ≡ true → nearest (compare_tagged compare) (key_of r) none l ≡ none

  pub record KeyOf (g : Group) (q : ℕ) (r : Option Key) : Type 0 where
    pub is : keys_of (left_at m g q) ≡ list_of (key_of r)
    pub stands : KeyIn g r
    pub here : KeyAt q r

  unfoldable pub merged : Option Key → Key → Key → Key
  merged last k b = merged_on (compare_tagged compare (key_in k) (key_in b)) (after (compare_tagged compare) (key_of last) (key_in k)) k b

  -- the keys of the n first paths of a group
  abbrev pub first_keys : Group → ℕ → List (Tagged ℕ)
  first_keys g n = flat (λ i. keys_of (left_at m g (g.first + i))) n

  -- those of the n first paths of a group that have a key stand from its first to its last
  pub record Spans (g : Group) (n : ℕ) (k : Key) : Type 0 where
    pub low : g.first ≤ k.first
    pub mid : k.first ≤ k.last
    pub high : k.last < g.first + n
    pub all : (i : ℕ) → i < n → keys_of (left_at m g (g.first + i)) ≡ key_in k ∷ [] → (k.first ≤ g.first + i) × (g.first + i ≤ k.last)

  abbrev pub SpansIn : Group → ℕ → Option Key → Type 0
  SpansIn g n (Some k) = Spans g n k
  SpansIn g n None = Unit {0}

  -- the key that comes next after `last`, of the n first paths of a group
  pub record NextAmong (g : Group) (last : Option Key) (n : ℕ) (r : Option Key) : Type 0 where
    pub is : key_of r ≡ nearest (compare_tagged compare) (key_of last) none (first_keys g n)
    pub stands : KeyIn g r
    pub spans : SpansIn g n r
    pub final : Final (first_keys g n) r

  -- and of all of them
  pub record NextOf (g : Group) (last r : Option Key) : Type 0 where
    pub is : key_of r ≡ nearest (compare_tagged compare) (key_of last) none (keys_of (paths_of m g))
    pub stands : KeyIn g r
    pub spans : SpansIn g g.count r
    pub final : Final (keys_of (paths_of m g)) r
