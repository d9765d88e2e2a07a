-- Keys of a group of paths, and the next one in order.
--     less_number                              a comparison of numbers as a test
--     nearest_append, nearest_none             the next among two lists, and among none
--     nearer_taken, nearer_late, nearer_early  one is nearer, or is not
--     joined_one, joined_append, joined-flat, keys_flat     the keys of a group's paths, path by path
--     left_is, left-none, left-some            what is left of a path, as a list of one or none
--     key_outside, key_over, key_enters        the key of a path: it is none of the group's, ends, or enters a funclet
--     key_small, key_within                    a key stands among the 512 steps, and among those of the image
-- Assumes nothing.
use mathlib.Core.Path.{◌≡◌, refl, sym, ap, ◌∙◌}
use mathlib.Core.Bool.{Bool, true, false, cond, ◌&&◌}
use mathlib.Core.List.{List, [], ◌∷◌, ◌++◌, append-nil, append_assoc}
use mathlib.Core.Option as maybe
use mathlib.Core.Option.{none, some}
use Prim.Native.Nat.{ℕ, zero, suc, ◌+◌, ◌<◌, compare, Ordering}
use native.Mathlib.Decide.{dec_lt}
use native.Mathlib.Omega.{arith}
use borrow.Author.Tests.{lt-ltb, le-ltb}
use lib.Dec.{ltb}
use Rattle.std.proofs.Common.{Option, Some, None}
use Rattle.image.specs.Image.{RouteImage}
use Rattle.image.specs.Deal.{UnwindStep, UnwindPath}
use Rattle.image.specs.Accepted.{AcceptedRoutes}
use Rattle.graph.specs.Fold.{flat}
use Rattle.graph.specs.Route.{path_in}
use Rattle.unwind.specs.declared.tries.paths.Group.{Group}
use Rattle.unwind.specs.declared.tries.paths.Steps.{Steps}
use Rattle.unwind.specs.declared.tries.keys.Key.{Key}
use Rattle.addition.specs.Lists.{joined}
use Rattle.addition.specs.Trie.{Cut, over, cut, group_on}
use Rattle.unwind.specs.Nodes.{tags_in}
use Rattle.unwind.specs.Interning.{is_lt, after, before, nearer, nearest, strip, left_with, steps_in, left_at, paths_of, left_steps, LeftOf, cut_of, Cuts}
use Rattle.unwind.specs.Keys.{KeySmall, KeyWithin, keys_of, key_in, key_of, KeyIn, KeyOf}
use Rattle.unwind.proofs.TrieOrder.{number_lt, number_gt, number_eq}

pub less_number : (a b : ℕ) → is_lt (compare a b) ≡ ltb a b
less_number a b = go (dec_lt a b) (dec_lt b a)
  where
    go : Dec (a < b) → Dec (b < a) → is_lt (compare a b) ≡ ltb a b
    go (yes h) k = ap is_lt (number_lt a b h) ∙ sym (lt-ltb a b h)
    go (no h) (yes k) = ap is_lt (number_gt a b k) ∙ sym (le-ltb a b (omega arith))
    go (no h) (no k) = ap is_lt (number_eq a b (omega arith)) ∙ sym (le-ltb a b (omega arith))

-- ---- the next in order

module _ {A : Type 0} (c : A → A → Ordering) (last : maybe.Option A) where
  pub nearest_append : (best : maybe.Option A) (l k : List A) → nearest c last best (l ++ k) ≡ nearest c last (nearest c last best l) k
  unfolding nearest
  nearest_append best [] k = refl
  nearest_append best (x ∷ l) k = nearest_append (nearer c last best x) l k

  pub nearest_none : (best : maybe.Option A) {l : List A} → l ≡ [] → nearest c last best l ≡ best
  unfolding nearest
  nearest_none best e = rw e

  module _ (best : maybe.Option A) (x : A) {l : List A} (one : l ≡ x ∷ []) where
    pub nearer_taken : after c last x ≡ true → before c x best ≡ true → nearest c last best l ≡ some x
    unfolding nearest nearer
    nearer_taken p q = rw (one, p, q)

    pub nearer_late : before c x best ≡ false → nearest c last best l ≡ best
    unfolding nearest nearer
    nearer_late q = rw (one, q) (go (after c last x))
      where
        go : (b : Bool) → cond (b && false) (some x) best ≡ best
        go true = refl
        go false = refl

    pub nearer_early : after c last x ≡ false → nearest c last best l ≡ best
    unfolding nearest nearer
    nearer_early p = rw (one, p)

-- ---- lists of lists

module _ {A B : Type 0} (f : A → List B) where
  pub joined_append : (l k : List A) → joined f (l ++ k) ≡ joined f l ++ joined f k
  unfolding joined
  joined_append [] k = refl
  joined_append (x ∷ l) k = ap (λ (t : List B). f x ++ t) (joined_append l k) ∙ sym (append_assoc (f x) (joined f l) (joined f k))

  pub joined-flat : (g : ℕ → List A) (n : ℕ) → joined f (flat g n) ≡ flat (λ k. joined f (g k)) n
  unfolding joined flat
  joined-flat g zero = refl
  joined-flat g (suc n) = joined_append (flat g n) (g n) ∙ ap (λ (t : List B). t ++ joined f (g n)) (joined-flat g n)

  pub joined_one : (x : A) → joined f (x ∷ []) ≡ f x
  unfolding joined
  joined_one x = append-nil (f x)

-- ---- the key of a path

module _ (m : RouteImage) (g : Group) where
  pub keys_flat : keys_of (paths_of m g) ≡ flat (λ k. keys_of (left_at m g (g.first + k))) g.count
  unfolding keys_of paths_of
  keys_flat = joined-flat (λ (p : UnwindPath). group_on (cut p.steps)) (λ k. left_at m g (g.first + k)) g.count

  module _ (q : ℕ) where
    pub left_is : (o : maybe.Option (List UnwindStep)) → strip (steps_in m g.from g.depth) (path_in m q).steps ≡ o → left_at m g q ≡ left_with (path_in m q).end o
    unfolding left_at
    left_is o e = ap (left_with (path_in m q).end) e

    pub left-none : LeftOf m g q None → left_at m g q ≡ []
    unfolding left_steps
    left-none l = left_is none l.is

    pub left-some : {l : Steps} → LeftOf m g q (Some l) → left_at m g q ≡ record { steps = steps_in m l.first l.count; end = (path_in m q).end } ∷ []
    unfolding left_steps
    left-some {l} left = left_is (some (steps_in m l.first l.count)) left.is

    pub key_outside : LeftOf m g q None → keys_of (left_at m g q) ≡ []
    unfolding keys_of joined
    key_outside l = rw (left-none l)

    module _ {l : Steps} (left : LeftOf m g q (Some l)) where
      key_on : (k : Cut) → cut (steps_in m l.first l.count) ≡ k → keys_of (left_at m g q) ≡ group_on k
      unfolding keys_of
      key_on k e = rw (left-some left) (joined_one (λ (p : UnwindPath). group_on (cut p.steps)) _ ∙ ap group_on e)

      pub key_over : Cuts m l.first l.count None → keys_of (left_at m g q) ≡ []
      unfolding group_on cut_of
      key_over k = key_on (over (tags_in m l.first l.count)) k.is

      pub key_enters : {c : ℕ} → Cuts m l.first l.count (Some c) → KeyOf m g q (Some (record { step = l.first; calls = c; first = q; last = q; more = false }))
      unfolding group_on cut_of key_of key_in
      key_enters {c} k =
          record {
            is = key_on _ k.is;
            stands = record {
              within = omega (arith, left.stands.0, k.stands.0);
              behind = left.stands.1;
              begins = left.stands.2;
              steps = k.stands.1;
            };
            here = (refl, refl);
          }

pub key_small : (m : RouteImage) → AcceptedRoutes m → (g : Group) (k : Option Key) → KeyIn m g k → KeySmall k
key_small m ok g (Some k) stands = omega (arith, ok.steps_most, stands.within)
key_small m ok g None stands = tt

pub key_within : (m : RouteImage) (g : Group) (k : Option Key) → KeyIn m g k → KeyWithin m k
key_within m g (Some k) stands = stands.within
key_within m g None stands = tt
