-- The ends and edges of a node as they are laid behind those that are stored.
--     ends_flat                        the ends of a group's paths, path by path
--     end_outside, end_enters, end_over     the end of a path: it is none of the group's, goes on, or is over
--     end_none, end_put                no end is put, or one
--     ends_below, EndsBelow, ends_start, ends_more, ends_all     the ends of the paths before k
--     ends_nothing                     no path ends
--     EdgesBelow, edges_start, edges_more     the edges of a stack before k
-- Assumes nothing.
use mathlib.Core.Path.{◌≡◌, refl, sym, ap, ◌∙◌}
use mathlib.Core.List.{List, [], ◌∷◌, map, append-nil, map-append}
use Prim.Native.Nat.{ℕ, ◌+◌, ◌<◌, ◌≤◌, compare}
use native.Mathlib.Omega.{arith}
use lib.ListN.{length, length-append, drop_of_length-le}
use Rattle.std.proofs.Common.{Some, None}
use Rattle.image.specs.Image.{RouteImage, table}
use Rattle.image.specs.Deal.{UnwindEnd, UnwindPath}
use Rattle.image.specs.Accepted.{AcceptedRoutes}
use Rattle.graph.specs.Fold.{flat}
use Rattle.graph.specs.Route.{path_in}
use Rattle.graph.proofs.RouteLaws.{path_is}
use Rattle.graph.proofs.FoldLaws.{flat-more}
use Rattle.unwind.specs.declared.tries.store.Branch.{Branch}
use Rattle.unwind.specs.declared.tries.paths.Group.{Group}
use Rattle.unwind.specs.declared.tries.paths.Steps.{Steps}
use Rattle.addition.specs.Lists.{joined}
use Rattle.addition.specs.Order.{Tagged, compare_tagged, compare_ends, sorted}
use Rattle.addition.specs.Trie.{Cut, over, cut, end_on, ends_of}
use Rattle.unwind.specs.Nodes.{tags_in, branch_in, branches, edge_of, end_at}
use Rattle.unwind.specs.Interning.{steps_in, left_at, paths_of, LeftOf, cut_of, Cuts}
use Rattle.unwind.specs.Runs.{RunPut}
use Rattle.unwind.specs.Laid.{ends_list, ending_of, EndOf, EndLaid, EndsLaid, EdgesLaid}
use Rattle.unwind.proofs.TrieOrder.{total_key, total_end, sorted-behind}
use Rattle.unwind.proofs.TrieKeys.{joined-flat, joined_one, left-none, left-some}
use Rattle.unwind.proofs.TrieRuns.{branches-more}

module _ (m : RouteImage) (g : Group) where
  pub ends_flat : ends_list (paths_of m g) ≡ flat (λ k. ends_list (left_at m g (g.first + k))) g.count
  unfolding ends_list paths_of
  ends_flat = joined-flat (λ (p : UnwindPath). end_on (cut p.steps) p.end) (λ k. left_at m g (g.first + k)) g.count

  -- ---- the end of a path

  module _ (q : ℕ) where
    pub end_outside : LeftOf m g q None → ends_list (left_at m g q) ≡ []
    unfolding ends_list joined
    end_outside l = rw (left-none m g q l)

    module _ {l : Steps} (left : LeftOf m g q (Some l)) where
      end_on_law : (k : Cut) → cut (steps_in m l.first l.count) ≡ k → ends_list (left_at m g q) ≡ end_on k (path_in m q).end
      unfolding ends_list
      end_on_law k e =
          rw (left-some m g q left)
          (joined_one (λ (p : UnwindPath). end_on (cut p.steps) p.end) _ ∙ ap (λ (x : Cut). end_on x (path_in m q).end) e)

      pub end_enters : {c : ℕ} → Cuts m l.first l.count (Some c) → ends_list (left_at m g q) ≡ []
      unfolding end_on cut_of
      end_enters k = end_on_law _ k.is

      pub end_over : AcceptedRoutes m → q < length m.paths → Cuts m l.first l.count None → EndOf m g q (Some (record { step = l.first; calls = l.count; what = q }))
      unfolding end_on cut_of ending_of end_at
      end_over ok h k =
          record {
            is = end_on_law (over (tags_in m l.first l.count)) k.is ∙ rw (ap (λ (p : UnwindPath). p.end) (path_is m q h));
            small = record {
              step = omega (arith, left.stands.0, ok.steps_most);
              calls = omega (arith, left.stands.0, ok.steps_most);
              what = omega (arith, ok.paths_most);
            };
          }

  -- ---- no end is put, or one

  pub end_none : (q : ℕ) (l : List ℕ) (a n : ℕ) → ends_list (left_at m g q) ≡ [] → EndLaid m g q l a n l n
  end_none q l a n e =
      record {
        run = λ ds so_far. so_far ∙ rw e (ap (sorted (compare_tagged compare_ends)) (sym (append-nil ds)));
        most = omega arith;
        others = λ k h. refl;
      }

  pub end_put : (q : ℕ) (l : List ℕ) (a n : ℕ) (b : Branch) (l' : List ℕ) (r : ℕ) → ends_list (left_at m g q) ≡ end_at m b ∷ []
      → RunPut (compare_tagged compare_ends) (end_at m) l a n b l' r → EndLaid m g q l a n l' r
  end_put q l a n b l' r e done =
      record {
        run = λ ds so_far. done.run ∙ rw (e, so_far) (sym (sorted-behind (compare_tagged compare_ends) total_end ds (end_at m b)));
        most = rw e done.most;
        others = done.others;
      }

  -- ---- the ends of the paths before k

  abbrev pub ends_below : ℕ → List (Tagged UnwindEnd)
  ends_below k = flat (λ (i : ℕ). ends_list (left_at m g (g.first + i))) k

  pub record EndsBelow (l : List ℕ) (a : ℕ) (l' : List ℕ) (n k : ℕ) : Type 0 where
    pub long : length l' ≡ length l
    pub run : map (end_at m) (branches l' a n) ≡ sorted (compare_tagged compare_ends) (ends_below k)
    pub most : n ≤ length (ends_below k)
    pub others : (i : ℕ) → i < a → branch_in l' i ≡ branch_in l i

  module _ (l : List ℕ) (a : ℕ) where
    pub ends_start : EndsBelow l a l 0 0
    unfolding flat branches table sorted
    ends_start = record { long = refl; run = refl; most = omega arith; others = λ i h. refl }

    pub ends_more : (l' l'' : List ℕ) (n r k : ℕ) → EndsBelow l a l' n k → length l'' ≡ length l' → EndLaid m g (g.first + k) l' a n l'' r → EndsBelow l a l'' r (k + 1)
    ends_more l' l'' n r k so_far long done =
        let ends : ℕ → List (Tagged UnwindEnd) = λ (i : ℕ). ends_list (left_at m g (g.first + i)) in
        record {
          long = long ∙ so_far.long;
          run = done.run (ends_below k) so_far.run ∙ ap (sorted (compare_tagged compare_ends)) (sym (flat-more ends k));
          most = rw (flat-more ends k, length-append (ends_below k) (ends k)) (omega (arith, done.most, so_far.most));
          others = λ i h. done.others i h ∙ so_far.others i h;
        }

    pub ends_all : (l' : List ℕ) (n k : ℕ) → k ≡ g.count → EndsBelow l a l' n k → EndsLaid m g l a l' n
    unfolding ends_of ends_list
    ends_all l' n k e laid =
        let all : ends_below k ≡ ends_list (paths_of m g) = ap ends_below e ∙ sym ends_flat in
        record {
          run = laid.run ∙ ap (sorted (compare_tagged compare_ends)) all;
          most = rw all at laid.most;
          others = laid.others;
        }

    -- ---- no path ends

    pub ends_nothing : length (ends_list (paths_of m g)) ≡ 0 → EndsLaid m g l a l 0
    unfolding ends_of ends_list branches table sorted
    ends_nothing e =
        let none : ends_list (paths_of m g) ≡ [] = drop_of_length-le (ends_list (paths_of m g)) {i = 0} (omega arith) in
        record { run = sym (ap (sorted (compare_tagged compare_ends)) none); most = omega arith; others = λ i h. refl }

-- ---- the edges of a stack before k

module _ (m : RouteImage) (stack : List ℕ) (top : ℕ) (l : List ℕ) (a : ℕ) where
  pub record EdgesBelow (l' : List ℕ) (n k : ℕ) : Type 0 where
    pub long : length l' ≡ length l
    pub laid : EdgesLaid m stack top k l a l' n

  pub edges_start : EdgesBelow l 0 0
  unfolding branches table sorted
  edges_start = record { long = refl; laid = record { run = refl; most = omega arith; others = λ i h. refl } }

  pub edges_more : (l' l'' : List ℕ) (n r k : ℕ) (b : Branch) → EdgesBelow l' n k → b ≡ branch_in stack (top + k) → length l'' ≡ length l' → RunPut (compare_tagged compare) (edge_of m) l' a n b l'' r → EdgesBelow l'' r (k + 1)
  edges_more l' l'' n r k b so_far is long done =
      record {
        long = long ∙ so_far.long;
        laid = record {
          run =
              done.run
              ∙ rw (so_far.laid.run, is) (sym (sorted-behind (compare_tagged compare) total_key (map (edge_of m) (branches stack top k)) (edge_of m (branch_in stack (top + k)))))
              ∙ ap (sorted (compare_tagged compare)) (sym (map-append (edge_of m) (branches stack top k) (branch_in stack (top + k) ∷ [])) ∙ ap (map (edge_of m)) (sym (branches-more stack top k)));
          most = omega (arith, done.most, so_far.laid.most);
          others = λ i h. done.others i h ∙ so_far.laid.others i h;
        };
      }
