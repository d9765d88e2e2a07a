-- Interning the groups that a group leads to, one after the other.
--     left                         the keys that come after `last`, in order
--     Working, work_start          the groups up to `last` are interned
--     next_left, next_falls        the next of them, and that its paths have fewer steps left
--     child_grouped, child_room, push_room, branch_small, left_falls, edge, work_next     it is interned too
--     close_few, work_done     there is none: the node is closed
-- Assumes nothing.
use mathlib.Core.Path.{◌≡◌, refl, sym, ap, ap₂, subst, ◌∙◌}
use mathlib.Core.Bool.{true, false≢true}
use mathlib.Core.List.{List, [], ◌∷◌, ◌++◌, map, append-nil, map-append}
use mathlib.Core.Option as maybe
use mathlib.Core.Option.{none, some}
use Prim.Native.Nat.{ℕ, suc, ◌+◌, ◌*◌, ◌≤◌, ◌<◌, compare, Ordering}
use native.Mathlib.Omega.{arith}
use lib.ListN.{length}
use lib.Seq.{append_snoc}
use Rattle.std.proofs.Common.{Option, Some, None}
use Rattle.image.specs.Image.{RouteImage, table}
use Rattle.image.specs.Deal.{UnwindPath}
use Rattle.unwind.specs.declared.tries.store.Branch.{Branch}
use Rattle.unwind.specs.declared.tries.store.Counts.{Counts}
use Rattle.unwind.specs.declared.tries.paths.Group.{Group}
use Rattle.unwind.specs.declared.tries.keys.Key.{Key}
use Rattle.unwind.specs.declared.tries.nodes.Interned.{Interned}
use Rattle.addition.specs.Lists.{keep}
use Rattle.addition.specs.Order.{Tagged, tagged, compare_tagged, sorted}
use Rattle.addition.specs.Trie.{Node, Interned as Made, groups, rest, create, Children, intern_each, node_of, longest}
use Rattle.addition.specs.Walk.{◌∈◌}
use Rattle.unwind.specs.Nodes.{branch_in, branches, tags_in, funclet_in, edge_of, nodes_in, Stored, BranchSmall, BranchPut}
use Rattle.unwind.specs.Interning.{after, nearest, paths_of}
use Rattle.unwind.specs.Keys.{keys_of, key_in, key_of, KeyIn, Final, NextOf}
use Rattle.unwind.specs.Laid.{ends_list}
use Rattle.unwind.specs.Lower.{Lower}
use Rattle.unwind.specs.Interns.{interned, weight, group_behind, funclet_of, Grouped, Room, Closes, Interns}
use Rattle.addition.proofs.Order.{mem_sorted}
use Rattle.addition.proofs.Paths.{exact_key}
use Rattle.unwind.proofs.TrieOrder.{total_key, next_none, next_in, next_some}
use Rattle.unwind.proofs.TrieRuns.{branches-more, branches-same}
use Rattle.unwind.proofs.LowerLaws.{interned_lower}
use Rattle.unwind.proofs.TrieFuel.{rest_falls, interned_is}
use Rattle.unwind.proofs.TrieGroups.{rest_paths, steps_ahead, paths_ahead, steps_start, paths_start, steps_step, paths_step, rest_some, paths_few}
use Rattle.unwind.proofs.TrieIntern.{funclet_behind}

abbrev order : Tagged ℕ → Tagged ℕ → Ordering
order = compare_tagged compare

keep_all : (l : List (Tagged ℕ)) → keep (λ (x : Tagged ℕ). true) l ≡ l
unfolding keep
keep_all [] = refl
keep_all (x ∷ l) = ap (λ (t : List (Tagged ℕ)). x ∷ t) (keep_all l)

module _ (m : RouteImage) (g : Group) where
  -- the keys that come after `last`, in order
  pub left : Option Key → List (Tagged ℕ)
  left last = sorted order (keep (after order (key_of m last)) (keys_of (paths_of m g)))

  all_keys : groups (paths_of m g) ≡ left None
  unfolding groups keys_of key_of left
  all_keys = ap (sorted order) (sym (keep_all (keys_of (paths_of m g))))

  -- ---- the next key

  module _ (last : Option Key) (key : Key) (next : NextOf m g last (Some key)) where
    found : nearest order (key_of m last) none (keys_of (paths_of m g)) ≡ some (key_in m key)
    unfolding key_of
    found = sym next.is

    pub next_left : left last ≡ key_in m key ∷ left (Some key)
    unfolding left key_of
    next_left = next_some order total_key (key_of m last) (keys_of (paths_of m g)) (key_in m key) found

    here : (key_in m key ∈ keys_of (paths_of m g)) × (after order (key_of m last) (key_in m key) ≡ true)
    here = next_in order total_key (key_of m last) (keys_of (paths_of m g)) (key_in m key) found

    pub next_falls : longest (paths_of m (group_behind g key)) < longest (paths_of m g)
    unfolding groups keys_of
    next_falls =
        rw (← rest_paths m g key next.stands next.spans)
        (rest_falls (key_in m key) (paths_of m g) (mem_sorted order exact_key here.0))

    -- what the paths behind it count for
    counted : (steps_ahead (key_of m (Some key)) (paths_of m g) + weight (paths_of m (group_behind g key)) + length (paths_of m (group_behind g key)) ≤ steps_ahead (key_of m last) (paths_of m g)) × (paths_ahead (key_of m (Some key)) (paths_of m g) + length (paths_of m (group_behind g key)) ≤ paths_ahead (key_of m last) (paths_of m g)) × (1 ≤ length (paths_of m (group_behind g key)))
    unfolding key_of
    counted =
        rw (← rest_paths m g key next.stands next.spans) (
          steps_step (key_of m last) (key_in m key) here.1 (paths_of m g),
          paths_step (key_of m last) (key_in m key) here.1 (paths_of m g),
          rest_some (paths_of m g) (key_in m key) here.0,
        )

    pub child_grouped : (l : List ℕ) → Grouped m l g → Grouped m l (group_behind g key)
    unfolding group_behind
    child_grouped l grouped =
        record {
          accepted = grouped.accepted;
          starts = grouped.starts;
          within = record {
            paths = omega (arith, grouped.within.paths, next.spans.mid, next.spans.high);
            steps = omega (arith, next.stands.within, next.stands.behind);
          };
          route = grouped.route;
        }

  none_left : (last : Option Key) → NextOf m g last None → left last ≡ []
  unfolding left key_of sorted
  none_left last next = rw (next_none order total_key (key_of m last) (keys_of (paths_of m g)) (sym next.is))

  -- ---- at work

  module _ (nodes₀ edges₀ ends₀ stack₀ : List ℕ) (c₀ : Counts) (top : ℕ) where
    abbrev made : maybe.Option ℕ → List UnwindPath → List Node → Made
    made = interned g.route

    abbrev all : Children
    all = intern_each made (paths_of m g) (groups (paths_of m g)) (nodes_in m nodes₀ edges₀ ends₀ c₀.nodes)

    pub record Working (nodes edges ends stack : List ℕ) (c : Counts) (n : ℕ) (last : Option Key) : Type 0 where
      pub nodes_long : length nodes ≡ length nodes₀
      pub edges_long : length edges ≡ length edges₀
      pub ends_long : length ends ≡ length ends₀
      pub stack_long : length stack ≡ length stack₀
      pub key : KeyIn m g last
      pub final : Final m (keys_of (paths_of m g)) last
      pub stored : Stored nodes edges ends c
      pub lower : Lower (nodes_in m nodes edges ends c.nodes)
      pub below : (k : ℕ) → k < top → branch_in stack k ≡ branch_in stack₀ k
      pub edges_done : all.edges ≡ map (edge_of m) (branches stack top n) ++ (intern_each made (paths_of m g) (left last) (nodes_in m nodes edges ends c.nodes)).edges
      pub trie_done : all.trie ≡ (intern_each made (paths_of m g) (left last) (nodes_in m nodes edges ends c.nodes)).trie
      pub nodes_most : c.nodes + steps_ahead (key_of m last) (paths_of m g) ≤ c₀.nodes + weight (paths_of m g)
      pub edges_most : c.edges + n + steps_ahead (key_of m last) (paths_of m g) ≤ c₀.edges + weight (paths_of m g)
      pub stack_most : n + steps_ahead (key_of m last) (paths_of m g) ≤ weight (paths_of m g)
      -- each edge is that of a path that goes on
      pub paths_most : n + paths_ahead (key_of m last) (paths_of m g) + length (ends_list (paths_of m g)) ≤ length (paths_of m g)
      pub ends_most : c.ends + paths_ahead (key_of m last) (paths_of m g) + length (ends_list (paths_of m g)) ≤ c₀.ends + length (paths_of m g)

    pub work_start : Stored nodes₀ edges₀ ends₀ c₀ → Lower (nodes_in m nodes₀ edges₀ ends₀ c₀.nodes) → Working nodes₀ edges₀ ends₀ stack₀ c₀ 0 None
    unfolding key_of branches table
    work_start stored lower =
        record {
          nodes_long = refl;
          edges_long = refl;
          ends_long = refl;
          stack_long = refl;
          key = tt;
          final = λ e. absurd (false≢true e);
          stored = stored;
          lower = lower;
          below = λ k h. refl;
          edges_done = rw all_keys;
          trie_done = rw all_keys;
          nodes_most = omega (arith, steps_start (paths_of m g));
          edges_most = omega (arith, steps_start (paths_of m g));
          stack_most = omega (arith, steps_start (paths_of m g));
          paths_most = omega (arith, paths_start (paths_of m g));
          ends_most = omega (arith, paths_start (paths_of m g));
        }

    module _ (room : Room nodes₀ edges₀ ends₀ stack₀ c₀ top (suc (weight (paths_of m g))) (weight (paths_of m g)) (length (paths_of m g)))
        (nodes edges ends stack : List ℕ) (c : Counts) (n : ℕ) (last : Option Key) (work : Working nodes edges ends stack c n last) where
      -- what is left of the room
      room_left : (at n' e d : ℕ) → c.nodes + n' ≤ c₀.nodes + suc (weight (paths_of m g)) → c.edges + e ≤ c₀.edges + weight (paths_of m g)
          → c.ends + d ≤ c₀.ends + length (paths_of m g) → at + e ≤ top + weight (paths_of m g) → Room nodes edges ends stack c at n' e d
      room_left at n' e d h₁ h₂ h₃ h₄ =
          record {
            nodes_few = omega (arith, room.nodes_few);
            edges_few = omega (arith, room.edges_few);
            ends_few = omega (arith, room.ends_few);
            stack_few = omega (arith, room.stack_few);
            nodes_fit = omega (arith, room.nodes_fit, work.nodes_long);
            edges_fit = omega (arith, room.edges_fit, work.edges_long);
            ends_fit = omega (arith, room.ends_fit, work.ends_long);
            stack_fit = omega (arith, room.stack_fit, work.stack_long);
          }

      -- ---- one group more

      module _ (key : Key) (next : NextOf m g last (Some key)) where
        pub child_room : Room nodes edges ends stack c (top + n) (suc (weight (paths_of m (group_behind g key)))) (weight (paths_of m (group_behind g key))) (length (paths_of m (group_behind g key)))
        child_room =
            let k = counted last key next in
            let k₀ = k.0 in
            let k₁ = k.1 in
            let k₂ = k.2 in
            room_left (top + n) _ _ _ (omega (arith, work.nodes_most)) (omega (arith, work.edges_most)) (omega (arith, work.ends_most)) (omega (arith, work.stack_most))

        pub push_room : (top + n < 512) × (3 * (top + n) + 3 ≤ length stack)
        push_room =
            let k = counted last key next in
            let k₀ = k.0 in
            let k₂ = k.2 in
            (omega (arith, room.stack_few, work.stack_most), omega (arith, room.stack_fit, work.stack_most, work.stack_long))

        pub left_falls : length (left (Some key)) < length (left last)
        left_falls = rw (next_left last key next) (omega arith)

        module _ (nodes' edges' ends' stack' : List ℕ) (r : Interned) (done : Interns m (group_behind g key) nodes edges ends stack c (top + n) nodes' edges' ends' stack' r) where
          abbrev pub edge : Branch
          edge = record { step = key.step; calls = key.calls; what = r.place }

          pub branch_small : length m.steps ≤ 512 → BranchSmall edge
          branch_small few =
              let k = counted last key next in
              let k₀ = k.0 in
              let k₂ = k.2 in
              record {
                step = omega (arith, next.stands.within);
                calls = omega (arith, next.stands.within);
                what = omega (arith, done.within, done.grown.nodes_most, room.nodes_few, work.nodes_most);
              }

          child : Made
          child = made (some (key_in m key).what) (rest (key_in m key) (paths_of m g)) (nodes_in m nodes edges ends c.nodes)

          same_child : interned (group_behind g key).route (funclet_in m (funclet_of (group_behind g key))) (paths_of m (group_behind g key)) (nodes_in m nodes edges ends c.nodes) ≡ child
          unfolding child group_behind
          same_child =
              ap₂ (λ (f : maybe.Option ℕ) (ps : List UnwindPath). made f ps (nodes_in m nodes edges ends c.nodes))
              (funclet_behind m g key next.stands) (sym (rest_paths m g key next.stands next.spans))

          child_trie : child.trie ≡ nodes_in m nodes' edges' ends' r.counts.nodes
          child_trie = sym (done.trie ∙ ap (λ (x : Made). x.trie) same_child)

          child_lower : Lower (nodes_in m nodes' edges' ends' r.counts.nodes)
          unfolding child
          child_lower =
              subst Lower child_trie
              (interned_lower g.route (some (key_in m key).what) (rest (key_in m key) (paths_of m g)) (nodes_in m nodes edges ends c.nodes) work.lower)

          edge_is : edge_of m edge ≡ tagged (key_in m key).calls child.place
          unfolding edge_of key_in
          edge_is = ap (tagged (tags_in m key.step key.calls)) (done.place ∙ ap (λ (x : Made). x.place) same_child)

          abbrev tail : List Node → Children
          tail t = intern_each made (paths_of m g) (left (Some key)) t

          head_is : intern_each made (paths_of m g) (left last) (nodes_in m nodes edges ends c.nodes) ≡ record { edges = tagged (key_in m key).calls child.place ∷ (tail child.trie).edges; trie = (tail child.trie).trie }
          unfolding intern_each child
          head_is = rw (next_left last key next)

          module _ (stack'' : List ℕ) (put : BranchPut stack' (top + n) edge stack'') where
            run_is : map (edge_of m) (branches stack'' top (n + 1)) ≡ map (edge_of m) (branches stack top n) ++ (tagged (key_in m key).calls child.place ∷ [])
            run_is =
                ap (map (edge_of m)) (branches-more stack'' top n)
                ∙ map-append (edge_of m) (branches stack'' top n) (branch_in stack'' (top + n) ∷ [])
                ∙ ap₂ (λ (l : List (Tagged ℕ)) (x : Tagged ℕ). l ++ (x ∷ []))
                (ap (map (edge_of m)) (branches-same stack'' stack top n (λ k h. put.others (top + k) (λ e. omega arith) ∙ done.below (top + k) (omega arith))))
                (ap (edge_of m) put.here ∙ edge_is)

            pub work_next : length nodes' ≡ length nodes → length edges' ≡ length edges → length ends' ≡ length ends → length stack' ≡ length stack → Working nodes' edges' ends' stack'' r.counts (n + 1) (Some key)
            work_next ln le ld ls =
                let k = counted last key next in
                let k₀ = k.0 in
                let k₁ = k.1 in
                let k₂ = k.2 in
                let es = map (edge_of m) (branches stack top n) in
                let x = tagged (key_in m key).calls child.place in
                record {
                  nodes_long = ln ∙ work.nodes_long;
                  edges_long = le ∙ work.edges_long;
                  ends_long = ld ∙ work.ends_long;
                  stack_long = put.long ∙ ls ∙ work.stack_long;
                  key = next.stands;
                  final = next.final;
                  stored = done.stored;
                  lower = child_lower;
                  below = λ k h. put.others k (λ e. omega arith) ∙ done.below k (omega arith) ∙ work.below k h;
                  edges_done =
                      work.edges_done
                      ∙ ap (λ (y : Children). es ++ y.edges) head_is
                      ∙ sym (append_snoc es x (tail child.trie).edges)
                      ∙ ap₂ (λ (l : List (Tagged ℕ)) (t : List Node). l ++ (tail t).edges) (sym run_is) child_trie;
                  trie_done = work.trie_done ∙ ap (λ (y : Children). y.trie) head_is ∙ ap (λ (t : List Node). (tail t).trie) child_trie;
                  nodes_most = omega (arith, done.grown.nodes_most, work.nodes_most);
                  edges_most = omega (arith, done.grown.edges_most, work.edges_most);
                  stack_most = omega (arith, work.stack_most);
                  paths_most = omega (arith, work.paths_most);
                  ends_most = omega (arith, done.grown.ends_most, work.ends_most);
                }

      -- ---- there is none

      module _ (next : NextOf m g last None) where
        pub close_few : n + length (ends_list (paths_of m g)) ≤ g.count
        close_few = omega (arith, work.paths_most, paths_few m g)

        none_is : intern_each made (paths_of m g) (left last) (nodes_in m nodes edges ends c.nodes) ≡ record { edges = []; trie = nodes_in m nodes edges ends c.nodes }
        unfolding intern_each
        none_is = rw (none_left last next)

        created : interned g.route (funclet_in m (funclet_of g)) (paths_of m g) (nodes_in m nodes₀ edges₀ ends₀ c₀.nodes) ≡ create (node_of g.route (funclet_in m (funclet_of g)) (paths_of m g) (map (edge_of m) (branches stack top n))) (nodes_in m nodes edges ends c.nodes)
        created =
            interned_is g.route (funclet_in m (funclet_of g)) (paths_of m g) (nodes_in m nodes₀ edges₀ ends₀ c₀.nodes)
            ∙ ap₂ (λ (es : List (Tagged ℕ)) (t : List Node). create (node_of g.route (funclet_in m (funclet_of g)) (paths_of m g) es) t)
            (work.edges_done ∙ ap (λ (y : Children). map (edge_of m) (branches stack top n) ++ y.edges) none_is ∙ append-nil (map (edge_of m) (branches stack top n)))
            (work.trie_done ∙ ap (λ (y : Children). y.trie) none_is)

        pub work_done : (nodes' edges' ends' : List ℕ) (r : Interned) → Closes m g nodes edges ends stack c top n nodes' edges' ends' r → Interns m g nodes₀ edges₀ ends₀ stack₀ c₀ top nodes' edges' ends' stack r
        work_done nodes' edges' ends' r closed =
            record {
              trie = closed.trie ∙ ap (λ (x : Made). x.trie) (sym created);
              place = closed.place ∙ ap (λ (x : Made). x.place) (sym created);
              within = closed.within;
              stored = closed.stored;
              grown = record {
                nodes_most = omega (arith, closed.grown.nodes_most, work.nodes_most);
                edges_most = omega (arith, closed.grown.edges_most, work.edges_most);
                ends_most = omega (arith, closed.grown.ends_most, work.ends_most);
              };
              below = work.below;
            }
