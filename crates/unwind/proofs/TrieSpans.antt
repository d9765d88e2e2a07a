-- The next key of the first paths of a group, path by path, and which of them have it.
--     among_none, among-all     of no path, and of all of them
--     key_none, key_early       the next path has no key, or one that comes no later than `last`
--     key_first                 it is the first with a later one
--     key_merged                it has one, and a path before has a later one
--     key_final                 there is none after a key that says so
-- Assumes nothing.
use mathlib.Core.Path.{◌≡◌, refl, sym, ap, ◌∙◌}
use mathlib.Core.Bool.{Bool, true, false, false≢true}
use mathlib.Core.List.Memᴰ
use mathlib.Core.List.{List, [], ◌∷◌}
use mathlib.Core.Option as maybe
use mathlib.Core.Option.{none, some}
use Prim.Native.Nat.{ℕ, ◌+◌, compare, Ordering}
use native.Mathlib.Decide.{dec_lt}
use native.Mathlib.Omega.{arith}
use Rattle.std.proofs.Common.{Option, Some, None}
use Rattle.image.specs.Image.{RouteImage}
use Rattle.graph.specs.Fold.{flat}
use Rattle.graph.proofs.FoldLaws.{flat-more}
use Rattle.unwind.specs.declared.tries.paths.Group.{Group}
use Rattle.unwind.specs.declared.tries.keys.Key.{Key}
use Rattle.addition.specs.Order.{Tagged, compare_tagged}
use Rattle.unwind.specs.Interning.{is_lt, after, before, nearest, left_at, paths_of}
use Rattle.unwind.specs.Keys.{keys_of, key_in, key_of, followed_by, merged_on, merged, first_keys, Stands, Spans, is_final, Final, KeyOf, NextAmong, NextOf}
use Rattle.addition.proofs.Lists.{mem_flat}
use Rattle.unwind.proofs.TrieOrder.{turned, total_key, not_gt_eq, self_eq, not_beyond, next_in, next_new, next_final}
use Rattle.unwind.proofs.TrieKeys.{nearest_append, nearest_none, nearer_taken, nearer_late, nearer_early, keys_flat}

abbrev order : Tagged ℕ → Tagged ℕ → Ordering
order = compare_tagged compare

module _ (m : RouteImage) (g : Group) (last : Option Key) where
  abbrev keys_at : ℕ → List (Tagged ℕ)
  keys_at i = keys_of (left_at m g (g.first + i))

  pub among_none : NextAmong m g last 0 None
  unfolding key_of flat nearest
  among_none = record { is = refl; stands = tt; spans = tt; final = λ e. refl }

  pub among-all : (best : Option Key) → NextAmong m g last g.count best → NextOf m g last best
  among-all best all =
      record { is = rw (keys_flat m g) all.is; stands = all.stands; spans = all.spans; final = rw (keys_flat m g) all.final }

  -- a key that another comes after
  among-followed : (n : ℕ) (k : Key) → key_of m (Some k) ≡ nearest order (key_of m last) none (first_keys m g n) → Stands m g k → Spans m g n k → NextAmong m g last n (Some (followed_by k))
  unfolding key_of key_in
  among-followed n k is stands spans =
      record {
        is = is;
        stands = record { within = stands.within; behind = stands.behind; begins = stands.begins; steps = stands.steps };
        spans = record { low = spans.low; mid = spans.mid; high = spans.high; all = spans.all };
        final = λ e. absurd (false≢true e);
      }

  module _ (n : ℕ) where
    next_more : (o : maybe.Option (Tagged ℕ)) → nearest order o none (first_keys m g (n + 1)) ≡ nearest order o (nearest order o none (first_keys m g n)) (keys_at n)
    next_more o = ap (nearest order o none) (flat-more keys_at n) ∙ nearest_append order o none (first_keys m g n) (keys_at n)

    spans_still : (k : Key) → Spans m g n k → (keys_at n ≡ key_in m k ∷ [] → ⊥) → Spans m g (n + 1) k
    spans_still k so_far other =
        record {
          low = so_far.low;
          mid = so_far.mid;
          high = omega (arith, so_far.high);
          all = λ i h e.
              elim (dec_lt i n) [
                | yes lt ↦ so_far.all i lt e
                | no ge ↦ let here : i ≡ n = omega arith in absurd (other (rw here at e))
              ];
        }

    final_still : (k : Key) → Final m (first_keys m g n) (Some k) → nearest order (key_of m (Some k)) none (keys_at n) ≡ none → Final m (first_keys m g (n + 1)) (Some k)
    final_still k so_far none_here e = next_more (key_of m (Some k)) ∙ rw (so_far e) none_here

    module _ (best : Option Key) (so_far : NextAmong m g last n best) where
      next_is : (o : maybe.Option (Tagged ℕ)) → nearest order (key_of m last) (key_of m best) (keys_at n) ≡ o → o ≡ nearest order (key_of m last) none (first_keys m g (n + 1))
      next_is o e =
          sym e
          ∙ ap (λ (b : maybe.Option (Tagged ℕ)). nearest order (key_of m last) b (keys_at n)) so_far.is
          ∙ sym (next_more (key_of m last))

      -- the next path has no key, or another than `best` that does not come after it
      stays : nearest order (key_of m last) (key_of m best) (keys_at n) ≡ key_of m best → ((b : Tagged ℕ) → key_of m best ≡ some b → (keys_at n ≡ b ∷ [] → ⊥) × (nearest order (some b) none (keys_at n) ≡ none)) → NextAmong m g last (n + 1) best
      unfolding key_of
      stays e other = go best refl so_far
        where
          go : (b : Option Key) → best ≡ b → NextAmong m g last n b → NextAmong m g last (n + 1) b
          go (Some k) p among =
              let apart = other (key_in m k) (ap (key_of m) p) in
              record {
                is = rw p at (next_is (key_of m best) e);
                stands = among.stands;
                spans = spans_still k among.spans apart.0;
                final = final_still k among.final apart.1;
              }
          go None p among = record { is = rw p at (next_is (key_of m best) e); stands = tt; spans = tt; final = λ f. absurd (false≢true f) }

      pub key_none : keys_at n ≡ [] → NextAmong m g last (n + 1) best
      key_none e =
          stays (nearest_none order (key_of m last) (key_of m best) e)
          (λ b p. (λ q. let z : ◌≡◌ {A = ℕ} 0 1 = cc in omega arith, nearest_none order (some b) none e))

      module _ (key : Key) (found : KeyOf m g (g.first + n) (Some key)) where
        one : keys_at n ≡ key_in m key ∷ []
        unfolding key_of
        one = found.is

        same : (b : Tagged ℕ) → keys_at n ≡ b ∷ [] → key_in m key ≡ b
        same b e = let p = one in cc

        pub key_early : after order (key_of m last) (key_in m key) ≡ false → NextAmong m g last (n + 1) best
        key_early early =
            stays (nearer_early order (key_of m last) (key_of m best) (key_in m key) one early)
            (λ b p.
            let late = (next_in order total_key (key_of m last) (first_keys m g n) b (sym so_far.is ∙ p)).1 in (
              λ q. false≢true (sym early ∙ rw (same b q) late),
              nearer_early order (some b) none (key_in m key) one (not_beyond order total_key (key_of m last) b (key_in m key) late early),
            ))

        -- it comes before `best`, so that no path before has it
        module _ (late : after order (key_of m last) (key_in m key) ≡ true) (first : before order (key_in m key) (key_of m best) ≡ true) where
          taken_is : key_of m (Some key) ≡ nearest order (key_of m last) none (first_keys m g (n + 1))
          unfolding key_of
          taken_is = next_is (some (key_in m key)) (nearer_taken order (key_of m last) (key_of m best) (key_in m key) one late first)

          taken_spans : Spans m g (n + 1) key
          taken_spans =
              record {
                low = omega (arith, found.here.0);
                mid = omega (arith, found.here.0, found.here.1);
                high = omega (arith, found.here.1);
                all = λ i h e.
                    elim (dec_lt i n) [
                      | yes lt ↦
                          absurd (next_new order total_key (key_of m last) (first_keys m g n) (key_in m key)
                          (mem_flat keys_at n i lt (rw e (Memᴰ.head refl))) late (rw (← so_far.is) first))
                      | no ge ↦ (omega (arith, found.here.0), omega (arith, found.here.1))
                    ];
              }

        later : (b : Key) → key_of m best ≡ some (key_in m b) → is_lt (order (key_in m key) (key_in m b)) ≡ false → nearest order (key_of m last) (key_of m best) (keys_at n) ≡ key_of m best
        later b e past = nearer_late order (key_of m last) (key_of m best) (key_in m key) one (rw e past)

  pub key_first : (n : ℕ) → NextAmong m g last n None → (key : Key) → KeyOf m g (g.first + n) (Some key) → after order (key_of m last) (key_in m key) ≡ true → NextAmong m g last (n + 1) (Some key)
  unfolding key_of
  key_first n so_far key found late =
      record {
        is = taken_is n None so_far key found late refl;
        stands = found.stands;
        spans = taken_spans n None so_far key found late refl;
        final = final_still n key (λ e. next_final order total_key (key_of m last) (first_keys m g n) (sym so_far.is) (key_in m key) late)
            (nearer_early order (some (key_in m key)) none (key_in m key) (one n None so_far key found) (ap is_lt (self_eq order total_key (key_in m key))));
      }

  pub key_merged : (n : ℕ) (b : Key) → NextAmong m g last n (Some b) → (key : Key) → KeyOf m g (g.first + n) (Some key) → NextAmong m g last (n + 1) (Some (merged m last key b))
  unfolding merged key_of key_in
  key_merged n b so_far key found = go (order (key_in m key) (key_in m b)) (after order (key_of m last) (key_in m key)) refl refl
    where
      go : (o : Ordering) (t : Bool) → order (key_in m key) (key_in m b) ≡ o → after order (key_of m last) (key_in m key) ≡ t → NextAmong m g last (n + 1) (Some (merged_on o t key b))
      go Ordering.lt true e late =
          among-followed (n + 1) key (taken_is n (Some b) so_far key found late (ap is_lt e)) found.stands (taken_spans n (Some b) so_far key found late (ap is_lt e))
      go Ordering.lt false e early = key_early n (Some b) so_far key found early
      go Ordering.eq t e a =
          let s = so_far.spans in
          record {
            is = next_is n (Some b) so_far (some (key_in m b)) (later n (Some b) so_far key found b refl (ap is_lt e));
            stands = record {
              within = so_far.stands.within;
              behind = so_far.stands.behind;
              begins = so_far.stands.begins;
              steps = so_far.stands.steps;
            };
            spans = record {
              low = s.low;
              mid = omega (arith, s.mid, s.high, found.here.1);
              high = omega (arith, found.here.1);
              all = λ i h p.
                  elim (dec_lt i n) [
                    | yes lt ↦ ((s.all i lt p).0, omega (arith, found.here.1))
                    | no ge ↦ (omega (arith, s.mid, s.high), omega (arith, found.here.1))
                  ];
            };
            final = final_still n b so_far.final
                (nearer_early order (some (key_in m b)) none (key_in m key) (one n (Some b) so_far key found) (ap is_lt (total_key.turns (key_in m key) (key_in m b) ∙ ap turned e)));
          }
      go Ordering.gt t e a =
          among-followed (n + 1) b (next_is n (Some b) so_far (some (key_in m b)) (later n (Some b) so_far key found b refl (ap is_lt e))) so_far.stands
          (spans_still n b so_far.spans
          (λ q.
          let alike : key_in m key ≡ key_in m b = same n (Some b) so_far key found (key_in m b) q in
          not_gt_eq (sym e ∙ rw alike (self_eq order total_key (key_in m b)))))

pub key_final : (m : RouteImage) (g : Group) (last : Option Key) → Final m (keys_of (paths_of m g)) last → is_final last ≡ true → NextOf m g last None
unfolding key_of
key_final m g last final e = record { is = sym (final e); stands = tt; spans = tt; final = λ f. absurd (false≢true f) }
