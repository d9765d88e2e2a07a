-- Gathering the ways out of a block.
--     put-all-more, put-all-sorted     more put behind others; what is put among sorted ones is sorted with them
--     gather_none, gather_next, gather_both    nothing, one more, and one gathering behind another
--     gather_record                a node's
--     entry_some, entry_none       an entry with calls, and with none
--     number_stays, number_lands   the number of an end that resumes, and of another
use mathlib.Core.Path.{◌≡◌, refl, sym, ◌∙◌, ap, subst}
use mathlib.Core.List.{List, [], ◌∷◌, ◌++◌, append-nil}
use Prim.Native.Nat.{ℕ, ◌+◌, ◌≤◌, Ordering}
use native.Mathlib.Numerals.{add-one}
use native.Mathlib.Omega.{arith}
use borrow.Author.Tests.{ne_eqb}
use lib.ListN.{length, get_or, length-append}
use lib.Seq.{append_snoc}
use Rattle.image.specs.Image.{RouteImage, table}
use Rattle.unwind.specs.declared.tries.store.NodeRecord.{NodeRecord}
use Rattle.unwind.specs.declared.tries.store.Branch.{Branch}
use Rattle.addition.specs.Order.{put, sorted}
use Rattle.unwind.specs.Nodes.{tags_in}
use Rattle.unwind.specs.Sources.{Exit, compare_exits}
use Rattle.unwind.specs.Entries.{exit_in, exits_in, Ordered, EntryPut}
use Rattle.unwind.specs.Gather.{put_all, exit_to, edge_exits, end_number, end_exits, record_exits, Gathers}
use Rattle.unwind.proofs.TrieOrder.{Total, sorted-behind}

module _ {A : Type 0} (c : A → A → Ordering) where
  pub put-all-more : (xs ys l : List A) → put_all c (xs ++ ys) l ≡ put_all c ys (put_all c xs l)
  unfolding put_all
  put-all-more [] ys l = refl
  put-all-more (x ∷ xs) ys l = put-all-more xs ys (put c x l)

  pub put-all-sorted : Total c → (xs l : List A) → put_all c xs (sorted c l) ≡ sorted c (l ++ xs)
  unfolding put_all
  put-all-sorted total [] l = ap (sorted c) (sym (append-nil l))
  put-all-sorted total (x ∷ xs) l =
      ap (put_all c xs) (sym (sorted-behind c total l x))
      ∙ put-all-sorted total xs (l ++ (x ∷ []))
      ∙ ap (sorted c) (append_snoc l x xs)

module _ (m : RouteImage) (b : ℕ) (l : List ℕ) (n : ℕ) where
  pub gather_none : Ordered m l n → Gathers m b l n [] l n
  unfolding put_all
  gather_none o = record { long = refl; most = omega arith; ordered = o; is = refl }

  pub gather_next : (f : ℕ → Exit) (k : ℕ) {l₁ l₂ : List ℕ} {n₁ r : ℕ} (x : Branch) → Gathers m b l n (table f k) l₁ n₁ → EntryPut m l₁ n₁ x l₂ r → exit_in m b x ≡ f k → Gathers m b l n (table f (k + 1)) l₂ r
  unfolding table put_all
  gather_next f k {l₁ = l₁} {n₁ = n₁} {r = r} x s p e =
      let s_most : n₁ ≤ n + length (table f k) = s.most in
      let p_most : r ≤ n₁ + 1 = p.most in
      rw (add-one k)
      record {
        long = p.long ∙ s.long;
        most = rw (length-append (table f k) (f k ∷ [])) (omega arith);
        ordered = p.ordered;
        is = p.is b ∙ ap (λ (y : Exit). put compare_exits y (exits_in m b l₁ n₁)) e ∙ ap (put compare_exits (f k)) s.is ∙ sym (put-all-more compare_exits (table f k) (f k ∷ []) (exits_in m b l n));
      }

  pub gather_both : {l₁ l₂ : List ℕ} {n₁ r : ℕ} (xs ys : List Exit) → Gathers m b l n xs l₁ n₁ → Gathers m b l₁ n₁ ys l₂ r → Gathers m b l n (xs ++ ys) l₂ r
  gather_both {n₁ = n₁} {r = r} xs ys s p =
      let s_most : n₁ ≤ n + length xs = s.most in
      let p_most : r ≤ n₁ + length ys = p.most in
      record {
        long = p.long ∙ s.long;
        most = rw (length-append xs ys) (omega arith);
        ordered = p.ordered;
        is = p.is ∙ ap (put_all compare_exits ys) s.is ∙ sym (put-all-more compare_exits xs ys (exits_in m b l n));
      }

  pub gather_record : {l₁ l₂ : List ℕ} {n₁ r : ℕ} (edges ends heads landings : List ℕ) (x x' : NodeRecord) → x ≡ x' → Gathers m b l n (edge_exits m b edges heads x.first_edge x.edges) l₁ n₁ → Gathers m b l₁ n₁ (end_exits m b ends landings x.first_end x.ends) l₂ r → Gathers m b l n (record_exits m b edges ends heads landings x') l₂ r
  unfolding record_exits
  gather_record {l₂ = l₂} {r = r} edges ends heads landings x x' e s p =
      subst (λ (z : NodeRecord). Gathers m b l n (record_exits m b edges ends heads landings z) l₂ r) e
      (gather_both (edge_exits m b edges heads x.first_edge x.edges) (end_exits m b ends landings x.first_end x.ends) s p)

pub entry_some : (m : RouteImage) (b : ℕ) (e : Branch) (n : ℕ) → exit_in m b (record { step = e.step; calls = e.calls; what = n }) ≡ exit_to m b e n
unfolding exit_in
entry_some m b e n = refl

pub entry_none : (m : RouteImage) (b : ℕ) (e : Branch) (n : ℕ) → e.calls ≡ 0 → exit_in m b (record { step = 0; calls = 0; what = n }) ≡ exit_to m b e n
unfolding exit_in tags_in
entry_none m b e n k = rw k

module _ (b : ℕ) (landings : List ℕ) (k : ℕ) where
  pub number_stays : get_or landings k 0 ≡ 65534 → b ≡ end_number b landings k
  unfolding end_number
  number_stays e = rw e

  pub number_lands : (get_or landings k 0 ≡ 65534 → ⊥) → get_or landings k 0 ≡ end_number b landings k
  unfolding end_number
  number_lands ne = rw (ne_eqb (get_or landings k 0) 65534 ne)
