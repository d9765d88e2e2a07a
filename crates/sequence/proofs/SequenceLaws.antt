-- What a build and an addition of the image's own routes give together.
--     laid_on                      a graph that is laid over one that was laid
--     own_checked                  the checks of an image's own routes, where its graph is built
--     unrouted_limits              routes that are refused behind a build are so by 18, 19 or 20
--     Stands, stands               a graph that was built of an image
--     refused_gives, plain_gives   a build that is refused, and one of mode 0
--     unread_gives, unbuilt_gives  the same as `?` hands it on
--     checked                      what is asked of the routes of an image that was built
--     mapped                       an addition that is refused, as it is handed on
--     sequence_of, routed_gives    a build of the other modes, and the addition to it
-- Assumes nothing.
use mathlib.Core.Path.{◌≡◌, refl, sym, ap, subst, ◌∙◌}
use mathlib.Core.Bool.{Bool, true, false, cond}
use mathlib.Core.List.{List, []}
use Rattle.graph.specs.declared.store.Graph.{Graph as Lent}
use Rattle.std.proofs.Common.{Result, Ok, Err}
use Rattle.std.specs.Result.{IsErrAnd, MatchResult}
use Prim.Native.Nat.{ℕ}
use native.Mathlib.Omega.{arith}
use borrow.Author.Tests.{eq-eqb, ne_eqb}
use lib.Dec.{eqb}
use lib.ListN.{length, get_or, length-append}
use Rattle.image.specs.Little.{le1}
use Rattle.image.specs.Refusal.{Refusal, Check, clear}
use Rattle.image.specs.Image.{Image, RouteImage, image_in, routes_in}
use Rattle.image.specs.Read.{Reading, read, refusing, read_image, read_routes}
use Rattle.image.specs.Deal.{routes_of}
use Rattle.image.specs.Accepted.{AcceptedRoutes}
use Rattle.image.specs.declared.section.Layout.{Layout}
use Rattle.image.specs.Verdict.{refusal_of as form_refusal}
use Rattle.image.specs.declared.form.ImageError.{ImageError}
use Rattle.image.proofs.Accepted.{accepted_routes}
use Rattle.graph.specs.Graph.{Graph, Held, held}
use Rattle.graph.specs.declared.record.Counts.{Counts}
use Rattle.graph.specs.Lent.{held_of}
use Rattle.graph.specs.Error.{refusal_of}
use Rattle.graph.specs.Fold.{checks}
use Rattle.graph.specs.Build.{Outcome as Building, built, refused as not_built, outcome, build_check, graph_from, build_of, build_read, build_from}
use Rattle.graph.specs.WellFormed.{well_formed, Built}
use Rattle.graph.specs.Answers.{Laid}
use Rattle.graph.specs.declared.record.Block.{Block}
use Rattle.graph.specs.declared.record.Edge.{Edge}
use Rattle.graph.specs.declared.error.AddressBuildError.{AddressBuildError}
use Rattle.graph.specs.Stored.{Grows}
use Rattle.graph.proofs.StoredLaws.{untouched_then}
use Rattle.addition.specs.Add.{route_check, extended, Addition, addition, Outcome as Adding, added, refused as not_added, add_routes_to, add_read, add_routes}
use Rattle.addition.specs.Demand.{Conditions, Demand3}
use Rattle.addition.proofs.Accepted.{accepted}
use Rattle.addition.proofs.Own.{own_built, own_passed}
use Rattle.addition.proofs.OwnNodes.{Limit, own_limits}
use Rattle.addition.proofs.Demand.{demand3}
use Rattle.builder.proofs.BuildLaws.{read_refused, read_built}
use Rattle.builder.proofs.Passes.{build_passes, graphed}
use Rattle.unwind.specs.HopWords.{rows_in, no_rows, row_hops, HopsUnused}
use Rattle.unwind.specs.Answers.{addition_in, image_of, Adds, RoutesChecked}
use Rattle.unwind.proofs.AnswerLaws.{added_graphed, read_answer}
use Rattle.text.specs.Chart.{route_bytes}
use Rattle.text.proofs.RouteBytesLaws.{routes_alone}
use Rattle.sequence.specs.declared.SequenceError.{SequenceError}
use Rattle.sequence.specs.declared.SequenceError.TheVariants.{Unrouted, Refused}
use Rattle.sequence.specs.Sequences.{whole, unrouted, routed, with_routes, sequence_from, answer_of, Leaves, Gives}

-- ---- graphs that are laid twice

-- a graph with more blocks and edges has no fewer records of any kind
grown : (g : Graph) (bs : List Block) (es : List Edge) (v w : Lent) → held_of v ≡ held g → held_of w ≡ held (extended g bs es) → Grows v.counts w.counts
unfolding held_of held extended
grown g bs es v w was is =
    let before = ap (λ (x : Held). x.counts) was in
    let now = ap (λ (x : Held). x.counts) is in
    record {
      table = omega (arith, ap (λ (c : Counts). c.table) before, ap (λ (c : Counts). c.table) now);
      blocks = omega (arith, ap (λ (c : Counts). c.blocks) before, ap (λ (c : Counts). c.blocks) now, length-append g.blocks bs);
      edges = omega (arith, ap (λ (c : Counts). c.edges) before, ap (λ (c : Counts). c.edges) now, length-append g.edges es);
      regions = omega (arith, ap (λ (c : Counts). c.regions) before, ap (λ (c : Counts). c.regions) now);
      handlers = omega (arith, ap (λ (c : Counts). c.handlers) before, ap (λ (c : Counts). c.handlers) now);
      unresolved = omega (arith, ap (λ (c : Counts). c.unresolved) before, ap (λ (c : Counts). c.unresolved) now);
      calls = omega (arith, ap (λ (c : Counts). c.calls) before, ap (λ (c : Counts). c.calls) now);
    }

pub laid_on : {u v w : Lent} {f g : Graph} → Grows v.counts w.counts → Laid u v f → Laid v w g → Laid u w g
laid_on grows a b = record { holds = b.holds; kept = untouched_then a.kept grows b.kept }

-- ---- an image's own routes

built_is : (m : Image) (g : Graph) → built g ≡ build_of m → (build_check m ≡ clear) × (g ≡ graph_from m)
unfolding build_of
built_is m g e = go (build_check m) refl e
  where
    go : (c : Check) → build_check m ≡ c → built g ≡ outcome c (graph_from m) → (c ≡ clear) × (g ≡ graph_from m)
    go clear is e = (refl, cc)
    go (Check.refused r) is e = absurd (let z : ◌≡◌ {A = ℕ} 0 1 = cc in omega arith)

pub own_checked : (m : Image) (h : Held) (n : ℕ) → built h.graph ≡ build_of m → well_formed h ≡ true → AcceptedRoutes m.routes → n ≡ length h.graph.blocks → RoutesChecked h n m.routes
own_checked m h n e graph accepted all =
    let is = built_is m h.graph e in
    record {
      graphed = graph;
      built = rw all (subst (λ (g : Graph). Built g (length g.blocks)) (sym is.1) (own_built m));
      accepted = accepted;
      passed = subst (λ (g : Graph). checks (route_check g (routes_of m.routes)) (length (routes_of m.routes)) ≡ clear) (sym is.1) (own_passed m is.0);
    }

-- the image that a graph is built of
built_from : (l : List ℕ) (g : Graph) → built g ≡ build_from l → (m : Image) × (read_image l ≡ read m) × (built g ≡ build_of m)
unfolding build_from build_read
built_from l g e = go (read_image l) refl e
  where
    go : (x : Reading Image) → read_image l ≡ x → built g ≡ build_read x → (m : Image) × (read_image l ≡ read m) × (built g ≡ build_of m)
    go (read m) is e = (m, is, e)
    go (refusing r) is e = absurd (let z : ◌≡◌ {A = ℕ} 0 1 = cc in omega arith)

module _ (l : List ℕ) where
  added_limits : (g : Graph) (r : Refusal) → built g ≡ build_from l → add_routes (held g) (route_bytes l) ≡ not_added r → Limit r
  unfolding add_routes add_read held
  added_limits g r is e =
      let image = built_from l g is in
      let of_image = built_is image.0 g image.2 in
      own_limits image.0 of_image.0 r
      (subst (λ (x : Graph). add_routes_to x (routes_of image.0.routes) ≡ not_added r) of_image.1 (rw (build_passes l g is, routes_alone l image.0 image.1) at e))

  pub unrouted_limits : (g : Graph) (r : Refusal) → unrouted g r ≡ sequence_from l → Limit r
  unfolding with_routes sequence_from
  unrouted_limits g r e = of_build (build_from l) refl e
    where
      not_added_law : (b : Graph) (o : Adding) → unrouted g r ≡ routed b o → o ≡ not_added r
      not_added_law b (added a) e = absurd (let z : ◌≡◌ {A = ℕ} 0 1 = cc in omega arith)
      not_added_law b (not_added s) e = cc

      of_mode : (b : Graph) → build_from l ≡ built b → (plain : Bool) → unrouted g r ≡ cond plain (whole (record { graph = b; hops = [] })) (routed b (add_routes (held b) (route_bytes l))) → Limit r
      of_mode b is true e = absurd (let z : ◌≡◌ {A = ℕ} 0 1 = cc in omega arith)
      of_mode b is false e = added_limits b r (sym is) (not_added_law b (add_routes (held b) (route_bytes l)) e)

      of_build : (x : Building) → build_from l ≡ x → unrouted g r ≡ with_routes l x → Limit r
      of_build (not_built s) is e = absurd (let z : ◌≡◌ {A = ℕ} 0 1 = cc in omega arith)
      of_build (built b) is e = of_mode b is (eqb (le1 l 1) 0) e

-- ---- demand 3

whole_added : (g : Graph) (a : Addition) (o : Adding) → whole a ≡ routed g o → o ≡ added a
whole_added g a (added b) e = cc
whole_added g a (not_added r) e = absurd (let z : ◌≡◌ {A = ℕ} 0 1 = cc in omega arith)

module _ (l : List ℕ) (w : Lent) (h : List ℕ) (r : Result Unit SequenceError) where
  spelled : answer_of l w h r ≡ sequence_from l → (g : Graph) (m : RouteImage) → build_from l ≡ built g → (le1 l 1 ≡ 0 → ⊥) → read_routes (route_bytes l) ≡ read m → r ≡ Ok tt → Conditions g (routes_of m) → Demand3 (routes_of m) (addition_in m w h)
  unfolding held with_routes sequence_from
  spelled answer g m is some found all conditions =
      let told : whole (addition_in m w h) ≡ routed g (add_routes (held g) (route_bytes l)) =
      ap (λ (x : Reading RouteImage). whole (addition_in (image_of x) w h)) (sym found)
      ∙ ap (answer_of l w h) (sym all)
      ∙ answer
      ∙ ap (with_routes l) is
      ∙ ap (λ (b : Bool). cond b (whole (record { graph = g; hops = [] })) (routed g (add_routes (held g) (route_bytes l)))) (ne_eqb (le1 l 1) 0 some) in
      demand3 (held g) (route_bytes l) m (addition_in m w h) found (whole_added g (addition_in m w h) (add_routes (held g) (route_bytes l)) told) conditions

  gives : {w₀ : Lent} {h₀ : List ℕ} → answer_of l w h r ≡ sequence_from l → Leaves w₀ w h₀ h r → Gives l w₀ w h₀ h r
  gives answer leaves =
      record {
        answer = answer;
        leaves = leaves;
        spells = spelled answer;
        limits = λ e is. unrouted_limits l (held_of w).graph (refusal_of e) (ap (answer_of l w h) (sym is) ∙ answer);
      }

-- ---- what is given

-- the answer of an addition to a graph that was built
abbrev pub sequence_of : Result Unit AddressBuildError → Result Unit SequenceError
sequence_of (Ok _) = Ok tt
sequence_of (Err e) = Err (Unrouted e)

pub mapped : (r : Result Unit AddressBuildError) (o : Result Unit SequenceError) → MatchResult r (λ x. o ≡ Ok x) (λ e. IsErrAnd o (λ d. d ≡ Unrouted e)) → o ≡ sequence_of r
mapped (Ok _) o is = is
mapped (Err e) (Err d) is = ap Err is
mapped (Err e) (Ok _) is = absurd is

-- a graph that was built of an image, as it is held
pub record Stands (l : List ℕ) (u v : Lent) (y : Layout) : Type 0 where
  pub of_image : built (held_of v).graph ≡ build_of (image_in l y)
  pub is : built (held_of v).graph ≡ build_from l
  pub laid : Laid u v (held_of v).graph
  pub graph : well_formed (held_of v) ≡ true

module _ (l : List ℕ) where
  pub refused_gives : (u w : Lent) (h : List ℕ) (e : AddressBuildError) → not_built (refusal_of e) ≡ build_from l → w ≡ u → Gives l u w h h (Err (Refused e))
  unfolding with_routes sequence_from
  refused_gives u w h e is same = gives l w h (Err (Refused e)) (ap (with_routes l) is) (same, refl)

  -- a reading that is refused, and a build, as `?` hands them on
  pub unread_gives : (u : Lent) (h : List ℕ) (x : ImageError) (r : Result Unit SequenceError) → refusing (form_refusal x) ≡ read_image l → IsErrAnd r (λ e. (a : AddressBuildError) × (e ≡ Refused a) × (refusal_of a ≡ form_refusal x)) → Gives l u u h h r
  unread_gives u h x (Err e) found is = rw is.1 (refused_gives u u h is.0 (read_refused l {A = Unit} u x (Err is.0) is.2 found) refl)
  unread_gives u h x (Ok _) found is = absurd is

  pub unbuilt_gives : (u w : Lent) (h : List ℕ) (m : Image) (x : AddressBuildError) (r : Result Unit SequenceError) → read m ≡ read_image l → not_built (refusal_of x) ≡ build_of m → w ≡ u → IsErrAnd r (λ e. e ≡ Refused x) → Gives l u w h h r
  unbuilt_gives u w h m x (Err e) found is same err = rw err (refused_gives u w h x (is ∙ read_built l m found) same)
  unbuilt_gives u w h m x (Ok _) found is same err = absurd err

  module _ (u v : Lent) (y : Layout) where
    pub stands : read (image_in l y) ≡ read_image l → built (held_of v).graph ≡ build_of (image_in l y) → Laid u v (held_of v).graph → Stands l u v y
    stands found of laid =
        let is : built (held_of v).graph ≡ build_from l = of ∙ read_built l (image_in l y) found in
        record { of_image = of; is = is; laid = laid; graph = graphed {A = Unit} l u v (Ok tt) is laid }

    module _ (s : Stands l u v y) where
      pub plain_gives : le1 l 1 ≡ 0 → {h h' : List ℕ} → rows_in h' ≡ no_rows → ((k : ℕ) → HopsUnused h' k → get_or h' k 0 ≡ get_or h k 0) → Gives l u v h h' (Ok tt)
      unfolding with_routes sequence_from row_hops
      plain_gives mode {h} {h'} none kept = gives l v h' (Ok tt) (rw (← s.is, eq-eqb (le1 l 1) 0 mode, none)) (s.laid, s.graph, kept)

      pub checked : (n : ℕ) → read (image_in l y) ≡ read_image l → n ≡ length (held_of v).graph.blocks → RoutesChecked (held_of v) n (routes_in l y.routes)
      checked n found all =
          let m = image_in l y in
          own_checked m (held_of v) n s.of_image s.graph (accepted_routes (route_bytes l) m.routes (routes_alone l m (sym found))) all

      module _ (mode : le1 l 1 ≡ 0 → ⊥) (found : read (image_in l y) ≡ read_image l) where
        abbrev m : RouteImage
        m = routes_in l y.routes

        alone : read m ≡ read_routes (route_bytes l)
        alone = sym (routes_alone l (image_in l y) (sym found))

        added_from : (o : Adding) → o ≡ add_routes (held_of v) (route_bytes l) → routed (held_of v).graph o ≡ sequence_from l
        unfolding with_routes sequence_from
        added_from o e = rw (← s.is, ne_eqb (le1 l 1) 0 mode) (ap (routed (held_of v).graph) (e ∙ ap (λ (x : Held). add_routes x (route_bytes l)) s.laid.holds))

        pub routed_gives : (w : Lent) (h h' : List ℕ) (r : Result Unit AddressBuildError) → Adds m v w h h' r → Gives l u w h h' (sequence_of r)
        unfolding addition
        routed_gives w h h' (Ok _) adds =
            let answer = read_answer (route_bytes l) v w h h' (Ok tt) s.graph m alone adds in
            let is-addition = (accepted (held_of v).graph (routes_of m) (addition_in m w h') (sym adds.answer)).is in
            gives l w h' (Ok tt) (added_from _ answer)
            (laid_on (grown (held_of v).graph _ _ v w s.laid.holds (adds.leaves.0.holds ∙ ap held (sym (ap (λ (a : Addition). a.graph) is-addition)))) s.laid adds.leaves.0, added_graphed (route_bytes l) v w h h' (Ok tt) answer adds.leaves, adds.leaves.1)
        routed_gives w h h' (Err e) adds =
            subst (λ (x : Lent). Gives l u x h h' (Err (Unrouted e))) (sym adds.leaves.0)
            (gives l v h' (Err (Unrouted e)) (added_from _ (read_answer (route_bytes l) v w h h' (Err e) s.graph m alone adds)) (s.laid, s.graph, adds.leaves.1))
