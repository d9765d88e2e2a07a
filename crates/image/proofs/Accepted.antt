-- What holds of each image that was read.
--     accepted, accepted_routes     the theorems
-- Each section's check is clear, and with it the count, the sum and the form of each record. Assumes nothing.
use mathlib.Core.Bool.{Bool, true, false, not, ◌||◌}
use mathlib.Core.Path.{◌≡◌, refl, sym, ap, ap₂, ◌∙◌}
use mathlib.Core.List.{List, []}
use Rattle.std.specs.Prelude.{Option, None, Some}
use Prim.Native.Nat.{ℕ, zero, suc, ◌+◌, ◌-◌, ◌*◌, ◌≤◌, ◌<◌}
use native.Mathlib.Nat.{min-le_right, min-eq_left, add-sub_cancel}
use native.Mathlib.Omega.{arith}
use borrow.Author.Tests.{eqb-true, ltb-true, eq-eqb, ne_eqb}
use lib.Dec.{eqb, ltb}
use lib.ListN.{length, get_or}
use Rattle.image.specs.Little.{le1, le4, le8}
use Rattle.image.specs.Record.{instruction_from, case_from, source_from, edge_from, handler_from, route_from, path_from, step_from}
use Rattle.image.specs.Refusal.{refusal, Check, clear, refused, ◌then◌}
use Rattle.image.specs.Form.{field, header_form, instruction_form, source_form, edge_form, handler_form, path_form, step_form, form_of}
use Rattle.image.specs.Image.{Image, RouteImage, place_in, records_in, image_in, routes_in}
use Rattle.image.specs.Read.{limit_of, children_at, children_in, children_of, record_form, adds, count_form, section_form, section_at, end_of, end_form, routes_form, route_layout_at, code_form, code_layout_of, layout_of, image_form, read_image, read_routes, read, reading}
use Rattle.image.specs.Deal.{total}
use Rattle.image.specs.Accepted.{Accepted, AcceptedRoutes}
use Rattle.image.specs.Kind.{Kind, Instructions, Cases, Sources, Edges, Handlers, Routes, Paths, Steps}
use Rattle.image.proofs.Checks.{then_left, then_right, unless_clear, field_clear, byte_clear, checks_each}
use Rattle.image.proofs.Sections.{count-within}
use Rattle.image.proofs.Tables.{length-records, records-none, records_in_law, records-all}

-- ---- a section that is clear

module _ (k : Kind) (l : List ℕ) (at : ℕ) (used : Bool) (sum : Option ℕ) (h : section_form k l at used sum ≡ clear) where
  counted : count_form k l at used sum ≡ clear
  counted = then_left (count_form k l at used sum) _ h

  count_is : (section_at k l at).count ≡ le4 l at
  count_is = min-eq_left (count-within k l at used sum counted)

  unused_none : used ≡ false → (section_at k l at).count ≡ 0
  unused_none e =
      let zeros : (used || eqb (le4 l at) 0) ≡ true = field_clear l at 4 _ (grind (arith, then_left, then_right)) in
      count_is ∙ eqb-true (le4 l at) 0 (rw e at zeros)

  adds_up : adds sum (section_at k l at).count ≡ true
  adds_up = rw count_is (unless_clear _ (refusal 1 at 0) (grind (arith, then_left, then_right)))

  form_of_law : (i : ℕ) → i < (section_at k l at).count → record_form k l (at + 4) i ≡ clear
  form_of_law i lt =
      checks_each (record_form k l (at + 4)) (section_at k l at).count i (then_right (count_form k l at used sum) _ h) lt

-- ---- its records

abbrev records_at : {A : Type 0} → (List ℕ → ℕ → A) → Kind → List ℕ → ℕ → List A
records_at from k l at = records_in from l (section_at k l at)

module _ {A : Type 0} (from : List ℕ → ℕ → A) (k : Kind) (l : List ℕ) (at : ℕ) where
  few : length (records_at from k l at) ≤ limit_of k
  few = rw (length-records from l (section_at k l at)) (min-le_right (le4 l at) (limit_of k))

  module _ (used : Bool) (sum : Option ℕ) (h : section_form k l at used sum ≡ clear) where
    none : used ≡ false → records_at from k l at ≡ []
    none e = records-none from l (section_at k l at) (unused_none k l at used sum h e)

    each : (value : A → ℕ) (most : ℕ) → value (from [] 0) ≤ most → ((x : ℕ) (first : Bool) → form_of k l x first ≡ clear → value (from l x) ≤ most) → (i : ℕ) → value (get_or (records_at from k l at) i (from [] 0)) ≤ most
    each value most zeros form =
        records-all from l (section_at k l at) (λ r. value r ≤ most) zeros
        (λ i lt. form (place_in (section_at k l at) i) (eqb i 0) (form_of_law k l at used sum h i lt))

  -- their children in all, of which the section behind has as many
  module _ (children : A → ℕ) (same : (x : ℕ) → children (from l x) ≡ children_at k l x) where
    total_to : (n : ℕ) → n ≤ (section_at k l at).count → total (λ i. children (get_or (records_at from k l at) i (from [] 0))) n ≡ children_in k l (at + 4) n
    unfolding total children_in
    total_to zero h = refl
    total_to (suc n) h =
        ap₂ ◌+◌ (total_to n (omega arith))
        (ap children (records_in_law from l (section_at k l at) n h) ∙ same (place_in (section_at k l at) n))

    dealt : {B : Type 0} (to : List ℕ → ℕ → B) (c : Kind) (used : Bool) → section_form c l (end_of (section_at k l at)) used (Some (children_of k l (section_at k l at))) ≡ clear → total (λ i. children (get_or (records_at from k l at) i (from [] 0))) (length (records_at from k l at)) ≡ length (records_at to c l (end_of (section_at k l at)))
    dealt to c used h =
        let y = section_at k l at in
        let z = section_at c l (end_of y) in
        rw (length-records from l y)
        (total_to y.count (omega arith)
        ∙ eqb-true (children_of k l y) z.count (adds_up c l (end_of y) used (Some (children_of k l y)) h)
        ∙ sym (length-records to l z))

-- ---- the values of a record that is clear

module _ (l : List ℕ) where
  header_clear : header_form l ≡ clear → (le1 l 1 ≤ 2) × (le1 l 2 ≤ 1)
  header_clear h = grind (arith, then_left, then_right, byte_clear)

  module _ (at : ℕ) where
    instruction_clear : instruction_form l at ≡ clear → le1 l (at + 18) ≤ 12
    instruction_clear h = grind (arith, then_left, then_right, byte_clear)

    source_clear : source_form l (at + 12) false ≡ clear → le8 l at < le8 l (at + 12)
    source_clear h =
        let rising = ltb (le8 l (at + 12 - 12)) (le8 l (at + 12)) in
        rw (add-sub_cancel at 12) at (ltb-true (le8 l (at + 12 - 12)) (le8 l (at + 12)) (field_clear l (at + 12) 8 rising (then_left (field l (at + 12) 8 rising) _ h)))

    edge_clear : edge_form l at ≡ clear → le1 l (at + 8) ≤ 7
    edge_clear h = grind (arith, then_left, then_right, byte_clear)

    handler_clear : handler_form l at ≡ clear → le1 l (at + 24) ≤ 4
    handler_clear h = grind (arith, then_left, then_right, byte_clear)

    path_clear : path_form l at ≡ clear → le1 l at ≤ 2
    path_clear h = grind (arith, then_left, then_right, byte_clear)

    step_clear : step_form l at ≡ clear → le1 l at ≤ 1
    step_clear h = grind (arith, then_left, then_right, byte_clear)

sources_clear : (l : List ℕ) (at : ℕ) (used : Bool) (sum : Option ℕ) → section_form Sources l at used sum ≡ clear → (s : ℕ) → suc s < length (records_at source_from Sources l at) → (get_or (records_at source_from Sources l at) s (source_from [] 0)).address < (get_or (records_at source_from Sources l at) (suc s) (source_from [] 0)).address
sources_clear l at used sum h s lt =
    let y = section_at Sources l at in
    let inside : suc s < y.count = rw (length-records source_from l y) at lt in
    let next : at + 4 + 12 * suc s ≡ at + 4 + 12 * s + 12 = omega arith in
    rw (records_in_law source_from l y s (omega arith), records_in_law source_from l y (suc s) inside, next)
    (source_clear l (at + 4 + 12 * s)
    (rw (next, ne_eqb (suc s) 0 (λ zero. omega arith)) at (form_of_law Sources l at used sum h (suc s) inside)))

-- ---- the theorems

-- what was read, and that nothing was refused
read_clear : {A : Type 0} (c : Check) (a m : A) → reading c a ≡ read m → (c ≡ clear) × (a ≡ m)
read_clear clear a m h = (refl, cc)
read_clear (refused r) a m h = absurd (let z : ◌≡◌ {A = ℕ} 0 1 = cc in omega arith)

routes_clear : (l : List ℕ) (at : ℕ) (used : Bool) → routes_form l at used ≡ clear → AcceptedRoutes (routes_in l (route_layout_at l at))
unfolding routes_form route_layout_at
routes_clear l at used h =
    let r = section_at Routes l at in
    let p = section_at Paths l (end_of r) in
    let paths : section_form Paths l (end_of r) used (Some (children_of Routes l r)) ≡ clear = grind (arith, then_left, then_right) in
    let steps : section_form Steps l (end_of p) used (Some (children_of Paths l p)) ≡ clear = grind (arith, then_left, then_right) in
    record {
      routes_most = few route_from Routes l at;
      paths_most = few path_from Paths l (end_of r);
      steps_most = few step_from Steps l (end_of p);
      paths_add = dealt route_from Routes l at (λ i. i.paths) (λ x. refl) path_from Paths used paths;
      steps_add = dealt path_from Paths l (end_of r) (λ i. i.steps) (λ x. refl) step_from Steps used steps;
      ends = each path_from Paths l (end_of r) used (Some (children_of Routes l r)) paths (λ i. i.end) 2 (omega arith) (λ x first. path_clear l x);
      codes = each step_from Steps l (end_of p) used (Some (children_of Paths l p)) steps (λ i. i.code) 1 (omega arith) (λ x first. step_clear l x);
    }

image_clear : (l : List ℕ) → image_form l ≡ clear → Accepted (image_in l (layout_of l))
unfolding image_form layout_of code_form code_layout_of routes_form route_layout_at
image_clear l h =
    let mode = le1 l 1 in
    let given = eqb mode 2 in
    let used = not (eqb mode 0) in
    let c = end_of (section_at Instructions l 12) in
    let s = end_of (section_at Cases l c) in
    let e = end_of (section_at Sources l s) in
    let b = end_of (section_at Edges l e) in
    let r = end_of (section_at Handlers l b) in
    let header = header_clear l (grind (arith, then_left, then_right)) in
    let edges : section_form Edges l e given (Some (children_of Sources l (section_at Sources l s))) ≡ clear = grind (arith, then_left, then_right) in
    record {
      instructions_most = few instruction_from Instructions l 12;
      cases_most = few case_from Cases l c;
      sources_most = few source_from Sources l s;
      edges_most = few edge_from Edges l e;
      handlers_most = few handler_from Handlers l b;
      cases_add = dealt instruction_from Instructions l 12 (λ i. i.cases) (λ x. refl) case_from Cases true (grind (arith, then_left, then_right));
      edges_add = dealt source_from Sources l s (λ i. i.edges) (λ x. refl) edge_from Edges given edges;
      sources_rise = sources_clear l s given None (grind (arith, then_left, then_right));
      modes = header.0;
      policies = header.1;
      flows = each instruction_from Instructions l 12 true None (grind (arith, then_left, then_right)) (λ i. i.flow) 12 (omega arith) (λ x first. instruction_clear l x);
      edge_kinds = each edge_from Edges l e given (Some (children_of Sources l (section_at Sources l s))) edges (λ i. i.kind) 7 (omega arith) (λ x first. edge_clear l x);
      handler_kinds = each handler_from Handlers l b true None (grind (arith, then_left, then_right)) (λ i. i.kind) 4 (omega arith) (λ x first. handler_clear l x);
      not_given = λ lt. none source_from Sources l s given None (grind (arith, then_left, then_right)) (ne_eqb mode 2 (λ same. omega arith));
      not_routed = λ same. none route_from Routes l r used None (grind (arith, then_left, then_right)) (ap not (eq-eqb mode 0 same));
      routed = routes_clear l r used (grind (arith, then_left, then_right));
    }

pub accepted_routes : (l : List ℕ) (m : RouteImage) → read_routes l ≡ read m → AcceptedRoutes m
unfolding read_routes
accepted_routes l m h =
    let y = route_layout_at l 0 in
    let found = read_clear (routes_form l 0 true then end_form l (end_of y.steps)) (routes_in l y) m h in
    rw found.1 at (routes_clear l 0 true (then_left (routes_form l 0 true) _ found.0))

pub accepted : (l : List ℕ) (m : Image) → read_image l ≡ read m → Accepted m
unfolding read_image
accepted l m h =
    let found = read_clear (image_form l) (image_in l (layout_of l)) m h in
    rw found.1 at (image_clear l found.0)
