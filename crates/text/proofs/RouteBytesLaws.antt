-- The last three sections of an image's bytes are a route image, and hold its routes.
--     limit_most                           how many records a section has at most
--     byte-same, four_same, eight_same     a number read from the bytes behind a place
--     section_shift, routes_shift          what is clear there is clear by itself
--     layout_same                          and holds the same records
--     alone, routes_alone                  THE ROUTES OF AN IMAGE, READ BY THEMSELVES
-- Assumes nothing.
use mathlib.Core.Path.{◌≡◌, refl, ap, sym, ◌∙◌}
use mathlib.Core.Bool.{Bool, true, false, cond, not, ◌||◌}
use mathlib.Core.List.{List}
use Rattle.std.proofs.Common.{Option, Some, None}
use Prim.Native.Nat.{ℕ, zero, suc, ◌+◌, ◌*◌, ◌≤◌, ◌<◌, min}
use native.Mathlib.Omega.{arith}
use borrow.Author.Tests.{leb-true, le-leb}
use lib.Dec.{eqb, leb, ltb}
use lib.ListN.{length, get_or, drop, length-drop}
use lib.Seq.{get_or-drop}
use Rattle.image.specs.Little.{le1, le4, le8}
use Rattle.image.specs.Refusal.{refusal, Check, clear, refused, ◌then◌, unless, checks}
use Rattle.image.specs.Record.{route_from, path_from, step_from}
use Rattle.image.specs.Form.{bad, field, byte, used4, used8, header_form, form_of}
use Rattle.image.specs.Image.{Image, table, records_in, routes_in, image_in}
use Rattle.image.specs.Read.{width_of, limit_of, children_at, record_form, records_form, children_in, section_at, end_of, children_of, adds, count_form, section_form, end_form, route_layout_at, routes_form, code_layout_of, code_form, layout_of, image_form, read, reading, read_image, read_routes}
use Rattle.image.specs.Kind.{Kind, Instructions, Cases, Sources, Edges, Handlers, Routes, Paths, Steps}
use Rattle.image.proofs.Checks.{then_left, then_right, unless_clear, checks_each, field_clear}
use Rattle.image.proofs.Sections.{count-within}
use Rattle.graph.proofs.FoldLaws.{table_same}
use Rattle.text.specs.Chart.{route_bytes}

pub limit_most : (k : Kind) → limit_of k ≤ 512
limit_most Instructions = omega arith
limit_most Cases = omega arith
limit_most Sources = omega arith
limit_most Edges = omega arith
limit_most Handlers = omega arith
limit_most Routes = omega arith
limit_most Paths = omega arith
limit_most Steps = omega arith

then_both : (a c : Check) → a ≡ clear → c ≡ clear → (a then c) ≡ clear
then_both a c x y = rw x y

all_clear : (f : ℕ → Check) (n : ℕ) → ((i : ℕ) → i < n → f i ≡ clear) → checks f n ≡ clear
unfolding checks
all_clear f zero each = refl
all_clear f (suc n) each = then_both (checks f n) (f n) (all_clear f n (λ i h. each i (omega arith))) (each n (omega arith))

field_fits : (l : List ℕ) (at w : ℕ) (good : Bool) → field l at w good ≡ clear → at + w ≤ length l
unfolding field
field_fits l at w good h = leb-true (at + w) (length l) (go (leb (at + w) (length l)) h)
  where
    go : (there : Bool) → cond there (bad at good) (refused (refusal 1 (length l) 0)) ≡ clear → there ≡ true
    go true e = refl
    go false e = absurd (let z : ◌≡◌ {A = ℕ} 0 1 = cc in omega arith)

-- the bytes from b on, where place j is place p of all
module _ (l : List ℕ) (b : ℕ) where
  abbrev behind : List ℕ
  behind = drop b l

  pub byte-same : (p j : ℕ) → p ≡ b + j → le1 behind j ≡ le1 l p
  byte-same p j e = get_or-drop b l j 0 ∙ ap (λ (k : ℕ). get_or l k 0) (sym e)

  pub four_same : (p j : ℕ) → p ≡ b + j → le4 behind j ≡ le4 l p
  four_same p j e =
      omega (arith, byte-same p j e, byte-same (p + 1) (j + 1) (omega arith), byte-same (p + 2) (j + 2) (omega arith), byte-same (p + 3) (j + 3) (omega arith))

  pub eight_same : (p j : ℕ) → p ≡ b + j → le8 behind j ≡ le8 l p
  eight_same p j e = omega (arith, four_same p j e, four_same (p + 4) (j + 4) (omega arith))

  -- ---- a field, and the records of routes

  field_shift : (p j w : ℕ) → p ≡ b + j → (good good' : Bool) → good' ≡ true → field l p w good ≡ clear → field behind j w good' ≡ clear
  unfolding field
  field_shift p j w e good good' is h = rw (is, le-leb (j + w) (length behind) (omega (arith, e, length-drop b l, field_fits l p w good h)))

  abbrev Shifts : Kind → Type 0
  Shifts k = (p j : ℕ) (first : Bool) → p ≡ b + j → form_of k l p first ≡ clear → form_of k behind j first ≡ clear

  route_shift : Shifts Routes
  route_shift p j first e h =
      let start = used8 l p true in
      let end = used8 l (p + 8) true in
      let both = then_left (start then end) (used4 l (p + 16) true) h in
      then_both _ _
      (then_both _ _ (field_shift p j 8 e _ _ refl (then_left start end both)) (field_shift (p + 8) (j + 8) 8 (omega arith) _ _ refl (then_right start end both)))
      (field_shift (p + 16) (j + 16) 4 (omega arith) _ _ refl (then_right (start then end) (used4 l (p + 16) true) h))

  path_shift : Shifts Paths
  path_shift p j first e h =
      let end = byte l p 2 in
      let handler = used8 l (p + 1) (eqb (le1 l p) 0) in
      let both = then_left (end then handler) (used4 l (p + 9) true) h in
      let at-end = then_left end handler both in
      let at-handler = then_right end handler both in
      then_both _ _
      (then_both _ _
      (field_shift p j 1 e _ _ (ap (λ (n : ℕ). leb n 2) (byte-same p j e) ∙ field_clear l p 1 (leb (le1 l p) 2) at-end) at-end)
      (field_shift (p + 1) (j + 1) 8 (omega arith) _ _
      (ap (λ (n : ℕ). eqb n 0 || eqb (le8 behind (j + 1)) 0) (byte-same p j e)
      ∙ ap (λ (n : ℕ). eqb (le1 l p) 0 || eqb n 0) (eight_same (p + 1) (j + 1) (omega arith))
      ∙ field_clear l (p + 1) 8 (eqb (le1 l p) 0 || eqb (le8 l (p + 1)) 0) at-handler)
      at-handler))
      (field_shift (p + 9) (j + 9) 4 (omega arith) _ _ refl (then_right (end then handler) (used4 l (p + 9) true) h))

  step_shift : Shifts Steps
  step_shift p j first e h =
      let code = byte l p 1 in
      let value = field l (p + 1) 8 (eqb (le1 l p) 0 || ltb (le8 l (p + 1)) 4294967296) in
      let at_code = then_left code value h in
      let at_value = then_right code value h in
      then_both _ _
      (field_shift p j 1 e _ _ (ap (λ (n : ℕ). leb n 1) (byte-same p j e) ∙ field_clear l p 1 (leb (le1 l p) 1) at_code) at_code)
      (field_shift (p + 1) (j + 1) 8 (omega arith) _ _
      (ap (λ (n : ℕ). eqb n 0 || ltb (le8 behind (j + 1)) 4294967296) (byte-same p j e)
      ∙ ap (λ (n : ℕ). eqb (le1 l p) 0 || ltb n 4294967296) (eight_same (p + 1) (j + 1) (omega arith))
      ∙ field_clear l (p + 1) 8 (eqb (le1 l p) 0 || ltb (le8 l (p + 1)) 4294967296) at_value)
      at_value)

  -- ---- sections

  children_same : (k : Kind) (p j : ℕ) → p ≡ b + j → children_at k behind j ≡ children_at k l p
  children_same Instructions p j e = four_same (p + 27) (j + 27) (omega arith)
  children_same Cases p j e = refl
  children_same Sources p j e = four_same (p + 8) (j + 8) (omega arith)
  children_same Edges p j e = refl
  children_same Handlers p j e = refl
  children_same Routes p j e = four_same (p + 16) (j + 16) (omega arith)
  children_same Paths p j e = four_same (p + 9) (j + 9) (omega arith)
  children_same Steps p j e = refl

  in_same : (k : Kind) (p j n : ℕ) → p ≡ b + j → children_in k behind j n ≡ children_in k l p n
  unfolding children_in
  in_same k p j zero e = refl
  in_same k p j (suc n) e = λ i. ◌+◌ (in_same k p j n e i) (children_same k (p + width_of k * n) (j + width_of k * n) (omega arith) i)

  module _ (k : Kind) (p j : ℕ) (e : p ≡ b + j) where
    abbrev count : ℕ
    count = min (le4 l p) (limit_of k)

    count_same : min (le4 behind j) (limit_of k) ≡ count
    count_same = ap (λ (n : ℕ). min n (limit_of k)) (four_same p j e)

    end_same : end_of (section_at k l p) ≡ b + end_of (section_at k behind j)
    end_same = rw count_same (omega (arith, e))

    of_same : children_of k behind (section_at k behind j) ≡ children_of k l (section_at k l p)
    of_same = rw count_same (in_same k (p + 4) (j + 4) count (omega arith))

    pub section_shift : Shifts k → (used : Bool) (sum sum' : Option ℕ) → sum' ≡ sum → section_form k l p used sum ≡ clear → section_form k behind j true sum' ≡ clear
    section_shift shifts used sum sum' same h =
        let counted = then_left (count_form k l p used sum) (records_form k l (p + 4) count) h in
        let first = used4 l p used in
        let limit = unless (leb (le4 l p) (limit_of k)) (refusal 2 p 0) in
        let two = then_left (first then limit) (bad p (adds sum (le4 l p))) counted in
        let added = unless_clear (adds sum (le4 l p)) (refusal 1 p 0) (then_right (first then limit) (bad p (adds sum (le4 l p))) counted) in
        let records = then_right (count_form k l p used sum) (records_form k l (p + 4) count) h in
        then_both _ _
        (then_both _ _
        (then_both _ _
        (field_shift p j 4 e _ _ refl (then_left first limit two))
        (rw (four_same p j e, le-leb (le4 l p) (limit_of k) (count-within k l p used sum counted))))
        (rw (same, four_same p j e, added)))
        (rw count_same
        (all_clear (record_form k behind (j + 4)) count
        (λ i lt. shifts (p + 4 + width_of k * i) (j + 4 + width_of k * i) (eqb i 0) (omega (arith, e)) (checks_each (record_form k l (p + 4)) count i records lt))))

    records-same : {A : Type 0} (from : List ℕ → ℕ → A) → ((q i : ℕ) → q ≡ b + i → from behind i ≡ from l q) → records_in from behind (section_at k behind j) ≡ records_in from l (section_at k l p)
    unfolding records_in
    records-same from same =
        ap (table (λ (i : ℕ). from behind (j + 4 + width_of k * i))) count_same
        ∙ table_same (λ (i : ℕ). from behind (j + 4 + width_of k * i)) (λ (i : ℕ). from l (p + 4 + width_of k * i)) count (λ i lt. same (p + 4 + width_of k * i) (j + 4 + width_of k * i) (omega (arith, e)))

  -- ---- the three sections

  abbrev start : b ≡ b + 0
  start = omega arith

  -- where the paths and the steps stand, in all bytes and in those behind
  abbrev paths_at_law : ℕ
  paths_at_law = end_of (section_at Routes l b)

  abbrev paths_in : ℕ
  paths_in = end_of (section_at Routes behind 0)

  abbrev steps_at : ℕ
  steps_at = end_of (section_at Paths l paths_at_law)

  abbrev steps_in_law : ℕ
  steps_in_law = end_of (section_at Paths behind paths_in)

  paths_there : paths_at_law ≡ b + paths_in
  paths_there = end_same Routes b 0 start

  steps_there : steps_at ≡ b + steps_in_law
  steps_there = end_same Paths paths_at_law paths_in paths_there

  pub routes_shift : (used : Bool) → routes_form l b used ≡ clear → routes_form behind 0 true ≡ clear
  unfolding routes_form
  routes_shift used h =
      let routes = section_form Routes l b used None in
      let paths = section_form Paths l paths_at_law used (Some (children_of Routes l (section_at Routes l b))) in
      let steps = section_form Steps l steps_at used (Some (children_of Paths l (section_at Paths l paths_at_law))) in
      let pair = then_left (routes then paths) steps h in
      then_both _ _
      (then_both _ _
      (section_shift Routes b 0 start route_shift used None None refl (then_left routes paths pair))
      (section_shift Paths paths_at_law paths_in paths_there path_shift used _ _ (ap Some (of_same Routes b 0 start)) (then_right routes paths pair)))
      (section_shift Steps steps_at steps_in_law steps_there step_shift used _ _ (ap Some (of_same Paths paths_at_law paths_in paths_there)) (then_right (routes then paths) steps h))

  pub layout_same : routes_in behind (route_layout_at behind 0) ≡ routes_in l (route_layout_at l b)
  unfolding route_layout_at
  layout_same =
      λ i.
      record {
        routes = records-same Routes b 0 start route_from (λ q i e t. record { start = eight_same q i e t; end = eight_same (q + 8) (i + 8) (omega arith) t; paths = four_same (q + 16) (i + 16) (omega arith) t }) i;
        paths = records-same Paths paths_at_law paths_in paths_there path_from (λ q i e t. record { end = byte-same q i e t; handler = eight_same (q + 1) (i + 1) (omega arith) t; steps = four_same (q + 9) (i + 9) (omega arith) t }) i;
        steps = records-same Steps steps_at steps_in_law steps_there step_from (λ q i e t. record { code = byte-same q i e t; value = eight_same (q + 1) (i + 1) (omega arith) t }) i;
      }

  last_in : end_of (route_layout_at l b).steps ≡ b + end_of (route_layout_at behind 0).steps
  unfolding route_layout_at
  last_in = end_same Steps steps_at steps_in_law steps_there

  pub alone : (used : Bool) → (routes_form l b used then end_form l (end_of (route_layout_at l b).steps)) ≡ clear → read_routes behind ≡ read (routes_in l (route_layout_at l b))
  unfolding read_routes
  alone used h =
      let end = end_of (route_layout_at l b).steps in
      let routes = routes_shift used (then_left (routes_form l b used) (end_form l end) h) in
      let all = leb-true (length l) end (unless_clear (leb (length l) end) (refusal 1 end 0) (then_right (routes_form l b used) (end_form l end) h)) in
      let none : end_form behind (end_of (route_layout_at behind 0).steps) ≡ clear = rw (le-leb (length behind) (end_of (route_layout_at behind 0).steps) (omega (arith, all, last_in, length-drop b l))) in
      rw (routes, none) (ap read layout_same)

-- ---- of an image

read_is : {A : Type 0} (c : Check) (x y : A) → reading c x ≡ read y → (c ≡ clear) × (x ≡ y)
read_is clear x y h = (refl, cc)
read_is (refused r) x y h = absurd (let z : ◌≡◌ {A = ℕ} 0 1 = cc in omega arith)

pub routes_alone : (l : List ℕ) (m : Image) → read_image l ≡ read m → read_routes (route_bytes l) ≡ read m.routes
unfolding read_image image_form layout_of route_bytes
routes_alone l m h =
    let found = read_is (image_form l) (image_in l (layout_of l)) m h in
    let b = end_of (code_layout_of l).handlers in
    let used = not (eqb (le1 l 1) 0) in
    let code = header_form l then code_form l (eqb (le1 l 1) 2) in
    let routes = routes_form l b used in
    let end = end_form l (end_of (route_layout_at l b).steps) in
    let front = then_left (code then routes) end found.0 in
    alone l b used (then_both routes end (then_right code routes front) (then_right (code then routes) end found.0))
    ∙ ap (λ (x : Image). read x.routes) found.1
