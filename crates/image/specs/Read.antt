-- The reading of an image: its sections in file order, refused where the first of them is bad (1, 2), and else its layout.
use Rattle.std.specs.Prelude.{Bool, true, not, Option, None, Some, List, ℕ, zero, suc, ◌+◌, ◌*◌, min, eqb, leb, length}
use Rattle.image.specs.Little.{le4}
use Rattle.image.specs.Record.{header_from}
use Rattle.image.specs.Refusal.{Refusal, refusal, Check, clear, refused, ◌then◌, unless, checks}
use Rattle.image.specs.Form.{bad, used4, header_form, form_of}
use Rattle.image.specs.Image.{Image, RouteImage, place_in, image_in, routes_in}
use Rattle.image.specs.Kind.{Kind, Instructions, Cases, Sources, Edges, Handlers, Routes, Paths, Steps}
use Rattle.image.specs.declared.section.Section.{Section}
use Rattle.image.specs.declared.section.RouteLayout.{RouteLayout}
use Rattle.image.specs.declared.section.CodeLayout.{CodeLayout}
use Rattle.image.specs.declared.section.Layout.{Layout}

-- the bytes of a record, and '(limit in brackets ..)'
abbrev pub width_of : Kind → ℕ
width_of Instructions = 31
width_of Cases = 12
width_of Sources = 12
width_of Edges = 13
width_of Handlers = 29
width_of Routes = 20
width_of Paths = 13
width_of Steps = 9

abbrev pub limit_of : Kind → ℕ
limit_of Instructions = 512
limit_of Cases = 512
limit_of Sources = 512
limit_of Edges = 512
limit_of Handlers = 32
limit_of Routes = 32
limit_of Paths = 128
limit_of Steps = 512

-- how many children the record at a place has: cases, given edges, paths, steps
abbrev pub children_at : Kind → List ℕ → ℕ → ℕ
children_at Instructions l at = le4 l (at + 27)
children_at Cases l at = 0
children_at Sources l at = le4 l (at + 8)
children_at Edges l at = 0
children_at Handlers l at = 0
children_at Routes l at = le4 l (at + 16)
children_at Paths l at = le4 l (at + 9)
children_at Steps l at = 0

-- the records from `base` on, of which there are n: their form, and their children in all ('sums', exact)
abbrev pub record_form : Kind → List ℕ → ℕ → ℕ → Check
record_form k l base i = form_of k l (base + width_of k * i) (eqb i 0)

abbrev pub records_form : Kind → List ℕ → ℕ → ℕ → Check
records_form k l base n = checks (record_form k l base) n

unfoldable pub children_in : Kind → List ℕ → ℕ → ℕ → ℕ
children_in k l base zero = 0
children_in k l base (suc n) = children_in k l base n + children_at k l (base + width_of k * n)

-- 'each after its 4-byte count'. No more records than the limit are looked at, whatever the count says.
abbrev pub section_at : Kind → List ℕ → ℕ → Section
section_at k l at = record { at = at + 4; width = width_of k; count = min (le4 l at) (limit_of k) }

abbrev pub end_of : Section → ℕ
end_of s = place_in s s.count

abbrev pub children_of : Kind → List ℕ → Section → ℕ
children_of k l s = children_in k l s.at s.count

-- 'child counts that do not add up to the child section's count'
abbrev pub adds : Option ℕ → ℕ → Bool
adds None n = true
adds (Some sum) n = eqb sum n

-- 'at one field 1 for an unused section, then 2, then sums'; then the records
abbrev pub count_form : Kind → List ℕ → ℕ → Bool → Option ℕ → Check
count_form k l at used sum =
    used4 l at used
    then unless (leb (le4 l at) (limit_of k)) (refusal 2 at 0)
    then bad at (adds sum (le4 l at))

abbrev pub section_form : Kind → List ℕ → ℕ → Bool → Option ℕ → Check
section_form k l at used sum = count_form k l at used sum then records_form k l (at + 4) (min (le4 l at) (limit_of k))

-- 'too many (first extra)'
abbrev pub end_form : List ℕ → ℕ → Check
end_form l at = bad at (leb (length l) at)

-- a section and, behind it, that of its children
abbrev pub pair_form : Kind → Kind → List ℕ → ℕ → Bool → Check
pair_form parent child l at used =
    let y = section_at parent l at in
    section_form parent l at used None then section_form child l (end_of y) used (Some (children_of parent l y))

-- the three sections of routes from a place on
unfoldable pub route_layout_at : List ℕ → ℕ → RouteLayout
route_layout_at l at =
    let r = section_at Routes l at in
    let p = section_at Paths l (end_of r) in
    record { routes = r; paths = p; steps = section_at Steps l (end_of p) }

unfoldable pub routes_form : List ℕ → ℕ → Bool → Check
routes_form l at used =
    let p = section_at Paths l (end_of (section_at Routes l at)) in
    pair_form Routes Paths l at used then section_form Steps l (end_of p) used (Some (children_of Paths l p))

-- the five sections before them, of which the given ones may be left at 0
unfoldable pub code_layout_of : List ℕ → CodeLayout
code_layout_of l =
    let i = section_at Instructions l 12 in
    let c = section_at Cases l (end_of i) in
    let s = section_at Sources l (end_of c) in
    let e = section_at Edges l (end_of s) in
    record { instructions = i; cases = c; sources = s; edges = e; handlers = section_at Handlers l (end_of e) }

unfoldable pub code_form : List ℕ → Bool → Check
code_form l given =
    let y = code_layout_of l in
    pair_form Instructions Cases l 12 true
    then pair_form Sources Edges l (end_of y.cases) given
    then section_form Handlers l (end_of y.edges) true None

-- 'Mode 0 leaves the given and route sections at 0, mode 1 the given ones.'
unfoldable pub layout_of : List ℕ → Layout
layout_of l =
    let c = code_layout_of l in
    record { header = header_from l; code = c; routes = route_layout_at l (end_of c.handlers) }

unfoldable pub image_form : List ℕ → Check
image_form l =
    let y = layout_of l in
    let mode = y.header.mode in
    header_form l
    then code_form l (eqb mode 2)
    then routes_form l (end_of y.code.handlers) (not (eqb mode 0))
    then end_form l (end_of y.routes.steps)

-- A reading: what was read, or the refusal.
pub data Reading (A : Type 0) : Type 0 where
  read : A → Reading A
  refusing : Refusal → Reading A

abbrev pub reading : {A : Type 0} → Check → A → Reading A
reading clear a = read a
reading (refused r) a = refusing r

-- THE READING OF AN IMAGE, and of 'Routes for a later call'
unfoldable pub read_image : List ℕ → Reading Image
read_image l = reading (image_form l) (image_in l (layout_of l))

unfoldable pub read_routes : List ℕ → Reading RouteImage
read_routes l =
    let y = route_layout_at l 0 in
    reading (routes_form l 0 true then end_form l (end_of y.steps)) (routes_in l y)
