-- Bytes put into a buffer one behind the other.
--     sets_append     a run of stores in two
--     copied          a run of stores by one copy
--     _then_          what is put behind what was put
--     puts_length     the buffer keeps its length
--     told            a line that was put from the start on
--     line-fields     what a line began with, its fields, the newline
--     fields-more     a field behind the others
--     field_put       one field more of those that stand in a list
--     whole           a line that was put as its word, its fields and the newline
-- Assumes nothing.
use mathlib.Core.Path.{◌≡◌, refl, sym, ap, ◌∙◌}
use mathlib.Core.List.{List, [], ◌∷◌, ◌++◌, append-nil, append_assoc}
use Prim.Native.Nat.{ℕ, suc, ◌+◌, ◌-◌, ◌≤◌, ◌<◌}
use native.Mathlib.Nat.{add-zero}
use native.Mathlib.Omega.{arith}
use borrow.Rule.Slice.PartMut.{put_mid}
use lib.ListN.{length, get_or, take, drop, set, length-append}
use lib.Seq.{sets, length-sets, sets-eq, drop-drop}
use Rattle.std.proofs.lemmas.List.{take_more}
use Rattle.text.specs.declared.field.Field.{Field}
use Rattle.text.specs.Line.{field, fields, line}
use Rattle.text.specs.Put.{Puts, Told}
use Rattle.text.proofs.DecimalLaws.{decimal-word}

pub sets_append : (w v l : List ℕ) (i : ℕ) → sets l i (w ++ v) ≡ sets (sets l i w) (i + length w) v
sets_append [] v l i = rw add-zero
sets_append (a ∷ w) v l i = sets_append w v (set l i a) (suc i) ∙ ap (λ (k : ℕ). sets (sets (set l i a) (suc i) w) k v) (omega arith)

-- a run of stores by one copy
pub copied : (w v l : List ℕ) (i : ℕ) → i + length w ≤ length l → v ≡ w → Puts w l i (put_mid i (i + length w - i) l v) (i + length w)
copied w v l i h e =
    let all : i + length w - i ≡ length w = omega arith in
    record { stored = rw (all, e, drop-drop) (sym (sets-eq w l i h ∙ append_assoc (take i l) w (drop (i + length w) l))); next = refl }

infixl 20 ◌then◌
pub ◌then◌ : {w v l l' l'' : List ℕ} {n n' n'' : ℕ} → Puts w l n l' n' → Puts v l' n' l'' n'' → Puts (w ++ v) l n l'' n''
◌then◌ {w} {v} {l} {n = n} p q =
    record {
      stored = q.stored ∙ rw (p.stored, p.next) (sym (sets_append w v l n));
      next = simp length-append (omega (arith, p.next, q.next));
    }

pub puts_length : {w l l' : List ℕ} {n n' : ℕ} → Puts w l n l' n' → length l' ≡ length l
puts_length {w} {l} {n = n} p = ap length p.stored ∙ length-sets l n w

pub told : {w l l' : List ℕ} {n : ℕ} → Puts w l 0 l' n → n ≤ length l' → Told w l l' n
told {w} {l} {l'} {n} p h =
    let e : n ≡ length w = omega (arith, p.next) in
    let same = puts_length p in
    record {
      bytes = p.stored ∙ sets-eq w l 0 (omega arith) ∙ ap (λ (k : ℕ). w ++ drop k l) (sym p.next);
      count = e;
      fits = h;
    }

pub line-fields : (begun : List ℕ) (fs : List Field) → line begun fs ≡ begun ++ fields fs ++ (10 ∷ [])
unfolding line fields
line-fields begun [] = ap (λ (l : List ℕ). l ++ (10 ∷ [])) (sym (append-nil begun))
line-fields begun (f ∷ fs) = line-fields (begun ++ field f) fs ∙ ap (λ (l : List ℕ). l ++ (10 ∷ [])) (append_assoc begun (field f) (fields fs))

pub fields-more : (fs : List Field) (f : Field) → fields (fs ++ (f ∷ [])) ≡ fields fs ++ field f
unfolding fields
fields-more [] f = append-nil (field f)
fields-more (x ∷ fs) f = ap (λ (l : List ℕ). field x ++ l) (fields-more fs f) ∙ sym (append_assoc (field x) (fields fs) (field f))

-- one field more of those that stand in a list
pub field_put : (fs : List Field) (d : Field) (i : ℕ) {l a b : List ℕ} {m j k : ℕ} → i < length fs →
    Puts (fields (take i fs)) l m a j → Puts (field (get_or fs i d)) a j b k → Puts (fields (take (i + 1) fs)) l m b k
field_put fs d i h p q = rw (take_more fs i d h, fields-more) (p then q)

pub whole : (w : List ℕ) (fs : List Field) {l a b c : List ℕ} {i j k : ℕ} →
    Puts w l 0 a i → Puts (fields fs) a i b j → Puts (10 ∷ []) b j c k → k ≤ length c → Told (line w fs) l c k
whole w fs p q r h = rw (line-fields w fs) (told (p then q then r) h)

pub ruleset puts = (◌then◌, decimal-word)
