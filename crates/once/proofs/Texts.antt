-- The laws of texts written in one pass: a text's bytes behind its length, texts taken one after the other, and the writer's refusals in their order.
use Prim.Native.Nat.{ℕ, suc, ◌+◌, ◌-◌, ◌≤◌, ◌<◌}
use mathlib.Core.Path.{◌≡◌, refl, sym, ap, ◌∙◌}
use mathlib.Core.List.{List, [], ◌++◌}
use mathlib.Core.Bool.{Bool, true, false}
use mathlib.Core.Logic.{◌⊎◌, inl, inr, ⊎_elim}
use native.Mathlib.Nat.{zero-add}
use native.Mathlib.Numerals.{add-one}
use native.Mathlib.Omega.{arith}
use lib.Dec.{eqb}
use lib.ListN.{length, take, drop, get_or, set, length-append, length-drop, drop_of_length-le}
use lib.Seq.{sets, length-sets, take-suc, drop-cons, drop-drop, length-take-le}
use borrow.Author.Tests.{eqb-true}
use borrow.Rule.Slice.PartMut.{put_mid, Post-is}
use Rattle.std.proofs.Common.{append_assoc}
use Rattle.std.proofs.lemmas.List.Edits.{sets-eq}
use Rattle.numbers.specs.Number.{pick, unsigned}
use Rattle.numbers.specs.Output.{padded, written, put}
use Rattle.numbers.specs.OutputInner.{refusal}
use Rattle.numbers.proofs.Laws.{below_or}
use Rattle.numbers.proofs.Output.{sets-append, take-sets}
use Rattle.text.specs.declared.Taken.{Taken}
use Rattle.text.specs.declared.Taken.TheVariants as units
use Rattle.text.specs.Utf8.{well_formed, take_units}
use Rattle.text.proofs.Cutting.{cut}
use Rattle.runs.specs.declared.ColumnKind.TheVariants.{Number}
use Rattle.runs.specs.declared.writer.Writer.{Writer}
use Rattle.runs.specs.Runs.{column_of, why_of}
use Rattle.runs.specs.Writer.{last_fits_in, sentence}
use Rattle.string.specs.String.{takes_more, takes_all, text_head, text_column, why_texts}
use Rattle.once.specs.declared.Taking.{Taking}
use Rattle.once.specs.Once.{PutAt, judged_so}
use Rattle.once.specs.Texts.{took_text, take_next}
use Rattle.once.proofs.Laws.{went-in, went-past, out-in, out-past, refused-by}

-- ---- taking all

-- the loop that takes them: what is to be taken from here on, and what is still to be checked
pub record TakenTo (s us : List ℕ) (i : ℕ) (t : Taking) : Type 0 where
  pub same : pick t.found (takes_all (drop t.at s) (drop i us)) false ≡ takes_all s us
  pub rest : well_formed (drop t.at s) ≡ well_formed s
  pub room : t.at ≤ length s

pub taking-begin : (s us : List ℕ) → TakenTo s us 0 (record { at = 0; found = true })
taking-begin s us = record { same = refl; rest = refl; room = omega arith }

module _ (s us : List ℕ) (i : ℕ) (t : Taking) (h : TakenTo s us i t) where
  pub taking-on : i < length us → TakenTo s us (i + 1) (take_next s t (get_or us i 0))
  unfolding take_next took_text takes_all takes_more
  taking-on l = go t.found refl
    where
      more : t.found ≡ true → takes_more (take_units 7 (get_or us i 0) (drop t.at s)) (λ k. takes_all (drop k (drop t.at s)) (drop (suc i) us)) ≡ takes_all s us
      more f = ap (takes_all (drop t.at s)) (sym (drop-cons us i 0 l)) ∙ rw f at h.same

      taken : (r : Taken) → take_units 7 (get_or us i 0) (drop t.at s) ≡ r → takes_more r (λ k. takes_all (drop k (drop t.at s)) (drop (suc i) us)) ≡ takes_all s us → TakenTo s us (i + 1) (took_text t r)
      taken (units.Took b) e p =
          let c = cut 7 (get_or us i 0) b.0 (drop t.at s) e in
          record {
            same = rw (add-one, ← drop-drop b.0 t.at s) p;
            rest = rw (← drop-drop b.0 t.at s) (c.back ∙ h.rest);
            room = omega (arith, c.within, length-drop t.at s, h.room);
          }
      taken (units.Refused w) e p = record { same = p; rest = h.rest; room = h.room }

      go : (b : Bool) → t.found ≡ b → TakenTo s us (i + 1) (pick b (took_text t (take_units 7 (get_or us i 0) (drop t.at s))) t)
      go true f = taken (take_units 7 (get_or us i 0) (drop t.at s)) refl (more f)
      go false f = record { same = rw f (rw f at h.same); rest = h.rest; room = h.room }

  pub taking-over : length us ≤ i → takes_all s us ≡ t.found
  unfolding takes_all
  taking-over l = sym h.same ∙ rw (drop_of_length-le us l) (found t.found)
    where
      found : (b : Bool) → pick b true false ≡ b
      found true = refl
      found false = refl

-- ---- the text's bytes behind its length

-- one more
pub bytes_on : (e t : List ℕ) (at i : ℕ) → i < length t → set (sets e at (take i t)) (at + i) (get_or t i 0) ≡ sets e at (take (i + 1) t)
bytes_on e t at i l = rw (add-one, take-suc t i 0 l, sets-append, length-take-le i t (omega arith))

-- a part that was written, as stores
pub put-sets : (out : List ℕ) (at end : ℕ) (b p : List ℕ) → p ≡ b → end ≡ at + length b → end ≤ length out → put_mid at (end - at) out p ≡ sets out at b
put-sets out at end b p e m l =
    rw (Post-is at end out (omega arith), e, m) (sym (append_assoc (take at out) b (drop (at + length b) out)) ∙ sym (sets-eq b out at (omega arith)))

pub head-length : (t : List ℕ) → length (text_head t) ≡ length (unsigned (length t)) + length t
unfolding text_head
head-length t = length-append (unsigned (length t)) t

pub head_bytes : (e t : List ℕ) → sets (sets e 0 (unsigned (length t))) (0 + length (unsigned (length t))) t ≡ sets e 0 (text_head t)
unfolding text_head
head_bytes e t = sym (sets-append (unsigned (length t)) t e 0)

pub head-front : (e t : List ℕ) → length (text_head t) ≤ length e → take (length (text_head t)) (sets e 0 (text_head t)) ≡ text_head t
head-front e t h = rw zero-add at (take-sets e (text_head t) 0 (omega arith))

-- ---- the head put where room may be short, and the column behind it

module _ (e t : List ℕ) (a : ℕ) (out : List ℕ) (p : PutAt e 0 (text_head t) a out) where
  abbrev n : ℕ
  n = length (text_head t)

  -- it is there, or there is no room for it
  Headed : Type 0
  Headed = ((a ≡ n) × (out ≡ sets e 0 (text_head t)) × (n ≤ length e)) ⊎ ((a ≡ length e + 1) × (out ≡ e) × (length e < n))

  headed : Headed
  unfolding Headed
  headed = ⊎_elim
      (λ h. inr (p.0 ∙ went-past (length e) 0 (text_head t) (omega arith), p.1 ∙ out-past e 0 (text_head t) (omega arith), h))
      (λ h. inl (p.0 ∙ went-in (length e) 0 (text_head t) (omega arith) ∙ zero-add n, p.1 ∙ out-in e 0 (text_head t) (omega arith), h))
      (below_or (length e) n)

  pub head-size : length out ≡ length e
  unfolding Headed
  head-size = ⊎_elim (λ h. ap length h.1 ∙ length-sets e 0 (text_head t)) (λ h. ap length h.1) headed

  pub head_near : a ≤ length out + 1
  unfolding Headed
  head_near = ⊎_elim (λ h. omega (arith, h.0, h.2, head-size)) (λ h. omega (arith, h.0, head-size)) headed

  module _ (us : List ℕ) where
    pub head-whole : a ≤ length out → take a out ++ column_of Number us ≡ text_column t us
    unfolding Headed text_column
    head-whole l = ⊎_elim
        (λ h. let f : take a out ≡ text_head t = rw (h.0, h.1) (head-front e t h.2) in ap (λ (x : List ℕ). x ++ column_of Number us) f)
        (λ h. absurd (omega (arith, h.0, head-size)))
        headed

    pub head-long : length out < a + length (column_of Number us) → length out < length (text_column t us)
    unfolding Headed text_column
    head-long l = ⊎_elim
        (λ h. omega (arith, h.0, length-append (text_head t) (column_of Number us)))
        (λ h. omega (arith, h.2, head-size, length-append (text_head t) (column_of Number us)))
        headed

-- ---- the refusals, in their order

module _ (t us : List ℕ) where
  -- a unit length over its limit, or a run that cannot be stored
  over-why : why_of Number us ≡ 3 → pick (well_formed t) 3 6 ≡ why_texts t us
  unfolding why_texts
  over-why e = rw e

  over-some : (b : Bool) → (◌≡◌ {A = ℕ} (pick b 3 6) 0 → ⊥)
  over-some true z = omega arith
  over-some false z = omega arith

  pub refuse-over : (m number : ℕ) → why_of Number us ≡ 3 → number ≡ pick (well_formed t) 3 6
      → (refusal number ≡ written (why_texts t us) m (text_column t us)) × (padded m [] ≡ put (why_texts t us) m (text_column t us))
  refuse-over m number y e = refused-by (why_texts t us) m (text_column t us) number (sym (over-why y) ∙ sym e) (λ z. over-some (well_formed t) (sym e ∙ z))

  -- what the end of the loop tells is the writer's refusal
  pub end-why : (w : Writer) (found : Bool) → sentence (judged_so w false) ≡ why_of Number us → takes_all t us ≡ found
      → pick (well_formed t) (pick (last_fits_in w) (pick found 0 7) 3) 6 ≡ why_texts t us
  unfolding why_texts sentence
  end-why w found s f = rw (← s, f) (go (well_formed t) (last_fits_in w))
    where
      go : (a l : Bool) → ◌≡◌ {A = ℕ} (pick a (pick l (pick found 0 7) 3) 6) (pick a (pick (eqb (pick l 0 3) 0) (pick found 0 7) 3) 6)
      go true true = refl
      go true false = refl
      go false l = refl

  pub why-units : why_texts t us ≡ 0 → why_of Number us ≡ 0
  unfolding why_texts
  why-units h = go (well_formed t) (eqb (why_of Number us) 0) (takes_all t us) refl h
    where
      go : (a b c : Bool) → eqb (why_of Number us) 0 ≡ b → ◌≡◌ {A = ℕ} (pick a (pick b (pick c 0 7) 3) 6) 0 → why_of Number us ≡ 0
      go true true c e z = eqb-true (why_of Number us) 0 e
      go true false c e z = absurd (omega arith)
      go false b c e z = absurd (omega arith)
