-- `bulk::read_bytes` meets its contract: the words before i are what i draws gave, and c is the place that they left.
use Prim.Native.Nat.{ℕ}
use mathlib.Core.Path.{◌≡◌, refl, sym, ap, ◌∙◌}
use mathlib.Core.List.{◌∷◌, []}
use native.Mathlib.Omega.{arith}
use lib.Dec.{eqb}
use lib.ListN.{length}
use Rattle.numbers.specs.declared.Refusal.{Refusal}
use Rattle.numbers.specs.Number.{pick, none}
use Rattle.columns.specs.declared.byte.Place.{Place}
use Rattle.columns.specs.declared.byte.Answer.{Answer}
use Rattle.columns.specs.declared.byte.Answer.TheVariants.{Next, Bad}
use Rattle.columns.specs.ByteInner.{why_byte}
use Rattle.bulk.specs.declared.BytesRead.{BytesRead}
use Rattle.bulk.specs.Bulk.{drew, stop, byte_draw}
use Rattle.bulk.specs.Promises.{bytes_answer}
use Rattle.bulk.proofs.Drawing.{read-on, read-stop, read-end, end-answer, end-words, end-full, none-either}
use Rattle.bulk.proofs.read_bytes.Goals as goal

abbrev make : Refusal → ℕ → Place → BytesRead
make w k d = record { refusal = w; count = k; place = d }

refused : (r : Answer) (w : Refusal) → r ≡ Bad w → byte_draw r ≡ stop (why_byte r)
unfolding byte_draw
refused r w e = rw e

drawn : (r : Answer) (v : ℕ) (d : Place) → r ≡ Next v d → byte_draw r ≡ drew v d
unfolding byte_draw
drawn r v d e = rw e

pub returns-in_default : goal.returns-in_default
unfolding bytes_answer
returns-in_default c = let n = c in
    let e = read-stop c.loop-i.invariant _ (ap byte_draw (sym n.next_byte-r.ensures) ∙ refused _ _ c.in_default.is) (omega (arith, c.loop-i.invariant.size, n.loop-i-test.true)) in (
      ap (λ (w : Refusal). make w c.loop-i.i c.loop-i.c) (c.told-refusal.ensures ∙ ap (λ (w : Refusal). pick (eqb c.loop-i.i 0) w none) c.why-why.ensures) ∙ end-answer c.loop-i.invariant _ e make,
      c.clear.ensures ∙ end-words c.loop-i.invariant _ e,
    )

pub loop-i-preserved : goal.loop-i-preserved
loop-i-preserved c = let n = c in
    read-on c.loop-i.invariant c.in-Next.v c.in-Next.d (c.in-Next.v ∷ []) (λ vs. refl) (ap byte_draw (sym n.next_byte-r.ensures) ∙ drawn _ _ _ c.in-Next.is) (omega (arith, c.loop-i.invariant.size)) (omega (arith, c.loop-i.invariant.size))

pub returns : goal.returns
unfolding bytes_answer
returns c = let e = read-end c.loop-i.invariant (omega (arith, c.loop-i.invariant.size)) in
    let full : length c.loop-i.out ≡ c.loop-i.i = omega (arith, c.loop-i.invariant.size, c.loop-i.invariant.fits, c.loop-i-test.false) in
    (ap (λ (k : ℕ). make none k c.loop-i.c) full ∙ ap (λ (w : Refusal). make w c.loop-i.i c.loop-i.c) (sym (none-either (eqb c.loop-i.i 0))) ∙ end-answer c.loop-i.invariant _ e make, end-full c.loop-i.invariant _ e (omega (arith, c.loop-i.invariant.size, c.loop-i.invariant.fits)))
