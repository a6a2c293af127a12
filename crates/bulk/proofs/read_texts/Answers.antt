-- `bulk::read_texts` meets its contract: the first 2 i words are the places and lengths of what i draws gave, and c is the place that they left.
use Prim.Native.Nat.{ℕ, ◌+◌, ◌-◌, ◌*◌, ◌/◌, ◌≤◌}
use mathlib.Core.Path.{◌≡◌, refl, sym, ap, ◌∙◌}
use mathlib.Core.List.{◌∷◌, [], ◌++◌}
use native.Mathlib.Numerals.{add-one}
use native.Mathlib.Omega.{arith}
use lib.Dec.{eqb}
use lib.ListN.{length, take, replicate}
use Rattle.numbers.specs.declared.Refusal.{Refusal}
use Rattle.numbers.specs.Number.{pick, none}
use Rattle.text.specs.declared.Part.{Part}
use Rattle.string.specs.declared.Place.{Place}
use Rattle.string.specs.declared.Answer.{Answer}
use Rattle.string.specs.declared.Answer.TheVariants.{Next, Bad}
use Rattle.string.specs.String.{next_text}
use Rattle.string.specs.StringInner.{why_text}
use Rattle.bulk.specs.declared.TextsRead.{TextsRead}
use Rattle.bulk.specs.Bulk.{drew, stop, text_draw, part_words}
use Rattle.bulk.specs.Promises.{texts_answer}
use Rattle.bulk.proofs.Drawing.{read-begin, read-on, read-stop, read-end, end-answer, end-words, none-either, parts-on}
use Rattle.bulk.proofs.read_texts.Goals as goal
use Rattle.bulk.proofs.read_texts.Goals.{In-loop-i}

-- there is room for two words more
room : (c : In-loop-i) → 2 * c.loop-i.i + 2 ≤ length c.loop-i.out
room c = omega (arith, c.loop-i.invariant.size, c.loop-i-test.true)

abbrev make : Refusal → ℕ → Place → TextsRead
make w k d = record { refusal = w; count = k; place = d }

refused : (r : Answer) (w : Refusal) → r ≡ Bad w → text_draw r ≡ stop (why_text r)
unfolding text_draw
refused r w e = rw e

drawn : (r : Answer) (v : Part) (d : Place) → r ≡ Next v d → text_draw r ≡ drew v d
unfolding text_draw
drawn r v d e = rw e

pub loop-i-init : goal.loop-i-init
unfolding part_words
loop-i-init c = let a = c.args in read-begin (λ d. text_draw (next_text a.column.now d)) part_words _ a.place a.out.now refl

pub returns-in_default : goal.returns-in_default
unfolding texts_answer
returns-in_default c = let n = c in
    let h = c.loop-i.invariant in
    let e = read-stop h _ (ap text_draw (sym n.next_text-r.ensures) ∙ refused _ _ c.in_default.is) n.loop-i-test.true in (
      ap (λ (w : Refusal). make w c.loop-i.i c.loop-i.c) (c.told-refusal.ensures ∙ ap (λ (w : Refusal). pick (eqb c.loop-i.i 0) w none) c.why-why.ensures) ∙ end-answer h _ e make,
      c.clear.ensures ∙ end-words h _ e,
    )

pub loop-i-preserved : goal.loop-i-preserved
loop-i-preserved c = let n = c in
    let p = c.in-Next.p in
    let two : 2 * (c.loop-i.i + 1) ≡ 2 * c.loop-i.i + 2 = omega arith in
    rw two (rw add-one (read-on c.loop-i.invariant p c.in-Next.d (p.place ∷ (p.bytes.0 ∷ [])) (parts-on p) (ap text_draw (sym n.next_text-r.ensures) ∙ drawn _ _ _ c.in-Next.is) n.loop-i-test.true (omega (arith, room (goal.at.loop-i-preserved c).In-loop-i, c.loop-i.invariant.size))))

pub returns : goal.returns
unfolding texts_answer
returns c = let h = c.loop-i.invariant in
    let e = read-end h (omega arith) in
    let full : length c.args.out.now / 2 ≡ c.loop-i.i = omega (arith, h.room, c.loop-i-test.false) in (
      ap (λ (k : ℕ). make none k c.loop-i.c) full ∙ ap (λ (w : Refusal). make w c.loop-i.i c.loop-i.c) (sym (none-either (eqb c.loop-i.i 0))) ∙ end-answer h _ e make,
      c.clear-2.ensures ∙ ap (λ (k : ℕ). take (2 * k) c.loop-i.out ++ replicate (length c.loop-i.out - 2 * k) 0) full ∙ end-words h _ e,
    )
