-- `cut_text` meets its contract: what was taken is UTF-8, so what follows it is exactly if the whole is.
use native.Mathlib.Omega.{arith}
use mathlib.Core.Path.{◌≡◌, sym, ap, ◌∙◌}
use mathlib.Core.Bool.{true, false}
use Prim.Native.Nat.{ℕ}
use mathlib.Core.List.{List}
use lib.ListN.{length}
use Rattle.std.proofs.Math.Seq.{slice}
use Rattle.text.specs.declared.Bytes.{Bytes}
use Rattle.text.specs.declared.Taken.{Taken}
use Rattle.text.specs.declared.Taken.TheVariants as taken
use Rattle.text.specs.Utf8.{well_formed, take_units}
use Rattle.text.proofs.Cutting.{Cut, cut}
use Rattle.wairokabi.specs.Promises.{cut_answer}
use Rattle.wairokabi.proofs.Laws.{slice-whole, slice-from}
use Rattle.wairokabi.proofs.cut_text.Goals as goal

-- what was taken is of the whole text, and a cut of it
taken_here : (t : List ℕ) (u : ℕ) (r : Taken) (b : Bytes) → r ≡ take_units 9 u (slice 0 (length t) t) → r ≡ taken.Took b → take_units 9 u t ≡ taken.Took b
taken_here t u r b e f = ap (take_units 9 u) (sym (slice-whole t)) ∙ sym e ∙ f

took-here : (t : List ℕ) (u : ℕ) (r : Taken) (b : Bytes) → r ≡ take_units 9 u (slice 0 (length t) t) → r ≡ taken.Took b → Cut t u b.0
took-here t u r b e f = cut 9 u b.0 t (taken_here t u r b e f)

pub check-requires : goal.check-requires
check-requires c = ((took-here c.args.text.now c.args.units.0 _ c.in-Took.bytes c.take_units.ensures c.in-Took.is).within, omega arith)

pub returns-then-not-check : goal.returns-then-not-check
unfolding cut_answer
returns-then-not-check c = let t = c.args.text.now in
    let w : well_formed t ≡ false = sym (took-here c.args.text.now c.args.units.0 _ c.in-Took.bytes c.take_units.ensures c.in-Took.is).back ∙ ap well_formed (sym (slice-from t c.in-Took.bytes.0)) ∙ sym c.check.ensures ∙ c.if-not-check.true in
    rw w c.refused_cut.ensures

pub returns-then-not-check-2 : goal.returns-then-not-check-2
unfolding cut_answer
returns-then-not-check-2 c = let t = c.args.text.now in
    let w : well_formed t ≡ false = ap well_formed (sym (slice-whole t)) ∙ sym c.check-in-Refused.ensures ∙ c.if-not-check-2.true in
    rw w c.refused_cut-then-not-check-2.ensures

pub returns-else-not-check : goal.returns-else-not-check
unfolding cut_answer
returns-else-not-check c = let t = c.args.text.now in
    let w : well_formed t ≡ true = sym (took-here c.args.text.now c.args.units.0 _ c.in-Took.bytes c.take_units.ensures c.in-Took.is).back ∙ ap well_formed (sym (slice-from t c.in-Took.bytes.0)) ∙ sym c.check.ensures ∙ c.if-not-check.false in
    rw (w, taken_here c.args.text.now c.args.units.0 _ c.in-Took.bytes c.take_units.ensures c.in-Took.is)

pub returns-else-not-check-2 : goal.returns-else-not-check-2
unfolding cut_answer
returns-else-not-check-2 c = let t = c.args.text.now in
    let w : well_formed t ≡ true = ap well_formed (sym (slice-whole t)) ∙ sym c.check-in-Refused.ensures ∙ c.if-not-check-2.false in
    let e : take_units 9 _ t ≡ taken.Refused _ = ap (take_units 9 _) (sym (slice-whole t)) ∙ sym c.take_units.ensures ∙ c.in-Refused.is in
    rw (w, e) c.refused_cut-in-Refused.ensures
