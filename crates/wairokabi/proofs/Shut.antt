-- What was refused stays refused: every read from the place that a refused opening gives says 1, at the column's end, and leaves that place.
use Prim.Native.Nat.{ℕ}
use mathlib.Core.Path.{◌≡◌, ap, ◌∙◌}
use mathlib.Core.List.{List}
use lib.ListN.{length}
use lib.Seq.{drop-length}
use Rattle.numbers.specs.declared.Signed.TheVariants.{Wrong}
use Rattle.numbers.specs.Number.{read_signed, spelt_signed, minus_of, answer_at, with_sign}
use Rattle.columns.specs.Number as number
use Rattle.string.specs.declared.Opened.{Opened}
use Rattle.string.specs.declared.Opened.TheVariants.{At, Not}
use Rattle.string.specs.declared.Answer.TheVariants.{Bad}
use Rattle.string.specs.String.{open_text, next_text, units_drawn}
use Rattle.wairokabi.specs.declared.TextOpened.{TextOpened}
use Rattle.wairokabi.specs.declared.TextNext.{TextNext}
use Rattle.wairokabi.specs.Promises.{shut, open_answer, OpenText, text_answer, NextText}

signed-end : (s : List ℕ) → read_signed s (length s) ≡ Wrong (record { number = 1; place = length s })
unfolding read_signed spelt_signed minus_of answer_at with_sign
signed-end s = rw (drop-length s)

shut-next : (s : List ℕ) → next_text s (shut s) ≡ Bad (record { number = 1; place = length s })
unfolding next_text units_drawn number.next_number number.begun
shut-next s = rw (signed-end s)

pub stays-refused : (s : List ℕ) (at : ℕ) (o : TextOpened) (r : TextNext) → OpenText s at o → (o.refusal.number ≡ 0 → ⊥) → NextText s o.place r
    → r ≡ record { refusal = record { number = 1; place = length s }; part = record { place = 0; bytes = record { 0 = 0 } }; place = o.place }
unfolding open_answer text_answer
stays-refused s at o r p not q = q ∙ ap (text_answer o.place) (ap (next_text s) (stands (open_text s at) p) ∙ shut-next s)
  where
    stands : (x : Opened) → o ≡ open_answer s x → o.place ≡ shut s
    stands (At c) e = absurd (not (ap (λ (t : TextOpened). t.refusal.number) e))
    stands (Not why) e = ap (λ (t : TextOpened). t.place) e
