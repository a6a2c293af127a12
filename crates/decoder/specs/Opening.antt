-- Opening form 2: one flag byte of any value, nine length-led columns, and the text among them opened, its UTF-8 checked.
use Rattle.std.specs.Prelude.{ℕ, zero, suc, ◌+◌, List, [], ◌∷◌, ◌++◌, get_or, take}
use Rattle.text.specs.declared.Part.{Part}
use Rattle.block.specs.Row.{no_part}
use Rattle.columns.specs.Number as numbers
use Rattle.columns.specs.Difference as differences
use Rattle.columns.specs.Byte as bytes
use Rattle.string.specs.String as strings
use Rattle.string.specs.declared.Opened as string-opened
use Rattle.string.specs.declared.Opened.TheVariants as opened
use Rattle.grammar.specs.Grammar.{byte, number, bytes as some_bytes, Grammar, done, draw}
use Rattle.grammar.specs.Grammar.{◌>>=◌}
use Rattle.grammar.specs.Course.{Drawn, got, not, CourseTo, thing, over, stopped, run}
use Rattle.decoder.specs.Line.{line}
use Rattle.decoder.specs.States.{Numbers, Differences, Octets, Texts, State, state, text_moved}

-- n columns more, behind those that are cut: each a length and so many bytes
unfoldable pub cut : ℕ → List Part → Grammar (Unit {0}) (List Part)
cut zero ps = done ps
cut (suc n) ps = draw some_bytes >>= λ p. cut n (ps ++ (p ∷ []))

unfoldable pub heads : Grammar (Unit {0}) (List Part)
heads = draw (number byte) >>= λ _. cut 9 []

-- ---- a column that is cut, nothing drawn from it yet

abbrev pub end_of : Part → ℕ
end_of p = p.place + p.bytes.0

abbrev pub numbers_from : Part → Numbers
numbers_from p = record { place = numbers.start_at p.place; to = end_of p }

abbrev pub differences_from : Part → Differences
differences_from p = record { place = differences.start_at p.place; to = end_of p }

abbrev pub bytes_from : Part → Octets
bytes_from p = record { place = bytes.start_at p.place; to = end_of p }

abbrev pub texts_from : Part → Texts
texts_from p = record { place = strings.place_at 0 0 (numbers.start_at p.place); to = end_of p }

-- the nine columns in their order, the rest at a place, and no key yet
abbrev pub standing : List Part → ℕ → State
standing ps at =
    let column : ℕ → Part = λ k. get_or ps k no_part in
    state
    at (differences_from (column 0)) (numbers_from (column 1)) (differences_from (column 2)) (differences_from (column 3)) (bytes_from (column 4))
    (texts_from (column 5)) (bytes_from (column 6)) (numbers_from (column 7)) (numbers_from (column 8)) []

-- ---- the text opened: it stands where the column begins, and its units behind it

unfoldable pub with_opened : State → string-opened.Opened → Drawn State (Unit {0})
with_opened s (opened.At c) = got tt (text_moved (record { place = c; to = s.text.to }) s)
with_opened s (opened.Not why) = not why

unfoldable pub text_opened : List ℕ → State → Drawn State (Unit {0})
text_opened u s = with_opened s (strings.open_text (take s.text.to u) s.text.place.units.at)

unfoldable pub on_heads : List ℕ → CourseTo ℕ (Unit {0}) (List Part) → Drawn State (Unit {0})
on_heads u (thing e p c) = on_heads u c
on_heads u (over ps at) = text_opened u (standing ps at)
on_heads u (stopped why) = not why

unfoldable pub opened_of : List ℕ → Drawn State (Unit {0})
opened_of u = on_heads u (run (line 2 u) heads 0)
