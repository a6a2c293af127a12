-- What the loops over slices keep: the refusal of all values, judged so far; and the state that holds the values put so far.
use Prim.Native.Nat.{ℕ, zero, suc, ◌+◌, ◌≤◌, ◌<◌}
use mathlib.Core.Path.{◌≡◌, refl, sym, ap, ◌∙◌}
use mathlib.Core.List.{List, [], ◌∷◌, ◌++◌, append_assoc}
use mathlib.Core.Bool.{Bool, true, false}
use native.Mathlib.Numerals.{add-one}
use native.Mathlib.Omega.{arith}
use lib.Dec.{ltb, leb}
use lib.ListN.{length, take, drop, get_or, length-append, drop_of_length-le}
use lib.Seq.{sets, drop-cons, take-suc, split_at, take_all, length-take-le, length-sets}
use borrow.Author.Tests.{leb-true, leb-false, le-leb, lt-leb, ltb-false}
use Rattle.numbers.specs.Number.{pick}
use Rattle.numbers.specs.Output.{verdict}
use Rattle.numbers.proofs.Output.{verdict-room, take-sets}
use Rattle.runs.specs.declared.ColumnKind.{ColumnKind}
use Rattle.runs.specs.declared.writer.Writer.{Writer}
use Rattle.runs.specs.Runs.{coding, within, storable, spellable, column_of, why_of, why}
use Rattle.runs.specs.Writer.{fresh, key_after, emitted, finished, moved, pushed, Sound, Judge, unjudged, run_fits, over_limit, goes_on, judged, sentence}
use Rattle.runs.proofs.Writing.{key-most}
use Rattle.runs.proofs.Standing.{Holds, why_ahead, moved-count, pushed_at, why-start, why-push, why-end, holds-fresh, holds-push, holds-room, stands-end}

-- ---- judging

pub record JudgedTo (col : ColumnKind) (vs : List ℕ) (i : ℕ) (j : Judge) : Type 0 where
  pub same : why_ahead j (drop i vs) ≡ why_of col vs
  pub sound : Sound j.writer
  pub few : j.writer.count ≤ i
  pub here : i ≤ length vs

pub judge-begin : (col : ColumnKind) (vs : List ℕ) → JudgedTo col vs 0 (unjudged col)
judge-begin col vs = record { same = why-start col vs; sound = (omega arith, omega arith); few = omega arith; here = omega arith }

-- a value more keeps the state sound, and its run at most one longer
module _ (j : Judge) (v : ℕ) (s : Sound j.writer) where
  abbrev Kept : Judge → Type 0
  Kept k = Sound k.writer × (k.writer.count ≤ j.writer.count + 1)

  on-kept : v ≤ (coding j.writer.column).most → Kept (goes_on j v)
  unfolding moved key_after
  on-kept h = ((h, key-most j.writer.column j.writer.last v h), moved-count j.writer v j.writer.at (key_after j.writer v))

  judged-kept : Kept (judged j v)
  unfolding judged
  judged-kept = over j.over
    where
      stays : Kept (over_limit j)
      stays = (s, omega arith)

      fit : (b : Bool) → v ≤ (coding j.writer.column).most → Kept (pick b (goes_on j v) (over_limit j))
      fit true h = on-kept h
      fit false h = stays

      limit : (b : Bool) → ltb (coding j.writer.column).most v ≡ b → Kept (pick b (over_limit j) (pick (run_fits j.writer (key_after j.writer v)) (goes_on j v) (over_limit j)))
      limit true l = stays
      limit false l = fit (run_fits j.writer (key_after j.writer v)) (ltb-false (coding j.writer.column).most v l)

      over : (b : Bool) → Kept (pick b j (pick (ltb (coding j.writer.column).most v) (over_limit j) (pick (run_fits j.writer (key_after j.writer v)) (goes_on j v) (over_limit j))))
      over true = (s, omega arith)
      over false = limit (ltb (coding j.writer.column).most v) refl

module _ (col : ColumnKind) (vs : List ℕ) (i : ℕ) (j : Judge) (t : JudgedTo col vs i j) where
  pub judge-on : i < length vs → JudgedTo col vs (i + 1) (judged j (get_or vs i 0))
  judge-on l =
      let k = judged-kept j (get_or vs i 0) t.sound in
      record {
        same = rw add-one (why-push j (get_or vs i 0) (drop (suc i) vs) ∙ ap (why_ahead j) (sym (drop-cons vs i 0 l)) ∙ t.same);
        sound = k.0;
        few = omega (arith, k.1, t.few);
        here = omega arith;
      }

  pub judge-over : length vs ≤ i → sentence j ≡ why_of col vs
  judge-over l = sym (why-end j) ∙ ap (why_ahead j) (sym (drop_of_length-le vs l)) ∙ t.same

-- ---- putting

pub record PutTo (col : ColumnKind) (e : List ℕ) (start : ℕ) (vs : List ℕ) (i : ℕ) (w : Writer) (out : List ℕ) : Type 0 where
  pub holds : Holds col e start (take i vs) w out
  pub size : length out ≡ length e
  pub room : w.at ≤ length out
  pub here : i ≤ length vs

pub put-begin : (col : ColumnKind) (e : List ℕ) (start : ℕ) (vs : List ℕ) → start ≤ length e → PutTo col e start vs 0 (fresh col start) e
put-begin col e start vs h = record { holds = holds-fresh col e start; size = refl; room = h; here = omega arith }

module _ (col : ColumnKind) (e : List ℕ) (start : ℕ) (vs : List ℕ) (i : ℕ) (w : Writer) (out : List ℕ) (t : PutTo col e start vs i w out) where
  pub put_on : i < length vs → get_or vs i 0 ≤ (coding col).most → w.at + length (emitted w (get_or vs i 0)) ≤ length out
      → PutTo col e start vs (i + 1) (pushed w (get_or vs i 0)) (sets out w.at (emitted w (get_or vs i 0)))
  put_on l m h = record {
    holds = rw (add-one, take-suc vs i 0 l) (holds-push col e start (take i vs) w out t.holds (get_or vs i 0) m);
    size = length-sets out w.at (emitted w (get_or vs i 0)) ∙ t.size;
    room = rw (length-sets, pushed_at) h;
    here = omega arith;
  }

  -- the end: what is done and the last run are the column
  pub put-over : length vs ≤ i → start ≤ length e → take w.at out ++ finished w ≡ take start e ++ column_of col vs
  put-over l s =
      let h = t.holds in
      let size : start + length h.done ≤ length e = omega (arith, h.stands.place, t.room, t.size) in
      let front : take w.at out ≡ take start e ++ h.done = rw (h.stands.place, h.bytes) (take-sets e h.done start size) in
      rw front (append_assoc (take start e) h.done (finished w)
      ∙ ap (λ (b : List ℕ). take start e ++ b) (sym (stands-end col start (take i vs) h.done w h.stands) ∙ ap (column_of col) (take_all i vs l)))
