-- Each thing that is kept of an update has a byte of it for its place, and a refusal of reading blames a byte of it, or refusal 1 its end. So does
-- refusal 8, where no row is left.
use Prim.Native.Nat.{ℕ, zero, suc, ◌+◌, ◌-◌, ◌≤◌}
use mathlib.Core.Logic.{inl}
use mathlib.Core.List.{List}
use native.Mathlib.Omega.{arith}
use lib.Dec.{ltb, eqb}
use lib.ListN.{length, take}
use lib.Seq.{slice}
use borrow.Author.Tests.{ltb-true}
use Rattle.numbers.specs.declared.Read.{Read}
use Rattle.numbers.specs.declared.Read.TheVariants as read
use Rattle.numbers.specs.Number.{read_unsigned}
use Rattle.text.specs.declared.Part.{Part}
use Rattle.text.specs.Utf8.{well_formed}
use Rattle.string.specs.declared.Opened.{Opened}
use Rattle.string.specs.String.{opened, open_text}
use Rattle.grammar.specs.Grammar.{Grammar}
use Rattle.grammar.specs.Course.{Drawn, got, not, CourseTo, thing, over, stopped, on_drawn, run, fit}
use Rattle.grammar.specs.Blocks.{all_blocks}
use Rattle.grammar.specs.Deletes.{all_ranges}
use Rattle.decoder.specs.Line.{line}
use Rattle.decoder.specs.States.{State}
use Rattle.decoder.specs.Columned.{columned}
use Rattle.decoder.specs.Opening.{heads, standing, with_opened, text_opened, on_heads, opened_of}
use Rattle.decoder.specs.Update.{rest_places, in_columns, blocks_of, delete_set}
use Rattle.pieces.proofs.Forgets.{chosen}
use Rattle.places.specs.Places.{Blames, BlamesIn}
use Rattle.places.proofs.BlamedReads.{tested, not-text, Reads, end-blames, unsigned_reads}
use Rattle.places.proofs.BlamedGrammars.{Any, Gives, Points, run-blames, all-blocks-point, all-ranges-point, heads-point}
use Rattle.places.proofs.BlamedLine.{line_gives}
use Rattle.places.proofs.BlamedColumns.{Holds}
use Rattle.places.proofs.BlamedStates.{Stands, front, columned-gives}

module _ (u : List ℕ) where
  line-blames : {E A : Type 0} (form : ℕ) (x : Grammar E A) → Points u Any x → (at : ℕ) → BlamesIn u (run (line form u) x at)
  line-blames form x h at = run-blames u Any (line form u) (λ f s b _. line_gives u s form f b) Any x h at tt

  -- ---- form 2 opened: no column has a run under way

  idle : (low at : ℕ) → low ≤ at → Holds u low at at (ltb 0 0)
  idle low at h = (h, λ busy. absurd (omega (arith, ltb-true 0 0 busy)))

  text-opened : (ps : List Part) (at : ℕ) → Gives u Any (Stands u) (text_opened u (standing ps at))
  unfolding text_opened open_text with_opened opened Gives Blames
  text-opened ps at = go (read_unsigned s from) (unsigned_reads u s (front u to) from)
    where
      to : ℕ
      to = (standing ps at).text.to

      from : ℕ
      from = (standing ps at).text.place.units.at

      s : List ℕ
      s = take to u

      Good : Opened → Type 0
      Good r = Gives u Any (Stands u) (with_opened (standing ps at) r)

      start : (at : ℕ) → Holds u 0 at at (ltb 0 0)
      start at = idle 0 at (omega arith)

      go : (r : Read) → Reads u from r → Good (opened s r)
      go (read.Number n e) h =
          chosen Good (ltb (length s - e) n) (end-blames u s (front u to))
          (tested Good (well_formed (slice e (e + n) s))
          (λ _. (tt, (start _, start _, start _, start _, start _, (omega arith, idle (e + n) (e + n) (omega arith)), start _, start _, start _)))
          (λ q. inl (omega (arith, not-text s e (e + n) q, front u to))))
      go (read.Refused why) h = h

  opened-gives : Gives u Any (Stands u) (opened_of u)
  unfolding opened_of on_heads BlamesIn Gives
  opened-gives = go (run (line 2 u) heads 0) (line-blames 2 heads (heads-point u) 0)
    where
      go : (c : CourseTo ℕ _ _) → BlamesIn u c → Gives u Any (Stands u) (on_heads u c)
      go (thing e p c) h = go c h.1
      go (over ps at) h = text-opened ps at
      go (stopped why) h = h

  -- ---- the blocks

  columns-blame : BlamesIn u (in_columns u)
  unfolding in_columns on_drawn BlamesIn Gives
  columns-blame = go (opened_of u) opened-gives
    where
      go : (d : Drawn State (Unit {0})) → Gives u Any (Stands u) d → BlamesIn u (on_drawn d (λ _ s. run (columned u) all_blocks s))
      go (got x s) h = run-blames u (Stands u) (columned u) (columned-gives u) Any all_blocks (all-blocks-point u) s h.1
      go (not why) h = h

  placed-blames : {E A : Type 0} (c : CourseTo State E A) → BlamesIn u c → BlamesIn u (rest_places c)
  unfolding rest_places BlamesIn
  placed-blames (thing e p c) h = (h.0, placed-blames c h.1)
  placed-blames (over a s) h = tt
  placed-blames (stopped why) h = h

pub blocks-blame : (form : ℕ) (u : List ℕ) → BlamesIn u (blocks_of form u)
unfolding blocks_of
blocks-blame form u =
    chosen (BlamesIn u) (eqb form 1) (line-blames u 1 all_blocks (all-blocks-point u) 0) (placed-blames u (in_columns u) (columns-blame u))

pub ranges-blame : (form : ℕ) (u : List ℕ) (at : ℕ) → BlamesIn u (delete_set form u at)
unfolding delete_set
ranges-blame form u at = line-blames u form all_ranges (all-ranges-point u) at

-- what so many rows take of it
pub fit-blames : {S E A : Type 0} (u : List ℕ) (n : ℕ) (c : CourseTo S E A) → BlamesIn u c → BlamesIn u (fit n c)
unfolding fit BlamesIn Blames
fit-blames u zero (thing e p c) h = inl h.0
fit-blames u (suc n) (thing e p c) h = (h.0, fit-blames u n c h.1)
fit-blames u n (over a s) h = tt
fit-blames u n (stopped why) h = h
