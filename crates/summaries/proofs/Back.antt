-- What is written of an update is read back as its rows, and two updates have one summary exactly when they have the same rows.
use Prim.Native.Nat.{ℕ, ◌≤◌}
use mathlib.Core.Path.{◌≡◌, refl, sym, ap, ◌∙◌}
use mathlib.Core.Bool.{Bool, true, false}
use mathlib.Core.List.{List}
use native.Mathlib.Omega.{arith}
use lib.Dec.{ltb}
use lib.ListN.{length}
use Rattle.numbers.specs.Number.{pick, nowhere}
use Rattle.numbers.specs.Limits.{max_update}
use Rattle.block.specs.declared.Block.{Block}
use Rattle.ranges.specs.Ranges.{Range}
use Rattle.grammar.specs.Course.{Course, thing, over, stopped, things, ending}
use Rattle.decoder.specs.Update.{blocks_of, delete_set}
use Rattle.summary.specs.Rows.{Row}
use Rattle.summary.specs.Summary.{one, summary_of, read, read_of}
use Rattle.summary.proofs.RoundTrip.{read_back, same_rows}
use Rattle.gathered.specs.RowsOf as told
use Rattle.gathered.specs.RowsOf.{rows_of, told_of}
use Rattle.summaries.specs.Promises.{bytes, refused, made_of, fitted, summary_in}
use Rattle.summaries.proofs.Legal.{update-legal}

-- ---- what is written

ranges-told : (c : Course Range) (x rs : List Row) → ending c (λ e. told.rows x) (λ why. told.refused why) ≡ told.rows rs → x ≡ rs
unfolding ending
ranges-told (thing a p c) x rs e = ranges-told c x rs e
ranges-told (over a t) x rs e = cc
ranges-told (stopped why) x rs e = absurd (let z : ◌≡◌ {A = ℕ} 0 1 = cc in omega arith)

blocks-told : (c : Course Block) (d : ℕ → Course Range) (x rs : List Row)
    → ending c (λ at. ending (d at) (λ e. told.rows x) (λ why. told.refused why)) (λ why. told.refused why) ≡ told.rows rs → x ≡ rs
unfolding ending
blocks-told (thing a p c) d x rs e = blocks-told c d x rs e
blocks-told (over a t) d x rs e = ranges-told (d t) x rs e
blocks-told (stopped why) d x rs e = absurd (let z : ◌≡◌ {A = ℕ} 0 1 = cc in omega arith)

told-rows : (form : ℕ) (u : List ℕ) (rs : List Row) → told_of form u ≡ told.rows rs → rows_of (things (blocks_of form u)) ≡ rs
unfolding told_of
told-rows form u rs e = blocks-told (blocks_of form u) (λ at. delete_set form u at) (rows_of (things (blocks_of form u))) rs e

made-is : (n : ℕ) (t : told.Told) (b : List ℕ) (rs : List Row) → fitted n (made_of t) ≡ bytes b → ((qs : List Row) → t ≡ told.rows qs → rs ≡ qs) → b ≡ summary_of one rs
unfolding fitted made_of
made-is n (told.rows qs) b rs e h = go (ltb n (length (summary_of one qs))) e
  where
    go : (x : Bool) → pick x (refused (nowhere 10)) (bytes (summary_of one qs)) ≡ bytes b → b ≡ summary_of one rs
    go true e = absurd (let z : ◌≡◌ {A = ℕ} 0 1 = cc in omega arith)
    go false e = (let z : b ≡ summary_of one qs = cc in z) ∙ ap (summary_of one) (sym (h qs refl))
made-is n (told.refused why) b rs e h = absurd (let z : ◌≡◌ {A = ℕ} 0 1 = cc in omega arith)

-- the bytes that are written of an update are the summary of its rows
pub is-summary : (form : ℕ) (u : List ℕ) (n : ℕ) (b : List ℕ) → summary_in form u n ≡ bytes b → b ≡ summary_of one (rows_of (things (blocks_of form u)))
unfolding summary_in
is-summary form u n b e = go (ltb form 1) (ltb 2 form) (ltb max_update (length u)) e
  where
    go : (x y z : Bool) → pick x (refused (nowhere 12)) (pick y (refused (nowhere 12)) (pick z (refused (nowhere 3)) (fitted n (made_of (told_of form u))))) ≡ bytes b
        → b ≡ summary_of one (rows_of (things (blocks_of form u)))
    go true y z e = absurd (let z : ◌≡◌ {A = ℕ} 0 1 = cc in omega arith)
    go false true z e = absurd (let z : ◌≡◌ {A = ℕ} 0 1 = cc in omega arith)
    go false false true e = absurd (let z : ◌≡◌ {A = ℕ} 0 1 = cc in omega arith)
    go false false false e = made-is n (told_of form u) b (rows_of (things (blocks_of form u))) e (told-rows form u)

-- ---- and read

pub written_back : (form : ℕ) (u : List ℕ) (n : ℕ) (b : List ℕ) (room : ℕ) → summary_in form u n ≡ bytes b → length (rows_of (things (blocks_of form u))) ≤ room
    → read_of room b ≡ read (rows_of (things (blocks_of form u)))
written_back form u n b room e h =
    let l = update-legal form u in
    ap (read_of room) (is-summary form u n b e) ∙ read_back (rows_of (things (blocks_of form u))) room l.fit l.order l.few h

-- ---- equal rows exactly when equal bytes, whatever the forms of the two updates

module _ (form form' : ℕ) (u u' : List ℕ) (n n' : ℕ) (b b' : List ℕ) (e : summary_in form u n ≡ bytes b) (e' : summary_in form' u' n' ≡ bytes b') where
  pub equal-bytes : rows_of (things (blocks_of form u)) ≡ rows_of (things (blocks_of form' u')) → b ≡ b'
  equal-bytes h = is-summary form u n b e ∙ ap (summary_of one) h ∙ sym (is-summary form' u' n' b' e')

  pub equal-rows : b ≡ b' → rows_of (things (blocks_of form u)) ≡ rows_of (things (blocks_of form' u'))
  equal-rows h =
      let l = update-legal form u in
      let k = update-legal form' u' in
      same_rows _ _ l.fit l.order l.few k.fit k.order k.few (sym (is-summary form u n b e) ∙ h ∙ is-summary form' u' n' b' e')
