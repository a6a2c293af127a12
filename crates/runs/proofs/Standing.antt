-- What a writer's state stands for: pushed on, ended, measured, in a buffer; and the refusals judged a value at a time.
use Prim.Native.Nat.{ℕ, zero, suc, ◌+◌, ◌-◌, ◌≤◌}
use mathlib.Core.Path.{◌≡◌, refl, sym, ap, ◌∙◌, subst}
use mathlib.Core.List.{List, [], ◌∷◌, ◌++◌, append-nil, append_assoc}
use mathlib.Core.Bool.{Bool, true, false}
use native.Mathlib.Nat.{add-zero, add_assoc, suc-add}
use native.Mathlib.Omega.{arith}
use lib.Dec.{ltb, eqb}
use lib.ListN.{length, length-append}
use lib.Seq.{sets}
use borrow.Author.Tests.{ne_eqb, eqb-true, ltb-true, ltb-false, lt-leb, le-leb}
use Rattle.numbers.specs.Number.{pick}
use Rattle.numbers.proofs.Output.{sets-append}
use Rattle.runs.specs.declared.ColumnKind.{ColumnKind}
use Rattle.runs.specs.declared.writer.Writer.{Writer}
use Rattle.runs.specs.Runs.{Coding, coding, runs_on, runs_after, column, within, over_fits, storable, spellable, why}
use Rattle.runs.specs.Writer.{fresh, ends, key_after, emitted, finished, moved, pushed, Sound, Judge, unjudged, run_fits, last_fits_in, over_limit, goes_on, judged, sentence}
use Rattle.runs.proofs.Writing.{key-most}

-- what a state has yet to write, if `rest` is what comes
unfoldable pub ahead : Coding → ℕ → ℕ → ℕ → List ℕ → List ℕ
ahead c p k zero rest = runs_after c p rest
ahead c p k (suc n) rest = runs_on c p k n rest

-- the last value, or p
unfoldable pub last_of : ℕ → List ℕ → ℕ
last_of p [] = p
last_of p (v ∷ vs) = last_of v vs

-- A state stands for the values vs, of a column that began at `start`: the bytes `done` are written, and whatever comes,
-- they and what the state has yet to write are the column.
pub record Stands (col : ColumnKind) (start : ℕ) (vs : List ℕ) (done : List ℕ) (w : Writer) : Type 0 where
  pub kind : w.column ≡ col
  pub place : w.at ≡ start + length done
  pub newest : w.last ≡ last_of 0 vs
  pub few : w.count ≤ length vs
  pub sound : Sound w
  pub whole : (rest : List ℕ) → column (coding col) (vs ++ rest) ≡ done ++ ahead (coding col) w.last w.key w.count rest

-- The same with the buffer: `out` is `e` with the bytes done.
pub record Holds (col : ColumnKind) (e : List ℕ) (start : ℕ) (vs : List ℕ) (w : Writer) (out : List ℕ) : Type 0 where
  pub done : List ℕ
  pub stands : Stands col start vs done w
  pub bytes : out ≡ sets e start done

-- the runs that are still to come can be stored
unfoldable pub fits_ahead : Coding → ℕ → ℕ → ℕ → List ℕ → Bool
fits_ahead c p k zero rest = storable c p rest
fits_ahead c p k (suc n) rest = over_fits c p k n rest

-- the refusal of all values, if `rest` is what comes
unfoldable pub why_ahead : Judge → List ℕ → ℕ
why_ahead j rest =
    pick j.over 3
    (pick (within (coding j.writer.column).most rest)
    (pick (fits_ahead (coding j.writer.column) j.writer.last j.writer.key j.writer.count rest)
    (pick (pick j.far false (spellable (coding j.writer.column) j.writer.last rest)) 0 13) 3) 3)

-- ---- one value more

module _ (w : Writer) (v : ℕ) where
  pub pushed-column : (pushed w v).column ≡ w.column
  unfolding pushed moved
  pushed-column = refl

  pub pushed_at : (pushed w v).at ≡ w.at + length (emitted w v)
  unfolding pushed moved
  pushed_at = refl

  pub pushed-last : (pushed w v).last ≡ v
  unfolding pushed moved
  pushed-last = refl

  pub moved-count : (at k : ℕ) → (moved w at k v).count ≤ w.count + 1
  unfolding moved
  moved-count at k = go (ends k w)
    where
      go : (b : Bool) → pick b 1 (w.count + 1) ≤ w.count + 1
      go true = omega arith
      go false = omega arith

  pub pushed-count : (pushed w v).count ≤ w.count + 1
  unfolding pushed
  pushed-count = moved-count (w.at + length (emitted w v)) (key_after w v)

  pub pushed-sound : v ≤ (coding w.column).most → Sound (pushed w v)
  unfolding pushed moved key_after
  pushed-sound h = (h, key-most w.column w.last v h)

  -- what is ahead of a state, with a value more: what the value has written, and what is ahead of the new state
  pub ahead-push : (rest : List ℕ)
      → ahead (coding w.column) w.last w.key w.count (v ∷ rest)
      ≡ emitted w v ++ ahead (coding w.column) (pushed w v).last (pushed w v).key (pushed w v).count rest
  unfolding pushed moved emitted ends ahead runs_on runs_after key_after
  ahead-push rest = go w.count
    where
      go : (n : ℕ) → ahead (coding w.column) w.last w.key n (v ∷ rest)
          ≡ pick (pick (eqb n 0) false (pick (eqb ((coding w.column).key_of w.last v) w.key) false true)) ((coding w.column).spell w.key (n - 1)) []
          ++ ahead (coding w.column) v ((coding w.column).key_of w.last v) (pick (pick (eqb n 0) false (pick (eqb ((coding w.column).key_of w.last v) w.key) false true)) 1 (n + 1)) rest
      go zero = refl
      go (suc n) = at (eqb ((coding w.column).key_of w.last v) w.key) refl
        where
          at : (b : Bool) → eqb ((coding w.column).key_of w.last v) w.key ≡ b
              → pick b (runs_on (coding w.column) v w.key (n + 1) rest) ((coding w.column).spell w.key n ++ runs_on (coding w.column) v ((coding w.column).key_of w.last v) 0 rest)
              ≡ pick (pick (eqb (suc n) 0) false (pick b false true)) ((coding w.column).spell w.key (suc n - 1)) []
              ++ ahead (coding w.column) v ((coding w.column).key_of w.last v) (pick (pick (eqb (suc n) 0) false (pick b false true)) 1 (suc n + 1)) rest
          at true e = rw (eqb-true ((coding w.column).key_of w.last v) w.key e, ne_eqb (suc n) 0 (omega arith), suc-add)
          at false e = let less : suc n - 1 ≡ n = omega arith in rw (less, ne_eqb (suc n) 0 (omega arith))

pub ahead-end : (w : Writer) → ahead (coding w.column) w.last w.key w.count [] ≡ finished w
unfolding finished ahead runs_on runs_after
ahead-end w = go w.count
  where
    go : (n : ℕ) → ahead (coding w.column) w.last w.key n [] ≡ pick (eqb n 0) [] ((coding w.column).final w.key (n - 1))
    go zero = refl
    go (suc n) = let less : suc n - 1 ≡ n = omega arith in rw (less, ne_eqb (suc n) 0 (omega arith))

pub last_snoc : (vs : List ℕ) (p v : ℕ) → last_of p (vs ++ (v ∷ [])) ≡ v
unfolding last_of
last_snoc [] p v = refl
last_snoc (x ∷ vs) p v = last_snoc vs x v

-- ---- what a state stands for

-- a new state stands for nothing
pub stands-fresh : (col : ColumnKind) (start : ℕ) → Stands col start [] [] (fresh col start)
unfolding column ahead last_of
stands-fresh col start = record { kind = refl; place = rw add-zero; newest = refl; few = omega arith; sound = (omega arith, omega arith); whole = λ rest. refl }

module _ (col : ColumnKind) (start : ℕ) (vs done : List ℕ) (w : Writer) (s : Stands col start vs done w) where
  on-push : (v : ℕ) (rest : List ℕ) → ahead (coding col) w.last w.key w.count (v ∷ rest)
      ≡ emitted w v ++ ahead (coding col) (pushed w v).last (pushed w v).key (pushed w v).count rest
  on-push v rest = subst (λ (k : ColumnKind). ahead (coding k) w.last w.key w.count (v ∷ rest)
      ≡ emitted w v ++ ahead (coding k) (pushed w v).last (pushed w v).key (pushed w v).count rest) s.kind (ahead-push w v rest)

  -- a push: the new state stands for the values with v
  pub stands-push : (v : ℕ) → v ≤ (coding col).most → Stands col start (vs ++ (v ∷ [])) (done ++ emitted w v) (pushed w v)
  stands-push v h = record {
    kind = pushed-column w v ∙ s.kind;
    place = place';
    newest = pushed-last w v ∙ sym (last_snoc vs 0 v);
    few = omega (arith, pushed-count w v, length-append vs (v ∷ []), s.few);
    sound = pushed-sound w v (rw s.kind h);
    whole = whole';
  }
    where
      place' : (pushed w v).at ≡ start + length (done ++ emitted w v)
      place' = pushed_at w v ∙ rw (length-append, s.place, add_assoc)

      whole' : (rest : List ℕ) → column (coding col) ((vs ++ (v ∷ [])) ++ rest) ≡ (done ++ emitted w v) ++ ahead (coding col) (pushed w v).last (pushed w v).key (pushed w v).count rest
      whole' rest = rw (append_assoc vs (v ∷ []) rest, s.whole (v ∷ rest), on-push v rest, append_assoc)

  -- the end: the column is what is done and what the end has written
  pub stands-end : column (coding col) vs ≡ done ++ finished w
  stands-end = ap (column (coding col)) (sym (append-nil vs)) ∙ s.whole [] ∙ ap (λ (l : List ℕ). done ++ l) end
    where
      end : ahead (coding col) w.last w.key w.count [] ≡ finished w
      end = subst (λ (k : ColumnKind). ahead (coding k) w.last w.key w.count [] ≡ finished w) s.kind (ahead-end w)

  pub stands-size : w.at + length (finished w) ≡ start + length (column (coding col) vs)
  stands-size = omega (arith, s.place, ap length stands-end, length-append done (finished w))

  pub stands-bytes : (e : List ℕ) → sets (sets e start done) w.at (finished w) ≡ sets e start (column (coding col) vs)
  stands-bytes e = rw (stands-end, s.place, sets-append)

  pub stands-more : (v : ℕ) (e : List ℕ) → sets (sets e start done) w.at (emitted w v) ≡ sets e start (done ++ emitted w v)
  stands-more v e = rw (s.place, sets-append)

  -- room for all that comes is room for the next push
  pub stands-room : (v : ℕ) (rest : List ℕ) → w.at + length (emitted w v) ≤ start + length (column (coding col) (vs ++ (v ∷ rest)))
  stands-room v rest =
      let a : List ℕ = ahead (coding col) (pushed w v).last (pushed w v).key (pushed w v).count rest in
      omega (
        arith,
        s.place,
        ap length (s.whole (v ∷ rest) ∙ ap (λ (l : List ℕ). done ++ l) (on-push v rest)),
        length-append done (emitted w v ++ a),
        length-append (emitted w v) a,
      )

-- the same with the buffer
pub holds-fresh : (col : ColumnKind) (e : List ℕ) (start : ℕ) → Holds col e start [] (fresh col start) e
holds-fresh col e start = record { done = []; stands = stands-fresh col start; bytes = refl }

module _ (col : ColumnKind) (e : List ℕ) (start : ℕ) (vs : List ℕ) (w : Writer) (out : List ℕ) (h : Holds col e start vs w out) where
  pub holds-push : (v : ℕ) → v ≤ (coding col).most → Holds col e start (vs ++ (v ∷ [])) (pushed w v) (sets out w.at (emitted w v))
  holds-push v l = record {
    done = h.done ++ emitted w v;
    stands = stands-push col start vs h.done w h.stands v l;
    bytes = rw h.bytes (stands-more col start vs h.done w h.stands v e);
  }

  pub holds-end : sets out w.at (finished w) ≡ sets e start (column (coding col) vs)
  holds-end = rw h.bytes (stands-bytes col start vs h.done w h.stands e)

  pub holds-size : w.at + length (finished w) ≡ start + length (column (coding col) vs)
  holds-size = stands-size col start vs h.done w h.stands

  pub holds-room : (v : ℕ) (rest : List ℕ) → w.at + length (emitted w v) ≤ start + length (column (coding col) (vs ++ (v ∷ rest)))
  holds-room v rest = stands-room col start vs h.done w h.stands v rest

-- ---- refusals, a value at a time

pick_same : {A : Type 0} (b : Bool) (x : A) → pick b x x ≡ x
pick_same true x = refl
pick_same false x = refl

-- before any value: the refusal of all of them
pub why-start : (col : ColumnKind) (vs : List ℕ) → why_ahead (unjudged col) vs ≡ why (coding col) vs
unfolding why_ahead why fits_ahead
why-start col vs = refl

-- after the last: the sentence
pub why-end : (j : Judge) → why_ahead j [] ≡ sentence j
unfolding why_ahead sentence within spellable last_fits_in fits_ahead storable over_fits
why-end j = ap (λ (b : Bool). pick j.over 3 (pick b (pick (pick j.far false true) 0 13) 3)) (go j.writer.count) ∙ ap (λ (n : ℕ). pick j.over 3 (pick (last_fits_in j.writer) n 3)) (far j.far)
  where
    far : (b : Bool) → ◌≡◌ {A = ℕ} (pick (pick b false true) 0 13) (pick b 13 0)
    far true = refl
    far false = refl

    go : (n : ℕ) → fits_ahead (coding j.writer.column) j.writer.last j.writer.key n [] ≡ pick (eqb n 0) true ((coding j.writer.column).last_fits (n - 1))
    go zero = refl
    go (suc n) = let less : suc n - 1 ≡ n = omega arith in rw (less, ne_eqb (suc n) 0 (omega arith))

-- a value more changes nothing in the refusal of all of them
module _ (j : Judge) (v : ℕ) (rest : List ℕ) where
  -- the runs that are still to come: the one that v ends, and those after it
  fits-push : fits_ahead (coding j.writer.column) j.writer.last j.writer.key j.writer.count (v ∷ rest)
      ≡ pick (run_fits j.writer (key_after j.writer v))
      (fits_ahead (coding j.writer.column) v (key_after j.writer v) (pick (ends (key_after j.writer v) j.writer) 1 (j.writer.count + 1)) rest) false
  unfolding fits_ahead run_fits ends storable over_fits key_after
  fits-push = go j.writer.count
    where
      go : (n : ℕ) → fits_ahead (coding j.writer.column) j.writer.last j.writer.key n (v ∷ rest)
          ≡ pick (pick (pick (eqb n 0) false (pick (eqb ((coding j.writer.column).key_of j.writer.last v) j.writer.key) false true)) ((coding j.writer.column).fits (n - 1)) true)
          (fits_ahead (coding j.writer.column) v ((coding j.writer.column).key_of j.writer.last v)
          (pick (pick (eqb n 0) false (pick (eqb ((coding j.writer.column).key_of j.writer.last v) j.writer.key) false true)) 1 (n + 1)) rest) false
      go zero = refl
      go (suc n) = at (eqb ((coding j.writer.column).key_of j.writer.last v) j.writer.key) refl
        where
          at : (b : Bool) → eqb ((coding j.writer.column).key_of j.writer.last v) j.writer.key ≡ b
              → pick b (over_fits (coding j.writer.column) v j.writer.key (n + 1) rest)
              (pick ((coding j.writer.column).fits n) (over_fits (coding j.writer.column) v ((coding j.writer.column).key_of j.writer.last v) 0 rest) false)
              ≡ pick (pick (pick (eqb (suc n) 0) false (pick b false true)) ((coding j.writer.column).fits (suc n - 1)) true)
              (fits_ahead (coding j.writer.column) v ((coding j.writer.column).key_of j.writer.last v)
              (pick (pick (eqb (suc n) 0) false (pick b false true)) 1 (suc n + 1)) rest) false
          at true e = rw (eqb-true ((coding j.writer.column).key_of j.writer.last v) j.writer.key e, ne_eqb (suc n) 0 (omega arith), suc-add)
          at false e = let less : suc n - 1 ≡ n = omega arith in rw (less, ne_eqb (suc n) 0 (omega arith))

  -- a value that could not be spelled, now or later
  far-push : (near far rest : Bool) → pick (pick near far true) false rest ≡ pick far false (pick near rest false)
  far-push true far rest = refl
  far-push false true rest = refl
  far-push false false rest = refl

  why-over : (rest : List ℕ) → j.over ≡ true → why_ahead j rest ≡ 3
  unfolding why_ahead
  why-over rest e = rw e

  why-limit : ltb (coding j.writer.column).most v ≡ true → why_ahead j (v ∷ rest) ≡ 3
  unfolding why_ahead within
  why-limit l = rw (lt-leb v (coding j.writer.column).most (ltb-true (coding j.writer.column).most v l)) (pick_same j.over 3)

  why-long : run_fits j.writer (key_after j.writer v) ≡ false → why_ahead j (v ∷ rest) ≡ 3
  unfolding why_ahead
  why-long f = rw (fits-push, f) (ap (λ (n : ℕ). pick j.over 3 n) (pick_same (within (coding j.writer.column).most (v ∷ rest)) 3) ∙ pick_same j.over 3)

  why-on : j.over ≡ false → ltb (coding j.writer.column).most v ≡ false → run_fits j.writer (key_after j.writer v) ≡ true
      → why_ahead (goes_on j v) rest ≡ why_ahead j (v ∷ rest)
  unfolding why_ahead within spellable moved key_after
  why-on o l f =
      rw (
        o,
        fits-push,
        f,
        le-leb v (coding j.writer.column).most (ltb-false (coding j.writer.column).most v l),
        far-push ((coding j.writer.column).near (key_after j.writer v)) j.far (spellable (coding j.writer.column) v rest),
      )

  pub why-push : why_ahead (judged j v) rest ≡ why_ahead j (v ∷ rest)
  unfolding judged why_ahead
  why-push = done j.over refl
    where
      over-three : why_ahead (over_limit j) rest ≡ 3
      over-three = refl

      fit : (b : Bool) → run_fits j.writer (key_after j.writer v) ≡ b → j.over ≡ false → ltb (coding j.writer.column).most v ≡ false
          → why_ahead (pick b (goes_on j v) (over_limit j)) rest ≡ why_ahead j (v ∷ rest)
      fit true f o l = why-on o l f
      fit false f o l = over-three ∙ sym (why-long f)

      limit : (b : Bool) → ltb (coding j.writer.column).most v ≡ b → j.over ≡ false
          → why_ahead (pick b (over_limit j) (pick (run_fits j.writer (key_after j.writer v)) (goes_on j v) (over_limit j))) rest ≡ why_ahead j (v ∷ rest)
      limit true l o = over-three ∙ sym (why-limit l)
      limit false l o = fit (run_fits j.writer (key_after j.writer v)) refl o l

      done : (b : Bool) → j.over ≡ b
          → why_ahead (pick b j (pick (ltb (coding j.writer.column).most v) (over_limit j) (pick (run_fits j.writer (key_after j.writer v)) (goes_on j v) (over_limit j)))) rest
          ≡ why_ahead j (v ∷ rest)
      done true e = why-over rest e ∙ sym (why-over (v ∷ rest) e)
      done false e = limit (ltb (coding j.writer.column).most v) refl e
