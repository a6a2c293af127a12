-- Values onto their column, one after the other: all are taken where they are legal and far from the brim, and the state stands for them.
use Prim.Native.Nat.{ℕ, ◌+◌, ◌*◌, ◌≤◌, ◌<◌}
use mathlib.Core.Path.{◌≡◌, refl, sym, ap, ◌∙◌}
use mathlib.Core.List.{List, [], ◌∷◌, ◌++◌, append-nil, append_assoc}
use mathlib.Core.Bool.{Bool, true, false}
use native.Mathlib.Omega.{arith}
use lib.Dec.{leb}
use lib.ListN.{length}
use lib.Seq.{length-sets}
use borrow.Author.Tests.{lt-ltb, le-leb, leb-true}
use Rattle.numbers.specs.Number.{pick}
use Rattle.runs.specs.declared.ColumnKind.{ColumnKind}
use Rattle.runs.specs.declared.writer.Writer.{Writer}
use Rattle.runs.specs.Runs.{coding, column, within, spellable}
use Rattle.runs.specs.Writer.{key_after, emitted, pushed}
use Rattle.runs.proofs.Standing.{Holds, pushed-column, pushed_at, pushed-last, pushed-count, holds-push, holds-room}
use Rattle.tokens.specs.Lanes.{Lane}
use Rattle.parts.specs.Brim.{brim}
use Rattle.tokens.specs.Lanes.{takes, pushed_on, laid_value, pushed_all, laid_values}
use Rattle.tokens.proofs.Laying.{onward, far_with, value_on, value-laid}
use Rattle.tokens.proofs.Sizes.{emitted-le}

-- ---- values after values

pub pushed-append : (e : Lane) (a b : List ℕ) → pushed_all e (a ++ b) ≡ pushed_all (pushed_all e a) b
unfolding pushed_all
pushed-append e [] b = refl
pushed-append e (v ∷ a) b = pushed-append (pushed_on e v) a b

pub values-append : (out : List ℕ) (e : Lane) (a b : List ℕ) → laid_values out e (a ++ b) ≡ laid_values (laid_values out e a) (pushed_all e a) b
unfolding laid_values pushed_all
values-append out e [] b = refl
values-append out e (v ∷ a) b = values-append (laid_value out e v) (pushed_on e v) a b

-- ---- all are taken

pub record Ready (e : Lane) (vs : List ℕ) : Type 0 where
  pub legal : within (coding e.run.column).most vs ≡ true
  pub low : e.run.at + 21 * length vs < brim
  pub few : e.run.count + length vs < brim

within-cons : (m v : ℕ) (vs : List ℕ) → within m (v ∷ vs) ≡ true → (v ≤ m) × (within m vs ≡ true)
unfolding within
within-cons m v vs h = go (leb v m) refl h
  where
    go : (b : Bool) → leb v m ≡ b → pick b (within m vs) false ≡ true → (v ≤ m) × (within m vs ≡ true)
    go true e h = (leb-true v m e, h)
    go false e h = absurd (let z : ◌≡◌ {A = ℕ} 0 1 = cc in omega arith)

takes-legal : (w : Writer) (v : ℕ) → w.at < brim → w.count < brim → v ≤ (coding w.column).most → takes w v ≡ true
unfolding takes
takes-legal w v a n h = rw (lt-ltb w.at brim a, lt-ltb w.count brim n, le-leb v (coding w.column).most h)

module _ (e : Lane) (v : ℕ) (vs : List ℕ) (r : Ready e (v ∷ vs)) where
  ready-legal : v ≤ (coding e.run.column).most
  ready-legal = (within-cons (coding e.run.column).most v vs r.legal).0

  ready-takes : takes e.run v ≡ true
  ready-takes = takes-legal e.run v (omega (arith, r.low)) (omega (arith, r.few)) ready-legal

  ready_on : pushed_on e v ≡ onward e (pushed e.run v) (far_with e v)
  ready_on = sym (value_on [] e v (pushed e.run v) (far_with e v) ready-takes refl refl)

  ready-next : Ready (pushed_on e v) vs
  ready-next = rw ready_on record {
    legal = rw pushed-column (within-cons (coding e.run.column).most v vs r.legal).1;
    low = omega (arith, r.low, pushed_at e.run v, emitted-le e.run v);
    few = omega (arith, r.few, pushed-count e.run v);
  }

-- ---- a difference that could not be spelled, now or later

far-next : (near far rest : Bool) → pick rest (pick near far true) true ≡ pick (pick near rest false) far true
far-next true far rest = refl
far-next false far true = refl
far-next false far false = refl

pub far-all : (e : Lane) (vs : List ℕ) → Ready e vs → (pushed_all e vs).far ≡ pick (spellable (coding e.run.column) e.run.last vs) e.far true
unfolding pushed_all spellable key_after
far-all e [] r = refl
far-all e (v ∷ vs) r =
    far-all (pushed_on e v) vs (ready-next e v vs r)
    ∙ rw (ready_on e v vs r, pushed-column, pushed-last)
    (far-next ((coding e.run.column).near (key_after e.run v)) e.far (spellable (coding e.run.column) v vs))

-- ---- what the state stands for, and what the bytes lent hold

pub holds-all : (col : ColumnKind) (o : List ℕ) (start : ℕ) (us : List ℕ) (e : Lane) (out : List ℕ) (vs : List ℕ) → Ready e vs
    → start + length (column (coding col) (us ++ vs)) ≤ length o → Holds col o start us e.run out
    → Holds col o start (us ++ vs) (pushed_all e vs).run (laid_values out e vs)
unfolding pushed_all laid_values
holds-all col o start us e out [] r room h = rw append-nil h
holds-all col o start us e out (v ∷ vs) r room h =
    rw (sym (append_assoc us (v ∷ []) vs))
    (holds-all col o start (us ++ (v ∷ [])) (pushed_on e v) (laid_value out e v) vs (ready-next e v vs r) (rw (append_assoc us (v ∷ []) vs) room) next)
  where
    fits : e.run.at + length (emitted e.run v) ≤ length out
    fits = omega (arith, holds-room col o start us e.run out h v vs, room, ap length h.bytes, length-sets o start h.done)

    next : Holds col o start (us ++ (v ∷ [])) (pushed_on e v).run (laid_value out e v)
    next =
        let l = le-leb (e.run.at + length (emitted e.run v)) (length out) fits in
        rw (ready_on e v vs r, ← value-laid out e v (length (emitted e.run v)) (ready-takes e v vs r) refl l)
        (holds-push col o start us e.run out h v (rw (← h.stands.kind) (ready-legal e v vs r)))
