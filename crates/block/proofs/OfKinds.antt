-- Laws of kinds: what each kind says, and which kinds there are where something is said of a kind.
use Prim.Native.Nat.{ℕ, ◌≤◌}
use mathlib.Core.Path.{◌≡◌, refl, sym}
use mathlib.Core.Logic.{◌⊎◌, inl, inr}
use mathlib.Core.Bool.{Bool, true, false, ◌||◌}
use native.Mathlib.Omega.{arith}
use borrow.Author.Tests.{eqb-true}
use Rattle.block.specs.Kinds.{GC, SKIP, DELETED, BINARY, TEXT, FORMAT, TYPE, ANY, is_gc, is_skip, is_deleted, is_binary, is_text, is_format, is_type, is_any, is_item}
use Rattle.block.specs.KindsInner.{is_bare, is_block, has_part, content_number, is_marked}

clash : {A : Type 0} → false ≡ true → A
clash e = absurd (let z : ◌≡◌ {A = ℕ} 0 1 = cc in omega arith)

first-not : (x y : Bool) → (x || y) ≡ false → x ≡ false
first-not true y h = clash (sym h)
first-not false y h = refl

second-not : (x y : Bool) → (x || y) ≡ false → y ≡ false
second-not true y h = clash (sym h)
second-not false y h = h

-- ---- which kinds they are

pub bare-kinds : (k : ℕ) → is_bare k ≡ true → (k ≡ GC) ⊎ (k ≡ SKIP)
unfolding is_bare
bare-kinds k = go (is_gc k) refl
  where
    go : (x : Bool) → is_gc k ≡ x → (x || is_skip k) ≡ true → (k ≡ GC) ⊎ (k ≡ SKIP)
    go true e h = inl (eqb-true k GC e)
    go false e h = inr (eqb-true k SKIP h)

pub part-kinds : (k : ℕ) → has_part k ≡ true → (k ≡ BINARY) ⊎ (k ≡ TEXT) ⊎ (k ≡ FORMAT) ⊎ (k ≡ ANY)
unfolding has_part
part-kinds k = go (is_binary k) refl (is_text k) refl (is_format k) refl
  where
    go : (x : Bool) → is_binary k ≡ x → (y : Bool) → is_text k ≡ y → (z : Bool) → is_format k ≡ z → (x || y || z || is_any k) ≡ true
        → (k ≡ BINARY) ⊎ (k ≡ TEXT) ⊎ (k ≡ FORMAT) ⊎ (k ≡ ANY)
    go true e y f z g h = inl (eqb-true k BINARY e)
    go false e true f z g h = inr (inl (eqb-true k TEXT f))
    go false e false f true g h = inr (inr (inl (eqb-true k FORMAT g)))
    go false e false f false g h = inr (inr (inr (eqb-true k ANY h)))

-- the kinds of items
abbrev pub AnItem : ℕ → Type 0
AnItem k = (k ≡ DELETED) ⊎ (k ≡ BINARY) ⊎ (k ≡ TEXT) ⊎ (k ≡ FORMAT) ⊎ (k ≡ TYPE) ⊎ (k ≡ ANY)

pub item-kinds : (k : ℕ) → is_item k ≡ true → AnItem k
unfolding is_item
item-kinds k = go (is_deleted k) refl (is_binary k) refl (is_text k) refl (is_format k) refl (is_type k) refl
  where
    go : (x : Bool) → is_deleted k ≡ x → (y : Bool) → is_binary k ≡ y → (z : Bool) → is_text k ≡ z → (v : Bool) → is_format k ≡ v
        → (w : Bool) → is_type k ≡ w → (x || y || z || v || w || is_any k) ≡ true → AnItem k
    go true a y b z c v d w e h = inl (eqb-true k DELETED a)
    go false a true b z c v d w e h = inr (inl (eqb-true k BINARY b))
    go false a false b true c v d w e h = inr (inr (inl (eqb-true k TEXT c)))
    go false a false b false c true d w e h = inr (inr (inr (inl (eqb-true k FORMAT d))))
    go false a false b false c false d true e h = inr (inr (inr (inr (inl (eqb-true k TYPE e)))))
    go false a false b false c false d false e h = inr (inr (inr (inr (inr (eqb-true k ANY h)))))

-- ---- a block is bare or an item, and not both

pub block-bare : (k : ℕ) → is_block k ≡ true → is_item k ≡ false → is_bare k ≡ true
unfolding is_block
block-bare k = go (is_bare k) (is_item k)
  where
    go : (x y : Bool) → (x || y) ≡ true → y ≡ false → x ≡ true
    go true y h e = refl
    go false false h e = h
    go false true h e = clash (sym e)

pub bare-item : (k : ℕ) → is_bare k ≡ true → is_item k ≡ false
unfolding is_item
bare-item k h = go (bare-kinds k h)
  where
    go : (k ≡ GC) ⊎ (k ≡ SKIP) → is_item k ≡ false
    go (inl e) = rw e
    go (inr e) = rw e

pub item-bare : (k : ℕ) → is_item k ≡ true → is_bare k ≡ false
unfolding is_bare
item-bare k h = go (item-kinds k h)
  where
    go : AnItem k → is_bare k ≡ false
    go (inl e) = rw e
    go (inr (inl e)) = rw e
    go (inr (inr (inl e))) = rw e
    go (inr (inr (inr (inl e)))) = rw e
    go (inr (inr (inr (inr (inl e))))) = rw e
    go (inr (inr (inr (inr (inr e))))) = rw e

pub bare-gc : (k : ℕ) → is_bare k ≡ false → is_gc k ≡ false
unfolding is_bare
bare-gc k = first-not (is_gc k) (is_skip k)

pub bare-skip : (k : ℕ) → is_bare k ≡ false → is_skip k ≡ false
unfolding is_bare
bare-skip k = second-not (is_gc k) (is_skip k)

-- ---- only items have a part, and a text has one

pub item-part : (k : ℕ) → is_item k ≡ false → has_part k ≡ false
unfolding is_item has_part
item-part k = go (is_deleted k) (is_binary k) (is_text k) (is_format k) (is_type k) (is_any k)
  where
    go : (x y z v w a : Bool) → (x || y || z || v || w || a) ≡ false → (y || z || v || a) ≡ false
    go true y z v w a h = clash (sym h)
    go false true z v w a h = h
    go false false true v w a h = h
    go false false false true w a h = h
    go false false false false true a h = clash (sym h)
    go false false false false false a h = h

pub part-text : (k : ℕ) → has_part k ≡ false → is_text k ≡ false
unfolding has_part
part-text k h =
    second-not (is_binary k) (is_text k)
    (first-not (is_binary k || is_text k) (is_format k) (first-not (is_binary k || is_text k || is_format k) (is_any k) h))

pub part-any : (k : ℕ) → has_part k ≡ false → is_any k ≡ false
unfolding has_part
part-any k = second-not (is_binary k || is_text k || is_format k) (is_any k)

-- an item has content
pub item-number : (k : ℕ) → is_item k ≡ true → (1 ≤ content_number k) × (content_number k ≤ 8)
unfolding content_number
item-number k h = go (item-kinds k h)
  where
    go : AnItem k → (1 ≤ content_number k) × (content_number k ≤ 8)
    go (inl e) = rw e (omega arith, omega arith)
    go (inr (inl e)) = rw e (omega arith, omega arith)
    go (inr (inr (inl e))) = rw e (omega arith, omega arith)
    go (inr (inr (inr (inl e)))) = rw e (omega arith, omega arith)
    go (inr (inr (inr (inr (inl e))))) = rw e (omega arith, omega arith)
    go (inr (inr (inr (inr (inr e))))) = rw e (omega arith, omega arith)
