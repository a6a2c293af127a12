-- What an info byte says: the content number in its low five bits, and three flags.
use Prim.Native.Nat.{ℕ, ◌+◌, ◌*◌, ◌%◌, ◌≤◌, ◌<◌}
use mathlib.Core.Path.{◌≡◌, refl}
use mathlib.Core.Bool.{Bool, true, false}
use native.Mathlib.Omega.{arith}
use lib.Dec.{ltb, eqb}
use borrow.Author.Tests.{lt-ltb, le-ltb, ne_eqb}
use Rattle.numbers.specs.Number.{pick}
use Rattle.block.specs.declared.Block.{Block}
use Rattle.block.specs.Kinds.{is_item}
use Rattle.block.proofs.OfKinds.{item-number}
use Rattle.records.specs.Records.{content_number, bit, info_byte}

abbrev pub not : Bool → Bool
not b = pick b false true

pub record Says (info n : ℕ) (l r k : Bool) : Type 0 where
  pub byte : info ≤ 255
  pub skip : eqb info 10 ≡ false
  pub gc : eqb info 0 ≡ false
  pub low : info % 32 ≡ n
  pub left : ltb info 128 ≡ not l
  pub right : ltb (info % 128) 64 ≡ not r
  pub ids : ltb info 64 ≡ not (pick l true r)
  pub key : pick l true r ≡ false → ltb info 32 ≡ not k

-- ---- a flag as a number

abbrev one : Bool → ℕ
one t = pick t 1 0

one-le : (t : Bool) → one t ≤ 1
one-le true = omega arith
one-le false = omega arith

bit-one : (t : Bool) (n : ℕ) → bit t n ≡ n * one t
bit-one true n = omega arith
bit-one false n = omega arith

decided : (x m : ℕ) (t : Bool) → (one t ≡ 1 → m ≤ x) → (one t ≡ 0 → x < m) → ltb x m ≡ not t
decided x m true p q = le-ltb x m (p refl)
decided x m false p q = lt-ltb x m (q refl)

-- ---- the flags l, r and k beside the number n

module _ (n : ℕ) (some : 1 ≤ n) (few : n ≤ 8) (l r k : Bool) (x : ℕ) (is : x ≡ n + 128 * one l + 64 * one r + 32 * one k) where
  ids-said : ltb x 64 ≡ not (pick l true r)
  ids-said = go l r is
    where
      go : (l r : Bool) → x ≡ n + 128 * one l + 64 * one r + 32 * one k → ltb x 64 ≡ not (pick l true r)
      go true r e = le-ltb x 64 (omega arith)
      go false r e = decided x 64 r (λ b. omega arith) (λ b. omega (arith, one-le k))

  key-said : pick l true r ≡ false → ltb x 32 ≡ not k
  key-said none = go l r none is
    where
      go : (l r : Bool) → pick l true r ≡ false → x ≡ n + 128 * one l + 64 * one r + 32 * one k → ltb x 32 ≡ not k
      go true r none e = absurd (let z : ◌≡◌ {A = ℕ} 0 1 = cc in omega arith)
      go false true none e = absurd (let z : ◌≡◌ {A = ℕ} 0 1 = cc in omega arith)
      go false false none e = decided x 32 k (λ c. omega arith) (λ c. omega arith)

  said : Says x n l r k
  said =
      let a = one-le l in
      let b = one-le r in
      let c = one-le k in
      record {
        byte = omega arith;
        skip = ne_eqb x 10 (λ e. omega arith);
        gc = ne_eqb x 0 (λ e. omega arith);
        low = omega arith;
        left = decided x 128 l (λ e. omega arith) (λ e. omega arith);
        right = decided (x % 128) 64 r (λ e. omega arith) (λ e. omega arith);
        ids = ids-said;
        key = key-said;
      }

-- ---- the byte of an item

pub info-says : (b : Block) → is_item b.kind ≡ true → Says (info_byte b) (content_number b.kind) b.has_left b.has_right b.has_key
unfolding info_byte
info-says b item =
    let n = item-number b.kind item in
    let l = b.has_left in
    let r = b.has_right in
    let k = b.has_key in
    said (content_number b.kind) n.0 n.1 l r k _ (omega (arith, bit-one l 128, bit-one r 64, bit-one k 32))
