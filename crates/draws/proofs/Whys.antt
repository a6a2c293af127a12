-- No column refuses what it takes of tokens that can be written in form 2.
use Prim.Native.Nat.{ℕ, ◌≤◌}
use mathlib.Core.Path.{◌≡◌, refl}
use mathlib.Core.Logic.{◌≢◌}
use mathlib.Core.Bool.{Bool, true, false}
use mathlib.Core.List.{List, []}
use native.Mathlib.Omega.{arith}
use lib.ListN.{length}
use Rattle.numbers.specs.Number.{pick}
use Rattle.numbers.specs.Limits.{max_value, max_clock, max_count}
use Rattle.runs.specs.declared.ColumnKind.TheVariants.{Number, Difference, Byte}
use Rattle.runs.specs.Runs.{coding, spellable, why}
use Rattle.tokens.specs.Tokens.{Token, taken_all, in_line, keys, clients, lefts, rights, infos, texts, units, parents, types, lens, whole}
use Rattle.tokens.specs.Keys.{numbered}
use Rattle.tokens.specs.Bytes.{near_in, near}
use Rattle.tokens.proofs.Keys.{taken-numbered, keys-near}
use Rattle.draws.specs.Draws.{most, AllLegal}
use Rattle.draws.proofs.Runs.{number-why, difference-why, byte-why}
use Rattle.draws.proofs.Values.{values-fit, no_keys}

pub record Whys (ts : List Token) : Type 0 where
  pub key : why (coding Difference) (taken_all keys ts) ≡ 0
  pub client : why (coding Number) (taken_all clients ts) ≡ 0
  pub left : why (coding Difference) (taken_all lefts ts) ≡ 0
  pub right : why (coding Difference) (taken_all rights ts) ≡ 0
  pub info : why (coding Byte) (taken_all infos ts) ≡ 0
  pub units : why (coding Number) (taken_all units ts) ≡ 0
  pub parent : why (coding Byte) (taken_all parents ts) ≡ 0
  pub type : why (coding Number) (taken_all types ts) ≡ 0
  pub len : why (coding Number) (taken_all lens ts) ≡ 0

module _ (ts : List Token) (legal : AllLegal 2 ts) (few : length ts ≤ max_count) where
  abbrev us : List Token
  us = numbered [] ts

  numbers-why : (k : ℕ) → in_line k ≡ false → most k ≤ max_value → why (coding Number) (taken_all k us) ≡ 0
  numbers-why k c l =
      let f = values-fit k max_value c l (λ e. omega arith) (λ e. omega arith) [] ts (omega arith) legal in
      number-why (taken_all k us) (omega (arith, f.1)) f.0

  differences-why : (k : ℕ) → in_line k ≡ false → most k ≤ max_clock → k ≢ units → spellable (coding Difference) 0 (taken_all k us) ≡ true
      → why (coding Difference) (taken_all k us) ≡ 0
  differences-why k c l u n =
      let f = values-fit k max_clock c l (λ e. absurd (u e)) (λ e. omega arith) [] ts (omega arith) legal in
      difference-why (taken_all k us) (omega (arith, f.1)) f.0 n

  bytes-why : (k : ℕ) → in_line k ≡ false → most k ≤ 255 → k ≢ units → k ≢ keys → why (coding Byte) (taken_all k us) ≡ 0
  bytes-why k c l u i =
      let f = values-fit k 255 c l (λ e. absurd (u e)) (λ e. absurd (i e)) [] ts (omega arith) legal in
      byte-why (taken_all k us) (omega (arith, f.1)) f.0

  -- a column of clocks takes as much with the keys by number
  clocks-why : (k : ℕ) → in_line k ≡ false → most k ≤ max_clock → k ≢ units → k ≢ keys → k ≢ texts → k ≢ whole → near_in k ts ≡ true
      → why (coding Difference) (taken_all k us) ≡ 0
  unfolding near_in
  clocks-why k c l u i t w n = differences-why k c l u (rw (taken-numbered k w i t u [] ts) n)

  pub whys : near 2 ts ≡ true → Whys us
  unfolding most in_line near
  whys n =
      let both = near-both (near_in lefts ts) (near_in rights ts) n in
      record {
        key = differences-why keys refl (omega arith) (λ e. omega arith) (keys-near ts (no_keys 2 ts legal));
        client = numbers-why clients refl (omega arith);
        left = clocks-why lefts refl (omega arith) (λ e. omega arith) (λ e. omega arith) (λ e. omega arith) (λ e. omega arith) both.0;
        right = clocks-why rights refl (omega arith) (λ e. omega arith) (λ e. omega arith) (λ e. omega arith) (λ e. omega arith) both.1;
        info = bytes-why infos refl (omega arith) (λ e. omega arith) (λ e. omega arith);
        units = numbers-why units refl (omega arith);
        parent = bytes-why parents refl (omega arith) (λ e. omega arith) (λ e. omega arith);
        type = numbers-why types refl (omega arith);
        len = numbers-why lens refl (omega arith);
      }
    where
      near-both : (x y : Bool) → pick x y false ≡ true → (x ≡ true) × (y ≡ true)
      near-both true y h = (refl, h)
      near-both false y h = let z : ◌≡◌ {A = ℕ} 0 1 = cc in absurd (omega arith)
