-- The laws of the delete set's steps: what a number read at a place says of its field, and each way out of a step of what is to come.
use Rattle.std.specs.Prelude.{Ok, Err}
use Prim.Native.Nat.{ℕ, suc, ◌+◌, ◌-◌, ◌≤◌, ◌<◌}
use mathlib.Core.Path.{◌≡◌, refl, sym, ap, ◌∙◌}
use mathlib.Core.Logic.{◌≢◌}
use mathlib.Core.Bool.{Bool, true, false}
use mathlib.Core.List.{List}
use native.Mathlib.Omega.{arith}
use lib.Dec.{ltb, eqb}
use borrow.Author.Tests.{lt-ltb, le-ltb, ltb-false, eq-eqb, ne_eqb}
use Rattle.numbers.specs.declared.Refusal.{Refusal}
use Rattle.numbers.specs.declared.Read.{Read}
use Rattle.numbers.specs.declared.Read.TheVariants as read
use Rattle.numbers.specs.Number.{pick, read_unsigned}
use Rattle.numbers.specs.NumberInner.{why_read}
use Rattle.numbers.specs.Limits.{max_clock, max_value, max_clients}
use Rattle.ranges.specs.Ranges.{Range}
use Rattle.grammar.specs.Grammar.{Grammar}
use Rattle.grammar.specs.Grammar.{◌>>=◌}
use Rattle.grammar.specs.Course.{Drawn, got, not, Reader, stopped, on_drawn, run}
use Rattle.grammar.specs.Deletes.{ranges, deleted_clients, all_ranges}
use Rattle.decoder.specs.Line.{number_at, var_at, bounded, up_to, restored, delete_at, number_by, line}
use Rattle.decoder.specs.Update.{delete_set}
use Rattle.deletes.specs.declared.Spot.{Spot}
use Rattle.deletes.specs.declared.Move.TheVariants as move
use Rattle.deletes.specs.Steps.{restored_to, first_of, to_come, comes, after, left, Keeps, Follows}

-- ---- numbers by their place

module _ (at : ℕ) where
  tested : (b : Bool) (w e : ℕ) → pick b (not (record { number = 3; place = at })) (got (w, at) e)
      ≡ number_at at (pick b (read.Refused (record { number = 3; place = at })) (read.Number w e))
  unfolding number_at
  tested true w e = refl
  tested false w e = refl

  restored-bounded : (most : ℕ) (r : Read) → bounded most (number_at at r) ≡ number_at at (restored_to most 0 at r)
  unfolding bounded number_at restored_to
  restored-bounded most (read.Number v e) = let z : 0 + v ≡ v = omega arith in rw z (tested (ltb most v) v e)
  restored-bounded most (read.Refused why) = refl

  restored-read : (by : ℕ) (b : Bool) (r : Read) → pick b (bounded max_clock (number_at at r)) (restored by (number_at at r)) ≡ number_at at (restored_to max_clock (pick b 0 by) at r)
  unfolding restored number_at restored_to
  restored-read by true r = restored-bounded max_clock r
  restored-read by false (read.Number v e) = tested (ltb max_clock (by + v)) (by + v) e
  restored-read by false (read.Refused why) = refl

  -- within the limit
  restored-low : (most by : ℕ) (r : Read) (v e : ℕ) → restored_to most by at r ≡ read.Number v e → v ≤ most
  unfolding restored_to
  restored-low most by (read.Refused why) v e h = absurd (let z : ◌≡◌ {A = ℕ} 0 1 = cc in omega arith)
  restored-low most by (read.Number x q) v e h = go (ltb most (by + x)) refl h
    where
      go : (b : Bool) → ltb most (by + x) ≡ b → pick b (read.Refused (record { number = 3; place = at })) (read.Number (by + x) q) ≡ read.Number v e → v ≤ most
      go true l h = absurd (let z : ◌≡◌ {A = ℕ} 0 1 = cc in omega arith)
      go false l h = let a : by + x ≡ v = cc in omega (arith, ltb-false most (by + x) l)

module _ (u : List ℕ) (at : ℕ) (r : Read) where
  pub reads-any : r ≡ read_unsigned u at → var_at u at ≡ number_at at r
  unfolding var_at
  reads-any h = ap (number_at at) (sym h)

  pub reads-up-to : (most : ℕ) → r ≡ restored_to most 0 at (read_unsigned u at) → up_to most u at ≡ number_at at r
  unfolding up_to var_at
  reads-up-to most h = restored-bounded at most (read_unsigned u at) ∙ ap (number_at at) (sym h)

  pub reads-delete : (form by low : ℕ) → low ≡ pick (eqb form 1) 0 by → r ≡ restored_to max_clock low at (read_unsigned u at) → delete_at form by u at ≡ number_at at r
  unfolding delete_at up_to var_at
  reads-delete form by low l h =
      restored-read at by (eqb form 1) (read_unsigned u at) ∙ ap (λ (x : ℕ). number_at at (restored_to max_clock x at (read_unsigned u at))) (sym l) ∙ ap (number_at at) (sym h)

  pub reads-low : (most by v e : ℕ) → r ≡ restored_to most by at (read_unsigned u at) → r ≡ read.Number v e → v ≤ most
  reads-low most by v e h q = restored-low at most by (read_unsigned u at) v e (sym h ∙ q)

module _ (at : ℕ) (r : Read) (d : Drawn ℕ (ℕ × ℕ)) (h : d ≡ number_at at r) where
  pub drew : (v e : ℕ) → r ≡ read.Number v e → d ≡ got (v, at) e
  unfolding number_at
  drew v e q = h ∙ ap (number_at at) q

  pub drew-not : (why w : Refusal) → r ≡ read.Refused why → w ≡ why_read r → d ≡ not w
  unfolding number_at
  drew-not why w q s = h ∙ ap (number_at at) q ∙ ap not (sym (s ∙ ap why_read q))

-- ---- the client count

module _ (form : ℕ) (u : List ℕ) (at : ℕ) where
  pub set-begins : (n e : ℕ) → up_to max_clients u at ≡ got (n, at) e → delete_set form u at ≡ comes form u (first_of n e)
  unfolding delete_set all_ranges comes to_come ranges ◌>>=◌ run on_drawn line number_by
  set-begins n e h = rw h refl

  pub set-not : (why : Refusal) → up_to max_clients u at ≡ not why → delete_set form u at ≡ stopped why
  unfolding delete_set all_ranges ◌>>=◌ run on_drawn line number_by
  set-not why h = rw h refl

-- ---- one range

-- of two ways on, the one that is chosen
module _ (r : Reader ℕ) (x y : Grammar Range (Unit {0})) (g : Unit {0} → Grammar Range (Unit {0})) (s : ℕ) where
  chosen : (b c : Bool) → b ≡ c → run r (pick b x y >>= g) s ≡ pick c (run r (x >>= g) s) (run r (y >>= g) s)
  chosen b true e = ap (λ (b : Bool). run r (pick b x y >>= g) s) e
  chosen b false e = ap (λ (b : Bool). run r (pick b x y >>= g) s) e

module _ (form : ℕ) (u : List ℕ) (p : Spot) (m : 0 < p.ranges) where
  one_more : comes form u p ≡ run (line form u) (ranges (suc (p.ranges - 1)) p.client p.end >>= λ _. deleted_clients p.clients) p.at
  unfolding comes to_come
  one_more = let e : p.ranges ≡ suc (p.ranges - 1) = omega arith in ap (λ (k : ℕ). run (line form u) (ranges k p.client p.end >>= λ _. deleted_clients p.clients) p.at) e

  pub range-no-clock : (why : Refusal) → delete_at form p.end u p.at ≡ not why → Follows form u p (Err why)
  unfolding ranges ◌>>=◌ run on_drawn line number_by after Keeps
  range-no-clock why h = (one_more ∙ rw h refl, tt)

  module _ (clock t : ℕ) (h : delete_at form p.end u p.at ≡ got (clock, p.at) t) where
    pub range-no-len : (why : Refusal) → delete_at form 1 u t ≡ not why → Follows form u p (Err why)
    unfolding ranges ◌>>=◌ run on_drawn line number_by after Keeps
    range-no-len why k = (one_more ∙ rw (h, k) refl, tt)

    module _ (len e : ℕ) (k : delete_at form 1 u t ≡ got (len, t) e) where
      pub range-over : max_clock < clock + len → Follows form u p (Err (record { number = 3; place = p.at }))
      unfolding ranges ◌>>=◌ run on_drawn line number_by after Keeps
      range-over l = (one_more ∙ rw (h, k) (chosen _ _ _ _ e _ true (lt-ltb _ _ l)), tt)

      abbrev past : Spot
      past = record { at = e; clients = p.clients; ranges = p.ranges - 1; client = p.client; end = clock + len }

      pub range-empty : clock + len ≤ max_clock → len ≡ 0 → Follows form u p (Ok (move.On past))
      unfolding ranges ◌>>=◌ run on_drawn line number_by after comes to_come Keeps left
      range-empty l z = (one_more ∙ rw (h, k) (chosen _ _ _ _ e _ false (le-ltb _ _ l) ∙ chosen _ _ _ _ e _ true (eq-eqb _ 0 z)), (omega arith, λ b. b))

      pub range-some : clock + len ≤ max_clock → len ≢ 0 → Follows form u p (Ok (move.Range p.client clock len p.at past))
      unfolding ranges ◌>>=◌ run on_drawn line number_by after comes to_come Keeps left
      range-some l z = (one_more ∙ rw (h, k) (chosen _ _ _ _ e _ false (le-ltb _ _ l) ∙ chosen _ _ _ _ e _ false (ne_eqb _ 0 z)), (omega arith, λ b. (record { some = omega arith; end = l; client = b }, b)))

-- ---- a client's head

module _ (form : ℕ) (u : List ℕ) (p : Spot) (m : 0 < p.clients) (z : p.ranges ≡ 0) where
  one-client : comes form u p ≡ run (line form u) (deleted_clients (suc (p.clients - 1))) p.at
  unfolding comes to_come ranges ◌>>=◌
  one-client = let e : p.clients ≡ suc (p.clients - 1) = omega arith in rw z (ap (λ (n : ℕ). run (line form u) (deleted_clients n) p.at) e)

  pub head-no-client : (why : Refusal) → up_to max_value u p.at ≡ not why → Follows form u p (Err why)
  unfolding deleted_clients ◌>>=◌ run on_drawn line number_by after Keeps
  head-no-client why h = (one-client ∙ rw h refl, tt)

  module _ (client t : ℕ) (h : up_to max_value u p.at ≡ got (client, p.at) t) where
    pub head-no-count : (why : Refusal) → var_at u t ≡ not why → Follows form u p (Err why)
    unfolding deleted_clients ◌>>=◌ run on_drawn line number_by after Keeps
    head-no-count why k = (one-client ∙ rw (h, k) refl, tt)

    pub head-on : (count e : ℕ) → var_at u t ≡ got (count, t) e → client ≤ max_value → count < 18446744073709551616
        → Follows form u p (Ok (move.On (record { at = e; clients = p.clients - 1; ranges = count; client = client; end = 0 })))
    unfolding deleted_clients ◌>>=◌ run on_drawn line number_by after comes to_come Keeps left
    head-on count e k l c = (one-client ∙ rw (h, k) refl, (omega arith, λ _. l))

-- ---- nothing is left

pub no_more : (form : ℕ) (u : List ℕ) (p : Spot) → p.ranges ≡ 0 → p.clients ≡ 0 → Follows form u p (Ok (move.Done p.at))
unfolding comes to_come ranges deleted_clients ◌>>=◌ run after Keeps
no_more form u p z y = (rw (z, y) refl, tt)
