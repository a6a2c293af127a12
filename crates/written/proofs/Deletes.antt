-- The delete set read again: ranges in normal form come out as they are.
use Prim.Native.Nat.{ℕ, suc, ◌+◌, ◌-◌, ◌≤◌}
use mathlib.Core.Path.{◌≡◌, refl, sym, ap, ◌∙◌}
use mathlib.Core.Bool.{Bool, true, false}
use mathlib.Core.List.{List, [], ◌∷◌, ◌++◌}
use native.Mathlib.Omega.{arith}
use lib.Dec.{eqb}
use lib.ListN.{length}
use borrow.Author.Tests.{le-ltb, ne_eqb}
use Rattle.numbers.specs.Number.{pick}
use Rattle.numbers.specs.Limits.{max_clock, max_clients, max_value}
use Rattle.grammar.specs.Grammar as grammar
use Rattle.grammar.specs.Grammar.{◌>>=◌}
use Rattle.grammar.specs.Course.{got, Reader, thing, over, run}
use Rattle.grammar.specs.Deletes.{ranges, deleted_clients, all_ranges}
use Rattle.grammar.proofs.Runs.{run_bind}
use Rattle.decoder.specs.Line.{var_at, up_to, restored, delete_at, number_by, line}
use Rattle.decoder.specs.Update.{delete_set}
use Rattle.ranges.specs.Ranges.{Range, normal}
use Rattle.ranges.specs.RangesInner.{Normal}
use Rattle.ranges.specs.Table.{range}
use Rattle.ranges.specs.TableInner.{Fine}
use Rattle.ranges.proofs.Theory.{same-range, is_normal}
use Rattle.readings.specs.Sound.{All}
use Rattle.readings.specs.Groups.{groups}
use Rattle.readings.specs.GroupsInner.{joined}
use Rattle.readings.proofs.Groups.{groups-joined, groups-all}
use Rattle.readings.proofs.RangeGroups.{Rising, Grouped, grouped}
use Rattle.draws.specs.Draws.{Draws, Lined}
use Rattle.draws.proofs.Fields.{bounded-in}
use Rattle.draws.proofs.Splits.{split}
use Rattle.records.specs.Records.{clock_from, length_of, ranges_tokens, client_tokens, owner_of, delete_tokens}
use Rattle.written.specs.Written.{Goes}
use Rattle.written.specs.Kept.{KeptRanges}
use Rattle.written.proofs.Courses.{draw-on, goes-from, goes_then}

abbrev Is : Range → Range → Type 0
Is a b = a ≡ b

module _ {S : Type 0} {form : ℕ} {r : Reader S} {place : S → ℕ} {d : List ℕ} (lined : Lined form d r place) where
  -- ---- the numbers of a delete set, each in line

  abbrev Next : S → ℕ → ℕ → S → Type 0
  Next s v p m = r (grammar.number grammar.any) s ≡ got (v, p) m

  any-read : (s m : S) (v p : ℕ) → Next s v p m → var_at d (place s) ≡ got (v, p) (place m)
  unfolding line number_by
  any-read s m v p e = lined.any v p s m e

  within-read : (s m : S) (n v p : ℕ) → Next s v p m → v ≤ n → up_to n d (place s) ≡ got (v, p) (place m)
  unfolding up_to
  within-read s m n v p e l = rw (any-read s m v p e) (bounded-in n v p (place m) l)

  -- a clock or a length w, which form 2 has less so much
  restored-read : (s m : S) (by w p : ℕ) → by ≤ w → w ≤ max_clock → Next s (pick (eqb form 1) w (w - by)) p m → delete_at form by d (place s) ≡ got (w, p) (place m)
  unfolding delete_at restored
  restored-read s m by w p l few e = go (eqb form 1) e
    where
      go : (x : Bool) → Next s (pick x w (w - by)) p m → pick x (up_to max_clock d (place s)) (restored by (var_at d (place s))) ≡ got (w, p) (place m)
      go true e = within-read s m max_clock w p e few
      go false e =
          let same : by + (w - by) ≡ w = omega arith in
          rw (any-read s m (w - by) p e, same, le-ltb max_clock w few)

  -- ---- the ranges of a client

  module _ (client : ℕ) where
    -- one range more
    record One (k end : ℕ) (x : Range) (s : S) (rest : S → Type 0) : Type 0 where
      at : ℕ
      on : S
      is : run (line form d) (ranges (suc k) client end) (place s)
          ≡ thing (range client x.clock x.len) at (run (line form d) (ranges k client (x.clock + x.len)) (place on))
      drawn : rest on

    range-read : (k end : ℕ) (x : Range) (xs : List Range) (s m : S) → Fine x → end ≤ x.clock → Draws r d s (ranges_tokens form end (x ∷ xs)) m
        → One k end x s (λ (t : S). Draws r d t (ranges_tokens form (x.clock + x.len) xs) m)
    unfolding ranges_tokens clock_from length_of ranges Draws line number_by run
    range-read k end x xs s m fine l h =
        let a = h.3 in
        let clock = restored-read s h.1 end x.clock h.0 l (omega (arith, fine.end)) h.2 in
        let len = restored-read h.1 a.1 1 x.len a.0 fine.some (omega (arith, fine.end)) a.2 in
        record {
          at = h.0;
          on = a.1;
          is = draw-on (line form d) (grammar.number (grammar.delete_clock end)) (x.clock, h.0) (place s) (place h.1) _ clock
              ∙ draw-on (line form d) (grammar.number grammar.delete_len) (x.len, a.0) (place h.1) (place a.1) _ len
              ∙ rw (le-ltb max_clock (x.clock + x.len) fine.end, ne_eqb x.len 0 (λ e. omega (arith, fine.some)));
          drawn = a.3;
        }

    none_left : (end : ℕ) (s m : S) → Draws r d s (ranges_tokens form end []) m → run (line form d) (ranges 0 client end) (place s) ≡ over tt (place m)
    unfolding ranges_tokens ranges Draws run
    none_left end s m h = ap (λ (t : S). over tt (place t)) h

    ranges-read : (xs : List Range) (end low : ℕ) (s m : S) → Rising client low xs → end ≤ low → All Fine xs
        → Draws r d s (ranges_tokens form end xs) m → Goes Is xs (run (line form d) (ranges (length xs) client end) (place s)) (over tt (place m))
    unfolding Goes
    ranges-read [] end low s m rise l fine h = none_left end s m h
    ranges-read (x ∷ xs) end low s m rise l fine h =
        let one = range-read (length xs) end x xs s m fine.0 (omega (arith, rise.1)) h in
        let more = ranges-read xs (x.clock + x.len) (suc (x.clock + x.len)) one.on m rise.3 (omega arith) fine.1 one.drawn in (
          range client x.clock x.len,
          one.at,
          run (line form d) (ranges (length xs) client (x.clock + x.len)) (place one.on),
          one.is,
          same-range (range client x.clock x.len) x (sym rise.0) refl refl,
          more,
        )

  -- ---- client after client

  clients-end : (s m : S) → Draws r d s (client_tokens form []) m → Goes Is [] (run (line form d) (deleted_clients 0) (place s)) (over tt (place m))
  unfolding client_tokens deleted_clients Draws run Goes
  clients-end s m h = ap (λ (t : S). over tt (place t)) h

  record Head (n : ℕ) (x : Range) (xs : List Range) (s : S) (rest : S → Type 0) : Type 0 where
    from : S
    is : run (line form d) (deleted_clients (suc n)) (place s) ≡ run (line form d) (ranges (length (x ∷ xs)) x.client 0 >>= λ _. deleted_clients n) (place from)
    drawn : rest from

  head_read : (n : ℕ) (x : Range) (xs : List Range) (gs : List (List Range)) (s m : S) → Fine x → Draws r d s (client_tokens form ((x ∷ xs) ∷ gs)) m
      → Head n x xs s (λ (t : S). Draws r d t (ranges_tokens form 0 (x ∷ xs) ++ client_tokens form gs) m)
  unfolding client_tokens deleted_clients Draws line number_by
  head_read n x xs gs s m fine h =
      let a = h.3 in
      record {
        from = a.1;
        is = draw-on (line form d) (grammar.number (grammar.up_to max_value)) (x.client, h.0) (place s) (place h.1) _
            (within-read s h.1 max_value x.client h.0 h.2 fine.client)
            ∙ draw-on (line form d) (grammar.number grammar.any) (length (x ∷ xs), a.0) (place h.1) (place a.1) _
            (any-read h.1 a.1 (length (x ∷ xs)) a.0 a.2);
        drawn = a.3;
      }

  clients-read : (gs : List (List Range)) (s m : S) → Grouped gs → All (All Fine) gs → Draws r d s (client_tokens form gs) m
      → Goes Is (joined gs) (run (line form d) (deleted_clients (length gs)) (place s)) (over tt (place m))
  unfolding joined
  clients-read [] s m g fine h = clients-end s m h
  clients-read ([] ∷ gs) s m g fine h = absurd g
  clients-read ((x ∷ xs) ∷ gs) s m g fine h =
      let head = head_read (length gs) x xs gs s m fine.0.0 h in
      let two = split r d (ranges_tokens form 0 (x ∷ xs)) (client_tokens form gs) head.from m head.drawn in
      let t = two.between in
      let here = ranges-read x.client (x ∷ xs) 0 0 head.from t g.0 (omega arith) fine.0 two.first in
      let there = clients-read gs t m g.2 fine.1 two.then in
      goes-from Is _ _ _ _ (head.is ∙ run_bind (line form d) _ _ (place head.from))
      (goes_then Is (x ∷ xs) (joined gs) _ (over tt (place m)) (place t) (λ _ y. run (line form d) (deleted_clients (length gs)) y) here there)

  -- ---- all of it

  pub deletes-read : (rs : List Range) (s t : S) → KeptRanges rs → Draws r d s (delete_tokens form rs) t
      → Goes (λ (a b : Range). a ≡ b) rs (delete_set form d (place s)) (over tt (place t))
  unfolding delete_tokens delete_set all_ranges Draws line number_by
  deletes-read rs s t kept h =
      let gs : List (List Range) = groups owner_of rs in
      let goes = clients-read gs h.1 t (grouped rs kept.normal) (groups-all owner_of Fine rs kept.fine) h.3 in
      let count = within-read s h.1 max_clients (length gs) h.0 h.2 kept.clients in
      goes-from Is _ _ _ _ (draw-on (line form d) (grammar.number (grammar.up_to max_clients)) (length gs, h.0) (place s) (place h.1) _ count)
      (rw (groups-joined owner_of rs) at goes)

-- what is in normal form is its own normal form
pub normal-same : (rs : List Range) → Normal rs → normal rs ≡ rs
normal-same rs n = sym (is_normal rs rs n (λ c k. (λ x. x, λ x. x)))
