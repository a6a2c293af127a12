-- Opening form 2: columns, each led by its length, are cut one after the other.
use Prim.Native.Nat.{ℕ, ◌+◌, ◌^◌, ◌<◌}
use mathlib.Core.Path.{◌≡◌, sym, ap, ◌∙◌}
use mathlib.Core.List.{List, [], ◌∷◌, ◌++◌, append_assoc, append-nil}
use native.Mathlib.Omega.{arith}
use lib.ListN.{length}
use Rattle.text.specs.declared.Part.{Part}
use Rattle.grammar.specs.Grammar.{◌>>=◌}
use Rattle.grammar.specs.Course.{got, over, on_drawn, run}
use Rattle.decoder.specs.Line.{bytes_at, line}
use Rattle.decoder.specs.Opening.{cut}
use Rattle.tokens.specs.Tokens.{led}
use Rattle.draws.proofs.Standing.{From, past-length, behind, part_of, led-bytes, led-past, bytes_read}

-- c stands in u behind its length at a place, and q behind it
pub record Cut (u : List ℕ) (at : ℕ) (c q : List ℕ) : Type 0 where
  pub from : ℕ
  pub column : From u from (c ++ q)
  pub rest : From u (from + length c) q
  pub reads : bytes_at u at ≡ got (part_of from c) (from + length c)

-- columns, each behind its length, and q behind them
unfoldable pub led_all : List (List ℕ) → List ℕ → List ℕ
led_all [] q = q
led_all (c ∷ cs) q = led c ++ led_all cs q

module _ (u q : List ℕ) where
  unfoldable pub Cuts : ℕ → List (List ℕ) → Type 0
  Cuts at [] = From u at q
  Cuts at (c ∷ cs) = (x : Cut u at c (led_all cs q)) × Cuts (x.from + length c) cs

  pub cut-here : length u < 2 ^ 62 → (cs : List (List ℕ)) (at : ℕ) → From u at (led_all cs q) → Cuts at cs
  unfolding Cuts led_all
  cut-here l [] at h = h
  cut-here l (c ∷ cs) at h =
      let few : length c < 2 ^ 63 = omega (arith, past-length u (behind at c) c (led_all cs q) (led-bytes u at c (led_all cs q) h)) in
      let rest = led-past u at c (led_all cs q) h in
      let x : Cut u at c (led_all cs q) = record { from = behind at c; column = led-bytes u at c (led_all cs q) h; rest = rest; reads = bytes_read u at c (led_all cs q) h few } in
      (x, cut-here l cs (behind at c + length c) rest)

  -- their parts, and the place behind them
  unfoldable pub parts_in : (cs : List (List ℕ)) (at : ℕ) → Cuts at cs → List Part
  unfolding Cuts
  parts_in [] at x = []
  parts_in (c ∷ cs) at x = part_of x.0.from c ∷ parts_in cs (x.0.from + length c) x.1

  unfoldable pub end_in : (cs : List (List ℕ)) (at : ℕ) → Cuts at cs → ℕ
  unfolding Cuts
  end_in [] at x = at
  end_in (c ∷ cs) at x = end_in cs (x.0.from + length c) x.1

  pub cuts : (cs : List (List ℕ)) (at : ℕ) (x : Cuts at cs) (ps : List Part)
      → run (line 2 u) (cut (length cs) ps) at ≡ over (ps ++ parts_in cs at x) (end_in cs at x)
  unfolding Cuts parts_in end_in run cut ◌>>=◌ on_drawn line
  cuts [] at x ps = ap (λ (l : List Part). over l at) (sym (append-nil ps))
  cuts (c ∷ cs) at x ps =
      let p : Part = part_of x.0.from c in
      let e : ℕ = x.0.from + length c in
      rw x.0.reads
      (cuts cs e x.1 (ps ++ (p ∷ [])) ∙ ap (λ (l : List Part). over l (end_in cs e x.1)) (append_assoc ps (p ∷ []) (parts_in cs e x.1)))
