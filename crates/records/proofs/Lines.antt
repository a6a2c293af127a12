-- Numbers in line, one after the other.
use Prim.Native.Nat.{ℕ}
use mathlib.Core.Path.{◌≡◌, refl, sym, ap, subst, ◌∙◌}
use mathlib.Core.List.{List, [], ◌∷◌, ◌++◌}
use Rattle.numbers.specs.Number.{unsigned}
use Rattle.tokens.specs.Tokens.{Token, var, whole}
use Rattle.tokens.specs.Lanes.{Lane, fresh_lane, ahead, laid_at, put_all, laid_all}
use Rattle.tokens.proofs.Taking.{in-line, var-line}
use Rattle.tokens.proofs.Passes.{put-append, laid-append, put-none, laid_none}
use Rattle.tokens.proofs.Wrote.{line-place, line-put-all, line-laid-all}
use Rattle.records.specs.DeleteRows.{InLine}

module _ {out : List ℕ} {at : ℕ} where
  pub line-none : InLine [] out at out at
  line-none = record { place = rw put-none; bytes = rw laid_none }

  pub line-var : (v : ℕ) {out₁ : List ℕ} {at₁ : ℕ} → (at₁ ≡ ahead at (unsigned v)) × (out₁ ≡ laid_at out at (unsigned v)) → InLine (var v ∷ []) out at out₁ at₁
  unfolding put_all laid_all
  line-var v h =
      let i = in-line whole refl in
      let t = var-line whole v refl in
      record {
        place = h.0 ∙ ap (λ (e : Lane). e.run.at) (sym (line-put-all whole i at (var v) [] (unsigned v) t));
        bytes = h.1 ∙ sym (line-laid-all whole i at (var v) [] (unsigned v) t out);
      }

  pub line-then : {a b : List Token} {out₁ out₂ : List ℕ} {at₁ at₂ : ℕ} → InLine a out at out₁ at₁ → InLine b out₁ at₁ out₂ at₂
      → InLine (a ++ b) out at out₂ at₂
  line-then {a} {b} {out₁} {at₁ = at₁} h k =
      let mid : fresh_lane whole at₁ ≡ put_all (fresh_lane whole at) a =
      ap (λ (x : ℕ). fresh_lane whole x) h.place ∙ sym (line-place whole (in-line whole refl) at a)
      in
      record {
        place = k.place ∙ ap (λ (e : Lane). (put_all e b).run.at) mid ∙ ap (λ (e : Lane). e.run.at) (sym (put-append (fresh_lane whole at) a b));
        bytes =
            k.bytes ∙ ap (λ (e : Lane). laid_all out₁ e b) mid ∙ ap (λ (o : List ℕ). laid_all o (put_all (fresh_lane whole at) a) b) h.bytes
            ∙ sym (laid-append out (fresh_lane whole at) a b);
      }

  pub line-is : {a b : List Token} {out₁ : List ℕ} {at₁ : ℕ} → b ≡ a → InLine a out at out₁ at₁ → InLine b out at out₁ at₁
  line-is {out₁ = out₁} {at₁ = at₁} e h = subst (λ (ts : List Token). InLine ts out at out₁ at₁) (sym e) h
