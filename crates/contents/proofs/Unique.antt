-- No other answer fits: two answers that keep the promise of `content` for the same inputs have one refusal and one part, which points to one place; two that
-- keep that of `look`, which C is handed by `wairokabi_content`, are the same.
use Prim.Native.Nat.{ℕ}
use mathlib.Core.Path.{◌≡◌, sym, ◌∙◌}
use mathlib.Core.List.{List}
use denote.Ref.{Bor}
use Rattle.numbers.specs.declared.Refusal.{Refusal}
use Rattle.contents.specs.declared.Where.{Where}
use Rattle.contents.specs.Promises.{Looks, Contents}

pub only-content : (form : ℕ) (u : Bor (List ℕ)) (n : ℕ) (why why' : Refusal) (part part' : Bor (List ℕ))
    → Contents form u n why part → Contents form u n why' part' → (why ≡ why') × (part.now ≡ part'.now) × (part.ref_ptr ≡ part'.ref_ptr)
only-content form u n why why' part part' p q = (p.0 ∙ sym q.0, p.1.0 ∙ sym q.1.0, p.1.1 ∙ sym q.1.1)

pub only-look : (form : ℕ) (u : List ℕ) (n : ℕ) (r r' : Where) → Looks form u n r → Looks form u n r' → r ≡ r'
only-look form u n r r' p q = p ∙ sym q
