-- Labels that fit: each field that a grammar asks for is the one that the plan draws next, the plan is at a block's end where the grammar keeps a block, and
-- that block is the row that was told.
use Prim.Native.Nat.{ℕ, ◌+◌, ◌≤◌}
use native.Mathlib.Omega.{arith}
use mathlib.Core.Path.{◌≡◌, refl, sym, ap, subst, ◌∙◌}
use mathlib.Core.Bool.{Bool, true, false}
use lib.Dec.{eqb}
use Rattle.numbers.specs.Number.{pick}
use Rattle.numbers.specs.Limits.{max_clock}
use Rattle.text.specs.declared.Part.{Part}
use Rattle.block.specs.declared.Block.{Block}
use Rattle.block.specs.Row.{no_part}
use Rattle.grammar.specs.Grammar as grammar
use Rattle.grammar.specs.Grammar.{Number, Field, Answer, Grammar, ask, emit, stop, done}
use Rattle.grammar.specs.Grammar.{◌>>=◌}
use Rattle.roles.specs.declared.Role.TheVariants as role
use Rattle.roles.specs.declared.Plan.{Plan}
use Rattle.roles.specs.Roles.{code_of, after, onward, moved_on, is_ended, block_role, section_role}
use Rattle.roles.specs.RolesInner.{is_over, is_kept}
use Rattle.telling.specs.Telling.{heard}
use Rattle.telling.specs.TellingInner.{field_at}
use Rattle.explainer.specs.Record.{rowed}

-- what is known of an answer: a number in line is within its limit
unfoldable pub Within : Number → ℕ → Type 0
Within (grammar.up_to most) v = v ≤ most
Within grammar.byte v = Unit {0}
Within grammar.any v = Unit {0}
Within grammar.client v = Unit {0}
Within grammar.left_clock v = Unit {0}
Within grammar.right_clock v = Unit {0}
Within grammar.info v = Unit {0}
Within grammar.parent_info v = Unit {0}
Within grammar.len v = Unit {0}
Within (grammar.delete_clock end) v = Unit {0}
Within grammar.delete_len v = Unit {0}
Within grammar.type_number v = Unit {0}

unfoldable pub Meets : (f : Field) → Answer f → Type 0
Meets (grammar.number n) a = Within n a.0
Meets grammar.text a = Unit {0}
Meets grammar.bytes a = Unit {0}
Meets grammar.key a = Unit {0}
Meets (grammar.value blame) a = Unit {0}
Meets (grammar.values blame n) a = Unit {0}

-- the stored bytes of an answer
unfoldable pub part_of : (f : Field) → Answer f → Part
part_of (grammar.number n) a = no_part
part_of grammar.text a = a.0
part_of grammar.bytes a = a
part_of grammar.key a = a
part_of (grammar.value blame) a = a
part_of (grammar.values blame n) a = a

-- the row behind a draw: an info byte begins it, at the plan's clock
unfoldable pub begun : Plan → Block → Block
begun q r = pick (eqb (code_of q.role) 6) (rowed 5 q.clock no_part r) r

unfoldable pub told : Plan → (f : Field) → Answer f → Block → Block
told q f a r = rowed (code_of q.role) (heard f a).0 (part_of f a) (begun q r)

-- a block that ended where the grammar keeps none is dropped, and its end is a clock
abbrev pub Passed : Plan → Type 0
Passed q = is_ended q ≡ true → (is_kept q ≡ false) × (q.clock + q.length ≤ max_clock)

module _ {A : Type 0} (P : Plan → Block → A → Type 0) where
  unfoldable pub Fits : Plan → Block → Grammar Block A → Type 0
  Fits q r (ask f k) =
      Passed q × (is_over (moved_on q) ≡ false) × (field_at (moved_on q) ≡ f)
      × ((a : Answer f) → Meets f a → Fits (after (moved_on q) (heard f a).0 (heard f a).1) (told (moved_on q) f a r) (k a))
  Fits q r (emit e p x) =
      (is_ended q ≡ true) × (is_kept q ≡ true) × (q.clock + q.length ≤ max_clock) × (q.first ≤ q.clock) × (e ≡ r) × Fits (onward q) r x
  Fits q r (stop n p) = Unit {0}
  Fits q r (done a) = P q r a

-- one grammar, then another
pub fits-bind : {A B : Type 0} (P : Plan → Block → B → Type 0) (x : Grammar Block A) (g : A → Grammar Block B) (q : Plan) (r : Block)
    → Fits (λ q₁ r₁ a. Fits P q₁ r₁ (g a)) q r x → Fits P q r (x >>= g)
unfolding Fits ◌>>=◌
fits-bind P (ask f k) g q r h = (h.0, h.1, h.2, λ a m. fits-bind P (k a) g _ _ (h.3 a m))
fits-bind P (emit e p x) g q r h = (h.0, h.1, h.2, h.3, h.4, fits-bind P x g _ _ h.5)
fits-bind P (stop n p) g q r h = tt
fits-bind P (done a) g q r h = h

-- what follows may be weaker
pub fits_more : {A : Type 0} {P Q : Plan → Block → A → Type 0} → ((q : Plan) (r : Block) (a : A) → P q r a → Q q r a) → (x : Grammar Block A) (q : Plan) (r : Block)
    → Fits P q r x → Fits Q q r x
unfolding Fits
fits_more w (ask f k) q r h = (h.0, h.1, h.2, λ a m. fits_more w (k a) _ _ (h.3 a m))
fits_more w (emit e p x) q r h = (h.0, h.1, h.2, h.3, h.4, fits_more w x _ _ h.5)
fits_more w (stop n p) q r h = tt
fits_more w (done a) q r h = w q r a h

-- ---- from a block's end onward

pub not-both : true ≡ false → ⊥
not-both e = let z : ◌≡◌ {A = ℕ} 0 1 = ap (λ (b : Bool). pick b 0 1) e in omega (arith, z)

pub onward-goes : (q : Plan) → is_ended (onward q) ≡ false
unfolding is_ended onward block_role section_role code_of
onward-goes q = go (eqb q.blocks 0) (eqb q.sections 0)
  where
    go : (b s : Bool) → eqb (code_of (pick b (pick s role.Over role.Blocks) role.Info)) 0 ≡ false
    go true true = refl
    go true false = refl
    go false s = refl

pub settled_here : (q : Plan) → is_ended q ≡ false → moved_on q ≡ q
unfolding moved_on
settled_here q e = rw e refl

pub settled-ended : (q : Plan) → is_ended q ≡ true → moved_on q ≡ onward q
unfolding moved_on
settled-ended q e = rw e refl

pub never : {X : Type 0} → false ≡ true → X
never e = absurd (not-both (sym e))

-- and where a block has ended, what fits from there on fits from onward
pub fits-onward : {A : Type 0} (P : Plan → Block → A → Type 0) (q : Plan) (r : Block) (f : Field) (k : Answer f → Grammar Block A)
    → is_ended q ≡ true → Fits P q r (ask f k) → Fits P (onward q) r (ask f k)
unfolding Fits
fits-onward P q r f k e h = ((λ x. absurd (not-both (sym x ∙ onward-goes q))), ap is_over from ∙ h.1, ap (λ (x : Plan). field_at x) from ∙ h.2, λ a m. subst (λ (x : Plan). Fits P (after x (heard f a).0 (heard f a).1) (told x f a r) (k a)) (sym from) (h.3 a m))
  where
    from : moved_on (onward q) ≡ moved_on q
    from = settled_here (onward q) (onward-goes q) ∙ sym (settled-ended q e)

-- a field that fits the plan that another is settled to fits that other
pub fits-settled : {A : Type 0} (P : Plan → Block → A → Type 0) (p q : Plan) (r : Block) (f : Field) (k : Answer f → Grammar Block A)
    → Passed q → moved_on q ≡ p → is_ended p ≡ false → Fits P p r (ask f k) → Fits P q r (ask f k)
unfolding Fits
fits-settled P p q r f k passed s e h = (passed, ap is_over from ∙ h.1, ap (λ (x : Plan). field_at x) from ∙ h.2, λ a m. subst (λ (x : Plan). Fits P (after x (heard f a).0 (heard f a).1) (told x f a r) (k a)) (sym from) (h.3 a m))
  where
    from : moved_on q ≡ moved_on p
    from = s ∙ sym (settled_here p e)
