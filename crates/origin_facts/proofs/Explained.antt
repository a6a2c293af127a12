-- What holds of the lines of every draw holds of every line that `explain` tells; so each value of a run is one of its values.
use Prim.Native.Nat.{ℕ, zero, suc}
use mathlib.Core.Path.{◌≡◌, refl}
use mathlib.Core.List.{List, [], ◌∷◌, ◌++◌}
use mathlib.Core.Bool.{Bool, true, false}
use lib.Dec.{ltb, eqb}
use Rattle.numbers.specs.Number.{pick}
use Rattle.block.specs.declared.Block.{Block}
use Rattle.grammar.specs.Grammar as grammar
use Rattle.grammar.specs.Grammar.{Field, Answer, Grammar, ask, emit, stop, done}
use Rattle.grammar.specs.Course.{Drawn, got, not, Reader}
use Rattle.grammar.specs.Blocks.{all_blocks}
use Rattle.decoder.specs.Line.{line}
use Rattle.decoder.specs.States.{State}
use Rattle.decoder.specs.Columned.{columned}
use Rattle.decoder.specs.Opening.{opened_of}
use Rattle.roles.specs.declared.Role.TheVariants as role
use Rattle.roles.specs.declared.Plan.{Plan}
use Rattle.roles.specs.Roles.{start, code_of, own_clock, moved_on}
use Rattle.origins.specs.declared.Line.{Line}
use Rattle.origins.specs.Origins.{stored_line, plain_line, line_at, lines_in_line, lines_in}
use Rattle.explainer.specs.Watch.{Seen, on_seen, watch}
use Rattle.explainer.specs.Explanation.{Sheet, noted, clock_line, found, blank, on_opened, explanation}
use Rattle.origin_facts.specs.Facts.{All, On, Numbered, Within}
use Rattle.origin_facts.proofs.Which.{numbered-in-line, which-of, opened-within}

-- ---- the lines of a sheet

module _ (P : Line → Type 0) where
  all_append : (a b : List Line) → All P a → All P b → All P (a ++ b)
  all_append [] b p q = q
  all_append (l ∷ a) b p q = (p.0, all_append a b p.1 q)

  pub record Told (h : Sheet) : Type 0 where
    pub head : All P h.head
    pub own : All P h.own

  told-pick : (b : Bool) (x y : Sheet) → Told x → Told y → Told (pick b x y)
  told-pick true x y p q = p
  told-pick false x y p q = q

  told-noted : (code : ℕ) (ls : List Line) (h : Sheet) → All P ls → Told h → Told (noted code ls h)
  unfolding noted
  told-noted code ls h p t =
      told-pick (eqb code (code_of role.Blocks)) _ _ (record { head = p; own = tt })
      (told-pick (ltb code own_clock) _ _ (record { head = all_append h.head ls t.head p; own = tt })
      (told-pick (eqb code (code_of role.Info)) _ _ (record { head = t.head; own = p }) (record { head = t.head; own = all_append h.own ls t.own p })))

  -- ---- every line, where each draw keeps what the lines rest on

  module _ {S : Type 0} (r : Reader S) (I : S → Type 0) (tell : ℕ → (f : Field) → Answer f → S → S → List Line) (clock : (q : Plan) → P (clock_line q)) (keeps : (code : ℕ) (f : Field) (a : Answer f) (s t : S) → I s → r f s ≡ got a t → I t × All P (tell code f a s t)) where
    -- behind one draw, where it holds behind that
    drawn-all : (f : Field) (s : S) → I s → (then : Answer f → S → List (Seen S Block))
        → ((a : Answer f) (b : S) → I b → (q : Plan) (h : Sheet) → Told h → (n : ℕ) → All P (found tell q h n (then a b)))
        → (q : Plan) (h : Sheet) → Told h → (x : Drawn S (Answer f)) → r f s ≡ x → (n : ℕ) → All P (found tell q h n (on_seen f s x then))
    unfolding found on_seen
    drawn-all f s i then next q h t (got a b) e zero =
        let z = keeps (code_of (moved_on q).role) f a s b i e in
        next a b z.0 _ _ (told-noted (code_of (moved_on q).role) _ h z.1 t) zero
    drawn-all f s i then next q h t (got a b) e (suc n) =
        let z = keeps (code_of (moved_on q).role) f a s b i e in
        next a b z.0 _ _ (told-noted (code_of (moved_on q).role) _ h z.1 t) (suc n)
    drawn-all f s i then next q h t (not why) e n = tt

    pub found_all : {A : Type 0} (g : Grammar Block A) (s : S) → I s → (q : Plan) (h : Sheet) → Told h → (n : ℕ) → All P (found tell q h n (watch r g s))
    unfolding found watch
    found_all (ask f k) s i q h t n = drawn-all f s i (λ a b. watch r (k a) b) (λ a b j p g u m. found_all (k a) b j p g u m) q h t (r f s) refl n
    found_all (emit b p x) s i q h t zero = all_append h.head (clock_line q ∷ h.own) t.head (clock q, t.own)
    found_all (emit b p x) s i q h t (suc n) = found_all x s i q h t n
    found_all (stop number p) s i q h t n = tt
    found_all (done a) s i q h t n = tt

-- ---- runs

abbrev OfRun : Line → Type 0
OfRun l = Numbered l.stand

clock-of-run : (q : Plan) → OfRun (clock_line q)
unfolding clock_line
clock-of-run q = numbered-in-line 0 0

in-line : (code : ℕ) (f : Field) (a : Answer f) (s t : ℕ) → All OfRun (lines_in_line code f a s t)
unfolding line_at plain_line stored_line
in-line code (grammar.number n) a s t = (numbered-in-line s t, tt)
in-line code grammar.text a s t = (numbered-in-line s a.0.place, tt)
in-line code grammar.bytes a s t = (numbered-in-line s a.place, tt)
in-line code grammar.key a s t = (numbered-in-line s a.place, tt)
in-line code (grammar.value blame) a s t = (numbered-in-line s a.place, tt)
in-line code (grammar.values blame n) a s t = (numbered-in-line s a.place, tt)

blank-told : Told OfRun blank
blank-told = record { head = tt; own = tt }

pub explained-which : (form : ℕ) (u : List ℕ) (n : ℕ) → All OfRun (explanation form u n)
unfolding explanation on_opened On
explained-which form u n = go (eqb form 1)
  where
    columns : (x : Drawn State (Unit {0})) → On (λ (a : Unit {0}) (t : State). Within u t) x → All OfRun (on_opened u n x)
    columns (got a s) h = found_all OfRun (columned u) (Within u) (lines_in u) clock-of-run (λ code f a s t i e. which-of u code s i f a t e) all_blocks s h start blank blank-told n
    columns (not why) h = tt

    go : (x : Bool) → All OfRun (pick x (found lines_in_line start blank n (watch (line 1 u) all_blocks 0)) (on_opened u n (opened_of u)))
    go true = found_all OfRun (line 1 u) (λ s. Unit {0}) lines_in_line clock-of-run (λ code f a s t i e. (tt, in-line code f a s t)) all_blocks 0 tt start blank blank-told n
    go false = columns (opened_of u) (opened-within u)
