-- Of every line that `explain` tells, base and difference come to the value: a clock of an id, a key's number, and the block's own clock.
use Prim.Native.Nat.{ℕ, zero, suc, ◌%◌, ◌≤◌}
use native.Mathlib.Omega.{arith}
use mathlib.Core.Path.{◌≡◌, refl, ap}
use mathlib.Core.Bool.{Bool, true, false}
use mathlib.Core.List.{List, [], ◌∷◌, ◌++◌}
use lib.Dec.{ltb, eqb}
use Rattle.numbers.specs.Number.{pick}
use Rattle.block.specs.declared.Block.{Block}
use Rattle.block.specs.Kinds.{max_type, is_named}
use Rattle.grammar.specs.Grammar as grammar
use Rattle.grammar.specs.Grammar.{Number, Field, Answer, Grammar, ask, emit, stop, done}
use Rattle.grammar.specs.Course.{Drawn, got, not, Reader}
use Rattle.grammar.specs.Blocks.{all_blocks}
use Rattle.decoder.specs.Line.{line}
use Rattle.decoder.specs.Opening.{opened_of}
use Rattle.decoder.specs.States.{State}
use Rattle.decoder.specs.Columned.{columned}
use Rattle.roles.specs.declared.Role.{Role}
use Rattle.roles.specs.declared.Role.TheVariants as role
use Rattle.roles.specs.declared.Plan.{Plan}
use Rattle.roles.specs.Roles.{start, go_to, sectioned, announced, onward, headed, informed, lengthened, ended_with, content_role, to_content, to_key, to_right, to_parent, to_node, plan_after, after, code_of, own_clock, is_ended, moved_on}
use Rattle.origins.specs.declared.Line.{Line}
use Rattle.origins.specs.declared.Rise.{Rise}
use Rattle.origins.specs.Origins.{no_rise, stored_line, plain_line, line_at, lines_in_line, lines_in}
use Rattle.telling.specs.Telling.{heard}
use Rattle.explainer.specs.Watch.{Seen, drew, kept, on_seen, watch}
use Rattle.explainer.specs.Explanation.{Sheet, noted, clock_line, found, blank, on_opened, explanation}
use Rattle.origin_facts.specs.Facts as facts
use Rattle.origin_facts.specs.Facts.{All, Summed, Plain, AddsAs, AddsFirst}
use Rattle.origin_facts.proofs.Differences.{base-and-difference}
use Rattle.explains.specs.Sums.{Adds, Sums}
use mathlib.Core.Logic.{inl, inr}

-- ---- a value that is no difference

no-rise : (l : Line) → l.rise ≡ no_rise → Adds l
no-rise l e =
    let zero-sign : l.rise.sign ≡ 0 = ap (λ (r : Rise). r.sign) e in
    record { plus = λ h. absurd (omega (arith, h, zero-sign)); minus = λ h. absurd (omega (arith, h, zero-sign)) }

pub in-line : (code : ℕ) (f : Field) (a : Answer f) (s t : ℕ) → Sums (lines_in_line code f a s t)
unfolding Sums line_at plain_line stored_line
in-line code (grammar.number n) a s t = (no-rise _ refl, tt)
in-line code grammar.text a s t = (no-rise _ refl, tt)
in-line code grammar.bytes a s t = (no-rise _ refl, tt)
in-line code grammar.key a s t = (no-rise _ refl, tt)
in-line code (grammar.value blame) a s t = (no-rise _ refl, tt)
in-line code (grammar.values blame n) a s t = (no-rise _ refl, tt)

-- ---- a value that is one: what `origin_facts` says of the lines of a draw

summed : (l : Line) → Summed l → Adds l
summed l (inl p) = record { plus = λ e. p.1; minus = λ e. absurd (omega (arith, p.0, e)) }
summed l (inr p) = record { plus = λ e. absurd (omega (arith, p.0, e)); minus = λ e. p.1 }

every : (P : Line → Type 0) → ((l : Line) → P l → Adds l) → (ls : List Line) → All P ls → Sums ls
unfolding Sums
every P h [] p = tt
every P h (l ∷ ls) p = (h l p.0, every P h ls p.1)

number-sums : (n : Number) (l : Line) → AddsAs n l → Adds l
unfolding AddsAs
number-sums grammar.left_clock l p = summed l p
number-sums grammar.right_clock l p = summed l p
number-sums grammar.client l p = no-rise l p
number-sums grammar.info l p = no-rise l p
number-sums grammar.parent_info l p = no-rise l p
number-sums grammar.len l p = no-rise l p
number-sums grammar.type_number l p = no-rise l p
number-sums grammar.byte l p = no-rise l p
number-sums (grammar.up_to most) l p = no-rise l p
number-sums grammar.any l p = no-rise l p
number-sums (grammar.delete_clock end) l p = no-rise l p
number-sums grammar.delete_len l p = no-rise l p

key-sums : (ls : List Line) → AddsFirst ls → Sums ls
unfolding AddsFirst Sums
key-sums [] p = absurd p
key-sums (l ∷ ls) p = (summed l p.0, every Plain no-rise ls p.1)

field-sums : (f : Field) (ls : List Line) → facts.Adds f ls → Sums ls
unfolding facts.Adds
field-sums (grammar.number n) ls p = every (AddsAs n) (number-sums n) ls p
field-sums grammar.key ls p = key-sums ls p
field-sums grammar.text ls p = every Plain no-rise ls p
field-sums grammar.bytes ls p = every Plain no-rise ls p
field-sums (grammar.value blame) ls p = every Plain no-rise ls p
field-sums (grammar.values blame n) ls p = every Plain no-rise ls p

pub drawn-sums : (u : List ℕ) (code : ℕ) (f : Field) (a : Answer f) (s t : State) → columned u f s ≡ got a t → Sums (lines_in u code f a s t)
drawn-sums u code f a s t e = field-sums f (lines_in u code f a s t) (base-and-difference u code s f a t e)

-- ---- what is seen was drawn

unfoldable Was : {S E : Type 0} → Reader S → List (Seen S E) → Type 0
Was r [] = Unit {0}
Was r (drew f a s t ∷ rest) = (r f s ≡ got a t) × Was r rest
Was r (kept b ∷ rest) = Was r rest

on-drawn : {S E : Type 0} (r : Reader S) (f : Field) (s : S) (then : Answer f → S → List (Seen S E)) → ((a : Answer f) (t : S) → Was r (then a t))
    → (x : Drawn S (Answer f)) → r f s ≡ x → Was r (on_seen f s x then)
unfolding Was on_seen
on-drawn r f s then w (got a t) h = (h, w a t)
on-drawn r f s then w (not why) h = tt

watched : {S E A : Type 0} (r : Reader S) (g : Grammar E A) (s : S) → Was r (watch r g s)
unfolding Was watch
watched r (ask f k) s = on-drawn r f s (λ a t. watch r (k a) t) (λ a t. watched r (k a) t) (r f s) refl
watched r (emit e p x) s = watched r x s
watched r (stop n p) s = tt
watched r (done a) s = tt

-- ---- a clock is not below its section's first

abbrev Low : Plan → Type 0
Low q = q.first ≤ q.clock

low-pick : (b : Bool) (x y : Plan) → Low x → Low y → Low (pick b x y)
low-pick true x y p q = p
low-pick false x y p q = q

low-onward : (q : Plan) → Low q → Low (onward q)
unfolding onward
low-onward q h = omega (arith, h)

low-settled : (q : Plan) → Low q → Low (moved_on q)
unfolding moved_on
low-settled q h = low-pick (is_ended q) (onward q) q (low-onward q h) h

low-to : (r : Role) (q : Plan) → Low q → Low (go_to r q)
unfolding go_to
low-to r q h = h

low-lengthened : (r : Role) (n : ℕ) (q : Plan) → Low q → Low (lengthened r n q)
unfolding lengthened
low-lengthened r n q h = h

low-content : (q : Plan) → Low q → Low (to_content q)
low-content q h = low-to (content_role (q.info % 32)) q h

low-key : (q : Plan) → Low q → Low (to_key q)
low-key q h = low-pick (ltb q.info 32) (to_content q) (go_to role.Key q) (low-content q h) (low-to role.Key q h)

low-behind : (r : Role) (q : Plan) (v p : ℕ) → Low q → Low (plan_after r q v p)
unfolding plan_after sectioned announced headed informed to_right to_parent to_node
low-behind role.Sections q v p h = omega arith
low-behind role.Blocks q v p h = omega arith
low-behind role.Client q v p h = low-to role.FirstClock q h
low-behind role.FirstClock q v p h = low-onward _ (omega arith)
low-behind role.Info q v p h = h
low-behind role.SkipLength q v p h = low-lengthened role.Ended v q h
low-behind role.GcLength q v p h = low-lengthened role.Ended v q h
low-behind role.LeftClient q v p h = low-to role.LeftClock q h
low-behind role.LeftClock q v p h = low-pick (ltb (q.info % 128) 64) (to_content q) (go_to role.RightClient q) (low-content q h) (low-to role.RightClient q h)
low-behind role.RightClient q v p h = low-to role.RightClock q h
low-behind role.RightClock q v p h = low-content q h
low-behind role.ParentInfo q v p h = low-pick (eqb v 1) (go_to role.ParentName q) (go_to role.ParentClient q) (low-to role.ParentName q h) (low-to role.ParentClient q h)
low-behind role.ParentName q v p h = low-key q h
low-behind role.ParentClient q v p h = low-to role.ParentClock q h
low-behind role.ParentClock q v p h = low-key q h
low-behind role.Key q v p h = low-content q h
low-behind role.DeletedLength q v p h = low-lengthened role.Ended v q h
low-behind role.Binary q v p h = low-lengthened role.Ended 1 q h
low-behind role.Text q v p h = low-lengthened role.Ended v q h
low-behind role.MarkKey q v p h = low-to role.MarkValue q h
low-behind role.MarkValue q v p h = low-lengthened role.Ended 1 q h
low-behind role.TypeNumber q v p h =
    low-pick (ltb max_type v) (go_to role.Over q) (pick (is_named v) (go_to role.NodeName q) (ended_with 1 q)) (low-to role.Over q h)
    (low-pick (is_named v) (go_to role.NodeName q) (ended_with 1 q) (low-to role.NodeName q h) (low-lengthened role.Ended 1 q h))
low-behind role.NodeName q v p h = low-lengthened role.Ended 1 q h
low-behind role.ListLength q v p h = low-lengthened role.ListValues v q h
low-behind role.ListValues q v p h = low-to role.Ended q h
low-behind role.Ended q v p h = h
low-behind role.Over q v p h = h

low-after : (q : Plan) (v p : ℕ) → Low q → Low (after q v p)
unfolding after
low-after q v p h = low-behind q.role q v p h

clock-sums : (q : Plan) → Low q → Adds (clock_line q)
unfolding clock_line
clock-sums q h = record { plus = λ e. omega (arith, h); minus = λ e. absurd (omega (arith, e)) }

-- ---- all lines

sums-append : (a b : List Line) → Sums a → Sums b → Sums (a ++ b)
unfolding Sums
sums-append [] b p q = q
sums-append (l ∷ a) b p q = (p.0, sums-append a b p.1 q)

pub record Told (h : Sheet) : Type 0 where
  pub head : Sums h.head
  pub own : Sums h.own

told-pick : (b : Bool) (x y : Sheet) → Told x → Told y → Told (pick b x y)
told-pick true x y p q = p
told-pick false x y p q = q

told-noted : (code : ℕ) (ls : List Line) (h : Sheet) → Sums ls → Told h → Told (noted code ls h)
unfolding noted Sums
told-noted code ls h s t =
    told-pick (eqb code (code_of role.Blocks)) _ _ (record { head = s; own = tt })
    (told-pick (ltb code own_clock) _ _ (record { head = sums-append h.head ls t.head s; own = tt })
    (told-pick (eqb code (code_of role.Info)) _ _ (record { head = t.head; own = s }) (record { head = t.head; own = sums-append h.own ls t.own s })))

module _ {S : Type 0} (r : Reader S) (tell : ℕ → (f : Field) → Answer f → S → S → List Line) (true_of : (code : ℕ) (f : Field) (a : Answer f) (s t : S) → r f s ≡ got a t → Sums (tell code f a s t)) where
  found-sums : (seen : List (Seen S Block)) → Was r seen → (q : Plan) (h : Sheet) (n : ℕ) → Low q → Told h → Sums (found tell q h n seen)
  unfolding found Was Sums
  found-sums [] w q h n low told = tt
  found-sums (kept b ∷ rest) w q h zero low told = sums-append h.head (clock_line q ∷ h.own) told.head (clock-sums q low, told.own)
  found-sums (kept b ∷ rest) w q h (suc n) low told = found-sums rest w q h n low told
  found-sums (drew f a s t ∷ rest) w q h zero low told =
      let p = moved_on q in
      found-sums rest w.1 _ _ zero (low-after p (heard f a).0 (heard f a).1 (low-settled q low)) (told-noted (code_of p.role) _ h (true_of (code_of p.role) f a s t w.0) told)
  found-sums (drew f a s t ∷ rest) w q h (suc n) low told =
      let p = moved_on q in
      found-sums rest w.1 _ _ (suc n) (low-after p (heard f a).0 (heard f a).1 (low-settled q low)) (told-noted (code_of p.role) _ h (true_of (code_of p.role) f a s t w.0) told)

blank-told : Told blank
unfolding Sums
blank-told = record { head = tt; own = tt }

-- every line of every block
pub explanation-sums : (form : ℕ) (u : List ℕ) (n : ℕ) → Sums (explanation form u n)
unfolding explanation on_opened Sums
explanation-sums form u n = go (eqb form 1)
  where
    columns : (x : Drawn State (Unit {0})) → Sums (on_opened u n x)
    columns (got a s) = found-sums (columned u) (lines_in u) (λ code f a s t e. drawn-sums u code f a s t e) (watch (columned u) all_blocks s) (watched (columned u) all_blocks s) start blank n (omega arith) blank-told
    columns (not why) = tt

    go : (x : Bool) → Sums (pick x (found lines_in_line start blank n (watch (line 1 u) all_blocks 0)) (on_opened u n (opened_of u)))
    go true = found-sums (line 1 u) lines_in_line (λ code f a s t e. in-line code f a s t) (watch (line 1 u) all_blocks 0) (watched (line 1 u) all_blocks 0) start blank n (omega arith) blank-told
    go false = columns (opened_of u)
