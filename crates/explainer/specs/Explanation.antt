-- The explanation of kept block n: the lines of its section's head, of its own clock, and of its own draws, in the order in which they were drawn.
use Rattle.std.specs.Prelude.{ℕ, zero, suc, ◌-◌, List, [], ◌∷◌, ◌++◌, ltb, eqb}
use Rattle.numbers.specs.Number.{pick}
use Rattle.block.specs.declared.Block.{Block}
use Rattle.block.specs.Row.{no_part}
use Rattle.grammar.specs.Grammar.{Field, Answer}
use Rattle.grammar.specs.Course.{Drawn, got, not}
use Rattle.grammar.specs.Blocks.{all_blocks}
use Rattle.decoder.specs.Line.{line}
use Rattle.decoder.specs.States.{State}
use Rattle.decoder.specs.Columned.{columned}
use Rattle.decoder.specs.Opening.{opened_of}
use Rattle.roles.specs.declared.Role.TheVariants as role
use Rattle.roles.specs.declared.Plan.{Plan}
use Rattle.roles.specs.Roles.{start, code_of, after, moved_on, own_clock}
use Rattle.origins.specs.declared.Line.{Line}
use Rattle.origins.specs.Origins.{line_stand, lines_in_line, lines_in, line_words}
use Rattle.telling.specs.Telling.{heard}
use Rattle.explainer.specs.Watch.{Seen, drew, kept, watch}

-- the lines of this section's head, and of this block, as far as they were drawn
pub record Sheet : Type 0 where
  pub head : List Line
  pub own : List Line

-- block count, client and first clock are the head's; a block begins with its info byte
unfoldable pub noted : ℕ → List Line → Sheet → Sheet
noted code ls h =
    pick (eqb code (code_of role.Blocks)) (record { head = ls; own = [] })
    (pick (ltb code own_clock) (record { head = h.head ++ ls; own = [] })
    (pick (eqb code (code_of role.Info)) (record { head = h.head; own = ls }) (record { head = h.head; own = h.own ++ ls })))

-- the block's own clock is not drawn: it is the first clock and the lengths before it
unfoldable pub clock_line : Plan → Line
clock_line q =
    record {
      field = own_clock;
      value = q.clock;
      stand = line_stand 0 0;
      rise = record { base = q.first; sign = 1; size = q.clock - q.first };
      part = no_part;
    }

-- n blocks are kept before the one sought; nothing is found where there are not so many. `tell` has the lines of a draw, by the number of its role
module _ {S : Type 0} (tell : ℕ → (f : Field) → Answer f → S → S → List Line) where
  unfoldable pub found : Plan → Sheet → ℕ → List (Seen S Block) → List Line
  found q h n [] = []
  found q h zero (kept b ∷ rest) = h.head ++ (clock_line q ∷ h.own)
  found q h (suc n) (kept b ∷ rest) = found q h n rest
  found q h n (drew f a s t ∷ rest) =
      let p = moved_on q in
      found (after p (heard f a).0 (heard f a).1) (noted (code_of p.role) (tell (code_of p.role) f a s t) h) n rest

abbrev pub blank : Sheet
blank = record { head = []; own = [] }

unfoldable pub on_opened : List ℕ → ℕ → Drawn State (Unit {0}) → List Line
on_opened u n (got a s) = found (lines_in u) start blank n (watch (columned u) all_blocks s)
on_opened u n (not why) = []

-- form 1 from its first byte, form 2 behind its columns
unfoldable pub explanation : ℕ → List ℕ → ℕ → List Line
explanation form u n = pick (eqb form 1) (found lines_in_line start blank n (watch (line 1 u) all_blocks 0)) (on_opened u n (opened_of u))

-- as words
unfoldable pub words : List Line → List ℕ
words [] = []
words (l ∷ ls) = line_words l ++ words ls
