-- A section's head, with no machine: what is to come before it, by what was read of it. And where the sections begin.
use Rattle.std.specs.Prelude.{Option, Some, None}
use Rattle.std.specs.Prelude.{Result}
use Rattle.update.specs.declared.Spot.{Spot}
use Rattle.numbers.specs.declared.Refusal.{Refusal}
use Prim.Native.Nat.{ℕ, suc, ◌+◌, ◌-◌, ◌≤◌}
use native.Mathlib.Omega.{arith}
use mathlib.Core.Path.{◌≡◌, refl, ap, ◌∙◌, subst}
use mathlib.Core.Bool.{Bool, true, false}
use mathlib.Core.List.{List, [], ◌∷◌, ◌++◌}
use lib.Dec.{eqb}
use lib.ListN.{take}
use Rattle.numbers.specs.Number.{pick}
use Rattle.numbers.specs.Words.{among}
use Rattle.numbers.specs.Limits.{max_clock, max_value, max_clients, max_blocks}
use Rattle.block.specs.declared.Block.{Block}
use Rattle.columns.specs.declared.number.Answer as number-answer
use Rattle.columns.specs.declared.number.Answer.TheVariants as number
use Rattle.columns.specs.Number.{next_number}
use Rattle.grammar.specs.Grammar as grammar
use Rattle.grammar.specs.Grammar.{Grammar, ask, stop, draw}
use Rattle.grammar.specs.Grammar.{◌>>=◌}
use Rattle.grammar.specs.Course as course
use Rattle.grammar.specs.Course.{stopped, run}
use Rattle.grammar.specs.Blocks.{blocks, sections}
use Rattle.decoder.specs.Line.{line, number_by, up_to}
use Rattle.decoder.specs.States.{Numbers, State, client_moved}
use Rattle.decoder.specs.Columned.{onto, columned, number_in, number_drawn}
use Rattle.decoder.specs.ColumnedInner.{fields}
use Rattle.decoder.specs.Update.{rest_places, blocks_of}
use Rattle.cells.specs.Cells.{at_in, place_in, why_in, state_in, given, Small}
use Rattle.readings.proofs.Columns.{ValueHeld, number-held}
use Rattle.update.specs.Steps.{to_come, reads, begins, Counted, Starts}
use Rattle.update.proofs.Laws.{in-line, within, asked, refused, uncounted, count}
use Rattle.tally.specs.Tally.{clients_in, inserted_in, Inserted}
use Rattle.gathered.specs.Gathered.{sections_from, Begins}

-- ---- the section count

pub begun-at : (form : ℕ) (u w v : List ℕ) (d : Option ℕ) → Small v → given v d ≡ onto (state_in w) (up_to max_clients u (at_in w)) → ((x : Result Spot Refusal) → Counted form u w v x → Starts form u v x)
    → Begins form u v d
unfolding Begins begins rest_places reads to_come blocks ◌>>=◌ sections_from
begun-at form u w v (Some n) small e starts =
    let few = within max_clients u (at_in w) (state_in w) v n e in
    ((starts _ (count form u w v small n few (in-line form u max_clients w v (Some n) e))).told [], few)
begun-at form u w v None small e starts = (starts _ (uncounted form u w v small (in-line form u max_clients w v None e))).told []

pub begins-at : (form : ℕ) (u w : List ℕ) (d : Option ℕ) → Begins form u w d → (n : ℕ) → d ≡ Some n → (blocks_of form u ≡ rest_places (sections_from form u n [] max_blocks w)) × (n ≤ max_clients)
unfolding Begins
begins-at form u w d h n e = subst (Begins form u w) e h

pub begins-not : (form : ℕ) (u w : List ℕ) (d : Option ℕ) → Begins form u w d → d ≡ None → blocks_of form u ≡ stopped (why_in w)
unfolding Begins
begins-not form u w d h e = subst (Begins form u w) e h

-- ---- a client is a number that clients have

pub client-within : (form : ℕ) (u : List ℕ) (s : State) (v : List ℕ) (x : ℕ) → given v (Some x) ≡ fields form u (grammar.number grammar.client) s → x ≤ max_value
unfolding fields line number_by columned number_in number_drawn given
client-within form u s v x e = go (eqb form 1) e
  where
    value : course.Drawn State (ℕ × ℕ) → ℕ
    value (course.got a t) = a.0
    value (course.not why) = 0

    drawn-within : (to : ℕ) (r : number-answer.Answer) (put : Numbers → State) → ValueHeld r → value (number_drawn put to r) ≤ max_value
    drawn-within to (number.Next y d) put h = h.0
    drawn-within to (number.Bad why) put h = omega arith

    go : (b : Bool) → course.got (x, place_in v) (state_in v) ≡ pick b (onto s (line 1 u (grammar.number grammar.client) s.at)) (columned u (grammar.number grammar.client) s) → x ≤ max_value
    go true h = within max_value u s.at s v x h
    go false h =
        let c = s.client in
        omega (arith, ap value h, drawn-within c.to (next_number (take c.to u) c.place) (λ d. client_moved d s) (number-held (take c.to u) c.place))

-- ---- a head

module _ (form : ℕ) (u w : List ℕ) (n : ℕ) (cs : List ℕ) (room : ℕ) where
  -- what stands behind the client of a section of k blocks
  abbrev rest : ℕ → ℕ × ℕ → Grammar Block (Unit {0})
  rest k c = pick (among c.0 cs) (stop 4 c.1) (draw (grammar.number (grammar.up_to max_clock)) >>= λ a. blocks k c.0 a.0 >>= λ _. sections n (cs ++ (c.0 ∷ [])) (room - k))

  begins-with : sections_from form u (suc n) cs room w
      ≡ run (fields form u) (ask (grammar.number (grammar.up_to room)) (λ a. ask (grammar.number grammar.client) (rest a.0))) (state_in w)
  unfolding sections_from sections ◌>>=◌
  begins-with = refl

  pub no-count : (v : List ℕ) → given v None ≡ fields form u (grammar.number (grammar.up_to room)) (state_in w) → sections_from form u (suc n) cs room w ≡ stopped (why_in v)
  no-count v e = begins-with ∙ refused form u _ _ w v e

  module _ (w₁ : List ℕ) (k : ℕ) (ek : given w₁ (Some k) ≡ fields form u (grammar.number (grammar.up_to room)) (state_in w)) where
    counted : sections_from form u (suc n) cs room w ≡ run (fields form u) (ask (grammar.number grammar.client) (rest k)) (state_in w₁)
    counted = begins-with ∙ asked form u _ _ w w₁ k ek

    pub no-client : (v : List ℕ) → given v None ≡ fields form u (grammar.number grammar.client) (state_in w₁) → sections_from form u (suc n) cs room w ≡ stopped (why_in v)
    no-client v e = counted ∙ refused form u _ _ w₁ v e

    module _ (w₂ : List ℕ) (c : ℕ) (ec : given w₂ (Some c) ≡ fields form u (grammar.number grammar.client) (state_in w₁)) where
      named : sections_from form u (suc n) cs room w ≡ run (fields form u) (rest k (c, place_in w₂)) (state_in w₂)
      named = counted ∙ asked form u _ _ w₁ w₂ c ec

      pub again : among c cs ≡ true → sections_from form u (suc n) cs room w ≡ stopped (record { number = 4; place = place_in w₂ })
      unfolding run
      again h = named ∙ rw h refl

      module _ (new : among c cs ≡ false) where
        clocked : sections_from form u (suc n) cs room w ≡ run (fields form u) (ask (grammar.number (grammar.up_to max_clock)) (λ a. blocks k c a.0 >>= λ _. sections n (cs ++ (c ∷ [])) (room - k))) (state_in w₂)
        unfolding ◌>>=◌
        clocked = named ∙ rw new refl

        pub no-clock : (v : List ℕ) → given v None ≡ fields form u (grammar.number (grammar.up_to max_clock)) (state_in w₂) → sections_from form u (suc n) cs room w ≡ stopped (why_in v)
        no-clock v e = clocked ∙ refused form u _ _ w₂ v e

        pub headed : (w₃ : List ℕ) (t : ℕ) → given w₃ (Some t) ≡ fields form u (grammar.number (grammar.up_to max_clock)) (state_in w₂)
            → sections_from form u (suc n) cs room w ≡ run (fields form u) (blocks k c t >>= λ _. sections n (cs ++ (c ∷ [])) (room - k)) (state_in w₃)
        headed w₃ t e = clocked ∙ asked form u _ _ w₂ w₃ t e

-- ---- its client among those before

pub was-there : (c n : ℕ) (v w : List ℕ) (b : Bool) → Inserted c n v w b → b ≡ false → among c (clients_in (take n v)) ≡ true
unfolding Inserted
was-there c n v w b h e = subst (Inserted c n v w) e h

pub is-new : (c n : ℕ) (v w : List ℕ) (b : Bool) → Inserted c n v w b → b ≡ true → (among c (clients_in (take n v)) ≡ false) × (take (n + 1) w ≡ inserted_in c n (take n v))
unfolding Inserted
is-new c n v w b h e = subst (Inserted c n v w) e h
